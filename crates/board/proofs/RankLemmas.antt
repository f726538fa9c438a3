-- The ranks of the links of connections that ended, and the arrivals of the connections that a history closed.
use Rattle.std.proofs.Common.{◌≡◌, ℕ, ◌+◌, Bool, true, false, ◌||◌, ◌==◌, cond, List, [], ◌∷◌, ◌++◌, count_by, Option, None, Some, IfSome, refl, sym, ap, subst, ◌∙◌, arith}
use Rattle.std.specs.List.{list_any}
use Rattle.std.specs.Option.{option_map_or}
use Rattle.std.proofs.lemmas.Bool.{and_left}
use Rattle.std.proofs.lemmas.List.Concat.{flat_map-cons}
use Rattle.std.proofs.lemmas.List.Sums.{sum_by-append, sum_by-cons}
use Rattle.mpm_base.specs.Link.{LinkTold}
use Rattle.conn_machine.specs.declared.row.Row.{Row}
use Rattle.conn_machine.specs.declared.event.Event.{Event}
use Rattle.conn_machine.specs.declared.event.Event.TheVariants as event
use Rattle.conn_machine.specs.declared.event.Entry.{Entry}
use Rattle.conn_machine.specs.declared.state.State.{State}
use Rattle.conn_machine.specs.Arrivals.{arrival_count, arrival_in, closed_arrival, closed_arrivals, has_arrival}
use Rattle.conn_machine.specs.Rows.{is_live}
use Rattle.conn_machine.specs.Table.{next}
use Rattle.conn_machine.specs.Runs.{after}
use Rattle.conn_state.specs.Answered.{SeenEnded}
use Rattle.board.specs.Board.{AreClosed, ClosesFirst}
use Rattle.board.specs.Ranks.{AllTell, has_rank, rank_told, ranks_of}

-- ## Ranks and arrivals

-- a link that tells this rank tells it
rank_of_told : (o : Option LinkTold) (t : LinkTold) (n : ℕ) → o ≡ Some t → IfSome o (λ t. t.rank ≡ n) → rank_told o ≡ n ∷ []
rank_of_told o t n is rank =
    let same : t.rank ≡ n = subst (λ (x : Option LinkTold). IfSome x (λ u. u.rank ≡ n)) is rank in
    ap rank_told is ∙ ap (λ (m : ℕ). m ∷ []) same

-- the first rank is that of the connection that the event closes, where it closes one
ranks_first : (s : State) (e : Event) (Others : List SeenEnded → Type 0) (ended : List SeenEnded) (arrivals : List ℕ) → ClosesFirst s e Others ended → AllTell ended
    → ((others : List SeenEnded) → Others others → AllTell others → ranks_of others ≡ arrivals) → ranks_of ended ≡ closed_arrival s e ++ arrivals
ranks_first s (event.Close name why how) Others [] arrivals closes tell rest = absurd closes
ranks_first s (event.Close name why how) Others (x ∷ ended) arrivals closes tell rest =
    let (t, told) = tell.0 in
    let first : rank_told x.told ≡ arrival_in (Some closes.0.row) = rank_of_told x.told t closes.0.row.arrival told closes.0.rank in
    flat_map-cons (λ (y : SeenEnded). rank_told y.told) x ended ∙ ap (λ ns. ns ++ ranks_of ended) (first ∙ ap arrival_in (sym closes.0.found))
    ∙ ap (λ ns. closed_arrival s (event.Close name why how) ++ ns) (rest ended closes.1 tell.1)
ranks_first s (event.Accept slot) Others ended arrivals closes tell rest = rest ended closes tell
ranks_first s (event.Park name kind) Others ended arrivals closes tell rest = rest ended closes tell
ranks_first s (event.Hold name) Others ended arrivals closes tell rest = rest ended closes tell
ranks_first s (event.Queue name) Others ended arrivals closes tell rest = rest ended closes tell
ranks_first s (event.Start name) Others ended arrivals closes tell rest = rest ended closes tell
ranks_first s (event.Answer name ask) Others ended arrivals closes tell rest = rest ended closes tell
ranks_first s (event.Linger name cause) Others ended arrivals closes tell rest = rest ended closes tell
ranks_first s (event.Ready slot) Others ended arrivals closes tell rest = rest ended closes tell
ranks_first s (event.Tick m) Others ended arrivals closes tell rest = rest ended closes tell
ranks_first s (event.StartChild k) Others ended arrivals closes tell rest = rest ended closes tell
ranks_first s (event.Command c) Others ended arrivals closes tell rest = rest ended closes tell
ranks_first s (event.Retire k) Others ended arrivals closes tell rest = rest ended closes tell

-- the ranks are the arrivals of the connections that the history closed
pub ranks_are_arrivals : (s : State) (history : List Entry) (ended : List SeenEnded) → AreClosed s history ended → AllTell ended
    → ranks_of ended ≡ closed_arrivals s history
ranks_are_arrivals s [] ended closed tell = rw closed refl
ranks_are_arrivals s (x ∷ history) ended closed tell =
    ranks_first s x.event (AreClosed (next s x.event) history) ended (closed_arrivals (next s x.event) history) closed tell
    (λ others closes tells. ranks_are_arrivals (next s x.event) history others closes tells)

-- ## How often a rank stands there

-- a rank is in the list of one link as often as the link has it
rank_once : (n : ℕ) (o : Option LinkTold) → count_by (λ m. m == n) (rank_told o) ≡ cond (option_map_or (λ t. t.rank == n) o false) 1 0
rank_once n None = refl
rank_once n (Some t) = sum_by-cons (λ (m : ℕ). cond (m == n) 1 0) t.rank [] ∙ omega arith

-- as many connections have a rank as it stands among theirs
rank_times : (n : ℕ) (ended : List SeenEnded) → count_by (has_rank n) ended ≡ count_by (λ m. m == n) (ranks_of ended)
rank_times n [] = refl
rank_times n (e ∷ ended) =
    let one : count_by (has_rank n) (e ∷ ended) ≡ cond (has_rank n e) 1 0 + count_by (has_rank n) ended =
    sum_by-cons (λ (x : SeenEnded). cond (has_rank n x) 1 0) e ended in
    let both : count_by (λ m. m == n) (ranks_of (e ∷ ended)) ≡ count_by (λ m. m == n) (rank_told e.told) + count_by (λ m. m == n) (ranks_of ended) =
    ap (λ ns. count_by (λ m. m == n) ns) (flat_map-cons (λ (y : SeenEnded). rank_told y.told) e ended)
    ∙ sum_by-append (λ (m : ℕ). cond (m == n) 1 0) (rank_told e.told) (ranks_of ended) in
    omega (arith, one, both, rank_once n e.told, rank_times n ended)

-- ## Where no connection is live

none_first : (n : ℕ) (r : Row) (rows : List Row) (live : Bool) → is_live r ≡ live → (live || list_any is_live rows) ≡ false
    → (list_any is_live rows ≡ false → count_by (has_arrival n) rows ≡ 0) → count_by (has_arrival n) (r ∷ rows) ≡ 0
none_first n r rows true is none rest = absurd (cc)
none_first n r rows false is none rest =
    sum_by-cons (λ (x : Row). cond (has_arrival n x) 1 0) r rows ∙ rw (and_left (is_live r) (r.arrival == n) is) (omega (arith, rest none))

-- none has an arrival
none_live : (n : ℕ) (rows : List Row) → list_any is_live rows ≡ false → count_by (has_arrival n) rows ≡ 0
none_live n [] none = refl
none_live n (r ∷ rows) none = none_first n r rows (is_live r) refl none (none_live n rows)

-- ## Connections that ended

-- as many have a rank as connections were closed that have that arrival
has_times : (s : State) (history : List Entry) (ended : List SeenEnded) (n : ℕ) → AreClosed s history ended → AllTell ended
    → count_by (has_rank n) ended ≡ count_by (λ m. m == n) (closed_arrivals s history)
has_times s history ended n closed tell =
    rank_times n ended ∙ ap (λ ns. count_by (λ m. m == n) ns) (ranks_are_arrivals s history ended closed tell)

-- so it is where no connection is live in the end
pub rank_where_none_live : (s : State) (history : List Entry) (ended : List SeenEnded) (n count : ℕ) → AreClosed s history ended → AllTell ended
    → list_any is_live (after s history).rows ≡ false → arrival_count s history n ≡ count → count_by (has_rank n) ended ≡ count
rank_where_none_live s history ended n count closed tell none is =
    omega (arith, is, none_live n (after s history).rows none, has_times s history ended n closed tell)

-- a rank is of none where that arrival is of none
pub rank_of_none : (s : State) (history : List Entry) (ended : List SeenEnded) (n : ℕ) → AreClosed s history ended → AllTell ended
    → arrival_count s history n ≡ 0 → count_by (has_rank n) ended ≡ 0
rank_of_none s history ended n closed tell is = omega (arith, is, has_times s history ended n closed tell)
