-- For which causes the connections of a run ended.
use Rattle.std.proofs.Common.{◌≡◌, ◌==◌, ◌+◌, Bool, true, false, cond, List, [], ◌∷◌, ◌++◌, replicate, slice_index, refl, sym, ap, subst, ◌∙◌, eq-eqb, arith}
use Rattle.std.proofs.lemmas.Bool.{both_ways, or_from, or_parts}
use Rattle.std.proofs.lemmas.List.Folds.{list_any-append}
use Rattle.std.proofs.lemmas.List.Sums.{sum_by-cons}
use Rattle.std.specs.List.{list_any}
use Rattle.mpm_base.specs.Cause.{cause_number}
use Rattle.mpm_base.specs.declared.conn.Cause.{Cause}
use Rattle.mpm_base.specs.declared.conn.Cause.TheVariants as cause
use Rattle.mpm_base.specs.declared.conn.ConnName.{ConnName}
use Rattle.mpm_base.specs.declared.conn.Tail.{Tail}
use Rattle.conn_machine.specs.declared.event.Entry.{Entry}
use Rattle.conn_machine.specs.declared.event.Event.{Event}
use Rattle.conn_machine.specs.declared.event.Event.TheVariants as event
use Rattle.conn_machine.specs.declared.folded.Folded.{Folded}
use Rattle.conn_machine.specs.declared.state.State.{State}
use Rattle.conn_machine.specs.Events.{count_events, is_close_for}
use Rattle.conn_machine.specs.Folds.{causes_after}
use Rattle.conn_machine.specs.Table.{next}
use Rattle.conn_state.specs.Answered.{SeenEnded}
use Rattle.board.specs.Board.{AreClosed, ClosesFirst}
use Rattle.board_book.specs.Book.{SeenBook}
use Rattle.listener_round.specs.Folded.{HasFolded}
use Rattle.listener_round.specs.declared.run_numbers.RunNumbers.{RunNumbers}
use Rattle.run_laws.specs.Undisturbed.{ended_for}

-- ## Each of the connections

-- this holds of each of them
abbrev pub Each : (SeenEnded → Type 0) → List SeenEnded → Type 0
Each P [] = Unit {0}
Each P (e ∷ ended) = P e × Each P ended

-- ## Counts

-- an event that isn't counted isn't there
none-by : (test : Event → Bool) (e : Entry) (history : List Entry) (b : Bool) → test e.event ≡ b → cond (test e.event) 1 0 + count_events test history ≡ 0
    → (count_events test history ≡ 0 → list_any (λ (x : Entry). test x.event) history ≡ false) → list_any (λ (x : Entry). test x.event) (e ∷ history) ≡ false
none-by test e history true is zero rest = let one = ap (λ (b : Bool). cond b 1 0 + 0) is in absurd (omega (arith, one, zero))
none-by test e history false is zero rest =
    let none : count_events test history ≡ 0 = let many = ap (λ (b : Bool). cond b 1 0 + 0) is in omega (arith, many, zero) in
    rw is (rest none)

pub none-counted : (test : Event → Bool) (history : List Entry) → count_events test history ≡ 0 → list_any (λ (e : Entry). test e.event) history ≡ false
none-counted test [] none = refl
none-counted test (e ∷ history) none =
    none-by test e history (test e.event) refl (sym (sum_by-cons (λ (x : Entry). cond (test x.event) 1 0) e history) ∙ none)
    (λ zero. none-counted test history zero)

-- what a record that counts a history from none on counts of a cause is how often the history closes for it
causes-at : (entries : List Entry) (why : Cause) → slice_index (causes_after entries (replicate 9 0)) (cause_number why) ≡ count_events (is_close_for why) entries
causes-at entries cause.ClientDone = omega arith
causes-at entries cause.LastSent = omega arith
causes-at entries cause.KeepAliveLate = omega arith
causes-at entries cause.ReadLate = omega arith
causes-at entries cause.WriteLate = omega arith
causes-at entries cause.Retiring = omega arith
causes-at entries cause.LinkFailed = omega arith
causes-at entries cause.Stopped = omega arith
causes-at entries cause.NoMemory = omega arith

-- so where a run counts none no entry closes for it
pub none-ended : (n : RunNumbers) (b : SeenBook) (f : HasFolded n b) (why : Cause) → ended_for why b ≡ 0
    → list_any (λ (e : Entry). is_close_for why e.event) (f.entries ++ b.history) ≡ false
none-ended n b f why none =
    let before : slice_index b.folded.causes (cause_number why) ≡ count_events (is_close_for why) f.entries =
    ap (λ (r : Folded). slice_index r.causes (cause_number why)) f.record_is ∙ causes-at f.entries why in
    list_any-append (λ (e : Entry). is_close_for why e.event) f.entries b.history
    ∙ or_from (list_any (λ (e : Entry). is_close_for why e.event) f.entries) (list_any (λ (e : Entry). is_close_for why e.event) b.history)
    (none-counted (is_close_for why) f.entries (omega (arith, before, none)))
    (none-counted (is_close_for why) b.history (omega (arith, before, none)))

-- ## The connections that are closed

-- a connection that is closed for another cause ended for another one
other-cause : (why reason : Cause) (name : ConnName) (how : Tail) → is_close_for why (event.Close name reason how) ≡ false → (reason ≡ why → ⊥)
other-cause why reason name how other is =
    both_ways (cause_number reason == cause_number why) other (eq-eqb (cause_number reason) (cause_number why) (ap cause_number is))

-- so it is of the first of them, where an event closes one
none-first : (why : Cause) (s : State) (e : Event) (ended : List SeenEnded) (Others : List SeenEnded → Type 0) → is_close_for why e ≡ false
    → ClosesFirst s e Others ended → ((es : List SeenEnded) → Others es → Each (λ x. x.cause ≡ why → ⊥) es) → Each (λ x. x.cause ≡ why → ⊥) ended
none-first why s (event.Close name reason how) [] Others other closes rest = absurd closes
none-first why s (event.Close name reason how) (x ∷ ended) Others other closes rest =
    (λ is. other-cause why reason name how other (sym closes.0.cause ∙ is), rest ended closes.1)
none-first why s (event.Accept slot) ended Others other closes rest = rest ended closes
none-first why s (event.Park name kind) ended Others other closes rest = rest ended closes
none-first why s (event.Hold name) ended Others other closes rest = rest ended closes
none-first why s (event.Queue name) ended Others other closes rest = rest ended closes
none-first why s (event.Start name) ended Others other closes rest = rest ended closes
none-first why s (event.Answer name ask) ended Others other closes rest = rest ended closes
none-first why s (event.Linger name reason) ended Others other closes rest = rest ended closes
none-first why s (event.Ready slot) ended Others other closes rest = rest ended closes
none-first why s (event.Tick m) ended Others other closes rest = rest ended closes
none-first why s (event.StartChild k) ended Others other closes rest = rest ended closes
none-first why s (event.Command c) ended Others other closes rest = rest ended closes
none-first why s (event.Retire k) ended Others other closes rest = rest ended closes

-- none ended for a cause for which no entry closes one
pub none-for : (why : Cause) (s : State) (entries : List Entry) (ended : List SeenEnded) → list_any (λ (e : Entry). is_close_for why e.event) entries ≡ false
    → AreClosed s entries ended → Each (λ e. e.cause ≡ why → ⊥) ended
none-for why s [] ended none closed = subst (Each (λ e. e.cause ≡ why → ⊥)) (sym closed) tt
none-for why s (entry ∷ entries) ended none closed =
    let parts = or_parts (is_close_for why entry.event) (list_any (λ (e : Entry). is_close_for why e.event) entries) none in
    none-first why s entry.event ended (λ (es : List SeenEnded). AreClosed (next s entry.event) entries es) parts.0 closed
    (λ es more. none-for why (next s entry.event) entries es parts.1 more)
