-- Generations begin in order, and those of live connections are in use.
use Rattle.std.proofs.Common.{◌≡◌, ◌==◌, ℕ, ◌+◌, Bool, true, false, not, cond, List, [], ◌∷◌, ◌++◌, filter, length, map, Some, slice_get, refl, sym, ap, subst, ◌∙◌, append-nil, arith}
use Rattle.std.specs.List.{enumerate_from, find, list_any, range_with_len}
use Rattle.std.proofs.lemmas.Bool.{and_from, both_ways, eq-eqb, eqb-true, not_from_false, or_right}
use Rattle.std.proofs.lemmas.List.Folds.{list_any_at}
use Rattle.conn_machine.specs.declared.event.Entry.{Entry}
use Rattle.conn_machine.specs.declared.event.Event.{Event}
use Rattle.conn_machine.specs.declared.folded.Edition.{Edition}
use Rattle.conn_machine.specs.declared.row.Row.{Row}
use Rattle.conn_machine.specs.declared.state.State.{State}
use Rattle.conn_machine.specs.Children.{is_empty, no_child}
use Rattle.conn_machine.specs.Events.{begins_generation, count_events, is_order, is_refused_entry}
use Rattle.conn_machine.specs.Folds.{begun_editions, is_child_of, is_in_use, orders_from}
use Rattle.conn_machine.specs.Generations.{GenerationsBeginInOrder, next_edition}
use Rattle.conn_machine.specs.Rows.{is_live}
use Rattle.conn_machine.specs.Sound.{IsSound}
use Rattle.conn_machine.specs.States.{child_of}
use Rattle.conn_machine.specs.Table.{next}
use Rattle.conn_machine.proofs.CountLemmas.{one_if}
use Rattle.conn_machine.proofs.EditionLemmas.{begun-append, begun_orders, edition_of, is_begun_by, newest_after, newest_next, used_after}

-- ## How generations begin

-- editions that are numbered on are of the next generations, in their order
numbered_on : (n : ℕ) (xs : List (ℕ × Entry))
    → map (λ (e : Edition). e.generation) (map edition_of (enumerate_from n xs)) ≡ range_with_len n (length xs)
numbered_on n [] = refl
numbered_on n (x ∷ xs) = ap (λ (ns : List ℕ). n ∷ ns) (numbered_on (n + 1) xs)

-- so those that begin in a history are
begun_in_order : (base : State) (history : List Entry) (orders : ℕ)
    → map (λ (e : Edition). e.generation) (begun_editions base.newest orders history)
    ≡ range_with_len (base.newest + 1) (count_events begins_generation history)
begun_in_order base history orders =
    numbered_on (base.newest + 1) (filter is_begun_by (orders_from (orders + 1) history))
    ∙ ap (range_with_len (base.newest + 1)) (begun_orders (orders + 1) history)

-- the edition of so many generations and orders
abbrev edition : ℕ → ℕ → Edition
edition newest orders = record { generation = newest + 1; edition = orders + 1 }

-- one entry begins one generation at most
one_begun : (newest orders : ℕ) (e : Entry)
    → begun_editions newest orders (e ∷ []) ≡ cond (begins_generation e.event) (edition newest orders ∷ []) []
one_begun newest orders e = by (begins_generation e.event) (is_refused_entry e.event) refl refl
  where
    by : (begins refused : Bool) → begins_generation e.event ≡ begins → is_refused_entry e.event ≡ refused
        → begun_editions newest orders (e ∷ []) ≡ cond (begins_generation e.event) (edition newest orders ∷ []) []
    by true refused is also = rw (is, is) refl
    by false true is also = rw (is, also, is) refl
    by false false is also = rw (is, also) refl

-- a list with one more item behind it, where there is one
with_last : {X : Type 0} (xs : List X) (x : X) (last : Bool) → xs ++ cond last (x ∷ []) [] ≡ cond last (xs ++ x ∷ []) xs
with_last xs x true = refl
with_last xs x false = append-nil xs

-- so one entry more adds one edition at most
one_more_begun : (base : State) (history : List Entry) (orders : ℕ) (e : Entry)
    → begun_editions base.newest orders (history ++ e ∷ [])
    ≡ cond (begins_generation e.event)
    (begun_editions base.newest orders history ++ next_edition base history orders ∷ [])
    (begun_editions base.newest orders history)
one_more_begun base history orders e =
    let before : List Edition = begun_editions base.newest orders history in
    let ordered : ℕ = orders + count_events is_order history in
    begun-append base.newest orders history (e ∷ [])
    ∙ ap (λ (l : List Edition). before ++ l) (one_begun (base.newest + count_events begins_generation history) ordered e)
    ∙ ap (λ (n : ℕ). before ++ cond (begins_generation e.event) (edition n ordered ∷ []) []) (sym (newest_after base history))
    ∙ with_last before (next_edition base history orders) (begins_generation e.event)

-- an event that begins no generation leaves the newest one
newest_stays : (s : State) (e : Event) → begins_generation e ≡ false → (next s e).newest ≡ s.newest
newest_stays s e begins =
    let none : one_if (begins_generation e) ≡ 0 = rw begins refl in
    omega (arith, none, newest_next s e)

-- ## Generations in use

-- the child of a live row is there, and of the row's generation
live_in_use : (s : State) (slot : ℕ) (r : Row) → IsSound s → slice_get s.rows slot ≡ Some r → is_live r ≡ true
    → is_in_use s r.generation ≡ true
live_in_use s slot r sound at live =
    let owned = sound.owners slot r at live in
    let there : is_child_of r.generation (child_of s r) ≡ true =
    and_from (not (is_empty (child_of s r).phase)) ((child_of s r).generation == r.generation)
    (not_from_false (is_empty (child_of s r).phase) owned.there)
    (eq-eqb (child_of s r).generation r.generation (sym owned.generation)) in
    or_right (r.generation == s.newest) (list_any (is_child_of r.generation) s.children)
    (list_any_at (is_child_of r.generation) s.children r.child no_child owned.exists there)

-- what is found in a list is found in what is kept of it, where all that may be found is kept
found_kept : {X : Type 0} (test keep : X → Bool) → ((x : X) → test x ≡ true → keep x ≡ true) → (xs : List X)
    → find test (filter keep xs) ≡ find test xs
found_kept test keep keeps [] = refl
found_kept test keep keeps (x ∷ xs) = by (test x) (keep x) refl refl (found_kept test keep keeps xs)
  where
    by : (passes kept : Bool) → test x ≡ passes → keep x ≡ kept → find test (filter keep xs) ≡ find test xs
        → find test (filter keep (x ∷ xs)) ≡ find test (x ∷ xs)
    by true true is stays rest = rw (stays, is) refl
    by true false is goes rest = absurd (both_ways (keep x) goes (keeps x is))
    by false true is stays rest = rw (stays, is) rest
    by false false is goes rest = rw (goes, is) rest

-- so the edition of a generation that is in use is
edition_kept : (s : State) (g : ℕ) (editions : List Edition) → is_in_use s g ≡ true
    → find (λ (e : Edition). e.generation == g) (filter (λ (e : Edition). is_in_use s e.generation) editions)
    ≡ find (λ (e : Edition). e.generation == g) editions
edition_kept s g editions used =
    found_kept (λ (e : Edition). e.generation == g) (λ (e : Edition). is_in_use s e.generation)
    (λ e same. subst (λ (n : ℕ). is_in_use s n ≡ true) (sym (eqb-true e.generation g same)) used) editions

-- ## The law

pub generations_begin : GenerationsBeginInOrder
generations_begin = record {
  begun = begun_in_order;
  newest = newest_after;
  used = used_after;
  one_more = one_more_begun;
  begins = λ s shape. refl;
  stays = newest_stays;
  live = live_in_use;
  kept_in_use = edition_kept;
}
