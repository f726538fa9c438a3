-- The next numbers and the connections of passes in a record, and what a fold makes of them.
use Rattle.std.proofs.Common.{◌≡◌, ℕ, zero, suc, ◌+◌, ◌<◌, List, [], ◌∷◌, ◌++◌, length, map, replicate, refl, ap, ◌∙◌, arith}
use Rattle.std.specs.Prelude.{slice_index_or}
use Rattle.std.specs.List.{enumerate_from}
use Rattle.std.proofs.lemmas.List.{length-map, length-replicate}
use Rattle.std.proofs.lemmas.List.FromFn.{length-enumerate_from}
use Rattle.mpm_base.specs.declared.shape.Shape.{Shape}
use Rattle.conn_machine.specs.declared.event.Entry.{Entry}
use Rattle.conn_machine.specs.declared.folded.Folded.{Folded}
use Rattle.conn_machine.specs.declared.state.State.{State}
use Rattle.conn_machine.specs.Events.{count_events, is_close}
use Rattle.conn_machine.specs.Folds.{HasPlacesFor, HaveBegun, fold_of, opening_record}
use Rattle.conn_machine.specs.Runs.{after}
use Rattle.conn_machine.specs.States.{opening_state}

-- at first each has the same, also where it has no place
pub each_first : {X : Type 0} (passes p : ℕ) (d : X) → slice_index_or (replicate passes d) p d ≡ d
each_first zero p d = refl
each_first (suc n) zero d = refl
each_first (suc n) (suc p) d = each_first n p d

-- a fold leaves the places
pub places_after : (passes : ℕ) (base : State) (history : List Entry) (f : Folded) (lines : List ℕ) → HasPlacesFor passes f
    → HasPlacesFor passes (record (fold_of base history [] f) { lines = lines })
places_after passes base history f lines places = record {
  ordinals = length-map (enumerate_from 0 f.ordinals) _ ∙ length-enumerate_from 0 f.ordinals ∙ places.ordinals;
  rows = length-map (enumerate_from 0 f.rows) _ ∙ length-enumerate_from 0 f.rows ∙ places.rows;
}

-- and changes what each has by its number
each_from : {X : Type 0} (change : ℕ → X → X) (xs : List X) (first p : ℕ) (d : X) → p < length xs
    → slice_index_or (map (λ (q : ℕ × X). change q.0 q.1) (enumerate_from first xs)) p d ≡ change (first + p) (slice_index_or xs p d)
each_from change [] first p d lt = absurd (omega arith)
each_from change (x ∷ xs) first zero d lt = let e : first ≡ first + 0 = omega arith in ap (λ i. change i x) e
each_from change (x ∷ xs) first (suc p) d lt =
    let e : first + 1 + p ≡ first + suc p = omega arith in
    each_from change xs (first + 1) p d (omega arith) ∙ ap (λ i. change i (slice_index_or xs p d)) e

pub each_after : {X : Type 0} (change : ℕ → X → X) (xs : List X) (p : ℕ) (d : X) → p < length xs
    → slice_index_or (map (λ (q : ℕ × X). change q.0 q.1) (enumerate_from 0 xs)) p d ≡ change p (slice_index_or xs p d)
each_after change xs p d lt =
    let e : 0 + p ≡ p = omega arith in each_from change xs 0 p d lt ∙ ap (λ i. change i (slice_index_or xs p d)) e

-- ## One fold

-- two folds are one, where as many connections ended as the first one closed
abbrev pub TwiceIsOnce : Type 0
TwiceIsOnce =
    (base : State) (f : Folded) (a b : List Entry) (ended ended' : List (List ℕ)) → HaveBegun base f → length ended ≡ count_events is_close a
    → fold_of (after base a) b ended' (fold_of base a ended f) ≡ fold_of base (a ++ b) (ended ++ ended') f

-- the editions of the opening record have begun
abbrev pub BeginsBegun : Type 0
BeginsBegun = (s : State) (passes : ℕ) → HaveBegun s (opening_record passes)

-- where a server opens a fold of nothing is the opening record
abbrev pub NothingIsFolded : Type 0
NothingIsFolded =
    (slots children passes : ℕ) (shape : Shape) → fold_of (opening_state slots children shape) [] [] (opening_record passes) ≡ opening_record passes

-- the lines of a fold say nothing of all else
twice_but_lines : TwiceIsOnce → (base : State) (f : Folded) (a b : List Entry) (x y : List ℕ) → HaveBegun base f
    → record (fold_of (after base a) b [] (record (fold_of base a [] f) { lines = x })) { lines = y } ≡ record (fold_of base (a ++ b) [] f) { lines = y }
twice_but_lines twice base f a b x y begun =
    let ended : List (List ℕ) = replicate (count_events is_close a) [] in
    ap (λ (g : Folded). record g { lines = y }) (twice base f a b ended [] begun (length-replicate (count_events is_close a) []))

-- a record that is one fold but for its lines, and is folded on, is one fold of both
pub folded_on : TwiceIsOnce → (base : State) (f : Folded) (a b : List Entry) (found new : Folded) (start : State) → HaveBegun base f → start ≡ after base a
    → found ≡ record (fold_of base a [] f) { lines = found.lines } → new ≡ record (fold_of start b [] found) { lines = new.lines }
    → new ≡ record (fold_of base (a ++ b) [] f) { lines = new.lines }
folded_on twice base f a b found new start begun from was is =
    is ∙ ap (λ s. record (fold_of s b [] found) { lines = new.lines }) from
    ∙ ap (λ g. record (fold_of (after base a) b [] g) { lines = new.lines }) was
    ∙ twice_but_lines twice base f a b found.lines new.lines begun
