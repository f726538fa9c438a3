-- What records say of passes: the opening one, and the one that a fold makes.
use Rattle.std.proofs.Common.{◌≡◌, ◌↔◌, ℕ, zero, suc, ◌+◌, ◌≤◌, List, [], ◌∷◌, ◌++◌, length, map, replicate, Option, None, slice_index_or, refl, sym, ap, ◌∙◌, length-append, arith}
use Rattle.std.specs.Prelude.{slice_index}
use Rattle.std.specs.List.{enumerate_from}
use Rattle.std.proofs.lemmas.List.{length-map}
use Rattle.std.proofs.lemmas.List.FromFn.{length-enumerate_from}
use Rattle.std.proofs.lemmas.List.Sums.{fold-append}
use Rattle.mpm_base.specs.declared.conn.ConnName.{ConnName}
use Rattle.conn_machine.specs.declared.event.Entry.{Entry}
use Rattle.conn_machine.specs.declared.folded.Folded.{Folded}
use Rattle.conn_machine.specs.declared.state.State.{State}
use Rattle.conn_machine.specs.Table.{is_allowed, reply}
use Rattle.conn_machine.specs.Runs.{IsNextOf, after, entries_of, first_row, has_after, may_make, row_after, row_from, row_of}
use Rattle.conn_machine.specs.Folds.{GoesOnFrom, HasPlacesFor, fold_of, opening_record}
use Rattle.conn_machine.specs.Made.{AreOfPasses}
use Rattle.conn_machine.proofs.HistoryLemmas.{entries_of-append}
use Rattle.conn_machine.proofs.RunLemmas.{after-append}

-- ## The opening record

same_each : {X : Type 0} (n p : ℕ) (d : X) → slice_index_or (replicate n d) p d ≡ d
same_each zero p d = refl
same_each (suc n) zero d = refl
same_each (suc n) (suc p) d = same_each n p d

-- the next number of each pass is 0
pub none_numbered : (passes p : ℕ) → slice_index (opening_record passes).ordinals p ≡ 0
none_numbered passes p = same_each passes p 0

-- and none has a connection
pub no_row_at_first : (passes p : ℕ) → first_row (opening_record passes) p ≡ None
no_row_at_first passes p = same_each passes p None

-- so what is behind it is a whole history
pub row_at_first : (passes p : ℕ) (history : List Entry) → row_from (opening_record passes) p history ≡ row_of p history
row_at_first passes p history = ap (λ (had : Option ConnName). row_after had (entries_of p history)) (no_row_at_first passes p)

each_counts : {X : Type 0} (n : ℕ) (d : X) → length (replicate n d) ≡ n
each_counts zero d = refl
each_counts (suc n) d = ap suc (each_counts n d)

pub opening_places : (passes : ℕ) → HasPlacesFor passes (opening_record passes)
opening_places passes = record { ordinals = each_counts passes 0; rows = each_counts passes None }

-- ## Places

behind_end : {X : Type 0} (xs : List X) (p : ℕ) (d : X) → length xs ≤ p → slice_index_or xs p d ≡ d
behind_end [] p d past = refl
behind_end (x ∷ xs) zero d past = absurd (omega (arith, past))
behind_end (x ∷ xs) (suc p) d past = behind_end xs p d (omega (arith, past))

-- a pass without a place has no connection
pub no_row_behind : (passes : ℕ) (f : Folded) (p : ℕ) → HasPlacesFor passes f → passes ≤ p → first_row f p ≡ None
no_row_behind passes f p places past = behind_end f.rows p None (omega (arith, places.rows, past))

-- ## A fold

-- each item is changed by its place, also behind the end, where the change leaves the default
each_from : {X : Type 0} (change : ℕ → X → X) (xs : List X) (first p : ℕ) (d : X) → (length xs ≤ p → change (first + p) d ≡ d)
    → slice_index_or (map (λ (q : ℕ × X). change q.0 q.1) (enumerate_from first xs)) p d ≡ change (first + p) (slice_index_or xs p d)
each_from change [] first p d ends = sym (ends (omega arith))
each_from change (x ∷ xs) first zero d ends = let e : first ≡ first + 0 = omega arith in ap (λ (q : ℕ). change q x) e
each_from change (x ∷ xs) first (suc p) d ends =
    let e : first + 1 + p ≡ first + suc p = omega arith in
    each_from change xs (first + 1) p d (λ past. ap (λ (q : ℕ). change q d) e ∙ ends (omega (arith, past)))
    ∙ ap (λ (q : ℕ). change q (slice_index_or xs p d)) e

each_after : {X : Type 0} (change : ℕ → X → X) (xs : List X) (p : ℕ) (d : X) → (length xs ≤ p → change p d ≡ d)
    → slice_index_or (map (λ (q : ℕ × X). change q.0 q.1) (enumerate_from 0 xs)) p d ≡ change p (slice_index_or xs p d)
each_after change xs p d ends =
    let e : 0 + p ≡ p = omega arith in
    each_from change xs 0 p d (λ past. ap (λ (q : ℕ). change q d) e ∙ ends past) ∙ ap (λ (q : ℕ). change q (slice_index_or xs p d)) e

-- what a fold makes of a record goes on from it, for each pass
pub goes_on : (passes : ℕ) (base : State) (f : Folded) (history : List Entry) (ended : List (List ℕ)) (p : ℕ) → HasPlacesFor passes f
    → AreOfPasses passes history → GoesOnFrom p f history (fold_of base history ended f)
goes_on passes base f history ended p places few = record {
  ordinal = each_after (λ q n. n + length (entries_of q history)) f.ordinals p 0 (λ past. ap (λ (es : List Entry). 0 + length es) (few p (omega (arith, places.ordinals, past))));
  row = each_after (λ q had. row_after had (entries_of q history)) f.rows p None (λ past. ap (row_after None) (few p (omega (arith, places.rows, past))));
}

-- and has as many places
pub places_stay : (passes : ℕ) (base : State) (f : Folded) (history : List Entry) (ended : List (List ℕ)) → HasPlacesFor passes f
    → HasPlacesFor passes (fold_of base history ended f)
places_stay passes base f history ended places = record {
  ordinals = length-map (enumerate_from 0 f.ordinals) _ ∙ length-enumerate_from 0 f.ordinals ∙ places.ordinals;
  rows = length-map (enumerate_from 0 f.rows) _ ∙ length-enumerate_from 0 f.rows ∙ places.rows;
}

-- ## What a pass may make behind it

-- the connection of a pass behind two histories
pub row_on : (p : ℕ) (f later : Folded) (history rest : List Entry) → GoesOnFrom p f history later
    → row_from f p (history ++ rest) ≡ row_from later p rest
row_on p f later history rest goes =
    ap (row_after (first_row f p)) (entries_of-append p history rest)
    ∙ fold-append (λ had x. has_after had x.event x.reply) (first_row f p) (entries_of p history) (entries_of p rest)
    ∙ ap (λ (had : Option ConnName). row_after had (entries_of p rest)) (sym goes.row)

-- its next number there
ordinal_on : (p : ℕ) (f later : Folded) (history rest : List Entry) → GoesOnFrom p f history later
    → slice_index f.ordinals p + length (entries_of p (history ++ rest)) ≡ slice_index later.ordinals p + length (entries_of p rest)
ordinal_on p f later history rest goes =
    let long : length (entries_of p (history ++ rest)) ≡ length (entries_of p history) + length (entries_of p rest) =
    ap length (entries_of-append p history rest) ∙ length-append (entries_of p history) (entries_of p rest) in
    omega (arith, long, goes.ordinal)

-- a record goes on from itself, and through two histories
pub goes_same : (p : ℕ) (f : Folded) → GoesOnFrom p f [] f
goes_same p f = record { ordinal = omega arith; row = refl }

pub goes_twice : (p : ℕ) (f later last : Folded) (a b : List Entry) → GoesOnFrom p f a later → GoesOnFrom p later b last → GoesOnFrom p f (a ++ b) last
goes_twice p f later last a b first second = record {
  ordinal = second.ordinal ∙ sym (ordinal_on p f later a b first);
  row = second.row ∙ sym (row_on p f later a b first);
}

-- what a pass may make behind two histories it may make behind the second, by a record that goes on from the first, and the other way round
pub next_goes_on : (p : ℕ) (base : State) (f later : Folded) (history rest : List Entry) (e : Entry) → GoesOnFrom p f history later
    → IsNextOf p base f (history ++ rest) e ↔ IsNextOf p (after base history) later rest e
next_goes_on p base f later history rest e goes = (forth, back)
  where
    state : after base (history ++ rest) ≡ after (after base history) rest
    state = after-append base history rest

    role : may_make p (row_from f p (history ++ rest)) e.event ≡ may_make p (row_from later p rest) e.event
    role = ap (λ (had : Option ConnName). may_make p had e.event) (row_on p f later history rest goes)

    forth : IsNextOf p base f (history ++ rest) e → IsNextOf p (after base history) later rest e
    forth is = record {
      pass = is.pass;
      ordinal = is.ordinal ∙ ordinal_on p f later history rest goes;
      is_allowed = ap (λ (s : State). is_allowed s e.event) (sym state) ∙ is.is_allowed;
      replied = is.replied ∙ ap (λ (s : State). reply s e.event) state;
      role = sym role ∙ is.role;
    }

    back : IsNextOf p (after base history) later rest e → IsNextOf p base f (history ++ rest) e
    back is = record {
      pass = is.pass;
      ordinal = is.ordinal ∙ sym (ordinal_on p f later history rest goes);
      is_allowed = ap (λ (s : State). is_allowed s e.event) state ∙ is.is_allowed;
      replied = is.replied ∙ ap (λ (s : State). reply s e.event) (sym state);
      role = role ∙ is.role;
    }
