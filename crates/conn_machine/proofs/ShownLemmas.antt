-- The letters of a status page, one cell and one child at a time, and the row whose worker goes on while a page is made.
use Rattle.std.proofs.Common.{◌≡◌, ℕ, zero, suc, ◌+◌, ◌<◌, List, [], ◌∷◌, ◌++◌, length, take, map, flat_map, get_or, slice_get, Some, refl, sym, ap, ◌∙◌, subst, add-zero, append_assoc, append-nil, arith}
use Rattle.std.specs.List.{enumerate_from, range_with_len}
use Rattle.std.proofs.lemmas.List.{map-append}
use Rattle.conn_machine.specs.declared.row.Phase.{Phase}
use Rattle.conn_machine.specs.declared.row.Place.{Place}
use Rattle.conn_machine.specs.declared.row.Place.TheVariants.{Working}
use Rattle.conn_machine.specs.declared.row.Row.{Row}
use Rattle.conn_machine.specs.declared.state.State.{State}
use Rattle.conn_machine.specs.Lists.{update}
use Rattle.conn_machine.specs.Rows.{in_phase}
use Rattle.conn_machine.proofs.SizeLemmas.{length-update}
use Rattle.conn_machine.proofs.RunLemmas.{range_with_len-snoc}

-- the letters of the first so many cells behind others, one letter longer
pub letter_more : (letter : ℕ → ℕ) (start made made' : List ℕ) (i l : ℕ) → made' ≡ made ++ l ∷ [] → made ≡ start ++ map letter (range_with_len 0 i) → l ≡ letter i
    → made' ≡ start ++ map letter (range_with_len 0 (i + 1))
letter_more letter start made made' i l pushed before is =
    let snoc : range_with_len 0 (i + 1) ≡ range_with_len 0 i ++ i ∷ [] =
    subst (λ (n : ℕ). range_with_len 0 (i + 1) ≡ range_with_len 0 i ++ n ∷ []) (omega arith) (range_with_len-snoc 0 i) in
    let more : map letter (range_with_len 0 (i + 1)) ≡ map letter (range_with_len 0 i) ++ letter i ∷ [] =
    ap (map letter) snoc ∙ map-append letter (range_with_len 0 i) (i ∷ []) in
    pushed ∙ ap (λ (ls : List ℕ). ls ++ l ∷ []) before ∙ append_assoc start (map letter (range_with_len 0 i)) (l ∷ [])
    ∙ ap (λ (x : ℕ). start ++ (map letter (range_with_len 0 i) ++ x ∷ [])) is ∙ ap (λ (ls : List ℕ). start ++ ls) (sym more)

-- what is made of the items of a list with their places, one item longer
enumerate_flat : {X Y : Type 0} (f : ℕ × X → List Y) (n : ℕ) (xs : List X) (i : ℕ) (d : X) → i < length xs
    → flat_map f (enumerate_from n (take (i + 1) xs)) ≡ flat_map f (enumerate_from n (take i xs)) ++ f (n + i, get_or xs i d)
enumerate_flat f n [] i d below = absurd (omega arith)
enumerate_flat f n (x ∷ xs) zero d below = rw (add-zero, append-nil) refl
enumerate_flat {X} {Y} f n (x ∷ xs) (suc i) d below =
    let step = enumerate_flat f (n + 1) xs i d (omega arith) in
    let e : n + 1 + i ≡ n + suc i = omega arith in
    let step' : flat_map f (enumerate_from (n + 1) (take (i + 1) xs)) ≡ flat_map f (enumerate_from (n + 1) (take i xs)) ++ f (n + suc i, get_or xs i d) =
    subst (λ (m : ℕ). flat_map f (enumerate_from (n + 1) (take (i + 1) xs)) ≡ flat_map f (enumerate_from (n + 1) (take i xs)) ++ f (m, get_or xs i d)) e step in
    let s : suc i + 1 ≡ suc (i + 1) = omega arith in
    rw s (ap (λ (ys : List Y). f (n, x) ++ ys) step' ∙ sym (append_assoc (f (n, x)) (flat_map f (enumerate_from (n + 1) (take i xs))) (f (n + suc i, get_or xs i d))))

-- the same of a list that was made so far
pub letters_more : {X Y : Type 0} (f : ℕ × X → List Y) (xs : List X) (i : ℕ) (d : X) (made made' : List Y)
    → made' ≡ made ++ f (i, get_or xs i d) → made ≡ flat_map f (enumerate_from 0 (take i xs)) → i < length xs
    → made' ≡ flat_map f (enumerate_from 0 (take (i + 1) xs))
letters_more {X} {Y} f xs i d made made' pushed before below =
    let step : flat_map f (enumerate_from 0 (take (i + 1) xs)) ≡ flat_map f (enumerate_from 0 (take i xs)) ++ f (i, get_or xs i d) =
    subst (λ (m : ℕ). flat_map f (enumerate_from 0 (take (i + 1) xs)) ≡ flat_map f (enumerate_from 0 (take i xs)) ++ f (m, get_or xs i d))
    (omega arith) (enumerate_flat f 0 xs i d below) in
    pushed ∙ ap (λ (ys : List Y). ys ++ f (i, get_or xs i d)) before ∙ sym step

-- a change and one that takes it back leave the list as it was
pub update_back : {X : Type 0} (xs : List X) (i : ℕ) (x : X) (change back : X → X)
    → slice_get xs i ≡ Some x → back (change x) ≡ x → update (update xs i change) i back ≡ xs
update_back [] i x change back at is = refl
update_back (y ∷ xs) zero x change back at is =
    let e : y ≡ x = cc in
    ap (λ z. z ∷ xs) (ap (λ z. back (change z)) e ∙ is ∙ sym e)
update_back (y ∷ xs) (suc i) x change back at is = ap (λ ys. y ∷ ys) (update_back xs i x change back at is)

-- the row whose worker is in this phase
abbrev pub in_phase_row : Phase → Row → Row
in_phase_row phase r = record r { place = in_phase phase r.place }

-- a worker that goes on to another phase, and back to the one in which it was, leaves its row as it was
back_row : (r : Row) (c : ℕ) (phase other : Phase) → r.place ≡ Working c phase → in_phase_row phase (in_phase_row other r) ≡ r
back_row r c phase other at =
    ap (λ (p : Place). record r { place = in_phase phase (in_phase other p) }) at ∙ ap (λ (p : Place). record r { place = p }) (sym at)

-- and the state
pub back_state : (s : State) (rows rows' : List Row) (slot : ℕ) (r : Row) (c : ℕ) (phase other : Phase) → slice_get s.rows slot ≡ Some r
    → r.place ≡ Working c phase → rows ≡ update s.rows slot (in_phase_row other) → rows' ≡ update rows slot (in_phase_row phase)
    → record s { rows = rows' } ≡ s
back_state s rows rows' slot r c phase other there at on back =
    let same : rows' ≡ s.rows =
    back ∙ ap (λ (rs : List Row). update rs slot (in_phase_row phase)) on
    ∙ update_back s.rows slot r (in_phase_row other) (in_phase_row phase) there (back_row r c phase other at) in
    ap (λ (rs : List Row). record s { rows = rs }) same

-- there are as many rows as before
pub as_many : (rows rows' : List Row) (slot : ℕ) (phase : Phase) → rows' ≡ update rows slot (in_phase_row phase) → length rows' ≡ length rows
as_many rows rows' slot phase on = ap length on ∙ length-update rows slot (in_phase_row phase)
