-- A child that carries no more rows than it has workers, one of which is queued, has a free cell.
use Rattle.std.proofs.Common.{◌≡◌, ◌⊎◌, ◌==◌, ℕ, zero, suc, ◌+◌, ◌<◌, ◌≤◌, Bool, true, false, ◌&&◌, ◌||◌, cond, nat_lt, List, [], ◌∷◌, count_by, Option, None, Some, slice_get, refl, ap, ◌∙◌, inl, inr, arith}
use Rattle.std.proofs.lemmas.Bool.{not-true, not-false, cases_eq}
use Rattle.std.proofs.lemmas.Bool.Decides.{nat_tests}
use Rattle.std.proofs.lemmas.List.Sums.{sum_by-cons}
use Rattle.std.specs.Option.{unwrap_or}
use Rattle.std.specs.List.{find, list_any, range_with_len}
use Rattle.conn_machine.specs.declared.row.Place.{Place}
use Rattle.conn_machine.specs.declared.row.Place.TheVariants.{Vacant, Spent, Held, Parked, Queued, Working}
use Rattle.conn_machine.specs.declared.row.Row.{Row}
use Rattle.conn_machine.specs.Rows.{is_queued, is_working, is_in_cell, is_carried_by, carried_count, is_served_in, is_free_cell, lowest_free_cell}

-- ## Counts

-- a list's count is its first item's and that of the others
count_by-cons : {X : Type 0} (p : X → Bool) (x : X) (xs : List X) → count_by p (x ∷ xs) ≡ cond (p x) 1 0 + count_by p xs
count_by-cons p x xs = sum_by-cons (λ y. cond (p y) 1 0) x xs

-- what two tests count that no item passes both of, a test counts that each of those items passes
count_by_apart : {X : Type 0} (p q t : X → Bool) → ((x : X) → cond (p x) 1 0 + cond (q x) 1 0 ≤ cond (t x) 1 0)
    → (xs : List X) → count_by p xs + count_by q xs ≤ count_by t xs
count_by_apart p q t each [] = omega arith
count_by_apart p q t each (x ∷ xs) =
    omega (arith, each x, count_by-cons p x xs, count_by-cons q x xs, count_by-cons t x xs, count_by_apart p q t each xs)

-- an item that passes is counted
count_by_at : {X : Type 0} (p : X → Bool) (xs : List X) (i : ℕ) (x : X) → slice_get xs i ≡ Some x → p x ≡ true
    → 0 < count_by p xs
count_by_at p [] i x is passes = absurd (cc)
count_by_at p (y ∷ xs) zero x is passes =
    let e : y ≡ x = cc in
    let first : p y ≡ true = ap p e ∙ passes in
    rw (count_by-cons p y xs, first) (omega arith)
count_by_at p (y ∷ xs) (suc i) x is passes = omega (arith, count_by-cons p y xs, count_by_at p xs i x is passes)

-- where an item passes the count isn't 0
pub count_by-any : {X : Type 0} (p : X → Bool) (xs : List X) → list_any p xs ≡ true → 0 < count_by p xs
count_by-any p [] any = absurd (cc)
count_by-any p (x ∷ xs) any = grind (arith, count_by-cons p x xs, count_by-any p xs)

-- where none does it is
pub count_by-none : {X : Type 0} (p : X → Bool) (xs : List X) → list_any p xs ≡ false → count_by p xs ≡ 0
count_by-none p [] none = refl
count_by-none p (x ∷ xs) none = grind (arith, count_by-cons p x xs, count_by-none p xs)

-- ## The first number that passes

-- what a search among the n numbers from a on found
abbrev IsFoundAmong : (ℕ → Bool) → ℕ → ℕ → Option ℕ → Type 0
IsFoundAmong p a n None = (c : ℕ) → a ≤ c → c < a + n → p c ≡ false
IsFoundAmong p a n (Some c) = (c < a + n) × (p c ≡ true)

-- none passes, neither the first nor a later one
first_or_later : (p : ℕ → Bool) (a n c : ℕ) → p a ≡ false → IsFoundAmong p (a + 1) n None → a ≤ c → c < a + suc n
    → (c ≡ a) ⊎ (c ≡ a → ⊥) → p c ≡ false
first_or_later p a n c is rest from below (inl same) = ap p same ∙ is
first_or_later p a n c is rest from below (inr other) = rest c (omega arith) (omega arith)

-- a search that begins one number earlier
found_more : (p : ℕ → Bool) (a n : ℕ) (o : Option ℕ) (b : Bool) → p a ≡ b → IsFoundAmong p (a + 1) n o
    → IsFoundAmong p a (suc n) (cond b (Some a) o)
found_more p a n o true is rest = (omega arith, is)
found_more p a n None false is rest = λ c from below. first_or_later p a n c is rest from below (cases_eq c a)
found_more p a n (Some c) false is rest = (omega arith, rest.1)

-- a search finds a number that passes, or none does
found_among : (p : ℕ → Bool) (a n : ℕ) → IsFoundAmong p a n (find p (range_with_len a n))
found_among p a zero = λ c from below. absurd (omega arith)
found_among p a (suc n) = found_more p a n (find p (range_with_len (a + 1) n)) (p a) refl (found_among p (a + 1) n)

-- ## Cells

-- the row is served in a cell below the number
abbrev is_in_cell_below : ℕ → Place → Bool
is_in_cell_below n Vacant = false
is_in_cell_below n Spent = false
is_in_cell_below n Held = false
is_in_cell_below n (Parked kind) = false
is_in_cell_below n Queued = false
is_in_cell_below n (Working cell phase) = nat_lt cell n

-- a worker of the child serves the row, in a cell below the number
abbrev is_served_below : ℕ → ℕ → Row → Bool
is_served_below k n r = r.child == k && is_in_cell_below n r.place

-- the row waits for a worker of the child
abbrev pub is_queued_in : ℕ → Row → Bool
is_queued_in k r = r.child == k && is_queued r.place

-- no row is served in a cell below the number and in that cell too
one_cell_more : (own : Bool) (n : ℕ) (p : Place)
    → cond (own && is_in_cell_below n p) 1 0 + cond (own && is_in_cell n p) 1 0 ≤ cond (own && is_in_cell_below (suc n) p) 1 0
one_cell_more false n p = omega arith
one_cell_more true n Vacant = omega arith
one_cell_more true n Spent = omega arith
one_cell_more true n Held = omega arith
one_cell_more true n (Parked kind) = omega arith
one_cell_more true n Queued = omega arith
one_cell_more true n (Working cell phase) = grind (arith, nat_tests)

-- no row is served and queued, and one that is either is carried
served_or_queued : (own : Bool) (n : ℕ) (p : Place)
    → cond (own && is_in_cell_below n p) 1 0 + cond (own && is_queued p) 1 0 ≤ cond (own && (is_queued p || is_working p)) 1 0
served_or_queued false n p = omega arith
served_or_queued true n Vacant = omega arith
served_or_queued true n Spent = omega arith
served_or_queued true n Held = omega arith
served_or_queued true n (Parked kind) = omega arith
served_or_queued true n Queued = omega arith
served_or_queued true n (Working cell phase) = grind (arith, nat_tests)

-- where each cell below the number is taken, as many rows are served in them
all_taken : (rows : List Row) (k n : ℕ) → ((c : ℕ) → c < n → 0 < count_by (is_served_in k c) rows)
    → n ≤ count_by (is_served_below k n) rows
all_taken rows k zero taken = omega arith
all_taken rows k (suc n) taken =
    omega (
      arith,
      taken n (omega arith),
      all_taken rows k n (λ c below. taken c (omega arith)),
      count_by_apart (is_served_below k n) (is_served_in k n) (is_served_below k (suc n)) (λ r. one_cell_more (r.child == k) n r.place) rows,
    )

-- the child has the cell, and no row is served in it
pub record IsFree (rows : List Row) (k threads c : ℕ) : Type 0 where
  pub below : c < threads
  pub free : count_by (is_served_in k c) rows ≡ 0

-- some row of the child is queued
queued_at : (rows : List Row) (k slot : ℕ) (r : Row) → slice_get rows slot ≡ Some r → is_queued_in k r ≡ true
    → 0 < count_by (is_queued_in k) rows
queued_at rows k slot r found queued = count_by_at (is_queued_in k) rows slot r found queued

-- the search for a cell ends in one that is free: were none, the child would carry a row too many
cell_is_free : (rows : List Row) (k threads : ℕ) (o : Option ℕ) → 0 < count_by (is_queued_in k) rows → carried_count rows k ≤ threads
    → IsFoundAmong (is_free_cell rows k) 0 threads o → IsFree rows k threads (unwrap_or o threads)
cell_is_free rows k threads None queued few none =
    let taken : (c : ℕ) → c < threads → 0 < count_by (is_served_in k c) rows =
    λ c below. count_by-any (is_served_in k c) rows (not-false _ (none c (omega arith) (omega arith))) in
    absurd (omega (
      arith,
      all_taken rows k threads taken,
      count_by_apart (is_served_below k threads) (is_queued_in k) (is_carried_by k) (λ r. served_or_queued (r.child == k) threads r.place) rows,
    ))
cell_is_free rows k threads (Some c) queued few found = record {
  below = omega arith;
  free = count_by-none (is_served_in k c) rows (not-true _ found.1);
}

-- a row that is queued gets a free cell of its child
pub free_cell : (rows : List Row) (k threads slot : ℕ) (r : Row) → slice_get rows slot ≡ Some r → is_queued_in k r ≡ true
    → carried_count rows k ≤ threads → IsFree rows k threads (lowest_free_cell rows k threads)
free_cell rows k threads slot r found queued few =
    cell_is_free rows k threads (find (is_free_cell rows k) (range_with_len 0 threads)) (queued_at rows k slot r found queued) few
    (found_among (is_free_cell rows k) 0 threads)
