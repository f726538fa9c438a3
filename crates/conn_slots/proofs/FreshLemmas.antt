-- The entries of a table that was made, each of which names the one behind it.
use Rattle.std.proofs.Common.{◌≡◌, ℕ, zero, suc, ◌+◌, ◌<◌, ◌≤◌, add-one, List, [], ◌∷◌, ◌++◌, length, map, Some, None, All, slice_get, refl, sym, ap, ◌∙◌, arith, inl, inr, cond}
use Rattle.std.proofs.lemmas.Bool.{lt-ltb, le-ltb, cases_lt}
use Rattle.std.proofs.lemmas.List.{length_push, map_push, replicate_more}
use Rattle.std.proofs.lemmas.List.Elements.{All-nil, All-push}
use Rattle.std.proofs.lemmas.List.Sums.{sum_by-cons}
use Rattle.conn_slots.specs.Slots.{Slot, is_vacant_slot, vacant_count, unused_slot}
use Rattle.conn_slots.specs.Layout.{seen_slot}
use Rattle.conn_slots.specs.TableInside.{IsWithinLives, IsVacantList, IsTable, place_below}
use Rattle.conn_slots.specs.declared.Entry.{Entry}

-- what stands at a place of a list with one item more
at_push : {X : Type 0} (xs : List X) (y : X) (i : ℕ) → length xs ≡ i → slice_get (xs ++ y ∷ []) i ≡ Some y
at_push [] y zero e = refl
at_push [] y (suc i) e = absurd (cc)
at_push (x ∷ xs) y zero e = absurd (cc)
at_push (x ∷ xs) y (suc i) e = at_push xs y i (omega arith)

before_push : {X : Type 0} (xs : List X) (y : X) (i : ℕ) → i < length xs → slice_get (xs ++ y ∷ []) i ≡ slice_get xs i
before_push [] y i h = absurd (omega arith)
before_push (x ∷ xs) y zero h = refl
before_push (x ∷ xs) y (suc i) h = before_push xs y i (omega arith)

-- where there is room for n and not all are there, there is room for one more
pub room_left : (len slot n room : ℕ) → len ≡ slot → slot < n → n ≤ room → len < room
room_left len slot n room count less fits = omega arith

module _ (T : Type 0) where
  -- the entry of a slot of n
  abbrev pub fresh_entry : ℕ → ℕ → Entry T
  fresh_entry n i = record { life = 0; item = None; next = place_below n (i + 1) }

  -- the entries of the first k slots of n
  abbrev pub fresh_entries : ℕ → ℕ → List (Entry T)
  fresh_entries n zero = []
  fresh_entries n (suc k) = fresh_entries n k ++ fresh_entry n k ∷ []

  pub fresh_push : (n k : ℕ) (es : List (Entry T)) → es ≡ fresh_entries n k → es ++ fresh_entry n k ∷ [] ≡ fresh_entries n (k + 1)
  fresh_push n k es e =
      let next : suc k ≡ k + 1 = omega arith in
      ap (λ (xs : List (Entry T)). xs ++ fresh_entry n k ∷ []) e ∙ ap (λ m. fresh_entries n m) next

  length-fresh : (n k : ℕ) → length (fresh_entries n k) ≡ k
  length-fresh n zero = refl
  length-fresh n (suc k) = length_push (fresh_entries n k) (fresh_entry n k) ∙ omega (arith, length-fresh n k)

  fresh_at : (n k i : ℕ) → i < k → slice_get (fresh_entries n k) i ≡ Some (fresh_entry n i)
  fresh_at n zero i h = absurd (omega arith)
  fresh_at n (suc k) i h = elim (cases_lt i k) [
    | inl below ↦ before_push (fresh_entries n k) (fresh_entry n k) i (omega (arith, length-fresh n k)) ∙ fresh_at n k i below
    | inr above ↦
        let here : i ≡ k = omega arith in
        rw here (at_push (fresh_entries n k) (fresh_entry n k) k (length-fresh n k))
  ]

  pub fresh_seen : (n k : ℕ) → map seen_slot (fresh_entries n k) ≡ unused_slot {T = T} k
  fresh_seen n zero = refl
  fresh_seen n (suc k) =
      map_push seen_slot (fresh_entries n k) (fresh_entry n k)
      ∙ ap (λ (ss : List (Slot T)). ss ++ (record { life = 0; item = None }) ∷ []) (fresh_seen n k)
      ∙ replicate_more k (record { life = 0; item = None }) ∙ rw add-one refl

  fresh_within : (n k : ℕ) → All IsWithinLives (fresh_entries n k)
  fresh_within n zero = All-nil (IsWithinLives {T = T})
  fresh_within n (suc k) =
      All-push (IsWithinLives {T = T}) (fresh_entries n k) (fresh_entry n k) (fresh_within n k) (omega arith, λ some. absurd (cc))

  unused_count : (n : ℕ) → vacant_count (unused_slot {T = T} n) ≡ n
  unused_count zero = refl
  unused_count (suc n) =
      omega (arith, unused_count n, sum_by-cons (λ (s : Slot T). cond (is_vacant_slot s) 1 0) (record { life = 0; item = None }) (unused_slot {T = T} n))

  -- from each place on they are the list of vacant entries
  fresh_list : (n k i : ℕ) → i + k ≡ n → IsVacantList (fresh_entries n n) k (place_below n i)
  fresh_list n zero i e = rw (le-ltb i n (omega arith)) refl
  fresh_list n (suc k) i e =
      rw (lt-ltb i n (omega arith)) (fresh_entry n i, fresh_at n n i (omega arith), refl, fresh_list n k (i + 1) (omega arith))

  pub fresh_table : (n : ℕ) (es : List (Entry T)) → es ≡ fresh_entries n n → 1 ≤ n → n ≤ 8192 → IsTable es (Some 0) n
  fresh_table n es e some few = rw e (record {
    few = rw (length-fresh n n) few;
    within = fresh_within n n;
    counted = sym (ap (λ (ss : List (Slot T)). vacant_count ss) (fresh_seen n n) ∙ unused_count n);
    linked = rw (lt-ltb 0 n (omega arith)) at (fresh_list n n 0 (omega arith));
  })
