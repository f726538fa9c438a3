-- The list of the vacant entries, while one entry is replaced.
use Rattle.std.proofs.Common.{◌≡◌, ◌≢◌, ℕ, zero, suc, ◌+◌, ◌-◌, ◌<◌, ◌≤◌, add-one, Bool, true, false, true≢false, cond, List, length, map, get_or, set, Option, Some, None, slice_get, refl, sym, ap, subst, ◌∙◌, arith}
use Rattle.std.proofs.lemmas.List.{length-set, length-map, get_or-map, map-set}
use Rattle.std.proofs.lemmas.List.Elements.{All-set}
use Rattle.std.proofs.lemmas.List.Sums.{sum_by-set, count_by-le-length}
use Rattle.std.proofs.lemmas.Option.{same_Some, slice_get_within, slice_get_read, get_or_from_slice_get}
use Rattle.conn_slots.specs.Slots.{Slot, is_vacant_slot, vacant_count}
use Rattle.conn_slots.specs.Layout.{seen_slot}
use Rattle.conn_slots.specs.TableInside.{IsWithinLives, IsVacantList, IsTable}
use Rattle.conn_slots.specs.declared.Entry.{Entry}
use Rattle.conn_slots.proofs.LawLemmas.{slice_get-set_same, slice_get-set_other}

module _ {T : Type 0} where
  abbrev vacant : Entry T → Bool
  vacant e = is_vacant_slot (seen_slot e)

  -- a place starts one list of vacant entries at most
  count_unique : (es : List (Entry T)) (m n : ℕ) (first : Option ℕ) → IsVacantList es m first → IsVacantList es n first → m ≡ n
  count_unique es zero zero first p q = refl
  count_unique es zero (suc n) first p q = absurd (subst (IsVacantList es (suc n)) p q)
  count_unique es (suc m) zero first p q = absurd (subst (IsVacantList es (suc m)) q p)
  count_unique es (suc m) (suc n) None p q = absurd p
  count_unique es (suc m) (suc n) (Some i) p q =
      let same : q.0 ≡ p.0 = same_Some q.0 p.0 (sym q.1 ∙ p.1) in
      ap suc (count_unique es m n p.0.next p.3 (subst (λ (e : Entry T). IsVacantList es n e.next) same q.3))

  -- a write at a place that is not on the list keeps the list
  list_set : (es : List (Entry T)) (i : ℕ) (e : Entry T) (n : ℕ) (first : Option ℕ) →
      ((m : ℕ) → m < n → IsVacantList es (suc m) (Some i) → ⊥) → IsVacantList es n first → IsVacantList (set es i e) n first
  list_set es i e zero first off p = p
  list_set es i e (suc n) None off p = absurd p
  list_set es i e (suc n) (Some j) off p =
      let other : j ≢ i = λ same. off n (omega arith) (subst (λ k. IsVacantList es (suc n) (Some k)) same p) in
      (p.0, slice_get-set_other es i j e other ∙ p.1, p.2, list_set es i e n p.0.next (λ m below. off m (omega arith)) p.3)

  -- an entry that isn't vacant is on no list
  off_list : (es : List (Entry T)) (i : ℕ) (e : Entry T) → slice_get es i ≡ Some e → vacant e ≡ false →
      (m : ℕ) → IsVacantList es (suc m) (Some i) → ⊥
  off_list es i e at taken m p =
      let same : p.0 ≡ e = same_Some p.0 e (sym p.1 ∙ at) in
      true≢false (sym p.2 ∙ ap vacant same ∙ taken)

  -- how many are vacant after a write
  count_set : (es : List (Entry T)) (i : ℕ) (old new : Entry T) → slice_get es i ≡ Some old →
      vacant_count (map seen_slot (set es i new)) + cond (vacant old) 1 0 ≡ vacant_count (map seen_slot es) + cond (vacant new) 1 0
  count_set es i old new at =
      let within = slice_get_within es i old at in
      let read : get_or (map seen_slot es) i (seen_slot old) ≡ seen_slot old =
      get_or-map seen_slot es i old (seen_slot old) within ∙ ap seen_slot (get_or_from_slice_get es i old old at) in
      let counted = sum_by-set (λ (s : Slot T). cond (is_vacant_slot s) 1 0) (map seen_slot es) i (seen_slot new) (seen_slot old)
      (omega (arith, length-map es (seen_slot {T = T}))) in
      rw (map-set seen_slot es i new) (rw read at counted)

  -- the entry at the head of the list
  pub head_entry : (es : List (Entry T)) (i free : ℕ) → IsTable es (Some i) free →
      (e : Entry T) × (slice_get es i ≡ Some e) × (vacant e ≡ true) × (0 < free)
  head_entry es i zero t = let none = t.linked in absurd (cc)
  head_entry es i (suc n) t = let l = t.linked in (l.0, l.1, l.2, omega arith)

  -- the entry that is read there
  pub head_read : (es : List (Entry T)) (i free : ℕ) (e : Entry T) → IsTable es (Some i) free → e ≡ get_or es i e →
      (i < length es) × (slice_get es i ≡ Some e) × (vacant e ≡ true)
  head_read es i free e t read =
      let head = head_entry es i free t in
      let within = slice_get_within es i head.0 head.1 in
      let at = slice_get_read es (length es) i e refl within read in
      let same : head.0 ≡ e = same_Some head.0 e (sym head.1 ∙ at) in
      (within, at, ap vacant (sym same) ∙ head.2)

  -- no entry is vacant where the list has no head, and one is where it has
  pub no_head : (es : List (Entry T)) (free : ℕ) → IsTable es None free → vacant_count (map seen_slot es) ≡ 0
  no_head es zero t = sym t.counted
  no_head es (suc n) t = absurd t.linked

  pub some_head : (es : List (Entry T)) (i free : ℕ) → IsTable es (Some i) free → vacant_count (map seen_slot es) ≢ 0
  some_head es i free t none = omega (arith, t.counted, none, (head_entry es i free t).3)

  pub free_few : (es : List (Entry T)) (head : Option ℕ) (free : ℕ) → IsTable es head free → free ≤ 8192
  free_few es head free t =
      omega (arith, t.counted, t.few, count_by-le-length (is_vacant_slot {T = T}) (map seen_slot es), length-map es (seen_slot {T = T}))

  -- the entry at the head is filled
  pub table_fill : (es : List (Entry T)) (i free : ℕ) (e new : Entry T) → IsTable es (Some i) free → e ≡ get_or es i e →
      IsWithinLives new → vacant new ≡ false → IsTable (set es i new) e.next (free - 1)
  table_fill es i zero e new t read w taken = let none = t.linked in absurd (cc)
  table_fill es i (suc m) e new t read w taken =
      let l = t.linked in
      let within = slice_get_within es i l.0 l.1 in
      let at = slice_get_read es (length es) i e refl within read in
      let same : l.0 ≡ e = same_Some l.0 e (sym l.1 ∙ at) in
      let vac : vacant e ≡ true = ap vacant (sym same) ∙ l.2 in
      let rest = subst (λ (x : Entry T). IsVacantList es m x.next) same l.3 in
      let less : suc m - 1 ≡ m = omega arith in
      let count : vacant_count (map seen_slot (set es i new)) + 1 ≡ vacant_count (map seen_slot es) + 0 =
      rw (vac, taken) at (count_set es i e new at) in
      rw less (record {
        few = rw length-set t.few;
        within = All-set (IsWithinLives {T = T}) es i new w t.within;
        counted = omega (arith, t.counted, count);
        linked = list_set es i new m e.next (λ k below p. absurd (omega (arith, count_unique es (suc k) (suc m) (Some i) p l))) rest;
      })

  -- an entry that wasn't vacant becomes the head
  pub table_vacate : (es : List (Entry T)) (i free : ℕ) (head : Option ℕ) (e new : Entry T) → IsTable es head free → slice_get es i ≡ Some e →
      vacant e ≡ false → IsWithinLives new → vacant new ≡ true → new.next ≡ head → IsTable (set es i new) (Some i) (free + 1)
  table_vacate es i free head e new t at taken w vac behind =
      let within = slice_get_within es i e at in
      let rest = list_set es i new free head (λ k below p. off_list es i e at taken k p) t.linked in
      let count : vacant_count (map seen_slot (set es i new)) + 0 ≡ vacant_count (map seen_slot es) + 1 =
      rw (taken, vac) at (count_set es i e new at) in
      record {
        few = rw length-set t.few;
        within = All-set (IsWithinLives {T = T}) es i new w t.within;
        counted = omega (arith, t.counted, count);
        linked = rw add-one (new, slice_get-set_same es i new within, vac, rw behind rest);
      }

  -- an entry that wasn't vacant is replaced by one that isn't
  pub table_replace : (es : List (Entry T)) (i free : ℕ) (head : Option ℕ) (e new : Entry T) → IsTable es head free → slice_get es i ≡ Some e →
      vacant e ≡ false → IsWithinLives new → vacant new ≡ false → IsTable (set es i new) head free
  table_replace es i free head e new t at taken w still =
      let count : vacant_count (map seen_slot (set es i new)) + 0 ≡ vacant_count (map seen_slot es) + 0 =
      rw (taken, still) at (count_set es i e new at) in
      record {
        few = rw length-set t.few;
        within = All-set (IsWithinLives {T = T}) es i new w t.within;
        counted = omega (arith, t.counted, count);
        linked = list_set es i new free head (λ k below p. off_list es i e at taken k p) t.linked;
      }
