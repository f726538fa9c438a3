-- A name that had an item once either has one still, or lies below the life of its slot for ever.
use Rattle.std.proofs.Common.{◌≡◌, ◌≢◌, ℕ, zero, suc, ◌+◌, ◌<◌, ◌≤◌, Bool, true, false, cond, ◌⊎◌, inl, inr, List, [], ◌∷◌, length, Option, Some, None, IsSome, nat_eq, refl, sym, ◌∙◌, ap, set, arith, slice_get, option_and_then}
use Rattle.std.proofs.lemmas.Bool.{eqb-true, eqb-false, eq-eqb, ne_eqb}
use Rattle.std.proofs.lemmas.Option.{none-some, same_Some, slice_get_within}
use Rattle.mpm_base.specs.declared.conn.ConnName.{ConnName}
use Rattle.conn_slots.specs.Slots.{Slot, item_in, item_of, HasItem, IsNextName, without_item}
use Rattle.conn_slots.specs.Changes.{Change, puts, takes, writes, CanBe, after_change, ChangesLead, NeverLiveAgain, WasNeverLive}

module _ {X : Type 0} where
  -- what stands at a place after a write to it, and at another place
  pub slice_get-set_same : (xs : List X) (i : ℕ) (y : X) → i < length xs → slice_get (set xs i y) i ≡ Some y
  slice_get-set_same [] i y h = absurd (omega arith)
  slice_get-set_same (x ∷ xs) zero y h = refl
  slice_get-set_same (x ∷ xs) (suc i) y h = slice_get-set_same xs i y (omega arith)

  pub slice_get-set_other : (xs : List X) (i j : ℕ) (y : X) → j ≢ i → slice_get (set xs i y) j ≡ slice_get xs j
  slice_get-set_other [] i j y h = refl
  slice_get-set_other (x ∷ xs) zero zero y h = absurd (h refl)
  slice_get-set_other (x ∷ xs) zero (suc j) y h = refl
  slice_get-set_other (x ∷ xs) (suc i) zero y h = refl
  slice_get-set_other (x ∷ xs) (suc i) (suc j) y h = slice_get-set_other xs i j y (λ e. h (ap suc e))

module _ {T : Type 0} where
  abbrev slot : ℕ → Option T → Slot T
  slot n o = record { life = n; item = o }

  -- a slot has an item in a life only where that is its own
  in_some : (own : ℕ) (item : Option T) (life : ℕ) (b : Bool) → nat_eq own life ≡ b → IsSome (cond b item None) →
      (x : T) × (slot own item ≡ slot life (Some x))
  in_some own (Some x) life true e h = (x, ap (λ n. slot n (Some x)) (eqb-true own life e))
  in_some own None life true e h = absurd (cc)
  in_some own item life false e h = absurd (cc)

  -- the slot of a live name
  option_live : (o : Option (Slot T)) (life : ℕ) → IsSome (option_and_then (item_in life) o) →
      (x : T) × (o ≡ Some (record { life = life; item = Some x }))
  option_live None life h = absurd (cc)
  option_live (Some s) life h =
      let u = in_some s.life s.item life (nat_eq s.life life) refl h in
      (u.0, ap Some u.1)

  pub live_slot : (slots : List (Slot T)) (name : ConnName) → HasItem slots name →
      (x : T) × (slice_get slots name.slot ≡ Some (record { life = name.life; item = Some x }))
  live_slot slots name h = option_live (slice_get slots name.slot) name.life h

  -- the item of a name, by what stands in its slot
  pub item_at : (slots : List (Slot T)) (name : ConnName) (s : Slot T) → slice_get slots name.slot ≡ Some s →
      item_of slots name ≡ item_in name.life s
  item_at slots name s e = rw e

  -- the life of the name's slot lies above its own
  pub record IsPassed (slots : List (Slot T)) (name : ConnName) : Type 0 where
    pub slot : Slot T
    pub there : slice_get slots name.slot ≡ Some slot
    pub above : name.life < slot.life

  pub passed_is_dead : (slots : List (Slot T)) (name : ConnName) → IsPassed slots name → item_of slots name ≡ None
  passed_is_dead slots name p =
      let no : nat_eq p.slot.life name.life ≡ false = ne_eqb p.slot.life name.life (λ e. omega (arith, p.above)) in
      item_at slots name p.slot p.there ∙ rw no

  -- one slot replaces another: its life is no smaller, and an item stays where the life does
  pub record Follows (old new : Slot T) : Type 0 where
    pub no_fall : old.life ≤ new.life
    pub keeps : IsSome old.item → new.life ≡ old.life → IsSome new.item

  -- a change replaces one slot by one that follows it
  pub record Replaces (old new : List (Slot T)) : Type 0 where
    pub place : ℕ
    pub was : Slot T
    pub is : Slot T
    pub there : slice_get old place ≡ Some was
    pub set : new ≡ set old place is
    pub follows : Follows was is

  replaces : (slots : List (Slot T)) (c : Change T) → CanBe slots c → Replaces slots (after_change slots c)
  replaces slots (puts name x) h = record {
    place = name.slot;
    was = record { life = name.life; item = None };
    is = record { life = name.life; item = Some x };
    there = h;
    set = refl;
    follows = record { no_fall = omega arith; keeps = λ _ _. refl };
  }
  replaces slots (takes name) h =
      let l = live_slot slots name h in record {
        place = name.slot;
        was = record { life = name.life; item = Some l.0 };
        is = record { life = name.life + 1; item = None };
        there = l.1;
        set = refl;
        follows = record { no_fall = omega arith; keeps = λ _ e. absurd (omega (arith, e)) };
      }
  replaces slots (writes name x) h =
      let l = live_slot slots name h in record {
        place = name.slot;
        was = record { life = name.life; item = Some l.0 };
        is = record { life = name.life; item = Some x };
        there = l.1;
        set = refl;
        follows = record { no_fall = omega arith; keeps = λ _ _. refl };
      }

  -- what stands in a slot after a change follows what stood there
  slot_follows : (old new : List (Slot T)) (i : ℕ) (s : Slot T) → Replaces old new → slice_get old i ≡ Some s →
      (t : Slot T) × (slice_get new i ≡ Some t) × Follows s t
  slot_follows old new i s r e = at (nat_eq i r.place) refl
    where
      at : (b : Bool) → nat_eq i r.place ≡ b → (t : Slot T) × (slice_get new i ≡ Some t) × Follows s t
      at true same =
          let here : i ≡ r.place = eqb-true i r.place same in
          let within = slice_get_within old r.place r.was r.there in
          let was : s ≡ r.was = cc in
          (r.is, rw (r.set, here) (slice_get-set_same old r.place r.is within), rw was r.follows)
      at false other =
          (s, rw r.set (slice_get-set_other old r.place i r.is (eqb-false i r.place other) ∙ e), record { no_fall = omega arith; keeps = λ h _. h })

  passed_stays : (old new : List (Slot T)) (name : ConnName) → Replaces old new → IsPassed old name → IsPassed new name
  passed_stays old new name r p =
      let f = slot_follows old new name.slot p.slot r p.there in
      record { slot = f.0; there = f.1; above = omega (arith, p.above, f.2.no_fall) }

  -- a passed name is passed for ever
  passed_after : (slots : List (Slot T)) (changes : List (Change T)) (later : List (Slot T)) (name : ConnName) →
      ChangesLead slots changes later → IsPassed slots name → IsPassed later name
  passed_after slots [] later name l p = rw l p
  passed_after slots (c ∷ cs) later name l p =
      passed_after (after_change slots c) cs later name l.1 (passed_stays slots (after_change slots c) name (replaces slots c l.0) p)

  passed_never_live : (slots : List (Slot T)) (name : ConnName) → IsPassed slots name → NeverLiveAgain slots name
  passed_never_live slots name p =
      λ changes later l. passed_is_dead later name (passed_after slots changes later name l p)

  -- a name whose item was taken is never live again
  pub taken_never_live : (slots : List (Slot T)) (name : ConnName) → HasItem slots name → NeverLiveAgain (without_item slots name) name
  taken_never_live slots name live =
      let s = live_slot slots name live in
      let within = slice_get_within slots name.slot _ s.1 in
      passed_never_live (without_item slots name) name (record {
        slot = slot (name.life + 1) None;
        there = slice_get-set_same slots name.slot _ within;
        above = omega arith;
      })

  -- a name is live where its slot has its life and an item
  live_at : (slots : List (Slot T)) (name : ConnName) (s : Slot T) → slice_get slots name.slot ≡ Some s →
      s.life ≡ name.life → IsSome s.item → HasItem slots name
  live_at slots name s e same h = rw (item_at slots name s e, eq-eqb s.life name.life same) h

  -- a live name stays live, or is passed
  live_after : (slots : List (Slot T)) (changes : List (Change T)) (later : List (Slot T)) (name : ConnName) →
      ChangesLead slots changes later → HasItem slots name → HasItem later name ⊎ IsPassed later name
  live_after slots [] later name l h = inl (rw l h)
  live_after slots (c ∷ cs) later name l h =
      let live = live_slot slots name h in
      let f = slot_follows slots (after_change slots c) name.slot _ (replaces slots c l.0) live.1 in
      on (nat_eq f.0.life name.life) f.0 refl f.1 f.2.no_fall (f.2.keeps refl) (live_after (after_change slots c) cs later name l.1)
    where
      on : (b : Bool) (t : Slot T) → nat_eq t.life name.life ≡ b → slice_get (after_change slots c) name.slot ≡ Some t →
          name.life ≤ t.life → (t.life ≡ name.life → IsSome t.item) →
          (HasItem (after_change slots c) name → HasItem later name ⊎ IsPassed later name) → HasItem later name ⊎ IsPassed later name
      on true t same e no_fall keeps again =
          let count : t.life ≡ name.life = eqb-true t.life name.life same in
          again (live_at (after_change slots c) name t e count (keeps count))
      on false t other e no_fall keeps again =
          let differ : t.life ≢ name.life = eqb-false t.life name.life other in
          inr (passed_after (after_change slots c) cs later name l.1 (record { slot = t; there = e; above = omega arith }))

  -- the next name of a vacant slot had no item before
  pub next_never_live : (slots : List (Slot T)) (name : ConnName) → IsNextName slots name → WasNeverLive slots name
  next_never_live slots name n earlier changes l = on (item_of earlier name) refl
    where
      no_longer : HasItem slots name ⊎ IsPassed slots name → ⊥
      no_longer (inl live) = let s = live_slot slots name live in
          none-some s.0 (ap (λ (t : Slot T). t.item) (same_Some (slot name.life None) (slot name.life (Some s.0)) (sym n ∙ s.1)))
      no_longer (inr p) =
          let s = same_Some p.slot (slot name.life None) (sym p.there ∙ n) in
          omega (arith, p.above, ap (λ (t : Slot T). t.life) s)

      on : (o : Option T) → item_of earlier name ≡ o → o ≡ None
      on None e = refl
      on (Some x) e = absurd (no_longer (live_after earlier changes slots name l (rw e refl)))
