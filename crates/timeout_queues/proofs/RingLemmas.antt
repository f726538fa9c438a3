-- The places of rings, while one is put in and one is taken out.
use Rattle.std.proofs.Common.{◌≡◌, ◌≢◌, ℕ, suc, ◌+◌, ◌<◌, ◌≤◌, cond, inl, inr, List, length, Option, Some, None, nat_eq, slice_get, refl, sym, ap, ◌∙◌, arith}
use Rattle.std.proofs.lemmas.Bool.{cases_eq, eq-eqb, ne_eqb}
use Rattle.std.proofs.lemmas.Option.{none-some, same_Some}
use Rattle.timeout_queues.specs.RingsInside.{RingRule, ring_of, ring_at, due_of, due_at, IsLinked}

module _ {X : Type 0} (rule : RingRule X) (slots : List (Option X)) (b f : ℕ → ℕ) (rank : ℕ → ℕ) (linked : (i : ℕ) → i < length slots + rule.rings → IsLinked rule slots b f rank i) where
  -- the place behind is in the same ring
  pub ring_behind : (i : ℕ) → i < length slots + rule.rings → ring_at rule slots (f i) ≡ ring_at rule slots i
  ring_behind i h =
      let l = linked i h in
      let n = linked (f i) l.behind_within in
      sym n.ring ∙ ap (λ j. ring_at rule slots j) l.back

  alone_behind : (i : ℕ) → i < length slots + rule.rings → ring_at rule slots i ≡ None → f i ≡ i
  alone_behind i h e = let l = linked i h in sym (ap f (l.alone e)) ∙ l.forth

  -- no other place stands before or behind one that is alone
  pub lone_before : (i s : ℕ) → i < length slots + rule.rings → s < length slots + rule.rings → ring_at rule slots s ≡ None → b i ≡ s → i ≡ s
  lone_before i s h hs e at = let l = linked i h in sym l.forth ∙ ap f at ∙ alone_behind s hs e

  pub lone_behind : (i s : ℕ) → i < length slots + rule.rings → s < length slots + rule.rings → ring_at rule slots s ≡ None → f i ≡ s → i ≡ s
  lone_behind i s h hs e at = let l = linked i h in let m = linked s hs in sym l.back ∙ ap b at ∙ m.alone e

  -- two places with one place before them are one, and so with one behind them
  pub same_before : (i j : ℕ) → i < length slots + rule.rings → j < length slots + rule.rings → b i ≡ b j → i ≡ j
  same_before i j h k e = let l = linked i h in let m = linked j k in sym l.forth ∙ ap f e ∙ m.forth

  pub same_behind : (i j : ℕ) → i < length slots + rule.rings → j < length slots + rule.rings → f i ≡ f j → i ≡ j
  same_behind i j h k e = let l = linked i h in let m = linked j k in sym l.back ∙ ap b e ∙ m.back

-- the ring of what a slot has, while the number of slots stays
ring_of_same : {X : Type 0} (rule : RingRule X) (old new : List (Option X)) (i : ℕ) (o : Option (Option X)) → length new ≡ length old → ring_of rule new i o ≡ ring_of rule old i o
ring_of_same rule old new i None e = refl
ring_of_same rule old new i (Some None) e = refl
ring_of_same rule old new i (Some (Some p)) e = ap (λ n. Some (n + rule.number p)) e

-- one slot is changed alone
pub record IsChanged {X : Type 0} (old new : List (Option X)) (s : ℕ) (is : Option X) : Type 0 where
  pub count : length new ≡ length old
  pub here : slice_get new s ≡ Some is
  pub others : (i : ℕ) → i ≢ s → slice_get new i ≡ slice_get old i

module _ {X : Type 0} (rule : RingRule X) (old new : List (Option X)) (s : ℕ) (is : Option X) (c : IsChanged old new s is) where
  ring_same : (i : ℕ) → i ≢ s → ring_at rule new i ≡ ring_at rule old i
  ring_same i ne = ap (λ o. ring_of rule new i o) (c.others i ne) ∙ ring_of_same rule old new i (slice_get old i) c.count

  due_same : (i : ℕ) → i ≢ s → due_at rule new i ≡ due_at rule old i
  due_same i ne = ap (due_of rule) (c.others i ne)

-- s was put behind a
pub record IsInserted (b f b' f' : ℕ → ℕ) (a s : ℕ) : Type 0 where
  pub before_next : b' (f a) ≡ s
  pub before_new : b' s ≡ a
  pub before_other : (i : ℕ) → i ≢ f a → i ≢ s → b' i ≡ b i
  pub behind_place : f' a ≡ s
  pub behind_new : f' s ≡ f a
  pub behind_other : (i : ℕ) → i ≢ a → i ≢ s → f' i ≡ f i

-- s was taken out
pub record IsRemoved (b f b' f' : ℕ → ℕ) (s : ℕ) : Type 0 where
  pub before_next : b' (f s) ≡ b s
  pub before_self : b' s ≡ s
  pub before_other : (i : ℕ) → i ≢ f s → i ≢ s → b' i ≡ b i
  pub behind_last : f' (b s) ≡ f s
  pub behind_self : f' s ≡ s
  pub behind_other : (i : ℕ) → i ≢ b s → i ≢ s → f' i ≡ f i

-- ## One place is put in

-- ranks, once s was put behind a
abbrev pub rank_with : (ℕ → ℕ) → ℕ → ℕ → ℕ → ℕ
rank_with rank a s i = cond (nat_eq i s) (suc (rank a + rank a)) (rank i + rank i)

rank_new : (rank : ℕ → ℕ) (a s : ℕ) → rank_with rank a s s ≡ suc (rank a + rank a)
rank_new rank a s = rw (eq-eqb s s refl) refl

rank_old : (rank : ℕ → ℕ) (a s i : ℕ) → i ≢ s → rank_with rank a s i ≡ rank i + rank i
rank_old rank a s i ne = rw (ne_eqb i s ne) refl

module _ {X : Type 0} (rule : RingRule X) (old new : List (Option X)) (b f b' f' : ℕ → ℕ) (rank : ℕ → ℕ) (a s : ℕ) (p : X)
    (linked : (i : ℕ) → i < length old + rule.rings → IsLinked rule old b f rank i)
    (c : IsChanged old new s (Some p)) (m : IsInserted b f b' f' a s)
    (slot : s < length old + rule.rings) (free : slice_get old s ≡ Some None)
    (within : a < length old + rule.rings) (ring : ring_at rule old a ≡ Some (length old + rule.number p)) (due : due_at rule old a ≤ rule.due p)
    (later : (q : X) → slice_get old (f a) ≡ Some (Some q) → rule.due p ≤ rule.due q) where
  lone : ring_at rule old s ≡ None
  lone = ap (λ o. ring_of rule old s o) free

  place_differs : a ≢ s
  place_differs e = none-some (length old + rule.number p) (sym lone ∙ ap (λ i. ring_at rule old i) (sym e) ∙ ring)

  next_within : f a < length old + rule.rings
  next_within = let l = linked a within in l.behind_within

  ring_new : ring_at rule new s ≡ Some (length old + rule.number p)
  ring_new = ap (λ o. ring_of rule new s o) c.here ∙ ap (λ n. Some (n + rule.number p)) c.count

  put_here : IsLinked rule new b' f' (rank_with rank a s) s
  put_here =
      let before_due : due_at rule new (b' s) ≡ due_at rule old a = ap (λ i. due_at rule new i) m.before_new ∙ due_same rule old new s (Some p) c a place_differs in
      let before_rank : rank_with rank a s (b' s) ≡ rank a + rank a = ap (λ i. rank_with rank a s i) m.before_new ∙ rank_old rank a s a place_differs in
      let own_rank = rank_new rank a s in
      record {
        before_within = rw m.before_new (omega (arith, within, c.count));
        behind_within = rw m.behind_new (omega (arith, next_within, c.count));
        back = ap b' m.behind_new ∙ m.before_next;
        forth = ap f' m.before_new ∙ m.behind_place;
        ring = ap (λ i. ring_at rule new i) m.before_new ∙ ring_same rule old new s (Some p) c a place_differs ∙ ring ∙ sym ring_new;
        alone = λ e. absurd (none-some (length old + rule.number p) (sym e ∙ ring_new));
        order = λ q at.
            let same : rule.due p ≡ rule.due q = ap (λ (r : X). rule.due r) (same_Some p q (same_Some (Some p) (Some q) (sym c.here ∙ at))) in
            (omega (arith, before_due, due, same), omega (arith, before_rank, own_rank));
      }

  -- the place before another
  pub record IsBefore (i : ℕ) : Type 0 where
    pub at_within : b' i < length new + rule.rings
    pub at_forth : f' (b' i) ≡ i
    pub at_ring : ring_at rule new (b' i) ≡ ring_at rule new i
    pub at_alone : ring_at rule new i ≡ None → b' i ≡ i
    pub at_order : (q : X) → slice_get new i ≡ Some (Some q) → (due_at rule new (b' i) ≤ rule.due q) × (rank_with rank a s (b' i) < rank_with rank a s i)

  next_before : (i : ℕ) → i ≡ f a → i ≢ s → IsBefore i
  next_before i e ne =
      let l = linked (f a) next_within in
      let k = linked a within in
      let at : b' i ≡ s = ap b' e ∙ m.before_next in
      let own : ring_at rule new i ≡ Some (length old + rule.number p) =
      ring_same rule old new s (Some p) c i ne ∙ ap (λ j. ring_at rule old j) e ∙ ring_behind rule old b f rank linked a within ∙ ring in
      record {
        at_within = rw at (omega (arith, slot, c.count));
        at_forth = ap f' at ∙ m.behind_new ∙ sym e;
        at_ring = ap (λ j. ring_at rule new j) at ∙ ring_new ∙ sym own;
        at_alone = λ none. absurd (none-some (length old + rule.number p) (sym none ∙ own));
        at_order = λ q there.
            let was : slice_get old (f a) ≡ Some (Some q) = ap (λ j. slice_get old j) (sym e) ∙ sym (c.others i ne) ∙ there in
            let after = later q was in
            let o = l.order q was in
            let old_rank : rank (b (f a)) ≡ rank a = ap rank k.back in
            let i_rank : rank i ≡ rank (f a) = ap rank e in
            let before_rank : rank_with rank a s (b' i) ≡ suc (rank a + rank a) = ap (λ j. rank_with rank a s j) at ∙ rank_new rank a s in
            let own_rank = rank_old rank a s i ne in
            let before_due : due_at rule new (b' i) ≡ rule.due p = ap (λ j. due_at rule new j) at ∙ ap (due_of rule) c.here in
            (omega (arith, before_due, after), omega (arith, before_rank, own_rank, o.1, old_rank, i_rank));
      }

  other_before : (i : ℕ) → i < length old + rule.rings → i ≢ f a → i ≢ s → IsBefore i
  other_before i h apart ne =
      let l = linked i h in
      let at : b' i ≡ b i = m.before_other i apart ne in
      let not_new : b i ≢ s = λ e. ne (lone_before rule old b f rank linked i s h slot lone e) in
      let not_place : b i ≢ a = λ e. apart (sym l.forth ∙ ap f e) in
      record {
        at_within = rw at (omega (arith, l.before_within, c.count));
        at_forth = ap f' at ∙ m.behind_other (b i) not_place not_new ∙ l.forth;
        at_ring = ap (λ j. ring_at rule new j) at ∙ ring_same rule old new s (Some p) c (b i) not_new ∙ l.ring ∙ sym (ring_same rule old new s (Some p) c i ne);
        at_alone = λ none. at ∙ l.alone (sym (ring_same rule old new s (Some p) c i ne) ∙ none);
        at_order = λ q there.
            let o = l.order q (sym (c.others i ne) ∙ there) in
            let before_due : due_at rule new (b' i) ≡ due_at rule old (b i) = ap (λ j. due_at rule new j) at ∙ due_same rule old new s (Some p) c (b i) not_new in
            let before_rank : rank_with rank a s (b' i) ≡ rank (b i) + rank (b i) = ap (λ j. rank_with rank a s j) at ∙ rank_old rank a s (b i) not_new in
            let own_rank = rank_old rank a s i ne in
            (omega (arith, before_due, o.0), omega (arith, before_rank, own_rank, o.1));
      }

  before : (i : ℕ) → i < length old + rule.rings → i ≢ s → IsBefore i
  before i h ne = elim (cases_eq i (f a)) [ inl e ↦ next_before i e ne | inr apart ↦ other_before i h apart ne ]

  -- the place behind another
  behind : (i : ℕ) → i < length old + rule.rings → i ≢ s → (f' i < length new + rule.rings) × (b' (f' i) ≡ i)
  behind i h ne = elim (cases_eq i a) [
    | inl e ↦
        let at : f' i ≡ s = ap f' e ∙ m.behind_place in
        (rw at (omega (arith, slot, c.count)), ap b' at ∙ m.before_new ∙ sym e)
    | inr apart ↦
        let l = linked i h in
        let at : f' i ≡ f i = m.behind_other i apart ne in
        let not_new : f i ≢ s = λ e. ne (lone_behind rule old b f rank linked i s h slot lone e) in
        let not_next : f i ≢ f a = λ e. apart (same_behind rule old b f rank linked i a h within e) in
        (rw at (omega (arith, l.behind_within, c.count)), ap b' at ∙ m.before_other (f i) not_next not_new ∙ l.back)
  ]

  pub inserted : (i : ℕ) → i < length new + rule.rings → IsLinked rule new b' f' (rank_with rank a s) i
  inserted i h = elim (cases_eq i s) [
    | inl e ↦ rw e put_here
    | inr ne ↦
        let inside : i < length old + rule.rings = omega (arith, h, c.count) in
        let x = before i inside ne in
        let y = behind i inside ne in
        record {
          before_within = x.at_within;
          behind_within = y.0;
          back = y.1;
          forth = x.at_forth;
          ring = x.at_ring;
          alone = x.at_alone;
          order = x.at_order;
        }
  ]

-- ## One place is taken out

module _ {X : Type 0} (rule : RingRule X) (old new : List (Option X)) (b f b' f' : ℕ → ℕ) (rank : ℕ → ℕ) (s : ℕ) (p : X)
    (linked : (i : ℕ) → i < length old + rule.rings → IsLinked rule old b f rank i)
    (c : IsChanged old new s None) (m : IsRemoved b f b' f' s)
    (slot : s < length old + rule.rings) (parked : slice_get old s ≡ Some (Some p)) where
  own_order : (due_at rule old (b s) ≤ rule.due p) × (rank (b s) < rank s)
  own_order = let l = linked s slot in l.order p parked

  own_ring : ring_at rule old s ≡ Some (length old + rule.number p)
  own_ring = ap (λ o. ring_of rule old s o) parked

  last_differs : b s ≢ s
  last_differs e = let r : rank (b s) ≡ rank s = ap rank e in omega (arith, own_order.1, r)

  taken_here : IsLinked rule new b' f' rank s
  taken_here = record {
    before_within = rw m.before_self (omega (arith, slot, c.count));
    behind_within = rw m.behind_self (omega (arith, slot, c.count));
    back = ap b' m.behind_self ∙ m.before_self;
    forth = ap f' m.before_self ∙ m.behind_self;
    ring = ap (λ i. ring_at rule new i) m.before_self;
    alone = λ _. m.before_self;
    order = λ q at. absurd (none-some q (same_Some None (Some q) (sym c.here ∙ at)));
  }

  -- the place before another
  pub record IsLeft (i : ℕ) : Type 0 where
    pub at_within : b' i < length new + rule.rings
    pub at_forth : f' (b' i) ≡ i
    pub at_ring : ring_at rule new (b' i) ≡ ring_at rule new i
    pub at_alone : ring_at rule new i ≡ None → b' i ≡ i
    pub at_order : (q : X) → slice_get new i ≡ Some (Some q) → (due_at rule new (b' i) ≤ rule.due q) × (rank (b' i) < rank i)

  next_left : (i : ℕ) → i ≡ f s → i ≢ s → IsLeft i
  next_left i e ne =
      let l = linked s slot in
      let n = linked (f s) l.behind_within in
      let at : b' i ≡ b s = ap b' e ∙ m.before_next in
      let own : ring_at rule new i ≡ Some (length old + rule.number p) =
      ring_same rule old new s None c i ne ∙ ap (λ j. ring_at rule old j) e ∙ ring_behind rule old b f rank linked s slot ∙ own_ring in
      record {
        at_within = rw at (omega (arith, l.before_within, c.count));
        at_forth = ap f' at ∙ m.behind_last ∙ sym e;
        at_ring = ap (λ j. ring_at rule new j) at ∙ ring_same rule old new s None c (b s) last_differs ∙ l.ring ∙ own_ring ∙ sym own;
        at_alone = λ none. absurd (none-some (length old + rule.number p) (sym none ∙ own));
        at_order = λ q there.
            let was : slice_get old (f s) ≡ Some (Some q) = ap (λ j. slice_get old j) (sym e) ∙ sym (c.others i ne) ∙ there in
            let o = n.order q was in
            let next_due : due_at rule old (b (f s)) ≡ rule.due p = ap (λ j. due_at rule old j) l.back ∙ ap (due_of rule) parked in
            let next_rank : rank (b (f s)) ≡ rank s = ap rank l.back in
            let before_due : due_at rule new (b' i) ≡ due_at rule old (b s) = ap (λ j. due_at rule new j) at ∙ due_same rule old new s None c (b s) last_differs in
            let before_rank : rank (b' i) ≡ rank (b s) = ap rank at in
            let i_rank : rank i ≡ rank (f s) = ap rank e in
            (omega (arith, before_due, next_due, o.0, own_order.0), omega (arith, before_rank, next_rank, i_rank, o.1, own_order.1));
      }

  other_left : (i : ℕ) → i < length old + rule.rings → i ≢ f s → i ≢ s → IsLeft i
  other_left i h apart ne =
      let l = linked i h in
      let at : b' i ≡ b i = m.before_other i apart ne in
      let not_here : b i ≢ s = λ e. apart (sym l.forth ∙ ap f e) in
      let not_last : b i ≢ b s = λ e. ne (same_before rule old b f rank linked i s h slot e) in
      record {
        at_within = rw at (omega (arith, l.before_within, c.count));
        at_forth = ap f' at ∙ m.behind_other (b i) not_last not_here ∙ l.forth;
        at_ring = ap (λ j. ring_at rule new j) at ∙ ring_same rule old new s None c (b i) not_here ∙ l.ring ∙ sym (ring_same rule old new s None c i ne);
        at_alone = λ none. at ∙ l.alone (sym (ring_same rule old new s None c i ne) ∙ none);
        at_order = λ q there.
            let o = l.order q (sym (c.others i ne) ∙ there) in
            let before_due : due_at rule new (b' i) ≡ due_at rule old (b i) = ap (λ j. due_at rule new j) at ∙ due_same rule old new s None c (b i) not_here in
            let before_rank : rank (b' i) ≡ rank (b i) = ap rank at in
            (omega (arith, before_due, o.0), omega (arith, before_rank, o.1));
      }

  left : (i : ℕ) → i < length old + rule.rings → i ≢ s → IsLeft i
  left i h ne = elim (cases_eq i (f s)) [ inl e ↦ next_left i e ne | inr apart ↦ other_left i h apart ne ]

  -- the place behind another
  right : (i : ℕ) → i < length old + rule.rings → i ≢ s → (f' i < length new + rule.rings) × (b' (f' i) ≡ i)
  right i h ne = elim (cases_eq i (b s)) [
    | inl e ↦
        let l = linked s slot in
        let at : f' i ≡ f s = ap f' e ∙ m.behind_last in
        (rw at (omega (arith, l.behind_within, c.count)), ap b' at ∙ m.before_next ∙ sym e)
    | inr apart ↦
        let l = linked i h in
        let at : f' i ≡ f i = m.behind_other i apart ne in
        let not_here : f i ≢ s = λ e. apart (sym l.back ∙ ap b e) in
        let not_next : f i ≢ f s = λ e. ne (same_behind rule old b f rank linked i s h slot e) in
        (rw at (omega (arith, l.behind_within, c.count)), ap b' at ∙ m.before_other (f i) not_next not_here ∙ l.back)
  ]

  pub removed : (i : ℕ) → i < length new + rule.rings → IsLinked rule new b' f' rank i
  removed i h = elim (cases_eq i s) [
    | inl e ↦ rw e taken_here
    | inr ne ↦
        let inside : i < length old + rule.rings = omega (arith, h, c.count) in
        let x = left i inside ne in
        let y = right i inside ne in
        record {
          before_within = x.at_within;
          behind_within = y.0;
          back = y.1;
          forth = x.at_forth;
          ring = x.at_ring;
          alone = x.at_alone;
          order = x.at_order;
        }
  ]
