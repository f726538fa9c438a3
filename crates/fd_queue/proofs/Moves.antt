-- Each move of a seat keeps the order.
use Rattle.std.proofs.Common.{◌≡◌, ◌≢◌, ℕ, zero, suc, ◌+◌, ◌<◌, ◌≤◌, List, [], ◌∷◌, ◌++◌, length, length-append, set, Some, true, false, refl, sym, ap, ◌∙◌, subst, ⊎_elim, arith, append_assoc, append-nil}
use Rattle.std.specs.Prelude.{slice_get}
use Rattle.std.proofs.lemmas.Bool.{false≢true}
use Rattle.std.proofs.lemmas.List.{length-set}
use mathlib.Core.Option.{some, some-ne-none, some-injective}
use lib.ListN.{get_elem?}
use Rattle.crossbeam_queue.specs.Fifo.{Pushes, Pops, Forks, Learns}
use Rattle.atomic_table.proofs.Lists.{at_set, at_snoc}
use Rattle.fd_queue.specs.declared.seat.SeatView.{SeatView}
use Rattle.fd_queue.specs.Seats.{AreBelow, InOrder, PutsItem, StandsWith, HaveStood, TakesItem, WasHolding, new_seat, seat_view}

below_more : (n m : ℕ) (places : List ℕ) → n ≤ m → AreBelow n places → AreBelow m places
below_more n m [] le b = tt
below_more n m (p ∷ places) le b = (let q = b.0 in omega arith, below_more n m places le b.1)

below_snoc : (n : ℕ) (places : List ℕ) → AreBelow n places → AreBelow (n + 1) (places ++ n ∷ [])
below_snoc n [] b = (omega arith, tt)
below_snoc n (p ∷ places) b = (let q = b.0 in omega arith, below_snoc n places b.1)

long : (places : List ℕ) (n : ℕ) → length (places ++ n ∷ []) ≡ length places + 1
long places n = length-append places (n ∷ [])

module _ {T : Type 0} where
  get_behind : (xs ys : List T) (x : T) → slice_get (xs ++ x ∷ ys) (length xs) ≡ Some x
  get_behind [] ys x = refl
  get_behind (y ∷ xs) ys x = get_behind xs ys x

  whole : (xs : List T) → xs ≡ xs ++ []
  whole xs = sym (append-nil xs)

  snoc : (xs : List T) (x : T) → length (xs ++ x ∷ []) ≡ length xs + 1
  snoc [] x = omega arith
  snoc (y ∷ xs) x = let s = snoc xs x in omega arith

  fresh : (gone items : List T) → StandsWith gone items (new_seat false)
  fresh gone items = record { known = (gone ++ items, refl); taken = tt; put = tt; alone = λ is. absurd (false≢true is) }

  pub begins : InOrder {T = T} [] (new_seat true ∷ [])
  begins = record { gone = []; seats = one; one = λ id v at is. refl }
    where
      one : (id : ℕ) (v : SeatView T) → get_elem? (new_seat {T = T} true ∷ []) id ≡ some v → StandsWith [] [] v
      one zero v e = subst (StandsWith [] []) (some-injective _ _ e) record { known = ([], refl); taken = tt; put = tt; alone = λ _. (refl, refl) }
      one (suc id) v e = absurd (some-ne-none v (sym e))

  -- a seat stands below the number of seats
  below : (views : List (SeatView T)) (id : ℕ) (v : SeatView T) → get_elem? views id ≡ some v → id < length views
  below [] id v e = absurd (some-ne-none v (sym e))
  below (x ∷ xs) zero v e = omega arith
  below (x ∷ xs) (suc id) v e = let b = below xs id v e in omega arith

  -- of two seats none is alone
  two : {P : Type 0} (items : List T) (views : List (SeatView T)) → InOrder items views → (id j : ℕ) (v u : SeatView T) → get_elem? views id ≡ some v
      → get_elem? views j ≡ some u → j ≢ id → u.alone ≡ true → P
  two items views f id j v u at at' ne is =
      let n = f.one j u at' is in let a = below views id v at in let b = below views j u at' in absurd (ne (omega arith))

  -- one view changed, which stays alone where it was
  still_one : (items : List T) (views : List (SeatView T)) (f : InOrder items views) (id : ℕ) (v w : SeatView T) → get_elem? views id ≡ some v
      → (w.alone ≡ true → v.alone ≡ true) → (j : ℕ) (u : SeatView T) → get_elem? (set views id w) j ≡ some u → u.alone ≡ true → length (set views id w) ≡ 1
  still_one items views f id v w at alone j u e is = ⊎_elim
      (λ (z : (j ≡ id) × (w ≡ u)). length-set views id w ∙ f.one id v at (alone (ap (λ (q : SeatView T). q.alone) z.1 ∙ is)))
      (λ (z : (j ≢ id) × (get_elem? views j ≡ some u)). two items views f id j v u at z.1 z.0 is)
      (at_set views id j w u e)

  -- what a seat that is alone is told is exact
  pub lone : (n : ℕ) (v : SeatView T) → v.alone ≡ true → WasHolding n v → n + length v.taken ≡ length v.put
  lone n v is was =
      let s = was.2.1 in let a = s.alone is in let c = length-append was.2.0 was.0 in let m = was.1 in omega arith

  -- what the rule says of a seat
  pub stood : (id : ℕ) (v : SeatView T) → Learns (InOrder {T = T}) id v (HaveStood v)
  stood id v items views f at = (f.gone, f.seats id v at)

  pub puts : (n id : ℕ) (v : SeatView T) (x : T) → Pushes (InOrder {T = T}) n id v x (PutsItem v x)
  puts n id v x items views room f at =
      let all = f.gone ++ items in
      let w = seat_view (all ++ x ∷ []) (v.put ++ length all ∷ []) v.taken v.alone in
      let mine = f.seats id v at in
      let now : f.gone ++ (items ++ x ∷ []) ≡ all ++ x ∷ [] = sym (append_assoc f.gone items (x ∷ [])) in (
        w,
        record {
          gone = f.gone;
          seats = λ j u e. ⊎_elim
              (λ (z : (j ≡ id) × (w ≡ u)). subst (StandsWith f.gone (items ++ x ∷ [])) z.1 record {
                known = ([], now ∙ whole (all ++ x ∷ []));
                taken = mine.taken;
                put = subst (λ k. AreBelow k w.put) (sym (ap length now ∙ snoc all x)) (below_snoc (length all) v.put mine.put);
                alone = λ is. let a = mine.alone is in (a.0, ap length now ∙ snoc all x ∙ ap (λ k. k + 1) a.1 ∙ sym (long v.put (length all)));
              })
              (λ (z : (j ≢ id) × (get_elem? views j ≡ some u)). let o = f.seats j u z.1 in record {
                known = (o.known.0 ++ x ∷ [], now ∙ ap (λ l. l ++ x ∷ []) o.known.1 ∙ append_assoc u.known o.known.0 (x ∷ []));
                taken = o.taken;
                put = below_more (length all) _ u.put (omega (arith, ap length now, snoc all x)) o.put;
                alone = λ is. two items views f id j v u at z.1 z.0 is;
              })
              (at_set views id j w u e);
          one = still_one items views f id v w at (λ is. is);
        },
        (all, mine.known, mine.put, refl),
      )

  pub takes : (id : ℕ) (v : SeatView T) → Pops (InOrder {T = T}) id v (TakesItem v)
  takes id v x items views f at =
      let all = f.gone ++ x ∷ items in
      let w = seat_view all v.put (v.taken ++ length f.gone ∷ []) v.alone in
      let mine = f.seats id v at in
      let now : (f.gone ++ x ∷ []) ++ items ≡ all = append_assoc f.gone (x ∷ []) items in (
        w,
        record {
          gone = f.gone ++ x ∷ [];
          seats = λ j u e. ⊎_elim
              (λ (z : (j ≡ id) × (w ≡ u)). subst (StandsWith (f.gone ++ x ∷ []) items) z.1 record {
                known = ([], now ∙ whole all);
                taken = subst (λ k. AreBelow k w.taken) (sym (snoc f.gone x)) (below_snoc (length f.gone) v.taken mine.taken);
                put = subst (λ l. AreBelow (length l) v.put) (sym now) mine.put;
                alone = λ is. let a = mine.alone is in (snoc f.gone x ∙ ap (λ k. k + 1) a.0 ∙ sym (long v.taken (length f.gone)), ap length now ∙ a.1);
              })
              (λ (z : (j ≢ id) × (get_elem? views j ≡ some u)). let o = f.seats j u z.1 in record {
                known = (o.known.0, now ∙ o.known.1);
                taken = below_more (length f.gone) _ u.taken (omega (arith, snoc f.gone x)) o.taken;
                put = subst (λ l. AreBelow (length l) u.put) (sym now) o.put;
                alone = λ is. two (x ∷ items) views f id j v u at z.1 z.0 is;
              })
              (at_set views id j w u e);
          one = still_one (x ∷ items) views f id v w at (λ is. is);
        },
        (length f.gone, get_behind f.gone items x, mine.known, mine.taken, refl),
      )

  pub forks : (id : ℕ) (v : SeatView T) → Forks (InOrder {T = T}) id v (record v { alone = false }) (new_seat false)
  forks id v items views f at =
      let w : SeatView T = record v { alone = false } in
      let mine = f.seats id v at in
      record {
        gone = f.gone;
        seats = λ j u e. ⊎_elim
            (λ (o : get_elem? (set views id w) j ≡ some u). ⊎_elim
            (λ (z : (j ≡ id) × (w ≡ u)). subst (StandsWith f.gone items) z.1
            record { known = mine.known; taken = mine.taken; put = mine.put; alone = λ is. absurd (false≢true is) })
            (λ (z : (j ≢ id) × (get_elem? views j ≡ some u)). f.seats j u z.1)
            (at_set views id j w u o))
            (λ (z : new_seat false ≡ u). subst (StandsWith f.gone items) z (fresh f.gone items))
            (at_snoc (set views id w) (new_seat false) u j e);
        one = λ j u e is. ⊎_elim
            (λ (o : get_elem? (set views id w) j ≡ some u). ⊎_elim
            (λ (z : (j ≡ id) × (w ≡ u)). absurd (false≢true (ap (λ (q : SeatView T). q.alone) z.1 ∙ is)))
            (λ (z : (j ≢ id) × (get_elem? views j ≡ some u)). two items views f id j v u at z.1 z.0 is)
            (at_set views id j w u o))
            (λ (z : new_seat false ≡ u). absurd (false≢true (ap (λ (q : SeatView T). q.alone) z ∙ is)))
            (at_snoc (set views id w) (new_seat false) u j e);
      }
