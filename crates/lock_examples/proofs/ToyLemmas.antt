-- A turn with the small value may be given back.
use Rattle.std.proofs.Common.{◌≡◌, ◌⊎◌, inl, inr, ⊎_elim, ℕ, zero, suc, ◌+◌, ◌<◌, ◌≤◌, Bool, true, false, List, [], ◌∷◌, ◌++◌, length, Option, Some, None, refl, sym, ap, subst, ◌∙◌, add-zero, append-nil, length-append, arith}
use Rattle.std.proofs.lemmas.List.{append_cancel_left, length-replicate}
use Rattle.std.specs.Prelude.{replicate, slice_get, slice_index, slice_index_or, option_to_list, IfSome}
use Rattle.std.specs.List.{remove}
use Rattle.atomic_table.specs.Table.{Me}
use Rattle.mpm_base.specs.declared.conn.ConnName.{ConnName}
use Rattle.conn_machine.specs.declared.event.Entry.{Entry}
use Rattle.conn_machine.specs.declared.folded.Folded.{Folded}
use Rattle.conn_machine.specs.declared.kept.Ledger.{Ledger}
use Rattle.conn_machine.specs.declared.state.State.{State}
use Rattle.conn_machine.specs.Folds.{fold_of, opening_record}
use Rattle.conn_machine.specs.Runs.{after, entries_of, row_from, row_of, AreEntriesOf}
use Rattle.table_rule.specs.declared.view.Origin.{Origin}
use Rattle.table_rule.specs.declared.view.View.{View}
use Rattle.conn_machine.specs.Made.{HasSeen}
use Rattle.table_rule.specs.Histories.{ArePermitted, threads_of}
use Rattle.table_rule.specs.Ledgers.{FoldsOn, KeepsOn, MayGiveBack}
use Rattle.table_rule.specs.Tie.{IsNew}
use Rattle.lock_examples.proofs.PlaceLemmas.{each_after, each_first}
use Rattle.board_lock.specs.Passes.{GaveBack, TookTurn, fresh_view}
use Rattle.lock_examples.specs.declared.stage.ToyStage.{ToyStage}
use Rattle.lock_examples.specs.declared.stage.ToyStage.TheVariants.{Starts, Takes, Signals, Serves}
use Rattle.lock_examples.specs.Toy.{FoldsBetween, IsReadyPass, KeepsOpening, MakesStep, SeenToy, entries_from, first_of, maker, next_round, next_stage, round_at, stage_at, step_of, toy_ledger, toy_record, toy_shape, toy_state}
use Rattle.lock_examples.proofs.EntryLemmas.{AreStepsOf, FitsRow, IsAt, after-append, after_first, after_more, are_more, count_append, more_from, more_of, none_behind, permits_more, state_at, state_of}
use Rattle.lock_examples.proofs.FoldLemmas.{record_more, record_opens}

-- ## A turn without an entry

-- a turn may be given back as it was found, whatever else the pass did
pub may_leave : (u : View) (found : Ledger) → u.turn ≡ Some found → MayGiveBack u found
may_leave u found has = (
  found,
  has,
  record {
    added = [];
    change = inl record { base = refl; record_is = refl; history = sym (append-nil found.history); texts = ([], sym (append-nil found.texts)) };
    passes = refl;
    entries = tt;
    permitted = tt;
  },
)

-- a turn may be given back as it was found
pub may_stay : {K : Type 0} (v w : Me (Option K) View) (found : Ledger) → TookTurn v w found → MayGiveBack w.0 found
may_stay v w found took = may_leave w.0 found (ap (λ (u : View). u.turn) took.view)

-- ## What a turn finds

-- the record counts the entries of each pass among those that were folded
own_folded : (folded passes p : ℕ) → p < passes → slice_index (toy_record folded passes).ordinals p ≡ length (entries_of p (first_of folded))
own_folded folded passes p lt =
    each_after (λ i n. n + length (entries_of i (first_of folded))) (replicate passes 0) p 0 (subst (λ n. p < n) (sym (length-replicate passes 0)) lt)
    ∙ plus (slice_index (replicate passes 0) p) (length (entries_of p (first_of folded))) (each_first passes p 0)
  where
    plus : (z n : ℕ) → z ≡ 0 → z + n ≡ n
    plus z n e = omega arith

-- the state before the next step
state_found : {K : Type 0} (v w : Me (Option K) View) (old : SeenToy) → TookTurn v w (toy_ledger old)
    → after w.0.origin.state w.0.seen ≡ state_at (old.folded + old.count)
state_found v w old took =
    let f = took.is_found in
    let kept = entries_from old.folded old.count in
    let base : after toy_state (first_of old.folded) ≡ after w.0.origin.state f.left.entries =
    f.parts.base ∙ ap (λ (u : View). after u.origin.state f.left.entries) (sym took.view) in
    ap (after w.0.origin.state) f.parts.whole_is ∙ after-append w.0.origin.state f.left.entries kept
    ∙ ap (λ s. after s kept) (sym base) ∙ after_more old.folded old.count ∙ after_first (old.folded + old.count)

-- the pass found a history of so many steps
found_at : {K : Type 0} (p : ℕ) (v w : Me (Option K) View) (old : SeenToy) → TookTurn v w (toy_ledger old) → v.0.who.number ≡ p
    → (maker (stage_at (old.folded + old.count)) ≡ p → FitsRow (stage_at (old.folded + old.count)) (row_of p w.0.seen))
    → IsAt p (old.folded + old.count) w.0.origin.state w.0.seen
found_at p v w old took number row =
    let f = took.is_found in
    let kept = entries_from old.folded old.count in
    let lt : p < v.0.origin.passes = subst (λ q. q < v.0.origin.passes) number f.number in
    record {
      state = state_found v w old took;
      number =
          ap (λ l. length (entries_of p l)) f.parts.whole_is ∙ count_append p f.left.entries kept
          ∙ ap (λ m. m + length (entries_of p kept)) (sym (f.parts.ordinals p lt) ∙ own_folded old.folded old.passes p (subst (λ m. p < m) (sym f.parts.passes) lt))
          ∙ sym (ap (λ l. length (entries_of p l)) (more_of old.folded old.count) ∙ count_append p (first_of old.folded) kept);
      row = row;
    }

-- once the connection was taken, pass 0 signals it or does nothing
later : (n : ℕ) → (stage_at (suc (suc n)) ≡ Signals) ⊎ (stage_at (suc (suc n)) ≡ Serves)
later zero = inl refl
later (suc n) = ⊎_elim (λ e. inr (ap next_stage e)) (λ e. inl (ap next_stage e)) (later n)

fits_listener : (n : ℕ) (row : Option ConnName) → (n < 2 → row ≡ None) → maker (stage_at n) ≡ 0 → FitsRow (stage_at n) row
fits_listener zero row none mine = none (omega arith)
fits_listener (suc zero) row none mine = none (omega arith)
fits_listener (suc (suc n)) row none mine =
    ⊎_elim (λ e. subst (λ s. FitsRow s row) (sym e) tt) (λ e. absurd (differ (maker (stage_at (suc (suc n)))) mine (ap maker e))) (later n)
  where
    differ : (m : ℕ) → m ≡ 0 → m ≡ 1 → ⊥
    differ m e d = omega arith

fits_none : (s : ToyStage) (row : Option ConnName) → row ≡ None → FitsRow s row
fits_none Starts row none = none
fits_none Takes row none = none
fits_none Signals row none = tt
fits_none Serves row none = none

-- before the connection was taken, all entries are kept, and none gave pass 0 a connection
opening_row : (folded count : ℕ) (left whole : List Entry) → folded ≡ 0 → folded + count < 2 → length left ≡ 0
    → whole ≡ left ++ entries_from folded count → row_of 0 whole ≡ None
opening_row folded count (e ∷ left) whole none few empty is = absurd (omega arith)
opening_row (suc folded) count [] whole none few empty is = absurd (omega arith)
opening_row zero zero [] whole none few empty is = ap (row_of 0) is
opening_row zero (suc zero) [] whole none few empty is = ap (row_of 0) is
opening_row zero (suc (suc count)) [] whole none few empty is = absurd (omega arith)

-- what pass 0 finds
listener_at : {K : Type 0} (v w : Me (Option K) View) (old : SeenToy) → TookTurn v w (toy_ledger old) → v.0.who.number ≡ 0 → KeepsOpening old
    → IsAt 0 (old.folded + old.count) w.0.origin.state w.0.seen
listener_at v w old took number opening =
    found_at 0 v w old took number (fits_listener (old.folded + old.count) (row_of 0 w.0.seen) none)
  where
    none : old.folded + old.count < 2 → row_of 0 w.0.seen ≡ None
    none few =
        let f = took.is_found in
        let empty : old.folded ≡ 0 = opening few in
        let counted : 0 + length (first_of old.folded) ≡ length f.left.entries = f.parts.counted in
        let left : length f.left.entries ≡ 0 = sym counted ∙ ap (λ n. 0 + length (first_of n)) empty in
        opening_row old.folded old.count f.left.entries w.0.seen empty few left f.parts.whole_is

-- pass 1, which has no connection, finds that it has none
pub row_found : {K : Type 0} (v w : Me (Option K) View) (found : Ledger) → TookTurn v w found → v.0.who.number ≡ 1 → v.0.row ≡ None
    → ((f : Folded) (p : ℕ) (seen history : List Entry) → HasSeen p seen history → row_from f p history ≡ row_from f p seen) → row_of 1 w.0.seen ≡ None
row_found v w found took number row stays =
    let f = took.is_found in
    ap (λ p. row_of p w.0.seen) (sym number) ∙ stays (opening_record 0) v.0.who.number v.0.seen w.0.seen f.seen ∙ sym f.row_is ∙ row

-- what pass 1 finds
worker_at : {K : Type 0} (v w : Me (Option K) View) (old : SeenToy) → TookTurn v w (toy_ledger old) → v.0.who.number ≡ 1 → row_of 1 w.0.seen ≡ None
    → IsAt 1 (old.folded + old.count) w.0.origin.state w.0.seen
worker_at v w old took number none =
    found_at 1 v w old took number (λ mine. fits_none (stage_at (old.folded + old.count)) (row_of 1 w.0.seen) none)

-- ## A turn with steps

-- so many steps of the pass, from the one on that was found
record MayMake {K : Type 0} (p : ℕ) (v w : Me (Option K) View) (old : SeenToy) (k : ℕ) : Type 0 where
  pub entries : AreEntriesOf w.0.who.number w.0.origin.state (opening_record w.0.origin.passes) w.0.seen (entries_from (old.folded + old.count) k)
  pub permitted : ArePermitted w.0.hand.permit w.0.credits (after w.0.origin.state w.0.seen) (entries_from (old.folded + old.count) k)

may_make : {K : Type 0} (p : ℕ) (v w : Me (Option K) View) (old : SeenToy) (k : ℕ) → TookTurn v w (toy_ledger old) → v.0.who.number ≡ p
    → (p ≡ 1 → w.0.hand.permit ≡ Some 0) → IsAt p (old.folded + old.count) w.0.origin.state w.0.seen → AreStepsOf p (old.folded + old.count) k → MayMake p v w old k
may_make p v w old k took number has at own =
    let who : p ≡ w.0.who.number = sym number ∙ ap (λ (u : View). u.who.number) (sym took.view) in
    record {
      entries =
          subst (λ q. AreEntriesOf q w.0.origin.state (opening_record w.0.origin.passes) w.0.seen (entries_from (old.folded + old.count) k)) who
          (are_more w.0.origin.passes p (old.folded + old.count) k w.0.origin.state w.0.seen at own).0;
      permitted =
          subst (λ s. ArePermitted w.0.hand.permit w.0.credits s (entries_from (old.folded + old.count) k)) (sym at.state)
          (permits_more p (old.folded + old.count) k w.0.hand.permit w.0.credits own has);
    }

-- the pass may make so many steps
may_add : {K : Type 0} (p : ℕ) (v w : Me (Option K) View) (old : SeenToy) (k : ℕ) → TookTurn v w (toy_ledger old) → MayMake p v w old k
    → MayGiveBack w.0 (toy_ledger (record old { count = old.count + k }))
may_add p v w old k took may = (
  toy_ledger old,
  ap (λ (u : View). u.turn) took.view,
  record {
    added = entries_from (old.folded + old.count) k;
    change = inl record { base = refl; record_is = refl; history = more_from old.folded old.count k; texts = ([], refl) };
    passes = refl;
    entries = may.entries;
    permitted = may.permitted;
  },
)

-- pass 0 may make so many steps, fold all, and make so many steps more
may_fold : {K : Type 0} (v w : Me (Option K) View) (old : SeenToy) (k j : ℕ) → TookTurn v w (toy_ledger old) → v.0.who.number ≡ 0 → MayMake 0 v w old (k + j)
    → MayGiveBack w.0 (toy_ledger (record old { folded = old.folded + (old.count + k); count = j }))
may_fold v w old k j took number may =
    let at = old.folded + old.count in
    let most = old.folded + (old.count + k) in
    let who : w.0.who.number ≡ 0 = ap (λ (u : View). u.who.number) took.view ∙ number in
    let both : at + k ≡ most = omega arith in
    let all = more_from old.folded old.count k in
    let split : entries_from at (k + j) ≡ entries_from at k ++ entries_from most j =
    more_from at k j ∙ ap (λ i. entries_from at k ++ entries_from i j) both in (
      toy_ledger old,
      ap (λ (u : View). u.turn) took.view,
      record {
        added = entries_from at (k + j);
        change =
            inr (
              who,
              record {
                before = entries_from at k;
                behind = entries_from most j;
                added_is = split;
                base =
                    sym (after_more old.folded (old.count + k)) ∙ ap (after (after toy_state (first_of old.folded))) all;
                record_is = folded all;
                history = refl;
              },
            );
        passes = refl;
        entries = may.entries;
        permitted = may.permitted;
      },
    )
  where
    folded : entries_from old.folded (old.count + k) ≡ entries_from old.folded old.count ++ entries_from (old.folded + old.count) k
        → (toy_ledger (record old { folded = old.folded + (old.count + k); count = j })).folded
        ≡ record (fold_of (after toy_state (first_of old.folded)) (entries_from old.folded old.count ++ entries_from (old.folded + old.count) k) [] (toy_record old.folded old.passes))
        { lines = (toy_record (old.folded + (old.count + k)) old.passes).lines }
    folded all =
        subst (λ l. toy_record (old.folded + (old.count + k)) old.passes
        ≡ record (fold_of (after toy_state (first_of old.folded)) l [] (toy_record old.folded old.passes)) { lines = (toy_record (old.folded + (old.count + k)) old.passes).lines })
        all (record_more old.folded (old.count + k) old.passes)

-- 1 where a step was made
abbrev made_count : Bool → ℕ
made_count true = 1
made_count false = 0

-- what a try to make a step makes of a value: so many more
tried : (p : ℕ) (old new : SeenToy) (made : Bool) → MakesStep p old made new
    → AreStepsOf p (old.folded + old.count) (made_count made) × (new ≡ record old { count = old.count + made_count made })
tried p old new true makes =
    ((tt, ap (λ n. maker (stage_at n)) (add-zero (old.folded + old.count)) ∙ makes.0), makes.1)
tried p old new false makes = (tt, makes ∙ ap (λ n. record old { count = n }) (sym (add-zero old.count)))

steps_append : (p n a b : ℕ) → AreStepsOf p n a → AreStepsOf p (n + a) b → AreStepsOf p n (a + b)
steps_append p n a zero own more = subst (AreStepsOf p n) (sym (add-zero a)) own
steps_append p n a (suc b) own more =
    let one : suc (a + b) ≡ a + suc b = omega arith in
    let at : n + (a + b) ≡ n + a + b = omega arith in
    subst (AreStepsOf p n) one (steps_append p n a b own more.0, ap (λ i. maker (stage_at i)) at ∙ more.1)

-- the pass may give the turn back after it tried to make a step
may_end : {K : Type 0} (p : ℕ) (v w : Me (Option K) View) (old new : SeenToy) (made : Bool) → TookTurn v w (toy_ledger old) → v.0.who.number ≡ p
    → (p ≡ 1 → w.0.hand.permit ≡ Some 0) → IsAt p (old.folded + old.count) w.0.origin.state w.0.seen → MakesStep p old made new → MayGiveBack w.0 (toy_ledger new)
may_end p v w old new made took number has at makes =
    let did = tried p old new made makes in
    subst (λ t. MayGiveBack w.0 (toy_ledger t)) (sym did.1)
    (may_add p v w old (made_count made) took (may_make p v w old (made_count made) took number has at did.0))

-- pass 0 may
pub listener_may_end : {K : Type 0} (v w : Me (Option K) View) (old at new : SeenToy) (made : Bool) → TookTurn v w (toy_ledger old) → v.0.who.number ≡ 0
    → at ≡ old → MakesStep 0 at made new → KeepsOpening at → MayGiveBack w.0 (toy_ledger new)
listener_may_end v w old at new made took number same makes opening =
    may_end 0 v w old new made took number (λ one. absurd (omega arith)) (listener_at v w old took number (subst KeepsOpening same opening))
    (subst (λ t. MakesStep 0 t made new) same makes)

-- pass 1 may, with a permit and without a connection
pub worker_may_end : {K : Type 0} (v w : Me (Option K) View) (old at new : SeenToy) (made : Bool) → TookTurn v w (toy_ledger old) → v.0.who.number ≡ 1
    → v.0.hand.permit ≡ Some 0 → row_of 1 w.0.seen ≡ None → at ≡ old → MakesStep 1 at made new → MayGiveBack w.0 (toy_ledger new)
worker_may_end v w old at new made took number permit none same makes =
    may_end 1 v w old new made took number (λ one. ap (λ (u : View). u.hand.permit) took.view ∙ permit) (worker_at v w old took number none)
    (subst (λ t. MakesStep 1 t made new) same makes)

-- pass 0 may give the turn back after it folded between two tries
pub listener_may_end_folded : {K : Type 0} (v w : Me (Option K) View) (old at new : SeenToy) → TookTurn v w (toy_ledger old) → v.0.who.number ≡ 0
    → at ≡ old → FoldsBetween 0 at new → KeepsOpening at → MayGiveBack w.0 (toy_ledger new)
listener_may_end_folded v w old at new took number same folded opening =
    let is = subst (λ t. FoldsBetween 0 t new) same folded in
    let n = old.folded + old.count in
    let one = is.0 in let two = is.1 in
    let k = made_count is.2 in let j = made_count is.3 in
    let before = tried 0 old one is.2 is.4 in
    let behind = tried 0 two new is.3 is.6 in
    let found = listener_at v w old took number (subst KeepsOpening same opening) in
    let may : n + k ≡ two.folded + two.count → MayMake 0 v w old (k + j) = λ where_is. may_make 0 v w old (k + j) took number (λ o. absurd (omega arith)) found
    (steps_append 0 n k j before.0 (subst (λ i. AreStepsOf 0 i j) (sym where_is) behind.0)) in
    ⊎_elim
    (λ (e : two ≡ one). let now : two ≡ record old { count = old.count + k } = e ∙ before.1 in
    let where_is : n + k ≡ two.folded + two.count = sum old.folded old.count k ∙ ap (λ (t : SeenToy). t.folded + t.count) (sym now) in
    let end : new ≡ record old { count = old.count + (k + j) } = behind.1 ∙ ap (λ (t : SeenToy). record t { count = t.count + j }) now ∙ ap (λ m. record old { count = m }) (sum' old.count k j) in
    subst (λ t. MayGiveBack w.0 (toy_ledger t)) (sym end) (may_add 0 v w old (k + j) took (may where_is)))
    (λ (e : two ≡ record one { folded = one.folded + one.count; count = 0 }).
    let now : two ≡ record old { folded = old.folded + (old.count + k); count = 0 } = e ∙ ap (λ (t : SeenToy). record t { folded = t.folded + t.count; count = 0 }) before.1 in
    let where_is : n + k ≡ two.folded + two.count = sum'' old.folded old.count k ∙ ap (λ (t : SeenToy). t.folded + t.count) (sym now) in
    let none : 0 + j ≡ j = omega arith in
    let end : new ≡ record old { folded = old.folded + (old.count + k); count = j } = behind.1 ∙ ap (λ (t : SeenToy). record t { count = t.count + j }) now ∙ ap (λ m. record old { folded = old.folded + (old.count + k); count = m }) none in
    subst (λ t. MayGiveBack w.0 (toy_ledger t)) (sym end) (may_fold v w old k j took number (may where_is)))
    is.5
  where
    sum : (f c k : ℕ) → f + c + k ≡ f + (c + k)
    sum f c k = omega arith

    sum' : (c k j : ℕ) → c + k + j ≡ c + (k + j)
    sum' c k j = omega arith

    sum'' : (f c k : ℕ) → f + c + k ≡ f + (c + k) + 0
    sum'' f c k = omega arith

-- what pass 1 added to a history that was not folded: its steps
added_is : (old new : SeenToy) (made : Bool) (added : List Entry) → MakesStep 1 old made new → KeepsOn (toy_ledger old) (toy_ledger new) added
    → added ≡ entries_from (old.folded + old.count) (made_count made)
added_is old new made added makes keeps =
    let kept = entries_from old.folded old.count in
    let now = (tried 1 old new made makes).1 in
    append_cancel_left kept added (entries_from (old.folded + old.count) (made_count made))
    (sym keeps.history ∙ ap (λ (t : SeenToy). entries_from t.folded t.count) now ∙ more_from old.folded old.count (made_count made))

-- then it has no connection
none_added : (n : ℕ) (start : State) (whole : List Entry) (made : Bool) → IsAt 1 n start whole → row_of 1 whole ≡ None → AreStepsOf 1 n (made_count made)
    → row_of 1 (whole ++ entries_from n (made_count made)) ≡ None
none_added n start whole true at none own =
    let zero_more : n + 0 ≡ n = add-zero n in
    ap (λ i. row_of 1 (whole ++ step_of i)) zero_more ∙ none_behind n start whole at (ap (λ i. maker (stage_at i)) (sym zero_more) ∙ own.1)
none_added n start whole false at none own = ap (row_of 1) (append-nil whole) ∙ none

-- pass 1 has none after its turn
pub stays_free : {K : Type 0} (v w z : Me (Option K) View) (old at new : SeenToy) (made : Bool) → TookTurn v w (toy_ledger old) → v.0.who.number ≡ 1
    → row_of 1 w.0.seen ≡ None → at ≡ old → MakesStep 1 at made new → GaveBack w z (toy_ledger new) → z.0.row ≡ None
stays_free v w z old at new made took number none same makes gave =
    let e = gave.ends in
    let who : w.0.who.number ≡ 1 = ap (λ (u : View). u.who.number) took.view ∙ number in
    let turn : w.0.turn ≡ Some (toy_ledger old) = ap (λ (u : View). u.turn) took.view in
    let is : e.found ≡ toy_ledger old = cc (e.turn, turn) in
    let steps = subst (λ t. MakesStep 1 t made new) same makes in
    let added : e.change.added ≡ entries_from (old.folded + old.count) (made_count made) =
    ⊎_elim
    (λ (k : KeepsOn e.found (toy_ledger new) e.change.added). added_is old new made e.change.added steps (subst (λ l. KeepsOn l (toy_ledger new) e.change.added) is k))
    (λ (f : (w.0.who.number ≡ 0) × FoldsOn e.found (toy_ledger new) e.change.added). absurd (differ w.0.who.number f.0 who)) e.change.change in
    ap (λ (u : View). u.row) gave.view ∙ ap (λ p. row_of p z.0.seen) who ∙ ap (row_of 1) (e.seen ∙ ap (λ l. w.0.seen ++ l) added)
    ∙ none_added (old.folded + old.count) w.0.origin.state w.0.seen made (worker_at v w old took number none) none (tried 1 old new made steps).0
  where
    differ : (m : ℕ) → m ≡ 0 → m ≡ 1 → ⊥
    differ m e d = omega arith

-- ## The child

-- once it was started the child has its workers
started : (n : ℕ) → threads_of (state_at (suc n)) 0 ≡ 2
started n = by (stage_at n) (round_at n)
  where
    by : (s : ToyStage) (r : ℕ) → threads_of (state_of (next_stage s) (next_round s r)) 0 ≡ 2
    by Starts r = refl
    by Takes r = refl
    by Signals r = refl
    by Serves r = refl

-- so the turn found them
pub has_workers : {K : Type 0} (v w : Me (Option K) View) (old : SeenToy) (n : ℕ) → TookTurn v w (toy_ledger old)
    → n ≡ 0 + length (first_of old.folded) + length (entries_from old.folded old.count) → 0 < n
    → 2 ≡ threads_of (after w.0.origin.state w.0.seen) 0
has_workers v w old n took is some =
    subst (λ s. 2 ≡ threads_of s 0) (sym (state_found v w old took))
    (by (old.folded + old.count) (ap length (more_of old.folded old.count) ∙ length-append (first_of old.folded) (entries_from old.folded old.count)))
  where
    by : (m : ℕ) → length (first_of m) ≡ length (first_of old.folded) + length (entries_from old.folded old.count) → 2 ≡ threads_of (state_at m) 0
    by zero e = absurd (empty (length (first_of old.folded)) (length (entries_from old.folded old.count)) e is)
      where
        empty : (p q : ℕ) → 0 ≡ p + q → n ≡ 0 + p + q → ⊥
        empty p q d c = let more = some in omega arith
    by (suc m) e = sym (started m)

-- ## A new lock

-- the value without entries may be put into a lock
pub opens : (passes : ℕ) → 1 ≤ passes → passes ≤ 4099 → IsNew (toy_ledger (record { folded = 0; count = 0; passes = passes }))
opens passes some few = record {
  opened = record { slots = 1; children = 1; shape = toy_shape; bounds = refl; state = refl };
  some = some;
  few = few;
  history = refl;
  texts = refl;
  folded = record_opens passes;
}

some_children : 0 < length {A = ℕ} (replicate 32 0)
some_children = omega arith

-- a fresh pass is ready
pub ready : {K : Type 0} (origin : Origin) (p : ℕ) (me : Me (Option K) View) → me ≡ (fresh_view origin p, []) → IsReadyPass me
ready origin zero me is = subst IsReadyPass (sym is) record { free = record { hand = refl; idle = record { turn = refl; hand = refl; row = refl } }; credits = refl; room = λ e. some_children }
ready origin (suc p) me is = subst IsReadyPass (sym is) record { free = record { hand = refl; idle = record { turn = refl; hand = refl; row = refl } }; credits = refl; room = λ e. absurd (cc) }

-- ## Lists

-- an item between two lists
pub at_between : {X : Type 0} (xs ys : List X) (x : X) → slice_get (xs ++ x ∷ ys) (length xs) ≡ Some x
at_between [] ys x = refl
at_between (z ∷ xs) ys x = at_between xs ys x

-- an item of the first of two lists
pub at_first : {X : Type 0} (xs ys : List X) (i : ℕ) (x : X) → slice_get xs i ≡ Some x → slice_get (xs ++ ys) i ≡ Some x
at_first [] ys i x at = absurd (cc)
at_first (z ∷ xs) ys zero x at = at
at_first (z ∷ xs) ys (suc i) x at = at_first xs ys i x at

-- the last item is as all are
pub last_has : {X : Type 0} (P : X → Type 0) (old new : List X) (o : Option X) → old ≡ new ++ option_to_list o
    → ((i : ℕ) (x : X) → slice_get old i ≡ Some x → P x) → IfSome o P
last_has P old new None e all = tt
last_has P old new (Some x) e all = all (length new) x (ap (λ l. slice_get l (length new)) e ∙ at_between new [] x)

-- what is left behind the first item is as all are
pub rest_has : {X : Type 0} (P : X → Type 0) (old new : List X) → new ≡ remove old 0
    → ((i : ℕ) (x : X) → slice_get old i ≡ Some x → P x) → (i : ℕ) (x : X) → slice_get new i ≡ Some x → P x
rest_has P [] new e all i x at = all i x (ap (λ l. slice_get l i) (sym e) ∙ at)
rest_has P (y ∷ ys) new e all i x at = all (suc i) x (ap (λ l. slice_get l i) (sym e) ∙ at)

-- the first item is as all are
pub first_has : {X : Type 0} (P : X → Type 0) (old : List X) (x : X) → 0 < length old → x ≡ slice_index_or old 0 x
    → ((i : ℕ) (x : X) → slice_get old i ≡ Some x → P x) → P x
first_has P [] x some e all = absurd (omega arith)
first_has P (y ∷ ys) x some e all = all 0 x (ap Some (sym e))
