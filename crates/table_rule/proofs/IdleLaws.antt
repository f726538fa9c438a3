-- Steps on the idle words.
use Rattle.std.proofs.Common.{◌≡◌, ◌≢◌, ◌⊎◌, ℕ, ◌+◌, ◌-◌, ◌%◌, ◌^◌, ◌<◌, ◌≤◌, ◌==◌, [], length, set, Option, Some, None, Bool, true, false, refl, sym, ap, ◌∙◌, subst, inl, inr, ⊎_elim, append-nil, arith}
use Rattle.std.specs.Prelude.{slice_index, nat_lt}
use Rattle.std.proofs.Math.Nat.{mod-eq_of_lt, add-mod_right}
use Rattle.std.proofs.lemmas.Bool.{ltb-true}
use native.Mathlib.Decide.{ℕ_discrete}
use mathlib.Core.Option as m
use lib.ListN.{get_elem?}
use prog.Atomic.{either}
use Rattle.atomic_table.specs.Table.{State, Me, step, Act, Allows, Valid, stepped, carried_after}
use Rattle.atomic_table.specs.Table.Act.{keeps}
use Rattle.atomic_table.proofs.Lists.{at_set}
use Rattle.conn_machine.specs.declared.kept.Ledger.{Ledger}
use Rattle.conn_machine.specs.Folds.{opening_record}
use Rattle.conn_machine.specs.Laws.{idle_in}
use Rattle.conn_machine.specs.Made.{AreMade, HasSeen}
use Rattle.conn_machine.specs.Runs.{after}
use Rattle.table_rule.specs.declared.view.Hand.{Hand}
use Rattle.table_rule.specs.declared.view.Origin.{Origin}
use Rattle.table_rule.specs.declared.view.Past.{Past}
use Rattle.table_rule.specs.declared.view.View.{View}
use Rattle.table_rule.specs.Histories.{threads_of}
use Rattle.table_rule.specs.Views.{IsAwake, IsIdle, credited_view, seeing_view, with_permit, with_try}
use Rattle.table_rule.specs.IdleWords.{bias, bit_at, sum_of, permits, tries, HasPermit, AreIdleWords}
use Rattle.table_rule.specs.Pasts.{MakesStepOn}
use Rattle.table_rule.specs.Steps.{AddsCredit, LooksAtIdle, Releases, TriesForPermit, DropsCredit, Undoes, tried_view, uncredited_view}
use Rattle.table_rule.specs.Tie.{IsTied, origin_of}
use Rattle.table_rule.proofs.MachineLemmas.{SomeoneHas, none_some, seen_whole, some_is}
use Rattle.table_rule.proofs.PastLemmas.{next_step, past_step, past_with, told}
use Rattle.table_rule.proofs.SumLemmas.{bit_other, bit_self, sum_has, sum_same, sum_set, tries_le}
use Rattle.table_rule.proofs.TieLemmas.{drawn_same, first_is, idle_same, moved, same_place, views_of}
use Rattle.table_rule.proofs.GiveLaws.{holder}
use Rattle.table_rule.proofs.WordLemmas.{first_after, first_same, set_length, word_again, word_else, word_here}
use Rattle.table_rule.proofs.WorkerLaws.{carried_permits}

-- a share that goes was one
less : (k : ℕ) (o : Option ℕ) → o ≡ Some k → bit_at k o ≡ 1
less k o e = ap (bit_at k) e ∙ bit_self k

-- and none of another child
gone_else : (j k : ℕ) (o : Option ℕ) → o ≡ Some k → j ≢ k → 0 ≡ bit_at j o
gone_else j k o e ne = sym (ap (bit_at j) e ∙ bit_other j k ne)

-- the child of an idle word
word_child : (k : ℕ) → k + 2 - 2 ≡ k
word_child k = omega arith

module _ {K : Type 0} (ledger : K → Ledger) (o : Ledger) where
  -- the past after a step on an idle word, which left this number
  abbrev past_of : (s : State (Option K) View) → IsTied ledger o s → ℕ → View → ℕ → ℕ → Past
  past_of s t id v k x = past_with (next_step t.steps id k (slice_index s.words (k + 2)) x) v.past

  -- what the step tells
  step_told : (s : State (Option K) View) (t : IsTied ledger o s) (id : ℕ) (v changed : View) (k x left : ℕ) → x ≡ left
      → MakesStepOn (k + 2) (slice_index s.words (k + 2)) left v changed (record changed { past = past_of s t id v k x })
  step_told s t id v changed k x left is =
      told (k + 2) (slice_index s.words (k + 2)) left (next_step t.steps id k (slice_index s.words (k + 2)) x) v changed (record changed { past = past_of s t id v k x }) refl refl is refl

  -- a step on an idle word, which changes a view's permit or try of that child
  hand_step : (s : State (Option K) View) (t : IsTied ledger o s) (id : ℕ) (v : View) (hand : Hand) (k x : ℕ) → get_elem? s.views id ≡ m.some v → v.who.resting ≡ false → k < 32
      → ((j : ℕ) → j ≢ k → (bit_at j hand.permit ≡ bit_at j v.hand.permit) × (bit_at j hand.trying ≡ bit_at j v.hand.trying))
      → x + (bit_at k hand.permit + bit_at k hand.trying) ≡ slice_index s.words (k + 2) + (bit_at k v.hand.permit + bit_at k v.hand.trying)
      → sum_of (permits k) s.views + bit_at k hand.permit ≤ slice_index t.first.credits k + bit_at k v.hand.permit
      → ((j : ℕ) → hand.permit ≡ Some j → j < 32)
      → (hand.permit ≡ v.hand.permit) ⊎ (v.row ≡ None)
      → IsTied ledger o record { words = set s.words (k + 2) x; homes = s.homes; views = set s.views id (record v { hand = hand; past = past_of s t id v k x }) }
  hand_step s t id v hand k x at up lt others new permitted children free =
      let w : View = record v { hand = hand; past = past_of s t id v k x } in
      let words = set s.words (k + 2) x in
      let mine = t.fits id v at in
      let f = first_after s.views id v w t.first at t.at in
      let credits : f.view.credits ≡ t.first.credits = first_same (λ (q : View). q.credits) s.views id v w t.first f (λ _. refl) in
      let here : slice_index words (k + 2) ≡ x = word_here s.words (k + 2) x (let c = t.count in omega arith) in
      moved ledger o s t id v w f words s.homes t.history
      (set_length s.words (k + 2) x ∙ t.count) t.made t.queued t.undrawn
      (λ j u _ e. t.fits j u e)
      record { number = mine.number; origin_is = mine.origin_is; begins = mine.begins; seen = mine.seen; row = mine.row }
      (same_place ledger o s words t.first.left f.view.left t.history id v w at refl (λ _ _. refl) (word_else s.words (k + 2) 0 x (λ e. omega arith)) (first_same (λ (q : View). q.left) s.views id v w t.first f (λ _. refl)) t.place)
      (drawn_same (origin_of o) s.words words s.views id w t.first.draws f.view.draws t.drawn (word_else s.words (k + 2) 1 x (λ e. omega arith)) (first_same (λ (q : View). q.draws) s.views id v w t.first f (λ _. refl)))
      (subst (AreIdleWords (after o.base t.history) words (set s.views id w)) (sym credits) record {
        equation = λ j below. elim (ℕ_discrete j k) [
          | yes same ↦ subst (λ i. slice_index words (i + 2) + sum_of (permits i) (set s.views id w) + sum_of (tries i) (set s.views id w) ≡ bias + slice_index t.first.credits i) (sym same)
              (let e = t.idle.equation k lt in let p = sum_set (permits k) s.views id v w at in let q = sum_set (tries k) s.views id v w at in omega (arith, here, new))
          | no ne ↦ let e = t.idle.equation j below in let c = others j ne in
              let p = sum_same (permits j) s.views id v w at c.0 in let q = sum_same (tries j) s.views id v w at c.1 in
              let u = word_else s.words (k + 2) (j + 2) x (λ e. ne (omega arith)) in omega arith
        ];
        permitted = λ j below. elim (ℕ_discrete j k) [
          | yes same ↦ subst (λ i. sum_of (permits i) (set s.views id w) ≤ slice_index t.first.credits i) (sym same)
              (let p = sum_set (permits k) s.views id v w at in omega (arith, permitted))
          | no ne ↦ let e = t.idle.permitted j below in let p = sum_same (permits j) s.views id v w at (others j ne).0 in omega arith
        ];
        credited = t.idle.credited;
        small = t.idle.small;
        full = t.idle.full;
        children = λ j u e i has. ⊎_elim
            (λ (z : (j ≡ id) × (w ≡ u)). children i (ap (λ (q : View). q.hand.permit) z.1 ∙ has))
            (λ (z : (j ≢ id) × (get_elem? s.views j ≡ m.some u)). t.idle.children j u z.1 i has)
            (at_set s.views id j w u e);
        holders = λ j u e. ⊎_elim
            (λ (z : (j ≡ id) × (w ≡ u)). subst (HasPermit (after o.base t.history)) z.1
            (λ name r is there carried. ⊎_elim
            (λ (kept : hand.permit ≡ v.hand.permit). kept ∙ t.idle.holders id v at name r is there carried)
            (λ (none : v.row ≡ None). none_some v.row name none is)
            free))
            (λ (z : (j ≢ id) × (get_elem? s.views j ≡ m.some u)). t.idle.holders j u z.1)
            (at_set s.views id j w u e);
      })
      (past_step s.words s.views (length t.history) id v w t.steps k x at up up lt t.count refl)

  -- a look at an idle word leaves all else
  noted : (s : State (Option K) View) (t : IsTied ledger o s) (id : ℕ) (v : View) (k : ℕ) → get_elem? s.views id ≡ m.some v → v.who.resting ≡ false → k < 32
      → IsTied ledger o record { words = set s.words (k + 2) (slice_index s.words (k + 2)); homes = s.homes; views = set s.views id (record v { past = past_of s t id v k (slice_index s.words (k + 2)) }) }
  noted s t id v k at up lt =
      hand_step s t id v v.hand k (slice_index s.words (k + 2)) at up lt
      (λ j ne. (refl, refl)) refl (let p = t.idle.permitted k lt in omega arith)
      (λ j e. t.idle.children id v at j e) (inl refl)

  -- ## A permit

  abbrev TriesGoal : (s : State (Option K) View) (id : ℕ) (me : Me (Option K) View) (k x : ℕ) → Bool → Type 0
  TriesGoal s id me k x b = (w : View) × (a : Act (Option K)) × Valid s.homes me.1 a
      × IsTied ledger o (stepped s (k + 2) x id me.1 w a)
      × (carried_after me.1 a ≡ me.1) × MakesStepOn (k + 2) (slice_index s.words (k + 2)) (slice_index s.words (k + 2) - 1) me.0 (tried_view b k me.0) w

  tried : (s : State (Option K) View) (t : IsTied ledger o s) (id : ℕ) (me : Me (Option K) View) (k x : ℕ) → get_elem? s.views id ≡ m.some me.0 → me.0.who.resting ≡ false → k < 32
      → me.0.row ≡ None → me.0.hand.permit ≡ None → me.0.hand.trying ≡ None → x + 1 ≡ slice_index s.words (k + 2)
      → (b : Bool) → nat_lt bias (slice_index s.words (k + 2)) ≡ b → TriesGoal s id me k x b
  tried s t id me k x at up lt no_row no_permit no_try word true is =
      let hand : Hand = record me.0.hand { permit = Some k } in
      let above : bias < slice_index s.words (k + 2) = ltb-true bias (slice_index s.words (k + 2)) is in
      let self = bit_self k in
      let p0 : bit_at k me.0.hand.permit ≡ 0 = ap (bit_at k) no_permit in (
        record me.0 { hand = hand; past = past_of s t id me.0 k x },
        keeps,
        tt,
        hand_step s t id me.0 hand k x at up lt
            (λ j ne. (bit_other j k ne ∙ sym (ap (bit_at j) no_permit), refl))
            (omega arith)
            (let e = t.idle.equation k lt in omega arith)
            (λ j e. subst (λ i. i < 32) (some_is (Some k) k j refl e) lt)
            (inr no_row),
        refl,
        step_told s t id me.0 (record me.0 { hand = hand }) k x (slice_index s.words (k + 2) - 1) (omega arith),
      )
  tried s t id me k x at up lt no_row no_permit no_try word false is =
      let hand : Hand = record me.0.hand { trying = Some k } in
      let self = bit_self k in
      let t0 : bit_at k me.0.hand.trying ≡ 0 = ap (bit_at k) no_try in (
        record me.0 { hand = hand; past = past_of s t id me.0 k x },
        keeps,
        tt,
        hand_step s t id me.0 hand k x at up lt
            (λ j ne. (refl, bit_other j k ne ∙ sym (ap (bit_at j) no_try)))
            (omega arith)
            (let e = t.idle.permitted k lt in omega arith)
            (λ j e. t.idle.children id me.0 at j e)
            (inl refl),
        refl,
        step_told s t id me.0 (record me.0 { hand = hand }) k x (slice_index s.words (k + 2) - 1) (omega arith),
      )

  pub tries_law : (slots id : ℕ) (me : Me (Option K) View) (k : ℕ) → k < 32 → IsAwake me.0 → IsIdle me.0
      → Allows (IsTied ledger o) slots id me (k + 2) (λ n. (n + (2 ^ 64 - 1)) % 2 ^ 64) (TriesForPermit (step slots (k + 2) 1 0 m.none) me)
  tries_law slots id me k lt awake idle s t len at small =
      let n = slice_index s.words (k + 2) in
      let x = (n + (2 ^ 64 - 1)) % 2 ^ 64 in
      let positive : 0 < n = (let e = t.idle.equation k lt in let p = t.idle.permitted k lt in let q = tries_le k s.views in
      let d = t.drawn.views_are in let w = t.drawn.few in let f = t.few in omega arith) in
      let word : x + 1 ≡ n = (let a : n + (2 ^ 64 - 1) ≡ (n - 1) + 2 ^ 64 = omega arith in let b : x ≡ n - 1 = ap (λ y. y % 2 ^ 64) a ∙ add-mod_right (n - 1) (2 ^ 64) ∙ mod-eq_of_lt (omega arith) in omega arith) in
      let r = tried s t id me k x at awake lt idle.row (ap (λ (h : Hand). h.permit) idle.hand) (ap (λ (h : Hand). h.trying) idle.hand) word (nat_lt bias n) refl in
      (r.0, r.1, r.2, r.3, (r.4, subst (λ i. MakesStepOn (k + 2) n (n - 1) me.0 (tried_view (nat_lt bias n) i me.0) r.0) (sym (word_child k)) r.5))

  -- a word to which something is added stays small
  word_small : (s : State (Option K) View) (t : IsTied ledger o s) (k n : ℕ) → k < 32 → n ≤ 64 → slice_index s.words (k + 2) + n < 2 ^ 64
  word_small s t k n lt few = let e = t.idle.equation k lt in let c = t.idle.small k lt in omega arith

  pub undoes_law : (slots id : ℕ) (me : Me (Option K) View) (k : ℕ) → k < 32 → IsAwake me.0 → me.0.hand.trying ≡ Some k
      → Allows (IsTied ledger o) slots id me (k + 2) (λ n. (n + 1) % 2 ^ 64) (Undoes (step slots (k + 2) 1 0 m.none) me)
  undoes_law slots id me k lt awake trying s t len at small =
      let n = slice_index s.words (k + 2) in
      let had = less k me.0.hand.trying trying in
      let word : (n + 1) % 2 ^ 64 ≡ n + 1 = mod-eq_of_lt (word_small s t k 1 lt (omega arith)) in (
        record me.0 { hand = record me.0.hand { trying = None }; past = past_of s t id me.0 k ((n + 1) % 2 ^ 64) },
        keeps,
        tt,
        hand_step s t id me.0 (record me.0.hand { trying = None }) k ((n + 1) % 2 ^ 64) at awake lt
            (λ j ne. (refl, gone_else j k me.0.hand.trying trying ne))
            (omega (arith, word, had))
            (let e = t.idle.permitted k lt in omega arith)
            (λ j e. t.idle.children id me.0 at j e)
            (inl refl),
        (refl, step_told s t id me.0 (with_try None me.0) k ((n + 1) % 2 ^ 64) (n + 1) word),
      )

  pub releases_law : (slots id : ℕ) (me : Me (Option K) View) (k : ℕ) → k < 32 → IsAwake me.0 → me.0.hand.permit ≡ Some k → me.0.row ≡ None
      → Allows (IsTied ledger o) slots id me (k + 2) (λ n. (n + 1) % 2 ^ 64) (Releases (step slots (k + 2) 1 0 m.none) me)
  releases_law slots id me k lt awake permit no_row s t len at small =
      let n = slice_index s.words (k + 2) in
      let had = less k me.0.hand.permit permit in
      let in_sum : permits k me.0 ≤ sum_of (permits k) s.views = sum_has (permits k) s.views id me.0 at in
      let word : (n + 1) % 2 ^ 64 ≡ n + 1 = mod-eq_of_lt (word_small s t k 1 lt (omega arith)) in (
        record me.0 { hand = record me.0.hand { permit = None }; past = past_of s t id me.0 k ((n + 1) % 2 ^ 64) },
        keeps,
        tt,
        hand_step s t id me.0 (record me.0.hand { permit = None }) k ((n + 1) % 2 ^ 64) at awake lt
            (λ j ne. (gone_else j k me.0.hand.permit permit ne, refl))
            (omega (arith, word, had))
            (let e = t.idle.permitted k lt in omega (arith, had))
            (λ j e. none_some None j refl e)
            (inr no_row),
        (refl, step_told s t id me.0 (with_permit None me.0) k ((n + 1) % 2 ^ 64) (n + 1) word),
      )

  -- ## A credit

  -- a step of pass 0 on an idle word, which changes the credit of that child
  credit_step : (s : State (Option K) View) (t : IsTied ledger o s) (id : ℕ) (v : View) (k n x : ℕ) → get_elem? s.views id ≡ m.some v → v.who.resting ≡ false → id ≡ 0 → k < 32
      → x + slice_index v.credits k ≡ slice_index s.words (k + 2) + n
      → sum_of (permits k) s.views ≤ n → n ≤ 64
      → (n ≡ 0) ⊎ (n ≡ threads_of (after o.base t.history) k)
      → IsTied ledger o record { words = set s.words (k + 2) x; homes = s.homes; views = set s.views id (record (credited_view k n v) { past = past_of s t id v k x }) }
  credit_step s t id v k n x at up here lt new permitted few credited =
      let w : View = record (credited_view k n v) { past = past_of s t id v k x } in
      let words = set s.words (k + 2) x in
      let mine = t.fits id v at in
      let f = first_after s.views id v w t.first at t.at in
      let first : v ≡ t.first = first_is ledger o s t id v at here in
      let old : v.credits ≡ t.first.credits = ap (λ (q : View). q.credits) first in
      let credits : f.view.credits ≡ set v.credits k n = ⊎_elim
      (λ (y : (id ≡ 0) × (f.view ≡ w) × (t.first ≡ v)). ap (λ (q : View). q.credits) y.1)
      (λ (z : (id ≢ 0) × (f.view ≡ t.first)). absurd (z.0 here))
      f.which in
      let full : length v.credits ≡ 32 = ap length old ∙ t.idle.full in
      let now : slice_index (set v.credits k n) k ≡ n = word_here v.credits k n (omega (arith, full)) in
      let else_same : (j : ℕ) → j ≢ k → slice_index (set v.credits k n) j ≡ slice_index t.first.credits j = λ j ne. word_else v.credits k j n ne ∙ ap (λ l. slice_index l j) old in
      let before : slice_index v.credits k ≡ slice_index t.first.credits k = ap (λ l. slice_index l k) old in
      let here_word : slice_index words (k + 2) ≡ x = word_here s.words (k + 2) x (let c = t.count in omega arith) in
      let s_permits : (j : ℕ) → sum_of (permits j) (set s.views id w) ≡ sum_of (permits j) s.views = λ j. sum_same (permits j) s.views id v w at refl in
      let s_tries : (j : ℕ) → sum_of (tries j) (set s.views id w) ≡ sum_of (tries j) s.views = λ j. sum_same (tries j) s.views id v w at refl in
      moved ledger o s t id v w f words s.homes t.history
      (set_length s.words (k + 2) x ∙ t.count) t.made t.queued t.undrawn
      (λ j u _ e. t.fits j u e)
      record { number = mine.number; origin_is = mine.origin_is; begins = mine.begins; seen = mine.seen; row = mine.row }
      (same_place ledger o s words t.first.left f.view.left t.history id v w at refl (λ _ _. refl) (word_else s.words (k + 2) 0 x (λ e. omega arith)) (first_same (λ (q : View). q.left) s.views id v w t.first f (λ _. refl)) t.place)
      (drawn_same (origin_of o) s.words words s.views id w t.first.draws f.view.draws t.drawn (word_else s.words (k + 2) 1 x (λ e. omega arith)) (first_same (λ (q : View). q.draws) s.views id v w t.first f (λ _. refl)))
      (subst (AreIdleWords (after o.base t.history) words (set s.views id w)) (sym credits) record {
        equation = λ j below. elim (ℕ_discrete j k) [
          | yes same ↦ subst (λ i. slice_index words (i + 2) + sum_of (permits i) (set s.views id w) + sum_of (tries i) (set s.views id w) ≡ bias + slice_index (set v.credits k n) i) (sym same)
              (let e = t.idle.equation k lt in let p = s_permits k in let q = s_tries k in omega (arith, here_word, new, now, before))
          | no ne ↦ let e = t.idle.equation j below in let p = s_permits j in let q = s_tries j in let c = else_same j ne in
              let u = word_else s.words (k + 2) (j + 2) x (λ e. ne (omega arith)) in omega arith
        ];
        permitted = λ j below. elim (ℕ_discrete j k) [
          | yes same ↦ subst (λ i. sum_of (permits i) (set s.views id w) ≤ slice_index (set v.credits k n) i) (sym same) (let p = s_permits k in omega (arith, permitted, now))
          | no ne ↦ let e = t.idle.permitted j below in let p = s_permits j in let c = else_same j ne in omega arith
        ];
        credited = λ j below. elim (ℕ_discrete j k) [
          | yes same ↦ subst (λ i. (slice_index (set v.credits k n) i ≡ 0) ⊎ (slice_index (set v.credits k n) i ≡ threads_of (after o.base t.history) i)) (sym same)
              (⊎_elim (λ z. inl (now ∙ z)) (λ z. inr (now ∙ z)) credited)
          | no ne ↦ ⊎_elim (λ z. inl (else_same j ne ∙ z)) (λ z. inr (else_same j ne ∙ z)) (t.idle.credited j below)
        ];
        small = λ j below. elim (ℕ_discrete j k) [
          | yes same ↦ subst (λ i. slice_index (set v.credits k n) i ≤ 64) (sym same) (omega (arith, now, few))
          | no ne ↦ let e = t.idle.small j below in let c = else_same j ne in omega arith
        ];
        full = set_length v.credits k n ∙ full;
        children = λ j u e i has. ⊎_elim
            (λ (z : (j ≡ id) × (w ≡ u)). t.idle.children id v at i (ap (λ (q : View). q.hand.permit) z.1 ∙ has))
            (λ (z : (j ≢ id) × (get_elem? s.views j ≡ m.some u)). t.idle.children j u z.1 i has)
            (at_set s.views id j w u e);
        holders = λ j u e. ⊎_elim
            (λ (z : (j ≡ id) × (w ≡ u)). subst (HasPermit (after o.base t.history)) z.1 (t.idle.holders id v at))
            (λ (z : (j ≢ id) × (get_elem? s.views j ≡ m.some u)). t.idle.holders j u z.1)
            (at_set s.views id j w u e);
      })
      (past_step s.words s.views (length t.history) id v w t.steps k x at up up lt t.count refl)

  pub credits_law : (slots id : ℕ) (me : Me (Option K) View) (found : Ledger) (k n : ℕ) → k < 32 → IsAwake me.0 → me.0.who.number ≡ 0 → me.0.turn ≡ Some found
      → slice_index me.0.credits k ≡ 0 → n ≤ 64 → n ≡ threads_of (after me.0.origin.state me.0.seen) k
      → Allows (IsTied ledger o) slots id me (k + 2) (λ c. (c + n) % 2 ^ 64) (AddsCredit (step slots (k + 2) n 0 m.none) me)
  credits_law slots id me found k n lt awake zero_is has none few threads s t len at small =
      let v = me.0 in
      let mine = t.fits id v at in
      let here : id ≡ 0 = sym (mine.number) ∙ zero_is in
      let h = holder ledger o s t id v found at has in
      let base : v.origin.state ≡ o.base = ap (λ (g : Origin). g.state) (mine.origin_is awake) in
      let is : n ≡ threads_of (after o.base t.history) k = subst (λ l. n ≡ threads_of (after o.base l) k) h.seen (subst (λ st. n ≡ threads_of (after st v.seen) k) base threads) in
      let word : (slice_index s.words (k + 2) + n) % 2 ^ 64 ≡ slice_index s.words (k + 2) + n = mod-eq_of_lt (word_small s t k n lt few) in
      let first : v ≡ t.first = first_is ledger o s t id v at here in
      let none' : slice_index t.first.credits k ≡ 0 = ap (λ (q : View). slice_index q.credits k) (sym first) ∙ none in (
        record (credited_view k n v) { past = past_of s t id v k ((slice_index s.words (k + 2) + n) % 2 ^ 64) },
        keeps,
        tt,
        credit_step s t id v k n ((slice_index s.words (k + 2) + n) % 2 ^ 64) at awake here lt
            (omega (arith, word, none)) (let p = t.idle.permitted k lt in omega (arith, none')) few (inr is),
        (
          refl,
          subst (λ i. MakesStepOn (k + 2) (slice_index s.words (k + 2)) (slice_index s.words (k + 2) + n) v (credited_view i n v)
              (record (credited_view k n v) { past = past_of s t id v k ((slice_index s.words (k + 2) + n) % 2 ^ 64) })) (sym (word_child k))
              (step_told s t id v (credited_view k n v) k ((slice_index s.words (k + 2) + n) % 2 ^ 64) (slice_index s.words (k + 2) + n) word),
        ),
      )

  abbrev UncreditsGoal : (s : State (Option K) View) (id : ℕ) (me : Me (Option K) View) (k n : ℕ) → Bool → Type 0
  UncreditsGoal s id me k n b = (w : View) × (a : Act (Option K)) × Valid s.homes me.1 a
      × IsTied ledger o (stepped s (k + 2) (either b bias (slice_index s.words (k + 2))) id me.1 w a)
      × (carried_after me.1 a ≡ me.1) × MakesStepOn (k + 2) (slice_index s.words (k + 2)) (either b bias (slice_index s.words (k + 2))) me.0 (uncredited_view b k me.0) w

  uncredited : (s : State (Option K) View) (t : IsTied ledger o s) (id : ℕ) (me : Me (Option K) View) (k n : ℕ) → get_elem? s.views id ≡ m.some me.0 → me.0.who.resting ≡ false → id ≡ 0 → k < 32
      → slice_index me.0.credits k ≡ n → (b : Bool) → (slice_index s.words (k + 2) == bias + n) ≡ b → UncreditsGoal s id me k n b
  uncredited s t id me k n at up here lt credit true is =
      let found : slice_index s.words (k + 2) ≡ bias + n = grind (arith, is) in
      let first : me.0 ≡ t.first = first_is ledger o s t id me.0 at here in
      let credit' : slice_index t.first.credits k ≡ n = ap (λ (q : View). slice_index q.credits k) (sym first) ∙ credit in (
        record (credited_view k 0 me.0) { past = past_of s t id me.0 k bias },
        keeps,
        tt,
        credit_step s t id me.0 k 0 bias at up here lt (omega (arith, found, credit)) (let e = t.idle.equation k lt in omega (arith, found, credit')) (omega arith) (inl refl),
        refl,
        step_told s t id me.0 (credited_view k 0 me.0) k bias bias refl,
      )
  uncredited s t id me k n at up here lt credit false is = (
    record me.0 { past = past_of s t id me.0 k (slice_index s.words (k + 2)) },
    keeps,
    tt,
    noted s t id me.0 k at up lt,
    refl,
    step_told s t id me.0 me.0 k (slice_index s.words (k + 2)) (slice_index s.words (k + 2)) refl,
  )

  pub uncredits_law : (slots id : ℕ) (me : Me (Option K) View) (k n : ℕ) → k < 32 → IsAwake me.0 → me.0.who.number ≡ 0 → slice_index me.0.credits k ≡ n
      → Allows (IsTied ledger o) slots id me (k + 2) (λ x. either (x == bias + n) bias x) (DropsCredit (step slots (k + 2) (bias + n) bias m.none) me)
  uncredits_law slots id me k n lt awake zero_is credit s t len at small =
      let here : id ≡ 0 = sym ((t.fits id me.0 at).number) ∙ zero_is in
      let found = slice_index s.words (k + 2) in
      let r = uncredited s t id me k n at awake here lt credit (found == bias + n) refl in
      (r.0, r.1, r.2, r.3, (r.4, subst (λ i. MakesStepOn (k + 2) found (either (found == bias + n) bias found) me.0 (uncredited_view (found == bias + n) i me.0) r.0) (sym (word_child k)) r.5))

  -- ## A look at an idle word

  -- it leaves all else, but that the pass sees the history of that moment
  sees_all : (s : State (Option K) View) (t : IsTied ledger o s) (id : ℕ) (v : View) (k : ℕ) → get_elem? s.views id ≡ m.some v → v.who.resting ≡ false → k < 32
      → IsTied ledger o record {
        words = set s.words (k + 2) (slice_index s.words (k + 2));
        homes = s.homes;
        views = set s.views id (record (seeing_view t.history v) { past = past_of s t id v k (slice_index s.words (k + 2)) });
      }
  sees_all s t id v k at up lt =
      let x = slice_index s.words (k + 2) in
      let w : View = record (seeing_view t.history v) { past = past_of s t id v k x } in
      let words = set s.words (k + 2) x in
      let again : words ≡ s.words = word_again s.words (k + 2) in
      let mine = t.fits id v at in
      let f = first_after s.views id v w t.first at t.at in
      moved ledger o s t id v w f words s.homes t.history
      (set_length s.words (k + 2) x ∙ t.count) t.made t.queued t.undrawn
      (λ j u _ e. t.fits j u e)
      record { number = mine.number; origin_is = mine.origin_is; begins = ([], sym (append-nil t.history)); seen = λ _. seen_whole id t.history; row = mine.row }
      (same_place ledger o s words t.first.left f.view.left t.history id v w at refl (λ got h. sym (holder ledger o s t id v got at h).seen) (ap (λ l. slice_index l 0) again) (first_same (λ (q : View). q.left) s.views id v w t.first f (λ _. refl)) t.place)
      (drawn_same (origin_of o) s.words words s.views id w t.first.draws f.view.draws t.drawn (ap (λ l. slice_index l 1) again) (first_same (λ (q : View). q.draws) s.views id v w t.first f (λ _. refl)))
      (idle_same (after o.base t.history) s.words words s.views id v w t.first.credits f.view.credits t.idle at refl refl (λ j _. ap (λ l. slice_index l (j + 2)) again) (first_same (λ (q : View). q.credits) s.views id v w t.first f (λ _. refl)))
      (past_step s.words s.views (length t.history) id v w t.steps k x at up up lt t.count refl)

  pub idles_law : SomeoneHas → (slots id : ℕ) (me : Me (Option K) View) (k : ℕ) → k < 32 → IsAwake me.0
      → Allows (IsTied ledger o) slots id me (k + 2) (λ n. n) (LooksAtIdle (step slots (k + 2) 0 0 m.none) me)
  idles_law someone slots id me k lt awake s t len at small =
      let mine = t.fits id me.0 at in
      let number : me.0.who.number ≡ id = mine.number in
      let origin = mine.origin_is awake in
      let base : me.0.origin.state ≡ o.base = ap (λ (g : Origin). g.state) origin in
      let c = carried_permits someone o.base o.passes t.history s.words s.views t.first.credits (views_of ledger o s t) k in
      let e = t.idle.equation k lt in
      let p = t.idle.permitted k lt in
      let small_credit = t.idle.small k lt in
      let few : slice_index s.words (k + 2) - bias ≤ 64 = omega arith in
      let below : slice_index s.words (k + 2) - bias ≤ idle_in (after o.base t.history) k =
      ⊎_elim (λ z. omega arith) (λ z. omega arith) (t.idle.credited k lt) in (
        record (seeing_view t.history me.0) { past = past_of s t id me.0 k (slice_index s.words (k + 2)) },
        keeps,
        tt,
        sees_all s t id me.0 k at awake lt,
        (
          refl,
          few,
          (
            t.history,
            step_told s t id me.0 (seeing_view t.history me.0) k (slice_index s.words (k + 2)) (slice_index s.words (k + 2)) refl,
            subst (λ n. HasSeen n me.0.seen t.history) (sym number) (mine.seen awake),
            subst (λ (g : Origin). AreMade g.state (opening_record g.passes) t.history) (sym origin) t.made,
            subst (λ i. slice_index s.words (k + 2) - bias ≤ idle_in (after me.0.origin.state t.history) i) (sym (word_child k))
                (subst (λ st. slice_index s.words (k + 2) - bias ≤ idle_in (after st t.history) k) (sym base) below),
          ),
        ),
      )
