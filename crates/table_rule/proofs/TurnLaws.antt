-- Steps on the turn word but for the give: the turn is taken, a pass lies down and wakes up.
use Rattle.std.proofs.Common.{◌≡◌, ◌≢◌, ℕ, ◌+◌, ◌*◌, ◌/◌, ◌%◌, ◌<◌, ◌==◌, List, [], ◌∷◌, length, set, Option, Some, None, Bool, true, false, true≢false, refl, sym, ap, ◌∙◌, subst, inr, ⊎_elim, append-nil, arith, eq-eqb}
use Rattle.std.specs.Prelude.{slice_index, slice_set, slice_get, IfSome}
use mathlib.Core.Option as m
use lib.ListN.{get_elem?}
use prog.Atomic.{either}
use Rattle.atomic_table.specs.Table.{State, Me, step, Act, Allows, Valid, stepped, carried_after, rest}
use Rattle.atomic_table.specs.Table.Act.{keeps, takes}
use Rattle.atomic_table.proofs.Lists.{at_set, set_here}
use Rattle.conn_machine.specs.declared.kept.Ledger.{Ledger}
use Rattle.conn_machine.specs.Folds.{opening_record}
use Rattle.conn_machine.specs.Runs.{AllAt, after, row_of}
use Rattle.table_rule.specs.declared.view.LastLeft.{LastLeft}
use Rattle.table_rule.specs.declared.view.Origin.{Origin}
use Rattle.table_rule.specs.declared.view.View.{View}
use Rattle.conn_machine.specs.Made.{AreMade, AreOfPasses, HasSeen}
use Rattle.table_rule.specs.Histories.{IsQueuedInTime}
use Rattle.table_rule.specs.Ledgers.{IsSplit}
use Rattle.table_rule.specs.Views.{IsAwake, IsFound, IsIdle, HasFreeWorker, resting_view, taken_view, waking_step, woken_view}
use Rattle.table_rule.specs.Pasts.{AreIdleSteps}
use Rattle.table_rule.specs.Steps.{IsTurnTaken, TakesTurn, LiesDown, WakesUp}
use Rattle.table_rule.specs.Tie.{IsTied, IsViewOf, KeptIsHome, KeptIsOut, origin_of}
use Rattle.table_rule.proofs.MachineLemmas.{RowsStay, SomeoneHas, none_some, row_by, seen_same, seen_whole}
use Rattle.table_rule.proofs.PastLemmas.{knows_none, past_changed, past_same, past_wakes}
use Rattle.table_rule.proofs.TieLemmas.{drawn_same, first_is, idle_same, moved, number_below, of_passes, same_place, stays, views_of}
use Rattle.table_rule.proofs.WordLemmas.{at_below, first_after, first_other, first_same, set_length, word_again, word_else, word_here}
use Rattle.table_rule.proofs.WorkerLaws.{free_worker}

if_some : {X : Type 0} (P : X → Type 0) (o : Option X) → ((x : X) → o ≡ Some x → P x) → IfSome o P
if_some P None all = tt
if_some P (Some x) all = all x refl

-- the other idle words
pub idle_else : (ws : List ℕ) (x k : ℕ) → slice_index (set ws 0 x) (k + 2) ≡ slice_index ws (k + 2)
idle_else ws x k = word_else ws 0 (k + 2) x (λ e. omega arith)

pub second_else : (ws : List ℕ) (x : ℕ) → slice_index (set ws 0 x) 1 ≡ slice_index ws 1
second_else ws x = word_else ws 0 1 x (λ e. omega arith)

pub turn_here : (ws : List ℕ) (x : ℕ) → length ws ≡ 34 → slice_index (set ws 0 x) 0 ≡ x
turn_here ws x count = word_here ws 0 x (omega (arith, count))

module _ {K : Type 0} (ledger : K → Ledger) (o : Ledger) where
  -- what a pass finds that takes the turn
  found_by : SomeoneHas → RowsStay → (s : State (Option K) View) (t : IsTied ledger o s) (id : ℕ) (v : View) (left : LastLeft) (found : Ledger) → get_elem? s.views id ≡ m.some v → IsAwake v
      → left ≡ t.first.left → IsSplit (origin_of o) left found t.history → IsFound v found t.history
  found_by someone stay s t id v left found at awake same parts =
      let mine = t.fits id v at in
      let number : v.who.number ≡ id = mine.number in
      let origin : v.origin ≡ origin_of o = mine.origin_is awake in
      let behind : HasSeen id v.seen t.history = mine.seen awake in
      let row : v.row ≡ row_of id v.seen = mine.row ∙ row_by id t.history v.seen (seen_same id v.seen t.history behind) in
      let home : (q : Origin) → q ≡ origin_of o → IfSome v.row (λ name. slice_get (after q.state t.history).rows name.slot ≡ slice_get (after q.state v.seen).rows name.slot) =
      λ q e. subst (λ (g : Origin). IfSome v.row (λ name. slice_get (after g.state t.history).rows name.slot ≡ slice_get (after g.state v.seen).rows name.slot)) (sym e)
      (if_some _ v.row (λ name is. stay o.base o.passes id v.seen t.history name t.opening t.made behind (sym row ∙ is))) in
      let room : (q : Origin) → q ≡ origin_of o → HasFreeWorker v (after q.state t.history) =
      λ q e. subst (λ (g : Origin). HasFreeWorker v (after g.state t.history)) (sym e)
      (λ none. if_some _ v.hand.permit (λ k is. free_worker someone o.base o.passes t.history s.words s.views t.first.credits (views_of ledger o s t) k id v at none is)) in
      record {
        seen = subst (λ n. HasSeen n v.seen t.history) (sym number) behind;
        made = subst (λ (g : Origin). AreMade g.state (opening_record g.passes) t.history) (sym origin) t.made;
        queued = subst (λ (g : Origin). AllAt IsQueuedInTime g.state t.history) (sym origin) t.queued;
        few = subst (λ (g : Origin). AreOfPasses g.passes t.history) (sym origin) (of_passes ledger o s t);
        number = subst (λ n. n < v.origin.passes) (sym number) (subst (λ (g : Origin). id < g.passes) (sym origin) (number_below ledger o s t id v at));
        left = left;
        parts = subst (λ (g : Origin). IsSplit g left found t.history) (sym origin) parts;
        own = λ z. same ∙ ap (λ (q : View). q.left) (sym (first_is ledger o s t id v at (sym number ∙ z)));
        row = home v.origin origin;
        row_is = row ∙ ap (λ n. row_of n v.seen) (sym number);
        room = room v.origin origin;
      }

  abbrev TakesGoal : (s : State (Option K) View) (id : ℕ) (v : View) (n : ℕ) → Bool → Type 0
  TakesGoal s id v n b = (w : View) × (a : Act (Option K)) × Valid s.homes [] a
      × IsTied ledger o (stepped s 0 (either b (n + 1) (slice_index s.words 0)) id [] w a)
      × IsTurnTaken ledger b (v, []) (w, carried_after [] a)

  taken_home : SomeoneHas → RowsStay → (s : State (Option K) View) (t : IsTied ledger o s) (id : ℕ) (v : View) (n : ℕ) → get_elem? s.views id ≡ m.some v → IsAwake v → slice_index s.words 0 ≡ n
      → KeptIsHome ledger (origin_of o) t.first.left t.history s → TakesGoal s id v n true
  taken_home someone stay s t id v n at awake found home =
      let w : View = taken_view v (ledger home.kept) t.history in
      let f = first_after s.views id v w t.first at t.at in
      let words = set s.words 0 (n + 1) in
      let was = home.word in
      let mine = t.fits id v at in (
        w,
        takes 0 (Some home.kept),
        ap (λ hs. get_elem? hs 0) home.home,
        moved ledger o s t id v w f words (slice_set s.homes 0 m.none) t.history
            (set_length s.words 0 (n + 1) ∙ t.count) t.made t.queued t.undrawn
            (λ j u _ e. t.fits j u e)
            record { number = mine.number; origin_is = mine.origin_is; begins = ([], sym (append-nil t.history)); seen = λ _. seen_whole id t.history; row = mine.row }
            (inr record {
              holder = id;
              view = w;
              at = set_here s.views id w (at_below s.views id v at);
              found = ledger home.kept;
              has = refl;
              seen = refl;
              home = ap (λ hs. slice_set hs 0 m.none) home.home;
              parts = subst (λ l. IsSplit (origin_of o) l (ledger home.kept) t.history) (sym (first_same (λ (q : View). q.left) s.views id v w t.first f (λ _. refl))) home.parts;
              word = turn_here s.words (n + 1) t.count ∙ (let e : n + 1 ≡ 2 * length t.history + 1 = omega (arith, was, found) in e);
              one_has = λ j u got e h. ⊎_elim
                  (λ (z : (j ≡ id) × (w ≡ u)). z.0)
                  (λ (z : (j ≢ id) × (get_elem? s.views j ≡ m.some u)). none_some u.turn got (home.none_has j u z.1) h)
                  (at_set s.views id j w u e);
            })
            (drawn_same (origin_of o) s.words words s.views id w t.first.draws f.view.draws t.drawn (second_else s.words (n + 1)) (first_same (λ (q : View). q.draws) s.views id v w t.first f (λ _. refl)))
            (idle_same (after o.base t.history) s.words words s.views id v w t.first.credits f.view.credits t.idle at refl refl (λ k _. idle_else s.words (n + 1) k) (first_same (λ (q : View). q.credits) s.views id v w t.first f (λ _. refl)))
            (past_same s.words words s.views (length t.history) id v w t.steps at refl refl (λ k _. idle_else s.words (n + 1) k)),
        (home.kept, t.history, refl, refl, found_by someone stay s t id v t.first.left (ledger home.kept) at awake refl home.parts),
      )

  taken : SomeoneHas → RowsStay → (s : State (Option K) View) (t : IsTied ledger o s) (id : ℕ) (v : View) (n : ℕ) → get_elem? s.views id ≡ m.some v → IsAwake v → (n % 2 ≡ 1 → ⊥)
      → (b : Bool) → (slice_index s.words 0 == n) ≡ b → TakesGoal s id v n b
  taken someone stay s t id v n at awake even true is =
      let found : slice_index s.words 0 ≡ n = grind (arith, is) in
      ⊎_elim (taken_home someone stay s t id v n at awake found) (λ (out : KeptIsOut (origin_of o) t.first.left t.history s). absurd (even (let e = out.word in omega (arith, e, found)))) t.place
  taken someone stay s t id v n at awake even false is = (v, keeps, tt, stays ledger o s 0 t id v at, refl)

  pub takes_law : SomeoneHas → RowsStay → (slots id : ℕ) (me : Me (Option K) View) (n : ℕ) → me.1 ≡ [] → IsAwake me.0 → (n % 2 ≡ 1 → ⊥)
      → Allows (IsTied ledger o) slots id me 0 (λ x. either (x == n) (n + 1) x) (TakesTurn ledger (step slots 0 n (n + 1) m.none) me)
  takes_law someone stay slots id me n none awake even =
      let P : List (ℕ × Option K) → Type 0 = λ l. Allows (IsTied ledger o) slots id (me.0, l) 0 (λ x. either (x == n) (n + 1) x) (TakesTurn ledger (step slots 0 n (n + 1) m.none) (me.0, l)) in
      subst P (sym none) (λ s t len at small. taken someone stay s t id me.0 n at awake even (slice_index s.words 0 == n) refl)

  -- half of the turn word is the length of the history, whoever has the turn
  half_of : (word entries : ℕ) → word ≡ 2 * entries → word / 2 ≡ entries
  half_of word entries is = omega arith

  half_of_odd : (word entries : ℕ) → word ≡ 2 * entries + 1 → word / 2 ≡ entries
  half_of_odd word entries is = omega arith

  word_half : (s : State (Option K) View) (t : IsTied ledger o s) → slice_index s.words 0 / 2 ≡ length t.history
  word_half s t = ⊎_elim
      (λ (home : KeptIsHome ledger (origin_of o) t.first.left t.history s). half_of (slice_index s.words 0) (length t.history) home.word)
      (λ (out : KeptIsOut (origin_of o) t.first.left t.history s). half_of_odd (slice_index s.words 0) (length t.history) out.word)
      t.place

  -- a load of the turn word leaves the idle words
  idle_again : (s : State (Option K) View) (k : ℕ) → slice_index (set s.words 0 (slice_index s.words 0)) (k + 2) ≡ slice_index s.words (k + 2)
  idle_again s k = ap (λ l. slice_index l (k + 2)) (word_again s.words 0)

  -- at such a load a pass that has nothing becomes another view of its number
  looked : (s : State (Option K) View) (t : IsTied ledger o s) (id : ℕ) (v w : View) → get_elem? s.views id ≡ m.some v → id ≢ 0
      → v.turn ≡ None → w.turn ≡ None → w.hand ≡ v.hand → w.row ≡ v.row → IsViewOf (origin_of o) t.history id w
      → AreIdleSteps (set s.words 0 (slice_index s.words 0)) (set s.views id w) (length t.history)
      → IsTied ledger o record { words = set s.words 0 (slice_index s.words 0); homes = s.homes; views = set s.views id w }
  looked s t id v w at other none none' hand row fits steps =
      let f = first_after s.views id v w t.first at t.at in
      let words = set s.words 0 (slice_index s.words 0) in
      let again : words ≡ s.words = word_again s.words 0 in
      moved ledger o s t id v w f words s.homes t.history
      (set_length s.words 0 (slice_index s.words 0) ∙ t.count) t.made t.queued t.undrawn
      (λ j u _ e. t.fits j u e) fits
      (same_place ledger o s words t.first.left f.view.left t.history id v w at (none' ∙ sym none) (λ got h. none_some v.turn got none h) (ap (λ l. slice_index l 0) again) (first_other (λ (q : View). q.left) s.views id v w t.first f other) t.place)
      (drawn_same (origin_of o) s.words words s.views id w t.first.draws f.view.draws t.drawn (ap (λ l. slice_index l 1) again) (first_other (λ (q : View). q.draws) s.views id v w t.first f other))
      (idle_same (after o.base t.history) s.words words s.views id v w t.first.credits f.view.credits t.idle at hand row (λ k _. idle_again s k) (first_other (λ (q : View). q.credits) s.views id v w t.first f other))
      steps

  -- a pass other than pass 0 has another place
  other_place : (s : State (Option K) View) (t : IsTied ledger o s) (id : ℕ) (v : View) → get_elem? s.views id ≡ m.some v → v.who.number ≢ 0 → id ≢ 0
  other_place s t id v at other z = other ((t.fits id v at).number ∙ z)

  pub rests_law : (slots id : ℕ) (me : Me (Option K) View) → IsAwake me.0 → IsIdle me.0 → me.0.who.number ≢ 0
      → Allows (IsTied ledger o) slots id me 0 (λ n. n) (LiesDown (step slots 0 0 0 m.none) me)
  rests_law slots id me awake idle other s t len at small =
      let mine = t.fits id me.0 at in
      let w : View = resting_view me.0.who.number in (
        w,
        keeps,
        tt,
        looked s t id me.0 w at (other_place s t id me.0 at other) idle.turn refl (sym idle.hand) (sym idle.row)
            record {
              number = mine.number;
              origin_is = λ up. absurd (true≢false up);
              begins = (t.history, refl);
              seen = λ up. absurd (true≢false up);
              row = sym idle.row ∙ mine.row;
            }
            (past_changed s.words (set s.words 0 (slice_index s.words 0)) s.views (length t.history) id w t.steps (λ k _. idle_again s k)
            (knows_none t.steps.trail id w refl refl)),
        (refl, refl),
      )

  -- a pass that rests, of that number
  pub wakes_law : (slots id : ℕ) (me : Me (Option K) View) (p : ℕ) → me.0 ≡ resting_view p → p ≢ 0
      → Allows (IsTied ledger o) slots id me 0 (λ n. n) (WakesUp (step slots 0 0 0 m.none) me)
  wakes_law slots id me p rests other s t len at small =
      let mine = t.fits id me.0 at in
      let number : me.0.who.number ≡ p = ap (λ (q : View). q.who.number) rests in
      let found = slice_index s.words 0 in
      let since = length t.steps.trail in
      let half = word_half s t in
      let w : View = woken_view (origin_of o) me.0.who.number t.history since found in (
        w,
        keeps,
        tt,
        looked s t id me.0 w at (other_place s t id me.0 at (λ z. other (sym number ∙ z))) (ap (λ (q : View). q.turn) rests) refl
            (sym (ap (λ (q : View). q.hand) rests)) (sym (ap (λ (q : View). q.row) rests))
            record {
              number = mine.number;
              origin_is = λ _. refl;
              begins = ([], sym (append-nil t.history));
              seen = λ _. seen_whole id t.history;
              row = sym (ap (λ (q : View). q.row) rests) ∙ mine.row;
            }
            (past_wakes s.words (set s.words 0 found) s.views (length t.history) id found me.0 w t.steps at refl half (λ k _. idle_again s k)
            (ap (λ (i : ℕ). record { since = since; steps = waking_step i since found ∷ [] }) mine.number)),
        (refl, (origin_of o, t.history, since, refl, half, t.made, ap (λ n. row_of n t.history) mine.number ∙ sym mine.row ∙ ap (λ (q : View). q.row) rests)),
      )
