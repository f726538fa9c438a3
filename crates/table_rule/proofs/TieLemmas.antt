-- What a step that changes one view has to keep.
use Rattle.std.proofs.Common.{◌≡◌, ◌≢◌, ◌⊎◌, ℕ, ◌+◌, ◌<◌, ◌≤◌, List, [], length, set, Option, Some, sym, ap, ◌∙◌, subst, inl, inr, ⊎_elim, arith}
use Rattle.std.specs.Prelude.{slice_index}
use mathlib.Core.Option as m
use lib.ListN.{get_elem?}
use Rattle.atomic_table.specs.Table.{State}
use Rattle.atomic_table.proofs.Lists.{at_set, set_here, set_else, set_again}
use native.Mathlib.Decide.{ℕ_discrete}
use Rattle.conn_machine.specs.declared.event.Entry.{Entry}
use Rattle.conn_machine.specs.declared.kept.Ledger.{Ledger}
use Rattle.conn_machine.specs.declared.state.State as machine
use Rattle.conn_machine.specs.Folds.{opening_record}
use Rattle.conn_machine.specs.Runs.{AllAt, after, entries_of}
use Rattle.table_rule.specs.declared.view.Draws.{Draws}
use Rattle.table_rule.specs.declared.view.Hand.{Hand}
use Rattle.table_rule.specs.declared.view.LastLeft.{LastLeft}
use Rattle.table_rule.specs.declared.view.Origin.{Origin}
use Rattle.table_rule.specs.declared.view.View.{View}
use Rattle.conn_machine.specs.Made.{AreMade, AreOfPasses}
use Rattle.table_rule.specs.Histories.{IsQueuedInTime, threads_of}
use Rattle.table_rule.specs.IdleWords.{bit, bit_at, permits, tries, HasPermit, AreIdleWords}
use Rattle.table_rule.specs.Pasts.{AreIdleSteps}
use Rattle.table_rule.specs.Tie.{AreDrawn, IsTied, IsViewOf, KeptIsHome, KeptIsOut, origin_of}
use Rattle.table_rule.proofs.SumLemmas.{sum_same}
use Rattle.table_rule.proofs.WordLemmas.{FirstAfter, at_below, at_same, set_length, word_again}
use Rattle.table_rule.proofs.WorkerLaws.{AreViews}

-- the numbers stay as they were drawn
pub drawn_same : (origin : Origin) (words words' : List ℕ) (views : List View) (id : ℕ) (w : View) (draws draws' : Draws) → AreDrawn origin words views draws
    → slice_index words' 1 ≡ slice_index words 1 → draws' ≡ draws → AreDrawn origin words' (set views id w) draws'
drawn_same origin words words' views id w draws draws' d second same =
    subst (AreDrawn origin words' (set views id w)) (sym same)
    record { word = second ∙ d.word; views_are = ap (λ n. n + bit draws.spare) (set_length views id w) ∙ d.views_are; few = d.few }

-- the hands stay as they were, and the idle words
pub idle_kept : (s s' : machine.State) (words words' : List ℕ) (views : List View) (id : ℕ) (v w : View) (credits credits' : List ℕ)
    → AreIdleWords s words views credits → get_elem? views id ≡ m.some v → w.hand ≡ v.hand
    → ((k : ℕ) → k < 32 → slice_index words' (k + 2) ≡ slice_index words (k + 2)) → credits' ≡ credits
    → ((k : ℕ) → k < 32 → (slice_index credits k ≡ 0) ⊎ (slice_index credits k ≡ threads_of s' k))
    → ((j : ℕ) (u : View) → get_elem? (set views id w) j ≡ m.some u → HasPermit s' u)
    → AreIdleWords s' words' (set views id w) credits'
idle_kept s s' words words' views id v w credits credits' i at hand same kept credited holders =
    subst (AreIdleWords s' words' (set views id w)) (sym kept) record {
      equation = λ k lt. let e = i.equation k lt in let o = same k lt in
          let p = sum_same (permits k) views id v w at (ap (λ (h : Hand). bit_at k h.permit) hand) in
          let q = sum_same (tries k) views id v w at (ap (λ (h : Hand). bit_at k h.trying) hand) in omega arith;
      permitted = λ k lt. let e = i.permitted k lt in
          let p = sum_same (permits k) views id v w at (ap (λ (h : Hand). bit_at k h.permit) hand) in omega arith;
      credited = credited;
      small = i.small;
      full = i.full;
      children = λ j u e k is. ⊎_elim
          (λ (z : (j ≡ id) × (w ≡ u)). i.children id v at k (ap (λ (h : Hand). h.permit) (sym hand) ∙ ap (λ (q : View). q.hand.permit) z.1 ∙ is))
          (λ (z : (j ≢ id) × (get_elem? views j ≡ m.some u)). i.children j u z.1 k is)
          (at_set views id j w u e);
      holders = holders;
    }

-- the rows stay too
pub idle_same : (s : machine.State) (words words' : List ℕ) (views : List View) (id : ℕ) (v w : View) (credits credits' : List ℕ)
    → AreIdleWords s words views credits → get_elem? views id ≡ m.some v → w.hand ≡ v.hand → w.row ≡ v.row
    → ((k : ℕ) → k < 32 → slice_index words' (k + 2) ≡ slice_index words (k + 2)) → credits' ≡ credits
    → AreIdleWords s words' (set views id w) credits'
idle_same s words words' views id v w credits credits' i at hand row same kept =
    idle_kept s s words words' views id v w credits credits' i at hand same kept i.credited
    (λ j u e. ⊎_elim
    (λ (z : (j ≡ id) × (w ≡ u)). subst (HasPermit s) z.1
    (λ name r is there carried. ap (λ (h : Hand). h.permit) hand ∙ i.holders id v at name r (sym row ∙ is) there carried))
    (λ (z : (j ≢ id) × (get_elem? views j ≡ m.some u)). i.holders j u z.1)
    (at_set views id j w u e))

module _ {K : Type 0} (ledger : K → Ledger) (o : Ledger) where
  abbrev pub Placed : LastLeft → List Entry → State (Option K) View → Type 0
  Placed left history s = KeptIsHome ledger (origin_of o) left history s ⊎ KeptIsOut (origin_of o) left history s

  -- one view changed
  pub moved : (s : State (Option K) View) (t : IsTied ledger o s) (id : ℕ) (v w : View) (f : FirstAfter s.views id v w t.first)
      → (words : List ℕ) (homes : List (m.Option (Option K))) (history : List Entry)
      → length words ≡ 34 → AreMade o.base (opening_record o.passes) history → AllAt IsQueuedInTime o.base history
      → ((n : ℕ) → length s.views ≤ n → entries_of n history ≡ [])
      → ((j : ℕ) (u : View) → j ≢ id → get_elem? s.views j ≡ m.some u → IsViewOf (origin_of o) history j u)
      → IsViewOf (origin_of o) history id w
      → Placed f.view.left history record { words = words; homes = homes; views = set s.views id w }
      → AreDrawn (origin_of o) words (set s.views id w) f.view.draws
      → AreIdleWords (after o.base history) words (set s.views id w) f.view.credits
      → AreIdleSteps words (set s.views id w) (length history)
      → IsTied ledger o record { words = words; homes = homes; views = set s.views id w }
  moved s t id v w f words homes history count made queued undrawn others mine place drawn idle steps = record {
    history = history;
    opening = t.opening;
    few = t.few;
    count = count;
    made = made;
    queued = queued;
    undrawn = λ n le. undrawn n (subst (λ k. k ≤ n) (set_length s.views id w) le);
    fits = λ j u e. ⊎_elim
        (λ (z : (j ≡ id) × (w ≡ u)). subst (λ i. IsViewOf (origin_of o) history i u) (sym z.0) (subst (IsViewOf (origin_of o) history id) z.1 mine))
        (λ (z : (j ≢ id) × (get_elem? s.views j ≡ m.some u)). others j u z.0 z.1)
        (at_set s.views id j w u e);
    first = f.view;
    at = f.at;
    place = place;
    drawn = drawn;
    idle = idle;
    steps = steps;
  }

  -- where a step leaves turn and seen, the value stays where it is
  pub same_place : (s : State (Option K) View) (words : List ℕ) (left left' : LastLeft) (history : List Entry) (id : ℕ) (v w : View) → get_elem? s.views id ≡ m.some v
      → w.turn ≡ v.turn → ((got : Ledger) → v.turn ≡ Some got → w.seen ≡ v.seen) → slice_index words 0 ≡ slice_index s.words 0 → left' ≡ left
      → Placed left history s → Placed left' history record { words = words; homes = s.homes; views = set s.views id w }
  same_place s words left left' history id v w at turn seen word same place =
      subst (λ l. Placed l history record { words = words; homes = s.homes; views = set s.views id w }) (sym same) (⊎_elim
      (λ (h : KeptIsHome ledger (origin_of o) left history s). inl record {
        kept = h.kept;
        home = h.home;
        parts = h.parts;
        word = word ∙ h.word;
        none_has = λ j u e. ⊎_elim
            (λ (z : (j ≡ id) × (w ≡ u)). ap (λ (q : View). q.turn) (sym z.1) ∙ turn ∙ h.none_has id v at)
            (λ (z : (j ≢ id) × (get_elem? s.views j ≡ m.some u)). h.none_has j u z.1)
            (at_set s.views id j w u e);
      })
      (λ (out : KeptIsOut (origin_of o) left history s). inr (elim (ℕ_discrete out.holder id) [
        | yes e ↦
            let mine : v ≡ out.view = at_same s.views id out.holder v out.view at out.at (sym e) in
            let has : v.turn ≡ Some out.found = ap (λ (q : View). q.turn) mine ∙ out.has in
            record {
              holder = id;
              view = w;
              at = set_here s.views id w (at_below s.views id v at);
              found = out.found;
              has = turn ∙ has;
              seen = seen out.found has ∙ ap (λ (q : View). q.seen) mine ∙ out.seen;
              home = out.home;
              parts = out.parts;
              word = word ∙ out.word;
              one_has = λ j u got there h. ⊎_elim
                  (λ (z : (j ≡ id) × (w ≡ u)). z.0)
                  (λ (z : (j ≢ id) × (get_elem? s.views j ≡ m.some u)). out.one_has j u got z.1 h ∙ e)
                  (at_set s.views id j w u there);
            }
        | no ne ↦ record {
          holder = out.holder;
          view = out.view;
          at = set_else s.views id out.holder w ne ∙ out.at;
          found = out.found;
          has = out.has;
          seen = out.seen;
          home = out.home;
          parts = out.parts;
          word = word ∙ out.word;
          one_has = λ j u got e h. ⊎_elim
              (λ (z : (j ≡ id) × (w ≡ u)). absurd (ne (sym (out.one_has id v got at (sym turn ∙ ap (λ (q : View). q.turn) z.1 ∙ h)))))
              (λ (z : (j ≢ id) × (get_elem? s.views j ≡ m.some u)). out.one_has j u got z.1 h)
              (at_set s.views id j w u e);
        }
      ]))
      place)

  -- nothing changes
  pub stays : (s : State (Option K) View) (i : ℕ) → IsTied ledger o s → (id : ℕ) (v : View) → get_elem? s.views id ≡ m.some v
      → IsTied ledger o record { words = set s.words i (slice_index s.words i); homes = s.homes; views = set s.views id v }
  stays s i t id v at = subst (IsTied ledger o) (λ x. record { words = sym (word_again s.words i) x; homes = s.homes; views = sym (set_again s.views id v at) x }) t

  -- what the rule says of views and history
  pub views_of : (s : State (Option K) View) (t : IsTied ledger o s) → AreViews o.base o.passes t.history s.words s.views t.first.credits
  views_of s t = record { opened = t.opening; made = t.made; undrawn = t.undrawn; rows = λ id v at. (t.fits id v at).row; idle = t.idle }

  -- a pass's number is below the number of passes
  pub number_below : (s : State (Option K) View) (t : IsTied ledger o s) (id : ℕ) (v : View) → get_elem? s.views id ≡ m.some v → id < o.passes
  number_below s t id v at = let b = at_below s.views id v at in let d = t.drawn.views_are in let f = t.drawn.few in omega arith

  -- no pass beyond that number made an entry
  pub of_passes : (s : State (Option K) View) (t : IsTied ledger o s) → AreOfPasses o.passes t.history
  of_passes s t n le = t.undrawn n (let d = t.drawn.views_are in let f = t.drawn.few in omega arith)

  -- the view of pass 0 is the first
  pub first_is : (s : State (Option K) View) (t : IsTied ledger o s) (id : ℕ) (v : View) → get_elem? s.views id ≡ m.some v → id ≡ 0 → v ≡ t.first
  first_is s t id v at zero_is = at_same s.views id 0 v t.first at t.at zero_is
