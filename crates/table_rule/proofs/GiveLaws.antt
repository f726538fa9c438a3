-- The turn is given back.
use Rattle.std.proofs.Common.{◌≡◌, ◌≢◌, ℕ, ◌+◌, ◌*◌, List, [], ◌∷◌, ◌++◌, length, set, Option, Some, None, refl, sym, ap, ◌∙◌, subst, inl, ⊎_elim, arith, append_assoc, append-nil, length-append}
use Rattle.std.specs.Prelude.{slice_index, slice_index_or, slice_set}
use native.Mathlib.Decide.{ℕ_discrete}
use mathlib.Core.Option as m
use lib.ListN.{get_elem?}
use Rattle.atomic_table.specs.Table.{State, Me, step, Allows, stepped}
use Rattle.atomic_table.specs.Table.Act.{gives}
use Rattle.atomic_table.proofs.Lists.{at_set}
use Rattle.conn_machine.specs.declared.event.Entry.{Entry}
use Rattle.conn_machine.specs.declared.folded.Folded.{Folded}
use Rattle.conn_machine.specs.declared.kept.Ledger.{Ledger}
use Rattle.conn_machine.specs.declared.state.State as machine
use Rattle.conn_machine.specs.Runs.{Adds, AreEntriesOf, after, entries_of, first_row, row_after, row_of}
use Rattle.conn_machine.specs.Folds.{HasPlacesFor, fold_of, opening_record, ordinals_after, rows_after}
use Rattle.conn_machine.specs.Sound.{IsSound}
use Rattle.table_rule.specs.declared.view.LastLeft.{LastLeft}
use Rattle.table_rule.specs.declared.view.Origin.{Origin}
use Rattle.table_rule.specs.declared.view.View.{View}
use Rattle.conn_machine.specs.Made.{AreMade, HasSeen, IsOpened}
use Rattle.table_rule.specs.Histories.{ArePermitted, Extends, IsQueuedInTime}
use Rattle.table_rule.specs.Ledgers.{EndsTurn, FoldsOn, IsLastLeft, IsSplit, KeepsOn, MayGiveBack, MayLeaveLedger}
use Rattle.table_rule.specs.Views.{IsAwake, given_view}
use Rattle.table_rule.specs.IdleWords.{HasPermit}
use Rattle.table_rule.specs.Steps.{GivesBack}
use Rattle.table_rule.specs.Tie.{IsTied, IsViewOf, KeptIsHome, KeptIsOut, origin_of}
use Rattle.table_rule.proofs.MachineLemmas.{KeepsGoing, after-append, entries_of-append, none_some, row_by, row_more, seen_on, seen_same, seen_whole, some_is}
use Rattle.table_rule.proofs.RecordLemmas.{BeginsBegun, TwiceIsOnce, each_after, folded_on, places_after}
use Rattle.table_rule.proofs.PastLemmas.{past_longer, past_same}
use Rattle.table_rule.proofs.PermitLaws.{all_join, entries_credit, entries_permit, permitted_in_time}
use Rattle.table_rule.proofs.TieLemmas.{drawn_same, first_is, idle_kept, moved}
use Rattle.table_rule.proofs.TurnLaws.{idle_else, second_else, turn_here}
use Rattle.table_rule.proofs.WordLemmas.{FirstAfter, at_below, at_same, first_after, first_same, none_is, set_length}

-- ## The value

extends_both : {X : Type 0} (a b c : List X) → Extends a b → Extends b c → Extends a c
extends_both a b c ab bc = (ab.0 ++ bc.0, bc.1 ∙ ap (λ l. l ++ bc.0) ab.1 ∙ append_assoc a ab.0 bc.0)

-- what stands folded after the turn, and what was left of texts
pub record IsSplitOn (origin : Origin) (left : LastLeft) (new : Ledger) (whole : List Entry) : Type 0 where
  pub left_then : LastLeft
  pub parts : IsSplit origin left_then new whole
  pub texts : left_then.texts ≡ new.texts

-- with what was added, value and folded entries make up the longer history; as pass 0 leaves it
split_kept : (origin : Origin) (left : LastLeft) (found new : Ledger) (whole added : List Entry) → IsSplit origin left found whole → KeepsOn found new added
    → new.passes ≡ found.passes → (texts : List (List ℕ)) → Extends texts new.texts
    → IsSplit origin (record left { texts = texts }) new (whole ++ added)
split_kept origin left found new whole added p k passes texts begins = record {
  one_fold = subst (λ (f : Folded). f ≡ record (fold_of origin.state left.entries [] (opening_record origin.passes)) { lines = f.lines }) (sym k.record_is) p.one_fold;
  whole_is = ap (λ l. l ++ added) p.whole_is ∙ append_assoc left.entries found.history added ∙ ap (λ l. left.entries ++ l) (sym k.history);
  base = k.base ∙ p.base;
  record_is = k.record_is ∙ p.record_is;
  counted = ap (λ (f : Folded). f.entries) k.record_is ∙ p.counted;
  places = subst (HasPlacesFor origin.passes) (sym k.record_is) p.places;
  ordinals = λ q lt. ap (λ (f : Folded). slice_index f.ordinals q) k.record_is ∙ p.ordinals q lt;
  rows = λ q lt. ap (λ (f : Folded). first_row f q) k.record_is ∙ p.rows q lt;
  texts = begins;
  passes = passes ∙ p.passes;
}

split_folded : TwiceIsOnce → BeginsBegun → (origin : Origin) (left : LastLeft) (found new : Ledger) (whole added : List Entry) → IsSplit origin left found whole → (k : FoldsOn found new added)
    → new.passes ≡ found.passes
    → IsSplit origin (record { entries = left.entries ++ (found.history ++ k.before); folded = new.folded; texts = new.texts }) new (whole ++ added)
split_folded twice begun origin left found new whole added p k passes =
    let more = found.history ++ k.before in
    let count : new.folded.entries ≡ found.folded.entries + length more = ap (λ (f : Folded). f.entries) k.record_is in
    let numbers : new.folded.ordinals ≡ ordinals_after more found.folded.ordinals = ap (λ (f : Folded). f.ordinals) k.record_is in
    let has : new.folded.rows ≡ rows_after more found.folded.rows = ap (λ (f : Folded). f.rows) k.record_is in
    record {
      whole_is =
          ap (λ l. l ++ added) p.whole_is ∙ append_assoc left.entries found.history added
          ∙ ap (λ l. left.entries ++ (found.history ++ l)) k.added_is
          ∙ ap (λ l. left.entries ++ l) (sym (append_assoc found.history k.before k.behind))
          ∙ sym (append_assoc left.entries more k.behind)
          ∙ ap (λ l. (left.entries ++ more) ++ l) (sym k.history);
      base = k.base ∙ ap (λ s. after s more) p.base ∙ sym (after-append origin.state left.entries more);
      record_is = refl;
      one_fold = folded_on twice origin.state (opening_record origin.passes) left.entries more found.folded new.folded found.base
          (begun origin.state origin.passes) p.base p.one_fold k.record_is;
      counted = (let c = p.counted in let d = length-append left.entries more in omega arith);
      places = subst (HasPlacesFor origin.passes) (sym k.record_is) (places_after origin.passes found.base more found.folded new.folded.lines p.places);
      ordinals = λ q lt.
          let own : slice_index new.folded.ordinals q ≡ slice_index found.folded.ordinals q + length (entries_of q more) =
          ap (λ l. slice_index l q) numbers
          ∙ each_after (λ i n. n + length (entries_of i more)) found.folded.ordinals q 0 (let n = p.places.ordinals in omega arith) in
          let before = p.ordinals q lt in
          let all : length (entries_of q (left.entries ++ more)) ≡ length (entries_of q left.entries) + length (entries_of q more) =
          ap length (entries_of-append q left.entries more) ∙ length-append (entries_of q left.entries) (entries_of q more) in
          omega (arith, own, before, all);
      rows = λ q lt.
          ap (λ l. slice_index_or l q None) has
          ∙ each_after (λ i had. row_after had (entries_of i more)) found.folded.rows q None (let n = p.places.rows in omega arith)
          ∙ ap (λ had. row_after had (entries_of q more)) (p.rows q lt)
          ∙ sym (ap (row_after None) (entries_of-append q left.entries more) ∙ row_more None (entries_of q left.entries) (entries_of q more));
      texts = ([], sym (append-nil new.texts));
      passes = passes ∙ p.passes;
    }

-- what pass 0 leaves
split_own : TwiceIsOnce → BeginsBegun → (origin : Origin) (left : LastLeft) (v : View) (found new : Ledger) (whole : List Entry) → IsSplit origin left found whole → (a : MayLeaveLedger v found new)
    → IsSplitOn origin left new (whole ++ a.added)
split_own twice begun origin left v found new whole p a = ⊎_elim
    (λ (k : KeepsOn found new a.added). record {
      left_then = record left { texts = new.texts };
      parts = split_kept origin left found new whole a.added p k a.passes new.texts ([], sym (append-nil new.texts));
      texts = refl;
    })
    (λ (k : (v.who.number ≡ 0) × FoldsOn found new a.added). record {
      left_then = record { entries = left.entries ++ (found.history ++ k.1.before); folded = new.folded; texts = new.texts };
      parts = split_folded twice begun origin left found new whole a.added p k.1 a.passes;
      texts = refl;
    })
    a.change

-- what another pass leaves
split_other : (origin : Origin) (left : LastLeft) (v : View) (found new : Ledger) (whole : List Entry) → v.who.number ≢ 0 → IsSplit origin left found whole → (a : MayLeaveLedger v found new)
    → IsSplit origin left new (whole ++ a.added)
split_other origin left v found new whole other p a = ⊎_elim
    (λ (k : KeepsOn found new a.added). split_kept origin left found new whole a.added p k a.passes left.texts (extends_both left.texts found.texts new.texts p.texts k.texts))
    (λ (k : (v.who.number ≡ 0) × FoldsOn found new a.added). absurd (other k.0))
    a.change

-- twice the length
split_length : (origin : Origin) (left : LastLeft) (l : Ledger) (whole : List Entry) → IsSplit origin left l whole → length whole ≡ l.folded.entries + length l.history
split_length origin left l whole p =
    let a = ap (λ (x : List Entry). length x) p.whole_is in let b = length-append left.entries l.history in let c = p.counted in omega arith

-- ## The step

sound_of : KeepsGoing → (start : machine.State) (passes : ℕ) → IsOpened start → (history : List Entry) → AreMade start (opening_record passes) history → IsSound (after start history)
sound_of laws start passes opened history made =
    let sound : IsSound start = subst IsSound (sym opened.state) (laws.opening opened.slots opened.children opened.shape opened.bounds) in
    laws.run start history sound (laws.runs start (opening_record passes) history made) history [] (sym (append-nil history))

module _ {K : Type 0} (ledger : K → Ledger) (o : Ledger) where
  -- what the pass with the turn finds of the rule
  pub record IsHolder (s : State (Option K) View) (t : IsTied ledger o s) (id : ℕ) (v : View) (found : Ledger) : Type 0 where
    pub home : s.homes ≡ m.none ∷ []
    pub parts : IsSplit (origin_of o) t.first.left found t.history
    pub seen : v.seen ≡ t.history
    pub alone : (j : ℕ) (u : View) → j ≢ id → get_elem? s.views j ≡ m.some u → u.turn ≡ None

  pub holder : (s : State (Option K) View) (t : IsTied ledger o s) (id : ℕ) (v : View) (found : Ledger) → get_elem? s.views id ≡ m.some v → v.turn ≡ Some found → IsHolder s t id v found
  holder s t id v found at has = ⊎_elim
      (λ (h : KeptIsHome ledger (origin_of o) t.first.left t.history s). none_some v.turn found (h.none_has id v at) has)
      (λ (out : KeptIsOut (origin_of o) t.first.left t.history s).
      let me : id ≡ out.holder = out.one_has id v found at has in
      let same : v ≡ out.view = at_same s.views id out.holder v out.view at out.at me in
      let is : out.found ≡ found = some_is v.turn out.found found (ap (λ (q : View). q.turn) same ∙ out.has) has in
      record {
        home = out.home;
        parts = subst (λ l. IsSplit (origin_of o) t.first.left l t.history) is out.parts;
        seen = ap (λ (q : View). q.seen) same ∙ out.seen;
        alone = λ j u ne e. none_is u.turn (λ got h. ne (out.one_has j u got e h ∙ sym me));
      })
      t.place

  -- where the pass and what it added come from
  pub record IsGiven (s : State (Option K) View) (t : IsTied ledger o s) (id : ℕ) (v : View) (new : Ledger) (history : List Entry) : Type 0 where
    pub left : LastLeft
    pub is_left : IsLastLeft v new history left
    pub then_is : (f : FirstAfter s.views id v (given_view v history left) t.first) → IsSplit (origin_of o) f.view.left new history

  left_by : TwiceIsOnce → BeginsBegun → (s : State (Option K) View) (t : IsTied ledger o s) (id : ℕ) (v : View) (found new : Ledger) → get_elem? s.views id ≡ m.some v → IsAwake v
      → IsHolder s t id v found → (a : MayLeaveLedger v found new) → IsGiven s t id v new (t.history ++ a.added)
  left_by twice begun s t id v found new at awake h a =
      let mine = t.fits id v at in
      let number : v.who.number ≡ id = mine.number in
      let origin : v.origin ≡ origin_of o = mine.origin_is awake in
      elim (ℕ_discrete id 0) [
        | yes z ↦
            let p = split_own twice begun (origin_of o) t.first.left v found new t.history h.parts a in
            record {
              left = p.left_then;
              is_left = record {
                own = λ _. (subst (λ (g : Origin). IsSplit g p.left_then new (t.history ++ a.added)) (sym origin) p.parts, p.texts);
                other = λ ne. absurd (ne (number ∙ z));
              };
              then_is = λ f. subst (λ l. IsSplit (origin_of o) l new (t.history ++ a.added))
                  (⊎_elim
                  (λ (y : (id ≡ 0) × (f.view ≡ given_view v (t.history ++ a.added) p.left_then) × (t.first ≡ v)). ap (λ (q : View). q.left) (sym y.1))
                  (λ (n : (id ≢ 0) × (f.view ≡ t.first)). absurd (n.0 z))
                  f.which)
                  p.parts;
            }
        | no ne ↦
            let other : v.who.number ≢ 0 = λ e. ne (sym number ∙ e) in
            record {
              left = v.left;
              is_left = record { own = λ e. absurd (other e); other = λ _. refl };
              then_is = λ f. subst (λ l. IsSplit (origin_of o) l new (t.history ++ a.added))
                  (sym (first_same (λ (q : View). q.left) s.views id v (given_view v (t.history ++ a.added) v.left) t.first f (λ z. absurd (ne z))))
                  (split_other (origin_of o) t.first.left v found new t.history other h.parts a);
            }
      ]

  -- another view after entries of a pass
  other_fits : KeepsGoing → (id j : ℕ) (u : View) (history added : List Entry) → j ≢ id → AreEntriesOf id o.base (opening_record o.passes) history added
      → IsViewOf (origin_of o) history j u → IsViewOf (origin_of o) (history ++ added) j u
  other_fits laws id j u history added ne are fits =
      let behind : HasSeen j history (history ++ added) = laws.seen id j o.base (opening_record o.passes) history (history ++ added) (added, refl, are) ne in
      record {
        number = fits.number;
        origin_is = fits.origin_is;
        begins = (fits.begins.0 ++ added, ap (λ l. l ++ added) fits.begins.1 ∙ append_assoc u.seen fits.begins.0 added);
        seen = λ up. seen_on j u.seen history (history ++ added) (fits.seen up) behind;
        row = fits.row ∙ sym (row_by j (history ++ added) history (seen_same j history (history ++ added) behind));
      }

  -- another pass keeps its permit
  other_permit : KeepsGoing → (id j : ℕ) (u : View) (history added : List Entry) → IsOpened o.base → AreMade o.base (opening_record o.passes) (history ++ added) → j ≢ id → AreEntriesOf id o.base (opening_record o.passes) history added
      → u.row ≡ row_of j history → HasPermit (after o.base history) u → HasPermit (after o.base (history ++ added)) u
  other_permit laws id j u history added opened made ne are row has name r is at carried =
      let behind = laws.seen id j o.base (opening_record o.passes) history (history ++ added) (added, refl, are) ne in
      has name r is (sym (laws.stays o.base o.passes j history (history ++ added) name opened made behind (sym row ∙ is)) ∙ at) carried

  given : KeepsGoing → (s : State (Option K) View) (t : IsTied ledger o s) (id : ℕ) (v : View) (k : K) (found : Ledger) (x : ℕ) → get_elem? s.views id ≡ m.some v → IsAwake v
      → (h : IsHolder s t id v found) → (a : MayLeaveLedger v found (ledger k)) → AreEntriesOf id o.base (opening_record o.passes) t.history a.added
      → ArePermitted v.hand.permit v.credits (after o.base t.history) a.added
      → (g : IsGiven s t id v (ledger k) (t.history ++ a.added)) → x ≡ 2 * length (t.history ++ a.added)
      → IsTied ledger o (stepped s 0 x id ((0, Some k) ∷ []) (given_view v (t.history ++ a.added) g.left) gives)
  given laws s t id v k found x at awake h a are permitted g word =
      let mine = t.fits id v at in
      let number : v.who.number ≡ id = mine.number in
      let history = t.history ++ a.added in
      let w : View = given_view v history g.left in
      let f = first_after s.views id v w t.first at t.at in
      let words = set s.words 0 x in
      let made = laws.made id o.base (opening_record o.passes) t.history (t.history ++ a.added) t.made (a.added, refl, are) in
      let credits : f.view.credits ≡ t.first.credits = first_same (λ (q : View). q.credits) s.views id v w t.first f (λ _. refl) in
      let own_row : row_of v.who.number history ≡ row_of id history = ap (λ n. row_of n history) number in
      moved ledger o s t id v w f words (slice_set s.homes 0 (m.some (Some k))) history
      (set_length s.words 0 x ∙ t.count) made
      (all_join IsQueuedInTime o.base t.history a.added t.queued (permitted_in_time v.hand.permit v.credits (after o.base t.history) a.added permitted))
      (λ n le. let ne : n ≢ id = (λ e. let b = at_below s.views id v at in omega arith) in
      seen_same n t.history history (laws.seen id n o.base (opening_record o.passes) t.history history (a.added, refl, are) ne) ∙ t.undrawn n le)
      (λ j u ne e. other_fits laws id j u t.history a.added ne are (t.fits j u e))
      record { number = mine.number; origin_is = mine.origin_is; begins = ([], sym (append-nil history)); seen = λ _. seen_whole id history; row = own_row }
      (inl record {
        kept = k;
        home = ap (λ hs. slice_set hs 0 (m.some (Some k))) h.home;
        parts = g.then_is f;
        word = turn_here s.words x t.count ∙ word;
        none_has = λ j u e. ⊎_elim
            (λ (z : (j ≡ id) × (w ≡ u)). ap (λ (q : View). q.turn) (sym z.1))
            (λ (z : (j ≢ id) × (get_elem? s.views j ≡ m.some u)). h.alone j u z.0 z.1)
            (at_set s.views id j w u e);
      })
      (drawn_same (origin_of o) s.words words s.views id w t.first.draws f.view.draws t.drawn (second_else s.words x) (first_same (λ (q : View). q.draws) s.views id v w t.first f (λ _. refl)))
      (idle_kept (after o.base t.history) (after o.base history) s.words words s.views id v w t.first.credits f.view.credits t.idle at refl (λ j _. idle_else s.words x j) credits
      (entries_credit laws.step o.base (opening_record o.passes) id t.history a.added v.hand.permit t.first.credits (sound_of laws o.base o.passes t.opening t.history t.made) are
      (λ z. subst (λ cs. ArePermitted v.hand.permit cs (after o.base t.history) a.added) (ap (λ (q : View). q.credits) (first_is ledger o s t id v at z)) permitted)
      t.idle.credited)
      (λ j u e. ⊎_elim
      (λ (z : (j ≡ id) × (w ≡ u)). subst (HasPermit (after o.base history)) z.1
      (λ name r is there carried.
      entries_permit o.base (opening_record o.passes) id t.history a.added v.hand.permit v.credits are permitted
      (λ n q had stands c. t.idle.holders id v at n q (mine.row ∙ sym (laws.row o.passes id t.history) ∙ had) stands c)
      name r (laws.row o.passes id history ∙ sym own_row ∙ is) there carried))
      (λ (z : (j ≢ id) × (get_elem? s.views j ≡ m.some u)).
      other_permit laws id j u t.history a.added t.opening made z.0 are (t.fits j u z.1).row (t.idle.holders j u z.1))
      (at_set s.views id j w u e)))
      (past_longer words (set s.views id w) (length t.history) (length history) (let l = length-append t.history a.added in omega arith)
      (past_same s.words words s.views (length t.history) id v w t.steps at refl refl (λ j _. idle_else s.words x j)))

  given_back : KeepsGoing → (s : State (Option K) View) (t : IsTied ledger o s) (id : ℕ) (v : View) (k : K) (x : ℕ) → get_elem? s.views id ≡ m.some v → IsAwake v
      → (back : MayGiveBack v (ledger k)) → x ≡ 2 * ((ledger k).folded.entries + length (ledger k).history)
      → (w : View) × IsTied ledger o (stepped s 0 x id ((0, Some k) ∷ []) w gives)
      × ((history : List Entry) × (left : LastLeft) × (w ≡ given_view v history left)
      × Adds v.who.number v.origin.state (opening_record v.origin.passes) v.seen history
      × EndsTurn v (ledger k) history × IsLastLeft v (ledger k) history left)
  given_back laws s t id v k x at awake back word =
      let found = back.0 in let a = back.2 in
      let h = holder s t id v found at back.1 in
      let mine = t.fits id v at in
      let number : v.who.number ≡ id = mine.number in
      let origin = mine.origin_is awake in
      let base : v.origin.state ≡ o.base = ap (λ (g : Origin). g.state) origin in
      let are : AreEntriesOf id o.base (opening_record o.passes) t.history a.added =
      subst (λ l. AreEntriesOf id o.base (opening_record o.passes) l a.added) h.seen
      (subst (λ (g : Origin). AreEntriesOf id g.state (opening_record g.passes) v.seen a.added) origin
      (subst (λ n. AreEntriesOf n v.origin.state (opening_record v.origin.passes) v.seen a.added) number a.entries)) in
      let permitted : ArePermitted v.hand.permit v.credits (after o.base t.history) a.added =
      subst (λ l. ArePermitted v.hand.permit v.credits (after o.base l) a.added) h.seen (subst (λ st. ArePermitted v.hand.permit v.credits (after st v.seen) a.added) base a.permitted) in
      let g = left_by laws.twice laws.begun s t id v found (ledger k) at awake h a in
      let history = t.history ++ a.added in
      let w : View = given_view v history g.left in
      let f = first_after s.views id v w t.first at t.at in
      let len = split_length (origin_of o) f.view.left (ledger k) history (g.then_is f) in (
        w,
        given laws s t id v k found x at awake h a are permitted g (omega (arith, word, len)),
        (
          history,
          g.left,
          refl,
          (a.added, ap (λ l. l ++ a.added) (sym h.seen), a.entries),
          record { found = found; turn = back.1; change = a; seen = ap (λ l. l ++ a.added) (sym h.seen) },
          g.is_left,
        ),
      )

  pub gives_law : KeepsGoing → (slots id : ℕ) (me : Me (Option K) View) (k : K) (x : ℕ) → me.1 ≡ (0, Some k) ∷ [] → IsAwake me.0 → MayGiveBack me.0 (ledger k)
      → x ≡ 2 * ((ledger k).folded.entries + length (ledger k).history)
      → Allows (IsTied ledger o) slots id me 0 (λ _. x) (λ _. GivesBack ledger (step slots 0 x 0 m.none) me x)
  gives_law laws slots id me k x hand awake back word =
      let P : List (ℕ × Option K) → Type 0 = λ l. Allows (IsTied ledger o) slots id (me.0, l) 0 (λ _. x) (λ _. GivesBack ledger (step slots 0 x 0 m.none) (me.0, l) x) in
      subst P (sym hand) (λ s t len at small.
      let g = given_back laws s t id me.0 k x at awake back word in
      (g.0, gives, tt, g.1, (k, g.2.0, g.2.1, refl, refl, g.2.2, g.2.3, g.2.4, g.2.5)))
