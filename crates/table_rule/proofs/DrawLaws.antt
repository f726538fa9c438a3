-- Passes are drawn and made.
use Rattle.std.proofs.Common.{◌≡◌, ◌≢◌, ◌⊎◌, ℕ, zero, suc, ◌+◌, ◌%◌, ◌^◌, ◌<◌, ◌≤◌, List, [], ◌∷◌, ◌++◌, length, set, replicate, Option, Some, None, Bool, true, false, true≢false, refl, sym, ap, ◌∙◌, subst, inl, inr, ⊎_elim, arith}
use Rattle.std.specs.Prelude.{slice_index}
use Rattle.std.proofs.lemmas.List.{length-replicate}
use Rattle.std.proofs.Math.Nat.{mod-eq_of_lt}
use mathlib.Core.Option as m
use lib.ListN.{get_elem?}
use Rattle.atomic_table.specs.Table.{State, Me, step, Allows, Splits, opening}
use Rattle.atomic_table.specs.Table.Act.{keeps}
use Rattle.atomic_table.proofs.Lists.{at_set, at_longer}
use Rattle.conn_machine.specs.declared.event.Entry.{Entry}
use Rattle.conn_machine.specs.declared.folded.Folded.{Folded}
use Rattle.conn_machine.specs.declared.kept.Ledger.{Ledger}
use Rattle.conn_machine.specs.Folds.{HasPlacesFor, fold_of, opening_record}
use Rattle.conn_machine.specs.Runs.{after, entries_of, first_row}
use Rattle.table_rule.specs.declared.view.LastLeft.{LastLeft}
use Rattle.table_rule.specs.declared.view.Origin.{Origin}
use Rattle.table_rule.specs.declared.view.View.{View}
use Rattle.table_rule.specs.Ledgers.{IsSplit}
use Rattle.table_rule.specs.Views.{IsAwake, drawn_view, first_view, new_view, nothing_left, parted_view}
use Rattle.table_rule.specs.IdleWords.{bit, permits, tries}
use Rattle.table_rule.specs.Steps.{DrawsNext}
use Rattle.table_rule.specs.Tie.{AreDrawn, AreFirstWords, IsNew, IsTied, IsViewOf, KeptIsHome, KeptIsOut, origin_of}
use Rattle.table_rule.proofs.MachineLemmas.{none_behind, none_some, row_none}
use Rattle.table_rule.proofs.RecordLemmas.{NothingIsFolded, each_first}
use Rattle.table_rule.proofs.PastLemmas.{past_begins, past_more, past_same}
use Rattle.table_rule.proofs.SumLemmas.{sum_snoc}
use Rattle.table_rule.proofs.TieLemmas.{Placed, drawn_same, first_is, idle_same, moved, same_place}
use Rattle.table_rule.proofs.WordLemmas.{at_snoc_or, first_after, first_same, set_length, snoc_length, word_else, word_here}

second_idle : (ws : List ℕ) (x k : ℕ) → slice_index (set ws 1 x) (k + 2) ≡ slice_index ws (k + 2)
second_idle ws x k = word_else ws 1 (k + 2) x (λ e. omega arith)

module _ {K : Type 0} (ledger : K → Ledger) (o : Ledger) where
  -- ## The table at the start

  alone : (first : View) (j : ℕ) (u : View) → get_elem? (first ∷ []) j ≡ m.some u → (j ≡ 0) × (first ≡ u)
  alone first zero u e = (refl, m.some-injective _ _ e)
  alone first (suc j) u e = absurd (m.some-ne-none u (sym e))

  none_credited : (k n : ℕ) → slice_index (replicate n 0) k ≡ 0
  none_credited k zero = refl
  none_credited zero (suc n) = refl
  none_credited (suc k) (suc n) = none_credited k n

  pub opens_law : NothingIsFolded → (words : List ℕ) (k : K) → ledger k ≡ o → IsNew o → AreFirstWords words
      → IsTied ledger o (opening words (Some k ∷ []) (first_view (origin_of o) 1))
  opens_law nothing words k is new first =
      let v : View = first_view (origin_of o) 1 in
      record {
        history = [];
        opening = new.opened;
        few = new.few;
        count = first.count;
        made = tt;
        queued = tt;
        undrawn = λ n le. refl;
        fits = λ j u e. let a = alone v j u e in subst (IsViewOf (origin_of o) [] j) a.1
            record { number = sym a.0; origin_is = λ _. refl; begins = ([], refl); seen = λ _. ([], refl, refl); row = refl };
        first = v;
        at = refl;
        place = inl record {
          kept = k;
          home = refl;
          parts = subst (λ l. IsSplit (origin_of o) (nothing_left (origin_of o)) l []) (sym is) record {
            whole_is = sym new.history;
            base = refl;
            record_is = new.folded;
            one_fold = subst (λ (f : Folded). f ≡ record (fold_of o.base [] [] (opening_record o.passes)) { lines = f.lines }) (sym new.folded)
                (sym (ap (λ (f : Folded). record f { lines = [] })
                (ap (λ st. fold_of st [] [] (opening_record o.passes)) new.opened.state ∙ nothing new.opened.slots new.opened.children o.passes new.opened.shape)));
            counted = ap (λ (f : Folded). f.entries) new.folded;
            places = subst (HasPlacesFor o.passes) (sym new.folded) record { ordinals = length-replicate o.passes 0; rows = length-replicate o.passes None };
            ordinals = λ p lt. ap (λ (f : Folded). slice_index f.ordinals p) new.folded ∙ each_first o.passes p 0;
            rows = λ p lt. ap (λ (f : Folded). first_row f p) new.folded ∙ each_first o.passes p None;
            texts = (o.texts, refl);
            passes = refl;
          };
          word = first.turn;
          none_has = λ j u e. ap (λ (q : View). q.turn) (sym (alone v j u e).1);
        };
        drawn = record { word = first.passes; views_are = refl; few = new.some };
        idle = record {
          equation = λ j lt. let i = first.idle j lt in let c = none_credited j 32 in omega arith;
          permitted = λ j lt. omega arith;
          credited = λ j lt. inl (none_credited j 32);
          small = λ j lt. let c = none_credited j 32 in omega arith;
          full = refl;
          children = λ j u e i has. none_some None i refl (ap (λ (q : View). q.hand.permit) (alone v j u e).1 ∙ has);
          holders = λ j u e name r row. none_some None name refl (ap (λ (q : View). q.row) (alone v j u e).1 ∙ row);
        };
        steps = past_begins words v first.idle refl;
      }

  -- ## A number is drawn

  pub draws_law : (slots id : ℕ) (me : Me (Option K) View) → IsAwake me.0 → me.0.who.number ≡ 0 → me.0.draws.spare ≡ false → me.0.draws.next < me.0.origin.passes
      → Allows (IsTied ledger o) slots id me 1 (λ n. (n + 1) % 2 ^ 64) (DrawsNext (step slots 1 1 0 m.none) me)
  draws_law slots id me awake zero_is spare few s t len at small =
      let v = me.0 in
      let mine = t.fits id v at in
      let here : id ≡ 0 = sym (mine.number) ∙ zero_is in
      let first : v ≡ t.first = first_is ledger o s t id v at here in
      let n = slice_index s.words 1 in
      let is : n ≡ v.draws.next = t.drawn.word ∙ ap (λ (q : View). q.draws.next) (sym first) in
      let x = (n + 1) % 2 ^ 64 in
      let limit : v.origin.passes ≡ o.passes = ap (λ (g : Origin). g.passes) (mine.origin_is awake) in
      let fits : n + 1 < 2 ^ 64 = (let f = t.few in omega arith) in
      let word : x ≡ n + 1 = mod-eq_of_lt fits in
      let words = set s.words 1 x in
      let w : View = drawn_view v in
      let f = first_after s.views id v w t.first at t.at in
      let second : slice_index words 1 ≡ x = word_here s.words 1 x (let c = t.count in omega arith) in
      let draws : f.view.draws ≡ w.draws = ⊎_elim
      (λ (y : (id ≡ 0) × (f.view ≡ w) × (t.first ≡ v)). ap (λ (q : View). q.draws) y.1)
      (λ (z : (id ≢ 0) × (f.view ≡ t.first)). absurd (z.0 here))
      f.which in
      let views : length s.views ≡ v.draws.next =
      (let d = t.drawn.views_are in let b : bit t.first.draws.spare ≡ 0 = ap (λ (q : View). bit q.draws.spare) (sym first) ∙ ap bit spare in
      let e : t.first.draws.next ≡ v.draws.next = ap (λ (q : View). q.draws.next) (sym first) in omega arith) in (
        w,
        keeps,
        tt,
        moved ledger o s t id v w f words s.homes t.history
            (set_length s.words 1 x ∙ t.count) t.made t.queued t.undrawn
            (λ j u _ e. t.fits j u e)
            record { number = mine.number; origin_is = mine.origin_is; begins = mine.begins; seen = mine.seen; row = mine.row }
            (same_place ledger o s words t.first.left f.view.left t.history id v w at refl (λ _ _. refl) (word_else s.words 1 0 x (λ e. omega arith)) (first_same (λ (q : View). q.left) s.views id v w t.first f (λ _. refl)) t.place)
            (subst (AreDrawn (origin_of o) words (set s.views id w)) (sym draws) record {
              word = omega (arith, second, word, is);
              views_are = (let l = set_length s.views id w in omega arith);
              few = omega arith;
            })
            (idle_same (after o.base t.history) s.words words s.views id v w t.first.credits f.view.credits t.idle at refl refl (λ k _. second_idle s.words x k) (first_same (λ (q : View). q.credits) s.views id v w t.first f (λ _. refl)))
            (past_same s.words words s.views (length t.history) id v w t.steps at refl refl (λ k _. second_idle s.words x k)),
        (is, refl, refl),
      )

  -- ## A pass is made

  abbrev Which : List View → ℕ → View → View → ℕ → ℕ → View → Type 0
  Which views id left right end j u = ((j ≡ id) × (left ≡ u)) ⊎ (((j ≢ id) × (get_elem? views j ≡ m.some u)) ⊎ ((j ≡ end) × (right ≡ u)))

  three : (views : List View) (id : ℕ) (left right : View) (end j : ℕ) (u : View) (P : Type 0)
      → ((j ≡ id) × (left ≡ u) → P) → ((j ≢ id) × (get_elem? views j ≡ m.some u) → P) → ((j ≡ end) × (right ≡ u) → P) → Which views id left right end j u → P
  three views id left right end j u P f g h w = ⊎_elim f (⊎_elim g h) w

  more_views : (s : State (Option K) View) (w : View) (left : LastLeft) (history : List Entry) → w.turn ≡ None → Placed ledger o left history s
      → Placed ledger o left history record { words = s.words; homes = s.homes; views = s.views ++ w ∷ [] }
  more_views s w left history turn = ⊎_elim
      (λ (h : KeptIsHome ledger (origin_of o) left history s). inl record {
        kept = h.kept;
        home = h.home;
        parts = h.parts;
        word = h.word;
        none_has = λ j u e. ⊎_elim
            (λ (old : get_elem? s.views j ≡ m.some u). h.none_has j u old)
            (λ (z : (j ≡ length s.views) × (w ≡ u)). ap (λ (q : View). q.turn) (sym z.1) ∙ turn)
            (at_snoc_or s.views w u j e);
      })
      (λ (out : KeptIsOut (origin_of o) left history s). inr record {
        holder = out.holder;
        view = out.view;
        at = at_longer s.views (w ∷ []) out.holder out.view out.at;
        found = out.found;
        has = out.has;
        seen = out.seen;
        home = out.home;
        parts = out.parts;
        word = out.word;
        one_has = λ j u got e h. ⊎_elim
            (λ (l : get_elem? s.views j ≡ m.some u). out.one_has j u got l h)
            (λ (z : (j ≡ length s.views) × (w ≡ u)). none_some w.turn got turn (ap (λ (q : View). q.turn) z.1 ∙ h))
            (at_snoc_or s.views w u j e);
      })

  pub splits_law : (id : ℕ) (v : View) → IsAwake v → v.who.number ≡ 0 → v.draws.spare ≡ true
      → Splits (IsTied ledger o) id v (parted_view v) (new_view v)
  splits_law id v awake zero_is spare s t at =
      let left : View = parted_view v in
      let right : View = new_view v in
      let vs = set s.views id left in
      let mine = t.fits id v at in
      let here : id ≡ 0 = sym (mine.number) ∙ zero_is in
      let first : v ≡ t.first = first_is ledger o s t id v at here in
      let f = first_after s.views id v left t.first at t.at in
      let len : length vs ≡ length s.views = set_length s.views id left in
      let count : length s.views + 1 ≡ v.draws.next =
      (let d = t.drawn.views_are in let b : bit t.first.draws.spare ≡ 1 = ap (λ (q : View). bit q.draws.spare) (sym first) ∙ ap bit spare in
      let e : t.first.draws.next ≡ v.draws.next = ap (λ (q : View). q.draws.next) (sym first) in omega arith) in
      let none : entries_of (length vs) t.history ≡ [] = t.undrawn (length vs) (omega (arith, len)) in
      let origin : v.origin ≡ origin_of o = mine.origin_is awake in
      let which : (j : ℕ) (u : View) → get_elem? (vs ++ right ∷ []) j ≡ m.some u → Which s.views id left right (length vs) j u =
      λ j u e. ⊎_elim
      (λ (old : get_elem? vs j ≡ m.some u). ⊎_elim (λ (z : (j ≡ id) × (left ≡ u)). inl z) (λ (z : (j ≢ id) × (get_elem? s.views j ≡ m.some u)). inr (inl z)) (at_set s.views id j left u old))
      (λ (z : (j ≡ length vs) × (right ≡ u)). inr (inr z))
      (at_snoc_or vs right u j e) in
      let t' : IsTied ledger o record { words = s.words; homes = s.homes; views = vs } → Type 0 = λ _. ⊥ in
      let placed = same_place ledger o s s.words t.first.left f.view.left t.history id v left at refl (λ _ _. refl) refl (first_same (λ (q : View). q.left) s.views id v left t.first f (λ _. refl)) t.place in
      let idle = idle_same (after o.base t.history) s.words s.words s.views id v left t.first.credits f.view.credits t.idle at refl refl (λ k _. refl) (first_same (λ (q : View). q.credits) s.views id v left t.first f (λ _. refl)) in
      let draws : f.view.draws ≡ left.draws = ⊎_elim
      (λ (y : (id ≡ 0) × (f.view ≡ left) × (t.first ≡ v)). ap (λ (q : View). q.draws) y.1)
      (λ (z : (id ≢ 0) × (f.view ≡ t.first)). absurd (z.0 here))
      f.which in
      let more = snoc_length vs right in
      record {
        history = t.history;
        opening = t.opening;
        few = t.few;
        count = t.count;
        made = t.made;
        queued = t.queued;
        undrawn = λ n le. t.undrawn n (omega (arith, len, more));
        fits = λ j u e. three s.views id left right (length vs) j u (IsViewOf (origin_of o) t.history j u)
            (λ z. subst (λ i. IsViewOf (origin_of o) t.history i u) (sym z.0) (subst (IsViewOf (origin_of o) t.history id) z.1
            record { number = mine.number; origin_is = mine.origin_is; begins = mine.begins; seen = mine.seen; row = mine.row }))
            (λ z. t.fits j u z.1)
            (λ z. subst (λ i. IsViewOf (origin_of o) t.history i u) (sym z.0) (subst (IsViewOf (origin_of o) t.history (length vs)) z.1
            record {
              number = omega (arith, len, count);
              origin_is = λ _. origin;
              begins = mine.begins;
              seen = λ _. (mine.begins.0, mine.begins.1, none_behind (length vs) v.seen mine.begins.0 (ap (entries_of (length vs)) (sym mine.begins.1) ∙ none));
              row = sym (row_none (length vs) t.history none);
            }))
            (which j u e);
        first = f.view;
        at = at_longer vs (right ∷ []) 0 f.view f.at;
        place = more_views record { words = s.words; homes = s.homes; views = vs } right f.view.left t.history refl placed;
        drawn = subst (AreDrawn (origin_of o) s.words (vs ++ right ∷ [])) (sym draws) record {
          word = t.drawn.word ∙ ap (λ (q : View). q.draws.next) (sym first);
          views_are = omega (arith, more, len, count);
          few = (let l = t.drawn.few in let e : t.first.draws.next ≡ v.draws.next = ap (λ (q : View). q.draws.next) (sym first) in omega arith);
        };
        idle = record {
          equation = λ k lt. let e = idle.equation k lt in let p = sum_snoc (permits k) vs right in let q = sum_snoc (tries k) vs right in omega arith;
          permitted = λ k lt. let e = idle.permitted k lt in let p = sum_snoc (permits k) vs right in omega arith;
          credited = idle.credited;
          small = idle.small;
          full = idle.full;
          children = λ j u e k has. ⊎_elim
              (λ (old : get_elem? vs j ≡ m.some u). idle.children j u old k has)
              (λ (z : (j ≡ length vs) × (right ≡ u)). none_some None k refl (ap (λ (q : View). q.hand.permit) z.1 ∙ has))
              (at_snoc_or vs right u j e);
          holders = λ j u e. ⊎_elim
              (λ (old : get_elem? vs j ≡ m.some u). idle.holders j u old)
              (λ (z : (j ≡ length vs) × (right ≡ u)). λ name r row. none_some None name refl (ap (λ (q : View). q.row) z.1 ∙ row))
              (at_snoc_or vs right u j e);
        };
        steps = past_more s.words vs (length t.history) right (past_same s.words s.words s.views (length t.history) id v left t.steps at refl refl (λ k _. refl)) refl;
      }
