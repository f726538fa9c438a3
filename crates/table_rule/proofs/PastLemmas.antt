-- What a step leaves of what passes know of the trail.
use Rattle.std.proofs.Common.{◌≡◌, ◌≢◌, ℕ, ◌+◌, ◌/◌, ◌<◌, ◌≤◌, true, false, true≢false, List, [], ◌∷◌, ◌++◌, length, set, refl, sym, ap, ◌∙◌, subst, ⊎_elim, arith}
use Rattle.std.specs.Prelude.{slice_index}
use Rattle.std.proofs.lemmas.List.{map_push}
use native.Mathlib.Decide.{ℕ_discrete}
use mathlib.Core.Option as m
use lib.ListN.{get_elem?}
use Rattle.atomic_table.proofs.Lists.{at_set}
use Rattle.table_rule.specs.declared.trail.Step.{Step}
use Rattle.table_rule.specs.declared.view.Past.{Past}
use Rattle.table_rule.specs.declared.view.View.{View}
use Rattle.table_rule.specs.IdleWords.{bias}
use Rattle.table_rule.specs.Pasts.{AreIdleSteps, KnowsPast, LookInOrder, MakesStepOn, move_of, moves_of}
use Rattle.table_rule.specs.Trails.{AreOfMakers, GoesOn, steps_by, steps_on, steps_since}
use Rattle.table_rule.specs.Views.{new_past, waking_step}
use Rattle.table_rule.proofs.TrailLemmas.{by_it, by_none, by_other, goes_on_more, look_longer, look_more, numbered_more, of_makers_more, of_more_makers, on_it, on_other, since_it, since_none, step_of}
use Rattle.table_rule.proofs.WordLemmas.{at_below, at_snoc_or, set_length, snoc_length, word_else, word_here}

-- ## No step on an idle word

-- the history became longer
pub past_longer : (words : List ℕ) (views : List View) (n longer : ℕ) → n ≤ longer → AreIdleSteps words views n → AreIdleSteps words views longer
past_longer words views n longer le a = record {
  trail = a.trail;
  goes_on = a.goes_on;
  looked = look_longer 0 (steps_on 0 a.trail) n longer le a.looked;
  numbered = a.numbered;
  of_views = a.of_views;
  known = a.known;
}

-- one view changed, and the trail is what it was
pub past_changed : (words words' : List ℕ) (views : List View) (n id : ℕ) (w : View) (a : AreIdleSteps words views n)
    → ((k : ℕ) → k < 32 → slice_index words' (k + 2) ≡ slice_index words (k + 2)) → KnowsPast a.trail id w → AreIdleSteps words' (set views id w) n
past_changed words words' views n id w a same mine = record {
  trail = a.trail;
  goes_on = λ k lt. subst (GoesOn bias (steps_on (k + 2) a.trail)) (sym (same k lt)) (a.goes_on k lt);
  looked = a.looked;
  numbered = a.numbered;
  of_views = subst (λ n. AreOfMakers n a.trail) (sym (set_length views id w)) a.of_views;
  known = λ j u e. ⊎_elim
      (λ (z : (j ≡ id) × (w ≡ u)). subst (λ i. KnowsPast a.trail i u) (sym z.0) (subst (KnowsPast a.trail id) z.1 mine))
      (λ (z : (j ≢ id) × (get_elem? views j ≡ m.some u)). a.known j u z.1)
      (at_set views id j w u e);
}

-- a pass keeps what it knows
pub past_same : (words words' : List ℕ) (views : List View) (n id : ℕ) (v w : View) (a : AreIdleSteps words views n) → get_elem? views id ≡ m.some v
    → w.past ≡ v.past → w.who.resting ≡ v.who.resting
    → ((k : ℕ) → k < 32 → slice_index words' (k + 2) ≡ slice_index words (k + 2)) → AreIdleSteps words' (set views id w) n
past_same words words' views n id v w a at past resting same =
    let mine = a.known id v at in
    past_changed words words' views n id w a same record {
      since = subst (λ (p : Past). p.since ≤ length a.trail) (sym past) mine.since;
      up = λ up. subst (λ (p : Past). p.steps ≡ steps_since p.since (steps_by id a.trail)) (sym past) (mine.up (sym resting ∙ up));
      rests = λ rests. ap (λ (p : Past). p.steps) past ∙ mine.rests (sym resting ∙ rests);
    }

-- one that rests knows nothing
pub knows_none : (trail : List Step) (id : ℕ) (w : View) → w.past ≡ new_past → w.who.resting ≡ true → KnowsPast trail id w
knows_none trail id w past rests = record {
  since = subst (λ (p : Past). p.since ≤ length trail) (sym past) (let z : 0 ≤ length trail = omega arith in z);
  up = λ up. absurd (true≢false (sym rests ∙ up));
  rests = λ _. ap (λ (p : Past). p.steps) past;
}

-- one view more, which knows nothing yet
pub past_more : (words : List ℕ) (views : List View) (n : ℕ) (w : View) (a : AreIdleSteps words views n) → w.past ≡ new_past
    → AreIdleSteps words (views ++ w ∷ []) n
past_more words views n w a past =
    let more = snoc_length views w in
    let none : steps_since 0 (steps_by (length views) a.trail) ≡ [] = ap (steps_since 0) (by_none (length views) a.trail a.of_views) in
    record {
      trail = a.trail;
      goes_on = a.goes_on;
      looked = a.looked;
      numbered = a.numbered;
      of_views = of_more_makers (length views) (length (views ++ w ∷ [])) a.trail (omega (arith, more)) a.of_views;
      known = λ j u e. ⊎_elim
          (λ (old : get_elem? views j ≡ m.some u). a.known j u old)
          (λ (z : (j ≡ length views) × (w ≡ u)). subst (λ i. KnowsPast a.trail i u) (sym z.0) (subst (KnowsPast a.trail (length views)) z.1 record {
            since = subst (λ (p : Past). p.since ≤ length a.trail) (sym past) (let z : 0 ≤ length a.trail = omega arith in z);
            up = λ _. subst (λ (p : Past). p.steps ≡ steps_since p.since (steps_by (length views) a.trail)) (sym past) (sym none);
            rests = λ _. ap (λ (p : Past). p.steps) past;
          }))
          (at_snoc_or views w u j e);
    }

-- no step was made yet
pub past_begins : (words : List ℕ) (v : View) → ((k : ℕ) → k < 32 → slice_index words (k + 2) ≡ bias) → v.past ≡ new_past → AreIdleSteps words (v ∷ []) 0
past_begins words v first past = past_more words [] 0 v record {
  trail = [];
  goes_on = λ k lt. sym (first k lt);
  looked = omega arith;
  numbered = tt;
  of_views = tt;
  known = λ j u e. absurd (m.some-ne-none u (sym e));
} past

-- ## A step on an idle word

-- the past with one step more
abbrev pub past_with : Step → Past → Past
past_with step past = record past { steps = past.steps ++ step ∷ [] }

-- the next step of that view
abbrev pub next_step : {words : List ℕ} {views : List View} {n : ℕ} → AreIdleSteps words views n → ℕ → ℕ → ℕ → ℕ → Step
next_step a id k found x = step_of (k + 2) (length a.trail) id found x

-- a pass that is up made a step on the idle word of a child
pub past_step : (words : List ℕ) (views : List View) (n id : ℕ) (v w : View) (a : AreIdleSteps words views n) (k x : ℕ) → get_elem? views id ≡ m.some v
    → v.who.resting ≡ false → w.who.resting ≡ false → k < 32 → length words ≡ 34
    → w.past ≡ past_with (next_step a id k (slice_index words (k + 2)) x) v.past → AreIdleSteps (set words (k + 2) x) (set views id w) n
past_step words views n id v w a k x at up up' lt count past =
    let step = next_step a id k (slice_index words (k + 2)) x in
    let mine = a.known id v at in
    let within = at_below views id v at in
    let long = set_length views id w in
    let all = snoc_length a.trail step in
    record {
      trail = a.trail ++ step ∷ [];
      goes_on = λ j below. elim (ℕ_discrete j k) [
        | yes same ↦ subst (λ i. GoesOn bias (steps_on (i + 2) (a.trail ++ step ∷ [])) (slice_index (set words (k + 2) x) (i + 2))) (sym same)
            (subst (λ l. GoesOn bias l (slice_index (set words (k + 2) x) (k + 2))) (sym (on_it (k + 2) a.trail step refl))
            (subst (GoesOn bias (steps_on (k + 2) a.trail ++ step ∷ [])) (sym (word_here words (k + 2) x (omega (arith, count))))
            (goes_on_more bias (steps_on (k + 2) a.trail) (slice_index words (k + 2)) step (a.goes_on k lt) refl)))
        | no ne ↦
            subst (λ l. GoesOn bias l (slice_index (set words (k + 2) x) (j + 2))) (sym (on_other (j + 2) a.trail step (λ (e : k + 2 ≡ j + 2). ne (omega arith))))
            (subst (GoesOn bias (steps_on (j + 2) a.trail)) (sym (word_else words (k + 2) (j + 2) x (λ e. ne (omega arith)))) (a.goes_on j below))
      ];
      looked = subst (λ l. LookInOrder 0 l n) (sym (on_other 0 a.trail step (λ (e : k + 2 ≡ 0). omega arith))) a.looked;
      numbered = numbered_more 0 a.trail step a.numbered (let z : length a.trail ≡ 0 + length a.trail = omega arith in z);
      of_views = of_makers_more (length (set views id w)) a.trail step
          (subst (λ n. AreOfMakers n a.trail) (sym long) a.of_views) (let z : id < length (set views id w) = omega (arith, long, within) in z);
      known = λ j u e. ⊎_elim
          (λ (z : (j ≡ id) × (w ≡ u)). subst (λ i. KnowsPast (a.trail ++ step ∷ []) i u) (sym z.0) (subst (KnowsPast (a.trail ++ step ∷ []) id) z.1 record {
            since = subst (λ (p : Past). p.since ≤ length (a.trail ++ step ∷ [])) (sym past)
                (let s = mine.since in let le : v.past.since ≤ length (a.trail ++ step ∷ []) = omega (arith, all) in le);
            up = λ _. subst (λ (p : Past). p.steps ≡ steps_since p.since (steps_by id (a.trail ++ step ∷ []))) (sym past)
                (ap (λ l. l ++ step ∷ []) (mine.up up)
                ∙ (sym (since_it v.past.since (steps_by id a.trail) step mine.since)
                ∙ sym (ap (steps_since v.past.since) (by_it id a.trail step refl))));
            rests = λ rests. absurd (true≢false (sym rests ∙ up'));
          }))
          (λ (z : (j ≢ id) × (get_elem? views j ≡ m.some u)). let o = a.known j u z.1 in record {
            since = (let s = o.since in omega (arith, all));
            up = λ there. o.up there ∙ sym (ap (steps_since u.past.since) (by_other j a.trail step (λ (e : id ≡ j). z.0 (sym e))));
            rests = o.rests;
          })
          (at_set views id j w u e);
    }

-- a pass that rested wakes up with a look at the turn word, of which half is the length of the history
pub past_wakes : (words words' : List ℕ) (views : List View) (n id found : ℕ) (v w : View) (a : AreIdleSteps words views n) → get_elem? views id ≡ m.some v
    → w.who.resting ≡ false → found / 2 ≡ n → ((k : ℕ) → k < 32 → slice_index words' (k + 2) ≡ slice_index words (k + 2))
    → w.past ≡ record { since = length a.trail; steps = waking_step id (length a.trail) found ∷ [] } → AreIdleSteps words' (set views id w) n
past_wakes words words' views n id found v w a at up half same past =
    let step = waking_step id (length a.trail) found in
    let within = at_below views id v at in
    let long = set_length views id w in
    let all = snoc_length a.trail step in
    record {
      trail = a.trail ++ step ∷ [];
      goes_on = λ k lt. subst (λ l. GoesOn bias l (slice_index words' (k + 2))) (sym (on_other (k + 2) a.trail step (λ (e : 0 ≡ k + 2). omega arith)))
          (subst (GoesOn bias (steps_on (k + 2) a.trail)) (sym (same k lt)) (a.goes_on k lt));
      looked = subst (λ l. LookInOrder 0 l n) (sym (on_it 0 a.trail step refl)) (look_more 0 (steps_on 0 a.trail) step n a.looked half);
      numbered = numbered_more 0 a.trail step a.numbered (let z : length a.trail ≡ 0 + length a.trail = omega arith in z);
      of_views = of_makers_more (length (set views id w)) a.trail step
          (subst (λ makers. AreOfMakers makers a.trail) (sym long) a.of_views) (let z : id < length (set views id w) = omega (arith, long, within) in z);
      known = λ j u e. ⊎_elim
          (λ (z : (j ≡ id) × (w ≡ u)). subst (λ i. KnowsPast (a.trail ++ step ∷ []) i u) (sym z.0) (subst (KnowsPast (a.trail ++ step ∷ []) id) z.1 record {
            since = subst (λ (p : Past). p.since ≤ length (a.trail ++ step ∷ [])) (sym past)
                (let le : length a.trail ≤ length (a.trail ++ step ∷ []) = omega (arith, all) in le);
            up = λ _. subst (λ (p : Past). p.steps ≡ steps_since p.since (steps_by id (a.trail ++ step ∷ []))) (sym past)
                (sym (ap (steps_since (length a.trail)) (by_it id a.trail step refl)
                ∙ since_it (length a.trail) (steps_by id a.trail) step (let z : length a.trail ≤ length a.trail = omega arith in z)
                ∙ ap (λ l. l ++ step ∷ []) (since_none 0 (length a.trail) id a.trail a.numbered (omega arith))));
            rests = λ rests. absurd (true≢false (sym rests ∙ up));
          }))
          (λ (z : (j ≢ id) × (get_elem? views j ≡ m.some u)). let o = a.known j u z.1 in record {
            since = (let s = o.since in omega (arith, all));
            up = λ there. o.up there ∙ sym (ap (steps_since u.past.since) (by_other j a.trail step (λ (e : id ≡ j). z.0 (sym e))));
            rests = o.rests;
          })
          (at_set views id j w u e);
    }

-- what it tells
pub told : (word found left : ℕ) (step : Step) (v changed w : View) → step.word ≡ word → step.found ≡ found → step.leaves ≡ left
    → w ≡ record changed { past = past_with step v.past } → MakesStepOn word found left v changed w
told word found left step v changed w on is leaves same =
    let past : w.past ≡ past_with step v.past = ap (λ (q : View). q.past) same in
    let deed : move_of step ≡ (word, found, left) = λ i. (on i, is i, leaves i) in (
      same ∙ ap (λ (p : Past). record changed { past = p }) (sym past),
      (
        ap (λ (p : Past). p.since) past,
        ap (λ (p : Past). moves_of p.steps) past ∙ (map_push move_of v.past.steps step ∙ ap (λ d. moves_of v.past.steps ++ d ∷ []) deed),
      ),
    )
