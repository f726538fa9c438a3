-- What lines say of a link, one after the other, and all together.
use Rattle.std.proofs.Common.{◌≡◌, ℕ, ◌+◌, ◌<◌, Bool, true, false, ◌||◌, cond, bytes_eq, List, [], ◌∷◌, ◌++◌, length, get_or, set, take, map, Option, Some, ap, subst, sym, refl, ◌∙◌, append_assoc, append-nil, arith}
use Rattle.std.specs.List.{slice_get}
use Rattle.std.proofs.lemmas.List.{map-set, take_more}
use Rattle.std.proofs.lemmas.Option.{slice_get-get_or, slice_get-map, slice_get_read}
use Rattle.mpm_script.specs.Clients.{fails_of, sent_by}
use Rattle.mpm_base.specs.declared.script_line.ClientAct.{ClientAct}
use Rattle.mpm_base.specs.declared.script_line.ClientAct.TheVariants as act
use Rattle.mpm_base.specs.declared.script_line.LinkCall.TheVariants as call
use Rattle.mpm_base.specs.declared.script_line.ScriptLine.{ScriptLine}
use Rattle.mpm_base.specs.declared.script_line.ScriptLine.TheVariants as line
use Rattle.script_front.specs.declared.client_plans.Awaited.{Awaited}
use Rattle.script_front.specs.declared.client_plans.LinkPlan.{LinkPlan}
use Rattle.mpm_script.specs.NameChains.{IsLastBelow}
use Rattle.script_front.specs.PlayedPartsInside.{is_of_client, new_plan, plan_after, plan_after_act, plan_after_line, plan_after_lines, plan_of, plans}
use Rattle.script_front.proofs.WalkLemmas.{Alike, Walked, alike-maps, map-itself, walked-at, walked-start, walked-step}

-- what a plan is once the lines happened
abbrev joined : LinkPlan → LinkPlan → LinkPlan
joined plan more =
    record {
      text = cond plan.ended plan.text (plan.text ++ more.text);
      ended = plan.ended || more.ended;
      fail_reads = plan.fail_reads ++ more.fail_reads;
      fail_writes = plan.fail_writes ++ more.fail_writes;
      drops = plan.drops || more.drops;
    }

or-false : (b : Bool) → (b || false) ≡ b
or-false true = refl
or-false false = refl

cond-same : {X : Type 0} (b : Bool) (x : X) → cond b x x ≡ x
cond-same true x = refl
cond-same false x = refl

joined-none : (name : List ℕ) (plan : LinkPlan) → plan ≡ joined plan (plan_of [] name)
joined-none name plan =
    rw (append-nil plan.text, append-nil plan.fail_reads, append-nil plan.fail_writes, or-false plan.ended, or-false plan.drops, cond-same plan.ended plan.text) refl

module _ (name : List ℕ) (lines : List ScriptLine) where
  joined-act : (act : ClientAct) (plan : LinkPlan) (other : List ℕ) → bytes_eq other name ≡ true
      → joined (plan_after_act act plan) (plan_of lines name) ≡ joined plan (plan_of (line.Client other act ∷ lines) name)
  joined-act (act.Send bytes) plan other own = go plan.ended
    where
      go : (ended : Bool) → joined (plan_after_act (act.Send bytes) (record plan { ended = ended })) (plan_of lines name)
          ≡ joined (record plan { ended = ended }) (plan_of (line.Client other (act.Send bytes) ∷ lines) name)
      go true = rw own refl
      go false = rw (own, append_assoc plan.text bytes (sent_by name lines)) refl
  joined-act act.End plan other own = go plan.ended
    where
      go : (ended : Bool) → joined (plan_after_act act.End (record plan { ended = ended })) (plan_of lines name)
          ≡ joined (record plan { ended = ended }) (plan_of (line.Client other act.End ∷ lines) name)
      go true = rw own refl
      go false = rw (own, append-nil plan.text) refl
  joined-act act.Drop plan other own = go plan.drops
    where
      go : (drops : Bool) → joined (plan_after_act act.Drop (record plan { drops = drops })) (plan_of lines name)
          ≡ joined (record plan { drops = drops }) (plan_of (line.Client other act.Drop ∷ lines) name)
      go true = rw own refl
      go false = rw own refl
  joined-act (act.Room room) plan other own = rw own refl
  joined-act (act.Fail call.Read number) plan other own = rw (own, append_assoc plan.fail_reads (number ∷ []) (fails_of call.Read name lines)) refl
  joined-act (act.Fail call.Write number) plan other own = rw (own, append_assoc plan.fail_writes (number ∷ []) (fails_of call.Write name lines)) refl

  joined-line : (l : ScriptLine) (plan : LinkPlan) → joined (plan_after_line name l plan) (plan_of lines name) ≡ joined plan (plan_of (l ∷ lines) name)
  joined-line (line.At m) plan = refl
  joined-line (line.Conn other) plan = refl
  joined-line (line.Client other act) plan = go (bytes_eq other name) refl
    where
      go : (own : Bool) → bytes_eq other name ≡ own
          → joined (cond own (plan_after_act act plan) plan) (plan_of lines name) ≡ joined plan (plan_of (line.Client other act ∷ lines) name)
      go true is = joined-act act plan other is
      go false is = rw is refl
  joined-line (line.Command word) plan = refl
  joined-line (line.Site site) plan = refl

joined-lines : (name : List ℕ) (lines : List ScriptLine) (plan : LinkPlan) → plan_after_lines name lines plan ≡ joined plan (plan_of lines name)
joined-lines name [] plan = joined-none name plan
joined-lines name (l ∷ lines) plan = joined-lines name lines (plan_after_line name l plan) ∙ joined-line name lines l plan

-- all lines say of a link what they say one after the other
pub plan-whole : (lines : List ScriptLine) (name : List ℕ) → plan_after lines name ≡ plan_of lines name
plan-whole lines name = joined-lines name lines new_plan

pub plans-whole : (lines : List ScriptLine) (names : List (List ℕ)) → map (plan_after lines) names ≡ map (plan_of lines) names
plans-whole lines [] = refl
plans-whole lines (name ∷ names) = rw (plan-whole lines name) (ap (λ rest. plan_of lines name ∷ rest) (plans-whole lines names))

-- one line more
after-append : (name : List ℕ) (lines more : List ScriptLine) (plan : LinkPlan) → plan_after_lines name (lines ++ more) plan ≡ plan_after_lines name more (plan_after_lines name lines plan)
after-append name [] more plan = refl
after-append name (l ∷ lines) more plan = after-append name lines more (plan_after_line name l plan)

pub after-more : (lines : List ScriptLine) (i : ℕ) (l : ScriptLine) → i < length lines → l ≡ get_or lines i l → (name : List ℕ)
    → plan_after (take (i + 1) lines) name ≡ plan_after_line name l (plan_after (take i lines) name)
after-more lines i l h is name =
    ap (λ ls. plan_after_lines name ls new_plan) (take_more lines i l h ∙ ap (λ x. take i lines ++ x ∷ []) (sym is)) ∙ after-append name (take i lines) (l ∷ []) new_plan

pub plans-more : (lines : List ScriptLine) (i : ℕ) (l : ScriptLine) → i < length lines → l ≡ get_or lines i l → (names : List (List ℕ))
    → map (λ name. plan_after_line name l (plan_after (take i lines) name)) names ≡ map (plan_after (take (i + 1) lines)) names
plans-more lines i l h is [] = refl
plans-more lines i l h is (name ∷ names) = rw (after-more lines i l h is name) (ap (λ rest. plan_after_line name l (plan_after (take i lines) name) ∷ rest) (plans-more lines i l h is names))

-- a line that acts on no client says nothing
pub plan-silent : (name : List ℕ) (l : ScriptLine) (plan : LinkPlan) → is_of_client l ≡ false → plan_after_line name l plan ≡ plan
plan-silent name (line.At m) plan none = refl
plan-silent name (line.Conn other) plan none = refl
plan-silent name (line.Client other act) plan none = absurd (cc)
plan-silent name (line.Command word) plan none = refl
plan-silent name (line.Site site) plan none = refl

-- ## A walk over the links of one name

module _ (names : List (List ℕ)) (name : List ℕ) (did : ClientAct) (plan : List ℕ → LinkPlan) where
  abbrev told : List ℕ → LinkPlan
  told n = plan_after_line n (line.Client name did) (plan n)

  plan-alike : Alike name names (map plan names) (map told names)
  plan-alike = subst (λ ns. Alike name ns (map plan names) (map told names)) (map-itself names) (alike-maps (λ n. n) plan told name (λ n other. rw other refl) names)

  pub plan-start : (items : List Awaited) (next : Option ℕ) → plans items ≡ map plan names → IsLastBelow name (length names) names next
      → Walked name names (map plan names) (map told names) (plans items) next
  plan-start items next is last = rw is (walked-start name names (map plan names) (map told names) plan-alike next last)

  pub plan-step : (items : List Awaited) (place : ℕ) (x x' : Awaited) (next : Option ℕ) → Walked name names (map plan names) (map told names) (plans items) (Some place)
      → length items ≡ length names → x ≡ get_or items place x → x'.plan ≡ plan_after_act did x.plan → IsLastBelow (get_or names place []) place names next
      → Walked name names (map plan names) (map told names) (plans (set items place x')) next
  plan-step items place x x' next walked each is acts last =
      let n : List ℕ = get_or names place [] in
      let here : slice_get names place ≡ Some n = slice_get-get_or names place [] walked.at.0 in
      let item : slice_get items place ≡ Some x = slice_get_read items (length items) place x refl (omega (arith, each, walked.at.0)) is in
      let old : Some x.plan ≡ Some (plan n) =
      sym (slice_get-map (λ (one : Awaited). one.plan) items place ∙ rw item refl)
      ∙ walked-at name names (map plan names) (map told names) plan-alike (plans items) place walked ∙ slice_get-map plan names place ∙ rw here refl in
      let same : x.plan ≡ plan n = cc in
      let new : told n ≡ x'.plan = rw (walked.at.1, acts, same) refl in
      let there : slice_get (map told names) place ≡ Some x'.plan = slice_get-map told names place ∙ rw (here, new) refl in
      let step = walked-step name names (map plan names) (map told names) plan-alike (plans items) place x'.plan next walked there last in
      rw (map-set (λ (one : Awaited). one.plan) items place x') step

-- the line says nothing of any link
pub plans-still : (lines : List ScriptLine) (i : ℕ) (l : ScriptLine) → i < length lines → l ≡ get_or lines i l → is_of_client l ≡ false → (names : List (List ℕ))
    → map (plan_after (take i lines)) names ≡ map (plan_after (take (i + 1) lines)) names
plans-still lines i l h is none [] = refl
plans-still lines i l h is none (name ∷ names) =
    rw (after-more lines i l h is name, plan-silent name l (plan_after (take i lines) name) none)
    (ap (λ rest. plan_after (take i lines) name ∷ rest) (plans-still lines i l h is none names))
