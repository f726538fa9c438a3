-- What a reservation leaves, by what its steps found, and what a look shows.
use Rattle.std.proofs.Common.{◌≡◌, ◌+◌, ◌-◌, ◌<◌, ◌≤◌, ℕ, true, false, nat_lt, List, [], ◌∷◌, ◌++◌, Some, None, sym, ap, subst, ◌∙◌, append_assoc, arith}
use Rattle.std.proofs.lemmas.Bool.{lt-ltb, le-ltb}
use Rattle.conn_machine.specs.declared.event.Entry.{Entry}
use Rattle.conn_machine.specs.Folds.{opening_record}
use Rattle.conn_machine.specs.Laws.{idle_in}
use Rattle.conn_machine.specs.Made.{AreMade, HasSeen}
use Rattle.conn_machine.specs.Runs.{after}
use Rattle.table_rule.specs.declared.view.Hand.{Hand}
use Rattle.table_rule.specs.declared.view.Past.{Past}
use Rattle.table_rule.specs.declared.view.View.{View}
use Rattle.table_rule.specs.IdleWords.{bias}
use Rattle.table_rule.specs.Pasts.{MakesSteps, MakesStepOn, moves_of}
use Rattle.table_rule.specs.Steps.{tried_view}
use Rattle.table_rule.specs.Views.{IsIdle, seeing_view, with_permit, with_try}
use Rattle.idle_workers.specs.Found.{FoundIdle, ReservesPermit}

child_is : (k : ℕ) → k + 2 - 2 ≡ k
child_is k = omega arith

-- a try that found a permit
pub reserved : (k found : ℕ) (v w : View) → bias < found → MakesStepOn (k + 2) found (found - 1) v (tried_view (nat_lt bias found) (k + 2 - 2) v) w
    → ReservesPermit k v true w
reserved k found v w above told =
    let b : nat_lt bias found ≡ true = lt-ltb bias found above in
    record {
      found = found;
      answer = sym b;
      kept = λ _. told.0 ∙ ap (λ t. record (tried_view t (k + 2 - 2) v) { past = w.past }) b
          ∙ ap (λ i. record (with_permit (Some i) v) { past = w.past }) (child_is k);
      tried = λ _. told.1;
      left = λ e. absurd (cc);
      undone = λ e. absurd (cc);
    }

-- a try that found none
pub missed : (k found : ℕ) (v w : View) → found ≤ bias → MakesStepOn (k + 2) found (found - 1) v (tried_view (nat_lt bias found) (k + 2 - 2) v) w
    → w ≡ record (with_try (Some k) v) { past = w.past }
missed k found v w low told =
    told.0 ∙ ap (λ t. record (tried_view t (k + 2 - 2) v) { past = w.past }) (le-ltb bias found low)
    ∙ ap (λ i. record (with_try (Some i) v) { past = w.past }) (child_is k)

-- two steps, one after the other
steps_both : (a b : ℕ × ℕ × ℕ) (p q r : Past) → MakesSteps (a ∷ []) p q → MakesSteps (b ∷ []) q r → MakesSteps (a ∷ b ∷ []) p r
steps_both a b p q r one two =
    (two.0 ∙ one.0, two.1 ∙ (ap (λ l. l ++ b ∷ []) one.1 ∙ append_assoc (moves_of p.steps) (a ∷ []) (b ∷ [])))

-- it was undone
pub undone : (k found again : ℕ) (v w u : View) → IsIdle v → found ≤ bias
    → MakesStepOn (k + 2) found (found - 1) v (tried_view (nat_lt bias found) (k + 2 - 2) v) w → MakesStepOn (k + 2) again (again + 1) w (with_try None w) u
    → ReservesPermit k v false u
undone k found again v w u idle low told back =
    let none : v.hand.trying ≡ None = ap (λ (h : Hand). h.trying) idle.hand in
    record {
      found = found;
      answer = sym (le-ltb bias found low);
      kept = λ e. absurd (cc);
      tried = λ e. absurd (cc);
      left = λ _. back.0 ∙ ap (λ (q : View). record (with_try None q) { past = u.past }) (missed k found v w low told)
          ∙ ap (λ t. record (with_try t v) { past = u.past }) (sym none);
      undone = λ _. (again, steps_both (k + 2, found, found - 1) (k + 2, again, again + 1) v.past w.past u.past told.1 back.1);
    }

-- a look shows the history of its moment
pub looked : (k found count : ℕ) (v w : View) (history : List Entry) → count ≡ found - bias → MakesStepOn (k + 2) found found v (seeing_view history v) w
    → HasSeen v.who.number v.seen history → AreMade v.origin.state (opening_record v.origin.passes) history
    → found - bias ≤ idle_in (after v.origin.state history) (k + 2 - 2) → FoundIdle k v count w
looked k found count v w history answer told seen made free =
    let is : history ≡ w.seen = sym (ap (λ (u : View). u.seen) told.0) in
    let below : count ≤ idle_in (after v.origin.state history) k =
    subst (λ n. n ≤ idle_in (after v.origin.state history) k) (sym answer)
    (subst (λ i. found - bias ≤ idle_in (after v.origin.state history) i) (child_is k) free) in
    record {
      found = found;
      answer = answer;
      looked = subst (λ h. MakesStepOn (k + 2) found found v (seeing_view h v) w) is told;
      seen = subst (HasSeen v.who.number v.seen) is seen;
      made = subst (AreMade v.origin.state (opening_record v.origin.passes)) is made;
      free = subst (λ h. count ≤ idle_in (after v.origin.state h) k) is below;
    }
