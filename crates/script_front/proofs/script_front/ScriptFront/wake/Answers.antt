use Rattle.std.proofs.Common.{◌≡◌, ℕ, ◌<◌, inl, inr, not, ◌&&◌, List, [], max, length, ap, sym, subst, ◌∙◌, arith}
use Rattle.mpm_base.specs.Front.{HasAllTaken, earlier}
use Rattle.script_front.specs.PlayedFrontInside.{gone_to, with_begun, with_clients, with_end}
use Rattle.script_front.specs.ScriptFront.{IsUnderWay, SeenFront, next_moment, all_taken_closed, to_come}
use Rattle.script_front.specs.Signals.{Gives}
use Rattle.script_front.proofs.LookLemmas.{gives-looks}
use Rattle.script_front.proofs.PlaysLemmas.{may-not, may-pass, plays-begins, plays-ends, plays-over, plays-passes, none-of, plays-signals, plays-stays, some-of}
use Rattle.script_front.proofs.script_front.ScriptFront.wake.Goals as goal
use Rattle.script_front.proofs.script_front.ScriptFront.wake.Goals.{After-is_over, After-may_pass, After-signal, After-earlier-next, then-not-may_pass-via-then-not-may_pass, then-not-may_pass-via-else-not-may_pass+then-not-is_empty}

pub returns-then-self-gt0-clause-plays : goal.returns-then-self-gt0-clause-plays
returns-then-self-gt0-clause-plays c =
    let view = c.self.view_is in
    let ends : 0 < c.args.self.now.ends = omega (arith, c.if-self-gt0.true, ap (λ (f : SeenFront). f.ends) view) in
    let begun = sym (ap (λ (f : SeenFront). f.begun) view) ∙ (c.self.invariant.over c.if-self-gt0.true).begun in
    plays-over c.args.self.now c.end.new.self c.args.until c.args.quiet _ c.end.ensures.state c.requires begun ends

pub returns-then-begin-clause-plays : goal.returns-then-begin-clause-plays
returns-then-begin-clause-plays c =
    let begins = c.begin.ensures.begins c.if-begin.true in
    let lasts : c.args.self.now.ends ≡ 0 = omega (arith, c.if-self-gt0.false, ap (λ (f : SeenFront). f.ends) c.self.view_is) in
    let stands = ap (λ (f : SeenFront). f.told.moment) (c.self-2.view_is ∙ begins.2) in
    plays-begins c.args.self.now c.begin.new.self c.args.until c.args.quiet _ _ begins.2 c.requires stands lasts begins.0 begins.1

-- ## Behind the signals

goes : (c : After-signal) → IsUnderWay c.args.self.now
goes c = record {
  ends = omega (arith, c.if-self-gt0.false, ap (λ (f : SeenFront). f.ends) c.self.view_is);
  next = (c.begin.ensures.goes_on c.if-begin.false).0;
}

gives : (c : After-signal) → Gives 256 c.args.self.now.clients c.args.self.now.names c.signal.new.self.clients c.signal.new.ready
gives c = rw (c.begin.ensures.goes_on c.if-begin.false).1 at c.signal.ensures.gives

is : (c : After-signal) → c.signal.new.self ≡ with_clients c.signal.new.self.clients (with_begun c.args.self.now)
is c = c.signal.ensures.state ∙ ap (with_clients c.signal.new.self.clients) (c.begin.ensures.goes_on c.if-begin.false).1

none : (c : After-earlier-next) → c.signal.new.ready ≡ []
none c = sym c.slots.ensures.is ∙ none-of _ c.if-not-is_empty.ensures

comes : (c : After-earlier-next) → c.signal.new.self ≡ with_clients c.signal.new.self.clients (with_begun c.args.self.now)
    → earlier c.args.until (next_moment (to_come c.args.self.now)) ≡ c.earlier-next.result
comes c begun = sym (c.earlier-next.ensures ∙ ap (earlier c.args.until) (c.next_moment.ensures ∙ ap next_moment (c.to_come.ensures ∙ ap to_come begun)))

-- whether time may pass, as it is known behind the signals
may : (c : After-may_pass) → (c.args.quiet && not c.args.self.now.told.failed) ≡ c.may_pass.result
may c =
    let at = goal.at.After-may_pass c in
    ap (λ (f : SeenFront). c.args.quiet && not f.told.failed) (sym (is at.After-signal)) ∙ sym c.may_pass.ensures

pub returns-then-not-may_pass-clause-plays : goal.returns-then-not-may_pass-clause-plays
returns-then-not-may_pass-clause-plays c =
    let all = goal.at.returns-then-not-may_pass-clause-plays c in
    let at = all.After-signal in
    let old = c.args.self.now in
    let stands = ap (λ (f : SeenFront). f.told.moment) (c.self-3.view_is ∙ is at) in
    plays-signals old c.signal.new.self c.args.until c.args.quiet _ _ (goes at) (gives at) _ (is at) stands (elim c.then-not-may_pass.branch [
      | then-not-may_pass-via-then-not-may_pass w ↦ inl (may-not c.args.quiet old.told.failed (may all.After-may_pass ∙ w.if-not-may_pass.true))
      | then-not-may_pass-via-else-not-may_pass+then-not-is_empty w ↦ inr (subst (λ (slots : List ℕ). 0 < length slots) w.slots.ensures.is (some-of _ w.if-not-is_empty.ensures))
    ])

pub returns-in-Some-clause-plays : goal.returns-in-Some-clause-plays
returns-in-Some-clause-plays c =
    let at = goal.at.returns-in-Some-clause-plays c in
    let begun = is at.After-signal in
    let next = c.in-Some.moment in
    let gone = c.go_to.ensures ∙ ap (λ (f : SeenFront). gone_to (max f.told.moment next) f) begun in
    let stands = ap (λ (f : SeenFront). f.told.moment) (c.self-in-Some.view_is ∙ gone) in
    plays-passes c.args.self.now c.go_to.new.self c.args.until c.args.quiet _ _ (goes at.After-signal) (gives at.After-signal) next _ gone (none at.After-earlier-next) stands
    (may-pass c.args.self.now c.args.quiet (may at.After-may_pass ∙ c.if-not-may_pass.false)) (comes at.After-earlier-next begun ∙ c.in-Some.is)

-- ## Behind the look at the links

over : (c : After-is_over) → c.is_over.new.self ≡ with_clients c.is_over.new.self.clients (with_begun c.args.self.now)
over c =
    let at = goal.at.After-is_over c in
    c.is_over.ensures.state ∙ ap (with_clients c.is_over.new.self.clients) (is at.After-signal)

looked : (c : After-is_over) → Gives 256 c.args.self.now.clients c.args.self.now.names c.is_over.new.self.clients c.signal.new.ready
looked c =
    let at = goal.at.After-is_over c in
    gives-looks (gives at.After-signal) (omega arith) (none at.After-earlier-next) c.is_over.new.self.clients c.is_over.ensures.looks

pub returns-then-is_over-clause-plays : goal.returns-then-is_over-clause-plays
returns-then-is_over-clause-plays c =
    let at = goal.at.returns-then-is_over-clause-plays c in
    let begun = is at.After-signal in
    let now = over at.After-is_over in
    let ended = c.is_over.ensures.over c.if-is_over.true in
    let taken = subst (λ (f : SeenFront). HasAllTaken f.told) now ended.0 in
    plays-ends c.args.self.now c.end-then-is_over.new.self c.args.until c.args.quiet _ _ (goes at.After-signal) (looked at.After-is_over)
    (c.end-then-is_over.ensures.state ∙ ap with_end now) (none at.After-earlier-next) (may-pass c.args.self.now c.args.quiet (may at.After-may_pass ∙ c.if-not-may_pass.false)) (comes at.After-earlier-next begun ∙ c.in_default.is)
    (record { left = taken.left; read = taken.read; accepted = taken.accepted }) (ap all_taken_closed (sym now) ∙ ended.1)

pub returns-clause-plays : goal.returns-clause-plays
returns-clause-plays c =
    let at = goal.at.returns-clause-plays c in
    let begun = is at.After-signal in
    let now = over at.After-is_over in
    let stands = ap (λ (f : SeenFront). f.told.moment) (c.self-4.view_is ∙ now) in
    plays-stays c.args.self.now c.is_over.new.self c.args.until c.args.quiet _ _ (goes at.After-signal) (looked at.After-is_over) _ now (none at.After-earlier-next) stands
    (may-pass c.args.self.now c.args.quiet (may at.After-may_pass ∙ c.if-not-may_pass.false)) (comes at.After-earlier-next begun ∙ c.in_default.is) (c.is_over.ensures.unclosed c.if-is_over.false)
