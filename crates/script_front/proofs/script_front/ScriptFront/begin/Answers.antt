use Rattle.std.proofs.Common.{◌≡◌, drop, ap, sym, ◌∙◌, drop-drop, arith}
use Rattle.script_front.specs.ScriptFront.{SeenFront, lines_now, to_come}
use Rattle.script_front.proofs.ComingLemmas.{now_passed}
use Rattle.script_front.proofs.MomentLemmas.{now_past}
use Rattle.script_front.proofs.PlayedLemmas.{played-begun}
use Rattle.script_front.proofs.script_front.ScriptFront.begin.Goals as goal
use Rattle.script_front.proofs.script_front.ScriptFront.begin.Goals.{then-count-gt0, else-count-gt0}

pub pass-requires-clause-next : goal.pass-requires-clause-next
pass-requires-clause-next c =
    rw (c.lines_now-count.ensures.is, c.to_come.ensures) (now_passed (to_come c.args.self.now))

pub pass-requires-clause-past : goal.pass-requires-clause-past
pass-requires-clause-past c =
    rw (c.lines_now-count.ensures.is, c.to_come.ensures) (now_past c.args.self.now.told.moment (to_come c.args.self.now))

pub invariant_of-self : goal.invariant_of-self
invariant_of-self c =
    let old = c.args.self.now in
    let s = c.self-2.inside in
    let count = c.lines_now-count.result in
    let counts : count ≡ lines_now (to_come old) = c.lines_now-count.ensures.is ∙ ap lines_now c.to_come.ensures in
    let none : lines_now (to_come c.if-count-gt0.self) ≡ 0 =
    elim c.if-count-gt0.branch [
      | then-count-gt0 w ↦
          let passed : lines_now (drop count (to_come old)) ≡ 0 = rw counts (now_passed (to_come old)) in
          rw (w.self-is, w.pass.ensures) (ap lines_now (sym (drop-drop count old.happened old.script)) ∙ passed)
      | else-count-gt0 w ↦ rw w.self-is (omega (arith, counts, w.if-count-gt0.false))
    ] in
    let next = ap (λ (f : SeenFront). lines_now (to_come f)) c.self-2.view_is ∙ none in
    played-begun s.script s.happened s.begun s.moment s.arrived s.accepted s.hushed s.clients s.commands s.ends c.self-2.invariant next
