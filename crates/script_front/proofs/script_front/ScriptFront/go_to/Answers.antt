use Rattle.script_front.specs.ScriptFront.{to_come}
use Rattle.script_front.proofs.ComingLemmas.{by_passed}
use Rattle.script_front.proofs.MomentLemmas.{by_past}
use Rattle.script_front.proofs.script_front.ScriptFront.go_to.Goals as goal

pub pass-requires-clause-next : goal.pass-requires-clause-next
pass-requires-clause-next c =
    rw (c.stand_at.ensures, c.lines_by-count.ensures.is, c.to_come.ensures) (by_passed c.max-to.result (to_come c.args.self.now))

pub pass-requires-clause-past : goal.pass-requires-clause-past
pass-requires-clause-past c =
    rw (c.stand_at.ensures, c.lines_by-count.ensures.is, c.to_come.ensures) (by_past c.max-to.result (to_come c.args.self.now))
