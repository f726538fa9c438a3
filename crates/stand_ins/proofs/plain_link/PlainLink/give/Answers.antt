use Rattle.std.proofs.Math.Seq.{take-add}
use Rattle.std.proofs.lemmas.Bool.{ne_eqb}
use Rattle.std.proofs.lemmas.List.{drop-drop}
use Rattle.stand_ins.proofs.plain_link.PlainLink.give.Goals as goal

pub returns-then-self-eq0 : goal.returns-then-self-eq0
returns-then-self-eq0 c =
    let l = c.self.inside in
    rw (← c.self.view_is, c.if-self-eq0.true, c.self.invariant.1 c.if-self-eq0.true, take-add l.given c.args.count l.coming, drop-drop c.args.count l.given l.coming)

pub returns-else-self-eq0 : goal.returns-else-self-eq0
returns-else-self-eq0 c =
    let l = c.self.inside in
    rw (← c.self.view_is, ne_eqb l.half_closed 0 c.if-self-eq0.false, take-add l.given c.args.count l.coming, drop-drop c.args.count l.given l.coming)
