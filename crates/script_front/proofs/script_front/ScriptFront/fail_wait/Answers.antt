use Rattle.std.proofs.Common.{ap, ◌∙◌}
use Rattle.script_front.specs.ScriptFront.{SeenFront}
use Rattle.script_front.proofs.FailingLemmas.{failed-wakes, forward-failed}
use Rattle.script_front.proofs.script_front.ScriptFront.fail_wait.Goals as goal

pub returns-clause-forward : goal.returns-clause-forward
returns-clause-forward c =
    let accepted = ap (λ (f : SeenFront). f.told.accepted) c.self.view_is in
    let read = c.read.ensures ∙ ap (λ (f : SeenFront). f.told.read) c.self.view_is in
    let hushed = ap (λ (f : SeenFront). f.told.hushed) c.self.view_is in
    forward-failed c.args.self.now c.put_down.new.self c.args.until c.args.quiet c.show.ensures.is
    (rw (c.clear.ensures, accepted, read, hushed) at c.put_down.ensures)

pub returns-clause-wakes : goal.returns-clause-wakes
returns-clause-wakes c =
    let accepted = ap (λ (f : SeenFront). f.told.accepted) c.self.view_is in
    let read = c.read.ensures ∙ ap (λ (f : SeenFront). f.told.read) c.self.view_is in
    let hushed = ap (λ (f : SeenFront). f.told.hushed) c.self.view_is in
    failed-wakes c.args.self.now c.put_down.new.self c.args.until c.args.quiet
    (rw (c.clear.ensures, accepted, read, hushed) at c.put_down.ensures)
