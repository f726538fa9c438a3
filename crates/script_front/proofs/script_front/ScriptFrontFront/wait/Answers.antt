use Rattle.std.proofs.Common.{ap, refl, ◌∙◌}
use Rattle.script_front.specs.ScriptFront.{SeenFront}
use Rattle.script_front.proofs.WaitLemmas.{plays-put_down, waits}
use Rattle.script_front.proofs.script_front.ScriptFrontFront.wait.Goals as goal

pub returns-clause-plays : goal.returns-clause-plays
returns-clause-plays g c =
    plays-put_down c.args.self.now _ _ _ _ _ _ _ c.put_down.ensures c.wake-answer.ensures.plays

pub returns-clause-waits : goal.returns-clause-waits
returns-clause-waits g c =
    let plays = plays-put_down c.args.self.now _ c.put_down.new.self c.args.until c.args.quiet _ _ _ c.put_down.ensures c.wake-answer.ensures.plays in
    let from = ap (λ (f : SeenFront). f.told.moment) c.self.view_is in
    let to = ap (λ (f : SeenFront). f.told.moment) c.self-2.view_is in
    let passed = c.passed_between.ensures ∙ rw (from, to, c.waiting-waiting.ensures) refl in
    let accepted = ap (λ (f : SeenFront). f.told.accepted) c.self-2.view_is in
    let read = c.read.ensures ∙ ap (λ (f : SeenFront). f.told.read) c.self-2.view_is in
    let hushed = ap (λ (f : SeenFront). f.told.hushed) c.self-2.view_is in
    waits c.args.self.now _ _ _ _ _ _ _ _ _ _ c.show.ensures.is c.show-2.ensures.is c.show-2.ensures.over passed accepted read hushed c.put_down.ensures plays c.wake-answer.ensures.rest c.wake-answer.ensures.over
