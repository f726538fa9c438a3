use Rattle.std.proofs.Common.{◌∙◌, arith}
use Rattle.socket_outside.proofs.DialLemmas.{fills_room}
use Rattle.socket_outside.proofs.dial.keep.Goals as goal

pub returns-in-Ok-clause-kept : goal.returns-in-Ok-clause-kept
returns-in-Ok-clause-kept c =
    c.in-Ok.ensures.ok
    ∙ fills_room 512 c.min-kept.result c.args.answer.now c.args.bytes.now c.requires.few (omega (arith, c.len-room.ensures, c.min-kept.ensures))
