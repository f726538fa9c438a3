-- The reads so far gave bytes, behind which more are to come, and these stand behind those that had come. Fewer may come each time.
use Rattle.std.proofs.Common.{◌-◌, length}
use Rattle.socket_outside.specs.CommandLines.{HearsOn}
use Rattle.socket_outside.specs.CommandLinesInside.{HasHeard}
use Rattle.socket_outside.proofs.command_lines.Spoken.hear.Given as goal

abbrev pub invariant-loop-heard : goal.invariant-loop-heard
invariant-loop-heard g l = record {
  reads : HasHeard (g.S.Speaker.answered l.fn.speaker) (g.S.Speaker.answered l.speaker) l.self;
  bytes : HearsOn l.fn.self l.self (g.S.Speaker.left l.fn.speaker) (g.S.Speaker.left l.speaker);
}

abbrev pub decreases-loop-heard : goal.decreases-loop-heard
decreases-loop-heard g l = 33 - length l.self
