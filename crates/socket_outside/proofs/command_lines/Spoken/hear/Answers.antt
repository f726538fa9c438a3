use Rattle.socket_outside.proofs.HearLemmas.{heard_more, hears_further}
use Rattle.socket_outside.proofs.command_lines.Spoken.hear.Goals as goal

pub loop-heard-preserved : goal.loop-heard-preserved
loop-heard-preserved g c = record {
  reads = heard_more _ _ _ _ _ c.loop-heard.invariant.reads c.in_default.ensures.once;
  bytes = hears_further c.args.self.now c.loop-heard.self c.hear_once.new.self (g.S.Speaker.left c.args.speaker.now)
      (g.S.Speaker.left c.loop-heard.speaker) (g.S.Speaker.left c.hear_once.new.speaker) c.loop-heard.invariant.bytes c.in_default.ensures.bytes;
}
