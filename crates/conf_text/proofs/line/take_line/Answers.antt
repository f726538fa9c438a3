-- Nothing is joined at first.
use Rattle.std.proofs.Common.{arith}
use Rattle.conf_text.proofs.LineLemmas.{begins}
use Rattle.conf_text.proofs.line.take_line.Goals as goal

pub loop-rest-init : goal.loop-rest-init
loop-rest-init c = (c.utf8.text, (λ n. rw c.clear.ensures.bytes (begins n c.args.text.now c.requires)), omega arith)
