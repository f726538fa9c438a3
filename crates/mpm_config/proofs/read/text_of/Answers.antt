use Rattle.mpm_config.proofs.TextLemmas.{text_len-utf8, nul_refuses, no_nul}
use Rattle.mpm_config.proofs.read.text_of.Goals as goal

pub returns-then-nul-bytes : goal.returns-then-nul-bytes
returns-then-nul-bytes c =
    nul_refuses c.args.bytes.now c.nul_place-nul.result
    (text_len-utf8 c.args.bytes.now c.nul_place-nul.result c.in-Ok.ensures.cases.1 c.nul_place-nul.ensures) c.if-nul-bytes.true

pub returns-else-nul-bytes : goal.returns-else-nul-bytes
returns-else-nul-bytes c = (
  c.in-Ok.ensures.cases.0,
  no_nul c.args.bytes.now c.nul_place-nul.result
      (text_len-utf8 c.args.bytes.now c.nul_place-nul.result c.in-Ok.ensures.cases.1 c.nul_place-nul.ensures) c.if-nul-bytes.false,
)
