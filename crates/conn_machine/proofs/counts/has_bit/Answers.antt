use Rattle.std.proofs.Common.{◌≤◌, ◌∙◌, arith}
use Rattle.std.proofs.lemmas.Bool.{le-ltb}
use Rattle.conn_machine.proofs.KeptCounts.{no_bit}
use Rattle.conn_machine.proofs.counts.has_bit.Goals as goal

pub returns-else-bit-lt64 : goal.returns-else-bit-lt64
returns-else-bit-lt64 c =
    let beyond : 64 ≤ c.args.bit = omega (arith, c.if-bit-lt64.false) in
    le-ltb c.args.bit 64 beyond ∙ no_bit c.args.word c.args.bit (omega arith) beyond
