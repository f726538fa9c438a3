use Rattle.std.proofs.Common.{w64, arith, rules}
use Rattle.std.proofs.lemmas.Nat.Bits.{bit_at-trailing_ones}
use Rattle.conn_machine.proofs.counts.lowest_clear.Goals as goal

pub returns-else-word-eq18446744073709551615 : goal.returns-else-word-eq18446744073709551615
returns-else-word-eq18446744073709551615 c = search (rules, bit_at-trailing_ones w64 c.args.word (omega arith))
