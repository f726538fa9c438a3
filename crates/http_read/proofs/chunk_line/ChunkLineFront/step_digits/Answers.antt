use Rattle.std.proofs.Common.{arith}
use Rattle.http_read.proofs.ChunkStepLemmas.{digit_more, below_top}
use Rattle.http_read.proofs.chunk_line.ChunkLineFront.step_digits.Goals as goal

pub overflow_mul-size : goal.overflow_mul-size
overflow_mul-size c =
    omega (arith, digit_more _ 0 _ c.requires.size (omega arith), below_top c.args.self.len (omega arith))

pub overflow_add-size : goal.overflow_add-size
overflow_add-size c =
    omega (arith, digit_more _ _ _ c.requires.size c.in-Some.ensures.value.1, below_top c.args.self.len (omega arith))
