use Rattle.std.proofs.Common.{arith}
use Rattle.std.proofs.lemmas.Bool.Decides.{nat_tests}
use Rattle.file_table.proofs.PathLemmas.{no_segments, plain_segments}
use Rattle.file_table.proofs.path.plain_name.Goals as goal
use Rattle.file_table.proofs.path.plain_name.Goals.{then-is_empty, else-is_empty}

pub returns-then-all_filled : goal.returns-then-all_filled
returns-then-all_filled c =
    rw (← c.in_ok-name.ensures) (
    elim c.if-is_empty.branch [
      | then-is_empty w ↦ no_segments c.in_ok-name.name.now (grind (arith, nat_tests))
      | else-is_empty w ↦ plain_segments c.in_ok-name.name.now (grind (arith, nat_tests))
    ]
    )
