use Rattle.std.proofs.Common.{arith, refl}
use Rattle.std.proofs.lemmas.Bool.Decides.{nat_tests}
use Rattle.file_table.proofs.PathLemmas.{segments_between}
use Rattle.file_table.proofs.path.between_slashes.Goals as goal

pub returns : goal.returns
returns c =
    segments_between c.args.path.now _ (grind (arith, nat_tests)) (grind (arith, nat_tests)) refl (grind (arith, nat_tests)) (grind (arith, nat_tests))
