use Rattle.run_tests.proofs.ShutLemmas.{fails-to-bind}
use Rattle.run_tests.proofs.outside.ShutFrontFront.bind.Goals as goal

pub returns : goal.returns
returns c = record { binds = fails-to-bind _ _ _ _ c.args.listen c.args.control c.fail.ensures.rises c.fail.ensures.given }
