use Rattle.run_tests.proofs.ShutLemmas.{fails-to-wait}
use Rattle.run_tests.proofs.outside.ShutFrontFront.wait.Goals as goal

pub returns : goal.returns
returns g c = record { waits = fails-to-wait _ _ _ _ c.args.until c.args.quiet c.clear.new.self c.fail.ensures.rises c.fail.ensures.given c.clear.ensures }
