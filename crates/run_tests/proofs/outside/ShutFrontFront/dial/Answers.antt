use Rattle.run_tests.proofs.ShutLemmas.{fails-to-dial}
use Rattle.run_tests.proofs.outside.ShutFrontFront.dial.Goals as goal

pub returns : goal.returns
returns c = record {
  dials = fails-to-dial _ _ c.args.port _ _ c.args.word.now _ c.fail.ensures.rises c.fail.ensures.given (c.gives_back.ensures.none c.if-gives_back.false);
}
