use Rattle.std.proofs.Common.{subst}
use Rattle.conn_machine.specs.declared.state.Going.{Going}
use Rattle.run_report.specs.EndingsInside.{IsExitStatusOf}
use Rattle.run_report.proofs.EndingLemmas.{lacks-in-run}
use Rattle.run_report.proofs.reporting.report_run.Goals as goal

pub returns-clause-lacking : goal.returns-clause-lacking
returns-clause-lacking g c six =
    lacks-in-run (g.K.Sink.seen c.args.out.now) (g.K.Sink.seen c.report.new.out) c.args.board.now c.status_of.result c.requires.stopped
    (subst (λ (going : Going). IsExitStatusOf going c.status_of.result) c.going.ensures c.status_of.ensures) (c.report.ensures.lacking six)
