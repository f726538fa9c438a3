use Rattle.run_opening.specs.Configured.{warnings_of}
use Rattle.std.proofs.Common.{◌∙◌, ◌++◌, ℕ, List, subst}
use Rattle.listener.specs.RunsInside.{open_lines_of}
use Rattle.run_report.specs.EndingsInside.{WritesAll}
use Rattle.run_report.proofs.EndingLemmas.{ends-as}
use Rattle.listener.proofs.LeftLemmas.{stopped-end}
use Rattle.server_run.proofs.ServeLemmas.{opened-status}
use Rattle.server_run.proofs.serve_run.serve_edition.Goals as goal

pub returns-in-Ok-clause-run : goal.returns-in-Ok-clause-run
returns-in-Ok-clause-run g c =
    let old = g.K.Sink.seen c.args.out.now in
    let mid = g.K.Sink.seen c.run_server-answer.new.out in
    let served = c.in-Ok.served in
    let run = c.in-Ok.ensures.run.0 in (
      run,
      ends-as old mid (g.K.Sink.seen c.report_run-status.new.out) (warnings_of c.args.config.config.now ++ open_lines_of run) served.board served.written
          c.report_run-status.result
          (subst (λ (text : List ℕ). WritesAll old mid (text ++ open_lines_of run) served.written) (c.as_slice.ensures ∙ c.requires.told) c.in-Ok.ensures.run.1)
          c.in-Ok.ensures.faults
          (stopped-end (g.F.Front.seen c.args.front.now) (g.F.Front.seen c.run_server-answer.new.front) served.board.book.state run.outside.stopped)
          c.report_run-status.ensures.stopped c.report_run-status.ensures.report c.report_run-status.ensures.lacking,
    )

pub report_run-status-requires : goal.report_run-status-requires
report_run-status-requires g c =
    record { stopped = stopped-end (g.F.Front.seen c.args.front.now) (g.F.Front.seen c.run_server-answer.new.front) c.in-Ok.served.board.book.state c.in-Ok.ensures.run.0.outside.stopped }

pub returns-in-Ok-clause-known : goal.returns-in-Ok-clause-known
returns-in-Ok-clause-known g c =
    opened-status c.in-Ok.served.board.book.state.going c.report_run-status.result
    (stopped-end (g.F.Front.seen c.args.front.now) (g.F.Front.seen c.run_server-answer.new.front) c.in-Ok.served.board.book.state c.in-Ok.ensures.run.0.outside.stopped)
    c.report_run-status.ensures.stopped

pub returns-in-Ok-clause-clocked : goal.returns-in-Ok-clause-clocked
returns-in-Ok-clause-clocked g c = c.in-Ok.ensures.clocked
