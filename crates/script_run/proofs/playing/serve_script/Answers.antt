use Rattle.run_opening.specs.Configured.{warnings_of}
use Rattle.std.proofs.Common.{◌≡◌, ◌∙◌, ◌++◌, ℕ, List, Some, refl, ap, sym, subst}
use Rattle.mpm_base.specs.declared.script_line.ScriptLine.{ScriptLine}
use Rattle.mpm_script.specs.Clients.{clients_of}
use Rattle.script_front.specs.ScriptFront.{SeenFront, front_seen}
use Rattle.run_report.specs.EndingsInside.{WritesAll}
use Rattle.listener.specs.Patient.{HasNothingCome}
use Rattle.listener.specs.RunsInside.{open_lines_of}
use Rattle.run_report.proofs.EndingLemmas.{ends-as}
use Rattle.listener.proofs.LeftLemmas.{never-failed, stopped-end}
use Rattle.script_run.proofs.PlayedLemmas.{has-end, played-status, has-run_script}
use Rattle.script_run.proofs.playing.serve_script.Goals as goal

pub returns-in-Ok-answer-clause-kept : goal.returns-in-Ok-answer-clause-kept
returns-in-Ok-answer-clause-kept g c =
    let b = c.in-Ok-answer.served.board in
    let f = c.run_server-answer.new.front in
    let kept = c.in-Ok-answer.ensures in
    let run = kept.run.0 in
    let old = front_seen c.in-Ok.front in
    let out = g.K.Sink.seen c.args.out.now in
    let mid = g.K.Sink.seen c.run_server-answer.new.out in
    let new = g.K.Sink.seen c.report_run-status.new.out in
    let stopped = run.outside.stopped in
    let script : f.script ≡ c.args.script = cc (kept.follows.script ∙ ap (λ (x : SeenFront). Some x.script) c.in-Ok.ensures) in
    let nothing : HasNothingCome c.in-Ok.front.told =
    subst (λ (x : SeenFront). HasNothingCome x.told) (sym c.in-Ok.ensures) (record { arrived = refl; lines = refl; stands = λ patient. refl }) in
    has-run_script c.args.script c.args.config c.args.edition.site.value c.args.store.told c.args.store.counts c.in-Ok.front f b c.run_server-answer.new.clock
    c.run_server-answer.new.store out new c.report_run-status.result c.requires.store c.requires.faults c.in-Ok.ensures nothing
    (c.show.ensures.is.clients ∙ ap (λ (lines : List ScriptLine). clients_of lines) script) c.show.ensures.is.comings c.show-2.ensures
    (has-end old (front_seen f) b f stopped refl c.show.ensures.is (ap (λ (x : SeenFront). x.ends) c.in-Ok.ensures) refl)
    (never-failed old (front_seen f) b.book.state stopped refl) (
      run,
      ends-as out mid new (warnings_of c.args.config ++ open_lines_of run) b c.in-Ok-answer.served.written c.report_run-status.result
          (subst (λ (text : List ℕ). WritesAll out mid (text ++ open_lines_of run) c.in-Ok-answer.served.written) (c.as_slice.ensures ∙ c.requires.told) kept.run.1)
          kept.faults (stopped-end old (front_seen f) b.book.state stopped) c.report_run-status.ensures.stopped c.report_run-status.ensures.report
          c.report_run-status.ensures.lacking,
    )

pub report_run-status-requires : goal.report_run-status-requires
report_run-status-requires g c =
    record { stopped = stopped-end (front_seen c.in-Ok.front) (front_seen c.run_server-answer.new.front) c.in-Ok-answer.served.board.book.state c.in-Ok-answer.ensures.run.0.outside.stopped }

pub returns-in-Ok-answer-clause-known : goal.returns-in-Ok-answer-clause-known
returns-in-Ok-answer-clause-known g c =
    let old = front_seen c.in-Ok.front in
    let new = front_seen c.run_server-answer.new.front in
    let s = c.in-Ok-answer.served.board.book.state in
    let stopped = c.in-Ok-answer.ensures.run.0.outside.stopped in
    played-status s.going c.report_run-status.result (stopped-end old new s stopped) (never-failed old new s stopped refl) c.report_run-status.ensures.stopped
