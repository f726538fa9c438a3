-- What a run answers that nothing disturbs.
use Rattle.std.proofs.Common.{◌≡◌, ◌≢◌, ◌⊎◌, ◌<◌, inl, inr, ℕ, false, List, ◌++◌, map, Option, Some, IsSome, refl, sym, ap, subst, ◌∙◌}
use Rattle.std.specs.List.{list_any}
use Rattle.mpm_base.specs.Count.{Rises, greatest_count}
use Rattle.mpm_base.specs.Front.{FrontSeen, FrontTold}
use Rattle.mpm_base.specs.declared.conn.Cause.TheVariants as cause
use Rattle.mpm_base.specs.declared.script_line.CommandWord.{CommandWord}
use Rattle.mpm_config.specs.Config.{Configuration}
use Rattle.conn_machine.specs.declared.event.Entry.{Entry}
use Rattle.conn_machine.specs.declared.event.Why.TheVariants as why
use Rattle.conn_machine.specs.declared.folded.Folded.{Folded}
use Rattle.conn_machine.specs.declared.state.Going.TheVariants.{Halted}
use Rattle.conn_machine.specs.declared.state.State.{State}
use Rattle.conn_machine.specs.Folds.{fold_of}
use Rattle.conn_machine.specs.HistoryLaws.{FoldsAreOneFold, HistoriesJoin, MadeHistoriesAreRuns, RecordsOpenWithNothing}
use Rattle.conn_machine.specs.Made.{AreMade}
use Rattle.conn_machine.specs.Runs.{Run, after}
use Rattle.conn_machine.specs.States.{unused_row}
use Rattle.board.specs.Board.{AreClosed, SeenBoard}
use Rattle.board.specs.BoardLaws.{EndedConnectionsJoin}
use Rattle.board.specs.ReportLine.{line_of}
use Rattle.listener_round.specs.Commands.{HeedsLines, is_graceful_stop, lines_read}
use Rattle.listener_round.specs.FirstNumbers.{folded_by, numbers_of, opened_by}
use Rattle.listener_round.specs.Folded.{HasFolded}
use Rattle.listener.specs.Listen.{IsRunFrom}
use Rattle.listener.specs.Stops.{StoppedFor}
use Rattle.listener_round.specs.Pace.{KeepsPace}
use Rattle.listener_round.specs.declared.run_numbers.RunNumbers.{RunNumbers}
use Rattle.run_opening.specs.Calls.{StoreFailed}
use Rattle.run_report.specs.Endings.{EndsAs}
use Rattle.run_report.proofs.EndingLemmas.{may-end}
use Rattle.script_run.specs.Played.{HasPlayed}
use Rattle.script_run.specs.declared.scripted.Scripted.{Scripted}
use Rattle.server_run.specs.Ends.{EndsRestartRefused, HasRunServer}
use Rattle.run_laws.specs.Grounds.{SendsBy, TestsFit, WritesSite}
use Rattle.run_laws.specs.Outcomes.{IsOutcome, SeenOutcome}
use Rattle.run_laws.specs.Undisturbed.{AreServedWhole, EndsPlayed, EndsServed, IsUndisturbed, IsUndisturbedScript, IsUndisturbedServer, NoneAsksStop}
use Rattle.run_laws.proofs.AnsweredLemmas.{ItemsWait, all-served}
use Rattle.run_laws.proofs.CauseLemmas.{none-ended, none-for}
use Rattle.run_laws.proofs.ExactLemmas.{plays-opens, sends-well, tests-well}
use Rattle.run_laws.proofs.FileLemmas.{OneAnswer}
use Rattle.run_laws.proofs.LineLemmas.{ended-going, none-begun, not-asked, uncounted}
use Rattle.run_laws.proofs.MachineLemmas.{NeverEnds, never-ends, stopped-none, unused-linger}
use Rattle.run_laws.proofs.WayLemmas.{OneForm, holds-of}

-- the laws of histories and of connections that ended
pub record RunLaws : Type 0 where
  pub folds : FoldsAreOneFold
  pub joins : HistoriesJoin
  pub runs : MadeHistoriesAreRuns
  pub opens : RecordsOpenWithNothing
  pub ended : EndedConnectionsJoin
  pub items : ItemsWait

-- ## All entries of a run

module _ (laws : RunLaws) (n : RunNumbers) (b : SeenBoard) (run : IsRunFrom n b) (f : HasFolded n b.book) where
  -- passes made them
  pub made-all : AreMade (opened_by n) (folded_by n) (f.entries ++ b.book.history)
  made-all =
      laws.folds.made n.passes (opened_by n) (folded_by n) f.entries b.book.history (map line_of f.ended) (laws.opens.places n.passes) f.few f.made
      (subst (λ (s : State). AreMade s (fold_of (opened_by n) f.entries (map line_of f.ended) (folded_by n)) b.book.history) f.base_is
      (subst (λ (r : Folded). AreMade b.book.base r b.book.history) f.record_is run.made))

  -- they are a run of the table
  run-all : Run (opened_by n) (f.entries ++ b.book.history)
  run-all = laws.runs.run (opened_by n) (folded_by n) (f.entries ++ b.book.history) made-all

  -- to its state
  state-all : after (opened_by n) (f.entries ++ b.book.history) ≡ b.book.state
  state-all =
      laws.joins.state (opened_by n) f.entries b.book.history ∙ ap (λ (s : State). after s b.book.history) (sym f.base_is) ∙ run.state

  -- which closes just the connections that ended
  closed-all : AreClosed (opened_by n) (f.entries ++ b.book.history) (f.ended ++ b.ended)
  closed-all =
      laws.ended.closed (opened_by n) f.entries b.book.history f.ended b.ended f.closed
      (subst (λ (s : State). AreClosed s b.book.history b.ended) f.base_is run.agrees.closed)

  -- where no line asked for a stop it isn't to end
  never-to-end : list_any (λ (e : Entry). is_graceful_stop e.event) (f.entries ++ b.book.history) ≡ false → NeverEnds b.book.state.going
  never-to-end none =
      subst (λ (s : State). NeverEnds s.going) state-all (never-ends (opened_by n) (f.entries ++ b.book.history) run-all none tt)

  -- where nothing disturbed it, and it ended as nothing more could come, each connection was served
  serves-all : (t : FrontTold) → IsUndisturbed t b (f.ended ++ b.ended) → b.book.state.going ≡ Halted why.FrontEnded
      → AreServedWhole (f.ended ++ b.ended)
  serves-all t calm going =
      let entries = f.entries ++ b.book.history in
      let ended = f.ended ++ b.ended in
      let late = calm.none_late in
      all-served laws.items ended (laws.ended.answered f.ended b.ended f.answered run.agrees.answered)
      (none-for cause.KeepAliveLate (opened_by n) entries ended (none-ended n b.book f cause.KeepAliveLate late.keep_alive) closed-all)
      (none-for cause.ReadLate (opened_by n) entries ended (none-ended n b.book f cause.ReadLate late.read) closed-all)
      (none-for cause.WriteLate (opened_by n) entries ended (none-ended n b.book f cause.WriteLate late.write) closed-all)
      (none-for cause.Stopped (opened_by n) entries ended
      (stopped-none (opened_by n) entries run-all (unused-linger n.slots unused_row refl) (ap (λ (s : State). s.going) state-all ∙ going)
      (λ halted. absurd (cc halted)))
      closed-all)
      (none-for cause.NoMemory (opened_by n) entries ended (none-ended n b.book f cause.NoMemory late.memory) closed-all)
      calm.links

  -- where no line that was read asks for one it began no graceful stop
  pub begun-none : (t : FrontTold) (calls : Option (List (ℕ × ℕ))) → KeepsPace n.slots (Some t) calls b.book.state.going (f.entries ++ b.book.history)
      → t.read < greatest_count → NoneAsksStop (lines_read t)
      → list_any (λ (e : Entry). is_graceful_stop e.event) (f.entries ++ b.book.history) ≡ false
  begun-none t calls pace few none =
      none-begun (opened_by n) (folded_by n) n.slots calls b.book.state.going (f.entries ++ b.book.history) t made-all pace few none

  -- so it ended
  pub ends-served : (o : SeenOutcome) (t : FrontTold) (calls : Option (List (ℕ × ℕ))) (texts : List ℕ)
      → EndsAs o.call.sink o.call.sink' texts b o.status → IsUndisturbed t b (f.ended ++ b.ended)
      → KeepsPace n.slots (Some t) calls b.book.state.going (f.entries ++ b.book.history) → HeedsLines b.book.state.going t
      → (b.book.state.going ≡ Halted why.FrontFailed → ⊥) → (Rises o.call.sink.faults o.call.sink'.faults → ⊥) → o.status ≢ 6
      → EndsServed o b (f.ended ++ b.ended)
  ends-served o t calls texts ends calm pace heeds unfailed output memory =
      let going = b.book.state.going in
      let none = begun-none t calls pace calm.few calm.lines in
      let ended = ended-going going o.status ends.may (never-to-end none) (not-asked going t heeds calm.few calm.lines) unfailed memory in
      record {
        well =
            elim (may-end going (Halted why.FrontEnded) o.status ended ends.may) [
              | inl zero ↦ zero
              | inr other ↦ elim other [
                | inl five ↦ absurd (output (ends.unwritten five).unwritten.failed)
                | inr six ↦ absurd (memory six)
              ]
            ];
        going = ended;
        served = serves-all t calm ended;
      }

-- ## A script

pub script-served : RunLaws → (o : SeenOutcome) (s : Scripted) (played : HasPlayed o.call s.config s.board s.front s.clock s.store o.status)
    → IsUndisturbedScript o s played → EndsPlayed o s (played.has_run.folded.ended ++ s.board.ended)
script-served laws o s played calm =
    let left = played.left in
    let n = numbers_of s.config in
    let f = played.has_run.folded in
    let run =
    ends-served laws n s.board played.has_run.run f o s.front.told (Some s.clock) _ played.ends calm.run left.pace left.front.heeded left.unfailed
    calm.output calm.memory in
    record {
      run = run;
      taken =
          played.taken run.going
          (uncounted is_graceful_stop (f.entries ++ s.board.book.history)
          (begun-none laws n s.board played.has_run.run f s.front.told (Some s.clock) left.pace calm.run.few calm.run.lines));
      receive = played.receive;
    }

-- ## A server

-- one whose front didn't fail didn't stop for that
failed-rises : (old new : FrontSeen) (s : State) → StoppedFor old new s → s.going ≡ Halted why.FrontFailed → Rises old.counts.faults new.counts.faults
failed-rises old new s (inl ended) going = absurd (cc (ended.going, going))
failed-rises old new s (inr (inl asked)) going = absurd (cc (asked.going, going))
failed-rises old new s (inr (inr (inl failed))) going = failed.failed
failed-rises old new s (inr (inr (inr (inl no_memory)))) going = absurd (cc (no_memory, going))
failed-rises old new s (inr (inr (inr (inr (inl ending))))) going = absurd (cc (ending.1, going))
failed-rises old new s (inr (inr (inr (inr (inr overdue))))) going = absurd (cc (overdue, going))

pub server-served : RunLaws → (o : SeenOutcome) (t : FrontTold) (b : SeenBoard) (run : HasRunServer o.call o.front o.front' o.clock' o.status b)
    → o.front'.told ≡ Some t → IsUndisturbedServer o t b run → EndsServed o b (run.has_run.folded.ended ++ b.ended)
server-served laws o t b run tells calm =
    let n = numbers_of run.config in
    let f = run.has_run.folded in
    let front = holds-of _ o.front'.told t tells run.outside.front in
    let pace =
    subst (λ (told : Option FrontTold). KeepsPace n.slots told o.clock' b.book.state.going (f.entries ++ b.book.history)) tells run.outside.pace in
    ends-served laws n b run.has_run.run f o t o.clock' _ run.ends calm.run pace front.heeded
    (λ going. calm.front (failed-rises o.front o.front' b.book.state run.outside.stopped going)) calm.output calm.memory

-- ## The other forms

pub opens-played : OneForm → OneAnswer → (o : SeenOutcome) → IsOutcome o → WritesSite o.call → (StoreFailed o.call → ⊥) → o.status ≢ 6 → IsSome o.scripted
opens-played one answer o is writes stays memory =
    elim (plays-opens one answer o is writes) [
      | inl some ↦ some
      | inr other ↦ elim other [ inl six ↦ absurd (memory six) | inr failed ↦ absurd (stays failed.1) ]
    ]

pub tests-served : OneForm → OneAnswer → (o : SeenOutcome) (c : Configuration) → IsOutcome o → TestsFit o.call c → (StoreFailed o.call → ⊥)
    → (Rises o.call.sink.faults o.call.sink'.faults → ⊥) → o.status ≢ 6 → o.status ≡ 0
tests-served one answer o c is fit stays output memory =
    elim (tests-well one answer o is c fit (inl output)) [
      | inl zero ↦ zero.0
      | inr other ↦ elim other [ inl six ↦ absurd (memory six) | inr failed ↦ absurd (stays failed.1) ]
    ]

pub sends-served : OneForm → OneAnswer → (o : SeenOutcome) (word : CommandWord) (c : Configuration) (port : ℕ) → IsOutcome o → SendsBy o.call word c
    → c.control ≡ Some port → (StoreFailed o.call → ⊥) → (Rises o.front.counts.faults o.front'.counts.faults → ⊥)
    → (Rises o.call.sink.faults o.call.sink'.faults → ⊥) → o.status ≢ 6
    → (o.status ≡ 0) ⊎ ((o.status ≡ 12) × EndsRestartRefused o.call o.front o.front')
sends-served one answer o word c port is by control stays front output memory =
    elim (sends-well one answer o is word c port by control front output) [
      | inr refused ↦ inr refused
      | inl ended ↦ elim ended [
        | inl zero ↦ inl zero.0
        | inr other ↦ elim other [ inl six ↦ absurd (memory six) | inr failed ↦ absurd (stays failed.1) ]
      ]
    ]
