-- What is left of a script that was played.
use Rattle.listener.proofs.LeftLemmas.{stopped-ended, store-since}
use Rattle.std.proofs.Common.{◌≡◌, ◌<◌, ◌++◌, inl, inr, ℕ, List, length, map, Option, Some, IfSome, refl, sym, ap, subst, ◌∙◌, arith}
use Rattle.std.proofs.lemmas.List.{length-map}
use Rattle.mpm_script.specs.Clients.{clients_of, names_of, sent_by}
use Rattle.mpm_base.specs.Front.{FrontTold, FrontSeen}
use Rattle.mpm_base.specs.Clock.{AreEchoes, echo}
use Rattle.script_front.specs.ScriptFront.{SeenFront, IsOfScript, comings_of, front_seen, new_front}
use Rattle.mpm_base.specs.declared.script_line.ScriptLine.{ScriptLine}
use Rattle.conn_machine.specs.declared.event.Entry.{Entry}
use Rattle.conn_machine.specs.declared.event.Why.TheVariants as why
use Rattle.conn_machine.specs.declared.state.Going.{Going}
use Rattle.conn_machine.specs.declared.state.Going.TheVariants.{Halted}
use Rattle.conn_machine.specs.declared.state.State.{State}
use Rattle.board.specs.Board.{SeenBoard}
use Rattle.run_report.specs.EndingsInside.{IsEnd}
use Rattle.listener.specs.Patient.{ArePatient, HasNothingCome, IsPatientRun}
use Rattle.listener.specs.Stops.{HasEnded, HasGivenAll, StoppedFor}
use Rattle.run_opening.specs.Configured.{warnings_of}
use Rattle.run_report.specs.Endings.{EndsAs, MayEndWith}
use Rattle.script_run.specs.Played.{HasEnd}
use Rattle.script_run.specs.PlayedInside.{IsPlayedStatus, HasRunScript}
use Rattle.run_report.proofs.EndingLemmas.{may-end}
use Rattle.mpm_base.specs.Store.{StoreCounts, StoreTold, telling_store}
use Rattle.mpm_config.specs.Config.{Configuration}
use Rattle.script_front.specs.Editions.{conf_name, editions_of}
use Rattle.stand_ins.specs.PlainStore.{SeenStore, no_store_counts}
use Rattle.file_table.specs.Site.{SeenSite}
use Rattle.listener_round.specs.FirstNumbers.{numbers_of, opened_by}
use Rattle.listener_round.specs.Generations.{Opening}
use Rattle.listener.specs.Runs.{ended_of_run, entries_of_run}
use Rattle.listener.specs.RunsInside.{HasRunBy, open_lines_of}
use Rattle.listener_round.specs.Folded.{whole_book}
use Rattle.listener.specs.Tells.{AllReceive}
use Rattle.listener.proofs.ServedLemmas.{ordered-reopened, served-reopened}
use Rattle.script_run.proofs.HeardLemmas.{lines-reopened}
use Rattle.mpm_base.specs.Sink.{SinkSeen}

-- ## With which exit status

-- with these each run whose front didn't fail
pub played-status : (going : Going) (status : ℕ) → IsEnd going → (going ≡ Halted why.FrontFailed → ⊥) → MayEndWith going status → IsPlayedStatus status
played-status going status (inl ended) unfailed may = may-end going _ status ended may
played-status going status (inr (inl asked)) unfailed may = may-end going _ status asked may
played-status going status (inr (inr (inl failed))) unfailed may = absurd (unfailed failed)
played-status going status (inr (inr (inr (inl no_memory)))) unfailed may = inr (inr (may-end going _ status no_memory may))
played-status going status (inr (inr (inr (inr (inl ending))))) unfailed may = may-end going _ status ending.1 may
played-status going status (inr (inr (inr (inr (inr overdue))))) unfailed may = may-end going _ status overdue may

-- ## The end of the script

-- each client has its name
pub clients-names : (lines : List ScriptLine) → length (clients_of lines) ≡ length (names_of lines)
clients-names lines = length-map (names_of lines) (λ name. sent_by name lines)

-- the script was played to its end
ended-end : (old new : FrontSeen) (b : SeenBoard) (f : SeenFront) → HasEnded old new b.book.state → new.told ≡ Some f.told → IsOfScript f
    → old.counts.ends ≡ 0 → new.counts.ends ≡ f.ends → HasEnd b f
ended-end old new b f ended told of_script none ends =
    let rose : old.counts.ends < new.counts.ends = ended.all.answered.1 (omega (arith, none)) in
    let all : HasGivenAll b.book.state f.told = subst (λ (o : Option FrontTold). IfSome o (HasGivenAll b.book.state)) told ended.all.taken in
    record {
      answered = omega (arith, rose, ends);
      happened = omega (arith, all.left, of_script.left);
      read = all.read;
      taken = sym all.taken;
    }

-- so it was where the server stopped because nothing more could come
pub has-end : (old new : FrontSeen) (b : SeenBoard) (f : SeenFront) → StoppedFor old new b.book.state → new.told ≡ Some f.told → IsOfScript f
    → old.counts.ends ≡ 0 → new.counts.ends ≡ f.ends → b.book.state.going ≡ Halted why.FrontEnded → HasEnd b f
has-end old new b f stopped told of_script none ends going =
    ended-end old new b f (stopped-ended old new b.book.state stopped going) told of_script none ends

-- ## The front and the clock of a script

-- they are steady
patience-of : (comings : List ℕ) (t : FrontTold) (calls : List (ℕ × ℕ)) (s : State) (history : List Entry) → t.comings ≡ Some comings → AreEchoes calls
    → IsPatientRun (Some t) (Some calls) s history → ArePatient comings t.waits s history
patience-of comings t calls s history is echoes patient =
    patient (record { front = t; tells = refl; comings = comings; patient = is; asked = calls; clock = refl; echoes = echoes })

-- ## A run of the script

-- the run of a script over a store with its editions, of which no call failed
pub has-run_script : (lines : List ScriptLine) (c : Configuration) (site : SeenSite) (told : StoreTold) (counts : StoreCounts) (f f' : SeenFront) (b : SeenBoard)
    (calls : List (ℕ × ℕ)) (store : SeenStore) (sink sink' : SinkSeen) (status : ℕ)
    → let o : Opening = record { name = conf_name; config = c; site = site; store = telling_store told counts; front = front_seen f } in
    told ≡ editions_of lines → counts.faults ≡ 0 → f ≡ new_front lines → HasNothingCome f.told → f'.told.clients ≡ clients_of lines → f'.told.comings ≡ Some (comings_of f'.script)
    → AreEchoes calls → (b.book.state.going ≡ Halted why.FrontEnded → HasEnd b f') → (b.book.state.going ≡ Halted why.FrontFailed → ⊥)
    → (run : HasRunBy o (telling_store store.told store.counts) (front_seen f') (Some calls) b)
    × EndsAs sink sink' (warnings_of c ++ open_lines_of run) b status
    → HasRunScript lines c site b f' calls store sink sink' status
has-run_script lines c site told counts f f' b calls store sink sink' status is none opened nothing clients comings echoes ended unfailed served =
    let ran = served.0 in
    let o : Opening = record { name = conf_name; config = c; site = site; store = telling_store told counts; front = front_seen f } in
    let n = numbers_of c in
    let first = telling_store (editions_of lines) no_store_counts in
    let front = front_seen (new_front lines) in
    let same : first.told ≡ o.store.told = ap (λ (t : StoreTold). Some t) (sym is) in
    let run = ran.has_run in
    let kept = ran.outside.front in
    let entries = entries_of_run o b run in
    record {
      has_run = record {
        run = run.run;
        folded = run.folded;
        closed = run.closed;
        ordered = ordered-reopened o first front 0 0 (opened_by n) entries same run.ordered;
        served = served-reopened o first front (whole_book n entries) (ended_of_run o b run) same run.served;
        backed = run.backed;
      };
      left = record {
        front = kept;
        asked = echoes ∙ ap (map echo) ran.outside.time;
        pace = ran.outside.pace;
        patient = patience-of (comings_of f'.script) f'.told calls (opened_by n) entries comings echoes (ran.outside.patient nothing);
        ended = ended;
        lines =
            lines-reopened o first front (opened_by n) ran.outside.pace.first ran.outside.pace.shares (front_seen f') b.book.state.going entries same
            (ap (λ (x : SeenFront). (front_seen x).counts) (sym opened)) ran.lines;
        unfailed = unfailed;
      };
      receive = subst (λ (sent : List (List ℕ)). AllReceive sent (ended_of_run o b run)) clients kept.receive;
      taken = λ going unbegun. (ended going).taken ∙ kept.each going unbegun ∙ ap length clients ∙ clients-names lines;
      store_is =
          store-since b.book.state.going entries first (telling_store told counts) (telling_store store.told store.counts) (sym same)
          (omega (arith, none)) ran.store_is;
      ends = served.1;
    }
