-- What is left of a script that was played.
use Rattle.board.specs.Board.{SeenBoard}
use Rattle.conn_machine.specs.Events.{count_events}
use Rattle.conn_machine.specs.declared.event.Entry.{Entry}
use Rattle.conn_machine.specs.declared.state.Going.TheVariants.{Halted}
use Rattle.conn_state.specs.Answered.{SeenEnded}
use Rattle.file_table.specs.Site.{SeenSite}
use Rattle.mpm_base.specs.Front.{moments_of}
use Rattle.mpm_base.specs.Store.{StoreSeen, telling_store}
use Rattle.mpm_base.specs.declared.script_line.ScriptLine.{ScriptLine}
use Rattle.mpm_config.specs.Config.{Configuration}
use Rattle.listener_round.specs.Commands.{is_graceful_stop}
use Rattle.listener_round.specs.Generations.{Opening}
use Rattle.listener_round.specs.Heard.{KeepsLines, open_lines}
use Rattle.listener.specs.Patient.{ArePatient}
use Rattle.listener.specs.Runs.{HasRun, ended_of_run, entries_of_run}
use Rattle.script_run.specs.Scripts.{PlaysLines, HasConfig, HasScriptSite}
use Rattle.listener_round.specs.Stores.{KeepsStore}
use Rattle.listener.specs.Tells.{AllReceive}
use Rattle.mpm_script.specs.Clients.{clients_of, names_of}
use Rattle.run_opening.specs.Calls.{Call}
use Rattle.run_opening.specs.Configured.{Configures, warnings_of}
use Rattle.run_report.specs.Endings.{EndsAs}
use Rattle.script_front.specs.Editions.{conf_name, editions_of}
use Rattle.mpm_base.specs.Clock.{echo}
use Rattle.script_front.specs.ScriptFront.{SeenFront, comings_of, front_seen, new_front}
use Rattle.stand_ins.specs.PlainStore.{SeenStore, no_store_counts}
use Rattle.std.specs.Prelude.{◌≡◌, ℕ, ◌<◌, List, ◌++◌, length, map, Some, None, ◌≢◌}
use Rattle.conn_machine.specs.declared.event.Why.TheVariants as why
use Rattle.listener_round.specs.FirstNumbers.{numbers_of, opened_by}
use Rattle.listener.specs.Outside.{KeepsFront}
use Rattle.listener_round.specs.Pace.{KeepsPace}
use Rattle.listener_round.specs.declared.run_numbers.RunNumbers.{RunNumbers}

-- what is seen of a script's store before its run
abbrev pub opening_store : List ScriptLine → StoreSeen
opening_store lines = telling_store (editions_of lines) no_store_counts

-- how the run of a script opened by this configuration and this site: with the editions that the script's lines make
abbrev pub script_opening : List ScriptLine → Configuration → SeenSite → Opening
script_opening lines c site =
    record { name = conf_name; config = c; site = site; store = opening_store lines; front = front_seen (new_front lines) }

-- the script was played to its end: a wait answered Ended, all lines have happened, each command line was read, and the table took each
-- connection that was handed out
pub record HasEnd (b : SeenBoard) (f : SeenFront) : Type 0 where
  pub answered : 0 < f.ends
  pub happened : f.happened ≡ length f.script
  pub read : f.told.read ≡ length f.told.lines
  pub taken : b.book.state.accepted ≡ f.told.accepted

-- what a run of a script that opened so, of which these are all entries and all connections that ended, did with its front and its clock
pub record IsLeftOfRun (o : Opening) (n : RunNumbers) (b : SeenBoard) (history : List Entry) (ends : List SeenEnded) (f : SeenFront)
    (calls : List (ℕ × ℕ)) : Type 0 where
  -- what it did with its front: the children were started before all else, each link was watched, taken, and is that of one connection that
  -- ended, and no line was read behind one that stops the server
  pub front : KeepsFront n b.book.state history ends f.told
  -- its clock was told what the waits of its front gave, all of which the front tells, and answered that
  pub asked : calls ≡ map echo (moments_of f.told.waits)
  -- what came with a wait was done behind it, and before the next one
  pub pace : KeepsPace n.slots (Some f.told) (Some calls) b.book.state.going history
  -- time passed only where nothing was left to be done, as a wait of the front let it: to the moment of an `at` line, or to the least
  -- deadline
  pub patient : ArePatient (comings_of f.script) f.told.waits (opened_by n) history
  -- where nothing more could come the whole script was played
  pub ended : b.book.state.going ≡ Halted why.FrontEnded → HasEnd b f
  -- each command line that was read was answered, in its place
  pub lines : KeepsLines o (opened_by n) pace.first pace.shares o.front (front_seen f) b.book.state.going history
  -- it never stopped because its front failed
  pub unfailed : b.book.state.going ≢ Halted why.FrontFailed

-- a script was played, and what is left is of a run of it by its configuration and its site, and then by its editions: a board, the front
-- that played the script, its clock, and its store; each connection received a front of what its client sends, and all of it where the client
-- had done; where nothing more could come each connection of the script was taken, unless a graceful stop was begun; and its store was
-- renewed at each order. Where its server stopped for want of memory the store may have been renewed once more. It ended as its exit status
-- says, with a line of the output for each line that asks for the state, between the warnings and the report
pub record HasPlayed (call : Call) (c : Configuration) (b : SeenBoard) (f : SeenFront) (calls : List (ℕ × ℕ)) (store : SeenStore) (status : ℕ) : Type 0 where
  pub config : List ℕ
  pub site : SeenSite
  pub plays : PlaysLines call f.script
  pub config_is : HasConfig f.script config
  pub accepted : Configures config c
  pub site_is : HasScriptSite f.script c site
  pub shows : call.shown ≡ None
  pub has_run : HasRun (script_opening f.script c site) b
  pub left :
      IsLeftOfRun (script_opening f.script c site) (numbers_of c) b (entries_of_run (script_opening f.script c site) b has_run)
      (ended_of_run (script_opening f.script c site) b has_run) f calls
  pub receive : AllReceive (clients_of f.script) (ended_of_run (script_opening f.script c site) b has_run)
  pub taken :
      b.book.state.going ≡ Halted why.FrontEnded
      → count_events is_graceful_stop (entries_of_run (script_opening f.script c site) b has_run) ≡ 0
      → b.book.state.accepted ≡ length (names_of f.script)
  pub store_is :
      KeepsStore b.book.state.going (entries_of_run (script_opening f.script c site) b has_run)
      (opening_store f.script) (telling_store store.told store.counts)
  pub ends :
      EndsAs call.sink call.sink'
      (warnings_of c ++ open_lines (opened_by (numbers_of c)) (entries_of_run (script_opening f.script c site) b has_run) left.lines.heard)
      b status

-- what such a run writes before its report: the warnings of its configuration, and a line for each line that asks for the state
abbrev pub texts_of_play :
    {call : Call} {c : Configuration} {b : SeenBoard} {f : SeenFront} {calls : List (ℕ × ℕ)} {store : SeenStore} {status : ℕ}
    → HasPlayed call c b f calls store status → List ℕ
texts_of_play {c = c} {b = b} {f = f} run =
    warnings_of c ++ open_lines (opened_by (numbers_of c)) (entries_of_run (script_opening f.script c run.site) b run.has_run) run.left.lines.heard
