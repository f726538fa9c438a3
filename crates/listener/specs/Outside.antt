-- What ties all entries of a run, and all connections that ended, to its front and its clock, each as far as it tells.
use Rattle.std.specs.Prelude.{◌≡◌, ℕ, List, Option, is_some, IfSome}
use Rattle.mpm_base.specs.Front.{FrontSeen, FrontTold}
use Rattle.conn_machine.specs.declared.event.Entry.{Entry}
use Rattle.conn_machine.specs.declared.state.State.{State}
use Rattle.conn_state.specs.Answered.{SeenEnded}
use Rattle.listener_round.specs.Commands.{HeedsLines}
use Rattle.listener_round.specs.FirstNumbers.{opened_by}
use Rattle.listener_round.specs.Links.{KeepsLinks}
use Rattle.listener_round.specs.Pace.{KeepsPace}
use Rattle.listener.specs.Patient.{IsPatientFrom}
use Rattle.listener.specs.StartedFirst.{IsStartedFirst}
use Rattle.listener.specs.Stops.{StoppedFor, TakesEach}
use Rattle.listener.specs.Tells.{AllReceive}
use Rattle.listener_round.specs.Times.{IsInTime, waits_of}
use Rattle.listener_round.specs.Watched.{AreWatched, IsOpenedAndHushed}
use Rattle.listener_round.specs.declared.run_numbers.RunNumbers.{RunNumbers}
use Rattle.listener_round.specs.Clients.{clients_told, comings_told}

-- what a run by these numbers, of which these are all entries and all connections that ended, did with a front that tells: it was bound once,
-- to what the numbers say, dialled nothing, and listens no more; where it waited at all the children were started before all else; each
-- link that the table took was watched under the name of its connection; what became of each link that it handed out; each ended connection
-- received a front of what its client sends; no line was read behind one that stops the server; and where nothing more could come, and no
-- graceful stop was begun, each connection was taken
pub record KeepsFront (n : RunNumbers) (s : State) (history : List Entry) (ended : List SeenEnded) (t : FrontTold) : Type 0 where
  pub opened : IsOpenedAndHushed n t
  pub started : IsStartedFirst n history t
  pub watched : AreWatched history t
  pub links : KeepsLinks s ended t
  pub receive : AllReceive t.clients ended
  pub heeded : HeedsLines s.going t
  pub each : TakesEach s.going history t

-- the same, and of any front and clock: the clock was told what the waits gave; the listener kept the pace of both; over a patient front, of
-- which nothing had come at first, and a clock that answers what it is told, time passed only where nothing was left to be done; and the
-- server stopped for what the front shows
pub record KeepsOutside (n : RunNumbers) (f f' : FrontSeen) (calls : Option (List (ℕ × ℕ))) (s : State) (history : List Entry)
    (ended : List SeenEnded) : Type 0 where
  pub front : IfSome f'.told (KeepsFront n s history ended)
  pub time : IsInTime (waits_of f'.told) calls
  pub pace : KeepsPace n.slots f'.told calls s.going history
  pub patient : IsPatientFrom f.told f'.told calls (opened_by n) history
  pub stopped : StoppedFor f f' s

-- nothing that a front or a clock told fell away: the front tells exactly where it did, of clients that send the same, and it is patient
-- exactly where it was; and the clock tells its calls exactly where it did
pub record TellsStill (f f' : FrontSeen) (calls calls' : Option (List (ℕ × ℕ))) : Type 0 where
  pub clients : clients_told f'.told ≡ clients_told f.told
  pub comings : comings_told f'.told ≡ comings_told f.told
  pub clock : is_some calls' ≡ is_some calls
