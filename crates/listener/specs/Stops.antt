-- Why a server stopped, as its front shows it.
use Rattle.conn_machine.specs.Events.{count_events}
use Rattle.conn_machine.specs.declared.event.Entry.{Entry}
use Rattle.conn_machine.specs.declared.state.Going.{Going}
use Rattle.conn_machine.specs.declared.state.Going.TheVariants.{Halted}
use Rattle.conn_machine.specs.declared.state.State.{State}
use Rattle.mpm_base.specs.Count.{Rises}
use Rattle.mpm_base.specs.Front.{FrontSeen, FrontTold, WaitTold}
use Rattle.listener_round.specs.Commands.{is_graceful_stop}
use Rattle.run_report.specs.Endings.{HasEndedGracefully}
use Rattle.std.specs.Prelude.{◌≡◌, ◌⊎◌, List, [], ◌∷◌, ◌++◌, IfSome, length}
use Rattle.conn_machine.specs.declared.event.Why.TheVariants as why
use Rattle.mpm_base.specs.declared.front.Woke.TheVariants as woke

-- all has happened, each command line was read, and the table took each connection that was handed out
pub record HasGivenAll (s : State) (t : FrontTold) : Type 0 where
  pub left : t.left ≡ 0
  pub read : t.read ≡ length t.lines
  pub taken : t.accepted ≡ s.accepted

-- a wait of the front answered Ended, so that of one which tells all has happened
pub record HasTakenAll (old new : FrontSeen) (s : State) : Type 0 where
  pub answered : Rises old.counts.ends new.counts.ends
  pub taken : IfSome new.told (HasGivenAll s)

-- the server stopped because nothing more could come
pub record HasEnded (old new : FrontSeen) (s : State) : Type 0 where
  pub going : s.going ≡ Halted why.FrontEnded
  pub all : HasTakenAll old new s

-- the server stopped because it was asked to: a line that says so was given
pub record HasBeenAsked (old new : FrontSeen) (s : State) : Type 0 where
  pub going : s.going ≡ Halted why.Asked
  pub gave : Rises old.counts.words.stop new.counts.words.stop

-- the last of the waits that the front tells failed
pub record HasFailedLast (t : FrontTold) : Type 0 where
  pub before : List WaitTold
  pub last : WaitTold
  pub waits : t.waits ≡ before ++ last ∷ []
  pub failed : last.answer ≡ woke.Failed

-- the server stopped because a wait of the front failed: it counted a failed call, and where it tells, its last wait failed
pub record HasFrontFailed (old new : FrontSeen) (s : State) : Type 0 where
  pub going : s.going ≡ Halted why.FrontFailed
  pub failed : Rises old.counts.faults new.counts.faults
  pub last : IfSome new.told HasFailedLast

-- why it stopped: nothing more could come, it was asked to, a wait failed, memory lacked, or it ended gracefully
abbrev pub StoppedFor : FrontSeen → FrontSeen → State → Type 0
StoppedFor old new s =
    HasEnded old new s ⊎ HasBeenAsked old new s ⊎ HasFrontFailed old new s ⊎ (s.going ≡ Halted why.NoMemory)
    ⊎ HasEndedGracefully s.going

-- where nothing more could come, and no graceful stop was begun in the history, each connection was handed out that the clients of the
-- front made
abbrev pub TakesEach : Going → List Entry → FrontTold → Type 0
TakesEach going history t =
    going ≡ Halted why.FrontEnded → count_events is_graceful_stop history ≡ 0 → t.accepted ≡ length t.clients
