-- What the listener keeps on its way, of its front, its clock and its table, and how its turns end.
use Rattle.board_book.specs.Book.{SeenBook}
use Rattle.board_book.specs.declared.faults.BoardFault.{BoardFault}
use Rattle.conn_machine.specs.States.{is_halted, is_over, is_serving}
use Rattle.conn_machine.specs.declared.state.State.{State}
use Rattle.mpm_base.specs.Clock.{Answers as AnswersAt}
use Rattle.mpm_base.specs.Count.{Rises}
use Rattle.mpm_base.specs.Front.{Answers, Binds, FrontTold, FrontSeen, BoundTold, DialTold}
use Rattle.mpm_base.specs.declared.front.Woke.{Woke}
use Rattle.command_answers.specs.Answers.{stopping_answer}
use Rattle.listener_round.specs.Links.{TakesLinks}
use Rattle.board_book.specs.ClosedDown.{HasNoLive, IsClosedDown}
use Rattle.listener.specs.Stops.{HasFailedLast, HasTakenAll, StoppedFor}
use Rattle.rounds.specs.declared.ends.End.{End}
use Rattle.listener_round.specs.declared.run_numbers.RunNumbers.{RunNumbers}
use Rattle.listener.specs.declared.server.OpenFault.{OpenFault}
use Rattle.std.specs.Prelude.{◌≡◌, ℕ, List, Option, IfSome, option_map, is_some, true, false, [], length, Result, Ok, Err}
use Rattle.worker_group.specs.Service.{RefusalLasts}
use Rattle.mpm_base.specs.declared.front.Woke.TheVariants as woke
use Rattle.rounds.specs.declared.ends.End.TheVariants as end
use Rattle.listener.specs.declared.server.OpenFault.TheVariants as opening
use Rattle.rounds.specs.EndsInside.{IsAllGone}
use Rattle.listener_round.specs.FrontInside.{HasNoneToHeed, HasOneToHeed, HasReadAll}

-- what a front was bound to, and its dials
abbrev pub contacts : FrontTold → List BoundTold × List DialTold
contacts t = (t.bound, t.dialled)

-- the same of a front that may tell
abbrev pub contacts_of : Option FrontTold → Option (List BoundTold × List DialTold)
contacts_of told = option_map contacts told

-- it does exactly where the turns end for it
abbrev pub HeedsUntil : Result End BoardFault → FrontTold → Type 0
HeedsUntil (Ok end.Asked) t = HasOneToHeed t
HeedsUntil (Ok end.Ended) t = HasNoneToHeed t
HeedsUntil (Ok end.Failed) t = HasNoneToHeed t
HeedsUntil (Ok end.Overdue) t = HasNoneToHeed t
HeedsUntil (Ok end.Gone) t = HasNoneToHeed t
HeedsUntil (Err fault) t = HasNoneToHeed t

-- the moment is what the clock answered, told the one that the wait gave, where it gave one; else it is the present one, and
-- the clock wasn't asked
abbrev pub AsksFor : Woke → ℕ → Option (List (ℕ × ℕ)) → Option (List (ℕ × ℕ)) → ℕ → Type 0
AsksFor (woke.Woke m) present calls calls' moment = AnswersAt calls calls' m moment
AsksFor woke.Ended present calls calls' moment = (calls' ≡ calls) × (moment ≡ present)
AsksFor woke.Failed present calls calls' moment = (calls' ≡ calls) × (moment ≡ present)

-- the server did not open for the fault: a front that could not be bound to what the numbers say has counted a failed call, and one that
-- wasn't asked to be bound is as it was
abbrev pub IsUnopened : RunNumbers → FrontSeen → FrontSeen → OpenFault → Type 0
IsUnopened n old new opening.Bind = Binds old new n.listen n.control false
IsUnopened n old new opening.NoMemory = new ≡ old

-- the table took each link that a front that tells handed out, or the server was broken off and the last one was turned away
abbrev pub HandedOut : Option FrontTold → State → Type 0
HandedOut told s = IfSome told (TakesLinks s)

-- a front that tells has told no wait and no watch, handed nothing out, given no line and no answer, and listens
pub record HasNotBegun (t : FrontTold) : Type 0 where
  pub waits : t.waits ≡ []
  pub watches : t.watches ≡ []
  pub accepted : t.accepted ≡ 0
  pub read : t.read ≡ 0
  pub answers : t.answers ≡ []
  pub hushed : t.hushed ≡ false

-- nothing has come of a front that tells, and of the table nothing was asked: no time has passed, that a patient one tells
pub record IsAtStart (told : Option FrontTold) (b : SeenBook) : Type 0 where
  pub none : IfSome told (λ t. t.accepted ≡ t.arrived)
  pub first : IfSome told (λ t. is_some t.comings ≡ true → t.moment ≡ 0)
  pub moment : b.state.moment ≡ 0
  pub history : b.history ≡ []
  pub read : HasReadAll told

-- while the server takes connections the front handed out each that its clients made
abbrev pub HandsOutEach : State → FrontTold → Type 0
HandsOutEach s t = is_serving s.going ≡ true → t.accepted ≡ length t.clients

-- nothing more can come, and no connection is live
pub record HasNothingToCome (old new : FrontSeen) (s : State) : Type 0 where
  pub going : is_halted s.going ≡ false
  pub live : HasNoLive s
  pub all : HasTakenAll old new s
  pub each : IfSome new.told (HandsOutEach s)

-- how the listener's turns end: nothing more can come, or the server was asked to stop, or a wait failed, or the time of a graceful stop is
-- over, or all is gone behind one, or the server has to stop
abbrev pub TurnsEnd : Result End BoardFault → FrontSeen → FrontSeen → SeenBook → Type 0
TurnsEnd (Ok end.Ended) old new b = HasNothingToCome old new b.state
TurnsEnd (Ok end.Asked) old new b = (is_halted b.state.going ≡ false) × Rises old.counts.words.stop new.counts.words.stop
TurnsEnd (Ok end.Failed) old new b =
    (is_halted b.state.going ≡ false) × Rises old.counts.faults new.counts.faults × IfSome new.told HasFailedLast
TurnsEnd (Ok end.Overdue) old new b = is_over b.state.moment b.state.going ≡ true
TurnsEnd (Ok end.Gone) old new b = IsAllGone b.state
TurnsEnd (Err fault) old new b = RefusalLasts fault b

-- it stopped for one of these, and closed down
pub record HasStopped (old new : FrontSeen) (s : State) : Type 0 where
  pub down : IsClosedDown s
  pub cause : StoppedFor old new s

-- the line that asked to stop was answered, where the turns ended for one, and else nothing was done with the front
abbrev pub AnswersStop : Result End BoardFault → FrontSeen → FrontSeen → Type 0
AnswersStop (Ok end.Asked) old new = Answers old new stopping_answer
AnswersStop (Ok end.Ended) old new = new ≡ old
AnswersStop (Ok end.Failed) old new = new ≡ old
AnswersStop (Ok end.Overdue) old new = new ≡ old
AnswersStop (Ok end.Gone) old new = new ≡ old
AnswersStop (Err fault) old new = new ≡ old
