-- When time passes in a run over a patient front: where nothing is left to be done before.
use Rattle.std.specs.Prelude.{◌≡◌, ◌⊎◌, ◌<◌, ℕ, true, false, List, [], Option, None, Some, is_some, slice_get, Contains, IfSome, ⊤}
use Rattle.mpm_base.specs.Front.{FrontTold, WaitTold, Backlog}
use Rattle.mpm_base.specs.declared.front.Woke.TheVariants as woke
use Rattle.conn_machine.specs.declared.event.Entry.{Entry}
use Rattle.conn_machine.specs.declared.event.Event.{Event}
use Rattle.conn_machine.specs.declared.event.Event.TheVariants as event
use Rattle.conn_machine.specs.declared.row.Row.{Row}
use Rattle.conn_machine.specs.declared.state.State.{State}
use Rattle.conn_machine.specs.Rows.{is_parked}
use Rattle.conn_machine.specs.States.{is_signalled}
use Rattle.mpm_base.specs.Clock.{AreEchoes}
use Rattle.board_book.specs.Finds.{acceptable, next_deadline_of}
use Rattle.board_book.specs.Moments.{moment_for}
use Rattle.board_book.specs.AtRest.{IsAtRest}
use Rattle.conn_machine.specs.Runs.{AllAt}

-- ## Nothing left to be done

-- no row that waits is signalled
abbrev pub NoneSignalled : State → Type 0
NoneSignalled s = (slot : ℕ) (r : Row) → slice_get s.rows slot ≡ Some r → is_parked r.place ≡ true → is_signalled s slot ≡ false

-- ## Patience

-- the wait was told that time may pass, up to the least deadline, and let it pass to this moment; where connections waited to be
-- taken before, none could be; and no command line waited to be read
pub record LetPass (wait : WaitTold) (to : ℕ) (s : State) : Type 0 where
  pub quiet : wait.quiet ≡ true
  pub until : wait.until ≡ next_deadline_of s
  pub waited : Backlog
  pub passed : wait.passed ≡ Some waited
  pub woke : wait.answer ≡ woke.Woke to
  pub taken : 0 < waited.arrivals → acceptable s ≡ None
  pub read : waited.lines ≡ 0

-- time passes to the moment in a state in which nothing is left to be done and no row that waits is signalled, as one of the waits
-- let it: to a moment at which something comes by itself, or to the least deadline
pub record PassesPatiently (comings : List ℕ) (waits : List WaitTold) (s : State) (m : ℕ) : Type 0 where
  pub to : ℕ
  pub moment : m ≡ moment_for to
  pub comes : Contains comings to ⊎ (next_deadline_of s ≡ Some to)
  pub rest : IsAtRest s
  pub unsignalled : NoneSignalled s
  pub wait : WaitTold
  pub told : Contains waits wait
  pub let_pass : LetPass wait to s

-- where the event is that time passes, it does so patiently
abbrev pub IsPatientEvent : List ℕ → List WaitTold → State → Event → Type 0
IsPatientEvent comings waits s (event.Accept slot) = ⊤
IsPatientEvent comings waits s (event.Park name kind) = ⊤
IsPatientEvent comings waits s (event.Hold name) = ⊤
IsPatientEvent comings waits s (event.Queue name) = ⊤
IsPatientEvent comings waits s (event.Start name) = ⊤
IsPatientEvent comings waits s (event.Answer name ask) = ⊤
IsPatientEvent comings waits s (event.Linger name cause) = ⊤
IsPatientEvent comings waits s (event.Close name cause tail) = ⊤
IsPatientEvent comings waits s (event.Ready slot) = ⊤
IsPatientEvent comings waits s (event.Tick m) = PassesPatiently comings waits s m
IsPatientEvent comings waits s (event.StartChild k) = ⊤
IsPatientEvent comings waits s (event.Command c) = ⊤
IsPatientEvent comings waits s (event.Retire k) = ⊤

-- in a history from the state on time passes patiently
abbrev pub ArePatient : List ℕ → List WaitTold → State → List Entry → Type 0
ArePatient comings waits s history = AllAt (IsPatientEvent comings waits) s history

-- ## Over a front and a clock of any kind

-- nothing has come of the front yet, and a patient one stands at moment 0
pub record HasNothingCome (t : FrontTold) : Type 0 where
  pub arrived : t.arrived ≡ 0
  pub lines : t.lines ≡ []
  pub stands : is_some t.comings ≡ true → t.moment ≡ 0

-- a patient front that tells, and a clock that tells and answered what it was told
pub record IsSteady (told : Option FrontTold) (calls : Option (List (ℕ × ℕ))) : Type 0 where
  pub front : FrontTold
  pub tells : told ≡ Some front
  pub comings : List ℕ
  pub patient : front.comings ≡ Some comings
  pub asked : List (ℕ × ℕ)
  pub clock : calls ≡ Some asked
  pub echoes : AreEchoes asked

-- over such ones time passes patiently in the history from the state on
abbrev pub IsPatientRun : Option FrontTold → Option (List (ℕ × ℕ)) → State → List Entry → Type 0
IsPatientRun told calls s history = (steady : IsSteady told calls) → ArePatient steady.comings steady.front.waits s history

-- over such ones time passes patiently in a run that began when nothing had come of the front
abbrev pub IsPatientFrom : Option FrontTold → Option FrontTold → Option (List (ℕ × ℕ)) → State → List Entry → Type 0
IsPatientFrom told told' calls s history = IfSome told HasNothingCome → IsPatientRun told' calls s history
