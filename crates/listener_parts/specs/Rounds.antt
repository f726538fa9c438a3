-- The further parts of a round: time passes, slots are signalled, children are started and let go of, and what the next wait is told.
use Rattle.std.specs.Prelude.{◌≡◌, ◌≢◌, ◌<◌, ℕ, true, List, [], ◌∷◌, ◌++◌, length, map, slice_index, None, Some}
use Rattle.conn_machine.specs.declared.event.Entry.{Entry}
use Rattle.conn_machine.specs.declared.event.Event.{Event}
use Rattle.conn_machine.specs.declared.event.Event.TheVariants as event
use Rattle.conn_machine.specs.Folds.{opening_record}
use Rattle.conn_machine.specs.Passes.{EachHasItsOwn}
use Rattle.conn_machine.specs.Runs.{first_row}
use Rattle.conn_machine.specs.Table.{is_allowed}
use Rattle.table_rule.specs.declared.view.View.{View}
use Rattle.board_book.specs.Finds.{startable}
use Rattle.board_book.specs.Moments.{ticks_to}
use Rattle.board_turns.specs.Books.{state_of}
use Rattle.board_turns.specs.Turns.{HadTurn, state_found}
use Rattle.listener_turns.specs.Children.{AreStarted}
use Rattle.listener_turns.specs.Looks.{LooksIdle}
use Rattle.board_book.specs.AtRest.{IsAtRest}
use Rattle.listener_turns.specs.Signals.{ready_events}
use Rattle.board_book.specs.ClosedDown.{HasNoLive}
use Rattle.listener_parts.specs.Did.{Did}
use Rattle.listener_parts.specs.Letting.{AllLeftBy, Departure, IsLateWay, gone_events}

-- ## A rest

-- no pass had a connection as the server opened
abbrev pub OpenedWithNone : View → Type 0
OpenedWithNone v = EachHasItsOwn v.origin.state (first_row (opening_record v.origin.passes))

-- ## Time

-- the events by which time passes
abbrev pub time_events : List Departure → List ℕ → List Departure → List Event
time_events early ticks late = gone_events early ++ map event.Tick ticks ++ gone_events late

-- time passed to that moment, where it is later than the one before; late connections were let go of before and after
pub record PassesTime (to : ℕ) (old new : View) : Type 0 where
  pub early : List Departure
  pub late : List Departure
  pub early_ways : AllLeftBy IsLateWay early
  pub late_ways : AllLeftBy IsLateWay late
  pub did : Did (time_events early (ticks_to (state_of old).moment to) late) None old new

-- late connections were let go of, and then time passed to that moment
pub record TicksTo (to : ℕ) (old new : View) : Type 0 where
  pub early : List Departure
  pub early_ways : AllLeftBy IsLateWay early
  pub did : Did (gone_events early ++ event.Tick to ∷ []) None old new

-- no pass had a connection as the server opened, and in the state of all that the pass has seen nothing is left to be done, and time may
-- pass to that moment
pub record IsRestedFor (to : ℕ) (v : View) : Type 0 where
  pub opened : OpenedWithNone v
  pub at_rest : IsAtRest (state_of v)
  pub allowed : is_allowed (state_of v) (event.Tick to) ≡ true

-- the first entry that was added to what the pass had seen is that of the time that passed: nobody did anything before
pub record TicksAtOnce (to : ℕ) (old new : View) : Type 0 where
  pub tick : Entry
  pub rest : List Entry
  pub seen : new.seen ≡ old.seen ++ tick ∷ rest
  pub event_is : tick.event ≡ event.Tick to

-- ## Signals

-- those of these slots were signalled, once and in order, that the table has
abbrev pub Signals : List ℕ → View → View → Type 0
Signals slots old new = Did (ready_events (length (state_of new).rows) slots) None old new

-- those before one of them were, and nothing else
pub record SignalsSome (slots : List ℕ) (old new : View) : Type 0 where
  pub first : List ℕ
  pub slot : ℕ
  pub rest : List ℕ
  pub slots_are : slots ≡ first ++ slot ∷ rest
  pub signals : Signals first old new

-- ## Children

-- the credits that the listener keeps are those that its pass has, one for each child that there may be
pub record AreCredits (credits : List ℕ) (v : View) : Type 0 where
  pub own : credits ≡ v.credits
  pub full : length credits ≡ 32

-- children were started, and nothing else was done
pub record StartsSome (old new : View) : Type 0 where
  pub children : List ℕ
  pub did : Did (map event.StartChild children) None old new

-- the child was started in a turn that found it to be the lowest that is gone, while fewer run than should; before and behind that the pass
-- did nothing else
pub record StartsAsked (child : ℕ) (old new : View) : Type 0 where
  pub before : View
  pub waits : Did [] None old before
  pub found : List Entry
  pub behind : View
  pub turn : HadTurn found (event.StartChild child ∷ []) before behind
  pub asked : startable (state_found before found) ≡ Some child
  pub rest : Did [] None behind new

-- these were, one behind the other
abbrev pub AreAsked : View → List ℕ → View → Type 0
AreAsked old [] new = Did [] None old new
AreAsked old (k ∷ children) new = (between : View) × StartsAsked k old between × AreAsked between children new

-- children were started, each as it is asked for in the state that its turn found, and nothing else was done
pub record StartsEach (old new : View) : Type 0 where
  pub children : List ℕ
  pub asked : AreAsked old children new
  pub did : Did (map event.StartChild children) None old new

-- in the first turn that added an entry children were started, each the lowest that is gone then, from the state that the turn found on; where
-- no pass had a connection as the server opened, and none is live, nobody did anything before that
pub record StartsAtFirst (old new : View) : Type 0 where
  pub children : List ℕ
  pub found : List Entry
  pub alone : OpenedWithNone old → HasNoLive (state_of old) → found ≡ old.seen
  pub behind : View
  pub turn : HadTurn found (map event.StartChild children) old behind
  pub started : AreStarted (state_found old found) children
  pub did : Did [] None behind new

-- children were let go of, and nothing else was done
pub record RetiresSome (old new : View) : Type 0 where
  pub children : List ℕ
  pub did : Did (map event.Retire children) None old new

-- no child has a credit
abbrev pub NoneHasCredit : List ℕ → Type 0
NoneHasCredit credits = (child : ℕ) → slice_index credits child ≡ 0

-- ## The rest

-- nothing is left to be done in the state of all that the pass has seen, which is what it had seen before
pub record IsStill (old new : View) : Type 0 where
  pub seen : new.seen ≡ old.seen
  pub rest : IsAtRest (state_of new)

-- between the two a step on the child's idle word found that each of its workers is idle, of which it has so many
pub record WasFoundIdle (child threads : ℕ) (old new : View) : Type 0 where
  pub before : View
  pub behind : View
  pub first : Did [] None old before
  pub looked : LooksIdle child threads before true behind
  pub rest : Did [] None behind new

-- so it was of each child that has a credit
abbrev pub AllWereIdle : List ℕ → View → View → Type 0
AllWereIdle credits old new =
    (child : ℕ) → child < 32 → slice_index credits child ≢ 0 → WasFoundIdle child (slice_index credits child) old new
