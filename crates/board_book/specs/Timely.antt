-- When it is time for an event: what holds of the state in which it is made.
use Rattle.std.specs.Prelude.{◌≡◌, ◌||◌, nat_lt, true, false, List, Some, ⊤}
use Rattle.board_book.specs.Finds.{startable}
use Rattle.conn_machine.specs.declared.event.Entry.{Entry}
use Rattle.conn_machine.specs.declared.event.Event.{Event}
use Rattle.conn_machine.specs.declared.event.Event.TheVariants as event
use Rattle.conn_machine.specs.declared.state.State.{State}
use Rattle.conn_machine.specs.Events.{is_ready, is_tick}
use Rattle.conn_machine.specs.Rows.{lives_and}
use Rattle.conn_machine.specs.Runs.{AllAt}
use Rattle.conn_machine.specs.States.{is_at_its_end, is_over}

-- a child is started where fewer run than should, and it is the lowest one that is gone; and a connection is handed to the workers before
-- its deadline
abbrev pub IsAskedFor : State → Event → Type 0
IsAskedFor s (event.StartChild k) = startable s ≡ Some k
IsAskedFor s (event.Queue name) = lives_and (λ r. nat_lt s.moment r.deadline) s.rows name ≡ true
IsAskedFor s other = ⊤

-- it is time for the event: it is asked for; where the time of a graceful stop is over no slot is signalled, and no time passes; and where one
-- is at its end nothing is made at all
pub record IsTimely (s : State) (e : Event) : Type 0 where
  pub asked : IsAskedFor s e
  pub within : is_over s.moment s.going ≡ true → (is_ready e || is_tick e) ≡ false
  pub before : is_at_its_end s ≡ false

-- in a history from the state on it was time for each event
abbrev pub AreTimely : State → List Entry → Type 0
AreTimely s history = AllAt IsTimely s history
