-- What the listener finds in a turn in which it only looks.
use Rattle.std.specs.Prelude.{◌≡◌, ◌==◌, ◌↔◌, ℕ, Bool, true, false, not}
use Rattle.std.specs.List.{list_any}
use Rattle.conn_machine.specs.declared.event.Commanded.{Commanded}
use Rattle.conn_machine.specs.declared.event.Commanded.TheVariants.{Graceful, GracefulStop, Refused, Stop}
use Rattle.conn_machine.specs.declared.state.State.{State}
use Rattle.conn_machine.specs.Children.{is_empty}
use Rattle.conn_machine.specs.Folds.{opening_record}
use Rattle.conn_machine.specs.Passes.{EachHasItsOwn}
use Rattle.conn_machine.specs.Rows.{is_live}
use Rattle.conn_machine.specs.Runs.{first_row}
use Rattle.table_rule.specs.declared.view.View.{View}
use Rattle.idle_workers.specs.Found.{FoundIdle}
use Rattle.board_book.specs.AtRest.{IsAtRest}
use Rattle.board_book.specs.Finds.{FindsRetirable, acceptable, next_deadline_of}
use Rattle.board_turns.specs.Books.{state_of}
use Rattle.listener_turns.specs.declared.looks.Look.{Look}

-- what was found is so in the state
pub record IsSeenIn (s : State) (look : Look) : Type 0 where
  pub accepts : look.accepts ≡ acceptable s
  pub until : look.until ≡ next_deadline_of s
  pub quiet : (look.quiet ≡ true) ↔ IsAtRest s
  pub retires : FindsRetirable s look.retires
  pub live : look.live ≡ list_any is_live s.rows
  pub staffed : look.staffed ≡ list_any (λ c. not (is_empty c.phase)) s.children
  pub going : look.going ≡ s.going
  pub moment : look.moment ≡ s.moment
  pub newest : look.newest ≡ s.newest

-- each worker of the child that has so many is idle, as the listener sees by a step on its idle word: nobody has a permit of it, or tries
-- for one. Where no pass had a connection as the server opened, and nothing was left to be done, the pass has seen nothing more by that
-- step than before: the state is the same still
pub record LooksIdle (child threads : ℕ) (old : View) (idle : Bool) (new : View) : Type 0 where
  pub count : ℕ
  pub looked : FoundIdle child old count new
  pub answer : idle ≡ (count == threads)
  pub still : EachHasItsOwn old.origin.state (first_row (opening_record old.origin.passes))
      → IsAtRest (state_of old)
      → new.seen ≡ old.seen

-- ## Orders

-- the order doesn't stop the server
abbrev pub lets_go_on : Commanded → Bool
lets_go_on (Graceful shape) = true
lets_go_on (Refused reason) = true
lets_go_on (GracefulStop until) = true
lets_go_on (Stop why) = false
