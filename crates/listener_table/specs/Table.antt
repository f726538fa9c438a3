-- What the listener's table keeps between two calls.
use Rattle.std.specs.Prelude.{◌≡◌, ℕ, List, None, Option}
use Rattle.atomic_table.specs.Table.{Me}
use Rattle.conn_machine.specs.declared.state.Going.{Going}
use Rattle.conn_machine.specs.Sound.{IsSound}
use Rattle.conn_state.specs.Known.{KnownOutside}
use Rattle.table_rule.specs.declared.view.View.{View}
use Rattle.board_turns.specs.Books.{state_of}
use Rattle.board_turns.specs.Turns.{IsListener}
use Rattle.listener_turns.specs.Folds.{HasDropped}
use Rattle.listener_parts.specs.Rounds.{AreCredits, OpenedWithNone}

-- pass 0 has no turn and no connection; the credits are those that it gave; no pass had a connection as the server opened, in a sound state; what its folds
-- dropped is known; and what it keeps of the state is what it alone changes
pub record IsTable {S : Type 0} (known : Option KnownOutside) (me : Me S View) (credits : List ℕ)
    (moment newest : ℕ) (going : Going) : Type 0 where
  pub listener : IsListener me
  pub none : me.0.row ≡ None
  pub credited : AreCredits credits me.0
  pub opened : OpenedWithNone me.0
  pub sound : IsSound me.0.origin.state
  pub dropped : HasDropped known me.0
  pub moment_is : moment ≡ (state_of me.0).moment
  pub newest_is : newest ≡ (state_of me.0).newest
  pub going_is : going ≡ (state_of me.0).going
