-- What is said of carriers that may rest.
use Rattle.std.specs.Prelude.{◌≡◌, ◌≢◌, ℕ, ◌/◌, length, None}
use Rattle.atomic_table.specs.Table.{Me}
use Rattle.conn_machine.specs.Folds.{opening_record}
use Rattle.conn_machine.specs.Made.{AreMade}
use Rattle.conn_machine.specs.Runs.{row_of}
use Rattle.table_rule.specs.declared.view.View.{View}
use Rattle.table_rule.specs.Views.{woken_view}
use Rattle.board_lock.specs.Passes.{IsFree}

-- the carrier has nothing, and isn't pass 0
pub record IsFreeCarrier {S : Type 0} (me : Me S View) : Type 0 where
  pub free : IsFree me
  pub number : me.0.who.number ≢ 0

-- the carrier was woken by a look at the turn word, which found this number: it knows its number, that look, and a history that passes
-- made as they may, of half that length, in which it has no connection
pub record IsWokenCarrier {S : Type 0} (me : Me S View) : Type 0 where
  pub found : ℕ
  pub view : me.0 ≡ woken_view me.0.origin me.0.who.number me.0.seen me.0.past.since found
  pub seen : found / 2 ≡ length me.0.seen
  pub made : AreMade me.0.origin.state (opening_record me.0.origin.passes) me.0.seen
  pub row : row_of me.0.who.number me.0.seen ≡ None
