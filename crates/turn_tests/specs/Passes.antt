-- Passes of a new lock, and the credit of the child that a test has.
use Rattle.std.specs.Prelude.{◌≡◌, ℕ, List, [], length, slice_index}
use Rattle.atomic_table.specs.Table.{Me}
use Rattle.table_rule.specs.declared.view.Origin.{Origin}
use Rattle.table_rule.specs.declared.view.View.{View}
use Rattle.board_lock.specs.Passes.{fresh_view}

-- a pass of a new lock
abbrev pub IsFresh : {S : Type 0} → Me S View → Type 0
IsFresh me = (origin : Origin) × (p : ℕ) × (me ≡ (fresh_view origin p, []))

-- of the credits of 32 children the first one's is this
abbrev pub HasCredit : ℕ → List ℕ → Type 0
HasCredit credit credits = (length credits ≡ 32) × (slice_index credits 0 ≡ credit)
