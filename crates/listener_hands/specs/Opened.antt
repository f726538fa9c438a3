-- What the pass that listens knows before its first turn, and which carriers there are.
use Rattle.std.specs.Prelude.{◌≡◌, ℕ, ◌+◌, [], length, None, slice_index}
use Rattle.mpm_base.specs.declared.shape.Shape.{Shape}
use Rattle.atomic_table.specs.Table.{Me}
use Rattle.conn_machine.specs.States.{opening_state}
use Rattle.table_rule.specs.declared.view.Origin.{Origin}
use Rattle.table_rule.specs.declared.view.View.{View}
use Rattle.table_rule.specs.Views.{nothing_left}
use Rattle.recycle_perch.specs.Resting.{IsFreeCarrier}

-- where the history of a server begins that has so many slots, children and passes, and whose children are started with this shape
abbrev pub opening_origin : ℕ → ℕ → ℕ → Shape → Origin
opening_origin slots children passes shape =
    record { state = opening_state slots children shape; passes = passes }

-- the pass has seen nothing yet of a history that begins there, has no connection, has given no child a credit, and has folded nothing
pub record OpensAt (origin : Origin) (v : View) : Type 0 where
  pub origin_is : v.origin ≡ origin
  pub seen : v.seen ≡ []
  pub row : v.row ≡ None
  pub credits : (child : ℕ) → slice_index v.credits child ≡ 0
  pub full : length v.credits ≡ 32
  pub left : v.left ≡ nothing_left origin

-- the carrier has nothing, and its number and this index are together that number
pub record IsNumberedBelow {S : Type 0} (count i : ℕ) (me : Me S View) : Type 0 where
  pub free : IsFreeCarrier me
  pub number : me.0.who.number + i ≡ count
