-- A carrier that was woken.
use Rattle.std.proofs.Common.{◌≡◌, ℕ, ◌/◌, length, List, None, refl, sym, subst}
use Rattle.atomic_table.specs.Table.{Me}
use Rattle.conn_machine.specs.declared.event.Entry.{Entry}
use Rattle.conn_machine.specs.Folds.{opening_record}
use Rattle.conn_machine.specs.Made.{AreMade}
use Rattle.conn_machine.specs.Runs.{row_of}
use Rattle.table_rule.specs.declared.view.Origin.{Origin}
use Rattle.table_rule.specs.declared.view.View.{View}
use Rattle.table_rule.specs.Views.{woken_view}
use Rattle.recycle_perch.specs.Resting.{IsWokenCarrier}

-- by what the look told it
pub woken_by : {S : Type 0} (me : Me S View) (origin : Origin) (p : ℕ) (seen : List Entry) (since found : ℕ) → me.0 ≡ woken_view origin p seen since found
    → found / 2 ≡ length seen → AreMade origin.state (opening_record origin.passes) seen → row_of p seen ≡ None → IsWokenCarrier me
woken_by me origin p seen since found is whole made none = record {
  found = found;
  view = subst (λ (v : View). v ≡ woken_view v.origin v.who.number v.seen v.past.since found) (sym is) refl;
  seen = subst (λ (v : View). found / 2 ≡ length v.seen) (sym is) whole;
  made = subst (λ (v : View). AreMade v.origin.state (opening_record v.origin.passes) v.seen) (sym is) made;
  row = subst (λ (v : View). row_of v.who.number v.seen ≡ None) (sym is) none;
}
