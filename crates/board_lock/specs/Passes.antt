-- What is said of passes and of their seats.
use Rattle.std.specs.Prelude.{◌≡◌, ℕ, zero, suc, [], ◌∷◌, Option, None}
use Rattle.atomic_table.specs.Table.{Me}
use Rattle.conn_machine.specs.declared.kept.Ledger.{Ledger}
use Rattle.conn_machine.specs.Folds.{opening_record}
use Rattle.conn_machine.specs.Runs.{Adds}
use Rattle.table_rule.specs.declared.view.Origin.{Origin}
use Rattle.table_rule.specs.declared.view.View.{View}
use Rattle.table_rule.specs.Ledgers.{EndsTurn, IsLastLeft}
use Rattle.table_rule.specs.Views.{IsFound, IsIdle, first_view, free_view, given_view, taken_view}

-- a pass of a new lock: pass 0 has drawn the numbers of all
abbrev pub fresh_view : Origin → ℕ → View
fresh_view origin zero = first_view origin origin.passes
fresh_view origin (suc p) = free_view origin (suc p) []

-- the pass has no turn, so nothing of the lock's is in its hand
pub record HasNoTurn {S : Type 0} (me : Me S View) : Type 0 where
  pub hand : me.1 ≡ []
  pub turn : me.0.turn ≡ None

-- the pass has nothing: no turn, no permit, no try, no connection, and nothing of the lock's in its hand
pub record IsFree {S : Type 0} (me : Me S View) : Type 0 where
  pub hand : me.1 ≡ []
  pub idle : IsIdle me.0

-- the pass took the turn, with a value that tells this
pub record TookTurn {K : Type 0} (old new : Me (Option K) View) (found : Ledger) : Type 0 where
  pub view : new.0 ≡ taken_view old.0 found new.0.seen
  pub hand : new.1 ≡ (0, None) ∷ []
  pub is_found : IsFound old.0 found new.0.seen

-- the pass gave the turn back, with a value that tells this: it has seen what was added to the value that its turn found
pub record GaveBack {K : Type 0} (old new : Me (Option K) View) (left : Ledger) : Type 0 where
  pub view : new.0 ≡ given_view old.0 new.0.seen new.0.left
  pub hand : new.1 ≡ []
  pub adds : Adds old.0.who.number old.0.origin.state (opening_record old.0.origin.passes)
      old.0.seen new.0.seen
  pub ends : EndsTurn old.0 left new.0.seen
  pub is_left : IsLastLeft old.0 left new.0.seen new.0.left
