-- A child that may go, and the least of some moments.
use Rattle.std.proofs.Common.{◌≡◌, ℕ, true, false, not, ◌&&◌, List, [], ◌∷◌, ◌++◌, fold, min, Option, None, Some, slice_get, refl, ap, ◌∙◌, arith}
use Rattle.std.specs.List.{list_any, reduce}
use Rattle.std.specs.Option.{option_map_or}
use Rattle.std.proofs.lemmas.Grind.{fold-append}
use Rattle.conn_machine.specs.declared.child.Child.{Child}
use Rattle.conn_machine.specs.declared.state.State.{State}
use Rattle.conn_machine.specs.Rows.{is_live_in}
use Rattle.conn_machine.specs.Children.{is_stopping}
use Rattle.conn_machine.specs.Table.{may_retire}

-- ## A child that may go

-- no child that there is may go, so no number may
none_there : (s : State) (k : ℕ) (o : Option Child) → slice_get s.children k ≡ o
    → ((k : ℕ) (c : Child) → slice_get s.children k ≡ Some c → (is_stopping c.phase && not (list_any (is_live_in k) s.rows)) ≡ false)
    → may_retire s k ≡ false
none_there s k None at each = rw at refl
none_there s k (Some c) at each = rw at (each k c at)

-- where no child that there is may go, none may
pub none_retirable : (s : State)
    → ((k : ℕ) (c : Child) → slice_get s.children k ≡ Some c → (is_stopping c.phase && not (list_any (is_live_in k) s.rows)) ≡ false)
    → (k : ℕ) → may_retire s k ≡ false
none_retirable s each k = none_there s k (slice_get s.children k) refl each

-- ## The least of some moments

-- the lesser of two numbers, whichever is named first
min_turned : (n m : ℕ) → min n m ≡ min m n
min_turned n m = omega arith

-- the least of some numbers and one more
pub reduce_push : (ns : List ℕ) (n : ℕ) → reduce min (ns ++ n ∷ []) ≡ Some (option_map_or (min n) (reduce min ns) n)
reduce_push [] n = refl
reduce_push (m ∷ ns) n = ap Some (fold-append min m ns (n ∷ []) ∙ min_turned (fold min m ns) n)
