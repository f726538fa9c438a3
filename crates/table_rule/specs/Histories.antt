-- What passes know of a history, and what they may add to it.
use Rattle.std.specs.Prelude.{◌≡◌, ℕ, List, [], ◌∷◌, ◌++◌, Option, Some, true, nat_lt, slice_index, ⊤}
use Rattle.conn_machine.specs.declared.row.Row.{Row}
use Rattle.conn_machine.specs.declared.event.Event.{Event}
use Rattle.conn_machine.specs.declared.event.Event.TheVariants as event
use Rattle.conn_machine.specs.declared.event.Entry.{Entry}
use Rattle.conn_machine.specs.declared.state.State.{State}
use Rattle.conn_machine.specs.Rows.{live_row, lives_and}
use Rattle.conn_machine.specs.Children.{child_at}
use Rattle.conn_machine.specs.Table.{next}

-- the second list begins with the first
abbrev pub Extends : {X : Type 0} → List X → List X → Type 0
Extends {X} xs ys = (rest : List X) × (ys ≡ xs ++ rest)

-- the workers of the child
abbrev pub threads_of : State → ℕ → ℕ
threads_of s k = (child_at s.children k).shape.threads

-- a connection is handed to the workers of its child before its deadline
abbrev pub IsQueuedInTime : State → Event → Type 0
IsQueuedInTime s (event.Queue name) =
    lives_and (λ r. nat_lt s.moment r.deadline) s.rows name ≡ true
IsQueuedInTime s other = ⊤

-- what a pass with this permit and these credits may do: hand a connection to its own child's workers, before its deadline; let go of a
-- child without credit
abbrev pub IsPermitted : Option ℕ → List ℕ → State → Event → Type 0
IsPermitted permit credits s (event.Queue name) =
    (r : Row)
    × (live_row s.rows name ≡ Some r)
    × (permit ≡ Some r.child)
    × (nat_lt s.moment r.deadline ≡ true)
IsPermitted permit credits s (event.Retire k) = slice_index credits k ≡ 0
IsPermitted permit credits s other = ⊤

-- the same of each entry, one after the other
abbrev pub ArePermitted : Option ℕ → List ℕ → State → List Entry → Type 0
ArePermitted permit credits s [] = ⊤
ArePermitted permit credits s (e ∷ entries) =
    IsPermitted permit credits s e.event × ArePermitted permit credits (next s e.event) entries
