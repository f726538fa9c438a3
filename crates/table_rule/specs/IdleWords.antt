-- The idle words: of each child one, which counts its workers that nobody may use.
use Rattle.std.specs.Prelude.{◌≡◌, ◌⊎◌, ℕ, ◌+◌, ◌≤◌, ◌<◌, ◌==◌, Bool, true, false, List, [], ◌∷◌, length, Option, None, Some, slice_get, slice_index}
use mathlib.Core.Option as m
use lib.ListN.{get_elem?}
use Rattle.mpm_base.specs.declared.conn.ConnName.{ConnName}
use Rattle.conn_machine.specs.declared.row.Row.{Row}
use Rattle.conn_machine.specs.declared.state.State.{State}
use Rattle.table_rule.specs.declared.view.View.{View}
use Rattle.conn_machine.specs.Rows.{is_carried_at}
use Rattle.table_rule.specs.Histories.{threads_of}

-- what stands on the idle word of a child without workers
abbrev pub bias : ℕ
bias = 4294967296

-- 1 where it is so
abbrev pub bit : Bool → ℕ
bit true = 1
bit false = 0

-- 1 where it is of that child
abbrev pub bit_at : ℕ → Option ℕ → ℕ
bit_at k None = 0
bit_at k (Some j) = bit (j == k)

-- the sum over all views
abbrev pub sum_of : (View → ℕ) → List View → ℕ
sum_of f [] = 0
sum_of f (v ∷ views) = f v + sum_of f views

-- how many permits of the child the view has
abbrev pub permits : ℕ → View → ℕ
permits k v = bit_at k v.hand.permit

-- how many tries of the child it has to undo
abbrev pub tries : ℕ → View → ℕ
tries k v = bit_at k v.hand.trying

-- the pass that has the row of a connection which a worker has, or will, has a permit of its child
abbrev pub HasPermit : State → View → Type 0
HasPermit s v =
    (name : ConnName) (r : Row)
    → v.row ≡ Some name
    → slice_get s.rows name.slot ≡ Some r
    → is_carried_at r.place ≡ true
    → v.hand.permit ≡ Some r.child

-- each idle word is the bias and the credit of its child, less the permits and the tries that are out; there are no more
-- permits than credit; and a child's credit is 0, or its workers
pub record AreIdleWords (s : State) (words : List ℕ) (views : List View)
    (credits : List ℕ) : Type 0 where
  pub equation : (k : ℕ)
      → k < 32
      → slice_index words (k + 2) + sum_of (permits k) views + sum_of (tries k) views
      ≡ bias + slice_index credits k
  pub permitted : (k : ℕ) → k < 32 → sum_of (permits k) views ≤ slice_index credits k
  pub credited : (k : ℕ)
      → k < 32
      → (slice_index credits k ≡ 0) ⊎ (slice_index credits k ≡ threads_of s k)
  pub small : (k : ℕ) → k < 32 → slice_index credits k ≤ 64
  pub full : length credits ≡ 32
  pub children : (id : ℕ) (v : View)
      → get_elem? views id ≡ m.some v
      → (k : ℕ)
      → v.hand.permit ≡ Some k
      → k < 32
  pub holders : (id : ℕ) (v : View) → get_elem? views id ≡ m.some v → HasPermit s v
