-- The children stop, one after the other.
use Rattle.std.proofs.Common.{◌≡◌, ℕ, zero, suc, ◌+◌, ◌<◌, ◌≤◌, List, [], ◌∷◌, ◌++◌, length, take, drop, get_or, refl, ap, ◌∙◌, add-one, arith}
use Rattle.std.proofs.Math.ListN.{set}
use Rattle.conn_machine.specs.declared.child.Child.{Child}
use Rattle.conn_machine.specs.Children.{stopped_child, all_stopped}

-- the first so many children have stopped
abbrev pub stopped_to : ℕ → List Child → List Child
stopped_to i children = all_stopped (take i children) ++ drop i children

pub stopped_to-none : (children : List Child) → stopped_to 0 children ≡ children
stopped_to-none children = refl

-- one more
pub set-stopped_to : (children xs : List Child) (i : ℕ) (d c : Child) → xs ≡ stopped_to i children → i < length children
    → c ≡ stopped_child (get_or xs i d) → set xs i c ≡ stopped_to (i + 1) children
set-stopped_to [] xs i d c is below made = absurd (omega arith)
set-stopped_to (x ∷ children) xs zero d c is below made =
    rw is (ap (λ y. y ∷ children) (made ∙ ap (λ ys. stopped_child (get_or ys 0 d)) is))
set-stopped_to (x ∷ children) xs (suc i) d c is below made =
    rw is (rw add-one (ap (λ ys. stopped_child x ∷ ys)
    (set-stopped_to children (stopped_to i children) i d c refl (omega arith) (made ∙ ap (λ ys. stopped_child (get_or ys (suc i) d)) is)
    ∙ rw add-one refl)))

-- all of them
pub stopped_to-all : (children : List Child) (i : ℕ) → length children ≤ i → stopped_to i children ≡ all_stopped children
stopped_to-all [] zero all = refl
stopped_to-all [] (suc i) all = refl
stopped_to-all (x ∷ children) zero all = absurd (omega arith)
stopped_to-all (x ∷ children) (suc i) all = ap (λ ys. stopped_child x ∷ ys) (stopped_to-all children i (omega arith))

pub ruleset stopping = (set-stopped_to, stopped_to-all)
