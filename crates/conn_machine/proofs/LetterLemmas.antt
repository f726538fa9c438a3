-- How many letters a state has.
use Rattle.std.proofs.Common.{◌≡◌, ℕ, ◌≤◌, ◌<◌, Bool, true, false, ◌&&◌, List, slice_index_or, inl, inr, cond, refl, sym, ap, subst, arith}
use Rattle.std.proofs.lemmas.Bool.{cases_Bool}
use Rattle.std.proofs.lemmas.Bool.Decides.{nat_tests}
use Rattle.mpm_base.specs.Shape.{is_between, is_in_bounds}
use Rattle.mpm_base.specs.declared.shape.Shape.{Shape}
use Rattle.conn_machine.specs.Children.{child_at, is_empty}
use Rattle.conn_machine.specs.Shown.{cells_of}
use Rattle.conn_machine.specs.Sound.{IsSound}
use Rattle.conn_machine.specs.declared.child.Child.{Child}
use Rattle.conn_machine.specs.declared.state.State.{State}

-- a shape in its bounds has 64 threads at most
few_threads : (s : Shape) → is_in_bounds s ≡ true → s.threads ≤ 64
few_threads s bounded = grind (arith, nat_tests, bounded)

-- so a child of a sound state has 64 letters at most
pub few_cells : (s : State) (k : ℕ) → IsSound s → cells_of s (child_at s.children k) ≤ 64
few_cells s k sound =
    elim (cases_Bool (is_empty (child_at s.children k).phase)) [
      | inl empty ↦ subst (λ n. n ≤ 64) (sym (ap (λ (b : Bool). cond b s.shape.threads (child_at s.children k).shape.threads) empty)) (few_threads s.shape sound.children.newest)
      | inr there ↦ subst (λ n. n ≤ 64) (sym (ap (λ (b : Bool). cond b s.shape.threads (child_at s.children k).shape.threads) there))
          (few_threads (child_at s.children k).shape (sound.children.shapes k there))
    ]
