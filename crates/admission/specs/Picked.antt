-- What it means that a number is the one of the child that takes the next connection, and which of two
-- children goes before the other. Neither says how the child is found.
use Rattle.std.specs.Prelude.{◌≡◌, ℕ, ◌≤◌, true, List, All, Contains}
use Rattle.admission.specs.declared.ChildCount.{ChildCount}
use Rattle.admission.specs.Admission.{has_room, is_candidate}

-- k is the number of a child of the list that runs and has room; no other that runs and has room has
-- more idle workers, and none with as many has a lower number
pub record IsPicked (children : List ChildCount) (k : ℕ) : Type 0 where
  pub child : ChildCount
  pub listed : Contains children child
  pub numbered : child.child ≡ k
  pub runs : child.running ≡ true
  pub room : has_room child.t child.factor child.idle child.count ≡ true
  pub none_idler : All (λ c. is_candidate c ≡ true → c.idle ≤ child.idle) children
  pub none_lower : All (λ c. is_candidate c ≡ true → c.idle ≡ child.idle → k ≤ c.child) children
