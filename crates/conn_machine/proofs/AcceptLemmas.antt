-- A row that is taken for the chosen child is fair.
use Rattle.std.proofs.Common.{◌≡◌, ◌==◌, ℕ, zero, suc, ◌+◌, ◌-◌, ◌*◌, ◌<◌, ◌≤◌, Bool, true, false, ◌&&◌, nat_lt, nat_le, List, [], ◌∷◌, length, Option, None, Some, is_some, refl, subst, inr, arith}
use Rattle.std.proofs.Math.Nat.{mul-le-mul_left}
use Rattle.std.proofs.lemmas.Bool.{and_parts, ltb-true, leb-true, eqb-true}
use Rattle.std.specs.Option.{unwrap_or}
use Rattle.mpm_base.specs.declared.shape.Shape.{Shape}
use Rattle.conn_machine.specs.declared.row.Row.{Row}
use Rattle.conn_machine.specs.declared.child.Child.{Child}
use Rattle.conn_machine.specs.declared.child.ChildPhase.{ChildPhase}
use Rattle.conn_machine.specs.declared.child.ChildPhase.TheVariants.{Empty, Running, Stopping}
use Rattle.conn_machine.specs.declared.state.State.{State}
use Rattle.conn_machine.specs.Rows.{carried_count, open_count}
use Rattle.conn_machine.specs.Children.{child_at, is_empty, is_running}
use Rattle.mpm_base.specs.Shape.{is_in_bounds, is_between}
use Rattle.mpm_base.specs.Moment.{greatest_moment}
use Rattle.conn_machine.specs.Table.{picked_child, taken_row}
use Rattle.conn_machine.specs.Sound.{IsSound}
use Rattle.conn_machine.specs.Laws.{admits_in, idle_in}
use Rattle.conn_machine.proofs.FairLemmas.{IsFair}
use Rattle.conn_machine.proofs.RowLemmas.{never}

-- the choice of a child that there is
pub picked : (o : Option ℕ) → is_some o ≡ true → o ≡ Some (unwrap_or o 0)
picked None is = absurd (cc)
picked (Some k) is = refl

-- a child that runs is one of the children
running_within : (children : List Child) (k : ℕ) → is_running (child_at children k).phase ≡ true → k < length children
running_within [] k runs = absurd (cc)
running_within (c ∷ children) zero runs = omega arith
running_within (c ∷ children) (suc k) runs = omega (arith, running_within children k runs)

-- a child that runs isn't gone
running_there : (p : ChildPhase) → is_running p ≡ true → is_empty p ≡ false
running_there Empty runs = absurd (cc)
running_there Running runs = refl
running_there Stopping runs = absurd (cc)

-- a child that takes one more connection is below its limit, and so with it
admits_one : (count threads factor taken : ℕ) → 100 * count < 100 * threads + factor * (threads - taken)
    → 100 * (count + 1) ≤ 100 * threads + factor * threads + 99
admits_one count threads factor taken below =
    let less : threads - taken ≤ threads = omega arith in
    omega (arith, mul-le-mul_left factor less)

-- the fifth of eight tests
fifth_of : (a b c d e f g h : Bool) → (a && b && c && d && e && f && g && h) ≡ true → e ≡ true
fifth_of a b c d e f g h all =
    let seven = (and_parts (a && b && c && d && e && f && g) h all).0 in
    (and_parts (a && b && c && d) e (and_parts (a && b && c && d && e) f (and_parts (a && b && c && d && e && f) g seven).0).0).1

-- numbers that a configuration may give allow a response
some_response : (shape : Shape) → is_in_bounds shape ≡ true → 0 < shape.most
some_response shape bounds =
    let most = fifth_of (is_between 1 64 shape.threads) (is_between 1 10000 shape.factor) (is_between 1000 65535000 shape.read_ms) (is_between 1 65535000 shape.keep_ms)
    (is_between 1 65535 shape.most) (is_between 1 32 shape.children) (is_between 1 shape.children shape.target) (nat_le shape.whole_ms 65535000) bounds in
    leb-true 1 shape.most (and_parts (nat_le 1 shape.most) (nat_le shape.most 65535) most).0

-- a row that is taken is fair
pub fair-accept : (s : State) (r : Row) → IsSound s → admits_in s (picked_child s) ≡ true → r.deadline ≤ greatest_moment
    → IsFair s r (taken_row s r)
fair-accept s r sound admits within =
    let k = picked_child s in
    let child = child_at s.children k in
    let parts = and_parts (is_running child.phase && child.generation == s.newest)
    (nat_lt (100 * open_count s.rows k) (100 * child.shape.threads + child.shape.factor * idle_in s k)) admits in
    let runs = (and_parts (is_running child.phase) (child.generation == s.newest) parts.0).0 in
    let there = running_there child.phase runs in
    let room = admits_one (open_count s.rows k) child.shape.threads child.shape.factor (carried_count s.rows k)
    (ltb-true (100 * open_count s.rows k) (100 * child.shape.threads + child.shape.factor * idle_in s k) parts.1) in
    let most = some_response child.shape (sound.children.shapes k there) in
    record {
      carried = λ j is. absurd (never (k == j) is);
      admitted = λ j is. inr (subst (λ i. 100 * (open_count s.rows i + 1)
          ≤ 100 * (child_at s.children i).shape.threads + (child_at s.children i).shape.factor * (child_at s.children i).shape.threads + 99)
          (eqb-true k j (and_parts (k == j) true (and_parts (k == j && true) true is).0).0) room);
      cell = λ j c is. absurd (never (k == j) is);
      owner = λ _. record { exists = running_within s.children k runs; there = there; generation = refl };
      below = λ _. tt;
      kind = λ _. refl;
      request = λ _. record { new = λ _. refl; expected = tt };
      notes = λ _. record { fewer = λ _. most; few = omega arith; last = refl };
      deadline = within;
    }
