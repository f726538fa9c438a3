-- What the numbers of a run are like, and how its board opens.
use Rattle.std.specs.Prelude.{◌≡◌, ◌≤◌, true, []}
use Rattle.mpm_base.specs.Shape.{is_in_bounds}
use Rattle.board_book.specs.Book.{SeenBook}
use Rattle.listener_round.specs.declared.run_numbers.RunNumbers.{RunNumbers}
use Rattle.listener_round.specs.FirstNumbers.{folded_by, opened_by}

-- the numbers are ones that a table may have, and one pass serves at least
pub record AreNumbers (n : RunNumbers) : Type 0 where
  pub some_slots : 1 ≤ n.slots
  pub few_slots : n.slots ≤ 8192
  pub some_children : 1 ≤ n.children
  pub few_children : n.children ≤ 32
  pub some_serve : 2 ≤ n.passes
  pub few_passes : n.passes ≤ 4099
  pub in_bounds : is_in_bounds n.shape ≡ true

-- the book of a board that opens by these numbers
abbrev pub opened_book : RunNumbers → SeenBook
opened_book n = record { base = opened_by n; folded = folded_by n; history = []; state = opened_by n; passes = n.passes }
