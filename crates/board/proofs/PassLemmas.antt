-- What a pass has and added inside of a board.
use Rattle.std.proofs.Common.{◌≡◌, ℕ, true, List, Option, Some, refl, sym, ap, subst, ◌∙◌, eq-eqb}
use Rattle.mpm_base.specs.declared.conn.ConnName.{ConnName}
use Rattle.conn_machine.specs.declared.event.Entry.{Entry}
use Rattle.conn_machine.specs.Runs.{is_name, has_row, Adds}
use Rattle.board_book.specs.Book.{row_in}
use Rattle.board.specs.Board.{SeenBoard}

-- ## Roles

-- the name is its own
is_name-own : (name : ConnName) → is_name name name ≡ true
is_name-own name = rw (eq-eqb name.slot name.slot refl, eq-eqb name.life name.life refl) refl

-- the pass has the connection that it has
pub has-own : (had : Option ConnName) (name : ConnName) → had ≡ Some name → has_row had name ≡ true
has-own had name is = subst (λ (o : Option ConnName). has_row o name ≡ true) (sym is) (is_name-own name)

-- the pass has the connection inside too
pub has_inside : (who : ℕ) (seen b : SeenBoard) (name : ConnName) → seen ≡ b → row_in who b.book ≡ Some name
    → has_row (row_in who seen.book) name ≡ true
has_inside who seen b name is row =
    has-own (row_in who seen.book) name (ap (λ (v : SeenBoard). row_in who v.book) is ∙ row)

-- what was added inside was added
pub adds_inside : (who : ℕ) (seen b : SeenBoard) (history : List Entry) → seen ≡ b
    → Adds who seen.book.base seen.book.folded seen.book.history history → Adds who b.book.base b.book.folded b.book.history history
adds_inside who seen b history is adds = subst (λ (v : SeenBoard). Adds who v.book.base v.book.folded v.book.history history) is adds
