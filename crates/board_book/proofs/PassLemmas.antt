-- What a pass may make of a book, and what it added.
use Rattle.std.proofs.Common.{◌≡◌, ℕ, true, [], ◌∷◌, ◌++◌, refl, sym, ap, subst, ◌∙◌, eq-eqb}
use Rattle.conn_machine.specs.declared.event.Event.{Event}
use Rattle.conn_machine.specs.declared.event.Reply.{Reply}
use Rattle.conn_machine.specs.Table.{is_allowed, reply}
use Rattle.conn_machine.specs.Runs.{after, is_of_pass, has_after, row_from, may_make, IsNextOf}
use Rattle.board_book.specs.Book.{SeenBook, AddsOnly, entry_of, book_with_entry, row_in}

-- ## What was added

-- the entry of an event is one that the pass may make
pub may_be_next : (who : ℕ) (b : SeenBook) (e : Event) → after b.base b.history ≡ b.state → is_allowed b.state e ≡ true
    → may_make who (row_in who b) e ≡ true → IsNextOf who b.base b.folded b.history (entry_of who e b)
may_be_next who b e state_is may role =
    record { pass = refl; ordinal = refl; is_allowed = rw state_is may; replied = rw state_is refl; role = role }

-- what was added once the pass recorded an event was added
pub adds_recorded : (who : ℕ) (e : Event) (b b' : SeenBook) → b' ≡ book_with_entry who e b
    → AddsOnly who b (book_with_entry who e b) → AddsOnly who b b'
adds_recorded who e b b' is one = subst (λ (v : SeenBook). AddsOnly who b v) (sym is) one

-- where the book is as before, nothing was
pub adds_nothing : (who : ℕ) (b b' : SeenBook) → b' ≡ b → AddsOnly who b b → AddsOnly who b b'
adds_nothing who b b' is none = subst (λ (v : SeenBook). AddsOnly who b v) (sym is) none

-- ## The connection of a pass

-- it is what the event and its reply leave it
pub row-recorded : (who : ℕ) (e : Event) (answer : Reply) (b b' : SeenBook) → b' ≡ book_with_entry who e b → answer ≡ reply b.state e
    → row_from b.folded who (b.history ++ entry_of who e b ∷ []) ≡ has_after (row_in who b) e (reply b.state e)
    → row_in who b' ≡ has_after (row_in who b) e answer
row-recorded who e answer b b' is replied one =
    ap (λ (v : SeenBook). row_in who v) is ∙ one ∙ ap (λ (r : Reply). has_after (row_in who b) e r) (sym replied)

-- an entry of the pass is its own
pub is_own : (who : ℕ) (e : Event) (b : SeenBook) → is_of_pass who (entry_of who e b) ≡ true
is_own who e b = eq-eqb who who refl

-- ## Roles

-- the event that a pass may make is one that it may make inside
pub role_inside : (who : ℕ) (seen b : SeenBook) (e : Event) → seen ≡ b → may_make who (row_in who b) e ≡ true
    → may_make who (row_in who seen) e ≡ true
role_inside who seen b e is role = subst (λ (v : SeenBook). may_make who (row_in who v) e ≡ true) (sym is) role
