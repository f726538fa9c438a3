-- What a type that knows the outside says of the connections of a generation, and that generations keep their editions.
-- Why it is so stands in docs/DECISIONS.md: 100, By which edition a board's connections are served.
use Rattle.std.specs.Prelude.{◌≡◌, ℕ, ◌+◌, true, false, List, ◌++◌, slice_get, Option, Some, IfSome}
use Rattle.mpm_base.specs.declared.shape.Shape.{Shape}
use Rattle.http_read.specs.declared.request.Limits.{Limits}
use Rattle.file_table.specs.Site.{SeenSite}
use Rattle.conn_machine.specs.declared.event.Commanded.TheVariants.{Graceful}
use Rattle.conn_machine.specs.declared.event.Entry.{Entry}
use Rattle.conn_machine.specs.declared.event.Event.{Event}
use Rattle.conn_machine.specs.declared.event.Event.TheVariants as event
use Rattle.conn_machine.specs.declared.row.Row.{Row}
use Rattle.conn_machine.specs.declared.state.State.{State}
use Rattle.conn_machine.specs.Events.{begins_generation}
use Rattle.conn_machine.specs.Folds.{HaveBegun, fold_of, is_in_use}
use Rattle.conn_machine.specs.Rows.{is_live}
use Rattle.conn_machine.specs.Runs.{after}
use Rattle.conn_machine.specs.Sound.{IsSound}
use Rattle.conn_state.specs.Known.{KnownOutside, IsOfEdition}
use Rattle.board_book.specs.Book.{SeenBook, book_with_entry, folded_book}
use Rattle.board_book.specs.Editions.{KeepsEditions, edition_of, orders_in}

-- ## What a type knows

-- the generation has an edition, and the limits and the site are that edition's, where the type knows it
pub record HasItsEdition (k : KnownOutside) (b : SeenBook) (generation : ℕ) (limits : Limits)
    (site : SeenSite) : Type 0 where
  pub number : ℕ
  pub found : edition_of b generation ≡ Some number
  pub is_of : IfSome (k.edition number) (λ e. IsOfEdition e limits site)

-- the same where the type knows the outside
abbrev pub IsOfGeneration : Option KnownOutside → SeenBook → ℕ → Limits → SeenSite → Type 0
IsOfGeneration known b generation limits site =
    IfSome known (λ k. HasItsEdition k b generation limits site)

-- ## How books go on

-- generations keep their editions. A book whose history went on, behind the same base and record, has each edition that there was, so a
-- connection stays of its generation; and so it is wherever editions stay. A fold leaves each generation in use its edition, and what has
-- an edition behind a fold has it behind all the entries too. A new generation has the number of the order that began it, and no other
-- event changes what a generation has. The generation of a live connection is in use
pub record GenerationsKeepTheirEditions : Type 0 where
  pub goes_on : (known : Option KnownOutside) (old new : SeenBook) (more : List Entry)
      (generation : ℕ) (limits : Limits) (site : SeenSite)
      → IsOfGeneration known old generation limits site
      → new.base ≡ old.base
      → new.folded ≡ old.folded
      → new.history ≡ old.history ++ more
      → IsOfGeneration known new generation limits site
  pub keeps : (old new : SeenBook) (more : List Entry)
      → new.base ≡ old.base
      → new.folded ≡ old.folded
      → new.history ≡ old.history ++ more
      → KeepsEditions old new
  pub carried : (known : Option KnownOutside) (old new : SeenBook) (generation : ℕ)
      (limits : Limits) (site : SeenSite)
      → KeepsEditions old new
      → IsOfGeneration known old generation limits site
      → IsOfGeneration known new generation limits site
  pub folds : (b : SeenBook) (lines : List (List ℕ)) (generation : ℕ)
      → is_in_use (after b.base b.history) generation ≡ true
      → edition_of (folded_book lines b) generation ≡ edition_of b generation
  pub unfolded : (later whole : SeenBook) (history : List Entry) (lines : List (List ℕ))
      → HaveBegun whole.base whole.folded
      → later.base ≡ after whole.base history
      → later.folded ≡ fold_of whole.base history lines whole.folded
      → whole.history ≡ history ++ later.history
      → KeepsEditions later whole
  pub newest : (b : SeenBook) (who : ℕ) (shape : Shape)
      → HaveBegun b.base b.folded
      → after b.base b.history ≡ b.state
      → edition_of (book_with_entry who (event.Command (Graceful shape)) b) (b.state.newest + 1)
      ≡ Some (orders_in b + 1)
  pub others : (b : SeenBook) (who : ℕ) (e : Event) (generation : ℕ)
      → begins_generation e ≡ false
      → edition_of (book_with_entry who e b) generation ≡ edition_of b generation
  pub live : (s : State) (slot : ℕ) (r : Row)
      → IsSound s
      → slice_get s.rows slot ≡ Some r
      → is_live r ≡ true
      → is_in_use s r.generation ≡ true
