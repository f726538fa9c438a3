-- What is seen of a board, and how its connections agree with its rows and its history.
use Rattle.std.specs.Prelude.{◌≡◌, ℕ, Bool, true, false, List, [], ◌∷◌, length, map, Option, None, Some, slice_get, slice_index_or, ⊤}
use Rattle.mpm_base.specs.Link.{LinkTold}
use Rattle.http_read.specs.declared.request.Limits.{Limits}
use Rattle.file_table.specs.Site.{SeenSite}
use Rattle.conn_machine.specs.declared.row.Place.{Place}
use Rattle.conn_machine.specs.declared.row.Place.TheVariants.{Vacant, Spent, Held, Parked, Queued, Working}
use Rattle.conn_machine.specs.declared.row.Row.{Row}
use Rattle.conn_machine.specs.declared.event.Event.{Event}
use Rattle.conn_machine.specs.declared.event.Event.TheVariants as event
use Rattle.conn_machine.specs.declared.event.Entry.{Entry}
use Rattle.conn_machine.specs.declared.state.State.{State}
use Rattle.conn_machine.specs.Rows.{is_parked}
use Rattle.conn_machine.specs.Table.{next}
use Rattle.conn_state.specs.Conn.{SeenConn}
use Rattle.conn_state.specs.Answered.{SeenEnded, IsEnded}
use Rattle.conn_state.specs.Known.{KnownOutside, IsOfClient}
use Rattle.board_book.specs.Book.{SeenBook, folded_book}
use Rattle.board.specs.Editions.{IsOfGeneration}
use Rattle.board.specs.ReportLine.{line_of}
use Rattle.board.specs.Fits.{Fits, IsSettled, IsClosing}

-- a board: its history and state, the connections that it has by their slots, and those that ended
pub record SeenBoard : Type 0 where
  pub book : SeenBook
  pub conns : List (Option SeenConn)
  pub ended : List SeenEnded

-- ## The connections that wait

-- the board has the connection of a row that waits for something to come
abbrev pub IsHeldHere : Place → Row → SeenConn → Type 0
IsHeldHere Vacant r c = ⊥
IsHeldHere Spent r c = ⊥
IsHeldHere Held r c = ⊥
IsHeldHere (Parked kind) r c = IsSettled kind r.cause c
IsHeldHere Queued r c = ⊥
IsHeldHere (Working cell phase) r c = ⊥

-- the connection is that of the slot's row, which waits, and is as one that waits so
pub record IsAtHome (slot : ℕ) (r : Row) (c : SeenConn) : Type 0 where
  pub name : c.name ≡ record { slot = slot; life = r.life }
  pub fits : Fits c r
  pub here : IsHeldHere r.place r c

-- the board has the connection of the slot's row exactly where the row waits
abbrev pub IsHome : ℕ → Row → Option SeenConn → Type 0
IsHome slot r None = is_parked r.place ≡ false
IsHome slot r (Some c) = IsAtHome slot r c

-- the connection of a slot
abbrev pub conn_at : List (Option SeenConn) → ℕ → Option SeenConn
conn_at conns slot = slice_index_or conns slot None

-- each row that waits has its one fitting connection, and there are no others
pub record AreHome (rows : List Row) (conns : List (Option SeenConn)) : Type 0 where
  pub slots : length conns ≡ length rows
  pub homes : (slot : ℕ) (r : Row)
      → slice_get rows slot ≡ Some r
      → IsHome slot r (conn_at conns slot)

-- ## The connections that ended

-- the first of the connections that ended is the one that the event closes, where it closes one; the others come later
abbrev pub ClosesFirst : State → Event → (List SeenEnded → Type 0) → List SeenEnded → Type 0
ClosesFirst s (event.Close name why how) Others [] = ⊥
ClosesFirst s (event.Close name why how) Others (e ∷ ended) =
    IsClosing s name why how e × Others ended
ClosesFirst s other Others ended = Others ended

-- the connections that ended are those that the entries close, in their order
abbrev pub AreClosed : State → List Entry → List SeenEnded → Type 0
AreClosed s [] ended = ended ≡ []
AreClosed s (entry ∷ entries) ended =
    ClosesFirst s entry.event (AreClosed (next s entry.event) entries) ended

-- each of them shows what an ended connection shows
abbrev pub AreEnded : List SeenEnded → Type 0
AreEnded [] = ⊤
AreEnded (e ∷ ended) = IsEnded e × AreEnded ended

-- ## Agreement

-- a board agrees with its history
pub record Agrees (b : SeenBoard) : Type 0 where
  pub waiting : AreHome b.book.state.rows b.conns
  pub closed : AreClosed b.book.base b.book.history b.ended
  pub answered : AreEnded b.ended

-- ## Folds

-- the board that a fold leaves: nothing of the history and of the connections that ended is kept but by the record; all else stays
abbrev pub folded_board : SeenBoard → SeenBoard
folded_board b = record b { book = folded_book (map line_of b.ended) b.book; ended = [] }

-- ## The outside

-- where the type knows the outside, the link is that of one of the clients, and the limits and the site are those of the edition of the
-- generation
pub record IsOfOutside (known : Option KnownOutside) (b : SeenBook) (told : Option LinkTold)
    (generation : ℕ) (limits : Limits) (site : SeenSite) : Type 0 where
  pub client : IsOfClient known told
  pub edition : IsOfGeneration known b generation limits site

-- so it is of each connection that the board has
abbrev pub WaitOfOutside : Option KnownOutside → SeenBook → List (Option SeenConn) → Type 0
WaitOfOutside known b conns =
    (slot : ℕ) (c : SeenConn)
    → conn_at conns slot ≡ Some c
    → IsOfOutside known b c.told c.generation c.reader.limits c.site

-- and of each connection that ended
abbrev pub EndedOfOutside : Option KnownOutside → SeenBook → List SeenEnded → Type 0
EndedOfOutside known b [] = ⊤
EndedOfOutside known b (e ∷ ended) =
    IsOfOutside known b e.told e.generation e.limits e.site × EndedOfOutside known b ended

-- the same of those that a board has, and of those that ended
pub record AreOfOutside (known : Option KnownOutside) (b : SeenBoard) : Type 0 where
  pub conns : WaitOfOutside known b.book b.conns
  pub ended : EndedOfOutside known b.book b.ended
