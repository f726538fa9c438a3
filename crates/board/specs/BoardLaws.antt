-- The laws of a board's connections.
use Rattle.std.specs.Prelude.{◌≡◌, ◌<◌, ◌≤◌, ℕ, true, false, List, [], ◌∷◌, ◌++◌, length, count_by, Option}
use Rattle.std.specs.List.{list_any}
use Rattle.mpm_base.specs.Count.{greatest_count}
use Rattle.mpm_base.specs.declared.conn.Ask.{Ask}
use Rattle.mpm_base.specs.declared.note.Note.{Note}
use Rattle.mpm_base.specs.declared.shape.Shape.{Shape}
use Rattle.conn_machine.specs.declared.event.Entry.{Entry}
use Rattle.conn_machine.specs.declared.event.Event.TheVariants as event
use Rattle.conn_machine.specs.declared.state.State.{State}
use Rattle.conn_machine.specs.Arrivals.{closed_arrivals}
use Rattle.conn_machine.specs.Events.{count_events, is_close}
use Rattle.conn_machine.specs.Rows.{is_live}
use Rattle.conn_machine.specs.States.{opening_state}
use Rattle.conn_machine.specs.Runs.{Run, after}
use Rattle.conn_machine.specs.Table.{next}
use Rattle.conn_state.specs.Answered.{SeenEnded}
use Rattle.conn_state.specs.Conn.{SeenConn}
use Rattle.conn_state.specs.Known.{KnownOutside}
use Rattle.conn_state.specs.Turns.{TakesNote}
use Rattle.mpm_base.specs.Count.{NeverFalls, Rises}
use Rattle.mpm_base.specs.Link.{LinkCounts}
use Rattle.mpm_base.specs.declared.conn.Kind.{Kind}
use Rattle.mpm_base.specs.declared.conn.Kind.TheVariants.{Reading}
use Rattle.board.specs.Backed.{AllBacked, AreBacked, waits_to_read, waits_to_write}
use Rattle.board.specs.Board.{AreClosed, AreEnded, EndedOfOutside}
use Rattle.board_book.specs.Book.{SeenBook}
use Rattle.board_book.specs.Editions.{KeepsEditions}
use Rattle.board_book.specs.Decided.{IsDecided}
use Rattle.board.specs.Fits.{IsOf}
use Rattle.board.specs.Ranks.{AllTell, has_rank, ranks_of}

-- the links of the connections that ended, where they tell, are those of the connections that the
-- history closed
pub record EndedLinksAreOfClosedConnections : Type 0 where
  -- in the order of their closes
  pub ranks : (base : State) (history : List Entry) (ended : List SeenEnded)
      → AreClosed base history ended
      → AllTell ended
      → ranks_of ended ≡ closed_arrivals base history
  -- in a run from the opening state to one without a live connection, each number below how many
  -- were taken is the rank of exactly one of them
  pub once : (slots children : ℕ) (shape : Shape) (history : List Entry) (ended : List SeenEnded)
      (rank : ℕ)
      → Run (opening_state slots children shape) history
      → AreClosed (opening_state slots children shape) history ended
      → AllTell ended
      → list_any is_live (after (opening_state slots children shape) history).rows ≡ false
      → (after (opening_state slots children shape) history).accepted < greatest_count
      → rank < (after (opening_state slots children shape) history).accepted
      → count_by (has_rank rank) ended ≡ 1
  -- and no other number is the rank of any, while fewer were taken than the greatest count
  pub no_other : (slots children : ℕ) (shape : Shape) (history : List Entry)
      (ended : List SeenEnded) (rank : ℕ)
      → Run (opening_state slots children shape) history
      → AreClosed (opening_state slots children shape) history ended
      → AllTell ended
      → (after (opening_state slots children shape) history).accepted < greatest_count
      → (after (opening_state slots children shape) history).accepted ≤ rank
      → count_by (has_rank rank) ended ≡ 0

-- the connections that ended in one history, and behind them those of the next, are those of both
-- as one
pub record EndedConnectionsJoin : Type 0 where
  -- they are those that both histories closed
  pub closed : (base : State) (a b : List Entry) (ended ended' : List SeenEnded)
      → AreClosed base a ended
      → AreClosed (after base a) b ended'
      → AreClosed base (a ++ b) (ended ++ ended')
  -- each shows what an ended connection shows
  pub answered : (ended ended' : List SeenEnded)
      → AreEnded ended
      → AreEnded ended'
      → AreEnded (ended ++ ended')
  -- each is of the outside
  pub outside : (known : Option KnownOutside) (book : SeenBook) (ended ended' : List SeenEnded)
      → EndedOfOutside known book ended
      → EndedOfOutside known book ended'
      → EndedOfOutside known book (ended ++ ended')
  -- and stays so in a book that keeps the editions
  pub outside_stays : (known : Option KnownOutside) (old new : SeenBook) (ended : List SeenEnded)
      → KeepsEditions old new
      → EndedOfOutside known old ended
      → EndedOfOutside known new ended
  -- as many ended as the history closed
  pub many : (base : State) (history : List Entry) (ended : List SeenEnded)
      → AreClosed base history ended
      → length ended ≡ count_events is_close history

-- what backs waits: the calls of a link that were not ready
pub record WaitsAreBackedByCalls : Type 0 where
  -- no wait is backed less where neither count fell
  pub stay : (waits : List Kind) (old new : LinkCounts)
      → NeverFalls old.late_reads new.late_reads
      → NeverFalls old.late_writes new.late_writes
      → AreBacked waits old
      → AreBacked waits new
  -- a read that was not ready backs one more for something to read
  pub read : (waits : List Kind) (kind : Kind) (old new : LinkCounts)
      → waits_to_read kind ≡ true
      → Rises old.late_reads new.late_reads
      → NeverFalls old.late_writes new.late_writes
      → AreBacked waits old
      → AreBacked (waits ++ kind ∷ []) new
  -- a write that was not ready one more for room
  pub write : (waits : List Kind) (kind : Kind) (old new : LinkCounts)
      → waits_to_write kind ≡ true
      → NeverFalls old.late_reads new.late_reads
      → Rises old.late_writes new.late_writes
      → AreBacked waits old
      → AreBacked (waits ++ kind ∷ []) new
  -- and neither none, nor the first one for something to read, needs any
  pub none : (counts : LinkCounts) → AreBacked [] counts
  pub first : (counts : LinkCounts) → AreBacked (Reading ∷ []) counts

-- of each connection that ended in a run from the opening state the link backs its waits
abbrev pub EndedConnectionsAreBacked : Type 0
EndedConnectionsAreBacked =
    (slots children : ℕ) (shape : Shape) (history : List Entry) (ended : List SeenEnded)
    → Run (opening_state slots children shape) history
    → AreClosed (opening_state slots children shape) history ended
    → AllBacked history ended

-- a connection that took the note of the response that was decided for it still fits its row
abbrev pub AnsweredConnectionsFitTheirRows : Type 0
AnsweredConnectionsFitTheirRows =
    (s : State) (c c' : SeenConn) (ask : Ask) (note : Note)
    → IsOf s c
    → IsDecided s c.name ask note
    → TakesNote note c c'
    → IsOf (next s (event.Answer c.name ask)) c'
