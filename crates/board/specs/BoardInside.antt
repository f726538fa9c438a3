-- What holds of every board, beside what is seen of it.
use Rattle.std.specs.Prelude.{◌≡◌, ℕ, ◌+◌, ◌≤◌, List, length, count_by, Option, vec_capacity}
use Rattle.conn_machine.specs.Rows.{is_live}
use Rattle.timeout_queues.specs.Waiting.{ParkedName}
use Rattle.conn_slots.specs.Slots.{Slot}
use Rattle.conn_state.specs.Conn.{SeenConn}
use Rattle.conn_state.specs.Known.{KnownOutside}
use Rattle.board.specs.declared.board.Parts.{Parts}
use Rattle.board.specs.BoardParts.{seen_board}
use Rattle.board.specs.QueuesInside.{queues_of}
use Rattle.board.specs.SlotsInside.{AreUsedAlike}
use Rattle.board.specs.Board.{Agrees, AreOfOutside, SeenBoard}

-- a board whose type knows this agrees with its history, its connections are of the outside, its slots are used as its rows are, its
-- timeout queues have the rows that wait, and each live connection finds room among those that ended
pub record IsBoard (known : Option KnownOutside) (b : SeenBoard)
    (slots : List (Slot (Option SeenConn))) (queues : List (Option ParkedName))
    (room : ℕ) : Type 0 where
  pub agrees : Agrees b
  pub outside : AreOfOutside known b
  pub used : AreUsedAlike slots b.book.state.rows
  pub queued : queues ≡ queues_of b.book.state.rows
  pub has_room : length b.ended + count_by is_live b.book.state.rows ≤ room

-- parts make such a board
abbrev pub AreParts : {L : Type 0} → Option KnownOutside → Parts L → Type 0
AreParts known p = IsBoard known (seen_board p) p.conns.slots p.queues (vec_capacity p.ended)
