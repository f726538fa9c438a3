-- The parts of a board may go to another thread.
use denote.RattleType.{RattleType}
use denote.Param.Send.{IsSend, sendable}
use Rattle.std.proofs.Crossing.{crosses}
use Rattle.board_book.proofs.SendLemmas.{Book-send}
use Rattle.mpm_base.specs.declared.link.Link as link
use Rattle.conn_state.specs.declared.known.Known as known
use Rattle.board.specs.contracts.board.Board as Board
use Rattle.board.specs.contracts.board.Board.TheInside as inside
use Rattle.board.specs.contracts.board.Parts as Parts
use Rattle.conn_state.specs.contracts.ended.Ended as Ended
use Rattle.conn_state.proofs.conn.Conn.TheSendSync as conn
use Rattle.conn_state.proofs.kept_notes.KeptNotes.TheSendSync as notes
use Rattle.conn_slots.proofs.Slots.TheSendSync as slots
use Rattle.timeout_queues.proofs.Queues.TheSendSync as queues

-- a search for the whole gives up, so each part is shown by one of its own
module _ (L : RattleType) (g : link.Ghosts L.Denot) where
  pub Ended-send : IsSend L → IsSend (Ended.the_row L g)
  Ended-send s = search (notes.the_send, sendable, crosses) depth 60 fits 20000

module _ (L N : RattleType) (g : link.Ghosts L.Denot) (k : known.Ghosts N.Denot) where
  pub Parts-send : IsSend L → IsSend (Parts.the_row L g)
  Parts-send s = search (Book-send, Ended-send, conn.the_send, slots.the_send, queues.the_send, sendable, crosses) depth 60 fits 20000

  pub Inside-send : IsSend L → IsSend N → IsSend (inside.the_row L N g k)
  Inside-send s t = search (Parts-send, sendable, crosses) depth 60 fits 20000

  pub Board-send : IsSend L → IsSend N → IsSend (Board.the_row L N g k)
  Board-send s t = search (Inside-send, sendable, crosses) depth 60 fits 20000
