-- A book may go to another thread.
use denote.Param.Send.{IsSend, sendable}
use Rattle.std.proofs.Crossing.{crosses}
use Rattle.board_book.specs.contracts.book.Book as Book
use Rattle.board_book.specs.contracts.filed.FiledState as Filed
use Rattle.board_book.proofs.ahead.Ahead.TheSendSync as ahead
use Rattle.board_book.proofs.editions.KnownEditions.TheSendSync as editions
use Rattle.board_book.proofs.filed.FiledState.TheSendSync as filed
use Rattle.conn_machine.proofs.folded.Folded.TheSendSync as folded
use Rattle.conn_machine.proofs.event.Entry.TheSendSync as entry

-- a search for the whole gives up, so each part is shown by one of its own
pub Filed-send : IsSend Filed.the_row
Filed-send = filed.the_send

pub Book-send : IsSend Book.the_row
Book-send = search (ahead.the_field_send, editions.the_field_send, Filed-send, folded.the_field_send, entry.the_field_send, sendable, crosses) depth 60 fits 20000
