use Rattle.std.proofs.Common.{◌≡◌, ◌++◌, ◌∷◌, [], ◌<◌, true, List, Option, length, OnSome, vec_capacity, subst, sym, ap, ◌∙◌, rules}
use Rattle.conn_machine.specs.declared.event.Event.TheVariants as event
use Rattle.conn_machine.specs.Runs.{has_row}
use Rattle.conn_slots.specs.Slots.{item_of, without_item}
use Rattle.conn_state.specs.Answered.{SeenEnded}
use Rattle.conn_state.specs.Conn.{SeenConn}
use Rattle.board.specs.Events.{with_recorded}
use Rattle.board_book.specs.Book.{book_with_entry, row_in}
use Rattle.board_book.specs.Editions.{KeepsEditions}
use Rattle.board.specs.Editions.{IsOfGeneration}
use Rattle.board.specs.Fits.{IsClosing}
use Rattle.board.specs.Board.{SeenBoard}
use Rattle.board.specs.BoardInside.{AreParts, IsBoard}
use Rattle.board.specs.Layout.{conns_in}
use Rattle.board.specs.BoardParts.{seen_board}
use Rattle.board.proofs.BoardLemmas.{may_inside, there_of}
use Rattle.board.proofs.ClosedLemmas.{board_closed}
use Rattle.board.proofs.EventLemmas.{close-away, close-there, close-room}
use Rattle.board.proofs.PassLemmas.{adds_inside, has_inside}
use Rattle.board.proofs.UseLemmas.{close-live, close-used, conns-left, left-slots}
use Rattle.board.proofs.board.Board.close.Goals as goal

pub unreachable-requires : goal.unreachable-requires
unreachable-requires g c =
    let inside = c.deref_mut-parts.result.now in
    let invariant : AreParts g.N.Known.known inside =
    rw c.deref_mut-parts.ensures.value c.self.invariant in
    let view_is : seen_board inside ≡ c.args.self.now =
    rw c.deref_mut-parts.ensures.value c.self.view_is in
    let ended = inside.ended.items in
    let e = c.args.ended in
    let may = may_inside _ c.args.self.now (event.Close e.name e.cause e.tail) view_is c.requires.allowed in
    let room : length ended < vec_capacity inside.ended =
    close-room inside.book.state e.name e.cause e.tail (conns_in inside.conns.slots) inside.queues (length ended) (vec_capacity inside.ended) may
    (there_of _ inside.book inside.conns.slots ended inside.queues (vec_capacity inside.ended) invariant) in
    search rules

pub invariant_of-self : goal.invariant_of-self
invariant_of-self g c =
    let inside = c.deref_mut-parts.result.now in
    let invariant : AreParts g.N.Known.known inside =
    rw c.deref_mut-parts.ensures.value c.self.invariant in
    let view_is : seen_board inside ≡ c.args.self.now =
    rw c.deref_mut-parts.ensures.value c.self.view_is in
    let slots = inside.conns.slots in
    let conns = conns_in slots in
    let ended = inside.ended.items in
    let room = vec_capacity inside.ended in
    let e = c.args.ended in
    let may = may_inside _ c.args.self.now (event.Close e.name e.cause e.tail) view_is c.requires.allowed in
    let closing : IsClosing inside.book.state e.name e.cause e.tail e =
    subst (λ (v : SeenBoard). IsClosing v.book.state e.name e.cause e.tail e) (sym view_is) c.requires.fits in
    let more : c.push.new.self.items ≡ ended ++ e ∷ [] = search rules in
    let left : c.take.new.self.slots ≡ without_item slots e.name =
    left-slots slots c.take.new.self.slots e.name c.take.result (close-live inside.book.state slots e.name e.cause e.tail may invariant.used)
    (subst (λ (v : SeenEnded). c.take.result ≡ item_of slots v.name) c.ended.view_is c.take.ensures.item)
    (subst (λ (v : SeenEnded). OnSome c.take.result (c.take.new.self.slots ≡ without_item slots v.name)) c.ended.view_is c.take.ensures.emptied) in
    let keeps : KeepsEditions inside.book (book_with_entry c.args.who (event.Close e.name e.cause e.tail) inside.book) =
    subst (λ (v : SeenEnded). KeepsEditions inside.book (book_with_entry c.args.who (event.Close v.name v.cause v.tail) inside.book)) c.ended.view_is
    c.record_sure.ensures.keeps in
    let edition : IsOfGeneration g.N.Known.known inside.book e.generation e.limits e.site =
    subst (λ (v : SeenBoard). IsOfGeneration g.N.Known.known v.book e.generation e.limits e.site) (sym view_is) c.requires.edition in
    rw (c.record_sure.ensures.is, more)
    (subst (λ (v : SeenEnded). IsBoard _ (record { book = book_with_entry c.args.who (event.Close v.name v.cause v.tail) inside.book; conns = conns_in c.take.new.self.slots; ended = ended ++ e ∷ [] }) c.take.new.self.slots inside.queues (vec_capacity c.push.new.self))
    (sym c.ended.view_is)
    (board_closed _ inside.book slots c.take.new.self.slots ended e inside.queues room (vec_capacity c.push.new.self) c.args.who invariant keeps c.show.ensures.state closing c.requires.answered c.requires.client edition
    (close-there c.rows_change_one_at_a_time.ensures inside.book.state e.name e.cause e.tail conns inside.queues (length ended) room (vec_capacity c.push.new.self) may
    (there_of _ inside.book slots ended inside.queues room invariant) c.push.ensures.capacity)
    (ap conns_in left ∙ conns-left slots e.name (close-away inside.book.state e.name e.cause e.tail conns may invariant.agrees.waiting))
    (rw left (close-used inside.book.state slots e.name e.cause e.tail may invariant.used))))

pub record_sure-requires-clause-role : goal.record_sure-requires-clause-role
record_sure-requires-clause-role g c =
    let inside = c.deref_mut-parts.result.now in
    let view_is : seen_board inside ≡ c.args.self.now =
    rw c.deref_mut-parts.ensures.value c.self.view_is in
    subst (λ (v : SeenEnded). has_row (row_in c.args.who inside.book) v.name ≡ true) (sym c.ended.view_is)
    (has_inside c.args.who _ c.args.self.now c.args.ended.name view_is c.requires.row)

pub returns-clause-entries : goal.returns-clause-entries
returns-clause-entries g c =
    let inside = c.deref_mut-parts.result.now in
    let view_is : seen_board inside ≡ c.args.self.now =
    rw c.deref_mut-parts.ensures.value c.self.view_is in
    adds_inside c.args.who _ c.args.self.now _ view_is c.record_sure.ensures.entries

pub returns-clause-is : goal.returns-clause-is
returns-clause-is g c =
    let inside = c.deref_mut-parts.result.now in
    let invariant : AreParts g.N.Known.known inside =
    rw c.deref_mut-parts.ensures.value c.self.invariant in
    let view_is : seen_board inside ≡ c.args.self.now =
    rw c.deref_mut-parts.ensures.value c.self.view_is in
    let slots = inside.conns.slots in
    let e = c.args.ended in
    let may = may_inside _ c.args.self.now (event.Close e.name e.cause e.tail) view_is c.requires.allowed in
    let left : c.take.new.self.slots ≡ without_item slots e.name =
    left-slots slots c.take.new.self.slots e.name c.take.result (close-live inside.book.state slots e.name e.cause e.tail may invariant.used)
    (subst (λ (v : SeenEnded). c.take.result ≡ item_of slots v.name) c.ended.view_is c.take.ensures.item)
    (subst (λ (v : SeenEnded). OnSome c.take.result (c.take.new.self.slots ≡ without_item slots v.name)) c.ended.view_is c.take.ensures.emptied) in
    let same : conns_in c.take.new.self.slots ≡ conns_in slots =
    ap conns_in left ∙ conns-left slots e.name (close-away inside.book.state e.name e.cause e.tail (conns_in slots) may invariant.agrees.waiting) in
    let ended : SeenBoard = record (with_recorded c.args.who (event.Close e.name e.cause e.tail) c.args.self.now) { ended = c.args.self.now.ended ++ e ∷ [] } in
    let is : record { book = c.record_sure.new.self; conns = conns_in slots; ended = c.push.new.self.items } ≡ ended = search rules in
    subst (λ (conns : List (Option SeenConn)). (let b : SeenBoard = record { book = c.record_sure.new.self; conns = conns; ended = c.push.new.self.items } in b) ≡ ended) (sym same) is
