use Rattle.std.proofs.Common.{◌≡◌, None, length, slice_set, vec_capacity, subst, sym, ap, ◌∙◌, refl}
use Rattle.conn_machine.specs.declared.event.Event.TheVariants as event
use Rattle.conn_machine.specs.Table.{may_be_queued}
use Rattle.conn_state.specs.Conn.{SeenConn}
use Rattle.board_book.specs.Book.{SeenBook}
use Rattle.board.specs.Editions.{IsOfGeneration}
use Rattle.board.specs.Fits.{IsTakenUp}
use Rattle.board.specs.Board.{SeenBoard}
use Rattle.board.specs.Layout.{conns_in}
use Rattle.board.specs.BoardInside.{AreParts}
use Rattle.board.specs.BoardParts.{seen_board}
use Rattle.board.proofs.BoardLemmas.{may_while, there_of}
use Rattle.board.proofs.ClientLemmas.{clients_taken}
use Rattle.board.proofs.ClosedLemmas.{board_on}
use Rattle.board.proofs.CarriedLemmas.{generation_carried}
use Rattle.board.proofs.EventLemmas.{queue-there}
use Rattle.board.proofs.HandLemmas.{given_is, queue-given, queue-open, queue-unparked}
use Rattle.board.proofs.PassLemmas.{adds_inside}
use Rattle.board.proofs.UseLemmas.{conns-with, live-item, queue-lives, queue-used, written-used}
use Rattle.board.proofs.board.Board.queue.Goals as goal

pub record-requires-clause-allowed : goal.record-requires-clause-allowed
record-requires-clause-allowed g c =
    let inside = c.deref_mut-parts.result.now in
    let view_is : seen_board inside ≡ c.args.self.now =
    rw c.deref_mut-parts.ensures.value c.self.view_is in
    may_while _ c.args.self.now (event.Queue c.args.name) view_is c.requires.allowed

pub take_out-requires-clause-there : goal.take_out-requires-clause-there
take_out-requires-clause-there g c =
    let inside = c.deref_mut-parts.result.now in
    let invariant : AreParts g.N.Known.known inside =
    rw c.deref_mut-parts.ensures.value c.self.invariant in
    let view_is : seen_board inside ≡ c.args.self.now =
    rw c.deref_mut-parts.ensures.value c.self.view_is in
    let may = may_while _ c.args.self.now (event.Queue c.args.name) view_is c.requires.allowed c.in_ok-record.ensures.ok.was_open.going in
    let given = queue-given c.rows_change_one_at_a_time.ensures inside.book.state c.args.name (conns_in inside.conns.slots) c.show.ensures.sound may invariant.agrees.waiting in
    (given.conn, given.has)

pub invariant_of-self-2 : goal.invariant_of-self-2
invariant_of-self-2 g c =
    let inside = c.deref_mut-parts.result.now in
    let invariant : AreParts g.N.Known.known inside =
    rw c.deref_mut-parts.ensures.value c.self.invariant in
    let view_is : seen_board inside ≡ c.args.self.now =
    rw c.deref_mut-parts.ensures.value c.self.view_is in
    let slots = inside.conns.slots in
    let conns = conns_in slots in
    let ended = inside.ended.items in
    let room = vec_capacity inside.ended in
    let may = may_while _ c.args.self.now (event.Queue c.args.name) view_is c.requires.allowed c.in_ok-record.ensures.ok.was_open.going in
    let unparked = queue-unparked inside.book.state c.args.name inside.queues c.unpark.new.self c.unpark.result may invariant.queued
    c.unpark.ensures.found c.unpark.ensures.unparked in
    rw (c.in_ok-record.ensures.ok.new_is, c.take_out.ensures.emptied, unparked)
    (board_on _ inside.book slots _ _ ended inside.queues _ room room c.args.who (event.Queue c.args.name) invariant c.in_ok-record.ensures.ok.keeps (λ s. refl)
    (queue-there c.rows_change_one_at_a_time.ensures inside.book.state c.args.name conns inside.queues (length ended) room may (there_of _ inside.book slots ended inside.queues room invariant))
    (clients_taken _ inside.book conns c.args.name.slot invariant.outside.conns) (conns-with slots c.args.name None)
    (written-used slots inside.book.state.rows c.args.name None (may_be_queued inside.book.state) invariant.used (queue-lives inside.book.state c.args.name may)
    ∙ sym (queue-used inside.book.state c.args.name may)))

pub returns-clause-name : goal.returns-clause-name
returns-clause-name g c =
    let inside = c.deref_mut-parts.result.now in
    let invariant : AreParts g.N.Known.known inside =
    rw c.deref_mut-parts.ensures.value c.self.invariant in
    let view_is : seen_board inside ≡ c.args.self.now =
    rw c.deref_mut-parts.ensures.value c.self.view_is in
    let may = may_while _ c.args.self.now (event.Queue c.args.name) view_is c.requires.allowed c.in_ok-record.ensures.ok.was_open.going in
    let given = queue-given c.rows_change_one_at_a_time.ensures inside.book.state c.args.name (conns_in inside.conns.slots) c.show.ensures.sound may invariant.agrees.waiting in
    let same = given_is _ _ (conns_in inside.conns.slots) c.args.name c.take_out.result given c.take_out.ensures.conn in
    ap (λ (x : SeenConn). x.name) (sym same) ∙ given.name_is

pub returns-clause-handed : goal.returns-clause-handed
returns-clause-handed g c =
    let inside = c.deref_mut-parts.result.now in
    let invariant : AreParts g.N.Known.known inside =
    rw c.deref_mut-parts.ensures.value c.self.invariant in
    let view_is : seen_board inside ≡ c.args.self.now =
    rw c.deref_mut-parts.ensures.value c.self.view_is in
    let may = may_while _ c.args.self.now (event.Queue c.args.name) view_is c.requires.allowed c.in_ok-record.ensures.ok.was_open.going in
    let given = queue-given c.rows_change_one_at_a_time.ensures inside.book.state c.args.name (conns_in inside.conns.slots) c.show.ensures.sound may invariant.agrees.waiting in
    let same = given_is _ _ (conns_in inside.conns.slots) c.args.name c.take_out.result given c.take_out.ensures.conn in
    subst (λ (b : SeenBook). IsTakenUp b.state c.take_out.result) (sym c.in_ok-record.ensures.ok.new_is)
    (subst (IsTakenUp _) same given.handed)

pub returns-clause-stays_open : goal.returns-clause-stays_open
returns-clause-stays_open g c =
    let inside = c.deref_mut-parts.result.now in
    let invariant : AreParts g.N.Known.known inside =
    rw c.deref_mut-parts.ensures.value c.self.invariant in
    let view_is : seen_board inside ≡ c.args.self.now =
    rw c.deref_mut-parts.ensures.value c.self.view_is in
    let may = may_while _ c.args.self.now (event.Queue c.args.name) view_is c.requires.allowed c.in_ok-record.ensures.ok.was_open.going in
    queue-open inside.book.state c.args.name (conns_in inside.conns.slots) c.take_out.result may invariant.agrees.waiting c.take_out.ensures.conn

pub returns-clause-entries : goal.returns-clause-entries
returns-clause-entries g c =
    let inside = c.deref_mut-parts.result.now in
    let view_is : seen_board inside ≡ c.args.self.now =
    rw c.deref_mut-parts.ensures.value c.self.view_is in
    adds_inside c.args.who _ c.args.self.now _ view_is c.record.ensures.entries

pub take_out-requires-clause-client : goal.take_out-requires-clause-client
take_out-requires-clause-client g c =
    let inside = c.deref_mut-parts.result.now in
    let invariant : AreParts g.N.Known.known inside =
    rw c.deref_mut-parts.ensures.value c.self.invariant in
    λ conn at. (invariant.outside.conns c.args.name.slot conn at).client

pub take_out-requires-clause-live : goal.take_out-requires-clause-live
take_out-requires-clause-live g c =
    let inside = c.deref_mut-parts.result.now in
    let invariant : AreParts g.N.Known.known inside =
    rw c.deref_mut-parts.ensures.value c.self.invariant in
    let view_is : seen_board inside ≡ c.args.self.now =
    rw c.deref_mut-parts.ensures.value c.self.view_is in
    let s = inside.book.state in
    let may = may_while _ c.args.self.now (event.Queue c.args.name) view_is c.requires.allowed c.in_ok-record.ensures.ok.was_open.going in
    live-item inside.conns.slots s.rows c.args.name (may_be_queued s) invariant.used (queue-lives s c.args.name may)

pub returns-clause-emptied : goal.returns-clause-emptied
returns-clause-emptied g c =
    let inside = c.deref_mut-parts.result.now in
    let view_is : seen_board inside ≡ c.args.self.now =
    rw c.deref_mut-parts.ensures.value c.self.view_is in
    let slots = inside.conns.slots in
    ap conns_in c.take_out.ensures.emptied
    ∙ conns-with slots c.args.name None
    ∙ ap (λ (b : SeenBoard). slice_set b.conns c.args.name.slot None) view_is

pub returns-clause-edition : goal.returns-clause-edition
returns-clause-edition g c =
    let inside = c.deref_mut-parts.result.now in
    let invariant : AreParts g.N.Known.known inside =
    rw c.deref_mut-parts.ensures.value c.self.invariant in
    let ok = c.in_ok-record.ensures.ok in
    let conn = c.take_out.result in
    let was = invariant.outside.conns c.args.name.slot conn c.take_out.ensures.conn in
    subst (λ (b : SeenBook). IsOfGeneration g.N.Known.known b conn.generation conn.reader.limits conn.site) (sym ok.new_is)
    (generation_carried _ inside.book _ conn.generation conn.reader.limits conn.site (ok.keeps conn.generation) was.edition)
