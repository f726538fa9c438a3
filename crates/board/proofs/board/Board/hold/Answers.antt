use Rattle.std.proofs.Common.{◌≡◌, None, length, slice_set, vec_capacity, subst, sym, ap, ◌∙◌, refl}
use Rattle.conn_machine.specs.declared.event.Event.TheVariants as event
use Rattle.conn_machine.specs.States.{is_signalled}
use Rattle.conn_machine.specs.Table.{may_be_held}
use Rattle.conn_state.specs.Conn.{SeenConn}
use Rattle.board_book.specs.Book.{SeenBook}
use Rattle.board.specs.Editions.{IsOfGeneration}
use Rattle.board_book.specs.Finds.{cause_of}
use Rattle.board.specs.Fits.{IsOnItsWay, IsTakenUp}
use Rattle.board.specs.Board.{SeenBoard}
use Rattle.board.specs.Layout.{conns_in}
use Rattle.board.specs.BoardInside.{AreParts}
use Rattle.board.specs.BoardParts.{seen_board}
use Rattle.board.proofs.BoardLemmas.{may_inside, there_of}
use Rattle.board.proofs.ClientLemmas.{clients_taken}
use Rattle.board.proofs.ClosedLemmas.{board_on}
use Rattle.board.proofs.CarriedLemmas.{generation_carried}
use Rattle.board.proofs.EventLemmas.{hold-there}
use Rattle.board.proofs.HandLemmas.{given_is, hold-given, hold-unparked, hold-way}
use Rattle.board.proofs.PassLemmas.{adds_inside}
use Rattle.board.proofs.UseLemmas.{conns-with, hold-used, live-item, written-used}
use Rattle.board.proofs.board.Board.hold.Goals as goal

pub take_out-requires-clause-there : goal.take_out-requires-clause-there
take_out-requires-clause-there g c =
    let inside = c.deref_mut-parts.result.now in
    let invariant : AreParts g.N.Known.known inside =
    rw c.deref_mut-parts.ensures.value c.self.invariant in
    let view_is : seen_board inside ≡ c.args.self.now =
    rw c.deref_mut-parts.ensures.value c.self.view_is in
    let may = may_inside _ c.args.self.now (event.Hold c.args.name) view_is c.requires.allowed in
    let given = hold-given c.rows_change_one_at_a_time.ensures inside.book.state c.args.name (conns_in inside.conns.slots) c.show.ensures.sound may invariant.agrees.waiting in
    (given.conn, given.has)

pub invariant_of-self : goal.invariant_of-self
invariant_of-self g c =
    let inside = c.deref_mut-parts.result.now in
    let invariant : AreParts g.N.Known.known inside =
    rw c.deref_mut-parts.ensures.value c.self.invariant in
    let view_is : seen_board inside ≡ c.args.self.now =
    rw c.deref_mut-parts.ensures.value c.self.view_is in
    let may = may_inside _ c.args.self.now (event.Hold c.args.name) view_is c.requires.allowed in
    let slots = inside.conns.slots in
    let conns = conns_in slots in
    let ended = inside.ended.items in
    let room = vec_capacity inside.ended in
    let unparked = hold-unparked inside.book.state c.args.name inside.queues c.unpark.new.self c.unpark.result may invariant.queued
    c.unpark.ensures.found c.unpark.ensures.unparked in
    rw (c.record_sure.ensures.is, c.take_out.ensures.emptied, unparked)
    (board_on _ inside.book slots _ _ ended inside.queues _ room room c.args.who (event.Hold c.args.name) invariant c.record_sure.ensures.keeps (λ s. refl)
    (hold-there c.rows_change_one_at_a_time.ensures inside.book.state c.args.name conns inside.queues (length ended) room may (there_of _ inside.book slots ended inside.queues room invariant))
    (clients_taken _ inside.book conns c.args.name.slot invariant.outside.conns) (conns-with slots c.args.name None)
    (written-used slots inside.book.state.rows c.args.name None (may_be_held inside.book.state (is_signalled inside.book.state c.args.name.slot)) invariant.used may
    ∙ sym (hold-used inside.book.state c.args.name may)))

pub returns-clause-name : goal.returns-clause-name
returns-clause-name g c =
    let inside = c.deref_mut-parts.result.now in
    let invariant : AreParts g.N.Known.known inside =
    rw c.deref_mut-parts.ensures.value c.self.invariant in
    let view_is : seen_board inside ≡ c.args.self.now =
    rw c.deref_mut-parts.ensures.value c.self.view_is in
    let may = may_inside _ c.args.self.now (event.Hold c.args.name) view_is c.requires.allowed in
    let given = hold-given c.rows_change_one_at_a_time.ensures inside.book.state c.args.name (conns_in inside.conns.slots) c.show.ensures.sound may invariant.agrees.waiting in
    let same = given_is _ _ (conns_in inside.conns.slots) c.args.name c.take_out.result given c.take_out.ensures.conn in
    ap (λ (x : SeenConn). x.name) (sym same) ∙ given.name_is

pub returns-clause-handed : goal.returns-clause-handed
returns-clause-handed g c =
    let inside = c.deref_mut-parts.result.now in
    let invariant : AreParts g.N.Known.known inside =
    rw c.deref_mut-parts.ensures.value c.self.invariant in
    let view_is : seen_board inside ≡ c.args.self.now =
    rw c.deref_mut-parts.ensures.value c.self.view_is in
    let may = may_inside _ c.args.self.now (event.Hold c.args.name) view_is c.requires.allowed in
    let given = hold-given c.rows_change_one_at_a_time.ensures inside.book.state c.args.name (conns_in inside.conns.slots) c.show.ensures.sound may invariant.agrees.waiting in
    let same = given_is _ _ (conns_in inside.conns.slots) c.args.name c.take_out.result given c.take_out.ensures.conn in
    subst (λ (b : SeenBook). IsTakenUp b.state c.take_out.result) (sym c.record_sure.ensures.is)
    (subst (IsTakenUp _) same given.handed)

pub returns-clause-way : goal.returns-clause-way
returns-clause-way g c =
    let inside = c.deref_mut-parts.result.now in
    let invariant : AreParts g.N.Known.known inside =
    rw c.deref_mut-parts.ensures.value c.self.invariant in
    let view_is : seen_board inside ≡ c.args.self.now =
    rw c.deref_mut-parts.ensures.value c.self.view_is in
    let may = may_inside _ c.args.self.now (event.Hold c.args.name) view_is c.requires.allowed in
    subst (λ (v : SeenBoard). IsOnItsWay (cause_of v.book.state c.args.name) c.take_out.result) view_is
    (hold-way inside.book.state c.args.name (conns_in inside.conns.slots) c.take_out.result may invariant.agrees.waiting c.take_out.ensures.conn)

pub returns-clause-entries : goal.returns-clause-entries
returns-clause-entries g c =
    let inside = c.deref_mut-parts.result.now in
    let view_is : seen_board inside ≡ c.args.self.now =
    rw c.deref_mut-parts.ensures.value c.self.view_is in
    adds_inside c.args.who _ c.args.self.now _ view_is c.record_sure.ensures.entries

pub take_out-requires-clause-client : goal.take_out-requires-clause-client
take_out-requires-clause-client g c =
    let inside = c.deref_mut-parts.result.now in
    let invariant : AreParts g.N.Known.known inside =
    rw c.deref_mut-parts.ensures.value c.self.invariant in
    λ conn at. (invariant.outside.conns c.args.name.slot conn at).client

pub take_out-requires-clause-live : goal.take_out-requires-clause-live
take_out-requires-clause-live g c =
    let inside = c.deref_mut-parts.result.now in
    let invariant : AreParts g.N.Known.known inside =
    rw c.deref_mut-parts.ensures.value c.self.invariant in
    let view_is : seen_board inside ≡ c.args.self.now =
    rw c.deref_mut-parts.ensures.value c.self.view_is in
    let s = inside.book.state in
    live-item inside.conns.slots s.rows c.args.name (may_be_held s (is_signalled s c.args.name.slot)) invariant.used
    (may_inside _ c.args.self.now (event.Hold c.args.name) view_is c.requires.allowed)

pub returns-clause-is : goal.returns-clause-is
returns-clause-is g c =
    let inside = c.deref_mut-parts.result.now in
    let view_is : seen_board inside ≡ c.args.self.now =
    rw c.deref_mut-parts.ensures.value c.self.view_is in
    let slots = inside.conns.slots in
    let conns : conns_in c.take_out.new.conns.slots ≡ slice_set (conns_in slots) c.args.name.slot None =
    ap conns_in c.take_out.ensures.emptied ∙ conns-with slots c.args.name None in
    rw (conns, c.record_sure.ensures.is, ← view_is) refl

pub returns-clause-edition : goal.returns-clause-edition
returns-clause-edition g c =
    let inside = c.deref_mut-parts.result.now in
    let invariant : AreParts g.N.Known.known inside =
    rw c.deref_mut-parts.ensures.value c.self.invariant in
    let conn = c.take_out.result in
    let was = invariant.outside.conns c.args.name.slot conn c.take_out.ensures.conn in
    subst (λ (b : SeenBook). IsOfGeneration g.N.Known.known b conn.generation conn.reader.limits conn.site) (sym c.record_sure.ensures.is)
    (generation_carried _ inside.book _ conn.generation conn.reader.limits conn.site (c.record_sure.ensures.keeps conn.generation) was.edition)
