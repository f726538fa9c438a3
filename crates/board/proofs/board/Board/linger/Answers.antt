use Rattle.std.proofs.Common.{◌≡◌, true, Some, is_some, length, slice_set, vec_capacity, subst, sym, ap, ◌∙◌, refl, rules}
use Rattle.mpm_base.specs.declared.conn.ConnName.{ConnName}
use Rattle.conn_machine.specs.Rows.{live_row}
use Rattle.conn_machine.specs.Runs.{has_row}
use Rattle.board_book.specs.Book.{row_in}
use Rattle.conn_machine.specs.Table.{is_allowed, next, lingering_row}
use Rattle.conn_machine.specs.declared.event.Event.TheVariants as event
use Rattle.conn_machine.specs.States.{is_signalled}
use Rattle.conn_state.specs.Conn.{lingers}
use Rattle.board.specs.Board.{SeenBoard}
use Rattle.board.specs.Editions.{IsOfGeneration}
use Rattle.board.specs.Fits.{LingersFor}
use Rattle.board.specs.Layout.{conns_in}
use Rattle.board.specs.QueuesInside.{waits_in, waits_under}
use Rattle.board.specs.BoardInside.{AreParts}
use Rattle.board.specs.BoardParts.{seen_board}
use Rattle.board.proofs.BoardLemmas.{may_inside, there_of}
use Rattle.board.proofs.ClientLemmas.{clients_put}
use Rattle.board.proofs.ClosedLemmas.{board_on}
use Rattle.board.proofs.EventLemmas.{linger-there}
use Rattle.board.proofs.HandLemmas.{linger-free, linger-parked}
use Rattle.board.proofs.PassLemmas.{adds_inside, has_inside}
use Rattle.board.proofs.UseLemmas.{conns-with, linger-used, live-item, is_fit_to_linger, written-used}
use Rattle.board.proofs.board.Board.linger.Goals as goal

pub put_back-requires : goal.put_back-requires
put_back-requires g c =
    let inside = c.deref_mut-parts.result.now in
    let invariant : AreParts g.N.Known.known inside =
    rw c.deref_mut-parts.ensures.value c.self.invariant in
    let view_is : seen_board inside ≡ c.args.self.now =
    rw c.deref_mut-parts.ensures.value c.self.view_is in
    let s = inside.book.state in
    let name = c.name-name.result in
    let may : is_allowed s (event.Linger name c.args.cause) ≡ true =
    subst (λ (n : ConnName). is_allowed s (event.Linger n c.args.cause) ≡ true) (sym c.name-name.ensures)
    (may_inside _ c.args.self.now (event.Linger c.args.conn.name c.args.cause) view_is c.requires.allowed) in
    live-item inside.conns.slots s.rows name (is_fit_to_linger s c.args.cause (is_signalled s name.slot)) invariant.used may

pub record_sure-requires-clause-allowed : goal.record_sure-requires-clause-allowed
record_sure-requires-clause-allowed g c =
    let inside = c.deref_mut-parts.result.now in
    let view_is : seen_board inside ≡ c.args.self.now =
    rw c.deref_mut-parts.ensures.value c.self.view_is in
    subst (λ (n : ConnName). is_allowed inside.book.state (event.Linger n c.args.cause) ≡ true) (sym c.name-name.ensures)
    (may_inside _ c.args.self.now (event.Linger c.args.conn.name c.args.cause) view_is c.requires.allowed)

pub record_sure-requires-clause-role : goal.record_sure-requires-clause-role
record_sure-requires-clause-role g c =
    let inside = c.deref_mut-parts.result.now in
    let view_is : seen_board inside ≡ c.args.self.now =
    rw c.deref_mut-parts.ensures.value c.self.view_is in
    subst (λ (n : ConnName). has_row (row_in c.args.who inside.book) n ≡ true) (sym c.name-name.ensures)
    (has_inside c.args.who _ c.args.self.now c.args.conn.name view_is c.requires.row)

pub wait_in_queue-requires-clause-free : goal.wait_in_queue-requires-clause-free
wait_in_queue-requires-clause-free g c =
    let inside = c.deref_mut-parts.result.now in
    let invariant : AreParts g.N.Known.known inside =
    rw c.deref_mut-parts.ensures.value c.self.invariant in
    let view_is : seen_board inside ≡ c.args.self.now =
    rw c.deref_mut-parts.ensures.value c.self.view_is in
    let may : is_allowed inside.book.state (event.Linger c.name-name.result c.args.cause) ≡ true =
    subst (λ (n : ConnName). is_allowed inside.book.state (event.Linger n c.args.cause) ≡ true) (sym c.name-name.ensures)
    (may_inside _ c.args.self.now (event.Linger c.args.conn.name c.args.cause) view_is c.requires.allowed) in
    linger-free inside.book.state c.name-name.result c.args.cause inside.queues may invariant.queued

pub wait_in_queue-requires-clause-waits : goal.wait_in_queue-requires-clause-waits
wait_in_queue-requires-clause-waits g c =
    let inside = c.deref_mut-parts.result.now in
    let view_is : seen_board inside ≡ c.args.self.now =
    rw c.deref_mut-parts.ensures.value c.self.view_is in
    let name = c.name-name.result in
    let found : live_row inside.book.state.rows name ≡ Some c.requires.fits.row = search rules in
    let may : is_allowed inside.book.state (event.Linger name c.args.cause) ≡ true =
    subst (λ (n : ConnName). is_allowed inside.book.state (event.Linger n c.args.cause) ≡ true) (sym c.name-name.ensures)
    (may_inside _ c.args.self.now (event.Linger c.args.conn.name c.args.cause) view_is c.requires.allowed) in
    let parked = linger-parked c.rows_change_one_at_a_time.ensures inside.book.state name c.args.cause c.requires.fits.row may found in
    let some : is_some (waits_under (next inside.book.state (event.Linger name c.args.cause)).rows name) ≡ true = ap is_some parked in
    search (rules, some)

pub invariant_of-self : goal.invariant_of-self
invariant_of-self g c =
    let inside = c.deref_mut-parts.result.now in
    let invariant : AreParts g.N.Known.known inside =
    rw c.deref_mut-parts.ensures.value c.self.invariant in
    let view_is : seen_board inside ≡ c.args.self.now =
    rw c.deref_mut-parts.ensures.value c.self.view_is in
    let slots = inside.conns.slots in
    let conns = conns_in slots in
    let ended = inside.ended.items in
    let room = vec_capacity inside.ended in
    let name = c.name-name.result in
    let why = c.args.cause in
    let found : live_row inside.book.state.rows name ≡ Some c.requires.fits.row = search rules in
    let may : is_allowed inside.book.state (event.Linger name why) ≡ true =
    subst (λ (n : ConnName). is_allowed inside.book.state (event.Linger n why) ≡ true) (sym c.name-name.ensures)
    (may_inside _ c.args.self.now (event.Linger c.args.conn.name why) view_is c.requires.allowed) in
    let waits : LingersFor why c.args.conn = record { half_closed = ap lingers c.requires.half_closed; shows = c.requires.shows } in
    let parked = linger-parked c.rows_change_one_at_a_time.ensures inside.book.state name why c.requires.fits.row may found in
    let queued : c.wait_in_queue.new.queues ≡ slice_set inside.queues name.slot (waits_in (lingering_row inside.book.state why c.requires.fits.row)) = search rules in
    rw (c.record_sure.ensures.is, c.put_back.ensures, queued)
    (board_on _ inside.book slots _ _ ended inside.queues _ room room c.args.who (event.Linger name why) invariant c.record_sure.ensures.keeps (λ s. refl)
    (linger-there c.rows_change_one_at_a_time.ensures inside.book.state name why conns inside.queues c.args.conn c.requires.fits.row (length ended) room may
    (there_of _ inside.book slots ended inside.queues room invariant) found (sym c.name-name.ensures) c.requires.fits.fits waits c.show.ensures.conn)
    (clients_put _ inside.book conns name.slot c.args.conn c.show.ensures.client
    (subst (λ (v : SeenBoard). IsOfGeneration g.N.Known.known v.book c.args.conn.generation c.args.conn.reader.limits c.args.conn.site) (sym view_is) c.requires.edition)
    invariant.outside.conns) (conns-with slots name (Some c.args.conn))
    (written-used slots inside.book.state.rows name (Some c.args.conn) (is_fit_to_linger inside.book.state why (is_signalled inside.book.state name.slot)) invariant.used
    may ∙ sym (linger-used inside.book.state name why may)))

pub returns-clause-entries : goal.returns-clause-entries
returns-clause-entries g c =
    let inside = c.deref_mut-parts.result.now in
    let view_is : seen_board inside ≡ c.args.self.now =
    rw c.deref_mut-parts.ensures.value c.self.view_is in
    adds_inside c.args.who _ c.args.self.now _ view_is c.record_sure.ensures.entries

pub returns-clause-is : goal.returns-clause-is
returns-clause-is g c =
    let inside = c.deref_mut-parts.result.now in
    let view_is : seen_board inside ≡ c.args.self.now =
    rw c.deref_mut-parts.ensures.value c.self.view_is in
    let slots = inside.conns.slots in
    let conns : conns_in c.put_back.new.conns.slots ≡ slice_set (conns_in slots) c.name-name.result.slot (Some c.args.conn) =
    ap conns_in c.put_back.ensures ∙ conns-with slots c.name-name.result (Some c.args.conn) in
    rw (conns, c.record_sure.ensures.is, c.name-name.ensures, ← view_is) refl
