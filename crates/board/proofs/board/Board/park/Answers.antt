use Rattle.std.proofs.Common.{◌≡◌, true, Some, Option, is_some, length, slice_set, vec_capacity, subst, sym, ap, ◌∙◌, refl, rules}
use Rattle.mpm_base.specs.declared.conn.Cause.{Cause}
use Rattle.mpm_base.specs.declared.conn.ConnName.{ConnName}
use Rattle.conn_machine.specs.Rows.{live_row}
use Rattle.conn_machine.specs.Runs.{has_row}
use Rattle.board_book.specs.Book.{row_in}
use Rattle.conn_machine.specs.Table.{is_allowed, next, may_wait, parked_row}
use Rattle.conn_machine.specs.declared.event.Event.TheVariants as event
use Rattle.board_book.specs.Finds.{cause_of}
use Rattle.board.specs.Board.{SeenBoard}
use Rattle.board.specs.Editions.{IsOfGeneration}
use Rattle.board.specs.Fits.{IsSettled}
use Rattle.board.specs.Board.{SeenBoard}
use Rattle.board.specs.Layout.{conns_in}
use Rattle.board.specs.QueuesInside.{waits_in, waits_under}
use Rattle.board.specs.BoardInside.{AreParts}
use Rattle.board.specs.BoardParts.{seen_board}
use Rattle.board.proofs.BackedLemmas.{backs-row}
use Rattle.board.proofs.BoardLemmas.{may_while, there_of}
use Rattle.board.proofs.ClientLemmas.{clients_put}
use Rattle.board.proofs.ClosedLemmas.{board_on}
use Rattle.board.proofs.EventLemmas.{park-there}
use Rattle.board.proofs.HandLemmas.{cause-found, park-free, park-parked}
use Rattle.board.proofs.PassLemmas.{adds_inside, has_inside}
use Rattle.board.proofs.UseLemmas.{conns-with, live-item, park-lives, park-used, written-used}
use Rattle.board.proofs.board.Board.park.Goals as goal

pub put_back-requires : goal.put_back-requires
put_back-requires g c =
    let inside = c.deref_mut-parts.result.now in
    let invariant : AreParts g.N.Known.known inside =
    rw c.deref_mut-parts.ensures.value c.self.invariant in
    let view_is : seen_board inside ≡ c.args.self.now =
    rw c.deref_mut-parts.ensures.value c.self.view_is in
    let name = c.name-name.result in
    let may : is_allowed inside.book.state (event.Park name c.args.kind) ≡ true =
    subst (λ (n : ConnName). is_allowed inside.book.state (event.Park n c.args.kind) ≡ true) (sym c.name-name.ensures)
    (may_while _ c.args.self.now (event.Park c.args.conn.name c.args.kind) view_is c.requires.allowed c.in-Ok.ensures.ok.was_open.going) in
    live-item inside.conns.slots inside.book.state.rows name (may_wait inside.book.state.moment c.args.kind) invariant.used
    (park-lives inside.book.state name c.args.kind may)

pub record-requires-clause-allowed : goal.record-requires-clause-allowed
record-requires-clause-allowed g c going =
    let inside = c.deref_mut-parts.result.now in
    let view_is : seen_board inside ≡ c.args.self.now =
    rw c.deref_mut-parts.ensures.value c.self.view_is in
    subst (λ (n : ConnName). is_allowed inside.book.state (event.Park n c.args.kind) ≡ true) (sym c.name-name.ensures)
    (may_while _ c.args.self.now (event.Park c.args.conn.name c.args.kind) view_is c.requires.allowed going)

pub invariant_of-self-2 : goal.invariant_of-self-2
invariant_of-self-2 g c =
    let inside = c.deref_mut-parts.result.now in
    let invariant : AreParts g.N.Known.known inside =
    rw c.deref_mut-parts.ensures.value c.self.invariant in
    let view_is : seen_board inside ≡ c.args.self.now =
    rw c.deref_mut-parts.ensures.value c.self.view_is in
    let slots = inside.conns.slots in
    let conns = conns_in slots in
    let ended = inside.ended.items in
    let room = vec_capacity inside.ended in
    let name = c.name-name.result in
    let e = event.Park name c.args.kind in
    let ok = c.in-Ok.ensures.ok in
    let found : live_row inside.book.state.rows name ≡ Some c.requires.fits.row = search rules in
    let may : is_allowed inside.book.state e ≡ true =
    subst (λ (n : ConnName). is_allowed inside.book.state (event.Park n c.args.kind) ≡ true) (sym c.name-name.ensures)
    (may_while _ c.args.self.now (event.Park c.args.conn.name c.args.kind) view_is c.requires.allowed ok.was_open.going) in
    let cause_is : cause_of c.args.self.now.book.state c.args.conn.name ≡ c.requires.fits.row.cause =
    cause-found c.args.self.now.book.state c.args.conn.name c.requires.fits.row c.requires.fits.found in
    let settled = subst (λ (why : Option Cause). IsSettled c.args.kind why c.args.conn) cause_is c.requires.settled in
    let parked = park-parked c.rows_change_one_at_a_time.ensures inside.book.state name c.args.kind c.requires.fits.row may found in
    let queued : c.wait_in_queue.new.queues ≡ slice_set inside.queues name.slot (waits_in (parked_row inside.book.state c.args.kind c.requires.fits.row)) = search rules in
    rw (ok.new_is, c.put_back.ensures, queued)
    (board_on _ inside.book slots _ _ ended inside.queues _ room room c.args.who e invariant ok.keeps (λ s. refl)
    (park-there c.rows_change_one_at_a_time.ensures inside.book.state name c.args.kind conns inside.queues c.args.conn c.requires.fits.row (length ended) room may
    (there_of _ inside.book slots ended inside.queues room invariant) found (sym c.name-name.ensures) c.requires.fits.fits settled
    (backs-row c.args.kind c.args.self.now.book.state c.args.conn c.requires.fits.row c.requires.fits.found c.requires.backed))
    (clients_put _ inside.book conns name.slot c.args.conn c.show.ensures.client
    (subst (λ (v : SeenBoard). IsOfGeneration g.N.Known.known v.book c.args.conn.generation c.args.conn.reader.limits c.args.conn.site) (sym view_is) c.requires.edition)
    invariant.outside.conns) (conns-with slots name (Some c.args.conn))
    (written-used slots inside.book.state.rows name (Some c.args.conn) (may_wait inside.book.state.moment c.args.kind) invariant.used
    (park-lives inside.book.state name c.args.kind may) ∙ sym (park-used inside.book.state name c.args.kind may)))

pub wait_in_queue-requires-clause-free : goal.wait_in_queue-requires-clause-free
wait_in_queue-requires-clause-free g c =
    let inside = c.deref_mut-parts.result.now in
    let invariant : AreParts g.N.Known.known inside =
    rw c.deref_mut-parts.ensures.value c.self.invariant in
    let view_is : seen_board inside ≡ c.args.self.now =
    rw c.deref_mut-parts.ensures.value c.self.view_is in
    let name = c.name-name.result in
    let may : is_allowed inside.book.state (event.Park name c.args.kind) ≡ true =
    subst (λ (n : ConnName). is_allowed inside.book.state (event.Park n c.args.kind) ≡ true) (sym c.name-name.ensures)
    (may_while _ c.args.self.now (event.Park c.args.conn.name c.args.kind) view_is c.requires.allowed c.in-Ok.ensures.ok.was_open.going) in
    park-free inside.book.state name c.args.kind inside.queues may invariant.queued

pub wait_in_queue-requires-clause-waits : goal.wait_in_queue-requires-clause-waits
wait_in_queue-requires-clause-waits g c =
    let inside = c.deref_mut-parts.result.now in
    let view_is : seen_board inside ≡ c.args.self.now =
    rw c.deref_mut-parts.ensures.value c.self.view_is in
    let name = c.name-name.result in
    let found : live_row inside.book.state.rows name ≡ Some c.requires.fits.row = search rules in
    let may : is_allowed inside.book.state (event.Park name c.args.kind) ≡ true =
    subst (λ (n : ConnName). is_allowed inside.book.state (event.Park n c.args.kind) ≡ true) (sym c.name-name.ensures)
    (may_while _ c.args.self.now (event.Park c.args.conn.name c.args.kind) view_is c.requires.allowed c.in-Ok.ensures.ok.was_open.going) in
    let parked = park-parked c.rows_change_one_at_a_time.ensures inside.book.state name c.args.kind c.requires.fits.row may found in
    let some : is_some (waits_under (next inside.book.state (event.Park name c.args.kind)).rows name) ≡ true = ap is_some parked in
    search (rules, some)

pub record-requires-clause-role : goal.record-requires-clause-role
record-requires-clause-role g c =
    let inside = c.deref_mut-parts.result.now in
    let view_is : seen_board inside ≡ c.args.self.now =
    rw c.deref_mut-parts.ensures.value c.self.view_is in
    subst (λ (n : ConnName). has_row (row_in c.args.who inside.book) n ≡ true) (sym c.name-name.ensures)
    (has_inside c.args.who _ c.args.self.now c.args.conn.name view_is c.requires.row)

pub returns-clause-entries : goal.returns-clause-entries
returns-clause-entries g c =
    let inside = c.deref_mut-parts.result.now in
    let view_is : seen_board inside ≡ c.args.self.now =
    rw c.deref_mut-parts.ensures.value c.self.view_is in
    adds_inside c.args.who _ c.args.self.now _ view_is c.record.ensures.entries

pub returns-clause-parked : goal.returns-clause-parked
returns-clause-parked g c =
    let inside = c.deref_mut-parts.result.now in
    let view_is : seen_board inside ≡ c.args.self.now =
    rw c.deref_mut-parts.ensures.value c.self.view_is in
    let slots = inside.conns.slots in
    ap conns_in c.put_back.ensures
    ∙ conns-with slots c.name-name.result (Some c.args.conn)
    ∙ ap (λ (n : ConnName). slice_set (conns_in slots) n.slot (Some c.args.conn)) c.name-name.ensures
    ∙ ap (λ (b : SeenBoard). slice_set b.conns c.args.conn.name.slot (Some c.args.conn)) view_is
