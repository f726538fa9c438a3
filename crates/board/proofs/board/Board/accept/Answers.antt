use Rattle.std.proofs.Common.{◌≡◌, ◌+◌, ◌≤◌, List, Option, None, length, vec_capacity, subst, sym, ap, ◌∙◌, refl, rules, arith}
use Rattle.std.specs.Prelude.{count_by}
use Rattle.conn_machine.specs.Rows.{is_live}
use Rattle.conn_machine.specs.declared.state.State.{State}
use Rattle.conn_machine.specs.declared.event.Event.TheVariants as event
use Rattle.conn_slots.specs.Slots.{with_item}
use Rattle.conn_state.specs.Conn.{SeenConn}
use Rattle.board.specs.Events.{IsAdded}
use Rattle.board.specs.Layout.{conns_in}
use Rattle.board.specs.BoardInside.{AreParts}
use Rattle.board.specs.BoardParts.{seen_board}
use Rattle.board.proofs.BoardLemmas.{there_of}
use Rattle.board.proofs.ClosedLemmas.{board_on, board_roomier}
use Rattle.board.proofs.EventLemmas.{accept-there}
use Rattle.board.proofs.HandLemmas.{not_taken_for}
use Rattle.board.proofs.PassLemmas.{adds_inside}
use Rattle.board.proofs.UseLemmas.{accept-used, conns-put, put-slots}
use Rattle.board.proofs.board.Board.accept.Goals as goal

pub invariant_of-self-2 : goal.invariant_of-self-2
invariant_of-self-2 g c =
    let inside = c.deref_mut-parts.result.now in
    let invariant : AreParts g.N.Known.known inside =
    rw c.deref_mut-parts.ensures.value c.self.invariant in
    let slots = inside.conns.slots in
    let conns = conns_in slots in
    let ended = inside.ended.items in
    let room = vec_capacity inside.ended in
    let room' = vec_capacity c.reserve.new.self in
    let name = c.in_ok-next.next in
    let given = c.in_ok-next.ensures in
    let live : c.live_count-live.result ≡ count_by is_live inside.book.state.rows =
    c.live_count-live.ensures ∙ ap (λ (s : State). count_by is_live s.rows) c.state.ensures in
    let reserved : length ended + (c.live_count-live.result + 1) ≤ room' = search rules in
    let space : length ended + (count_by is_live inside.book.state.rows + 1) ≤ room' = omega (arith, reserved, live) in
    let stored : c.put.new.self.slots ≡ with_item slots name None =
    put-slots inside.conns c.put.new.self.slots name None c.put.result given.next given.vacant c.put.ensures.full.0 c.put.ensures.name c.put.ensures.stored in
    rw (c.in-Ok.ensures.ok.new_is, c.reserve.ensures.items)
    (board_on _ inside.book slots c.put.new.self.slots conns ended inside.queues inside.queues room room' c.args.who (event.Accept name.slot) invariant c.in-Ok.ensures.ok.keeps (λ s. refl)
    (accept-there c.rows_change_one_at_a_time.ensures inside.book.state name.slot conns inside.queues (length ended) room room' given.allowed
    (there_of _ inside.book slots ended inside.queues room invariant) space) invariant.outside.conns
    (ap conns_in stored ∙ conns-put slots name given.unused)
    (rw stored (accept-used inside.book.state slots name None given.allowed invariant.used given.unused)))

pub returns-clause-entries : goal.returns-clause-entries
returns-clause-entries g c =
    let inside = c.deref_mut-parts.result.now in
    let view_is : seen_board inside ≡ c.args.self.now =
    rw c.deref_mut-parts.ensures.value c.self.view_is in
    adds_inside c.args.who _ c.args.self.now _ view_is c.record.ensures.entries

pub invariant_of-self-then-is_err : goal.invariant_of-self-then-is_err
invariant_of-self-then-is_err g c =
    let inside = c.deref_mut-parts.result.now in
    let invariant : AreParts g.N.Known.known inside =
    rw c.deref_mut-parts.ensures.value c.self.invariant in
    let more : vec_capacity inside.ended ≤ vec_capacity c.reserve.new.self = search rules in
    board_roomier _ _ c.reserve.new.self.items _ _ (vec_capacity inside.ended) (vec_capacity c.reserve.new.self) c.reserve.ensures.items more invariant

pub invariant_of-self-in-Err : goal.invariant_of-self-in-Err
invariant_of-self-in-Err g c =
    let inside = c.deref_mut-parts.result.now in
    let invariant : AreParts g.N.Known.known inside =
    rw c.deref_mut-parts.ensures.value c.self.invariant in
    let more : vec_capacity inside.ended ≤ vec_capacity c.reserve.new.self = search rules in
    rw (c.in-Err.ensures.err)
    (board_roomier _ _ c.reserve.new.self.items _ _ (vec_capacity inside.ended) (vec_capacity c.reserve.new.self) c.reserve.ensures.items more invariant)

pub returns-in-Err-clause-why : goal.returns-in-Err-clause-why
returns-in-Err-clause-why g c =
    let inside = c.deref_mut-parts.result.now in
    let view_is : seen_board inside ≡ c.args.self.now =
    rw c.deref_mut-parts.ensures.value c.self.view_is in
    rw (c.of.ensures) (not_taken_for c.in-Err.fault _ c.args.self.now view_is c.in-Err.ensures.why)

pub returns-clause-ok : goal.returns-clause-ok
returns-clause-ok g c =
    let inside = c.deref_mut-parts.result.now in
    let slots = inside.conns.slots in
    let given = c.in_ok-next.ensures in
    let stored : c.put.new.self.slots ≡ with_item slots c.in_ok-next.next None =
    put-slots inside.conns c.put.new.self.slots c.in_ok-next.next None c.put.result given.next given.vacant c.put.ensures.full.0 c.put.ensures.name c.put.ensures.stored in
    let same : conns_in c.put.new.self.slots ≡ conns_in slots = ap conns_in stored ∙ conns-put slots c.in_ok-next.next given.unused in
    let added : IsAdded c.args.who (event.Accept c.in-Took.name.slot) c.args.self.now
    (record { book = c.record.new.self; conns = conns_in slots; ended = c.reserve.new.self.items }) = search rules in
    subst (λ (conns : List (Option SeenConn)). IsAdded c.args.who (event.Accept c.in-Took.name.slot) c.args.self.now
    (record { book = c.record.new.self; conns = conns; ended = c.reserve.new.self.items })) (sym same) added
