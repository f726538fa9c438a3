use Rattle.std.proofs.Common.{ap, sym, subst, is_ok}
use Rattle.conn_machine.specs.declared.event.Event.TheVariants as event
use Rattle.table_rule.specs.declared.view.View.{View}
use Rattle.board_turns.specs.Pairing.{HasNoneToHand}
use Rattle.board_turns.proofs.FoundLemmas.{due_here, has_child, has_room, pass_as, queue_permitted, row_as}
use Rattle.board_turns.proofs.GoesOnLemmas.{changed, made_added, may_change, may_stay}
use Rattle.board_turns.proofs.ThenLemmas.{carried_then, nothing_state, permit_left, permit_still}
use Rattle.board_turns.proofs.TurnLemmas.{had_event, had_none, had_none_as, refused_then}
use Rattle.board_turns.proofs.worker_turns.queue.Goals as goal

pub due_in_time-requires : goal.due_in_time-requires
due_in_time-requires g c =
    has_child _ _ c.turn-turn.result.kept c.args.child c.turns_rest_on_these.ensures c.turn-turn.ensures.turn c.show.ensures.state c.requires.permit

pub done-requires-clause-left : goal.done-requires-clause-left
done-requires-clause-left g c = may_stay _ _ (ap (λ (q : View). q.turn) c.turn-turn.ensures.turn.view)

pub returns-in_default-clause-nothing : goal.returns-in_default-clause-nothing
returns-in_default-clause-nothing g c =
    permit_still _ _ _ c.turn-turn.result.kept c.args.child c.turns_rest_on_these.ensures c.turn-turn.ensures.turn c.done.ensures.given c.requires.permit

pub queue-queued-requires-clause-who : goal.queue-queued-requires-clause-who
queue-queued-requires-clause-who g c = pass_as _ _ c.turn-turn.result.kept _ c.turn-turn.ensures.turn c.number-who.ensures

pub queue-queued-requires-clause-free : goal.queue-queued-requires-clause-free
queue-queued-requires-clause-free g c =
    row_as _ _ c.turn-turn.result.kept _ _ c.turns_rest_on_these.ensures c.turn-turn.ensures.turn c.number-who.ensures c.requires.permit.row

pub queue-queued-requires-clause-allowed : goal.queue-queued-requires-clause-allowed
queue-queued-requires-clause-allowed g c going =
    let b = c.turn-turn.result.kept in
    let room = has_room _ _ b c.args.child c.turns_rest_on_these.ensures c.turn-turn.ensures.turn c.show.ensures.state c.requires.permit in
    (due_here b.book.state c.args.child c.in-Some.name c.in-Some.ensures.due room).allowed going

pub done-requires-2-clause-left : goal.done-requires-2-clause-left
done-requires-2-clause-left g c =
    let b = c.turn-turn.result.kept in
    let q = c.queue-queued in
    let e = event.Queue c.in-Some.name in
    let room = has_room _ _ b c.args.child c.turns_rest_on_these.ensures c.turn-turn.ensures.turn c.show.ensures.state c.requires.permit in
    may_change _ _ c.number-who.result (is_ok q.result) e b q.new.self c.turns_rest_on_these.ensures c.turn-turn.ensures.turn (sym c.number-who.ensures)
    (changed q.result _ e b q.new.self b.conns q.ensures.ok q.ensures.err q.ensures.entries)
    (queue_permitted _ _ b c.args.child c.in-Some.name c.turns_rest_on_these.ensures c.turn-turn.ensures.turn c.show.ensures.state c.requires.permit
    (due_here b.book.state c.args.child c.in-Some.name c.in-Some.ensures.due room) c.in-Some.ensures.in_time)

pub returns-in-Ok-clause-carried : goal.returns-in-Ok-clause-carried
returns-in-Ok-clause-carried g c =
    let b = c.turn-turn.result.kept in
    let q = c.queue-queued in
    let room = has_room _ _ b c.args.child c.turns_rest_on_these.ensures c.turn-turn.ensures.turn c.show.ensures.state c.requires.permit in
    let due = due_here b.book.state c.args.child c.in-Some.name c.in-Some.ensures.due room in
    (carried_then g.N.Known.known _ _ _ c.number-who.result c.args.child b q.new.self c.in-Ok.conn c.in-Some.name due.row c.turns_rest_on_these.ensures
    c.turn-turn.ensures.turn c.done-2.ensures.given (sym c.number-who.ensures) c.requires.child c.requires.permit
    (made_added _ _ b q.new.self b.conns c.in-Ok.ensures.ok q.ensures.entries) c.show.ensures.state c.show-2.ensures.sound due.found due.of_child
    c.in-Ok.ensures.name c.in-Ok.ensures.handed c.in-Ok.ensures.stays_open c.in-Ok.ensures.edition).0

pub returns-in-Ok-clause-child : goal.returns-in-Ok-clause-child
returns-in-Ok-clause-child g c =
    let b = c.turn-turn.result.kept in
    let q = c.queue-queued in
    let room = has_room _ _ b c.args.child c.turns_rest_on_these.ensures c.turn-turn.ensures.turn c.show.ensures.state c.requires.permit in
    let due = due_here b.book.state c.args.child c.in-Some.name c.in-Some.ensures.due room in
    (carried_then g.N.Known.known _ _ _ c.number-who.result c.args.child b q.new.self c.in-Ok.conn c.in-Some.name due.row c.turns_rest_on_these.ensures
    c.turn-turn.ensures.turn c.done-2.ensures.given (sym c.number-who.ensures) c.requires.child c.requires.permit
    (made_added _ _ b q.new.self b.conns c.in-Ok.ensures.ok q.ensures.entries) c.show.ensures.state c.show-2.ensures.sound due.found due.of_child
    c.in-Ok.ensures.name c.in-Ok.ensures.handed c.in-Ok.ensures.stays_open c.in-Ok.ensures.edition).1

pub returns-in-Err-clause-refused : goal.returns-in-Err-clause-refused
returns-in-Err-clause-refused g c =
    permit_left _ _ _ c.turn-turn.result.kept c.queue-queued.new.self c.args.child c.turns_rest_on_these.ensures c.turn-turn.ensures.turn c.done-2.ensures.given
    c.in-Err.ensures.err c.requires.permit

pub returns-in_default-clause-none : goal.returns-in_default-clause-none
returns-in_default-clause-none g c = (_, had_none _ _ _ c.turn-turn.result.kept c.turn-turn.ensures.turn c.done.ensures.given)

pub returns-in_default-clause-quiet : goal.returns-in_default-clause-quiet
returns-in_default-clause-quiet g c =
    let b = c.turn-turn.result.kept in
    subst (HasNoneToHand c.args.child)
    (sym (nothing_state _ _ _ b c.turns_rest_on_these.ensures c.turn-turn.ensures.turn c.done.ensures.given c.show.ensures.state))
    c.in_default.ensures.none

pub returns-in-Ok-clause-some : goal.returns-in-Ok-clause-some
returns-in-Ok-clause-some g c =
    let b = c.turn-turn.result.kept in
    let q = c.queue-queued in
    had_event _ _ _ c.number-who.result (event.Queue c.in-Some.name) (event.Queue c.in-Ok.conn.name) b q.new.self c.turns_rest_on_these.ensures c.turn-turn.ensures.turn
    c.done-2.ensures.given (sym c.number-who.ensures) (made_added _ _ b q.new.self b.conns c.in-Ok.ensures.ok q.ensures.entries)
    (ap event.Queue (sym c.in-Ok.ensures.name))

pub returns-in-Err-clause-err : goal.returns-in-Err-clause-err
returns-in-Err-clause-err g c =
    (_, had_none_as _ _ _ c.turn-turn.result.kept c.queue-queued.new.self c.turn-turn.ensures.turn c.done-2.ensures.given c.in-Err.ensures.err)

pub returns-in-Err-clause-why : goal.returns-in-Err-clause-why
returns-in-Err-clause-why g c =
    refused_then _ _ _ c.turn-turn.result.kept c.queue-queued.new.self c.in-Err.fault c.turns_rest_on_these.ensures c.turn-turn.ensures.turn c.done-2.ensures.given
    c.in-Err.ensures.err c.show.ensures.state c.in-Err.ensures.why
