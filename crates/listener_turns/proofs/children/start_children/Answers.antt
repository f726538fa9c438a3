use Rattle.std.proofs.Common.{map, ap, sym, ◌∙◌}
use Rattle.conn_machine.specs.declared.event.Event.TheVariants as event
use Rattle.board_book.specs.Finds.{startable}
use Rattle.board_turns.proofs.FoundLemmas.{pass_as}
use Rattle.board_turns.proofs.ThenLemmas.{listener_then}
use Rattle.listener_turns.proofs.ChildrenLemmas.{started_turn}
use Rattle.listener_turns.proofs.ManyLemmas.{may_leave_all, quiet_start, refused_left, row_all, state_left}
use Rattle.listener_turns.proofs.children.start_children.Goals as goal

pub start_each-started-requires : goal.start_each-started-requires
start_each-started-requires g c = record { passes = pass_as _ _ c.turn-turn.result.kept 0 c.turn-turn.ensures.turn (sym c.requires.listener.number) }

pub done-requires-clause-left : goal.done-requires-clause-left
done-requires-clause-left g c =
    let m = c.start_each-started.ensures.started in
    may_leave_all _ _ 0 (map event.StartChild m.0) c.turn-turn.result.kept c.start_each-started.new.board c.turns_rest_on_these.ensures c.turn-turn.ensures.turn c.requires.listener.number m.1
    (quiet_start _ m.0)

pub returns-in-Ok-clause-listener : goal.returns-in-Ok-clause-listener
returns-in-Ok-clause-listener g c = listener_then _ _ _ _ _ c.turn-turn.ensures.turn c.done.ensures.given c.requires.listener

pub returns-in-Ok-clause-row : goal.returns-in-Ok-clause-row
returns-in-Ok-clause-row g c =
    let m = c.start_each-started.ensures.started in
    row_all _ _ _ 0 (map event.StartChild m.0) c.turn-turn.result.kept c.start_each-started.new.board c.turns_rest_on_these.ensures c.turn-turn.ensures.turn c.done.ensures.given c.requires.listener.number m.1
    (quiet_start _ m.0)

pub returns-in-Ok-clause-started : goal.returns-in-Ok-clause-started
returns-in-Ok-clause-started g c =
    let m = c.start_each-started.ensures.started in
    started_turn _ _ _ c.turn-turn.result.kept c.start_each-started.new.board m.0 c.turns_rest_on_these.ensures c.turn-turn.ensures.turn c.done.ensures.given c.requires.listener.number m.1 c.show.ensures.state m.2

pub returns-in-Err-clause-listener : goal.returns-in-Err-clause-listener
returns-in-Err-clause-listener g c = listener_then _ _ _ _ _ c.turn-turn.ensures.turn c.done.ensures.given c.requires.listener

pub returns-in-Err-clause-row : goal.returns-in-Err-clause-row
returns-in-Err-clause-row g c =
    let m = c.start_each-started.ensures.started in
    row_all _ _ _ 0 (map event.StartChild m.0) c.turn-turn.result.kept c.start_each-started.new.board c.turns_rest_on_these.ensures c.turn-turn.ensures.turn c.done.ensures.given c.requires.listener.number m.1
    (quiet_start _ m.0)

pub returns-in-Err-clause-started : goal.returns-in-Err-clause-started
returns-in-Err-clause-started g c =
    let m = c.start_each-started.ensures.started in
    started_turn _ _ _ c.turn-turn.result.kept c.start_each-started.new.board m.0 c.turns_rest_on_these.ensures c.turn-turn.ensures.turn c.done.ensures.given c.requires.listener.number m.1 c.show.ensures.state m.2

pub returns-in-Ok-clause-all : goal.returns-in-Ok-clause-all
returns-in-Ok-clause-all g c =
    let m = c.start_each-started.ensures.started in
    ap startable
    (state_left _ _ _ 0 (map event.StartChild m.0) c.turn-turn.result.kept c.start_each-started.new.board c.turns_rest_on_these.ensures c.turn-turn.ensures.turn c.done.ensures.given c.requires.listener.number m.1
    c.show.ensures.state c.show-2.ensures.state)
    ∙ c.in-Ok.ensures.all

pub returns-in-Err-clause-why : goal.returns-in-Err-clause-why
returns-in-Err-clause-why g c =
    let m = c.start_each-started.ensures.started in
    refused_left c.done.new.pass.seat.me.0 c.start_each-started.new.board.book c.in-Err.fault
    (state_left _ _ _ 0 (map event.StartChild m.0) c.turn-turn.result.kept c.start_each-started.new.board c.turns_rest_on_these.ensures c.turn-turn.ensures.turn c.done.ensures.given c.requires.listener.number m.1
    c.show.ensures.state c.show-2.ensures.state)
    c.in-Err.ensures.why
