use Rattle.std.proofs.Common.{map, ap, sym, subst, ◌∙◌}
use Rattle.conn_machine.specs.declared.event.Event.TheVariants as event
use Rattle.conn_machine.specs.declared.state.State.{State}
use Rattle.conn_machine.specs.Sound.{IsSound}
use Rattle.conn_machine.specs.Table.{may_retire}
use Rattle.board_turns.proofs.FoundLemmas.{pass_as}
use Rattle.board_turns.proofs.ThenLemmas.{listener_then}
use Rattle.listener_turns.proofs.ManyLemmas.{had_all, may_leave_all, quiet_retire, row_all, state_left}
use Rattle.listener_turns.proofs.children.retire_children.Goals as goal

pub retire_each-requires : goal.retire_each-requires
retire_each-requires g c = record { passes = pass_as _ _ c.turn-turn.result.kept 0 c.turn-turn.ensures.turn (sym c.requires.listener.number) }

pub done-requires-clause-left : goal.done-requires-clause-left
done-requires-clause-left g c =
    let m = c.retire_each.ensures.retired in
    may_leave_all _ _ 0 (map event.Retire m.0) c.turn-turn.result.kept c.retire_each.new.board c.turns_rest_on_these.ensures c.turn-turn.ensures.turn c.requires.listener.number m.1
    (quiet_retire _ m.0 c.requires.none)

pub returns-clause-listener : goal.returns-clause-listener
returns-clause-listener g c = listener_then _ _ _ _ _ c.turn-turn.ensures.turn c.done.ensures.given c.requires.listener

pub returns-clause-row : goal.returns-clause-row
returns-clause-row g c =
    let m = c.retire_each.ensures.retired in
    row_all _ _ _ 0 (map event.Retire m.0) c.turn-turn.result.kept c.retire_each.new.board c.turns_rest_on_these.ensures c.turn-turn.ensures.turn c.done.ensures.given c.requires.listener.number m.1
    (quiet_retire _ m.0 c.requires.none)

pub returns-clause-turn : goal.returns-clause-turn
returns-clause-turn g c =
    let m = c.retire_each.ensures.retired in
    (m.0, (_, had_all _ _ _ 0 (map event.Retire m.0) c.turn-turn.result.kept c.retire_each.new.board c.turns_rest_on_these.ensures c.turn-turn.ensures.turn c.done.ensures.given c.requires.listener.number m.1))

pub returns-clause-all : goal.returns-clause-all
returns-clause-all g c k =
    let m = c.retire_each.ensures.retired in
    ap (λ (s : State). may_retire s k)
    (state_left _ _ _ 0 (map event.Retire m.0) c.turn-turn.result.kept c.retire_each.new.board c.turns_rest_on_these.ensures c.turn-turn.ensures.turn c.done.ensures.given c.requires.listener.number m.1
    c.show.ensures.state c.show-2.ensures.state)
    ∙ c.retire_each.ensures.all k

pub returns-clause-sound : goal.returns-clause-sound
returns-clause-sound g c =
    let m = c.retire_each.ensures.retired in
    subst IsSound
    (sym (state_left _ _ _ 0 (map event.Retire m.0) c.turn-turn.result.kept c.retire_each.new.board c.turns_rest_on_these.ensures c.turn-turn.ensures.turn c.done.ensures.given c.requires.listener.number m.1
    c.show.ensures.state c.show-2.ensures.state))
    c.show-2.ensures.sound
