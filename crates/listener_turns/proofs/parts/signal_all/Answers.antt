use Rattle.std.proofs.Common.{length, sym}
use Rattle.board_turns.proofs.FoundLemmas.{pass_as}
use Rattle.board_turns.proofs.ThenLemmas.{listener_then}
use Rattle.listener_turns.specs.Signals.{ready_events}
use Rattle.listener_turns.proofs.ManyLemmas.{has_signalled, may_leave_all, quiet_signals, refused_left, row_all, signals_left, state_left}
use Rattle.listener_turns.proofs.parts.signal_all.Goals as goal

pub signal_each-signalled-requires : goal.signal_each-signalled-requires
signal_each-signalled-requires g c = record { passes = pass_as _ _ c.turn-turn.result.kept 0 c.turn-turn.ensures.turn (sym c.requires.listener.number) }

pub done-requires-clause-left : goal.done-requires-clause-left
done-requires-clause-left g c =
    let count = length c.turn-turn.result.kept.book.state.rows in
    let has = has_signalled c.signal_each-signalled.result count c.args.slots.now c.turn-turn.result.kept c.signal_each-signalled.new.board c.signal_each-signalled.ensures.all c.signal_each-signalled.ensures.first in
    may_leave_all _ _ 0 (ready_events count has.slots) c.turn-turn.result.kept c.signal_each-signalled.new.board c.turns_rest_on_these.ensures c.turn-turn.ensures.turn c.requires.listener.number has.made
    (quiet_signals _ count has.slots)

pub returns-in-Ok-clause-listener : goal.returns-in-Ok-clause-listener
returns-in-Ok-clause-listener g c = listener_then _ _ _ _ _ c.turn-turn.ensures.turn c.done.ensures.given c.requires.listener

pub returns-in-Ok-clause-row : goal.returns-in-Ok-clause-row
returns-in-Ok-clause-row g c =
    let count = length c.turn-turn.result.kept.book.state.rows in
    row_all _ _ _ 0 (ready_events count c.args.slots.now) c.turn-turn.result.kept c.signal_each-signalled.new.board c.turns_rest_on_these.ensures c.turn-turn.ensures.turn c.done.ensures.given c.requires.listener.number
    c.in-Ok.ensures.all (quiet_signals _ count c.args.slots.now)

pub returns-in-Ok-clause-all : goal.returns-in-Ok-clause-all
returns-in-Ok-clause-all g c =
    signals_left _ _ _ c.args.slots.now c.turn-turn.result.kept c.signal_each-signalled.new.board c.turns_rest_on_these.ensures c.turn-turn.ensures.turn c.done.ensures.given c.requires.listener.number
    c.in-Ok.ensures.all c.show.ensures.state c.show-2.ensures.state c.signal_each-signalled.ensures.rows

pub returns-in-Err-clause-listener : goal.returns-in-Err-clause-listener
returns-in-Err-clause-listener g c = listener_then _ _ _ _ _ c.turn-turn.ensures.turn c.done.ensures.given c.requires.listener

pub returns-in-Err-clause-row : goal.returns-in-Err-clause-row
returns-in-Err-clause-row g c =
    let count = length c.turn-turn.result.kept.book.state.rows in
    let e = c.in-Err.ensures.first in
    row_all _ _ _ 0 (ready_events count e.0) c.turn-turn.result.kept c.signal_each-signalled.new.board c.turns_rest_on_these.ensures c.turn-turn.ensures.turn c.done.ensures.given c.requires.listener.number
    e.4 (quiet_signals _ count e.0)

pub returns-in-Err-clause-first : goal.returns-in-Err-clause-first
returns-in-Err-clause-first g c =
    let e = c.in-Err.ensures.first in record {
      first = e.0;
      slot = e.1;
      rest = e.2;
      slots_are = e.3;
      signals = signals_left _ _ _ e.0 c.turn-turn.result.kept c.signal_each-signalled.new.board c.turns_rest_on_these.ensures c.turn-turn.ensures.turn c.done.ensures.given c.requires.listener.number
          e.4 c.show.ensures.state c.show-2.ensures.state c.signal_each-signalled.ensures.rows;
    }

pub returns-in-Err-clause-why : goal.returns-in-Err-clause-why
returns-in-Err-clause-why g c =
    let count = length c.turn-turn.result.kept.book.state.rows in
    let e = c.in-Err.ensures.first in
    refused_left c.done.new.pass.seat.me.0 c.signal_each-signalled.new.board.book c.in-Err.fault
    (state_left _ _ _ 0 (ready_events count e.0) c.turn-turn.result.kept c.signal_each-signalled.new.board c.turns_rest_on_these.ensures c.turn-turn.ensures.turn c.done.ensures.given c.requires.listener.number
    e.4 c.show.ensures.state c.show-2.ensures.state)
    c.in-Err.ensures.why
