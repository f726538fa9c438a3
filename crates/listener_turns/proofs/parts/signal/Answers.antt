use Rattle.std.proofs.Common.{length, ap, ◌∙◌}
use Rattle.conn_machine.specs.declared.event.Event.TheVariants as event
use Rattle.conn_machine.specs.declared.state.State.{State}
use Rattle.board_turns.proofs.GoesOnLemmas.{made_added}
use Rattle.listener_turns.proofs.ManyLemmas.{is_beyond, is_within, signals_none, signals_one}
use Rattle.listener_turns.proofs.parts.signal.Goals as goal

pub returns-then-slot-len-clause-signals : goal.returns-then-slot-len-clause-signals
returns-then-slot-len-clause-signals g c =
    signals_none (length c.args.board.now.book.state.rows) c.args.slot c.args.board.now
    (is_beyond c.len.result (length c.args.board.now.book.state.rows) c.args.slot
    (c.len.ensures ∙ ap (λ (s : State). length s.rows) c.state.ensures) c.if-slot-len.true)

pub returns-in-Ok-clause-signals : goal.returns-in-Ok-clause-signals
returns-in-Ok-clause-signals g c =
    signals_one (length c.args.board.now.book.state.rows) c.args.slot c.args.board.now c.ready.new.self
    (is_within c.len.result (length c.args.board.now.book.state.rows) c.args.slot
    (c.len.ensures ∙ ap (λ (s : State). length s.rows) c.state.ensures) c.if-slot-len.false)
    (made_added 0 (event.Ready c.args.slot) c.args.board.now c.ready.new.self c.ready.new.self.conns c.in-Ok.ensures.ok c.ready.ensures.entries)
