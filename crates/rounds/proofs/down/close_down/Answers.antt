use Rattle.std.proofs.Common.{None, ap, sym, subst, ◌∙◌}
use Rattle.conn_machine.specs.States.{is_halted}
use Rattle.rounds.specs.EndsInside.{HaltsAs}
use Rattle.rounds.proofs.DownLemmas.{down-gone}
use Rattle.rounds.proofs.ActLemmas.{none-has}
use Rattle.rounds.proofs.HaltLemmas.{has-halted}
use Rattle.rounds.proofs.TimelyLemmas.{halts-timely, not-at_end_halted, plain-gone, stays-plain}
use Rattle.rounds.proofs.down.close_down.Goals as goal

pub returns-then-is_at_end : goal.returns-then-is_at_end
returns-then-is_at_end g c =
    down-gone c.passes_act_in_steps.ensures.acts c.args.turns c.args.board.now.book (sym c.is_at_end.ensures ∙ c.if-is_at_end.true) c.requires.free c.requires.must

pub close_all-requires-clause-halted : goal.close_all-requires-clause-halted
close_all-requires-clause-halted g c =
    has-halted c.args.turns c.args.board.now.book.state.going c.halt.new.board.book.state.going (sym c.is_at_end.ensures ∙ c.if-is_at_end.false) c.halt.ensures.stopped

pub returns : goal.returns
returns g c =
    let turns = c.args.turns in
    let old = c.args.board.now.book in
    let halted = c.halt.new.board.book in
    let closed = c.close_all.new.board.book in
    let new = c.retire_all.new.board.book in
    let stops = has-halted turns old.state.going halted.state.going (sym c.is_at_end.ensures ∙ c.if-is_at_end.false) c.halt.ensures.stopped in
    let free = none-has c.passes_act_in_steps.ensures.acts 0 _ old halted c.requires.free c.halt.ensures.acts in
    record {
      halted = halted;
      closed = closed;
      halts = c.halt.ensures.acts;
      closes = c.close_all.ensures.gone;
      retires = c.retire_all.ensures.retires;
      moment = c.retire_all.ensures.rest.moment ∙ c.close_all.ensures.rest.moment ∙ c.halt.ensures.moment;
      accepted = c.retire_all.ensures.rest.accepted ∙ c.close_all.ensures.rest.accepted ∙ c.halt.ensures.taken;
      going = subst (HaltsAs turns old.state.going) (sym (c.retire_all.ensures.going ∙ c.close_all.ensures.going)) c.halt.ensures.stopped;
      down = c.retire_all.ensures.down (ap is_halted c.close_all.ensures.going ∙ stops) (c.close_all.ensures.live free);
      timely =
          λ before. c.retire_all.ensures.retires.timely
          (stays-plain 0 _ None halted closed c.close_all.ensures.gone.acts c.show_state-2.ensures.after (plain-gone c.close_all.ensures.gone.gone)
          (not-at_end_halted halted.state stops)
          (halts-timely turns old halted c.halt.ensures.acts c.show_state.ensures.after (c.requires.end ∙ sym c.is_at_end.ensures ∙ c.if-is_at_end.false) before));
    }
