use Rattle.std.proofs.Common.{ap, refl, ◌∙◌}
use Rattle.conn_machine.specs.States.{is_halted}
use Rattle.rounds.specs.ClosingInside.{IsHaltedWay}
use Rattle.rounds.proofs.ClosingLemmas.{lets-more, lets-none}
use Rattle.rounds.proofs.ActLemmas.{none-has, rest_same}
use Rattle.rounds.proofs.down.close_all.Goals as goal

pub loop-name-init : goal.loop-name-init
loop-name-init g c =
    record {
      gone = lets-none c.passes_act_in_steps.ensures.acts IsHaltedWay c.args.board.now.book c.requires.free;
      rest = rest_same c.args.board.now.book c.args.board.now.book refl;
      going = refl;
    }

pub close_one-requires-clause-free : goal.close_one-requires-clause-free
close_one-requires-clause-free g c = c.loop-name.invariant.gone.acts.row

pub close_one-requires-clause-halted : goal.close_one-requires-clause-halted
close_one-requires-clause-halted g c = ap is_halted c.loop-name.invariant.going ∙ c.requires.halted

pub loop-name-preserved : goal.loop-name-preserved
loop-name-preserved g c =
    record {
      gone =
          lets-more c.passes_act_in_steps.ensures.acts IsHaltedWay c.in-Some.name c.args.board.now.book c.loop-name.board.book c.close_one.new.board.book c.loop-name.invariant.gone
          c.close_one.ensures.gone;
      rest =
          c.passes_act_in_steps.ensures.rest c.args.board.now.book c.loop-name.board.book c.close_one.new.board.book c.loop-name.invariant.rest c.close_one.ensures.rest;
      going = c.close_one.ensures.going ∙ c.loop-name.invariant.going;
    }

pub returns-clause-none : goal.returns-clause-none
returns-clause-none g c = c.in_default.ensures

pub returns-clause-live : goal.returns-clause-live
returns-clause-live g c none =
    c.show_none_live.ensures (none-has c.passes_act_in_steps.ensures.acts 0 _ c.args.board.now.book c.loop-name.board.book none c.loop-name.invariant.gone.acts) c.in_default.ensures
