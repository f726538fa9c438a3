use Rattle.std.proofs.Common.{refl}
use Rattle.rounds.specs.ClosingInside.{IsRetiringWay}
use Rattle.rounds.proofs.ClosingLemmas.{lets-more, lets-none}
use Rattle.rounds.proofs.ActLemmas.{rest_same}
use Rattle.rounds.proofs.closing.let_go_retiring.Goals as goal

pub returns-then-not-all_signalled-clause-gone : goal.returns-then-not-all_signalled-clause-gone
returns-then-not-all_signalled-clause-gone g c = lets-none c.passes_act_in_steps.ensures.acts IsRetiringWay c.args.board.now.book c.requires.free

pub returns-then-not-all_signalled-clause-rest : goal.returns-then-not-all_signalled-clause-rest
returns-then-not-all_signalled-clause-rest g c = rest_same c.args.board.now.book c.args.board.now.book refl

pub loop-name-init : goal.loop-name-init
loop-name-init g c =
    record { gone = lets-none c.passes_act_in_steps.ensures.acts IsRetiringWay c.args.board.now.book c.requires.free; rest = rest_same c.args.board.now.book c.args.board.now.book refl }

pub let_go_retiring_one-requires-clause-free : goal.let_go_retiring_one-requires-clause-free
let_go_retiring_one-requires-clause-free g c = c.loop-name.invariant.gone.acts.row

pub loop-name-preserved : goal.loop-name-preserved
loop-name-preserved g c =
    record {
      gone =
          lets-more c.passes_act_in_steps.ensures.acts IsRetiringWay c.in-Some.name c.args.board.now.book c.loop-name.board.book c.let_go_retiring_one.new.board.book
          c.loop-name.invariant.gone c.let_go_retiring_one.ensures.gone;
      rest =
          c.passes_act_in_steps.ensures.rest c.args.board.now.book c.loop-name.board.book c.let_go_retiring_one.new.board.book c.loop-name.invariant.rest
          c.let_go_retiring_one.ensures.rest;
    }
