use Rattle.std.proofs.Common.{[], None, refl}
use Rattle.rounds.specs.ClosingInside.{IsLateWay}
use Rattle.rounds.proofs.ClosingLemmas.{lets-more}
use Rattle.rounds.proofs.MeasureLemmas.{late-found}
use Rattle.rounds.proofs.TimeLemmas.{none-late}
use Rattle.rounds.proofs.ActLemmas.{rest_same}
use Rattle.rounds.proofs.closing.let_go_late.Goals as goal

pub loop-name-init : goal.loop-name-init
loop-name-init g c =
    record {
      gone =
          record {
            lets = record { gone = []; ways = tt; acts = c.passes_act_in_steps.ensures.acts.none 0 None c.args.board.now.book c.requires.free };
            soon = λ none. refl;
          };
      still = λ none. none;
      rest = rest_same c.args.board.now.book c.args.board.now.book refl;
    }

pub let_go_late_one-requires-clause-free : goal.let_go_late_one-requires-clause-free
let_go_late_one-requires-clause-free g c = c.loop-name.invariant.gone.lets.acts.row

pub loop-name-preserved : goal.loop-name-preserved
loop-name-preserved g c =
    let late = c.in-Some.ensures.late in
    let still = c.loop-name.invariant.still in
    record {
      gone =
          record {
            lets =
                lets-more c.passes_act_in_steps.ensures.acts IsLateWay c.in-Some.name c.args.board.now.book c.loop-name.board.book c.let_go_late_one.new.board.book
                c.loop-name.invariant.gone.lets c.let_go_late_one.ensures.gone;
            soon = λ none. absurd (late-found c.loop-name.board.book.state c.in-Some.name late (still none));
          };
      still = λ none. absurd (late-found c.loop-name.board.book.state c.in-Some.name late (still none));
      rest =
          c.passes_act_in_steps.ensures.rest c.args.board.now.book c.loop-name.board.book c.let_go_late_one.new.board.book c.loop-name.invariant.rest
          c.let_go_late_one.ensures.rest;
    }

pub returns-clause-none : goal.returns-clause-none
returns-clause-none g c = none-late c.loop-name.board.book.state c.in_default.ensures.late
