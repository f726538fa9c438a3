use Rattle.std.proofs.Common.{refl, rules}
use Rattle.rounds.specs.ClosingInside.{DrainsUntil, IsDrainedWay}
use Rattle.rounds.proofs.ClosingLemmas.{lets-more, lets-none}
use Rattle.rounds.proofs.ActLemmas.{rest_same}
use Rattle.rounds.proofs.closing.drain_all.Goals as goal

pub loop-name-init : goal.loop-name-init
loop-name-init g c =
    record {
      gone = lets-none c.passes_act_in_steps.ensures.acts IsDrainedWay c.args.board.now.book c.requires.free;
      none_late = c.requires.none_late;
      rest = rest_same c.args.board.now.book c.args.board.now.book refl;
    }

pub drain-requires-clause-free : goal.drain-requires-clause-free
drain-requires-clause-free g c = c.loop-name.invariant.gone.acts.row

pub loop-name-preserved : goal.loop-name-preserved
loop-name-preserved g c =
    record {
      gone =
          lets-more c.passes_act_in_steps.ensures.acts IsDrainedWay c.in-Some.name c.args.board.now.book c.loop-name.board.book c.drain.new.board.book c.loop-name.invariant.gone
          c.in_ok-drain.ensures.drains;
      none_late = c.in_ok-drain.ensures.none_late;
      rest = c.passes_act_in_steps.ensures.rest c.args.board.now.book c.loop-name.board.book c.drain.new.board.book c.loop-name.invariant.rest c.drain.ensures.rest;
    }

pub returns-in_err-drain-clause-until : goal.returns-in_err-drain-clause-until
returns-in_err-drain-clause-until g c =
    let until : DrainsUntil c.in_err-drain.field-0.0 c.args.board.now.book c.drain.new.board.book =
    record { book = c.loop-name.board.book; drains = c.loop-name.invariant.gone; last = c.in_err-drain.ensures.until } in
    search (rules, until)
