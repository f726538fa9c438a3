use Rattle.std.proofs.Common.{None}
use Rattle.rounds.proofs.ClosingLemmas.{acts-state}
use Rattle.rounds.proofs.closing.linger_for.Goals as goal

pub returns-clause-left : goal.returns-clause-left
returns-clause-left g c =
    let left = c.let_linger.ensures.left in
    record {
      way = left.0;
      out = left.1;
      acts = left.2;
      state =
          acts-state c.histories_join.ensures.state 0 _ None c.args.board.now.book c.let_linger.new.board.book c.show.ensures.state c.show-2.ensures.state left.2;
    }
