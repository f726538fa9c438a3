use Rattle.conn_machine.specs.States.{opening_state}
use Rattle.board.proofs.RankLemmas.{rank_of_none, rank_where_none_live, ranks_are_arrivals}
use Rattle.board.proofs.laws.ended_links_are_of_closed_connections.Goals as goal

pub returns : goal.returns
returns c =
    record {
      ranks = ranks_are_arrivals;
      once = λ slots children shape history ended rank run closed tell none few below.
          rank_where_none_live (opening_state slots children shape) history ended rank 1 closed tell none
          (c.arrivals_are_taken_once.ensures.once slots children shape history rank run few below);
      no_other = λ slots children shape history ended rank run closed tell few beyond.
          rank_of_none (opening_state slots children shape) history ended rank closed tell
          (c.arrivals_are_taken_once.ensures.no_other slots children shape history rank run few beyond);
    }
