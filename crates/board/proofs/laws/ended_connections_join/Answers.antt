use Rattle.board.proofs.ClientLemmas.{ended_clients, ended_stay}
use Rattle.board.proofs.ClosedLemmas.{closed_count, closed_joined, ended_joined}
use Rattle.board.proofs.laws.ended_connections_join.Goals as goal

pub returns : goal.returns
returns c =
    record {
      closed = closed_joined;
      answered = ended_joined;
      outside = ended_clients;
      outside_stays = λ known old new ended keeps. ended_stay known old new ended keeps;
      many = closed_count;
    }
