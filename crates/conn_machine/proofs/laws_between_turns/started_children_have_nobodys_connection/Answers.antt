use Rattle.conn_machine.proofs.BetweenTurnsLaw.{started_nobodys, started_none_live, started_none_works, started_other}
use Rattle.conn_machine.proofs.laws_between_turns.started_children_have_nobodys_connection.Goals as goal

pub returns : goal.returns
returns c =
    record {
      none_live = started_none_live;
      none_works = started_none_works;
      other = started_other;
      nobodys = started_nobodys;
    }
