use Rattle.conn_machine.proofs.OwnKindsLaw.{kinds_are_own, named_by_next}
use Rattle.conn_machine.proofs.laws_between_turns.own_events_tell_what_was_taken.Goals as goal

pub returns : goal.returns
returns c =
    record {
      kinds = kinds_are_own;
      named = named_by_next;
    }
