use Rattle.board.proofs.BackedLemmas.{backed-first, backed-none, backed-on, backed-read, backed-write}
use Rattle.board.proofs.laws.waits_are_backed_by_calls.Goals as goal

pub returns : goal.returns
returns c =
    record {
      stay = backed-on;
      read = backed-read;
      write = backed-write;
      none = backed-none;
      first = backed-first;
    }
