-- That listening is stopped at the end, and that nothing is left to be done behind a graceful stop that is at its end.
use Rattle.std.proofs.Common.{◌≡◌, true, [], None, Result, Ok, Err, refl}
use Rattle.board_book.specs.declared.faults.BoardFault.{BoardFault}
use Rattle.board_book.specs.Book.{SeenBook}
use Rattle.worker_group.specs.Acts.{ActsInSteps}
use Rattle.rounds.specs.declared.ends.End.{End}
use Rattle.rounds.specs.declared.ends.End.TheVariants as end
use Rattle.rounds.specs.EndsInside.{IsAllGone, MustHalt, is_at_end}
use Rattle.rounds.specs.PartsInside.{GoesDown, NoneHas}
use Rattle.rounds.proofs.ActLemmas.{retires-none}

-- ## A graceful stop that is at its end

down-here : ActsInSteps → (b : SeenBook) → NoneHas b → IsAllGone b.state → GoesDown (Ok end.Gone) b b
down-here steps b free gone = record {
  halted = b;
  closed = b;
  halts = steps.none 0 None b (free 0);
  closes = record { gone = []; ways = tt; acts = steps.none 0 None b (free 0) };
  retires = retires-none steps b (free 0);
  moment = refl;
  accepted = refl;
  going = refl;
  down = gone.down;
  timely = λ before. before;
}

pub down-gone : ActsInSteps → (turns : Result End BoardFault) (b : SeenBook) → is_at_end turns ≡ true → NoneHas b → MustHalt turns b → GoesDown turns b b
down-gone steps (Ok end.Ended) b is free must = absurd (cc is)
down-gone steps (Ok end.Asked) b is free must = absurd (cc is)
down-gone steps (Ok end.Failed) b is free must = absurd (cc is)
down-gone steps (Ok end.Overdue) b is free must = absurd (cc is)
down-gone steps (Ok end.Gone) b is free must = down-here steps b free must
down-gone steps (Err fault) b is free must = absurd (cc is)
