-- Why the server stopped.
use Rattle.std.proofs.Common.{◌≡◌, inl, inr, ℕ, List, IfSome, Result, Ok, Err, sym, ap, subst, ◌∙◌}
use Rattle.mpm_base.specs.Count.{Rises}
use Rattle.mpm_base.specs.Front.{FrontSeen, FrontTold, after_answer, after_hush}
use Rattle.mpm_base.specs.declared.given_words.GivenWords.{GivenWords}
use Rattle.conn_machine.specs.declared.event.Why.TheVariants as why
use Rattle.conn_machine.specs.declared.state.Going.{Going}
use Rattle.conn_machine.specs.declared.state.Going.TheVariants.{Halted}
use Rattle.conn_machine.specs.declared.state.State.{State}
use Rattle.board_book.specs.declared.faults.BoardFault.{BoardFault}
use Rattle.board_book.specs.Book.{SeenBook}
use Rattle.rounds.specs.declared.ends.End.{End}
use Rattle.rounds.specs.declared.ends.End.TheVariants as end
use Rattle.listener_round.specs.Commands.{HeedsLines}
use Rattle.listener_round.specs.Links.{TakesLinks}
use Rattle.listener.specs.ListenInside.{AnswersStop, HandedOut, HasStopped, TurnsEnd}
use Rattle.listener.specs.Stops.{HasFailedLast, HasGivenAll, StoppedFor}
use Rattle.listener_round.specs.Watched.{IsHushed}
use Rattle.rounds.specs.EndsInside.{MustHalt}
use Rattle.rounds.specs.PartsInside.{GoesDown}
use Rattle.listener.proofs.FrontCallLemmas.{failed-hushed, given-hushed, left-counts, left-told}

pub has-stopped : (turns : Result End BoardFault) (first now front' : FrontSeen) (b d : SeenBook) → TurnsEnd turns first now b → GoesDown turns b d
    → front' ≡ after_hush now → HasStopped first front' d.state
has-stopped (Ok end.Ended) first now front' b d ends down is = record {
  down = down.down;
  cause =
      inl (record {
        going = down.going;
        all =
            record {
              answered = subst (Rises first.counts.ends) (sym (ap (λ (f : FrontSeen). f.counts.ends) is)) ends.all.answered;
              taken = given-hushed b.state d.state now.told front'.told (ap (λ (f : FrontSeen). f.told) is) down.accepted ends.all.taken;
            };
      });
}
has-stopped (Ok end.Asked) first now front' b d ends down is = record {
  down = down.down;
  cause =
      inr (inl (record {
        going = down.going;
        gave = subst (Rises first.counts.words.stop) (sym (ap (λ (f : FrontSeen). f.counts.words.stop) is)) ends.1;
      }));
}
has-stopped (Ok end.Failed) first now front' b d ends down is = record {
  down = down.down;
  cause =
      inr (inr (inl (record {
        going = down.going;
        failed = subst (Rises first.counts.faults) (sym (ap (λ (f : FrontSeen). f.counts.faults) is)) ends.1;
        last = failed-hushed now.told front'.told (ap (λ (f : FrontSeen). f.told) is) ends.2;
      })));
}
has-stopped (Ok end.Overdue) first now front' b d ends down is = record { down = down.down; cause = inr (inr (inr (inr (inr down.going)))) }
has-stopped (Ok end.Gone) first now front' b d ends down is = record {
  down = down.down;
  cause = inr (inr (inr (inr (inl (ends.until, down.going ∙ ends.going)))));
}
has-stopped (Err fault) first now front' b d ends down is = record { down = down.down; cause = inr (inr (inr (inl down.going))) }

-- the server may be stopped for what ended the turns
pub must-halt : (turns : Result End BoardFault) (first now : FrontSeen) (b : SeenBook) → TurnsEnd turns first now b → MustHalt turns b
must-halt (Ok end.Ended) first now b ends = (ends.going, ends.live)
must-halt (Ok end.Asked) first now b ends = ends.0
must-halt (Ok end.Failed) first now b ends = ends.0
must-halt (Ok end.Overdue) first now b ends = ends
must-halt (Ok end.Gone) first now b ends = ends
must-halt (Err fault) first now b ends = ends

-- ## Behind the answer of the last line

given-answered : (s : State) (text : List ℕ) (t : FrontTold) → HasGivenAll s t → HasGivenAll s (after_answer text t)
given-answered s text t given = record { left = given.left; read = given.read; taken = given.taken }

failed-answered : (text : List ℕ) (t : FrontTold) → HasFailedLast t → HasFailedLast (after_answer text t)
failed-answered text t failed = record { before = failed.before; last = failed.last; waits = failed.waits; failed = failed.failed }

-- it stopped for what it did
cause-left : (turns : Result End BoardFault) (first hushed front' : FrontSeen) (s : State) → AnswersStop turns hushed front' → StoppedFor first hushed s
    → StoppedFor first front' s
cause-left turns first hushed front' s given (inl ended) =
    inl (record {
      going = ended.going;
      all =
          record {
            answered = subst (Rises first.counts.ends) (sym (left-counts turns hushed front' given).ends) ended.all.answered;
            taken = left-told (HasGivenAll s) turns hushed front' (given-answered s) given ended.all.taken;
          };
    })
cause-left turns first hushed front' s given (inr (inl asked)) =
    inr (inl (record {
      going = asked.going;
      gave =
          subst (Rises first.counts.words.stop) (sym (ap (λ (w : GivenWords). w.stop) (left-counts turns hushed front' given).words)) asked.gave;
    }))
cause-left turns first hushed front' s given (inr (inr (inl failed))) =
    inr (inr (inl (record {
      going = failed.going;
      failed = subst (Rises first.counts.faults) (sym (left-counts turns hushed front' given).faults) failed.failed;
      last = left-told HasFailedLast turns hushed front' failed-answered given failed.last;
    })))
cause-left turns first hushed front' s given (inr (inr (inr other))) = inr (inr (inr other))

pub stopped-left : (turns : Result End BoardFault) (first hushed front' : FrontSeen) (s : State) → AnswersStop turns hushed front' → HasStopped first hushed s
    → HasStopped first front' s
stopped-left turns first hushed front' s given stopped =
    record { down = stopped.down; cause = cause-left turns first hushed front' s given stopped.cause }

-- no line is heeded but those that were
heeds-answered : (going : Going) (text : List ℕ) (t : FrontTold) → HeedsLines going t → HeedsLines going (after_answer text t)
heeds-answered (Halted why.Asked) text t heeds =
    λ few. record { before = (heeds few).before; lines_are = (heeds few).lines_are; none = (heeds few).none }
heeds-answered going text t heeds = heeds

pub heeds-left : (turns : Result End BoardFault) (hushed front' : FrontSeen) (going : Going) → AnswersStop turns hushed front'
    → IfSome hushed.told (HeedsLines going) → IfSome front'.told (HeedsLines going)
heeds-left turns hushed front' going given heeds = left-told (HeedsLines going) turns hushed front' (heeds-answered going) given heeds

-- and what became of the links is so
links-answered : (s : State) (text : List ℕ) (t : FrontTold) → TakesLinks s t → TakesLinks s (after_answer text t)
links-answered s text t (inl taken) = inl (record { accepted = taken.accepted; none = taken.none })
links-answered s text t (inr broken) = inr (broken.0, record { accepted = broken.1.accepted; one = broken.1.one })

pub links-left : (turns : Result End BoardFault) (hushed front' : FrontSeen) (s : State) → AnswersStop turns hushed front' → HandedOut hushed.told s
    → HandedOut front'.told s
links-left turns hushed front' s given links = left-told (TakesLinks s) turns hushed front' (links-answered s) given links

pub hushed-left : (turns : Result End BoardFault) (hushed front' : FrontSeen) → AnswersStop turns hushed front' → IfSome hushed.told IsHushed
    → IfSome front'.told IsHushed
hushed-left turns hushed front' given off = left-told IsHushed turns hushed front' (λ text t is. is) given off
