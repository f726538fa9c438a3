-- What is left of a run.
use Rattle.std.proofs.Common.{◌≡◌, inl, inr, ℕ, List, Option, Some, IfSome, sym, subst, arith, ◌++◌, option_map}
use Rattle.mpm_base.specs.Front.{FrontSeen}
use Rattle.conn_machine.specs.declared.event.Why.TheVariants as why
use Rattle.conn_machine.specs.declared.state.Going.{Going}
use Rattle.conn_machine.specs.declared.state.Going.TheVariants.{Halted}
use Rattle.conn_machine.specs.declared.state.State.{State}
use Rattle.board_book.specs.Book.{SeenBook}
use Rattle.board.specs.Board.{SeenBoard, AreOfOutside, EndedOfOutside}
use Rattle.run_report.specs.EndingsInside.{IsEnd}
use Rattle.listener.specs.Stops.{HasEnded, StoppedFor}
use Rattle.run_report.proofs.CountLemmas.{never-rises}
use Rattle.mpm_base.specs.Count.{NeverFalls}
use Rattle.mpm_base.specs.Store.{StoreSeen, StoreTold}
use Rattle.conn_machine.specs.declared.event.Entry.{Entry}
use Rattle.conn_state.specs.Answered.{SeenEnded}
use Rattle.conn_state.specs.Known.{KnownOutside}
use Rattle.board_book.specs.Editions.{KeepsEditions}
use Rattle.board.specs.Editions.{GenerationsKeepTheirEditions}
use Rattle.listener.specs.Counted.{CountsRun, GivesNoEnding}
use Rattle.listener_round.specs.HeardInside.{WritesOn}
use Rattle.listener.specs.RunsInside.{BacksWaits, HasRunBy, open_lines_of}
use Rattle.listener_round.specs.FirstNumbers.{numbers_of}
use Rattle.listener_round.specs.Generations.{Opening, renewed}
use Rattle.listener.specs.Listen.{HasClosedAll, IsRunFrom}
use Rattle.listener_round.specs.OrdersInside.{known_outside}
use Rattle.listener.specs.Served.{all_ended}
use Rattle.listener_round.specs.Folded.{all_entries}
use Rattle.listener.specs.Outside.{KeepsFront}
use Rattle.listener_round.specs.Times.{IsInTime, waits_of}
use Rattle.listener.specs.TurnsInside.{HasStood, SeenListener}
use Rattle.listener_round.specs.declared.run_numbers.RunNumbers.{RunNumbers}
use Rattle.listener_round.specs.Stores.{IsRenewed, KeepsStore, RisesBy}
use Rattle.listener.proofs.ServedLemmas.{serves-editions}

-- ## Why the server stopped

-- it stopped because nothing more could come
pub stopped-ended : (old new : FrontSeen) (s : State) → StoppedFor old new s → s.going ≡ Halted why.FrontEnded → HasEnded old new s
stopped-ended old new s (inl ended) going = ended
stopped-ended old new s (inr (inl asked)) going = absurd (cc (asked.going, going))
stopped-ended old new s (inr (inr (inl failed))) going = absurd (cc (failed.going, going))
stopped-ended old new s (inr (inr (inr (inl no_memory)))) going = absurd (cc (no_memory, going))
stopped-ended old new s (inr (inr (inr (inr (inl ending))))) going = absurd (cc (ending.1, going))
stopped-ended old new s (inr (inr (inr (inr (inr overdue))))) going = absurd (cc (overdue, going))

-- it stopped for one of these, or ended
pub stopped-end : (old new : FrontSeen) (s : State) → StoppedFor old new s → IsEnd s.going
stopped-end old new s (inl ended) = inl ended.going
stopped-end old new s (inr (inl asked)) = inr (inl asked.going)
stopped-end old new s (inr (inr (inl failed))) = inr (inr (inl failed.going))
stopped-end old new s (inr (inr (inr (inl no_memory)))) = inr (inr (inr (inl no_memory)))
stopped-end old new s (inr (inr (inr (inr gracefully)))) = inr (inr (inr (inr gracefully)))

-- one whose front never failed didn't stop for that
pub never-failed : (old new : FrontSeen) (s : State) → StoppedFor old new s → new.counts.faults ≡ 0 → s.going ≡ Halted why.FrontFailed → ⊥
never-failed old new s (inl ended) still going = absurd (cc (ended.going, going))
never-failed old new s (inr (inl asked)) still going = absurd (cc (asked.going, going))
never-failed old new s (inr (inr (inl failed))) still going = never-rises old.counts.faults new.counts.faults failed.failed still
never-failed old new s (inr (inr (inr (inl no_memory)))) still going = absurd (cc (no_memory, going))
never-failed old new s (inr (inr (inr (inr (inl ending))))) still going = absurd (cc (ending.1, going))
never-failed old new s (inr (inr (inr (inr (inr overdue))))) still going = absurd (cc (overdue, going))

-- ## A store that was asked before

-- a count that rose by so many behind one that didn't fall
rises-by-behind : (many a b c : ℕ) → NeverFalls a b → RisesBy many b c → RisesBy many a c
rises-by-behind many a b c first (inl more) = inl (omega (arith, first, more))
rises-by-behind many a b c first (inr full) = inr full

-- what became of the store since it was asked holds since before too
renewed-since : (renewals : ℕ) (history : List Entry) (old mid new : StoreSeen) → mid.told ≡ old.told → NeverFalls old.counts.faults mid.counts.faults
    → IsRenewed renewals history mid new → IsRenewed renewals history old new
renewed-since renewals history old mid new same faults is = record {
  told = subst (λ (told : Option StoreTold). new.told ≡ option_map (renewed renewals) told) same is.told;
  failed = rises-by-behind _ old.counts.faults mid.counts.faults new.counts.faults faults is.failed;
}

-- so it is of what a run keeps of it
pub store-since : (going : Going) (history : List Entry) (old mid new : StoreSeen) → mid.told ≡ old.told → NeverFalls old.counts.faults mid.counts.faults
    → KeepsStore going history mid new → KeepsStore going history old new
store-since going history old mid new same faults (inl is) = inl (renewed-since _ history old mid new same faults is)
store-since going history old mid new same faults (inr broken) = inr (broken.0, renewed-since _ history old mid new same faults broken.1)

-- ## A run

-- what a server that ran by these numbers left of its listener
pub record LeavesRun (o : Opening) (n : RunNumbers) (first l : SeenListener) : Type 0 where
  pub run : IsRunFrom n l.board
  pub stood : HasStood (Some (known_outside o)) o n first l
  pub closed : HasClosedAll l.board
  pub outside : AreOfOutside (Some (known_outside o)) l.board
  pub front : IfSome l.front.told (KeepsFront n l.board.book.state (all_entries n l.board.book stood.folded) (all_ended n l.board stood.folded))
  pub time : IsInTime (waits_of l.front.told) l.calls
  pub stopped : StoppedFor o.front l.front l.board.book.state
  pub counted : CountsRun l.board.book o.front.counts l.front.counts
  pub unended : GivesNoEnding l.board.book.state.going (all_entries n l.board.book stood.folded) o.front.counts l.front.counts
  pub backed : BacksWaits n l.board

-- such a run, and what it wrote since the listener was the one
abbrev pub HasWritten : Opening → SeenListener → SeenListener → SeenBoard → Type 0
HasWritten o first l b = (run : HasRunBy o l.store l.front l.calls b) × WritesOn (open_lines_of run) first.out first.written l.out l.written

-- the laws of editions, and of connections that ended
module _ (keep : GenerationsKeepTheirEditions) (join : (known : Option KnownOutside) (book : SeenBook) (ended ended' : List SeenEnded) → EndedOfOutside known book ended → EndedOfOutside known book ended' → EndedOfOutside known book (ended ++ ended')) (stay : (known : Option KnownOutside) (old new : SeenBook) (ended : List SeenEnded) → KeepsEditions old new → EndedOfOutside known old ended → EndedOfOutside known new ended) where
  -- a run that opened so, over the store, the front and the clock that it left so, and what it wrote
  pub has-run-by : (o : Opening) (n : RunNumbers) (first l : SeenListener) (b : SeenBoard) → n ≡ numbers_of o.config → b ≡ l.board → LeavesRun o n first l
      → HasWritten o first l b
  has-run-by o n first l b numbers same leaves =
      let left : LeavesRun o (numbers_of o.config) first l = subst (λ (m : RunNumbers). LeavesRun o m first l) numbers leaves in
      let stood = left.stood in
      let m = numbers_of o.config in
      subst (HasWritten o first l) (sym same) (
        record {
          has_run = record {
            run = left.run;
            folded = stood.folded;
            closed = left.closed;
            ordered = stood.ordered;
            served = serves-editions keep join stay o m l.board stood.folded stood.outside left.outside.ended;
            backed = left.backed stood.folded;
          };
          outside = record {
            front = left.front;
            time = left.time;
            pace = stood.pace;
            patient = stood.keeps.patient;
            stopped = left.stopped;
          };
          counted = left.counted;
          unended = left.unended;
          given = stood.given;
          lines = stood.lines;
          store_is = stood.store;
        },
        stood.writes,
      )
