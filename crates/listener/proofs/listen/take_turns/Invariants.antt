use Rattle.listener.specs.Counted.{AsksOnce}
use Rattle.listener.specs.CountedInside.{ClocksAt}
use Rattle.listener_round.specs.CountedInside.{CountsOn}
use Rattle.listener.specs.TurnsInside.{listener_of}
use Rattle.listener.proofs.OverLemmas.{IsBeforeTurn}
use Rattle.listener.proofs.listen.take_turns.Given as goal

-- between two turns the server goes on, no pass has a connection, and all that the waits and the clock gave was done; no command line
-- that was read stops it, the clock tells exactly where it did, the run stands as it did at first, and the newest generation is served by its edition
abbrev pub invariant-loop : goal.invariant-loop
invariant-loop g l =
    record {
      turn : IsBeforeTurn g.N.Known.known
          (listener_of l.fn.listener.board (g.F.Front.seen l.fn.front) (g.C.Clock.told l.fn.clock) l.fn.listener.ready l.fn.listener.edition (g.D.Store.seen l.fn.store)
          l.fn.listener.config (g.K.Sink.seen l.fn.out) l.fn.listener.written) l.rest
          (listener_of l.listener.board (g.F.Front.seen l.front) (g.C.Clock.told l.clock) l.listener.ready l.listener.edition (g.D.Store.seen l.store) l.listener.config (g.K.Sink.seen l.out)
          l.listener.written);
      counts : CountsOn 0 (g.F.Front.seen l.fn.front).counts (g.F.Front.seen l.front).counts l.fn.listener.board.book l.listener.board.book;
      asked : AsksOnce (g.F.Front.seen l.fn.front).counts.wakes (g.F.Front.seen l.front).counts.wakes (g.C.Clock.asked l.fn.clock) (g.C.Clock.asked l.clock);
      clock : ClocksAt (g.C.Clock.greatest l.fn.clock) (g.C.Clock.greatest l.clock) l.fn.listener.board.book.state l.listener.board.book.state;
    }
