use Rattle.std.proofs.Common.{◌≡◌, IfSome}
use Rattle.worker_group.specs.Service.{IsUp}
use Rattle.listener_round.specs.CountedInside.{CountsOn}
use Rattle.listener_round.specs.HeardInside.{HearsBehind, hearing}
use Rattle.listener_round.specs.FrontInside.{HasNoneToHeed, IsInStep}
use Rattle.listener_round.specs.OrdersInside.{KnowsComing, ServesNewest}
use Rattle.listener_round.specs.StandingInside.{standing}
use Rattle.listener_round.proofs.HeedLemmas.{HasHeeded}
use Rattle.listener_round.proofs.listener_state.Listener.heed.Given as goal

-- each line that was read was done, and none of them stops the server
abbrev pub invariant-loop : goal.invariant-loop
invariant-loop g l =
    record {
      heeded : HasHeeded g.N.Known.known l.fn.self.config l.fn.self.edition.stop_ms l.self.edition.stop_ms (g.D.Store.seen l.fn.store)
          (g.D.Store.seen l.store) (g.F.Front.seen l.fn.front) (g.F.Front.seen l.front) l.fn.self.board.book l.self.board.book;
      counts : CountsOn 0 (g.F.Front.seen l.fn.front).counts (g.F.Front.seen l.front).counts l.fn.self.board.book l.self.board.book;
      wakes : (g.F.Front.seen l.front).counts.wakes ≡ (g.F.Front.seen l.fn.front).counts.wakes;
      knows : KnowsComing g.N.Known.known l.self.board.book l.self.config (g.D.Store.seen l.store).told;
      serves : ServesNewest g.N.Known.known l.self.board.book l.self.edition;
      up : IsUp l.self.board.book.state.going;
      step : IsInStep (g.F.Front.seen l.front).told l.self.board.book.state;
      none : IfSome (g.F.Front.seen l.front).told HasNoneToHeed;
      hears : HearsBehind g.N.Known.known l.fn.self.config l.answer (g.F.Front.seen l.front)
          (hearing (standing l.fn.self.edition.stop_ms (g.D.Store.seen l.fn.store) (g.F.Front.seen l.fn.front) l.fn.self.board.book)
          (g.K.Sink.seen l.fn.out) l.fn.self.written)
          (λ f. hearing (standing l.self.edition.stop_ms (g.D.Store.seen l.store) f l.self.board.book) (g.K.Sink.seen l.out) l.self.written);
      others : l.self ≡ record l.fn.self { board = l.self.board; edition = l.self.edition; written = l.self.written };
    }
