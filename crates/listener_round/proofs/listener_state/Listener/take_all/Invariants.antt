use Rattle.std.proofs.Common.{◌≡◌}
use Rattle.mpm_base.specs.Front.{TellsOn}
use Rattle.listener_round.specs.FrontInside.{Follows, IsInStep, OnlyTakes, StaysWatching}
use Rattle.listener_round.specs.CountedInside.{CountsOn}
use Rattle.listener_round.specs.HeardInside.{KeepsHeard}
use Rattle.listener_round.specs.RoundInside.{TakesSome}
use Rattle.listener_round.specs.ShareInside.{TakesHanded}
use Rattle.rounds.specs.PartsInside.{StaysTimely}
use Rattle.rounds.specs.TableInside.{NoneDueLate}
use Rattle.listener_round.proofs.listener_state.Listener.take_all.Given as goal

-- connections were taken, and the table is in step with the front; no time passes, no
-- generation begins, and the server goes on as it did
abbrev pub invariant-loop : goal.invariant-loop
invariant-loop g l =
    record {
      takes : TakesSome l.fn.self.board.book l.self.board.book;
      going : l.self.board.book.state.going ≡ l.fn.self.board.book.state.going;
      newest : l.self.board.book.state.newest ≡ l.fn.self.board.book.state.newest;
      moment : l.self.board.book.state.moment ≡ l.fn.self.board.book.state.moment;
      step : IsInStep (g.F.Front.seen l.front).told l.self.board.book.state;
      counts : CountsOn 0 (g.F.Front.seen l.fn.front).counts (g.F.Front.seen l.front).counts l.fn.self.board.book l.self.board.book;
      wakes : (g.F.Front.seen l.front).counts.wakes ≡ (g.F.Front.seen l.fn.front).counts.wakes;
      heard : KeepsHeard (g.F.Front.seen l.fn.front) (g.F.Front.seen l.front);
      follows : Follows (g.F.Front.seen l.fn.front) (g.F.Front.seen l.front);
      front : TellsOn OnlyTakes (g.F.Front.seen l.fn.front).told (g.F.Front.seen l.front).told;
      watched : StaysWatching (g.F.Front.seen l.fn.front).told (g.F.Front.seen l.front).told l.fn.self.board.book l.self.board.book;
      handed : TakesHanded 0 (g.F.Front.seen l.fn.front).told (g.F.Front.seen l.front).told l.fn.self.board.book l.self.board.book;
      timely : StaysTimely l.fn.self.board.book l.self.board.book;
      children : l.self.board.book.state.children ≡ l.fn.self.board.book.state.children;
      in_time : NoneDueLate l.fn.self.board.book.state → NoneDueLate l.self.board.book.state;
      edition : l.self.edition ≡ l.fn.self.edition;
      ready : l.self.ready ≡ l.fn.self.ready;
      config : l.self.config ≡ l.fn.self.config;
      written : l.self.written ≡ l.fn.self.written;
    }
