-- How a run stands behind the parts of a round in which nothing is ordered.
use Rattle.std.proofs.Common.{◌≡◌, ℕ, Bool, None, Option, refl, ap, subst}
use Rattle.mpm_base.specs.Front.{FrontSeen}
use Rattle.mpm_base.specs.Store.{StoreSeen}
use Rattle.conn_machine.specs.States.{is_serving}
use Rattle.conn_state.specs.Known.{KnownOutside}
use Rattle.board_book.specs.Book.{SeenBook}
use Rattle.listener_round.specs.Generations.{Opening}
use Rattle.listener_round.specs.OrdersInside.{owed_by}
use Rattle.listener_round.specs.StandingInside.{Past, Standing, StandsBroken, StandsOn, StandsSo, standing}
use Rattle.listener_round.specs.declared.edition.NamedConfig.{NamedConfig}
use Rattle.rounds.specs.PartsInside.{StaysTimely}
use Rattle.listener_round.specs.declared.run_numbers.RunNumbers.{RunNumbers}
use Rattle.listener_round.proofs.CommandlessLemmas.{commandless-added}
use Rattle.listener_round.proofs.PartLemmas.{ActsOrderless}
use Rattle.listener_round.proofs.StandingLemmas.{SameLines, SameRest, acts-stand, broken-behind, broken-none, same-lines, stands-acts, stands-before, stands-more}

-- what isn't of the history is as it was
same-rest : (ms ms' : ℕ) (store : StoreSeen) (front front' : FrontSeen) (a b : SeenBook) → ActsOrderless a b → b.state.going ≡ a.state.going → ms' ≡ ms
    → SameLines front front' → SameRest (standing ms store front a) (standing ms' store front' b)
same-rest ms ms' store front front' a b orderless going stop lines = record {
  passes = orderless.acts.passes;
  serving = ap is_serving going;
  stop = stop;
  store = refl;
  front = lines;
}

-- so it stands then as it stood, whatever is left
pub so-orderless : (known : Option KnownOutside) (spare owed : ℕ) (ms ms' : ℕ) (store : StoreSeen) (front front' : FrontSeen) (a b : SeenBook)
    → ActsOrderless a b → b.state.going ≡ a.state.going → ms' ≡ ms → SameLines front front' → (o : Opening) (n : RunNumbers) (past : Past)
    → StandsSo known o n past spare owed (standing ms store front a) → StandsSo known o n past spare owed (standing ms' store front' b)
so-orderless known spare owed ms ms' store front front' a b orderless going stop lines o n past stood =
    stands-acts known o n past spare owed 0 orderless.events None (standing ms store front a) (standing ms' store front' b) orderless.acts
    (commandless-added 0 orderless.events None a b orderless.acts orderless.none)
    (same-rest ms ms' store front front' a b orderless going stop lines) stood

-- behind what came before the orders
pub stands-orderless : (known : Option KnownOutside) (c : NamedConfig) (ms : ℕ) (store : StoreSeen) (front : FrontSeen) (a b : SeenBook) → ActsOrderless a b
    → b.state.going ≡ a.state.going → StandsOn known c 0 0 (standing ms store front a) (standing ms store front b)
stands-orderless known c ms store front a b orderless going =
    acts-stand known c 0 orderless.events None (standing ms store front a) (standing ms store front b) orderless.acts
    (commandless-added 0 orderless.events None a b orderless.acts orderless.none)
    (same-rest ms ms store front front a b orderless going refl (same-lines front))

-- where that was broken off
pub broken-orderless : (known : Option KnownOutside) (c : NamedConfig) (ms : ℕ) (store : StoreSeen) (front : FrontSeen) (a b : SeenBook) → ActsOrderless a b
    → b.state.going ≡ a.state.going → StandsBroken known c (standing ms store front a) (standing ms store front b)
broken-orderless known c ms store front a b orderless going =
    broken-none known c (standing ms store front a) (standing ms store front b) (stands-orderless known c ms store front a b orderless going)

-- behind the orders, that were broken off
pub broken-orders : (known : Option KnownOutside) (c : NamedConfig) (ms : ℕ) (store : StoreSeen) (front : FrontSeen) (a d : SeenBook) (e : Standing)
    → ActsOrderless a d → d.state.going ≡ a.state.going → StaysTimely a d → StandsBroken known c (standing ms store front d) e
    → StandsBroken known c (standing ms store front a) e
broken-orders known c ms store front a d e orderless going timely broken =
    broken-behind known c (standing ms store front a) (standing ms store front d) e (stands-orderless known c ms store front a d orderless going)
    timely broken

-- behind the orders, the last of which asks to stop or doesn't
pub stands-orders : (known : Option KnownOutside) (c : NamedConfig) (asked stops : Bool) (ms : ℕ) (store : StoreSeen) (front : FrontSeen) (a d : SeenBook)
    (e : Standing) → asked ≡ stops → ActsOrderless a d → d.state.going ≡ a.state.going → StaysTimely a d → StandsOn known c 0 (owed_by asked) (standing ms store front d) e
    → StandsOn known c 0 (owed_by stops) (standing ms store front a) e
stands-orders known c asked stops ms store front a d e is orderless going timely stands =
    stands-more known c 0 (owed_by stops) (standing ms store front a) (standing ms store front d) e
    (stands-orderless known c ms store front a d orderless going) timely
    (subst (λ (b : Bool). StandsOn known c 0 (owed_by b) (standing ms store front d) e) is stands)

-- and behind what came then
pub stands-behind : (known : Option KnownOutside) (c : NamedConfig) (first : Standing) (ms ms' : ℕ) (store : StoreSeen) (front front' : FrontSeen) (a b : SeenBook)
    → ActsOrderless a b → b.state.going ≡ a.state.going → ms' ≡ ms → SameLines front front' → StandsOn known c 0 0 first (standing ms store front a)
    → StandsOn known c 0 0 first (standing ms' store front' b)
stands-behind known c first ms ms' store front front' a b orderless going stop lines stands =
    stands-before known c 0 0 first (standing ms store front a) (standing ms' store front' b) stands
    (so-orderless known 0 0 ms ms' store front front' a b orderless going stop lines)

-- where that was broken off
pub broken-after : (known : Option KnownOutside) (c : NamedConfig) (first : Standing) (ms ms' : ℕ) (store : StoreSeen) (front front' : FrontSeen) (a b : SeenBook)
    → ActsOrderless a b → b.state.going ≡ a.state.going → ms' ≡ ms → SameLines front front' → StandsOn known c 0 0 first (standing ms store front a)
    → StandsBroken known c first (standing ms' store front' b)
broken-after known c first ms ms' store front front' a b orderless going stop lines stands =
    broken-none known c first (standing ms' store front' b)
    (stands-behind known c first ms ms' store front front' a b orderless going stop lines stands)
