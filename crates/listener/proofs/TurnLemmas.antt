-- What holds of a listener between two turns, and how a turn keeps it.
use Rattle.std.proofs.Common.{◌≡◌, ℕ, List, [], Option, None, Some, IfSome, ap, sym, subst, refl, true, false, max, ◌∙◌}
use Rattle.mpm_base.specs.Front.{TellsOn}
use Rattle.conn_machine.specs.declared.event.Event.{Event}
use Rattle.conn_state.specs.Known.{KnownOutside}
use Rattle.board_book.specs.declared.faults.BoardFault.{BoardFault}
use Rattle.board.specs.Board.{SeenBoard}
use Rattle.board_book.specs.Book.{SeenBook}
use Rattle.board.specs.Editions.{GenerationsKeepTheirEditions}
use Rattle.worker_group.specs.Acts.{Acts, ActsInSteps}
use Rattle.worker_group.specs.Service.{IsUp, LeavesRest}
use Rattle.rounds.specs.declared.ends.End.{End}
use Rattle.rounds.specs.declared.ends.End.TheVariants as end
use Rattle.listener.specs.declared.listen.Pause.{Pause}
use Rattle.rounds.specs.declared.ends.Rest.{Rest}
use Rattle.listener_round.specs.FrontInside.{Follows, IsInStep, ListensAsServed, OnlyReadsAndTakes, StaysWatching}
use Rattle.listener.specs.ListenInside.{contacts_of}
use Rattle.listener_round.specs.OrdersInside.{KnowsComing, ServesNewest}
use Rattle.listener_round.specs.RoundInside.{BreaksOff, GoesRound, RoundEnds}
use Rattle.listener_round.specs.ShareInside.{CutsShare, GoesOnInTime, HushesFor, MakesShare}
use Rattle.rounds.specs.PartsInside.{NoneHas, PassesTime, ServesSome, StaysTimely, StartsSome}
use Rattle.rounds.specs.TableInside.{StandsInTime}
use Rattle.conn_machine.specs.States.{is_at_its_end, is_staffed}
use Rattle.board_book.specs.Timely.{AreTimely}
use Rattle.listener_round.specs.HeardInside.{Hearing, Hears, HearsUntil, hearing, last_at, made_first}
use Rattle.listener_round.specs.StandingInside.{StandsBroken, StandsOn, owed_at}
use Rattle.listener_round.specs.Times.{IsInTime, waits_of}
use Rattle.listener.specs.TurnsInside.{InTime, SeenListener, stands_at}
use Rattle.board_book.specs.Moments.{moment_for}
use Rattle.rounds.proofs.AddedLemmas.{added-events}
use Rattle.listener.proofs.BrokenLemmas.{ends-silently}
use Rattle.listener_round.proofs.CommandlessLemmas.{AreCommandless, commandless-served, commandless-starts}
use Rattle.listener_round.proofs.EditionLemmas.{coming-acts, newest-acts}
use Rattle.listener.proofs.FrontLemmas.{contacts-kept, contacts-wait, follows-wait, step-wait, time-kept, time-wait, waits-after, waits-kept}
use Rattle.listener_round.proofs.FrontLemmas.{follows-same, follows-trans, step-kept}
use Rattle.rounds.proofs.PassLemmas.{serves-acts}
use Rattle.rounds.proofs.ActLemmas.{none-has}
use Rattle.rounds.proofs.TimelyLemmas.{still-in_time}
use Rattle.listener.proofs.WaitLemmas.{HasWaited}

-- ## What holds of it at any time

-- what holds of a listener that began as the first, also where its turns were broken off
pub record HasKept (first now : SeenListener) : Type 0 where
  pub timely : StaysTimely first.board.book now.board.book
  pub passes : now.board.book.passes ≡ first.board.book.passes
  pub free : NoneHas now.board.book
  pub up : IsUp now.board.book.state.going
  pub follows : Follows first.front now.front
  pub contacts : contacts_of now.front.told ≡ contacts_of first.front.told
  pub time : InTime first → InTime now
  pub config : now.config ≡ first.config

-- it holds at first
kept-first : (l : SeenListener) → NoneHas l.board.book → IsUp l.board.book.state.going → HasKept l l
kept-first l free up = record {
  timely = λ timely. timely;
  passes = refl;
  free = free;
  up = up;
  follows = follows-same l.front;
  contacts = refl;
  time = λ time. time;
  config = refl;
}

-- what one of the two passes did, and what became of the front and the clock meanwhile
pub record TakesStep (a b : SeenListener) : Type 0 where
  pub who : ℕ
  pub events : List Event
  pub acts : Acts who events None a.board.book b.board.book
  pub timely : StaysTimely a.board.book b.board.book
  pub up : IsUp a.board.book.state.going → IsUp b.board.book.state.going
  pub follows : Follows a.front b.front
  pub contacts : contacts_of b.front.told ≡ contacts_of a.front.told
  pub time : InTime a → InTime b
  pub config : b.config ≡ a.config

-- that keeps it
kept-on : ActsInSteps → (first a b : SeenListener) → HasKept first a → TakesStep a b → HasKept first b
kept-on steps first a b kept step = record {
  timely = λ began. step.timely (kept.timely began);
  passes = step.acts.passes ∙ kept.passes;
  free = none-has steps step.who step.events a.board.book b.board.book kept.free step.acts;
  up = step.up kept.up;
  follows = follows-trans _ _ _ kept.follows step.follows;
  contacts = step.contacts ∙ kept.contacts;
  time = λ time. step.time (kept.time time);
  config = step.config ∙ kept.config;
}

-- ## Between two turns

-- what holds of a listener between two turns
pub record IsBetween (known : Option KnownOutside) (first now : SeenListener) : Type 0 where
  pub kept : HasKept first now
  pub in_time : StandsInTime now.board.book.state
  pub step : IsInStep now.front.told now.board.book.state
  pub knows : KnowsComing known now.board.book now.config now.store.told
  pub serves : ServesNewest known now.board.book now.edition

-- ## The start

started-step : (l : SeenListener) (b : SeenBoard) → StartsSome l.board.book b.book → LeavesRest l.board.book b.book → TakesStep l (record l { board = b })
started-step l b starts rest = record {
  who = 0;
  events = _;
  acts = starts.acts;
  timely = starts.timely;
  up = λ up. subst IsUp (sym rest.going) up;
  follows = follows-same l.front;
  contacts = refl;
  time = λ time. time;
  config = refl;
}

-- what is kept once children were started
pub kept-started : ActsInSteps → (l m : SeenListener) → NoneHas l.board.book → IsUp l.board.book.state.going → m ≡ record l { board = m.board }
    → StartsSome l.board.book m.board.book → LeavesRest l.board.book m.board.book → HasKept l m
kept-started steps l m free up is starts rest =
    subst (HasKept l) (sym is) (kept-on steps l l (record l { board = m.board }) (kept-first l free up) (started-step l m.board starts rest))

-- at the start, once children were started
pub between-started : GenerationsKeepTheirEditions → ActsInSteps → (known : Option KnownOutside) (l m : SeenListener) → NoneHas l.board.book
    → IsUp l.board.book.state.going → IsInStep l.front.told l.board.book.state → StandsInTime m.board.book.state
    → KnowsComing known l.board.book l.config l.store.told → ServesNewest known l.board.book l.edition → m ≡ record l { board = m.board }
    → StartsSome l.board.book m.board.book → LeavesRest l.board.book m.board.book → IsBetween known l m
between-started law steps known l m free up step in_time knows serves is starts rest =
    let there = record l { board = m.board } in
    let none = commandless-starts starts.children in
    subst (IsBetween known l) (sym is)
    (record {
      kept = kept-on steps l l there (kept-first l free up) (started-step l m.board starts rest);
      in_time = in_time;
      step = step-kept l.front.told l.board.book.state m.board.book.state rest.accepted rest.going step;
      knows = coming-acts known 0 _ None l.board.book m.board.book l.config l.store.told starts.acts none knows;
      serves = newest-acts law known 0 _ None l.board.book m.board.book l.edition starts.acts rest.newest serves;
    })

-- ## A wait

module _ (rest : Rest) (pause : Pause) (a w : SeenListener) where
  -- the book before and after a wait is one
  pub waited-book : HasWaited rest pause a w → w.board.book ≡ a.board.book
  waited-book waited = ap (λ (b : SeenBoard). b.book) waited.board

  waited-step : ActsInSteps → NoneHas a.board.book → HasWaited rest pause a w → TakesStep a w
  waited-step steps free waited =
      let book = waited-book waited in
      record {
        who = 0;
        events = [];
        acts = subst (Acts 0 [] None a.board.book) (sym book) (steps.none 0 None a.board.book (free 0));
        timely = λ timely. subst (λ (b : SeenBook). AreTimely b.base b.history) (sym book) timely;
        up = λ up. subst (λ (b : SeenBook). IsUp b.state.going) (sym book) up;
        follows = follows-wait a.front w.front rest.until rest.quiet pause.woke w.ready waited.waits;
        contacts = contacts-wait _ _ _ _ a.front.told w.front.told waited.waits.tells;
        time =
            λ time. time-wait pause.woke w.ready (waits_of a.front.told) (waits_of w.front.told) a.board.book.state.moment pause.moment a.calls w.calls
            (waits-after _ _ _ _ a.front.told w.front.told waited.waits.tells) waited.asks time;
        config = waited.config;
      }

  pub kept-waited : ActsInSteps → (first : SeenListener) → HasKept first a → HasWaited rest pause a w → HasKept first w
  kept-waited steps first kept waited = kept-on steps first a w kept (waited-step steps kept.free waited)

  pub waited-in_step : HasWaited rest pause a w → IsInStep a.front.told a.board.book.state → IsInStep w.front.told w.board.book.state
  waited-in_step waited step =
      subst (λ (b : SeenBook). IsInStep w.front.told b.state) (sym (waited-book waited))
      (step-wait _ _ _ _ a.front.told w.front.told a.board.book.state waited.waits.tells step)

-- ## A round

-- where it stands, and its output
abbrev pub hears_at : SeenListener → Hearing
hears_at l = hearing (stands_at l) l.out l.written

-- what became of the front in a round, and that the server goes on behind it
pub record HasTakenIn (w b : SeenListener) : Type 0 where
  pub timely : StaysTimely w.board.book b.board.book
  pub up : IsUp b.board.book.state.going
  pub follows : Follows w.front b.front
  pub front : TellsOn OnlyReadsAndTakes w.front.told b.front.told
  pub watched : StaysWatching w.front.told b.front.told w.board.book b.board.book
  pub calls : b.calls ≡ w.calls
  pub config : b.config ≡ w.config

-- a round came to its end, and ended the turns for this or didn't
pub record HasGoneRound (known : Option KnownOutside) (ended : Option End) (pause : Pause) (w b : SeenListener) : Type 0 where
  pub took : HasTakenIn w b
  pub round : RoundEnds ended (moment_for pause.moment) w.ready w.board.book b.board.book
  pub share : MakesShare ended pause.moment w.ready w.front.told b.front.told w.board.book b.board.book
  pub hushes : TellsOn HushesFor w.front.told b.front.told
  pub goes_on : GoesOnInTime ended b.board.book.state
  pub stands : StandsOn known w.config 0 (owed_at ended) (stands_at w) (stands_at b)
  pub heard :
      Hears known w.config (made_first pause.moment w.ready w.board.book) (last_at ended) (hears_at w) (hears_at b)
  pub moment : b.board.book.state.moment ≡ max w.board.book.state.moment (moment_for pause.moment)
  pub step : IsInStep b.front.told b.board.book.state
  pub knows : KnowsComing known b.board.book b.config b.store.told
  pub serves : ServesNewest known b.board.book b.edition

-- it was broken off for the fault
pub record HasBrokenOff (known : Option KnownOutside) (fault : BoardFault) (pause : Pause) (w b : SeenListener) : Type 0 where
  pub took : HasTakenIn w b
  pub round : BreaksOff fault (moment_for pause.moment) w.ready w.board.book b.board.book
  pub share : CutsShare pause.moment w.ready w.front.told b.front.told w.board.book b.board.book
  pub before : is_at_its_end b.board.book.state ≡ false
  pub stands : StandsBroken known w.config (stands_at w) (stands_at b)
  pub heard : HearsUntil known w.config (made_first pause.moment w.ready w.board.book) (hears_at w) (hears_at b)
  pub listens : IfSome b.front.told (ListensAsServed b.board.book.state)

-- what it did at all
pub record DidSome (a b : SeenBook) : Type 0 where
  pub events : List Event
  pub acts : Acts 0 events None a b

did-round : (to : ℕ) (slots : List ℕ) (a b : SeenBook) → GoesRound to slots a b → DidSome a b
did-round to slots a b round = record { events = _; acts = round.acts }

did-time : (to : ℕ) (a b : SeenBook) → PassesTime to a b → DidSome a b
did-time to a b passes = record { events = _; acts = passes.acts }

pub did-some : (ended : Option End) (to : ℕ) (slots : List ℕ) (a b : SeenBook) → RoundEnds ended to slots a b → DidSome a b
did-some None to slots a b round = did-round to slots a b round
did-some (Some end.Ended) to slots a b round = did-round to slots a b round
did-some (Some end.Asked) to slots a b round = did-round to slots a b round.0
did-some (Some end.Failed) to slots a b round = did-round to slots a b round
did-some (Some end.Overdue) to slots a b passes = did-time to a b passes
did-some (Some end.Gone) to slots a b round = did-round to slots a b round.0

-- what a round that was broken off did
pub did-broken : ActsInSteps → (fault : BoardFault) (to : ℕ) (slots : List ℕ) (a b : SeenBook) → BreaksOff fault to slots a b → DidSome a b
did-broken steps fault to slots a b broken =
    let ends = ends-silently steps fault broken.book b broken.acts.row broken.last in
    record { events = _; acts = steps.more 0 _ ends.events None None a broken.book b broken.acts ends.acts }

taken-step : (w b : SeenListener) → DidSome w.board.book b.board.book → HasTakenIn w b → TakesStep w b
taken-step w b did took = record {
  who = 0;
  events = did.events;
  acts = did.acts;
  timely = took.timely;
  up = λ up. took.up;
  follows = took.follows;
  contacts = contacts-kept w.front.told b.front.told took.front;
  time =
      λ time. subst (λ (o : Option (List (ℕ × ℕ))). IsInTime (waits_of b.front.told) o) (sym took.calls)
      (time-kept (waits_of w.front.told) (waits_of b.front.told) w.calls (waits-kept w.front.told b.front.told took.front) time);
  config = took.config;
}

-- what is kept behind it
pub kept-round : ActsInSteps → (rest : Rest) (pause : Pause) (first a w b : SeenListener) → HasKept first a → HasWaited rest pause a w
    → DidSome w.board.book b.board.book → HasTakenIn w b → HasKept first b
kept-round steps rest pause first a w b kept waited did took =
    kept-on steps first w b (kept-waited rest pause a w steps first kept waited) (taken-step w b did took)

-- after one that didn't end the turns
pub between-round : ActsInSteps → (known : Option KnownOutside) (rest : Rest) (pause : Pause) (first a w b : SeenListener) → IsBetween known first a
    → HasWaited rest pause a w → HasGoneRound known None pause w b → IsBetween known first b
between-round steps known rest pause first a w b before waited gone = record {
  kept =
      kept-round steps rest pause first a w b before.kept waited
      (did-some None (moment_for pause.moment) w.ready w.board.book b.board.book gone.round) gone.took;
  in_time = gone.goes_on.0;
  step = gone.step;
  knows = gone.knows;
  serves = gone.serves;
}

-- ## The service

-- the service by another pass
pub record HasServedRows (a b : SeenListener) : Type 0 where
  pub serves : ServesSome a.board b.board
  pub timely : StaysTimely a.board.book b.board.book
  pub staffed : is_staffed b.board.book.state ≡ true
  pub rest : LeavesRest a.board.book b.board.book
  pub others : b ≡ record a { board = b.board }

served-step : ActsInSteps → (a : SeenListener) (b : SeenBoard) → ServesSome a.board b → StaysTimely a.board.book b.book → LeavesRest a.board.book b.book
    → TakesStep a (record a { board = b })
served-step steps a b serves timely rest =
    let did = serves-acts steps a.board b serves in
    record {
      who = 1;
      events = did.events;
      acts = did.acts;
      timely = timely;
      up = λ up. subst IsUp (sym rest.going) up;
      follows = follows-same a.front;
      contacts = refl;
      time = λ time. time;
      config = refl;
    }

-- after it
pub between-served : GenerationsKeepTheirEditions → ActsInSteps → (known : Option KnownOutside) (first a b : SeenListener) → IsBetween known first a
    → HasServedRows a b → IsBetween known first b
between-served law steps known first a b before served =
    let did = serves-acts steps a.board b.board served.serves in
    let none : AreCommandless did.events =
    subst AreCommandless (added-events 1 did.events None a.board.book b.board.book did.acts)
    (commandless-served 1 did.events None a.board.book b.board.book (λ (same : 1 ≡ 0). cc) did.acts) in
    subst (IsBetween known first) (sym served.others)
    (record {
      kept =
          kept-on steps first a (record a { board = b.board }) before.kept
          (served-step steps a b.board served.serves served.timely served.rest);
      in_time = still-in_time a.board.book.state b.board.book.state served.rest.moment served.rest.going served.staffed before.in_time;
      step = step-kept a.front.told a.board.book.state b.board.book.state served.rest.accepted served.rest.going before.step;
      knows = coming-acts known 1 did.events None a.board.book b.board.book a.config a.store.told did.acts none before.knows;
      serves = newest-acts law known 1 did.events None a.board.book b.board.book a.edition did.acts served.rest.newest before.serves;
    })
