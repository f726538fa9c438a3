-- When the turns of the listener are over, and how one goes on to the next.
use Rattle.std.proofs.Common.{◌≡◌, IfSome, IsErrAnd, Option, None, Some, Result, Ok, Err, [], false, is_some, refl, ap, sym, subst, ◌∙◌}
use Rattle.mpm_base.specs.Count.{RisesExactlyWhere, RisesWhere}
use Rattle.mpm_base.specs.Front.{GoesForward, TellsOn, is_ended, moments_in, wait_failed}
use Rattle.mpm_base.specs.declared.front.Woke.{Woke}
use Rattle.mpm_base.specs.declared.front.Woke.TheVariants as woke
use Rattle.conn_state.specs.Known.{KnownOutside}
use Rattle.board_book.specs.declared.faults.BoardFault.{BoardFault}
use Rattle.board.specs.Board.{SeenBoard}
use Rattle.board.specs.Editions.{GenerationsKeepTheirEditions}
use Rattle.board_book.specs.Finds.{next_deadline_of}
use Rattle.worker_group.specs.Acts.{ActsInSteps}
use Rattle.worker_group.specs.Service.{IsUp, RefusalLasts}
use Rattle.rounds.specs.declared.ends.End.{End}
use Rattle.rounds.specs.declared.ends.End.TheVariants as end
use Rattle.listener.specs.declared.listen.Pause.{Pause}
use Rattle.rounds.specs.declared.ends.Rest.{Rest}
use Rattle.board_book.specs.ClosedDown.{HasNoLive}
use Rattle.rounds.specs.EndsInside.{is_at_end}
use Rattle.listener_round.specs.FrontInside.{HandsOut, HasNoneToHeed, HasReadAll, IsInStep, ListensAsServed, TakesInTo, TookAll}
use Rattle.listener.specs.ListenInside.{HandsOutEach, HeedsUntil, IsAtStart, TurnsEnd}
use Rattle.rounds.specs.TableInside.{IsRestful}
use Rattle.conn_machine.specs.States.{is_at_its_end}
use Rattle.listener_round.specs.RoundInside.{GoesRound}
use Rattle.rounds.specs.PartsInside.{StartsSome}
use Rattle.listener.specs.Stops.{HasGivenAll}
use Rattle.listener.specs.TurnsInside.{AreOver, SeenListener}
use Rattle.board_book.specs.Moments.{moment_for}
use Rattle.rounds.proofs.ClosingLemmas.{GoesOnFrom}
use Rattle.rounds.proofs.TimelyLemmas.{not-at_end}
use Rattle.listener.proofs.CommandLemmas.{heeded-wait, heeds-asked, heeds-ended, heeds-failed, heeds-gone, heeds-none, heeds-overdue}
use Rattle.run_report.proofs.CountLemmas.{rises-behind}
use Rattle.listener.proofs.FrontLemmas.{all-taken, each-handed, failed-last}
use Rattle.listener_round.proofs.FrontLemmas.{only-takes, step-listens, takes-same}
use Rattle.listener_round.proofs.LinkLemmas.{hands-step}
use Rattle.listener.proofs.PaceLemmas.{GoesAbreast, HasPatience, IsAfter, abreast-round, pace-broken, pace-round, pace-served, pace-started, pace-timed, patience-started, patience-waited, served-patience}
use Rattle.listener.proofs.TurnLemmas.{HasBrokenOff, HasGoneRound, HasKept, HasServedRows, IsBetween, between-round, between-served, did-broken, did-some, kept-round, kept-waited, waited-in_step}
use Rattle.listener.proofs.WaitLemmas.{HasWaited, idle-wait}
use Rattle.listener.proofs.WholeLemmas.{WholeFrom}
use Rattle.listener.proofs.WholeEndLemmas.{EndsFrom, ends-done, has-turned, whole-served}
use Rattle.listener.proofs.WholeTurnLemmas.{ends-all_gone, ends-asked, ends-broken, ends-ended, ends-failed, ends-overdue, whole-round}

-- ## What is said of them

-- what holds before a turn, whose wait is told this: the listener is between two turns, and what the run did of all its entries; the clock
-- tells exactly where it did, no command line that was read stops the server, and the listener goes abreast of a patient front
pub record IsBeforeTurn (known : Option KnownOutside) (first : SeenListener) (rest : Rest) (now : SeenListener) : Type 0 where
  pub between : IsBetween known first now
  pub whole : WholeFrom known first now
  pub clock : is_some now.calls ≡ is_some first.calls
  pub heeded : IfSome now.front.told HasNoneToHeed
  pub paced : IsAtStart first.front.told first.board.book → GoesAbreast rest now

-- what holds of a listener whose turns came to this end
record HasCome (known : Option KnownOutside) (e : End) (first now : SeenListener) : Type 0 where
  pub kept : HasKept first now
  pub ends : EndsFrom known (Ok e) first now
  pub end : is_at_its_end now.board.book.state ≡ is_at_end (Ok e)
  pub step : IsInStep now.front.told now.board.book.state

-- those that came to an end
over-ok : (known : Option KnownOutside) (e : End) (first now : SeenListener) → HasCome known e first now → is_some now.calls ≡ is_some first.calls
    → IfSome now.front.told (HeedsUntil (Ok e)) → (IsAtStart first.front.told first.board.book → HasPatience now)
    → TurnsEnd (Ok e) first.front now.front now.board.book → AreOver known (Ok e) first now
over-ok known e first now come clock heeded patient ends = record {
  turned = has-turned known (Ok e) first now come.ends patient;
  timely = come.kept.timely;
  end = come.end;
  passes = come.kept.passes;
  free = come.kept.free;
  up = come.kept.up;
  follows = come.kept.follows;
  contacts = come.kept.contacts;
  heeded = heeded;
  step = come.step;
  listens = step-listens now.front.told now.board.book.state come.step;
  links = tt;
  clock = clock;
  time = come.kept.time;
  ends = ends;
}

-- what holds of one whose turns were broken off
record HasBroken (known : Option KnownOutside) (first now : SeenListener) : Type 0 where
  pub kept : HasKept first now
  pub ends : (fault : BoardFault) → EndsFrom known (Err fault) first now
  pub before : is_at_its_end now.board.book.state ≡ false
  pub listens : IfSome now.front.told (ListensAsServed now.board.book.state)

-- those that were broken off for the fault
over-err : (known : Option KnownOutside) (turns : Result End BoardFault) (fault : BoardFault) (first now : SeenListener) → IsErrAnd turns (λ f. f ≡ fault)
    → HasBroken known first now → is_some now.calls ≡ is_some first.calls → IfSome now.front.told HasNoneToHeed
    → (IsAtStart first.front.told first.board.book → HasPatience now) → HandsOut now.front.told now.board.book.state → RefusalLasts fault now.board.book
    → AreOver known turns first now
over-err known (Ok e) fault first now is broken clock heeded patient links lasts = absurd is
over-err known (Err f) fault first now is broken clock heeded patient links lasts = record {
  turned = has-turned known (Err f) first now (broken.ends f) patient;
  timely = broken.kept.timely;
  end = broken.before;
  passes = broken.kept.passes;
  free = broken.kept.free;
  up = broken.kept.up;
  follows = broken.kept.follows;
  contacts = broken.kept.contacts;
  heeded = heeds-none f now.front.told heeded;
  step = tt;
  listens = broken.listens;
  links = links;
  clock = clock;
  time = broken.kept.time;
  ends = subst (λ (x : BoardFault). RefusalLasts x now.board.book) (sym is) lasts;
}

-- between two turns, where the server stands in its time
broken-between : (known : Option KnownOutside) (first now : SeenListener) → HasKept first now → WholeFrom known first now
    → is_at_its_end now.board.book.state ≡ false → IsInStep now.front.told now.board.book.state → HasBroken known first now
broken-between known first now kept whole before step = record {
  kept = kept;
  ends = λ fault. ends-done known fault first now whole;
  before = before;
  listens = step-listens now.front.told now.board.book.state step;
}

-- ## The start

-- before the first turn, once children were started
pub turn-started : (known : Option KnownOutside) (rest : Rest) (l m : SeenListener) → IsBetween known l m → WholeFrom known l m → IfSome l.front.told HasNoneToHeed
    → m ≡ record l { board = m.board } → StartsSome l.board.book m.board.book → m.board.book.state.moment ≡ l.board.book.state.moment
    → rest.until ≡ next_deadline_of m.board.book.state → IsRestful rest.quiet m.board.book.state → IsBeforeTurn known l rest m
turn-started known rest l m between whole heeded is starts moment until quiet = record {
  between = between;
  whole = whole;
  clock = ap (λ (x : SeenListener). is_some x.calls) is;
  heeded = subst (λ (x : SeenListener). IfSome x.front.told HasNoneToHeed) (sym is) heeded;
  paced = λ start. pace-started rest l m start is starts moment until quiet;
}

-- where a child could not be started
pub over-started : (known : Option KnownOutside) (turns : Result End BoardFault) (fault : BoardFault) (l m : SeenListener) → IsErrAnd turns (λ f. f ≡ fault)
    → HasKept l m → ((fault : BoardFault) → EndsFrom known (Err fault) l m) → is_at_its_end m.board.book.state ≡ false
    → IsInStep m.front.told m.board.book.state → IfSome l.front.told HasNoneToHeed → m ≡ record l { board = m.board }
    → StartsSome l.board.book m.board.book → RefusalLasts fault m.board.book → AreOver known turns l m
over-started known turns fault l m is kept ends before step heeded same starts lasts =
    over-err known turns fault l m is
    (record { kept = kept; ends = ends; before = before; listens = step-listens m.front.told m.board.book.state step })
    (ap (λ (x : SeenListener). is_some x.calls) same)
    (subst (λ (x : SeenListener). IfSome x.front.told HasNoneToHeed) (sym same) heeded) (λ start. patience-started l m start same starts)
    (hands-step m.front.told m.board.book.state step) lasts

-- ## A turn

module _ (steps : ActsInSteps) (known : Option KnownOutside) (rest : Rest) (pause : Pause) (first a w : SeenListener) (before : IsBeforeTurn known first rest a) (waited : HasWaited rest pause a w) where
  -- no command line was read by the wait
  heeded-then : IfSome w.front.told HasNoneToHeed
  heeded-then = heeded-wait _ _ _ _ a.front.told w.front.told waited.waits.tells before.heeded

  going-then : IsUp w.board.book.state.going
  going-then = subst (λ (b : SeenBoard). IsUp b.book.state.going) (sym waited.board) before.between.kept.up

  -- some child isn't gone
  end-then : is_at_its_end w.board.book.state ≡ false
  end-then =
      subst (λ (b : SeenBoard). is_at_its_end b.book.state ≡ false) (sym waited.board) (not-at_end a.board.book.state before.between.in_time.staffed)

  -- a turn that is over behind a wait which gave no moment
  idle-over : (e : End) → EndsFrom known (Ok e) first w → is_at_end (Ok e) ≡ false → IfSome w.front.told (HeedsUntil (Ok e))
      → TurnsEnd (Ok e) first.front w.front w.board.book → AreOver known (Ok e) first w
  idle-over e ends other heeded turns =
      over-ok known e first w
      (record {
        kept = kept-waited rest pause a w steps first before.between.kept waited;
        ends = ends;
        end = end-then ∙ sym other;
        step = waited-in_step rest pause a w waited before.between.step;
      })
      (waited.clock ∙ before.clock) heeded
      (λ start. patience-waited rest pause a w (before.paced start).patient waited (only-takes _ _ (takes-same _))) turns

  -- a wait answered Ended, and no connection is live
  pub over-ended : pause.woke ≡ woke.Ended → HasNoLive w.board.book.state → AreOver known (Ok end.Ended) first w
  over-ended is live =
      let forward = subst (λ (x : Woke). TellsOn (GoesForward rest.until rest.quiet x w.ready) a.front.told w.front.told) is waited.waits.tells in
      let none : moments_in pause.woke ≡ [] = ap moments_in is in
      let idle = idle-wait pause.woke a.board.book.state.moment pause.moment a.calls w.calls w.ready none waited.asks waited.waits.awake in
      idle-over end.Ended
      (ends-ended steps known rest pause first a w before.between.kept before.whole waited before.heeded before.between.kept.free none idle.1) refl
      (heeds-ended w.front.told heeded-then)
      (record {
        going = going-then;
        live = live;
        all =
            record {
              answered =
                  rises-behind first.front.counts.ends a.front.counts.ends w.front.counts.ends before.between.kept.follows.ends
                  (subst (λ (x : Woke). RisesExactlyWhere (is_ended x) a.front.counts.ends w.front.counts.ends) is waited.waits.ends);
              taken =
                  subst (λ (b : SeenBoard). IfSome w.front.told (HasGivenAll b.book.state)) (sym waited.board)
                  (all-taken rest.until rest.quiet w.ready a.front.told w.front.told a.board.book.state forward before.between.step);
            };
        each =
            subst (λ (b : SeenBoard). IfSome w.front.told (HandsOutEach b.book.state)) (sym waited.board)
            (each-handed rest.until rest.quiet w.ready a.front.told w.front.told a.board.book.state forward before.between.step);
      })

  -- one failed
  pub over-failed : pause.woke ≡ woke.Failed → AreOver known (Ok end.Failed) first w
  over-failed is =
      let forward = subst (λ (x : Woke). TellsOn (GoesForward rest.until rest.quiet x w.ready) a.front.told w.front.told) is waited.waits.tells in
      let none : moments_in pause.woke ≡ [] = ap moments_in is in
      let idle = idle-wait pause.woke a.board.book.state.moment pause.moment a.calls w.calls w.ready none waited.asks waited.waits.awake in
      idle-over end.Failed
      (ends-failed steps known rest pause first a w before.between.kept before.whole waited before.heeded before.between.kept.free none idle.1) refl
      (heeds-failed w.front.told heeded-then) (
        going-then,
        rises-behind first.front.counts.faults a.front.counts.faults w.front.counts.faults before.between.kept.follows.faults
            (subst (λ (x : Woke). RisesWhere (wait_failed x) a.front.counts.faults w.front.counts.faults) is waited.waits.faults),
        failed-last rest.until rest.quiet w.ready a.front.told w.front.told forward,
      )

  -- a round was broken off for the fault
  pub over-broken : (turns : Result End BoardFault) (fault : BoardFault) (b : SeenListener) → IsErrAnd turns (λ f. f ≡ fault) → HasBrokenOff known fault pause w b
      → IfSome b.front.told HasNoneToHeed → HandsOut b.front.told b.board.book.state → RefusalLasts fault b.board.book → AreOver known turns first b
  over-broken turns fault b is broken heeded links lasts =
      let did = did-broken steps fault (moment_for pause.moment) w.ready w.board.book b.board.book broken.round in
      over-err known turns fault first b is
      (record {
        kept = kept-round steps rest pause first a w b before.between.kept waited did broken.took;
        ends =
            λ other. ends-broken steps known rest pause first a w before.between.kept before.whole waited before.heeded fault other b broken did;
        before = broken.before;
        listens = broken.listens;
      })
      (ap is_some broken.took.calls ∙ waited.clock ∙ before.clock) heeded
      (λ start. pace-broken steps fault rest pause a w b (before.paced start) waited before.between.step broken.round broken.took.front broken.took.calls)
      links lasts

  -- what holds behind a round that came to its end
  clock-then : (ended : Option End) (b : SeenListener) → HasGoneRound known ended pause w b → is_some b.calls ≡ is_some first.calls
  clock-then ended b gone = ap is_some gone.took.calls ∙ waited.clock ∙ before.clock

  patient-then : (b : SeenListener) → GoesRound (moment_for pause.moment) w.ready w.board.book b.board.book → (ended : Option End) → HasGoneRound known ended pause w b
      → IsAtStart first.front.told first.board.book → HasPatience b
  patient-then b round ended gone start =
      pace-round rest pause a w b (before.paced start) waited before.between.step round gone.took.front gone.took.calls

  -- it ended the turns
  over-gone : (e : End) (b : SeenListener) (gone : HasGoneRound known (Some e) pause w b) → EndsFrom known (Ok e) first b
      → is_at_its_end b.board.book.state ≡ is_at_end (Ok e) → IfSome b.front.told (HeedsUntil (Ok e))
      → (IsAtStart first.front.told first.board.book → HasPatience b) → TurnsEnd (Ok e) first.front b.front b.board.book → AreOver known (Ok e) first b
  over-gone e b gone ends end heeded patient turns =
      let did = did-some (Some e) (moment_for pause.moment) w.ready w.board.book b.board.book gone.round in
      over-ok known e first b
      (record { kept = kept-round steps rest pause first a w b before.between.kept waited did gone.took; ends = ends; end = end; step = gone.step })
      (clock-then (Some e) b gone) heeded patient turns

  -- a command line asked to stop, or a graceful stop was out of time, or at its end
  over-taken : (e : End) (b : SeenListener) → HasGoneRound known (Some e) pause w b → TakesInTo (Some e) w.front b.front b.board.book.state
      → AreOver known (Ok e) first b
  over-taken end.Asked b gone ends =
      over-gone end.Asked b gone
      (ends-asked steps known rest pause first a w before.between.kept before.whole waited before.heeded b gone
      (did-some (Some end.Asked) (moment_for pause.moment) w.ready w.board.book b.board.book gone.round)) gone.goes_on
      (heeds-asked b.front.told ends.2) (patient-then b gone.round.0 (Some end.Asked) gone) (
        ends.0,
        rises-behind first.front.counts.words.stop w.front.counts.words.stop b.front.counts.words.stop
            (kept-waited rest pause a w steps first before.between.kept waited).follows.stops ends.1,
      )
  over-taken end.Overdue b gone ends =
      over-gone end.Overdue b gone
      (ends-overdue steps known rest pause first a w before.between.kept before.whole waited before.heeded b gone
      (did-some (Some end.Overdue) (moment_for pause.moment) w.ready w.board.book b.board.book gone.round)) gone.goes_on
      (heeds-overdue b.front.told ends.1)
      (λ start. pace-timed rest pause a w b (before.paced start) waited before.between.step gone.round gone.took.front gone.took.calls) ends.0
  over-taken end.Gone b gone ends =
      over-gone end.Gone b gone
      (ends-all_gone steps known rest pause first a w before.between.kept before.whole waited before.heeded b gone
      (did-some (Some end.Gone) (moment_for pause.moment) w.ready w.board.book b.board.book gone.round)) gone.goes_on
      (heeds-gone b.front.told ends.1) (patient-then b gone.round.0 (Some end.Gone) gone) ends.0
  over-taken end.Ended b gone ends = absurd ends
  over-taken end.Failed b gone ends = absurd ends

  pub over-ended_for : (ended : Option End) (e : End) (b : SeenListener) → ended ≡ Some e → HasGoneRound known ended pause w b
      → TakesInTo ended w.front b.front b.board.book.state → AreOver known (Ok e) first b
  over-ended_for ended e b is gone ends =
      over-taken e b (subst (λ (o : Option End). HasGoneRound known o pause w b) is gone)
      (subst (λ (o : Option End). TakesInTo o w.front b.front b.board.book.state) is ends)

  module _ (b : SeenListener) (gone : HasGoneRound known None pause w b) where
    -- what holds behind a round that didn't end the turns
    between-then : IsBetween known first b
    between-then = between-round steps known rest pause first a w b before.between waited gone

    whole-then : WholeFrom known first b
    whole-then =
        whole-round steps known rest pause first a w before.between.kept before.whole waited before.heeded b gone
        (did-some None (moment_for pause.moment) w.ready w.board.book b.board.book gone.round)

    -- a call was refused in the service for the fault
    pub over-served : GenerationsKeepTheirEditions → (turns : Result End BoardFault) (fault : BoardFault) (d : SeenListener) → IsErrAnd turns (λ f. f ≡ fault) → HasServedRows b d
        → IfSome b.front.told HasNoneToHeed → RefusalLasts fault d.board.book → AreOver known turns first d
    over-served keep turns fault d is served heeded lasts =
        let between = between-served keep steps known first b d between-then served in
        let whole = whole-served steps known first b d between-then.kept whole-then served in
        over-err known turns fault first d is
        (broken-between known first d between.kept whole (not-at_end d.board.book.state served.staffed) between.step)
        (ap (λ (x : SeenListener). is_some x.calls) served.others ∙ clock-then None b gone)
        (subst (λ (x : SeenListener). IfSome x.front.told HasNoneToHeed) (sym served.others) heeded)
        (λ start. served-patience steps b d (patient-then b gone.round None gone start) served) (hands-step d.front.told d.board.book.state between.step) lasts

    -- before the next turn
    pub turn-served : GenerationsKeepTheirEditions → GoesOnFrom → (rest' : Rest) (d : SeenListener) → IsAfter b → IsAfter d → HasServedRows b d
        → IfSome b.front.told HasNoneToHeed → TookAll b.front.told b.board.book.state → HasReadAll b.front.told → rest'.until ≡ next_deadline_of b.board.book.state
        → IsRestful rest'.quiet b.board.book.state → IsBeforeTurn known first rest' d
    turn-served keep law rest' d here there served heeded took read until quiet = record {
      between = between-served keep steps known first b d between-then served;
      whole = whole-served steps known first b d between-then.kept whole-then served;
      clock = ap (λ (x : SeenListener). is_some x.calls) served.others ∙ clock-then None b gone;
      heeded = subst (λ (x : SeenListener). IfSome x.front.told HasNoneToHeed) (sym served.others) heeded;
      paced =
          λ start. pace-served steps law rest' b d here there
          (abreast-round rest pause a w b (before.paced start).abreast waited gone.moment gone.took.front gone.took.calls)
          (patient-then b gone.round None gone start) took read served until quiet;
    }
