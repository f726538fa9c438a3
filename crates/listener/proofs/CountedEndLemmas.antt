-- What a front and a clock counted where a run opens, in the parts of its turns, and at its end.
use Rattle.std.proofs.Common.{◌≡◌, ◌⊎◌, inl, inr, IsErrAnd, ◌≤◌, ◌+◌, ℕ, Bool, true, false, cond, List, [], ◌∷◌, None, Option, Some, Result, Ok, Err, max, refl, sym, ap, subst, ◌∙◌, arith}
use Rattle.std.proofs.lemmas.List.Sums.{sum_by-cons}
use Rattle.mpm_base.specs.Count.{CountsWhere, Rises, RisesJustBy}
use Rattle.mpm_base.specs.Front.{FrontCounts, FrontSeen}
use Rattle.mpm_base.specs.declared.front.Woke.{Woke}
use Rattle.mpm_base.specs.declared.given_words.GivenWords.{GivenWords}
use Rattle.mpm_base.specs.declared.front.Woke.TheVariants as woke
use Rattle.conn_machine.specs.declared.event.Commanded.TheVariants.{Stop}
use Rattle.conn_machine.specs.declared.event.Entry.{Entry}
use Rattle.conn_machine.specs.declared.event.Event.TheVariants as event
use Rattle.conn_machine.specs.declared.event.Why.{Why}
use Rattle.conn_machine.specs.declared.event.Why.TheVariants as why
use Rattle.conn_machine.specs.declared.folded.Folded.{Folded}
use Rattle.conn_machine.specs.declared.state.Going.{Going}
use Rattle.conn_machine.specs.declared.state.Going.TheVariants.{Ending, Halted, Serving}
use Rattle.conn_machine.specs.declared.state.State.{State}
use Rattle.conn_machine.specs.Events.{count_events, is_order}
use Rattle.conn_machine.specs.States.{is_over, is_serving}
use Rattle.conn_state.specs.Known.{KnownOutside}
use Rattle.board_book.specs.declared.faults.BoardFault.{BoardFault}
use Rattle.board.specs.Board.{SeenBoard}
use Rattle.board_book.specs.Book.{SeenBook}
use Rattle.board_book.specs.Editions.{orders_in}
use Rattle.worker_group.specs.Acts.{Acts, ActsInSteps}
use Rattle.worker_group.specs.Service.{LeavesRest}
use Rattle.rounds.specs.declared.ends.End.{End}
use Rattle.rounds.specs.declared.ends.End.TheVariants as end
use Rattle.rounds.specs.EndsInside.{HaltsAs, why_of}
use Rattle.board_book.specs.Moments.{moment_for}
use Rattle.rounds.specs.PartsInside.{GoesDown, ServesSome, StartsSome, halt_events, halts_for}
use Rattle.run_report.specs.Endings.{HasEndedGracefully}
use Rattle.listener.specs.Counted.{AsksOnce, CountsBut, CountsRun, stops_at}
use Rattle.listener.specs.CountedInside.{ClocksAt, ClocksOn, CountsToEnd, IsAtClock, KeepsClockFrom, MovesClock, TurnsCount}
use Rattle.listener_round.specs.CountedInside.{CountsBroken, CountsOn, CountsSo, CountsUntil}
use Rattle.listener_round.specs.FirstNumbersInside.{opened_book}
use Rattle.listener.specs.FoldsInside.{ListensOn}
use Rattle.listener.specs.ListenInside.{TurnsEnd}
use Rattle.listener_round.specs.StandingInside.{owed_at}
use Rattle.listener_round.specs.declared.run_numbers.RunNumbers.{RunNumbers}
use Rattle.rounds.proofs.AddedLemmas.{added-events, events_in}
use Rattle.rounds.proofs.PassLemmas.{serves-acts}
use Rattle.listener_round.proofs.CommandlessLemmas.{AreCommandless, commandless-gone, commandless-retires, commandless-served, commandless-starts, orders-added, orders-kept}
use Rattle.listener_round.proofs.CountedLemmas.{CountsAlike, counts-more, just-as, just-none}

-- ## The parts of turns

-- at the start
pub alike-started : (a b : SeenBook) → StartsSome a b → LeavesRest a b → CountsAlike a b
alike-started a b starts rest =
    record { orders = orders-kept 0 _ None a b starts.acts (commandless-starts starts.children); going = rest.going; accepted = rest.accepted }

-- in a service
pub alike-served : ActsInSteps → (a b : SeenBoard) → ServesSome a b → LeavesRest a.book b.book → CountsAlike a.book b.book
alike-served steps a b serves rest =
    let did = serves-acts steps a b serves in
    let none : AreCommandless did.events =
    subst AreCommandless (added-events 1 did.events None a.book b.book did.acts)
    (commandless-served 1 did.events None a.book b.book (λ (same : 1 ≡ 0). cc) did.acts) in
    record { orders = orders-kept 1 did.events None a.book b.book did.acts none; going = rest.going; accepted = rest.accepted }

-- in a fold
pub alike-folded : (known : Option KnownOutside) (a b : SeenBoard) → ListensOn known a b → CountsAlike a.book b.book
alike-folded known a b listens = record {
  orders = listens.orders;
  going = ap (λ (s : State). s.going) listens.state;
  accepted = ap (λ (s : State). s.accepted) listens.state;
}

-- what turns counted that ended for this
pub counts-ending : (ended : Option End) (e : End) (x y z : FrontCounts) (a b c : SeenBook) → ended ≡ Some e → CountsOn 0 x y a b
    → CountsOn (owed_at ended) y z b c → CountsOn (owed_at (Some e)) x z a c
counts-ending ended e x y z a b c is on more =
    counts-more (owed_at (Some e)) x y z a b c on (subst (λ (o : Option End). CountsOn (owed_at o) y z b c) is more)

-- and those that were broken off
pub turns-broken : (turns : Result End BoardFault) (fault : BoardFault) (old new : FrontCounts) (a b : SeenBook) → IsErrAnd turns (λ f. f ≡ fault)
    → CountsUntil old new a b → TurnsCount turns old new a b
turns-broken (Ok e) fault old new a b is until = absurd is
turns-broken (Err f) fault old new a b is until = until

-- ## The opening

opened-orders : (n : RunNumbers) → orders_in (opened_book n) ≡ 0
opened-orders n = refl

-- where a run opens nothing is counted yet
pub counts-opened : (n : RunNumbers) (first : FrontCounts) (b : SeenBook) → b ≡ opened_book n → CountsSo 0 first first b
counts-opened n first b opened =
    subst (CountsSo 0 first first) (sym opened)
    (record {
      orders = just-none first.words.graceful;
      endings = omega arith;
      ending = λ ends. absurd (cc ends);
      unended = λ serves. just-none first.words.graceful_stop;
      stops = just-none first.words.stop;
      links = just-none first.handed;
    })

-- ## The end

halts-orders : (for : Option Why) (entries : List Entry) → events_in entries ≡ halts_for for → count_events is_order entries ≡ 0
halts-orders None [] is = refl
halts-orders None (e ∷ entries) is = absurd (cc is)
halts-orders (Some reason) [] is = absurd (cc is)
halts-orders (Some reason) (e ∷ []) is =
    let same : e.event ≡ event.Command (Stop reason) = cc is in
    let none : is_order (event.Command (Stop reason)) ≡ false = refl in
    sum_by-cons (λ (x : Entry). cond (is_order x.event) 1 0) e [] ∙ ap (λ (test : Bool). cond test 1 0 + 0) (ap is_order same ∙ none)
halts-orders (Some reason) (e ∷ f ∷ entries) is = absurd (cc is)

-- stopping the server is no order
no-orders : (turns : Result End BoardFault) (entries : List Entry) → events_in entries ≡ halt_events turns → count_events is_order entries ≡ 0
no-orders (Ok e) entries is = halts-orders (why_of e) entries is
no-orders (Err fault) entries is = halts-orders (Some why.NoMemory) entries is

orders-halted : (turns : Result End BoardFault) (a b : SeenBook) → Acts 0 (halt_events turns) None a b → orders_in b ≡ orders_in a
orders-halted turns a b acts =
    ap (λ (f : Folded). f.orders + count_events is_order b.history) acts.folded
    ∙ orders-added a.folded.orders a.history acts.entries.0 b.history acts.entries.1
    (no-orders turns acts.entries.0 (added-events 0 (halt_events turns) None a b acts))

orders-down : (turns : Result End BoardFault) (a d : SeenBook) → GoesDown turns a d → orders_in d ≡ orders_in a
orders-down turns a d down =
    orders-kept 0 _ None down.closed d down.retires.acts (commandless-retires down.retires.children)
    ∙ orders-kept 0 _ None down.halted down.closed down.closes.acts (commandless-gone down.closes.gone)
    ∙ orders-halted turns a down.halted down.halts

-- a server that is over does not take connections
over-ends : (moment : ℕ) (going : Going) → is_over moment going ≡ true → is_serving going ≡ false
over-ends moment Serving over = absurd (cc over)
over-ends moment (Ending until) over = refl
over-ends moment (Halted reason) over = refl

halted-otherwise : (reason : Why) (going : Going) → going ≡ Halted reason → HasEndedGracefully going → (reason ≡ why.Overdue → ⊥) → ⊥
halted-otherwise reason going is (inl ending) other = absurd (cc (is, ending.1))
halted-otherwise reason going is (inr overdue) other = other (cc (is, overdue))

module _ (turns : Result End BoardFault) (a d : SeenBook) (first new : FrontCounts) (down : GoesDown turns a d) where
  -- what was counted where the turns came to an end
  whole-counts : (owed : ℕ) → CountsSo owed first new a → stops_at d.state.going ≡ owed
      → (HasEndedGracefully d.state.going → is_serving a.state.going ≡ false) → CountsRun d first new
  whole-counts owed so stops ends = record {
    orders =
        inl (just-as (orders_in a) (orders_in d) first.words.graceful new.words.graceful new.words.graceful so.orders refl (orders-down turns a d down));
    ending = λ graceful. so.ending (ends graceful);
    stops = just-as owed (stops_at d.state.going) first.words.stop new.words.stop new.words.stop so.stops refl stops;
    links = inl (just-as a.state.accepted d.state.accepted first.handed new.handed new.handed so.links refl down.accepted);
  }

  -- and where they were broken off
  broken-counts : d.state.going ≡ Halted why.NoMemory → CountsBroken first new a → CountsRun d first new
  broken-counts broken so = record {
    orders =
        elim so.orders [
          | inl just ↦ inl (just-as (orders_in a) (orders_in d) first.words.graceful new.words.graceful new.words.graceful just refl (orders-down turns a d down))
          | inr more ↦ inr (
            broken,
            just-as (orders_in a + 1) (orders_in d + 1) first.words.graceful new.words.graceful new.words.graceful more refl
                (ap (λ (n : ℕ). n + 1) (orders-down turns a d down)),
          )
        ];
    ending = λ graceful. absurd (halted-otherwise why.NoMemory d.state.going broken graceful (λ same. absurd (cc same)));
    stops = just-as 0 (stops_at d.state.going) first.words.stop new.words.stop new.words.stop so.stops refl (ap stops_at broken);
    links =
        elim so.links [
          | inl just ↦ inl (just-as a.state.accepted d.state.accepted first.handed new.handed new.handed just refl down.accepted)
          | inr more ↦ inr (
            broken,
            just-as (a.state.accepted + 1) (d.state.accepted + 1) first.handed new.handed new.handed more refl
                (ap (λ (n : ℕ). n + 1) down.accepted),
          )
        ];
  }

-- what was counted to the end of a run
pub counts-end : (turns : Result End BoardFault) (old new : FrontCounts) (f f' : FrontSeen) (a b d : SeenBook) → TurnsCount turns old new a b
    → TurnsEnd turns f f' b → GoesDown turns b d → CountsToEnd old new a d
counts-end (Ok end.Ended) old new f f' a b d counts ends down first so =
    let halted : d.state.going ≡ Halted why.FrontEnded = down.going in
    whole-counts (Ok end.Ended) b d first new down 0 (counts first so) (ap stops_at halted)
    (λ graceful. absurd (halted-otherwise why.FrontEnded d.state.going halted graceful (λ same. absurd (cc same))))
counts-end (Ok end.Asked) old new f f' a b d counts ends down first so =
    let halted : d.state.going ≡ Halted why.Asked = down.going in
    whole-counts (Ok end.Asked) b d first new down 1 (counts first so) (ap stops_at halted)
    (λ graceful. absurd (halted-otherwise why.Asked d.state.going halted graceful (λ same. absurd (cc same))))
counts-end (Ok end.Failed) old new f f' a b d counts ends down first so =
    let halted : d.state.going ≡ Halted why.FrontFailed = down.going in
    whole-counts (Ok end.Failed) b d first new down 0 (counts first so) (ap stops_at halted)
    (λ graceful. absurd (halted-otherwise why.FrontFailed d.state.going halted graceful (λ same. absurd (cc same))))
counts-end (Ok end.Overdue) old new f f' a b d counts ends down first so =
    let halted : d.state.going ≡ Halted why.Overdue = down.going in
    whole-counts (Ok end.Overdue) b d first new down 0 (counts first so) (ap stops_at halted)
    (λ graceful. over-ends b.state.moment b.state.going ends)
counts-end (Ok end.Gone) old new f f' a b d counts ends down first so =
    let same : d.state.going ≡ b.state.going = down.going in
    whole-counts (Ok end.Gone) b d first new down 0 (counts first so) (ap stops_at (same ∙ ends.going)) (λ graceful. ap is_serving ends.going)
counts-end (Err fault) old new f f' a b d counts ends down first so =
    let halted : d.state.going ≡ Halted why.NoMemory = down.going in
    broken-counts (Err fault) b d first new down halted (counts first so)

-- the lines that say `graceful-stop`, where the server served to the end of the turns
pub gives-none : (turns : Result End BoardFault) (from old new : FrontCounts) (a b : SeenBook) (going : Going) → TurnsCount turns old new a b
    → CountsSo 0 from old a → is_serving b.state.going ≡ true → HaltsAs turns b.state.going going
    → CountsBut going 0 from.words.graceful_stop new.words.graceful_stop
gives-none (Ok e) from old new a b going counts so serves halts = let on = counts from so in inl (on.unended serves)
gives-none (Err fault) from old new a b going counts so serves halts =
    let on = counts from so in
    elim (on.unended serves) [
      | inl none ↦ inl none
      | inr one ↦ inr (halts, one)
    ]

-- ## The clock

-- the moment behind a wait goes on with the clock
pub clock-on : (answer : Woke) (present old new m : ℕ) (s s' : State) → MovesClock answer present old new m → present ≡ s.moment
    → s'.moment ≡ max s.moment (moment_for m) → ClocksAt old new s s'
clock-on (woke.Woke to) present old new m s s' moves now moment first at = omega (arith, moves, moment, at)
clock-on woke.Ended present old new m s s' moves now moment first at = omega (arith, moves.0, moves.1, now, moment, at)
clock-on woke.Failed present old new m s s' moves now moment first at = omega (arith, moves.0, moves.1, now, moment, at)

-- so it does where the wait gave none, and nothing was done behind it
pub clock-idle : (answer : Woke) (present old new m : ℕ) (s : State) → MovesClock answer present old new m
    → (answer ≡ woke.Ended) ⊎ (answer ≡ woke.Failed) → ClocksAt old new s s
clock-idle (woke.Woke to) present old new m s moves (inl is) first at = absurd (cc is)
clock-idle (woke.Woke to) present old new m s moves (inr is) first at = absurd (cc is)
clock-idle woke.Ended present old new m s moves idle first at = omega (arith, moves.0, at)
clock-idle woke.Failed present old new m s moves idle first at = omega (arith, moves.0, at)

-- where a round was broken off it is not ahead of it
pub clock-broken : (answer : Woke) (present old new m : ℕ) (s s' : State) (first : ℕ) → MovesClock answer present old new m → present ≡ s.moment
    → s'.moment ≤ max s.moment (moment_for m) → IsAtClock first old s → s'.moment ≤ moment_for new
clock-broken (woke.Woke to) present old new m s s' first moves now moment at = omega (arith, moves, moment, at)
clock-broken woke.Ended present old new m s s' first moves now moment at = omega (arith, moves.0, moves.1, now, moment, at)
clock-broken woke.Failed present old new m s s' first moves now moment at = omega (arith, moves.0, moves.1, now, moment, at)

-- the moment is not ahead of the clock
pub clock-behind : (first greatest : ℕ) (s s' : State) → s'.moment ≡ s.moment → IsAtClock first greatest s → s'.moment ≤ moment_for greatest
clock-behind first greatest s s' same at = omega (arith, same, at)

-- a moment that stays stays so
pub clock-stays : (first greatest : ℕ) (s s' : State) → s'.moment ≡ s.moment → IsAtClock first greatest s → IsAtClock first greatest s'
clock-stays first greatest s s' same at = omega (arith, same, at)

-- so it is with turns that were broken off
pub clocks-broken : (turns : Result End BoardFault) (fault : BoardFault) (old new : ℕ) (s s' : State) → IsErrAnd turns (λ f. f ≡ fault)
    → ((first : ℕ) → IsAtClock first old s → s'.moment ≤ moment_for new) → ClocksOn turns old new s s'
clocks-broken (Ok e) fault old new s s' is behind = absurd is
clocks-broken (Err f) fault old new s s' is behind = behind

-- the clock was not asked, and no wait was made
pub asks-none : (wakes asked : ℕ) → AsksOnce wakes wakes asked asked
asks-none wakes asked = record { wakes_on = omega arith; asked_on = omega arith; once = λ few few'. omega arith }

-- a wait was made, and the clock asked where it gave a moment
pub asks-wait : (gave : Bool) (wakes wakes' asked asked' : ℕ) → CountsWhere gave wakes wakes' → CountsWhere gave asked asked'
    → AsksOnce wakes wakes' asked asked'
asks-wait true wakes wakes' asked asked' woke asks = record {
  wakes_on = woke.0;
  asked_on = asks.0;
  once =
      λ few few'.
      let one : wakes' ≡ wakes + 1 = woke.1 (omega (arith, few, woke.0)) in
      let also : asked' ≡ asked + 1 = asks.1 (omega (arith, few', asks.0)) in
      omega (arith, one, also);
}
asks-wait false wakes wakes' asked asked' woke asks = record {
  wakes_on = omega (arith, woke);
  asked_on = omega (arith, asks);
  once = λ few few'. omega (arith, woke, asks);
}

-- one behind the other
pub asks-more : (w w' w'' a a' a'' : ℕ) → AsksOnce w w' a a' → AsksOnce w' w'' a' a'' → AsksOnce w w'' a a''
asks-more w w' w'' a a' a'' first second = record {
  wakes_on = omega (arith, first.wakes_on, second.wakes_on);
  asked_on = omega (arith, first.asked_on, second.asked_on);
  once =
      λ few few'.
      let one : a' + w ≡ a + w' = first.once (omega (arith, few, second.wakes_on)) (omega (arith, few', second.asked_on)) in
      let two : a'' + w' ≡ a' + w'' = second.once few few' in
      omega (arith, one, two);
}

-- no wait was made behind that
pub asks-as : (w w' w'' a a' : ℕ) → w'' ≡ w' → AsksOnce w w' a a' → AsksOnce w w'' a a'
asks-as w w' w'' a a' same asks = subst (λ (n : ℕ). AsksOnce w n a a') (sym same) asks

-- nor before it
pub asks-since : (w w' w'' a a' : ℕ) → w' ≡ w → AsksOnce w' w'' a a' → AsksOnce w w'' a a'
asks-since w w' w'' a a' same asks = subst (λ (n : ℕ). AsksOnce n w'' a a') same asks

-- to the end of a run
pub clock-down : (turns : Result End BoardFault) (old new : ℕ) (a b d : SeenBook) → ClocksOn turns old new a.state b.state → GoesDown turns b d
    → KeepsClockFrom old new a.state d.state
clock-down (Ok e) old new a b d clocks down first at = inl (clock-stays first new b.state d.state down.moment (clocks first at))
clock-down (Err fault) old new a b d clocks down first at =
    let behind : b.state.moment ≤ moment_for new = clocks first at in
    inr (down.going, omega (arith, behind, down.moment))

-- where a run opens
pub clock-opened : (n : RunNumbers) (first : ℕ) (b : SeenBook) → b ≡ opened_book n → IsAtClock first first b.state
clock-opened n first b opened =
    let none : b.state.moment ≡ 0 = ap (λ (x : SeenBook). x.state.moment) opened in
    omega (arith, none)

-- behind an answer it counted what it had of these
pub counts-left : (old x y : FrontCounts) (a d : SeenBook) → y.words ≡ x.words → y.handed ≡ x.handed → CountsToEnd old x a d → CountsToEnd old y a d
counts-left old x y a d words handed counts first so =
    let at : CountsRun d first x = counts first so in
    record {
      orders = subst (λ (w : GivenWords). CountsBut d.state.going (orders_in d) first.words.graceful w.graceful) (sym words) at.orders;
      ending = λ ended. subst (λ (w : GivenWords). Rises first.words.graceful_stop w.graceful_stop) (sym words) (at.ending ended);
      stops = subst (λ (w : GivenWords). RisesJustBy (stops_at d.state.going) first.words.stop w.stop) (sym words) at.stops;
      links = subst (CountsBut d.state.going d.state.accepted first.handed) (sym handed) at.links;
    }
