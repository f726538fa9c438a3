use Rattle.std.proofs.Common.{◌≡◌, inl, inr, Option, None, refl, sym, ap, subst, ◌∙◌}
use Rattle.mpm_base.specs.Front.{is_woken}
use Rattle.conn_machine.specs.declared.state.State.{State}
use Rattle.rounds.specs.declared.ends.End.{End}
use Rattle.listener_round.specs.CountedInside.{CountsOn}
use Rattle.listener_round.specs.FrontInside.{TakesInTo}
use Rattle.listener_round.specs.RoundInside.{GoesRound, RoundEnds}
use Rattle.listener_round.specs.ShareInside.{GoesOnInTime}
use Rattle.conn_machine.specs.States.{is_halted, is_serving}
use Rattle.listener_round.specs.StandingInside.{owed_at}
use Rattle.listener.specs.TurnsInside.{listener_of}
use Rattle.board_book.specs.Moments.{moment_for}
use Rattle.listener.proofs.CommandLemmas.{heeded-wait}
use Rattle.listener.proofs.CountedEndLemmas.{alike-folded, alike-served, alike-started, asks-as, asks-more, asks-none, asks-wait, clock-behind, clock-broken, clock-idle, clock-on, clock-stays, clocks-broken, counts-ending, turns-broken}
use Rattle.listener_round.proofs.CountedLemmas.{alike-same, counts-alike, counts-more, counts-unbroken, counts-until, same-counts, same-wait}
use Rattle.listener.proofs.FoldedTurnLemmas.{turn-folded}
use Rattle.listener_round.proofs.FrontLemmas.{follows-trans, named-follows, step-kept}
use Rattle.listener.proofs.FrontLemmas.{follows-wait, step-wait}
use Rattle.listener.proofs.OverLemmas.{over-broken, over-ended, over-ended_for, over-failed, over-served, over-started, turn-served, turn-started}
use Rattle.rounds.proofs.ActLemmas.{none-has}
use Rattle.listener_round.proofs.CommandlessLemmas.{commandless-starts}
use Rattle.listener_round.proofs.IntakeLemmas.{stands-started}
use Rattle.listener.proofs.StandingTurnLemmas.{stands-acted}
use Rattle.listener.proofs.TurnLemmas.{HasGoneRound, HasServedRows, HasTakenIn, between-started, kept-started}
use Rattle.listener_round.proofs.NobodyLemmas.{nobody-started}
use Rattle.listener_round.proofs.WatchLemmas.{watched-as}
use Rattle.listener.proofs.WholeLemmas.{whole-begun}
use Rattle.listener.proofs.WholeEndLemmas.{begun-broken}
use Rattle.rounds.proofs.TimelyLemmas.{not-at_end_serving}
use Rattle.listener.proofs.WaitLemmas.{has-waited}
use Rattle.listener.proofs.listen.take_turns.Goals as goal

pub loop-init : goal.loop-init
loop-init g c =
    let first =
    listener_of c.args.listener.now.board (g.F.Front.seen c.args.front.now) (g.C.Clock.told c.args.clock.now) c.args.listener.now.ready c.args.listener.now.edition
    (g.D.Store.seen c.args.store.now) c.args.listener.now.config (g.K.Sink.seen c.args.out.now) c.args.listener.now.written in
    let m =
    listener_of c.start.new.listener.board (g.F.Front.seen c.args.front.now) (g.C.Clock.told c.args.clock.now) c.start.new.listener.ready c.start.new.listener.edition
    (g.D.Store.seen c.args.store.now) c.start.new.listener.config (g.K.Sink.seen c.args.out.now) c.start.new.listener.written in
    let same : m ≡ record first { board = m.board } =
    ap (λ (l : _). listener_of c.start.new.listener.board (g.F.Front.seen c.args.front.now) (g.C.Clock.told c.args.clock.now) l.ready l.edition
    (g.D.Store.seen c.args.store.now) l.config (g.K.Sink.seen c.args.out.now) l.written) c.start.ensures.others in
    let in_time =
    stands-started first.board.book.state m.board.book.state c.requires.may.going c.start.ensures.rest.going c.in_ok-first.ensures.staffed in
    let between =
    between-started c.generations_keep_their_editions.ensures c.passes_act_in_steps.ensures.acts g.N.Known.known first m c.requires.may.free
    (ap is_halted c.requires.may.going) c.requires.may.step in_time c.requires.may.knows c.requires.may.serves same c.start.ensures.starts c.start.ensures.rest in
    record {
      turn =
          turn-started g.N.Known.known c.in_ok-first.first first m between
          (λ o n opened begun. whole-begun g.N.Known.known o n first m opened begun same c.start.ensures.starts (c.in_ok-first.ensures.first begun.opening)
          c.start.ensures.rest.moment
          (stands-acted g.N.Known.known 0 _ None first m.board c.start.ensures.starts.acts (commandless-starts c.start.ensures.starts.children) c.start.ensures.rest.going)
          (watched-as first.front.told first.board.book m.board.book (nobody-started first.board.book m.board.book c.start.ensures.starts) c.start.ensures.rest.accepted))
          c.requires.may.heeded same c.start.ensures.starts c.start.ensures.rest.moment c.in_ok-first.ensures.until c.in_ok-first.ensures.quiet;
      counts = counts-alike (g.F.Front.seen c.args.front.now).counts (g.F.Front.seen c.args.front.now).counts c.args.listener.now.board.book c.start.new.listener.board.book (same-counts (g.F.Front.seen c.args.front.now).counts (g.F.Front.seen c.args.front.now).counts refl) (alike-started c.args.listener.now.board.book c.start.new.listener.board.book c.start.ensures.starts c.start.ensures.rest);
      asked = asks-none (g.F.Front.seen c.args.front.now).counts.wakes (g.C.Clock.asked c.args.clock.now);
      clock = λ first at. clock-stays first (g.C.Clock.greatest c.args.clock.now) c.args.listener.now.board.book.state c.start.new.listener.board.book.state c.start.ensures.rest.moment at;
    }

pub returns-in_err-first-clause-over : goal.returns-in_err-first-clause-over
returns-in_err-first-clause-over g c =
    let first =
    listener_of c.args.listener.now.board (g.F.Front.seen c.args.front.now) (g.C.Clock.told c.args.clock.now) c.args.listener.now.ready c.args.listener.now.edition
    (g.D.Store.seen c.args.store.now) c.args.listener.now.config (g.K.Sink.seen c.args.out.now) c.args.listener.now.written in
    let m =
    listener_of c.start.new.listener.board (g.F.Front.seen c.args.front.now) (g.C.Clock.told c.args.clock.now) c.start.new.listener.ready c.start.new.listener.edition
    (g.D.Store.seen c.args.store.now) c.start.new.listener.config (g.K.Sink.seen c.args.out.now) c.start.new.listener.written in
    let same : m ≡ record first { board = m.board } =
    ap (λ (l : _). listener_of c.start.new.listener.board (g.F.Front.seen c.args.front.now) (g.C.Clock.told c.args.clock.now) l.ready l.edition
    (g.D.Store.seen c.args.store.now) l.config (g.K.Sink.seen c.args.out.now) l.written) c.start.ensures.others in
    let going = c.requires.may.going in
    let kept =
    kept-started c.passes_act_in_steps.ensures.acts first m c.requires.may.free (ap is_halted going) same c.start.ensures.starts c.start.ensures.rest in
    over-started g.N.Known.known c.from_residual.result c.in_err-first.field-0.0 first m c.from_residual.ensures.1 kept
    (λ fault o n opened begun. begun-broken g.N.Known.known o n fault first m opened begun same c.start.ensures.starts c.start.ensures.rest.moment
    (stands-acted g.N.Known.known 0 _ None first m.board c.start.ensures.starts.acts (commandless-starts c.start.ensures.starts.children) c.start.ensures.rest.going)
    (watched-as first.front.told first.board.book m.board.book (nobody-started first.board.book m.board.book c.start.ensures.starts) c.start.ensures.rest.accepted))
    (not-at_end_serving m.board.book.state (ap is_serving (c.start.ensures.rest.going ∙ going)))
    (step-kept first.front.told first.board.book.state m.board.book.state c.start.ensures.rest.accepted c.start.ensures.rest.going c.requires.may.step)
    c.requires.may.heeded same c.start.ensures.starts c.in_err-first.ensures.err

pub take_in-requires-clause-named : goal.take_in-requires-clause-named
take_in-requires-clause-named g c κs within =
    named-follows g.N.Known.known (g.F.Front.seen c.args.front.now) (g.F.Front.seen c.take_pause-pause.new.front)
    (follows-trans _ _ _ c.loop.invariant.turn.between.kept.follows (follows-wait _ _ _ _ _ _ c.take_pause-pause.ensures.waits)) c.requires.named

pub take_in-requires-clause-heeded : goal.take_in-requires-clause-heeded
take_in-requires-clause-heeded g c κs within =
    heeded-wait _ _ _ _ (g.F.Front.seen c.loop.front).told (g.F.Front.seen c.take_pause-pause.new.front).told c.take_pause-pause.ensures.waits.tells
    c.loop.invariant.turn.heeded

pub take_in-requires-clause-step : goal.take_in-requires-clause-step
take_in-requires-clause-step g c κs within =
    step-wait _ _ _ _ (g.F.Front.seen c.loop.front).told (g.F.Front.seen c.take_pause-pause.new.front).told c.loop.listener.board.book.state
    c.take_pause-pause.ensures.waits.tells c.loop.invariant.turn.between.step

pub returns-in-Ended-clause-over : goal.returns-in-Ended-clause-over
returns-in-Ended-clause-over g c =
    let first =
    listener_of c.args.listener.now.board (g.F.Front.seen c.args.front.now) (g.C.Clock.told c.args.clock.now) c.args.listener.now.ready c.args.listener.now.edition
    (g.D.Store.seen c.args.store.now) c.args.listener.now.config (g.K.Sink.seen c.args.out.now) c.args.listener.now.written in
    let a =
    listener_of c.loop.listener.board (g.F.Front.seen c.loop.front) (g.C.Clock.told c.loop.clock) c.loop.listener.ready c.loop.listener.edition
    (g.D.Store.seen c.loop.store) c.loop.listener.config (g.K.Sink.seen c.loop.out) c.loop.listener.written in
    let w =
    listener_of c.loop.listener.board (g.F.Front.seen c.take_pause-pause.new.front) (g.C.Clock.told c.take_pause-pause.new.clock) c.take_pause-pause.new.ready
    c.loop.listener.edition (g.D.Store.seen c.loop.store) c.loop.listener.config (g.K.Sink.seen c.loop.out) c.loop.listener.written in
    let waited =
    has-waited c.loop.rest c.take_pause-pause.result a w c.moment-present.result refl refl refl refl refl refl c.show.ensures.after c.show.ensures.sound
    c.moment-present.ensures c.take_pause-pause.ensures.waits c.take_pause-pause.ensures.asks c.take_pause-pause.ensures.clock in
    over-ended c.passes_act_in_steps.ensures.acts g.N.Known.known c.loop.rest c.take_pause-pause.result first a w c.loop.invariant.turn waited c.in-Ended.is
    (sym c.has_live.ensures ∙ c.if-not-has_live.true)

pub returns-in-Failed-clause-over : goal.returns-in-Failed-clause-over
returns-in-Failed-clause-over g c =
    let first =
    listener_of c.args.listener.now.board (g.F.Front.seen c.args.front.now) (g.C.Clock.told c.args.clock.now) c.args.listener.now.ready c.args.listener.now.edition
    (g.D.Store.seen c.args.store.now) c.args.listener.now.config (g.K.Sink.seen c.args.out.now) c.args.listener.now.written in
    let a =
    listener_of c.loop.listener.board (g.F.Front.seen c.loop.front) (g.C.Clock.told c.loop.clock) c.loop.listener.ready c.loop.listener.edition
    (g.D.Store.seen c.loop.store) c.loop.listener.config (g.K.Sink.seen c.loop.out) c.loop.listener.written in
    let w =
    listener_of c.loop.listener.board (g.F.Front.seen c.take_pause-pause.new.front) (g.C.Clock.told c.take_pause-pause.new.clock) c.take_pause-pause.new.ready
    c.loop.listener.edition (g.D.Store.seen c.loop.store) c.loop.listener.config (g.K.Sink.seen c.loop.out) c.loop.listener.written in
    let waited =
    has-waited c.loop.rest c.take_pause-pause.result a w c.moment-present.result refl refl refl refl refl refl c.show.ensures.after c.show.ensures.sound
    c.moment-present.ensures c.take_pause-pause.ensures.waits c.take_pause-pause.ensures.asks c.take_pause-pause.ensures.clock in
    over-failed c.passes_act_in_steps.ensures.acts g.N.Known.known c.loop.rest c.take_pause-pause.result first a w c.loop.invariant.turn waited c.in-Failed.is

pub returns-in_err-ended-clause-over : goal.returns-in_err-ended-clause-over
returns-in_err-ended-clause-over g c =
    let first =
    listener_of c.args.listener.now.board (g.F.Front.seen c.args.front.now) (g.C.Clock.told c.args.clock.now) c.args.listener.now.ready c.args.listener.now.edition
    (g.D.Store.seen c.args.store.now) c.args.listener.now.config (g.K.Sink.seen c.args.out.now) c.args.listener.now.written in
    let a =
    listener_of c.loop.listener.board (g.F.Front.seen c.loop.front) (g.C.Clock.told c.loop.clock) c.loop.listener.ready c.loop.listener.edition
    (g.D.Store.seen c.loop.store) c.loop.listener.config (g.K.Sink.seen c.loop.out) c.loop.listener.written in
    let w =
    listener_of c.loop.listener.board (g.F.Front.seen c.take_pause-pause.new.front) (g.C.Clock.told c.take_pause-pause.new.clock) c.take_pause-pause.new.ready
    c.loop.listener.edition (g.D.Store.seen c.loop.store) c.loop.listener.config (g.K.Sink.seen c.loop.out) c.loop.listener.written in
    let waited =
    has-waited c.loop.rest c.take_pause-pause.result a w c.moment-present.result refl refl refl refl refl refl c.show.ensures.after c.show.ensures.sound
    c.moment-present.ensures c.take_pause-pause.ensures.waits c.take_pause-pause.ensures.asks c.take_pause-pause.ensures.clock in
    let b =
    listener_of c.take_in.new.self.board (g.F.Front.seen c.take_in.new.front) (g.C.Clock.told c.take_pause-pause.new.clock) c.take_in.new.self.ready
    c.take_in.new.self.edition (g.D.Store.seen c.take_in.new.store) c.take_in.new.self.config (g.K.Sink.seen c.take_in.new.out) c.take_in.new.self.written in
    let took : HasTakenIn w b =
    record {
      timely = c.take_in.ensures.timely;
      up = c.take_in.ensures.up;
      follows = c.take_in.ensures.follows;
      front = c.take_in.ensures.front;
      watched = c.take_in.ensures.watched;
      calls = refl;
      config = c.take_in.ensures.config;
    } in
    over-broken c.passes_act_in_steps.ensures.acts g.N.Known.known c.loop.rest c.take_pause-pause.result first a w c.loop.invariant.turn waited
    c.from_residual-in_err-ended.result c.in_err-ended.field-0.0 b c.from_residual-in_err-ended.ensures.1
    (record {
      took = took;
      round = c.in_err-ended.ensures.broken;
      share = c.in_err-ended.ensures.share;
      before = c.in_err-ended.ensures.before;
      stands = c.in_err-ended.ensures.stands;
      heard = c.in_err-ended.ensures.heard;
      listens = c.take_in.ensures.listens;
    })
    c.in_err-ended.ensures.unheeded c.in_err-ended.ensures.links c.in_err-ended.ensures.err

pub returns-in-Some-ended-clause-over : goal.returns-in-Some-ended-clause-over
returns-in-Some-ended-clause-over g c =
    let first =
    listener_of c.args.listener.now.board (g.F.Front.seen c.args.front.now) (g.C.Clock.told c.args.clock.now) c.args.listener.now.ready c.args.listener.now.edition
    (g.D.Store.seen c.args.store.now) c.args.listener.now.config (g.K.Sink.seen c.args.out.now) c.args.listener.now.written in
    let a =
    listener_of c.loop.listener.board (g.F.Front.seen c.loop.front) (g.C.Clock.told c.loop.clock) c.loop.listener.ready c.loop.listener.edition
    (g.D.Store.seen c.loop.store) c.loop.listener.config (g.K.Sink.seen c.loop.out) c.loop.listener.written in
    let w =
    listener_of c.loop.listener.board (g.F.Front.seen c.take_pause-pause.new.front) (g.C.Clock.told c.take_pause-pause.new.clock) c.take_pause-pause.new.ready
    c.loop.listener.edition (g.D.Store.seen c.loop.store) c.loop.listener.config (g.K.Sink.seen c.loop.out) c.loop.listener.written in
    let waited =
    has-waited c.loop.rest c.take_pause-pause.result a w c.moment-present.result refl refl refl refl refl refl c.show.ensures.after c.show.ensures.sound
    c.moment-present.ensures c.take_pause-pause.ensures.waits c.take_pause-pause.ensures.asks c.take_pause-pause.ensures.clock in
    let b =
    listener_of c.take_in.new.self.board (g.F.Front.seen c.take_in.new.front) (g.C.Clock.told c.take_pause-pause.new.clock) c.take_in.new.self.ready
    c.take_in.new.self.edition (g.D.Store.seen c.take_in.new.store) c.take_in.new.self.config (g.K.Sink.seen c.take_in.new.out) c.take_in.new.self.written in
    let took : HasTakenIn w b =
    record {
      timely = c.take_in.ensures.timely;
      up = c.take_in.ensures.up;
      follows = c.take_in.ensures.follows;
      front = c.take_in.ensures.front;
      watched = c.take_in.ensures.watched;
      calls = refl;
      config = c.take_in.ensures.config;
    } in
    let gone : HasGoneRound g.N.Known.known c.in_ok-ended.ended c.take_pause-pause.result w b =
    record {
      took = took;
      round = c.in_ok-ended.ensures.round;
      share = c.in_ok-ended.ensures.share;
      hushes = c.in_ok-ended.ensures.hushes;
      goes_on = c.in_ok-ended.ensures.goes_on;
      stands = c.in_ok-ended.ensures.stands;
      heard = c.in_ok-ended.ensures.heard;
      moment = c.in_ok-ended.ensures.moment;
      step = c.in_ok-ended.ensures.step;
      knows = c.in_ok-ended.ensures.knows;
      serves = c.in_ok-ended.ensures.serves;
    } in
    over-ended_for c.passes_act_in_steps.ensures.acts g.N.Known.known c.loop.rest c.take_pause-pause.result first a w c.loop.invariant.turn waited c.in_ok-ended.ended _ b c.in-Some-ended.is gone c.in_ok-ended.ensures.ends

pub take_in-requires-clause-in_time : goal.take_in-requires-clause-in_time
take_in-requires-clause-in_time g c κs within = c.loop.invariant.turn.between.in_time

pub serve-requires-clause-in_time : goal.serve-requires-clause-in_time
serve-requires-clause-in_time g c κs within =
    let goes_on : GoesOnInTime None c.take_in.new.self.board.book.state =
    subst (λ (o : Option End). GoesOnInTime o c.take_in.new.self.board.book.state) c.in-None-ended.is c.in_ok-ended.ensures.goes_on in
    goes_on.1

pub serve-requires-clause-staffed : goal.serve-requires-clause-staffed
serve-requires-clause-staffed g c κs within =
    let goes_on : GoesOnInTime None c.take_in.new.self.board.book.state =
    subst (λ (o : Option End). GoesOnInTime o c.take_in.new.self.board.book.state) c.in-None-ended.is c.in_ok-ended.ensures.goes_on in
    goes_on.0.staffed

pub serve-requires-clause-free : goal.serve-requires-clause-free
serve-requires-clause-free g c κs within =
    let on : GoesRound (moment_for c.take_pause-pause.result.moment) c.take_pause-pause.new.ready c.loop.listener.board.book c.take_in.new.self.board.book =
    subst (λ (o : Option End). RoundEnds o (moment_for c.take_pause-pause.result.moment) c.take_pause-pause.new.ready c.loop.listener.board.book c.take_in.new.self.board.book)
    c.in-None-ended.is c.in_ok-ended.ensures.round in
    none-has c.passes_act_in_steps.ensures.acts 0 _ c.loop.listener.board.book c.take_in.new.self.board.book c.loop.invariant.turn.between.kept.free on.acts 1

pub returns-in_err-rest-clause-over : goal.returns-in_err-rest-clause-over
returns-in_err-rest-clause-over g c =
    let first =
    listener_of c.args.listener.now.board (g.F.Front.seen c.args.front.now) (g.C.Clock.told c.args.clock.now) c.args.listener.now.ready c.args.listener.now.edition
    (g.D.Store.seen c.args.store.now) c.args.listener.now.config (g.K.Sink.seen c.args.out.now) c.args.listener.now.written in
    let a =
    listener_of c.loop.listener.board (g.F.Front.seen c.loop.front) (g.C.Clock.told c.loop.clock) c.loop.listener.ready c.loop.listener.edition
    (g.D.Store.seen c.loop.store) c.loop.listener.config (g.K.Sink.seen c.loop.out) c.loop.listener.written in
    let w =
    listener_of c.loop.listener.board (g.F.Front.seen c.take_pause-pause.new.front) (g.C.Clock.told c.take_pause-pause.new.clock) c.take_pause-pause.new.ready
    c.loop.listener.edition (g.D.Store.seen c.loop.store) c.loop.listener.config (g.K.Sink.seen c.loop.out) c.loop.listener.written in
    let waited =
    has-waited c.loop.rest c.take_pause-pause.result a w c.moment-present.result refl refl refl refl refl refl c.show.ensures.after c.show.ensures.sound
    c.moment-present.ensures c.take_pause-pause.ensures.waits c.take_pause-pause.ensures.asks c.take_pause-pause.ensures.clock in
    let b =
    listener_of c.take_in.new.self.board (g.F.Front.seen c.take_in.new.front) (g.C.Clock.told c.take_pause-pause.new.clock) c.take_in.new.self.ready
    c.take_in.new.self.edition (g.D.Store.seen c.take_in.new.store) c.take_in.new.self.config (g.K.Sink.seen c.take_in.new.out) c.take_in.new.self.written in
    let took : HasTakenIn w b =
    record {
      timely = c.take_in.ensures.timely;
      up = c.take_in.ensures.up;
      follows = c.take_in.ensures.follows;
      front = c.take_in.ensures.front;
      watched = c.take_in.ensures.watched;
      calls = refl;
      config = c.take_in.ensures.config;
    } in
    let gone : HasGoneRound g.N.Known.known c.in_ok-ended.ended c.take_pause-pause.result w b =
    record {
      took = took;
      round = c.in_ok-ended.ensures.round;
      share = c.in_ok-ended.ensures.share;
      hushes = c.in_ok-ended.ensures.hushes;
      goes_on = c.in_ok-ended.ensures.goes_on;
      stands = c.in_ok-ended.ensures.stands;
      heard = c.in_ok-ended.ensures.heard;
      moment = c.in_ok-ended.ensures.moment;
      step = c.in_ok-ended.ensures.step;
      knows = c.in_ok-ended.ensures.knows;
      serves = c.in_ok-ended.ensures.serves;
    } in
    let on : HasGoneRound g.N.Known.known None c.take_pause-pause.result w b =
    subst (λ (o : Option End). HasGoneRound g.N.Known.known o c.take_pause-pause.result w b) c.in-None-ended.is gone in
    let ends : TakesInTo None w.front b.front b.board.book.state =
    subst (λ (o : Option End). TakesInTo o w.front b.front b.board.book.state) c.in-None-ended.is c.in_ok-ended.ensures.ends in
    let d =
    listener_of c.serve.new.listener.board (g.F.Front.seen c.take_in.new.front) (g.C.Clock.told c.take_pause-pause.new.clock) c.serve.new.listener.ready
    c.serve.new.listener.edition (g.D.Store.seen c.take_in.new.store) c.serve.new.listener.config (g.K.Sink.seen c.take_in.new.out) c.serve.new.listener.written in
    let served : HasServedRows b d =
    record {
      serves = c.serve.ensures.serves;
      timely = c.serve.ensures.timely;
      staffed = c.serve.ensures.staffed;
      rest = c.serve.ensures.rest;
      others =
          ap (λ (l : _). listener_of c.serve.new.listener.board (g.F.Front.seen c.take_in.new.front) (g.C.Clock.told c.take_pause-pause.new.clock) l.ready l.edition
          (g.D.Store.seen c.take_in.new.store) l.config (g.K.Sink.seen c.take_in.new.out) l.written) c.serve.ensures.others;
    } in
    over-served c.passes_act_in_steps.ensures.acts g.N.Known.known c.loop.rest c.take_pause-pause.result first a w c.loop.invariant.turn waited b on c.generations_keep_their_editions.ensures
    c.from_residual-in_err-rest.result c.in_err-rest.field-0.0 d c.from_residual-in_err-rest.ensures.1 served ends.2 c.in_err-rest.ensures.err

pub loop-preserved : goal.loop-preserved
loop-preserved g c =
    let first =
    listener_of c.args.listener.now.board (g.F.Front.seen c.args.front.now) (g.C.Clock.told c.args.clock.now) c.args.listener.now.ready c.args.listener.now.edition
    (g.D.Store.seen c.args.store.now) c.args.listener.now.config (g.K.Sink.seen c.args.out.now) c.args.listener.now.written in
    let a =
    listener_of c.loop.listener.board (g.F.Front.seen c.loop.front) (g.C.Clock.told c.loop.clock) c.loop.listener.ready c.loop.listener.edition
    (g.D.Store.seen c.loop.store) c.loop.listener.config (g.K.Sink.seen c.loop.out) c.loop.listener.written in
    let w =
    listener_of c.loop.listener.board (g.F.Front.seen c.take_pause-pause.new.front) (g.C.Clock.told c.take_pause-pause.new.clock) c.take_pause-pause.new.ready
    c.loop.listener.edition (g.D.Store.seen c.loop.store) c.loop.listener.config (g.K.Sink.seen c.loop.out) c.loop.listener.written in
    let waited =
    has-waited c.loop.rest c.take_pause-pause.result a w c.moment-present.result refl refl refl refl refl refl c.show.ensures.after c.show.ensures.sound
    c.moment-present.ensures c.take_pause-pause.ensures.waits c.take_pause-pause.ensures.asks c.take_pause-pause.ensures.clock in
    let b =
    listener_of c.take_in.new.self.board (g.F.Front.seen c.take_in.new.front) (g.C.Clock.told c.take_pause-pause.new.clock) c.take_in.new.self.ready
    c.take_in.new.self.edition (g.D.Store.seen c.take_in.new.store) c.take_in.new.self.config (g.K.Sink.seen c.take_in.new.out) c.take_in.new.self.written in
    let took : HasTakenIn w b =
    record {
      timely = c.take_in.ensures.timely;
      up = c.take_in.ensures.up;
      follows = c.take_in.ensures.follows;
      front = c.take_in.ensures.front;
      watched = c.take_in.ensures.watched;
      calls = refl;
      config = c.take_in.ensures.config;
    } in
    let gone : HasGoneRound g.N.Known.known c.in_ok-ended.ended c.take_pause-pause.result w b =
    record {
      took = took;
      round = c.in_ok-ended.ensures.round;
      share = c.in_ok-ended.ensures.share;
      hushes = c.in_ok-ended.ensures.hushes;
      goes_on = c.in_ok-ended.ensures.goes_on;
      stands = c.in_ok-ended.ensures.stands;
      heard = c.in_ok-ended.ensures.heard;
      moment = c.in_ok-ended.ensures.moment;
      step = c.in_ok-ended.ensures.step;
      knows = c.in_ok-ended.ensures.knows;
      serves = c.in_ok-ended.ensures.serves;
    } in
    let on : HasGoneRound g.N.Known.known None c.take_pause-pause.result w b =
    subst (λ (o : Option End). HasGoneRound g.N.Known.known o c.take_pause-pause.result w b) c.in-None-ended.is gone in
    let ends : TakesInTo None w.front b.front b.board.book.state =
    subst (λ (o : Option End). TakesInTo o w.front b.front b.board.book.state) c.in-None-ended.is c.in_ok-ended.ensures.ends in
    let d =
    listener_of c.serve.new.listener.board (g.F.Front.seen c.take_in.new.front) (g.C.Clock.told c.take_pause-pause.new.clock) c.serve.new.listener.ready
    c.serve.new.listener.edition (g.D.Store.seen c.take_in.new.store) c.serve.new.listener.config (g.K.Sink.seen c.take_in.new.out) c.serve.new.listener.written in
    let served : HasServedRows b d =
    record {
      serves = c.serve.ensures.serves;
      timely = c.serve.ensures.timely;
      staffed = c.serve.ensures.staffed;
      rest = c.serve.ensures.rest;
      others =
          ap (λ (l : _). listener_of c.serve.new.listener.board (g.F.Front.seen c.take_in.new.front) (g.C.Clock.told c.take_pause-pause.new.clock) l.ready l.edition
          (g.D.Store.seen c.take_in.new.store) l.config (g.K.Sink.seen c.take_in.new.out) l.written) c.serve.ensures.others;
    } in
    let before =
    turn-served c.passes_act_in_steps.ensures.acts g.N.Known.known c.loop.rest c.take_pause-pause.result first a w c.loop.invariant.turn waited b on c.generations_keep_their_editions.ensures c.histories_join.ensures.state
    c.in_ok-rest.rest d c.show-in-loop.ensures.after c.show-in-loop-2.ensures.after served ends.2 ends.0 ends.1
    c.in_ok-rest.ensures.until c.in_ok-rest.ensures.quiet in
    record {
      turn = turn-folded g.N.Known.known d c.fold_history.new.board c.fold_history.ensures first c.in_ok-rest.rest before;
      counts =
          counts-more 0 (g.F.Front.seen c.args.front.now).counts (g.F.Front.seen c.take_in.new.front).counts (g.F.Front.seen c.take_in.new.front).counts c.args.listener.now.board.book c.serve.new.listener.board.book c.fold_history.new.board.book
          (counts-more 0 (g.F.Front.seen c.args.front.now).counts (g.F.Front.seen c.take_in.new.front).counts (g.F.Front.seen c.take_in.new.front).counts c.args.listener.now.board.book c.take_in.new.self.board.book c.serve.new.listener.board.book
          (counts-more 0 (g.F.Front.seen c.args.front.now).counts (g.F.Front.seen c.take_pause-pause.new.front).counts (g.F.Front.seen c.take_in.new.front).counts c.args.listener.now.board.book c.loop.listener.board.book c.take_in.new.self.board.book
          (counts-more 0 (g.F.Front.seen c.args.front.now).counts (g.F.Front.seen c.loop.front).counts (g.F.Front.seen c.take_pause-pause.new.front).counts c.args.listener.now.board.book c.loop.listener.board.book c.loop.listener.board.book c.loop.invariant.counts
          (counts-alike (g.F.Front.seen c.loop.front).counts (g.F.Front.seen c.take_pause-pause.new.front).counts c.loop.listener.board.book c.loop.listener.board.book
          (same-wait (g.F.Front.seen c.loop.front) (g.F.Front.seen c.take_pause-pause.new.front) c.loop.rest.until c.loop.rest.quiet c.take_pause-pause.result.woke
          c.take_pause-pause.new.ready c.take_pause-pause.ensures.waits) (alike-same c.loop.listener.board.book c.loop.listener.board.book refl)))
          (subst (λ (o : Option End). CountsOn (owed_at o) (g.F.Front.seen c.take_pause-pause.new.front).counts (g.F.Front.seen c.take_in.new.front).counts c.loop.listener.board.book c.take_in.new.self.board.book) c.in-None-ended.is c.in_ok-ended.ensures.counts))
          (counts-alike (g.F.Front.seen c.take_in.new.front).counts (g.F.Front.seen c.take_in.new.front).counts c.take_in.new.self.board.book c.serve.new.listener.board.book (same-counts (g.F.Front.seen c.take_in.new.front).counts (g.F.Front.seen c.take_in.new.front).counts refl)
          (alike-served c.passes_act_in_steps.ensures.acts c.take_in.new.self.board c.serve.new.listener.board c.serve.ensures.serves c.serve.ensures.rest)))
          (counts-alike (g.F.Front.seen c.take_in.new.front).counts (g.F.Front.seen c.take_in.new.front).counts c.serve.new.listener.board.book c.fold_history.new.board.book (same-counts (g.F.Front.seen c.take_in.new.front).counts (g.F.Front.seen c.take_in.new.front).counts refl)
          (alike-folded g.N.Known.known c.serve.new.listener.board c.fold_history.new.board c.fold_history.ensures));
      asked =
          asks-as (g.F.Front.seen c.args.front.now).counts.wakes (g.F.Front.seen c.take_pause-pause.new.front).counts.wakes (g.F.Front.seen c.take_in.new.front).counts.wakes (g.C.Clock.asked c.args.clock.now) (g.C.Clock.asked c.take_pause-pause.new.clock) c.take_in.ensures.wakes
          (asks-more (g.F.Front.seen c.args.front.now).counts.wakes (g.F.Front.seen c.loop.front).counts.wakes (g.F.Front.seen c.take_pause-pause.new.front).counts.wakes (g.C.Clock.asked c.args.clock.now) (g.C.Clock.asked c.loop.clock) (g.C.Clock.asked c.take_pause-pause.new.clock) c.loop.invariant.asked
          (asks-wait (is_woken c.take_pause-pause.result.woke) (g.F.Front.seen c.loop.front).counts.wakes (g.F.Front.seen c.take_pause-pause.new.front).counts.wakes (g.C.Clock.asked c.loop.clock) (g.C.Clock.asked c.take_pause-pause.new.clock) c.take_pause-pause.ensures.waits.wakes c.take_pause-pause.ensures.asked));
      clock =
          λ first at. clock-stays first (g.C.Clock.greatest c.take_pause-pause.new.clock) c.serve.new.listener.board.book.state c.fold_history.new.board.book.state (ap (λ (s : State). s.moment) c.fold_history.ensures.state)
          (clock-stays first (g.C.Clock.greatest c.take_pause-pause.new.clock) c.take_in.new.self.board.book.state c.serve.new.listener.board.book.state c.serve.ensures.rest.moment
          (clock-on c.take_pause-pause.result.woke c.moment-present.result (g.C.Clock.greatest c.loop.clock) (g.C.Clock.greatest c.take_pause-pause.new.clock) c.take_pause-pause.result.moment c.loop.listener.board.book.state c.take_in.new.self.board.book.state c.take_pause-pause.ensures.moves
          c.moment-present.ensures c.in_ok-ended.ensures.moment first (c.loop.invariant.clock first at)));
    }

pub returns-in_err-first-clause-counts : goal.returns-in_err-first-clause-counts
returns-in_err-first-clause-counts g c =
    turns-broken c.from_residual.result c.in_err-first.field-0.0 (g.F.Front.seen c.args.front.now).counts (g.F.Front.seen c.args.front.now).counts c.args.listener.now.board.book c.start.new.listener.board.book
    c.from_residual.ensures.1
    (counts-unbroken (g.F.Front.seen c.args.front.now).counts (g.F.Front.seen c.args.front.now).counts c.args.listener.now.board.book c.start.new.listener.board.book
    (counts-alike (g.F.Front.seen c.args.front.now).counts (g.F.Front.seen c.args.front.now).counts c.args.listener.now.board.book c.start.new.listener.board.book (same-counts (g.F.Front.seen c.args.front.now).counts (g.F.Front.seen c.args.front.now).counts refl) (alike-started c.args.listener.now.board.book c.start.new.listener.board.book c.start.ensures.starts c.start.ensures.rest)))

pub returns-in_err-first-clause-clock : goal.returns-in_err-first-clause-clock
returns-in_err-first-clause-clock g c =
    clocks-broken c.from_residual.result c.in_err-first.field-0.0 (g.C.Clock.greatest c.args.clock.now) (g.C.Clock.greatest c.args.clock.now) c.args.listener.now.board.book.state c.start.new.listener.board.book.state c.from_residual.ensures.1
    (λ first at. clock-behind first (g.C.Clock.greatest c.args.clock.now) c.args.listener.now.board.book.state c.start.new.listener.board.book.state c.start.ensures.rest.moment at)

pub returns-in-Ended-clause-counts : goal.returns-in-Ended-clause-counts
returns-in-Ended-clause-counts g c =
    counts-more 0 (g.F.Front.seen c.args.front.now).counts (g.F.Front.seen c.loop.front).counts (g.F.Front.seen c.take_pause-pause.new.front).counts c.args.listener.now.board.book c.loop.listener.board.book c.loop.listener.board.book c.loop.invariant.counts
    (counts-alike (g.F.Front.seen c.loop.front).counts (g.F.Front.seen c.take_pause-pause.new.front).counts c.loop.listener.board.book c.loop.listener.board.book
    (same-wait (g.F.Front.seen c.loop.front) (g.F.Front.seen c.take_pause-pause.new.front) c.loop.rest.until c.loop.rest.quiet c.take_pause-pause.result.woke
    c.take_pause-pause.new.ready c.take_pause-pause.ensures.waits) (alike-same c.loop.listener.board.book c.loop.listener.board.book refl))

pub returns-in-Ended-clause-clock : goal.returns-in-Ended-clause-clock
returns-in-Ended-clause-clock g c first at =
    clock-idle c.take_pause-pause.result.woke c.moment-present.result (g.C.Clock.greatest c.loop.clock) (g.C.Clock.greatest c.take_pause-pause.new.clock) c.take_pause-pause.result.moment c.loop.listener.board.book.state c.take_pause-pause.ensures.moves (inl c.in-Ended.is) first
    (c.loop.invariant.clock first at)

pub returns-in-Failed-clause-counts : goal.returns-in-Failed-clause-counts
returns-in-Failed-clause-counts g c =
    counts-more 0 (g.F.Front.seen c.args.front.now).counts (g.F.Front.seen c.loop.front).counts (g.F.Front.seen c.take_pause-pause.new.front).counts c.args.listener.now.board.book c.loop.listener.board.book c.loop.listener.board.book c.loop.invariant.counts
    (counts-alike (g.F.Front.seen c.loop.front).counts (g.F.Front.seen c.take_pause-pause.new.front).counts c.loop.listener.board.book c.loop.listener.board.book
    (same-wait (g.F.Front.seen c.loop.front) (g.F.Front.seen c.take_pause-pause.new.front) c.loop.rest.until c.loop.rest.quiet c.take_pause-pause.result.woke
    c.take_pause-pause.new.ready c.take_pause-pause.ensures.waits) (alike-same c.loop.listener.board.book c.loop.listener.board.book refl))

pub returns-in-Failed-clause-clock : goal.returns-in-Failed-clause-clock
returns-in-Failed-clause-clock g c first at =
    clock-idle c.take_pause-pause.result.woke c.moment-present.result (g.C.Clock.greatest c.loop.clock) (g.C.Clock.greatest c.take_pause-pause.new.clock) c.take_pause-pause.result.moment c.loop.listener.board.book.state c.take_pause-pause.ensures.moves (inr c.in-Failed.is) first
    (c.loop.invariant.clock first at)

pub returns-in_err-ended-clause-counts : goal.returns-in_err-ended-clause-counts
returns-in_err-ended-clause-counts g c =
    turns-broken c.from_residual-in_err-ended.result c.in_err-ended.field-0.0 (g.F.Front.seen c.args.front.now).counts (g.F.Front.seen c.take_in.new.front).counts c.args.listener.now.board.book c.take_in.new.self.board.book c.from_residual-in_err-ended.ensures.1
    (counts-until (g.F.Front.seen c.args.front.now).counts (g.F.Front.seen c.take_pause-pause.new.front).counts (g.F.Front.seen c.take_in.new.front).counts c.args.listener.now.board.book c.loop.listener.board.book c.take_in.new.self.board.book
    (counts-more 0 (g.F.Front.seen c.args.front.now).counts (g.F.Front.seen c.loop.front).counts (g.F.Front.seen c.take_pause-pause.new.front).counts c.args.listener.now.board.book c.loop.listener.board.book c.loop.listener.board.book c.loop.invariant.counts
    (counts-alike (g.F.Front.seen c.loop.front).counts (g.F.Front.seen c.take_pause-pause.new.front).counts c.loop.listener.board.book c.loop.listener.board.book
    (same-wait (g.F.Front.seen c.loop.front) (g.F.Front.seen c.take_pause-pause.new.front) c.loop.rest.until c.loop.rest.quiet c.take_pause-pause.result.woke
    c.take_pause-pause.new.ready c.take_pause-pause.ensures.waits) (alike-same c.loop.listener.board.book c.loop.listener.board.book refl)))
    c.in_err-ended.ensures.counts)

pub returns-in_err-ended-clause-clock : goal.returns-in_err-ended-clause-clock
returns-in_err-ended-clause-clock g c =
    clocks-broken c.from_residual-in_err-ended.result c.in_err-ended.field-0.0 (g.C.Clock.greatest c.args.clock.now) (g.C.Clock.greatest c.take_pause-pause.new.clock) c.args.listener.now.board.book.state c.take_in.new.self.board.book.state c.from_residual-in_err-ended.ensures.1
    (λ first at. clock-broken c.take_pause-pause.result.woke c.moment-present.result (g.C.Clock.greatest c.loop.clock) (g.C.Clock.greatest c.take_pause-pause.new.clock) c.take_pause-pause.result.moment c.loop.listener.board.book.state c.take_in.new.self.board.book.state first c.take_pause-pause.ensures.moves
    c.moment-present.ensures c.in_err-ended.ensures.stays (c.loop.invariant.clock first at))

pub returns-in-Some-ended-clause-counts : goal.returns-in-Some-ended-clause-counts
returns-in-Some-ended-clause-counts g c =
    counts-ending c.in_ok-ended.ended _ (g.F.Front.seen c.args.front.now).counts (g.F.Front.seen c.take_pause-pause.new.front).counts (g.F.Front.seen c.take_in.new.front).counts c.args.listener.now.board.book c.loop.listener.board.book c.take_in.new.self.board.book c.in-Some-ended.is
    (counts-more 0 (g.F.Front.seen c.args.front.now).counts (g.F.Front.seen c.loop.front).counts (g.F.Front.seen c.take_pause-pause.new.front).counts c.args.listener.now.board.book c.loop.listener.board.book c.loop.listener.board.book c.loop.invariant.counts
    (counts-alike (g.F.Front.seen c.loop.front).counts (g.F.Front.seen c.take_pause-pause.new.front).counts c.loop.listener.board.book c.loop.listener.board.book
    (same-wait (g.F.Front.seen c.loop.front) (g.F.Front.seen c.take_pause-pause.new.front) c.loop.rest.until c.loop.rest.quiet c.take_pause-pause.result.woke
    c.take_pause-pause.new.ready c.take_pause-pause.ensures.waits) (alike-same c.loop.listener.board.book c.loop.listener.board.book refl)))
    c.in_ok-ended.ensures.counts

pub returns-in-Some-ended-clause-clock : goal.returns-in-Some-ended-clause-clock
returns-in-Some-ended-clause-clock g c first at =
    clock-on c.take_pause-pause.result.woke c.moment-present.result (g.C.Clock.greatest c.loop.clock) (g.C.Clock.greatest c.take_pause-pause.new.clock) c.take_pause-pause.result.moment c.loop.listener.board.book.state c.take_in.new.self.board.book.state c.take_pause-pause.ensures.moves
    c.moment-present.ensures c.in_ok-ended.ensures.moment first (c.loop.invariant.clock first at)

pub returns-in_err-rest-clause-counts : goal.returns-in_err-rest-clause-counts
returns-in_err-rest-clause-counts g c =
    turns-broken c.from_residual-in_err-rest.result c.in_err-rest.field-0.0 (g.F.Front.seen c.args.front.now).counts (g.F.Front.seen c.take_in.new.front).counts c.args.listener.now.board.book c.serve.new.listener.board.book c.from_residual-in_err-rest.ensures.1
    (counts-unbroken (g.F.Front.seen c.args.front.now).counts (g.F.Front.seen c.take_in.new.front).counts c.args.listener.now.board.book c.serve.new.listener.board.book
    (counts-more 0 (g.F.Front.seen c.args.front.now).counts (g.F.Front.seen c.take_in.new.front).counts (g.F.Front.seen c.take_in.new.front).counts c.args.listener.now.board.book c.take_in.new.self.board.book c.serve.new.listener.board.book
    (counts-more 0 (g.F.Front.seen c.args.front.now).counts (g.F.Front.seen c.take_pause-pause.new.front).counts (g.F.Front.seen c.take_in.new.front).counts c.args.listener.now.board.book c.loop.listener.board.book c.take_in.new.self.board.book
    (counts-more 0 (g.F.Front.seen c.args.front.now).counts (g.F.Front.seen c.loop.front).counts (g.F.Front.seen c.take_pause-pause.new.front).counts c.args.listener.now.board.book c.loop.listener.board.book c.loop.listener.board.book c.loop.invariant.counts
    (counts-alike (g.F.Front.seen c.loop.front).counts (g.F.Front.seen c.take_pause-pause.new.front).counts c.loop.listener.board.book c.loop.listener.board.book
    (same-wait (g.F.Front.seen c.loop.front) (g.F.Front.seen c.take_pause-pause.new.front) c.loop.rest.until c.loop.rest.quiet c.take_pause-pause.result.woke
    c.take_pause-pause.new.ready c.take_pause-pause.ensures.waits) (alike-same c.loop.listener.board.book c.loop.listener.board.book refl)))
    (subst (λ (o : Option End). CountsOn (owed_at o) (g.F.Front.seen c.take_pause-pause.new.front).counts (g.F.Front.seen c.take_in.new.front).counts c.loop.listener.board.book c.take_in.new.self.board.book) c.in-None-ended.is c.in_ok-ended.ensures.counts))
    (counts-alike (g.F.Front.seen c.take_in.new.front).counts (g.F.Front.seen c.take_in.new.front).counts c.take_in.new.self.board.book c.serve.new.listener.board.book (same-counts (g.F.Front.seen c.take_in.new.front).counts (g.F.Front.seen c.take_in.new.front).counts refl)
    (alike-served c.passes_act_in_steps.ensures.acts c.take_in.new.self.board c.serve.new.listener.board c.serve.ensures.serves c.serve.ensures.rest))))

pub returns-in_err-rest-clause-clock : goal.returns-in_err-rest-clause-clock
returns-in_err-rest-clause-clock g c =
    clocks-broken c.from_residual-in_err-rest.result c.in_err-rest.field-0.0 (g.C.Clock.greatest c.args.clock.now) (g.C.Clock.greatest c.take_pause-pause.new.clock) c.args.listener.now.board.book.state c.serve.new.listener.board.book.state c.from_residual-in_err-rest.ensures.1
    (λ first at. clock-behind first (g.C.Clock.greatest c.take_pause-pause.new.clock) c.take_in.new.self.board.book.state c.serve.new.listener.board.book.state c.serve.ensures.rest.moment
    (clock-on c.take_pause-pause.result.woke c.moment-present.result (g.C.Clock.greatest c.loop.clock) (g.C.Clock.greatest c.take_pause-pause.new.clock) c.take_pause-pause.result.moment c.loop.listener.board.book.state c.take_in.new.self.board.book.state c.take_pause-pause.ensures.moves
    c.moment-present.ensures c.in_ok-ended.ensures.moment first (c.loop.invariant.clock first at)))

pub returns-in_err-first-clause-asked : goal.returns-in_err-first-clause-asked
returns-in_err-first-clause-asked g c =
    asks-none (g.F.Front.seen c.args.front.now).counts.wakes (g.C.Clock.asked c.args.clock.now)

pub returns-in-Ended-clause-asked : goal.returns-in-Ended-clause-asked
returns-in-Ended-clause-asked g c =
    asks-more (g.F.Front.seen c.args.front.now).counts.wakes (g.F.Front.seen c.loop.front).counts.wakes (g.F.Front.seen c.take_pause-pause.new.front).counts.wakes (g.C.Clock.asked c.args.clock.now) (g.C.Clock.asked c.loop.clock) (g.C.Clock.asked c.take_pause-pause.new.clock) c.loop.invariant.asked
    (asks-wait (is_woken c.take_pause-pause.result.woke) (g.F.Front.seen c.loop.front).counts.wakes (g.F.Front.seen c.take_pause-pause.new.front).counts.wakes (g.C.Clock.asked c.loop.clock) (g.C.Clock.asked c.take_pause-pause.new.clock) c.take_pause-pause.ensures.waits.wakes c.take_pause-pause.ensures.asked)

pub returns-in-Failed-clause-asked : goal.returns-in-Failed-clause-asked
returns-in-Failed-clause-asked g c =
    asks-more (g.F.Front.seen c.args.front.now).counts.wakes (g.F.Front.seen c.loop.front).counts.wakes (g.F.Front.seen c.take_pause-pause.new.front).counts.wakes (g.C.Clock.asked c.args.clock.now) (g.C.Clock.asked c.loop.clock) (g.C.Clock.asked c.take_pause-pause.new.clock) c.loop.invariant.asked
    (asks-wait (is_woken c.take_pause-pause.result.woke) (g.F.Front.seen c.loop.front).counts.wakes (g.F.Front.seen c.take_pause-pause.new.front).counts.wakes (g.C.Clock.asked c.loop.clock) (g.C.Clock.asked c.take_pause-pause.new.clock) c.take_pause-pause.ensures.waits.wakes c.take_pause-pause.ensures.asked)

pub returns-in_err-ended-clause-asked : goal.returns-in_err-ended-clause-asked
returns-in_err-ended-clause-asked g c =
    asks-as (g.F.Front.seen c.args.front.now).counts.wakes (g.F.Front.seen c.take_pause-pause.new.front).counts.wakes (g.F.Front.seen c.take_in.new.front).counts.wakes (g.C.Clock.asked c.args.clock.now) (g.C.Clock.asked c.take_pause-pause.new.clock) c.take_in.ensures.wakes
    (asks-more (g.F.Front.seen c.args.front.now).counts.wakes (g.F.Front.seen c.loop.front).counts.wakes (g.F.Front.seen c.take_pause-pause.new.front).counts.wakes (g.C.Clock.asked c.args.clock.now) (g.C.Clock.asked c.loop.clock) (g.C.Clock.asked c.take_pause-pause.new.clock) c.loop.invariant.asked
    (asks-wait (is_woken c.take_pause-pause.result.woke) (g.F.Front.seen c.loop.front).counts.wakes (g.F.Front.seen c.take_pause-pause.new.front).counts.wakes (g.C.Clock.asked c.loop.clock) (g.C.Clock.asked c.take_pause-pause.new.clock) c.take_pause-pause.ensures.waits.wakes c.take_pause-pause.ensures.asked))

pub returns-in-Some-ended-clause-asked : goal.returns-in-Some-ended-clause-asked
returns-in-Some-ended-clause-asked g c =
    asks-as (g.F.Front.seen c.args.front.now).counts.wakes (g.F.Front.seen c.take_pause-pause.new.front).counts.wakes (g.F.Front.seen c.take_in.new.front).counts.wakes (g.C.Clock.asked c.args.clock.now) (g.C.Clock.asked c.take_pause-pause.new.clock) c.take_in.ensures.wakes
    (asks-more (g.F.Front.seen c.args.front.now).counts.wakes (g.F.Front.seen c.loop.front).counts.wakes (g.F.Front.seen c.take_pause-pause.new.front).counts.wakes (g.C.Clock.asked c.args.clock.now) (g.C.Clock.asked c.loop.clock) (g.C.Clock.asked c.take_pause-pause.new.clock) c.loop.invariant.asked
    (asks-wait (is_woken c.take_pause-pause.result.woke) (g.F.Front.seen c.loop.front).counts.wakes (g.F.Front.seen c.take_pause-pause.new.front).counts.wakes (g.C.Clock.asked c.loop.clock) (g.C.Clock.asked c.take_pause-pause.new.clock) c.take_pause-pause.ensures.waits.wakes c.take_pause-pause.ensures.asked))

pub returns-in_err-rest-clause-asked : goal.returns-in_err-rest-clause-asked
returns-in_err-rest-clause-asked g c =
    asks-as (g.F.Front.seen c.args.front.now).counts.wakes (g.F.Front.seen c.take_pause-pause.new.front).counts.wakes (g.F.Front.seen c.take_in.new.front).counts.wakes (g.C.Clock.asked c.args.clock.now) (g.C.Clock.asked c.take_pause-pause.new.clock) c.take_in.ensures.wakes
    (asks-more (g.F.Front.seen c.args.front.now).counts.wakes (g.F.Front.seen c.loop.front).counts.wakes (g.F.Front.seen c.take_pause-pause.new.front).counts.wakes (g.C.Clock.asked c.args.clock.now) (g.C.Clock.asked c.loop.clock) (g.C.Clock.asked c.take_pause-pause.new.clock) c.loop.invariant.asked
    (asks-wait (is_woken c.take_pause-pause.result.woke) (g.F.Front.seen c.loop.front).counts.wakes (g.F.Front.seen c.take_pause-pause.new.front).counts.wakes (g.C.Clock.asked c.loop.clock) (g.C.Clock.asked c.take_pause-pause.new.clock) c.take_pause-pause.ensures.waits.wakes c.take_pause-pause.ensures.asked))
