use Rattle.std.proofs.Common.{◌∙◌, refl, ap}
use Rattle.mpm_base.specs.Front.{FrontSeen}
use Rattle.listener.specs.TurnsInside.{listener_of}
use Rattle.listener.proofs.CommandLemmas.{heeds-hushed}
use Rattle.listener.proofs.CountedEndLemmas.{asks-as, clock-down, counts-end, counts-left}
use Rattle.listener_round.proofs.FrontLemmas.{follows-trans}
use Rattle.listener.proofs.FrontLemmas.{time-kept}
use Rattle.listener.proofs.FrontCallLemmas.{contacts-left, follows-left, is-hushed, left-counts, waits-left}
use Rattle.listener.proofs.LinkLemmas.{handed-out}
use Rattle.listener.proofs.StoodLemmas.{stood-down}
use Rattle.listener.proofs.StopLemmas.{has-stopped, heeds-left, hushed-left, links-left, must-halt, stopped-left}
use Rattle.listener.proofs.listen.listen.Goals as goal

pub close_down-requires-clause-must : goal.close_down-requires-clause-must
close_down-requires-clause-must g c =
    let ends = c.take_turns-turns.ensures.over.ends in
    must-halt c.take_turns-turns.result (g.F.Front.seen c.args.front.now) (g.F.Front.seen c.take_turns-turns.new.front) c.take_turns-turns.new.listener.board.book ends

pub close_down-requires-clause-end : goal.close_down-requires-clause-end
close_down-requires-clause-end g c = c.take_turns-turns.ensures.over.end

pub returns-clause-listened : goal.returns-clause-listened
returns-clause-listened g c =
    let turns = c.take_turns-turns.result in
    let front = g.F.Front.seen c.args.front.now in
    let mid = g.F.Front.seen c.take_turns-turns.new.front in
    let hushed = g.F.Front.seen c.hush.new.front in
    let left = g.F.Front.seen c.answer_stop.new.front in
    let given = c.answer_stop.ensures in
    let b = c.take_turns-turns.new.listener.board.book in
    let d = c.close_down.new.board.book in
    let over = c.take_turns-turns.ensures.over in
    let first =
    listener_of c.args.listener.now.board front (g.C.Clock.told c.args.clock.now) c.args.listener.now.ready c.args.listener.now.edition
    (g.D.Store.seen c.args.store.now) c.args.listener.now.config (g.K.Sink.seen c.args.out.now) c.args.listener.now.written in
    let now =
    listener_of c.take_turns-turns.new.listener.board mid (g.C.Clock.told c.take_turns-turns.new.clock) c.take_turns-turns.new.listener.ready
    c.take_turns-turns.new.listener.edition (g.D.Store.seen c.take_turns-turns.new.store) c.take_turns-turns.new.listener.config
    (g.K.Sink.seen c.take_turns-turns.new.out) c.take_turns-turns.new.listener.written in
    let last =
    listener_of c.close_down.new.board left (g.C.Clock.told c.take_turns-turns.new.clock) c.take_turns-turns.new.listener.ready
    c.take_turns-turns.new.listener.edition (g.D.Store.seen c.take_turns-turns.new.store) c.take_turns-turns.new.listener.config
    (g.K.Sink.seen c.take_turns-turns.new.out) c.take_turns-turns.new.listener.written in
    record {
      stood =
          λ o n opened begun. stood-down g.N.Known.known o n turns first front now last (over.turned o n opened begun) over.ends over.up c.close_down.ensures
          hushed c.hush.ensures given refl refl refl refl c.take_turns-turns.ensures.counts;
      timely = λ before. c.close_down.ensures.timely (over.timely before);
      passes =
          c.close_down.ensures.retires.acts.passes ∙ c.close_down.ensures.closes.acts.passes ∙ c.close_down.ensures.halts.passes ∙ over.passes;
      stopped = stopped-left turns front hushed left d.state given (has-stopped turns front mid hushed b d over.ends c.close_down.ensures c.hush.ensures);
      follows = follows-trans _ _ _ over.follows (follows-left turns mid hushed left c.hush.ensures given);
      contacts = contacts-left turns mid hushed left c.hush.ensures given ∙ over.contacts;
      hushed = hushed-left turns hushed left given (is-hushed mid.told hushed.told (ap (λ (f : FrontSeen). f.told) c.hush.ensures));
      heeded =
          heeds-left turns hushed left d.state.going given
          (heeds-hushed turns mid.told hushed.told b.state.going d.state.going (ap (λ (f : FrontSeen). f.told) c.hush.ensures) over.up
          c.close_down.ensures.going over.heeded);
      links =
          links-left turns hushed left d.state given
          (handed-out turns mid.told hushed.told b.state d.state c.close_down.ensures.going c.close_down.ensures.accepted
          (ap (λ (f : FrontSeen). f.told) c.hush.ensures) over.step over.links);
      clock = over.clock;
      time = λ before. time-kept _ _ (g.C.Clock.told c.take_turns-turns.new.clock) (waits-left turns mid hushed left c.hush.ensures given) (over.time before);
    }

pub returns-clause-counts : goal.returns-clause-counts
returns-clause-counts g c =
    let old = g.F.Front.seen c.args.front.now in
    let now = g.F.Front.seen c.take_turns-turns.new.front in
    let ends = c.take_turns-turns.ensures.over.ends in
    let left = left-counts c.take_turns-turns.result (g.F.Front.seen c.hush.new.front) (g.F.Front.seen c.answer_stop.new.front) c.answer_stop.ensures in
    counts-left old.counts now.counts (g.F.Front.seen c.answer_stop.new.front).counts c.args.listener.now.board.book c.close_down.new.board.book
    (left.words ∙ ap (λ (f : FrontSeen). f.counts.words) c.hush.ensures) (left.handed ∙ ap (λ (f : FrontSeen). f.counts.handed) c.hush.ensures)
    (counts-end c.take_turns-turns.result old.counts now.counts old now c.args.listener.now.board.book c.take_turns-turns.new.listener.board.book
    c.close_down.new.board.book c.take_turns-turns.ensures.counts ends c.close_down.ensures)

pub returns-clause-clock : goal.returns-clause-clock
returns-clause-clock g c =
    clock-down c.take_turns-turns.result (g.C.Clock.greatest c.args.clock.now) (g.C.Clock.greatest c.take_turns-turns.new.clock)
    c.args.listener.now.board.book c.take_turns-turns.new.listener.board.book c.close_down.new.board.book c.take_turns-turns.ensures.clock c.close_down.ensures

pub returns-clause-asked : goal.returns-clause-asked
returns-clause-asked g c =
    let left = left-counts c.take_turns-turns.result (g.F.Front.seen c.hush.new.front) (g.F.Front.seen c.answer_stop.new.front) c.answer_stop.ensures in
    asks-as (g.F.Front.seen c.args.front.now).counts.wakes (g.F.Front.seen c.take_turns-turns.new.front).counts.wakes
    (g.F.Front.seen c.answer_stop.new.front).counts.wakes (g.C.Clock.asked c.args.clock.now) (g.C.Clock.asked c.take_turns-turns.new.clock)
    (left.wakes ∙ ap (λ (f : FrontSeen). f.counts.wakes) c.hush.ensures) c.take_turns-turns.ensures.asked
