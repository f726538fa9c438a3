use Rattle.std.proofs.Common.{ℕ, ◌<◌, refl, sym, ap, subst, ◌∙◌, rules}
use Rattle.mpm_base.specs.Front.{FrontCounts}
use Rattle.conn_machine.specs.States.{is_halted}
use Rattle.listener_round.specs.CountedInside.{CountsUntil}
use Rattle.listener_round.specs.OrdersInside.{ServesNewest}
use Rattle.listener_round.specs.RoundInside.{TakesUntil}
use Rattle.rounds.specs.PartsInside.{way_of}
use Rattle.listener_round.proofs.CountedLemmas.{alike-same, counts-alike, counts-lacking, counts-more, counts-same, counts-taken, counts-unbroken, counts-until, same-unhanded}
use Rattle.listener_round.proofs.EditionLemmas.{newest-acts}
use Rattle.listener_round.proofs.FrontLemmas.{alike-mapped, arrives-next, follows-accept, follows-same, follows-trans, handed-known, handed-tells, named-follows, step-none, step-taken, takes-accept, takes-same, takes-trans}
use Rattle.listener_round.proofs.HeardLineLemmas.{keeps-accept, keeps-same, keeps-takes, keeps-trans}
use Rattle.listener_round.proofs.LinkLemmas.{hands-ended}
use Rattle.rounds.proofs.ActLemmas.{on-err}
use Rattle.listener_round.proofs.RoundLemmas.{takes-more, takes-none}
use Rattle.listener_round.proofs.TakenLemmas.{took-none}
use Rattle.listener_round.proofs.HandedLemmas.{counts-link, counts-none, handed-cut, handed-more, handed-start, handed-still}
use Rattle.listener_round.proofs.WatchLemmas.{watched-accept, watched-both}
use Rattle.rounds.proofs.TimelyLemmas.{stays-none}
use Rattle.listener_round.proofs.listener_state.Listener.take_all.Goals as goal

pub loop-init : goal.loop-init
loop-init g c =
    record {
      takes = takes-none c.passes_act_in_steps.ensures.acts c.args.self.now.board.book c.requires.free;
      going = refl;
      newest = refl;
      moment = refl;
      step = c.requires.step;
      counts = counts-same (g.F.Front.seen c.args.front.now).counts c.args.self.now.board.book;
      wakes = refl;
      heard = keeps-same _;
      follows = follows-same _;
      front = takes-same _;
      watched = λ past before. before;
      handed = handed-start _ c.args.self.now.board.book;
      timely = stays-none c.args.self.now.board.book;
      children = refl;
      in_time = λ soon. soon;
      edition = refl;
      ready = refl;
      config = refl;
      written = refl;
    }

pub take-requires-clause-passes : goal.take-requires-clause-passes
take-requires-clause-passes g c κs within =
    let takes = c.loop.invariant.takes in
    subst (λ (n : ℕ). 0 < n) (sym takes.acts.passes) c.requires.passes

pub take-requires-clause-free : goal.take-requires-clause-free
take-requires-clause-free g c κs within =
    let takes = c.loop.invariant.takes in
    takes.acts.row

pub take-requires-clause-up : goal.take-requires-clause-up
take-requires-clause-up g c κs within = ap is_halted c.loop.invariant.going ∙ c.requires.up

pub take-requires-clause-site : goal.take-requires-clause-site
take-requires-clause-site g c κs within = c.in-Ok.ensures

pub take-requires-clause-serves : goal.take-requires-clause-serves
take-requires-clause-serves g c κs within =
    let before = c.loop.invariant in
    subst (ServesNewest g.N.Known.known c.loop.self.board.book) (sym before.edition)
    (newest-acts c.generations_keep_their_editions.ensures g.N.Known.known 0 _ _ c.args.self.now.board.book c.loop.self.board.book c.args.self.now.edition
    before.takes.acts before.newest c.requires.serves)

pub take-requires-clause-arrival : goal.take-requires-clause-arrival
take-requires-clause-arrival g c κs within =
    let step = c.loop.invariant.step in
    arrives-next (g.F.Front.seen c.loop.front).told (g.L.Link.seen c.in-Some-accept.link).told c.loop.self.board.book.state
    c.in-Some-accept.ensures.accepts.hands.1 step

pub take-requires-clause-client : goal.take-requires-clause-client
take-requires-clause-client g c κs within =
    handed-known g.N.Known.known (g.F.Front.seen c.loop.front).told (g.L.Link.seen c.in-Some-accept.link).told
    (named-follows g.N.Known.known _ _ c.loop.invariant.follows c.requires.named) c.in-Some-accept.ensures.accepts.hands.1

pub take-requires-clause-tells : goal.take-requires-clause-tells
take-requires-clause-tells g c κs within =
    alike-mapped _ (g.F.Front.seen c.loop.front).told (g.F.Front.seen c.accept.new.self).told (g.L.Link.seen c.in-Some-accept.link).told
    c.in-Some-accept.ensures.accepts.told_is
    (handed-tells (g.F.Front.seen c.loop.front).told (g.L.Link.seen c.in-Some-accept.link).told c.in-Some-accept.ensures.accepts.hands.1)

pub loop-preserved : goal.loop-preserved
loop-preserved g c =
    let before = c.loop.invariant in
    let taking = c.in_ok-take-in-Some-accept.ensures.takes in
    record {
      takes =
          takes-more c.passes_act_in_steps.ensures.acts (record { name = taking.name; way = way_of taking.watched }) c.args.self.now.board.book c.loop.self.board.book
          c.take.new.self.board.book before.takes (record { watched = taking.watched; way_is = refl }) taking.acts;
      going = c.take.ensures.going ∙ before.going;
      newest = c.take.ensures.newest ∙ before.newest;
      moment = c.take.ensures.moment ∙ before.moment;
      step =
          c.in_ok-take-in-Some-accept.ensures.step
          (step-taken c.in-Some-accept.link (g.F.Front.seen c.loop.front).told (g.F.Front.seen c.accept.new.self).told c.loop.self.board.book.state
          c.take.new.self.board.book.state c.in-Some-accept.ensures.accepts.told_is c.in_ok-take-in-Some-accept.ensures.taken c.take.ensures.going before.step);
      counts =
          counts-more 0 (g.F.Front.seen c.args.front.now).counts (g.F.Front.seen c.loop.front).counts (g.F.Front.seen c.take.new.front).counts c.args.self.now.board.book c.loop.self.board.book
          c.take.new.self.board.book before.counts
          (counts-taken g.L.Link.seen (g.F.Front.seen c.loop.front) (g.F.Front.seen c.accept.new.self) c.in-Some-accept.link
          c.in-Some-accept.ensures.accepts c.loop.self.board.book c.take.new.self.board.book (g.F.Front.seen c.take.new.front).counts c.take.ensures.counts c.take.ensures.orders
          c.take.ensures.going c.in_ok-take-in-Some-accept.ensures.taken);
      wakes = ap (λ (x : FrontCounts). x.wakes) c.take.ensures.counts ∙ c.in-Some-accept.ensures.accepts.wakes ∙ before.wakes;
      heard =
          keeps-trans _ _ _ before.heard
          (keeps-trans _ _ _ (keeps-accept g.L.Link.seen _ _ _ (takes-accept _ _ _ c.accept.ensures.accepts.told_is) c.accept.ensures.accepts)
          (keeps-takes _ _ c.take.ensures.front c.take.ensures.counts));
      follows =
          follows-trans _ _ _ before.follows
          (follows-trans _ _ _ (follows-accept g.L.Link.seen _ _ _ c.accept.ensures.accepts)
          c.take.ensures.follows);
      front =
          takes-trans _ _ _ before.front
          (takes-trans _ _ _ (takes-accept _ _ _ c.accept.ensures.accepts.told_is) c.take.ensures.front);
      watched =
          watched-both _ _ _ c.args.self.now.board.book c.loop.self.board.book c.take.new.self.board.book before.watched
          (watched-both _ _ _ c.loop.self.board.book c.loop.self.board.book c.take.new.self.board.book
          (watched-accept _ _ _ c.loop.self.board.book c.accept.ensures.accepts.told_is) c.take.ensures.watched);
      handed =
          handed-more _ _ _ _ c.args.self.now.board.book c.loop.self.board.book c.take.new.self.board.book before.handed
          (counts-link c.in-Some-accept.link _ _ c.in-Some-accept.ensures.accepts.told_is) c.take.ensures.handed c.in_ok-take-in-Some-accept.ensures.makes;
      timely = λ first. c.take.ensures.timely (before.timely first);
      children = c.take.ensures.children ∙ before.children;
      in_time = λ soon. c.take.ensures.in_time (before.in_time soon);
      edition = c.take.ensures.edition ∙ before.edition;
      ready = c.take.ensures.ready ∙ before.ready;
      config = c.take.ensures.config ∙ before.config;
      written = c.take.ensures.written ∙ before.written;
    }

pub returns-in_err-take-in-Some-accept-clause-until : goal.returns-in_err-take-in-Some-accept-clause-until
returns-in_err-take-in-Some-accept-clause-until g c =
    let takes = c.loop.invariant.takes in
    let until : TakesUntil c.in_err-take-in-Some-accept.field-0.0 c.args.self.now.board.book c.take.new.self.board.book =
    record { book = c.loop.self.board.book; takes = takes; last = c.in_err-take-in-Some-accept.ensures.until } in
    search (rules, until)

pub returns-in_err-take-in-Some-accept-clause-moment : goal.returns-in_err-take-in-Some-accept-clause-moment
returns-in_err-take-in-Some-accept-clause-moment g c =
    let before = c.loop.invariant.moment in
    c.take.ensures.moment ∙ before

pub returns-in_err-take-in-Some-accept-clause-follows : goal.returns-in_err-take-in-Some-accept-clause-follows
returns-in_err-take-in-Some-accept-clause-follows g c =
    let before = c.loop.invariant.follows in
    follows-trans _ _ _ before
    (follows-trans _ _ _ (follows-accept g.L.Link.seen _ _ _ c.accept.ensures.accepts)
    c.take.ensures.follows)

pub returns-in_err-take-in-Some-accept-clause-front : goal.returns-in_err-take-in-Some-accept-clause-front
returns-in_err-take-in-Some-accept-clause-front g c =
    let before = c.loop.invariant.front in
    takes-trans _ _ _ before
    (takes-trans _ _ _ (takes-accept _ _ _ c.accept.ensures.accepts.told_is) c.take.ensures.front)

pub returns-in_err-take-in-Some-accept-clause-going : goal.returns-in_err-take-in-Some-accept-clause-going
returns-in_err-take-in-Some-accept-clause-going g c =
    let before = c.loop.invariant.going in
    c.take.ensures.going ∙ before

pub returns-in_err-take-in-Some-accept-clause-newest : goal.returns-in_err-take-in-Some-accept-clause-newest
returns-in_err-take-in-Some-accept-clause-newest g c =
    let before = c.loop.invariant.newest in
    c.take.ensures.newest ∙ before

pub returns-in_err-take-in-Some-accept-clause-edition : goal.returns-in_err-take-in-Some-accept-clause-edition
returns-in_err-take-in-Some-accept-clause-edition g c =
    let before = c.loop.invariant.edition in
    c.take.ensures.edition ∙ before

pub returns-in_err-take-in-Some-accept-clause-ready : goal.returns-in_err-take-in-Some-accept-clause-ready
returns-in_err-take-in-Some-accept-clause-ready g c =
    let before = c.loop.invariant.ready in
    c.take.ensures.ready ∙ before

pub returns-in_err-take-in-Some-accept-clause-config : goal.returns-in_err-take-in-Some-accept-clause-config
returns-in_err-take-in-Some-accept-clause-config g c =
    let before = c.loop.invariant.config in
    c.take.ensures.config ∙ before

pub returns-in-None-accept : goal.returns-in-None-accept
returns-in-None-accept g c =
    let before = c.loop.invariant in
    record {
      takes = before.takes;
      until = tt;
      going = before.going;
      newest = before.newest;
      moment = before.moment;
      step =
          step-none (g.F.Front.seen c.loop.front).told (g.F.Front.seen c.accept.new.self).told c.accept.result c.loop.self.board.book.state
          c.in-None-accept.is c.accept.ensures.accepts.told_is before.step;
      taken =
          took-none g.L.Link.seen (g.F.Front.seen c.loop.front) (g.F.Front.seen c.accept.new.self) c.accept.result
          c.loop.self.board.book.state c.in-None-accept.is c.accept.ensures.accepts;
      counts =
          counts-more 0 (g.F.Front.seen c.args.front.now).counts (g.F.Front.seen c.loop.front).counts (g.F.Front.seen c.accept.new.self).counts c.args.self.now.board.book c.loop.self.board.book c.loop.self.board.book
          before.counts
          (counts-alike (g.F.Front.seen c.loop.front).counts (g.F.Front.seen c.accept.new.self).counts c.loop.self.board.book c.loop.self.board.book
          (same-unhanded g.L.Link.seen (g.F.Front.seen c.loop.front) (g.F.Front.seen c.accept.new.self) c.accept.result c.in-None-accept.is
          c.accept.ensures.accepts) (alike-same c.loop.self.board.book c.loop.self.board.book refl));
      wakes = c.accept.ensures.accepts.wakes ∙ before.wakes;
      heard =
          keeps-trans _ _ _ before.heard
          (keeps-accept g.L.Link.seen _ _ _ (takes-accept _ _ _ c.accept.ensures.accepts.told_is) c.accept.ensures.accepts);
      follows =
          follows-trans _ _ _ before.follows
          (follows-accept g.L.Link.seen _ _ _ c.accept.ensures.accepts);
      front = takes-trans _ _ _ before.front (takes-accept _ _ _ c.accept.ensures.accepts.told_is);
      watched =
          watched-both _ _ _ c.args.self.now.board.book c.loop.self.board.book c.loop.self.board.book before.watched
          (watched-accept _ _ _ c.loop.self.board.book c.accept.ensures.accepts.told_is);
      handed =
          handed-still 0 _ _ _ c.args.self.now.board.book c.loop.self.board.book before.handed
          (counts-none c.accept.result _ _ c.in-None-accept.is c.accept.ensures.accepts.told_is);
      cut = tt;
      timely = before.timely;
      children = before.children;
      in_time = before.in_time;
      links = tt;
      edition = before.edition;
      ready = before.ready;
      config = before.config;
      written = before.written;
      err = tt;
    }

pub returns-in_err-take-in-Some-accept-clause-watched : goal.returns-in_err-take-in-Some-accept-clause-watched
returns-in_err-take-in-Some-accept-clause-watched g c =
    watched-both _ _ _ c.args.self.now.board.book c.loop.self.board.book c.take.new.self.board.book c.loop.invariant.watched
    (watched-both _ _ _ c.loop.self.board.book c.loop.self.board.book c.take.new.self.board.book
    (watched-accept _ _ _ c.loop.self.board.book c.accept.ensures.accepts.told_is) c.take.ensures.watched)

pub returns-in_err-take-in-Some-accept-clause-cut : goal.returns-in_err-take-in-Some-accept-clause-cut
returns-in_err-take-in-Some-accept-clause-cut g c =
    on-err c.from_residual.result _
    (handed-cut _ _ _ _ c.args.self.now.board.book c.loop.self.board.book c.take.new.self.board.book c.loop.invariant.handed
    (counts-link c.in-Some-accept.link _ _ c.in-Some-accept.ensures.accepts.told_is) c.take.ensures.handed c.in_err-take-in-Some-accept.ensures.made)

pub returns-in_err-take-in-Some-accept-clause-timely : goal.returns-in_err-take-in-Some-accept-clause-timely
returns-in_err-take-in-Some-accept-clause-timely g c first = c.take.ensures.timely (c.loop.invariant.timely first)

pub returns-in_err-take-in-Some-accept-clause-children : goal.returns-in_err-take-in-Some-accept-clause-children
returns-in_err-take-in-Some-accept-clause-children g c = c.take.ensures.children ∙ c.loop.invariant.children

pub returns-in_err-take-in-Some-accept-clause-in_time : goal.returns-in_err-take-in-Some-accept-clause-in_time
returns-in_err-take-in-Some-accept-clause-in_time g c soon = c.take.ensures.in_time (c.loop.invariant.in_time soon)

pub returns-in_err-take-in-Some-accept-clause-links : goal.returns-in_err-take-in-Some-accept-clause-links
returns-in_err-take-in-Some-accept-clause-links g c =
    let step = c.loop.invariant.step in
    on-err c.from_residual.result _
    (hands-ended c.in-Some-accept.link (g.L.Link.seen c.in-Some-accept.link).told (g.F.Front.seen c.loop.front).told (g.F.Front.seen c.accept.new.self).told
    (g.F.Front.seen c.take.new.front).told c.loop.self.board.book.state c.loop.self.board.book.state c.take.new.self.board.book.state
    c.in-Some-accept.ensures.accepts.hands.1 step c.in-Some-accept.ensures.accepts.told_is refl c.take.ensures.going c.in_err-take-in-Some-accept.ensures.links)

pub returns-in_err-take-in-Some-accept-clause-counts : goal.returns-in_err-take-in-Some-accept-clause-counts
returns-in_err-take-in-Some-accept-clause-counts g c =
    let until : CountsUntil (g.F.Front.seen c.args.front.now).counts (g.F.Front.seen c.take.new.front).counts c.args.self.now.board.book c.take.new.self.board.book =
    counts-until (g.F.Front.seen c.args.front.now).counts (g.F.Front.seen c.loop.front).counts (g.F.Front.seen c.take.new.front).counts c.args.self.now.board.book c.loop.self.board.book
    c.take.new.self.board.book c.loop.invariant.counts
    (counts-lacking g.L.Link.seen (g.F.Front.seen c.loop.front) (g.F.Front.seen c.accept.new.self) c.in-Some-accept.link
    c.in-Some-accept.ensures.accepts c.loop.self.board.book c.take.new.self.board.book (g.F.Front.seen c.take.new.front).counts c.take.ensures.counts c.take.ensures.orders
    c.take.ensures.going c.in_err-take-in-Some-accept.ensures.lacks) in
    search (rules, until)

pub returns-in_default-clause-counts : goal.returns-in_default-clause-counts
returns-in_default-clause-counts g c =
    counts-unbroken (g.F.Front.seen c.args.front.now).counts (g.F.Front.seen c.loop.front).counts c.args.self.now.board.book c.loop.self.board.book c.loop.invariant.counts

pub returns-in_err-take-in-Some-accept-clause-wakes : goal.returns-in_err-take-in-Some-accept-clause-wakes
returns-in_err-take-in-Some-accept-clause-wakes g c =
    ap (λ (x : FrontCounts). x.wakes) c.take.ensures.counts ∙ c.in-Some-accept.ensures.accepts.wakes ∙ c.loop.invariant.wakes

pub returns-in_err-take-in-Some-accept-clause-heard : goal.returns-in_err-take-in-Some-accept-clause-heard
returns-in_err-take-in-Some-accept-clause-heard g c =
    let before = c.loop.invariant.heard in
    keeps-trans _ _ _ before
    (keeps-trans _ _ _ (keeps-accept g.L.Link.seen _ _ _ (takes-accept _ _ _ c.accept.ensures.accepts.told_is) c.accept.ensures.accepts)
    (keeps-takes _ _ c.take.ensures.front c.take.ensures.counts))

pub returns-in_err-take-in-Some-accept-clause-written : goal.returns-in_err-take-in-Some-accept-clause-written
returns-in_err-take-in-Some-accept-clause-written g c =
    let before = c.loop.invariant.written in
    c.take.ensures.written ∙ before
