use Rattle.std.proofs.Common.{Option, refl, ap, sym, subst, ◌∙◌, arith, rules}
use Rattle.conn_state.specs.Known.{KnownOutside}
use Rattle.board.specs.Board.{AreOfOutside, EndedOfOutside, SeenBoard}
use Rattle.board_book.specs.Book.{SeenBook}
use Rattle.listener_round.specs.FrontInside.{clients_known}
use Rattle.listener_round.specs.OrdersInside.{opening_by}
use Rattle.listener_round.specs.Folded.{whole_book}
use Rattle.listener.specs.TurnsInside.{HasStood, IsBegun, listener_of}
use Rattle.listener.specs.Counted.{KeepsClock}
use Rattle.listener_round.specs.CountedInside.{CountsSo}
use Rattle.listener.proofs.CountedEndLemmas.{asks-since, clock-opened, counts-opened}
use Rattle.listener_round.proofs.CountedLemmas.{alike-same, counts-alike, same-words}
use Rattle.listener_round.proofs.FrontLemmas.{follows-trans, named-follows}
use Rattle.listener.proofs.FrontCallLemmas.{follows-bind}
use Rattle.listener.proofs.LeftLemmas.{LeavesRun, has-run-by}
use Rattle.listener.proofs.OpeningLemmas.{begun-opened, known-front, knows-coming, serves-first}
use Rattle.listener.proofs.StartedLemmas.{binds-true, children-opened, heeded-opened, idle-bound, keeps-front, opened-hushed, step-opened, stopped-before, time-opened, timely-opened}
use Rattle.listener.proofs.server.run_server.Goals as goal

pub listen-requires-clause-named : goal.listen-requires-clause-named
listen-requires-clause-named g c κs within =
    let n = c.numbers_of-numbers.result in
    let o = opening_by c.args.config c.args.edition (g.D.Store.seen c.args.store.now) (g.F.Front.seen c.args.front.now) in
    let binds = binds-true n (g.F.Front.seen c.args.front.now) (g.F.Front.seen c.bell.new.self) (g.F.Front.seen c.bind.new.self) c.bind.result c.bell.ensures.same c.if-not-bind.false c.bind.ensures.binds in
    named-follows g.N.Known.known (g.F.Front.seen c.args.front.now) (g.F.Front.seen c.bind.new.self) (follows-bind _ _ _ _ _ binds)
    (known-front g.N.Known.known o c.requires.named)

pub listen-requires-clause-may : goal.listen-requires-clause-may
listen-requires-clause-may g c κs within =
    let n = c.numbers_of-numbers.result in
    let old = g.F.Front.seen c.args.front.now in
    let front = g.F.Front.seen c.bind.new.self in
    let calls = g.C.Clock.told c.args.clock.now in
    let b = c.in-Ok-open_board.board.book in
    let opened = c.in-Ok-open_board.ensures.book in
    let binds = binds-true n old (g.F.Front.seen c.bell.new.self) front c.bind.result c.bell.ensures.same c.if-not-bind.false c.bind.ensures.binds in
    let idle = idle-bound n old front calls binds c.requires.unused c.requires.unasked in
    record {
      passes = search rules;
      knows =
          knows-coming g.N.Known.known c.args.config c.args.edition (g.D.Store.seen c.args.store.now) old n b c.requires.named opened;
      serves =
          serves-first g.N.Known.known c.args.config c.args.edition (g.D.Store.seen c.args.store.now) old n b c.requires.named opened c.requires.limits;
      free = search rules;
      going = ap (λ (x : SeenBook). x.state.going) opened;
      children = children-opened n b c.numbers_of-numbers.ensures.allowed opened;
      step = step-opened n front.told calls b opened idle;
      heeded = heeded-opened front.told calls idle;
    }

pub show_run-requires-clause-passes : goal.show_run-requires-clause-passes
show_run-requires-clause-passes g c =
    c.listen.ensures.listened.passes ∙ ap (λ (x : SeenBook). x.passes) c.in-Ok-open_board.ensures.book

pub show_run-requires-clause-timely : goal.show_run-requires-clause-timely
show_run-requires-clause-timely g c =
    c.listen.ensures.listened.timely (timely-opened c.numbers_of-numbers.result c.in-Ok-open_board.board.book c.in-Ok-open_board.ensures.book)

pub returns-clause-run : goal.returns-clause-run
returns-clause-run g c =
    let n = c.numbers_of-numbers.result in
    let known = g.N.Known.known in
    let config = c.args.config in
    let edition = c.args.edition in
    let old = g.F.Front.seen c.args.front.now in
    let front = g.F.Front.seen c.bind.new.self in
    let new = g.F.Front.seen c.listen.new.front in
    let store = g.D.Store.seen c.args.store.now in
    let calls = g.C.Clock.told c.args.clock.now in
    let book = c.in-Ok-open_board.ensures.book in
    let o = opening_by config edition store old in
    let binds = binds-true n old (g.F.Front.seen c.bell.new.self) front c.bind.result c.bell.ensures.same c.if-not-bind.false c.bind.ensures.binds in
    let idle = idle-bound n old front calls binds c.requires.unused c.requires.unasked in
    let first =
    listener_of c.in-Ok-open_board.board front calls c.in-Ok.ready edition store config (g.K.Sink.seen c.write_all-written.new.out) c.write_all-written.result in
    let last =
    listener_of c.listen.new.listener.board new (g.C.Clock.told c.listen.new.clock) c.listen.new.listener.ready c.listen.new.listener.edition
    (g.D.Store.seen c.listen.new.store) c.listen.new.listener.config (g.K.Sink.seen c.listen.new.out) c.listen.new.listener.written in
    let begun : IsBegun known o n first =
    begun-opened c.folds_join.ensures known store old n first c.numbers_of-numbers.ensures.allowed book refl c.requires.timeout binds idle in
    let stood : HasStood known o n first last = c.listen.ensures.listened.stood o n (record { name = refl; config = refl }) begun in
    let stopped = stopped-before old front new c.listen.new.listener.board.book.state (follows-bind _ _ _ _ _ binds) c.listen.ensures.listened.stopped in
    let named =
    named-follows known old new (follows-trans _ _ _ (follows-bind _ _ _ _ _ binds) c.listen.ensures.listened.follows) (known-front known o c.requires.named) in
    let known_stood : HasStood _ o n first last = subst (λ (k : Option KnownOutside). HasStood k o n first last) c.requires.named stood in
    let so : CountsSo 0 old.counts front.counts c.in-Ok-open_board.board.book =
    counts-alike old.counts front.counts c.in-Ok-open_board.board.book c.in-Ok-open_board.board.book (same-words old.counts front.counts binds.words binds.handed)
    (alike-same c.in-Ok-open_board.board.book c.in-Ok-open_board.board.book refl) old.counts
    (counts-opened n old.counts c.in-Ok-open_board.board.book book) in
    let leaves : LeavesRun o n first last =
    record {
      run = c.show_run.ensures.run stood.folded;
      stood = known_stood;
      closed = c.show_run.ensures.closed stood.folded stopped.down;
      outside = subst (λ (k : Option KnownOutside). AreOfOutside k last.board) c.requires.named c.show_run.ensures.outside;
      front =
          keeps-front n last.board.book.state _ _ (clients_known known) new.told named
          (opened-hushed n old front new binds c.requires.unused c.listen.ensures.listened.contacts c.listen.ensures.listened.hushed) known_stood.keeps.started
          known_stood.keeps.watched c.listen.ensures.listened.links
          (λ clients knows. c.show_run.ensures.links clients known_stood.folded
          (subst (λ (k : Option KnownOutside). EndedOfOutside k (whole_book n known_stood.folded.entries) known_stood.folded.ended) (sym c.requires.named) known_stood.outside)
          knows stopped.down)
          (λ clients knows. c.show_run.ensures.receive clients known_stood.folded
          (subst (λ (k : Option KnownOutside). EndedOfOutside k (whole_book n known_stood.folded.entries) known_stood.folded.ended) (sym c.requires.named) known_stood.outside)
          knows)
          c.listen.ensures.listened.heeded known_stood.each;
      time = c.listen.ensures.listened.time (time-opened front.told calls idle);
      stopped = stopped.cause;
      backed = c.show_run.ensures.backed;
      counted = c.listen.ensures.counts old.counts so;
      unended = known_stood.unended old.counts so;
    } in
    let run =
    has-run-by c.generations_keep_their_editions.ensures c.folds_join.ensures.outside c.folds_join.ensures.outside_stays o n first last
    c.forget.result c.numbers_of-numbers.ensures.value c.forget.ensures.same leaves in (
      run.0,
      run.1.behind (g.K.Sink.seen c.args.out.now) c.args.text.now c.write_all-written.ensures.faults c.write_all-written.ensures.all,
    )

pub returns-clause-faults : goal.returns-clause-faults
returns-clause-faults g c =
    let n = c.numbers_of-numbers.result in
    let known = g.N.Known.known in
    let config = c.args.config in
    let edition = c.args.edition in
    let old = g.F.Front.seen c.args.front.now in
    let front = g.F.Front.seen c.bind.new.self in
    let store = g.D.Store.seen c.args.store.now in
    let calls = g.C.Clock.told c.args.clock.now in
    let o = opening_by config edition store old in
    let binds = binds-true n old (g.F.Front.seen c.bell.new.self) front c.bind.result c.bell.ensures.same c.if-not-bind.false c.bind.ensures.binds in
    let idle = idle-bound n old front calls binds c.requires.unused c.requires.unasked in
    let first =
    listener_of c.in-Ok-open_board.board front calls c.in-Ok.ready edition store config (g.K.Sink.seen c.write_all-written.new.out) c.write_all-written.result in
    let begun : IsBegun known o n first =
    begun-opened c.folds_join.ensures known store old n first c.numbers_of-numbers.ensures.allowed c.in-Ok-open_board.ensures.book refl c.requires.timeout binds
    idle in
    let stood = c.listen.ensures.listened.stood o n (record { name = refl; config = refl }) begun in
    omega (arith, c.write_all-written.ensures.faults, stood.writes.faults)

pub returns-clause-follows : goal.returns-clause-follows
returns-clause-follows g c =
    let binds = binds-true c.numbers_of-numbers.result (g.F.Front.seen c.args.front.now) (g.F.Front.seen c.bell.new.self) (g.F.Front.seen c.bind.new.self) c.bind.result c.bell.ensures.same c.if-not-bind.false c.bind.ensures.binds in
    follows-trans (g.F.Front.seen c.args.front.now) (g.F.Front.seen c.bind.new.self) (g.F.Front.seen c.listen.new.front) (follows-bind _ _ _ _ _ binds) c.listen.ensures.listened.follows

pub returns-clause-clocked : goal.returns-clause-clocked
returns-clause-clocked g c =
    let n = c.numbers_of-numbers.result in
    let first = g.C.Clock.greatest c.args.clock.now in
    subst (λ (x : SeenBoard). KeepsClock x.book.state first (g.C.Clock.greatest c.listen.new.clock)) (sym c.forget.ensures.same)
    (c.listen.ensures.clock first (clock-opened n first c.in-Ok-open_board.board.book c.in-Ok-open_board.ensures.book))

pub returns-clause-asked : goal.returns-clause-asked
returns-clause-asked g c =
    let binds = binds-true c.numbers_of-numbers.result (g.F.Front.seen c.args.front.now) (g.F.Front.seen c.bell.new.self) (g.F.Front.seen c.bind.new.self) c.bind.result c.bell.ensures.same c.if-not-bind.false c.bind.ensures.binds in
    asks-since (g.F.Front.seen c.args.front.now).counts.wakes (g.F.Front.seen c.bind.new.self).counts.wakes
    (g.F.Front.seen c.listen.new.front).counts.wakes (g.C.Clock.asked c.args.clock.now) (g.C.Clock.asked c.listen.new.clock) binds.wakes
    c.listen.ensures.asked
