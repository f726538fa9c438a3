-- What a round did that ended the turns, or came to its end.
use Rattle.std.proofs.Common.{◌≡◌, ℕ, [], ◌∙◌, Bool, List, None, true, false, ap, refl, sym, subst, rules}
use Rattle.conn_machine.specs.States.{is_halted}
use Rattle.worker_group.specs.Acts.{Acts}
use Rattle.listener_round.specs.CountedInside.{CountsOn}
use Rattle.listener_round.specs.HeardInside.{Hears, hearing, last_if, made_first}
use Rattle.listener_round.specs.OrdersInside.{KnowsComing, ServesNewest, owed_by}
use Rattle.rounds.specs.PartsInside.{StaysTimely, signal_events}
use Rattle.conn_machine.specs.States.{is_staffed}
use Rattle.listener_round.specs.ShareInside.{DoesAsked, stop_if}
use Rattle.listener_round.specs.StandingInside.{standing}
use Rattle.board_book.specs.Moments.{moment_for}
use Rattle.listener_round.specs.declared.edition.LoadedEdition.{LoadedEdition}
use Rattle.listener_round.specs.declared.edition.NamedConfig.{NamedConfig}
use Rattle.listener_round.proofs.CommandLemmas.{all-read, heeded-takes}
use Rattle.listener_round.proofs.CountedLemmas.{counts-orderless, counts-more}
use Rattle.listener_round.proofs.FrontLemmas.{both-only, follows-same, follows-trans, only-reads, only-takes, step-kept, step-listens, takes-same}
use Rattle.listener_round.proofs.HeardLineLemmas.{keeps-same}
use Rattle.listener_round.proofs.HearsLemmas.{hears-before, hears-kept, hears-same}
use Rattle.listener_round.proofs.PartLemmas.{coming-orderless, newest-orderless, orderless-before, orderless-children, orderless-more, orderless-retires, orderless-takes, orderless-time}
use Rattle.listener_round.proofs.RoundLemmas.{ends-asked, ends-gone, goes-round}
use Rattle.listener_round.proofs.IntakeLemmas.{staffed-same}
use Rattle.listener_round.proofs.RoundShareLemmas.{begins, hushes-still, hushes-takes, makes-asked, makes-gone, makes-overdue, makes-round}
use Rattle.rounds.proofs.DueLemmas.{soon-none}
use Rattle.rounds.proofs.StaffLemmas.{children-kept, due-kept, rows-moved}
use Rattle.rounds.proofs.TimelyLemmas.{not-at_end, still-in_time}
use Rattle.listener_round.proofs.StandingLemmas.{lines-taken, same-lines}
use Rattle.listener_round.proofs.StandingPartLemmas.{stands-behind, stands-orderless, stands-orders}
use Rattle.listener_round.proofs.NobodyLemmas.{nobody-before-orders, nobody-more, nobody-passed, nobody-retired, nobody-started}
use Rattle.listener_round.proofs.WatchLemmas.{watched-as}
use Rattle.listener_round.proofs.listener_state.Listener.take_in.Goals as goal

pub then-is_overdue : goal.returns-then-is_overdue
then-is_overdue g c =
    let known = g.N.Known.known in
    let config = c.args.self.now.config in
    let slots = c.args.self.now.ready in
    let now = g.F.Front.seen c.args.front.now in
    let store = g.D.Store.seen c.args.store.now in
    let a = c.args.self.now.board.book in
    let b = c.pass_time.new.board.book in
    record {
      round = c.in_ok-pass_time.ensures.passes;
      broken = tt;
      share = makes-overdue c.args.moment slots now.told a b c.in_ok-pass_time.ensures.passes;
      hushes = hushes-still now.told;
      timely = c.pass_time.ensures.timely;
      goes_on = not-at_end b.state c.pass_time.ensures.staffed;
      before = tt;
      stands = stands-orderless known config c.args.self.now.edition.stop_ms store now a b (orderless-time (moment_for c.args.moment) a b c.in_ok-pass_time.ensures.passes) c.pass_time.ensures.going;
      knows = coming-orderless known a b config store.told (orderless-time (moment_for c.args.moment) a b c.in_ok-pass_time.ensures.passes) c.requires.knows;
      serves = newest-orderless c.generations_keep_their_editions.ensures known a b c.args.self.now.edition (orderless-time (moment_for c.args.moment) a b c.in_ok-pass_time.ensures.passes) c.pass_time.ensures.newest c.requires.serves;
      up = ap is_halted (c.pass_time.ensures.going) ∙ c.requires.up;
      moment = search rules;
      stays = tt;
      counts = (counts-orderless now.counts now.counts a b refl (orderless-time (moment_for c.args.moment) a b c.in_ok-pass_time.ensures.passes) c.pass_time.ensures.going c.pass_time.ensures.taken);
      heard =
          hears-same known config (made_first c.args.moment slots a) (standing c.args.self.now.edition.stop_ms store now a) (standing c.args.self.now.edition.stop_ms store now b)
          (g.K.Sink.seen c.args.out.now) c.args.self.now.written (orderless-time (moment_for c.args.moment) a b c.in_ok-pass_time.ensures.passes) (keeps-same now);
      wakes = refl;
      step = (step-kept now.told a.state b.state (c.pass_time.ensures.taken) (c.pass_time.ensures.going) c.requires.step);
      ends = (sym c.is_overdue.ensures ∙ c.if-is_overdue.true, c.requires.heeded);
      unheeded = tt;
      follows = follows-same now;
      front = only-takes now.told now.told (takes-same now.told);
      watched = λ past before. watched-as now.told a b (nobody-passed (moment_for c.args.moment) a b c.in_ok-pass_time.ensures.passes) c.pass_time.ensures.taken past before;
      listens = step-listens now.told b.state (step-kept now.told a.state b.state (c.pass_time.ensures.taken) (c.pass_time.ensures.going) c.requires.step);
      links = tt;
      ready = search rules;
      config = search rules;
      err = tt;
    }

pub then-asked : goal.returns-then-asked
then-asked g c =
    let known = g.N.Known.known in
    let config = c.args.self.now.config in
    let steps = c.passes_act_in_steps.ensures.acts in
    let slots = c.args.self.now.ready in
    let now = g.F.Front.seen c.args.front.now in
    let read = g.F.Front.seen c.heed.new.front in
    let store = g.D.Store.seen c.args.store.now in
    let renewed = g.D.Store.seen c.heed.new.store in
    let a = c.args.self.now.board.book in
    let b = c.pass_time.new.board.book in
    let s = c.signal_all.new.board.book in
    let d = c.let_go_of_conns.new.board.book in
    let e = c.heed.new.self.board.book in
    let signals = subst (λ (xs : List ℕ). Acts 0 (signal_events b xs) None b s) c.slots.ensures.is c.in_ok-signal_all.ensures.signals in
    let orders_off = orderless-before steps (moment_for c.args.moment) slots a b s d c.in_ok-pass_time.ensures.passes signals c.in_ok-let_go_of_conns.ensures.gone in
    let none_taken = nobody-before-orders a b s d (moment_for c.args.moment) slots c.in_ok-pass_time.ensures.passes signals c.in_ok-let_go_of_conns.ensures.gone in
    let timely : StaysTimely a d = λ first. c.let_go_of_conns.ensures.timely (c.signal_all.ensures.timely (c.pass_time.ensures.timely first)) in
    record {
      round =
          ends-asked steps (moment_for c.args.moment) slots a b s d e c.in_ok-pass_time.ensures.passes signals c.in_ok-let_go_of_conns.ensures.gone
          c.in_ok-asked.ensures.does;
      broken = tt;
      share =
          makes-asked c.args.moment slots now.told read.told a d e
          (begins (moment_for c.args.moment) slots a b s d c.in_ok-pass_time.ensures.passes signals c.in_ok-let_go_of_conns.ensures.gone)
          (subst (λ (stops : Bool). DoesAsked (stop_if stops) now.told read.told d e) c.if-asked.true c.in_ok-asked.ensures.asks) c.heed.ensures.front;
      hushes = c.in_ok-asked.ensures.hushes;
      timely = λ first. c.heed.ensures.timely (timely first);
      goes_on = not-at_end e.state c.heed.ensures.in_time.staffed;
      before = tt;
      stands =
          stands-orders known config _ true c.args.self.now.edition.stop_ms store now a d (standing c.heed.new.self.edition.stop_ms renewed read e) c.if-asked.true
          orders_off (c.let_go_of_conns.ensures.rest.going ∙ c.signal_all.ensures.rest.going ∙ c.pass_time.ensures.going) timely c.in_ok-asked.ensures.stands;
      knows = c.in_ok-asked.ensures.knows;
      serves = c.heed.ensures.serves;
      up = c.heed.ensures.up;
      moment = c.heed.ensures.moment ∙ c.let_go_of_conns.ensures.rest.moment ∙ c.signal_all.ensures.rest.moment ∙ c.in_ok-pass_time.ensures.moment;
      stays = tt;
      counts = (counts-more 1 now.counts now.counts read.counts a d e (counts-orderless now.counts now.counts a d refl orders_off (c.let_go_of_conns.ensures.rest.going ∙ c.signal_all.ensures.rest.going ∙ c.pass_time.ensures.going) (c.let_go_of_conns.ensures.rest.accepted ∙ c.signal_all.ensures.rest.accepted ∙ c.pass_time.ensures.taken))
          (subst (λ (b : Bool). CountsOn (owed_by b) now.counts read.counts d e) c.if-asked.true c.in_ok-asked.ensures.counts));
      heard =
          hears-before known config (made_first c.args.moment slots a) (last_if true) c.args.self.now.edition.stop_ms store now a d (g.K.Sink.seen c.args.out.now) c.args.self.now.written
          (hearing (standing c.heed.new.self.edition.stop_ms renewed read e) (g.K.Sink.seen c.heed.new.out) c.heed.new.self.written) orders_off timely
          (stands-orderless known config c.args.self.now.edition.stop_ms store now a d orders_off (c.let_go_of_conns.ensures.rest.going ∙ c.signal_all.ensures.rest.going ∙ c.pass_time.ensures.going))
          (begins (moment_for c.args.moment) slots a b s d c.in_ok-pass_time.ensures.passes signals c.in_ok-let_go_of_conns.ensures.gone).made (subst (λ (x : Bool). Hears known config [] (last_if x) (hearing (standing c.args.self.now.edition.stop_ms store now d) (g.K.Sink.seen c.args.out.now) c.args.self.now.written)
          (hearing (standing c.heed.new.self.edition.stop_ms renewed read e) (g.K.Sink.seen c.heed.new.out) c.heed.new.self.written)) c.if-asked.true c.in_ok-asked.ensures.heard);
      wakes = c.heed.ensures.wakes;
      step = c.heed.ensures.step;
      ends = (c.heed.ensures.up, (c.in_ok-asked.ensures.asked c.if-asked.true).0, (c.in_ok-asked.ensures.asked c.if-asked.true).1);
      unheeded = tt;
      follows = c.heed.ensures.follows;
      front = only-reads now.told read.told c.heed.ensures.front;
      watched =
          λ past before. c.heed.ensures.watched past
          (watched-as now.told a d none_taken (c.let_go_of_conns.ensures.rest.accepted ∙ c.signal_all.ensures.rest.accepted ∙ c.pass_time.ensures.taken) past before);
      listens = step-listens read.told e.state c.heed.ensures.step;
      links = tt;
      ready = ap (λ (l : _). l.ready) c.heed.ensures.others;
      config = ap (λ (l : _). l.config) c.heed.ensures.others;
      err = tt;
    }

pub then-is_gone : goal.returns-then-is_gone
then-is_gone g c =
    let known = g.N.Known.known in
    let config = c.args.self.now.config in
    let steps = c.passes_act_in_steps.ensures.acts in
    let slots = c.args.self.now.ready in
    let now = g.F.Front.seen c.args.front.now in
    let read = g.F.Front.seen c.heed.new.front in
    let store = g.D.Store.seen c.args.store.now in
    let renewed = g.D.Store.seen c.heed.new.store in
    let a = c.args.self.now.board.book in
    let b = c.pass_time.new.board.book in
    let s = c.signal_all.new.board.book in
    let d = c.let_go_of_conns.new.board.book in
    let e = c.heed.new.self.board.book in
    let f = c.retire_all.new.board.book in
    let signals = subst (λ (xs : List ℕ). Acts 0 (signal_events b xs) None b s) c.slots.ensures.is c.in_ok-signal_all.ensures.signals in
    let orders_off = orderless-before steps (moment_for c.args.moment) slots a b s d c.in_ok-pass_time.ensures.passes signals c.in_ok-let_go_of_conns.ensures.gone in
    let none_taken = nobody-before-orders a b s d (moment_for c.args.moment) slots c.in_ok-pass_time.ensures.passes signals c.in_ok-let_go_of_conns.ensures.gone in
    let timely : StaysTimely a d = λ first. c.let_go_of_conns.ensures.timely (c.signal_all.ensures.timely (c.pass_time.ensures.timely first)) in
    let done : DoesAsked [] now.told read.told d e =
    subst (λ (stops : Bool). DoesAsked (stop_if stops) now.told read.told d e) c.if-asked.false c.in_ok-asked.ensures.asks in
    record {
      round =
          ends-gone steps (moment_for c.args.moment) slots a b s d e f c.in_ok-pass_time.ensures.passes signals c.in_ok-let_go_of_conns.ensures.gone
          c.in_ok-asked.ensures.does c.retire_all.ensures.retires;
      broken = tt;
      share =
          makes-gone c.args.moment slots now.told read.told a d e f
          (begins (moment_for c.args.moment) slots a b s d c.in_ok-pass_time.ensures.passes signals c.in_ok-let_go_of_conns.ensures.gone)
          done c.heed.ensures.front c.retire_all.ensures.retires;
      hushes = c.in_ok-asked.ensures.hushes;
      timely = λ first. c.retire_all.ensures.retires.timely (c.heed.ensures.timely (timely first));
      goes_on = sym c.is_gone.ensures.end ∙ c.if-is_gone.true;
      before = tt;
      stands =
          stands-behind known config (standing c.args.self.now.edition.stop_ms store now a) c.heed.new.self.edition.stop_ms c.heed.new.self.edition.stop_ms renewed read read e f (orderless-retires e f c.retire_all.ensures.retires) c.retire_all.ensures.going refl (same-lines read)
          (stands-orders known config _ false c.args.self.now.edition.stop_ms store now a d (standing c.heed.new.self.edition.stop_ms renewed read e) c.if-asked.false
          orders_off (c.let_go_of_conns.ensures.rest.going ∙ c.signal_all.ensures.rest.going ∙ c.pass_time.ensures.going) timely c.in_ok-asked.ensures.stands);
      knows = coming-orderless known e f c.heed.new.self.config renewed.told (orderless-retires e f c.retire_all.ensures.retires) c.in_ok-asked.ensures.knows;
      serves = newest-orderless c.generations_keep_their_editions.ensures known e f c.heed.new.self.edition (orderless-retires e f c.retire_all.ensures.retires) c.retire_all.ensures.rest.newest c.heed.ensures.serves;
      up = ap is_halted c.retire_all.ensures.going ∙ c.heed.ensures.up;
      moment = c.retire_all.ensures.rest.moment ∙ c.heed.ensures.moment ∙ c.let_go_of_conns.ensures.rest.moment ∙ c.signal_all.ensures.rest.moment ∙ c.in_ok-pass_time.ensures.moment;
      stays = tt;
      counts = (counts-more 0 now.counts read.counts read.counts a e f (counts-more 0 now.counts now.counts read.counts a d e
          (counts-orderless now.counts now.counts a d refl orders_off (c.let_go_of_conns.ensures.rest.going ∙ c.signal_all.ensures.rest.going ∙ c.pass_time.ensures.going) (c.let_go_of_conns.ensures.rest.accepted ∙ c.signal_all.ensures.rest.accepted ∙ c.pass_time.ensures.taken))
          (subst (λ (b : Bool). CountsOn (owed_by b) now.counts read.counts d e) c.if-asked.false c.in_ok-asked.ensures.counts))
          (counts-orderless read.counts read.counts e f refl (orderless-retires e f c.retire_all.ensures.retires) c.retire_all.ensures.going c.retire_all.ensures.rest.accepted));
      heard =
          hears-kept known config (made_first c.args.moment slots a) (hearing (standing c.args.self.now.edition.stop_ms store now a) (g.K.Sink.seen c.args.out.now) c.args.self.now.written)
          (standing c.heed.new.self.edition.stop_ms renewed read e) (standing c.heed.new.self.edition.stop_ms renewed read f) (g.K.Sink.seen c.heed.new.out)
          c.heed.new.self.written (orderless-retires e f c.retire_all.ensures.retires) (keeps-same read)
          (hears-before known config (made_first c.args.moment slots a) None c.args.self.now.edition.stop_ms store now a d (g.K.Sink.seen c.args.out.now) c.args.self.now.written
          (hearing (standing c.heed.new.self.edition.stop_ms renewed read e) (g.K.Sink.seen c.heed.new.out) c.heed.new.self.written) orders_off timely
          (stands-orderless known config c.args.self.now.edition.stop_ms store now a d orders_off (c.let_go_of_conns.ensures.rest.going ∙ c.signal_all.ensures.rest.going ∙ c.pass_time.ensures.going))
          (begins (moment_for c.args.moment) slots a b s d c.in_ok-pass_time.ensures.passes signals c.in_ok-let_go_of_conns.ensures.gone).made (subst (λ (x : Bool). Hears known config [] (last_if x) (hearing (standing c.args.self.now.edition.stop_ms store now d) (g.K.Sink.seen c.args.out.now) c.args.self.now.written)
          (hearing (standing c.heed.new.self.edition.stop_ms renewed read e) (g.K.Sink.seen c.heed.new.out) c.heed.new.self.written)) c.if-asked.false c.in_ok-asked.ensures.heard));
      wakes = c.heed.ensures.wakes;
      step = (step-kept read.told e.state f.state c.retire_all.ensures.rest.accepted c.retire_all.ensures.going c.heed.ensures.step);
      ends = (c.is_gone.ensures.gone.0 c.if-is_gone.true, (c.in_ok-asked.ensures.none c.if-asked.false).0);
      unheeded = tt;
      follows = c.heed.ensures.follows;
      front = only-reads now.told read.told c.heed.ensures.front;
      watched =
          λ past before. watched-as read.told e f (nobody-retired e f c.retire_all.ensures.retires) c.retire_all.ensures.rest.accepted past
          (c.heed.ensures.watched past (watched-as now.told a d none_taken (c.let_go_of_conns.ensures.rest.accepted ∙ c.signal_all.ensures.rest.accepted ∙ c.pass_time.ensures.taken) past before));
      listens = step-listens read.told f.state (step-kept read.told e.state f.state c.retire_all.ensures.rest.accepted c.retire_all.ensures.going c.heed.ensures.step);
      links = tt;
      ready = ap (λ (l : _). l.ready) c.heed.ensures.others;
      config = ap (λ (l : _). l.config) c.heed.ensures.others;
      err = tt;
    }

pub goes_on : goal.returns
goes_on g c =
    let known = g.N.Known.known in
    let config = c.args.self.now.config in
    let steps = c.passes_act_in_steps.ensures.acts in
    let slots = c.args.self.now.ready in
    let now = g.F.Front.seen c.args.front.now in
    let read = g.F.Front.seen c.heed.new.front in
    let new = g.F.Front.seen c.take_all.new.front in
    let store = g.D.Store.seen c.args.store.now in
    let renewed = g.D.Store.seen c.heed.new.store in
    let a = c.args.self.now.board.book in
    let b = c.pass_time.new.board.book in
    let s = c.signal_all.new.board.book in
    let d = c.let_go_of_conns.new.board.book in
    let e = c.heed.new.self.board.book in
    let f = c.retire_all.new.board.book in
    let h = c.start_children.new.board.book in
    let i = c.take_all.new.self.board.book in
    let signals = subst (λ (xs : List ℕ). Acts 0 (signal_events b xs) None b s) c.slots.ensures.is c.in_ok-signal_all.ensures.signals in
    let orders_off = orderless-before steps (moment_for c.args.moment) slots a b s d c.in_ok-pass_time.ensures.passes signals c.in_ok-let_go_of_conns.ensures.gone in
    let none_taken = nobody-before-orders a b s d (moment_for c.args.moment) slots c.in_ok-pass_time.ensures.passes signals c.in_ok-let_go_of_conns.ensures.gone in
    let timely : StaysTimely a d = λ first. c.let_go_of_conns.ensures.timely (c.signal_all.ensures.timely (c.pass_time.ensures.timely first)) in
    let done : DoesAsked [] now.told read.told d e =
    subst (λ (stops : Bool). DoesAsked (stop_if stops) now.told read.told d e) c.if-asked.false c.in_ok-asked.ensures.asks in
    record {
      round = goes-round steps (moment_for c.args.moment) slots a b s d e f h i c.in_ok-pass_time.ensures.passes signals c.in_ok-let_go_of_conns.ensures.gone c.in_ok-asked.ensures.does c.retire_all.ensures.retires c.start_children.ensures.starts c.in_ok-take_all.ensures.takes;
      broken = tt;
      share =
          makes-round c.args.moment slots now.told read.told new.told a d e f h i
          (begins (moment_for c.args.moment) slots a b s d c.in_ok-pass_time.ensures.passes signals c.in_ok-let_go_of_conns.ensures.gone)
          done c.heed.ensures.front c.retire_all.ensures.retires c.start_children.ensures.starts c.in_ok-take_all.ensures.handed c.take_all.ensures.front;
      hushes = hushes-takes now.told read.told new.told c.in_ok-asked.ensures.hushes c.take_all.ensures.front;
      timely = λ first. c.take_all.ensures.timely (c.start_children.ensures.starts.timely (c.retire_all.ensures.retires.timely (c.heed.ensures.timely (timely first))));
      goes_on =
          let kept =
          rows-moved c.histories_join.ensures.state steps c.in_ok-asked.ensures.does.orders d e f h c.in_ok-asked.ensures.does.acts c.retire_all.ensures.retires
          c.start_children.ensures.starts c.show_state.ensures.after c.show_state-2.ensures.after in
          let staffed : is_staffed h.state ≡ true =
          c.in_ok-start_children.ensures.staffed (ap is_halted c.retire_all.ensures.going ∙ c.heed.ensures.up)
          (sym c.is_gone.ensures.end ∙ c.if-is_gone.false) (children-kept d.state h.state kept c.let_go_of_conns.ensures.staffed) in (
            still-in_time e.state i.state (c.take_all.ensures.moment ∙ c.start_children.ensures.rest.moment ∙ c.retire_all.ensures.rest.moment)
                (c.take_all.ensures.going ∙ c.start_children.ensures.going ∙ c.retire_all.ensures.going)
                (staffed-same h.state i.state c.take_all.ensures.children staffed) c.heed.ensures.in_time,
            c.take_all.ensures.in_time (due-kept d.state h.state kept (soon-none d.state c.in_ok-let_go_of_conns.ensures.none_late)),
          );
      before = tt;
      stands =
          stands-behind known config (standing c.args.self.now.edition.stop_ms store now a) c.heed.new.self.edition.stop_ms c.take_all.new.self.edition.stop_ms renewed read new e i (orderless-more steps e h i (orderless-children steps e f h c.retire_all.ensures.retires c.start_children.ensures.starts) (orderless-takes h i c.in_ok-take_all.ensures.takes)) (c.take_all.ensures.going ∙ (c.start_children.ensures.going ∙ c.retire_all.ensures.going)) (ap (λ (e : LoadedEdition). e.stop_ms) c.take_all.ensures.edition) (lines-taken read new c.take_all.ensures.follows)
          (stands-orders known config _ false c.args.self.now.edition.stop_ms store now a d (standing c.heed.new.self.edition.stop_ms renewed read e) c.if-asked.false
          orders_off (c.let_go_of_conns.ensures.rest.going ∙ c.signal_all.ensures.rest.going ∙ c.pass_time.ensures.going) timely c.in_ok-asked.ensures.stands);
      knows =
          subst (λ (n : NamedConfig). KnowsComing known i n renewed.told) (sym c.take_all.ensures.config)
          (coming-orderless known e i c.heed.new.self.config renewed.told (orderless-more steps e h i (orderless-children steps e f h c.retire_all.ensures.retires c.start_children.ensures.starts) (orderless-takes h i c.in_ok-take_all.ensures.takes)) c.in_ok-asked.ensures.knows);
      serves =
          subst (ServesNewest known i) (sym c.take_all.ensures.edition)
          (newest-orderless c.generations_keep_their_editions.ensures known e i c.heed.new.self.edition (orderless-more steps e h i (orderless-children steps e f h c.retire_all.ensures.retires c.start_children.ensures.starts) (orderless-takes h i c.in_ok-take_all.ensures.takes))
          (c.take_all.ensures.newest ∙ c.start_children.ensures.rest.newest ∙ c.retire_all.ensures.rest.newest) c.heed.ensures.serves);
      up = ap is_halted c.take_all.ensures.going ∙ ap is_halted (c.start_children.ensures.going ∙ c.retire_all.ensures.going) ∙ c.heed.ensures.up;
      moment =
          c.take_all.ensures.moment ∙ c.start_children.ensures.rest.moment ∙ c.retire_all.ensures.rest.moment ∙ c.heed.ensures.moment
          ∙ c.let_go_of_conns.ensures.rest.moment ∙ c.signal_all.ensures.rest.moment ∙ c.in_ok-pass_time.ensures.moment;
      stays = tt;
      counts = (counts-more 0 now.counts read.counts new.counts a h i (counts-more 0 now.counts read.counts read.counts a e h
          (counts-more 0 now.counts now.counts read.counts a d e (counts-orderless now.counts now.counts a d refl orders_off (c.let_go_of_conns.ensures.rest.going ∙ c.signal_all.ensures.rest.going ∙ c.pass_time.ensures.going) (c.let_go_of_conns.ensures.rest.accepted ∙ c.signal_all.ensures.rest.accepted ∙ c.pass_time.ensures.taken))
          (subst (λ (b : Bool). CountsOn (owed_by b) now.counts read.counts d e) c.if-asked.false c.in_ok-asked.ensures.counts))
          (counts-orderless read.counts read.counts e h refl (orderless-children steps e f h c.retire_all.ensures.retires c.start_children.ensures.starts) (c.start_children.ensures.going ∙ c.retire_all.ensures.going) (c.start_children.ensures.rest.accepted ∙ c.retire_all.ensures.rest.accepted)))
          c.in_ok-take_all.ensures.counts);
      heard =
          (subst (λ (w : Bool). Hears known config (made_first c.args.moment slots a) None (hearing (standing c.args.self.now.edition.stop_ms store now a) (g.K.Sink.seen c.args.out.now) c.args.self.now.written)
          (hearing (standing c.take_all.new.self.edition.stop_ms renewed new i) (g.K.Sink.seen c.heed.new.out) w)) (sym c.take_all.ensures.written)
          (hears-kept known config (made_first c.args.moment slots a) (hearing (standing c.args.self.now.edition.stop_ms store now a) (g.K.Sink.seen c.args.out.now) c.args.self.now.written)
          (standing c.heed.new.self.edition.stop_ms renewed read e) (standing c.take_all.new.self.edition.stop_ms renewed new i) (g.K.Sink.seen c.heed.new.out)
          c.heed.new.self.written (orderless-more steps e h i (orderless-children steps e f h c.retire_all.ensures.retires c.start_children.ensures.starts) (orderless-takes h i c.in_ok-take_all.ensures.takes)) c.take_all.ensures.heard
          (hears-before known config (made_first c.args.moment slots a) None c.args.self.now.edition.stop_ms store now a d (g.K.Sink.seen c.args.out.now) c.args.self.now.written
          (hearing (standing c.heed.new.self.edition.stop_ms renewed read e) (g.K.Sink.seen c.heed.new.out) c.heed.new.self.written) orders_off timely
          (stands-orderless known config c.args.self.now.edition.stop_ms store now a d orders_off (c.let_go_of_conns.ensures.rest.going ∙ c.signal_all.ensures.rest.going ∙ c.pass_time.ensures.going))
          (begins (moment_for c.args.moment) slots a b s d c.in_ok-pass_time.ensures.passes signals c.in_ok-let_go_of_conns.ensures.gone).made (subst (λ (x : Bool). Hears known config [] (last_if x) (hearing (standing c.args.self.now.edition.stop_ms store now d) (g.K.Sink.seen c.args.out.now) c.args.self.now.written)
          (hearing (standing c.heed.new.self.edition.stop_ms renewed read e) (g.K.Sink.seen c.heed.new.out) c.heed.new.self.written)) c.if-asked.false c.in_ok-asked.ensures.heard))));
      wakes = c.take_all.ensures.wakes ∙ c.heed.ensures.wakes;
      step = search rules;
      ends = (
        c.in_ok-take_all.ensures.taken,
        all-read read.told new.told c.take_all.ensures.front (c.in_ok-asked.ensures.none c.if-asked.false).1,
        heeded-takes read.told new.told c.take_all.ensures.front (c.in_ok-asked.ensures.none c.if-asked.false).0,
      );
      unheeded = tt;
      follows = follows-trans now read new c.heed.ensures.follows c.take_all.ensures.follows;
      front = both-only now.told read.told new.told c.heed.ensures.front c.take_all.ensures.front;
      watched =
          λ past before. c.take_all.ensures.watched past
          (watched-as read.told e h (nobody-more e f h (nobody-retired e f c.retire_all.ensures.retires) (nobody-started f h c.start_children.ensures.starts)) (c.start_children.ensures.rest.accepted ∙ c.retire_all.ensures.rest.accepted) past
          (c.heed.ensures.watched past (watched-as now.told a d none_taken (c.let_go_of_conns.ensures.rest.accepted ∙ c.signal_all.ensures.rest.accepted ∙ c.pass_time.ensures.taken) past before)));
      listens = step-listens new.told i.state c.in_ok-take_all.ensures.step;
      links = tt;
      ready = c.take_all.ensures.ready ∙ ap (λ (l : _). l.ready) c.heed.ensures.others;
      config = c.take_all.ensures.config ∙ ap (λ (l : _). l.config) c.heed.ensures.others;
      err = tt;
    }
