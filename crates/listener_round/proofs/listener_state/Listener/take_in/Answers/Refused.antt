-- That a round in which a call was refused was broken off there.
use Rattle.std.proofs.Common.{ℕ, [], ◌∙◌, Bool, List, None, option_map, false, inl, inr, ap, refl, sym, subst, rules}
use Rattle.conn_machine.specs.States.{is_halted}
use Rattle.worker_group.specs.Acts.{Acts}
use Rattle.rounds.specs.ClosingInside.{IsLateWay}
use Rattle.listener_round.specs.CountedInside.{CountsOn, CountsUntil}
use Rattle.listener_round.specs.HeardInside.{Hears, HearsUntil, hearing, last_if, made_first, never_answered}
use Rattle.listener_round.specs.OrdersInside.{owed_by}
use Rattle.listener_round.specs.RoundInside.{BreaksOff}
use Rattle.rounds.specs.PartsInside.{SignalsFirst, StaysTimely, signal_events}
use Rattle.listener_round.specs.ShareInside.{CutsShare, DoesAsked, stop_if}
use Rattle.listener_round.specs.StandingInside.{StandsBroken, standing}
use Rattle.board_book.specs.Moments.{moment_for}
use Rattle.listener_round.specs.declared.edition.LoadedEdition.{LoadedEdition}
use Rattle.listener_round.proofs.CommandLemmas.{heeded-takes}
use Rattle.listener_round.proofs.CountedLemmas.{counts-orderless, moment-passed, moment-stays, counts-more, counts-unbroken, counts-until}
use Rattle.listener_round.proofs.FrontLemmas.{both-only, follows-same, follows-trans, listens-takes, only-reads, only-takes, step-kept, step-listens, takes-same}
use Rattle.listener_round.proofs.HeardLineLemmas.{keeps-same}
use Rattle.listener_round.proofs.HearsLemmas.{hears-before, hears-kept, hears-same}
use Rattle.listener_round.proofs.LinkLemmas.{hands-step}
use Rattle.listener_round.proofs.PartLemmas.{orderless-before, orderless-children, orderless-first, orderless-gone, orderless-more, orderless-signals, orderless-takes_until, orderless-time, orderless-until}
use Rattle.listener_round.proofs.RoundLemmas.{breaks-behind, breaks-early, does-none, ends-idle, lets-go-none, signals-all, takes-none}
use Rattle.listener_round.proofs.IntakeLemmas.{end-same, staffed-same}
use Rattle.listener_round.proofs.PassedLemmas.{passed}
use Rattle.listener_round.proofs.RoundShareLemmas.{begins, cuts-asked, cuts-lets, cuts-signals, cuts-started, cuts-taken, cuts-time}
use Rattle.rounds.proofs.ActLemmas.{on-err, retires-none, starts-none}
use Rattle.rounds.proofs.TimelyLemmas.{not-at_end}
use Rattle.listener_round.proofs.StandingLemmas.{lines-taken, same-lines}
use Rattle.listener_round.proofs.StandingPartLemmas.{broken-after, broken-orderless, broken-orders, stands-orderless, stands-orders}
use Rattle.listener_round.proofs.NobodyLemmas.{nobody-acts, nobody-before-orders, nobody-gone, nobody-let_go_until, nobody-more, nobody-passed, nobody-retired, nobody-signalled, nobody-started, none-signals}
use Rattle.listener_round.proofs.WatchLemmas.{watched-as}
use Rattle.listener_round.proofs.listener_state.Listener.take_in.Goals as goal

pub in_err-pass_time : goal.returns-in_err-pass_time
in_err-pass_time g c =
    let known = g.N.Known.known in
    let config = c.args.self.now.config in
    let slots = c.args.self.now.ready in
    let now = g.F.Front.seen c.args.front.now in
    let store = g.D.Store.seen c.args.store.now in
    let a = c.args.self.now.board.book in
    let b = c.pass_time.new.board.book in
    record {
      round = passed c.from_residual.result c.in_err-pass_time.field-0.0 _ _ c.from_residual.ensures.1 tt;
      broken =
          let broken : BreaksOff c.in_err-pass_time.field-0.0 (moment_for c.args.moment) slots a b =
          breaks-early c.in_err-pass_time.field-0.0 (moment_for c.args.moment) slots a b c.in_err-pass_time.ensures.refused c.in_err-pass_time.ensures.why in
          passed c.from_residual.result c.in_err-pass_time.field-0.0 _ _ c.from_residual.ensures.1 broken;
      share =
          let cut : CutsShare c.args.moment slots now.told now.told a b =
          cuts-time c.args.moment slots now.told a b c.in_err-pass_time.ensures.refused in
          passed c.from_residual.result c.in_err-pass_time.field-0.0 _ _ c.from_residual.ensures.1 cut;
      hushes = passed c.from_residual.result c.in_err-pass_time.field-0.0 _ _ c.from_residual.ensures.1 tt;
      timely = c.pass_time.ensures.timely;
      goes_on = passed c.from_residual.result c.in_err-pass_time.field-0.0 _ _ c.from_residual.ensures.1 tt;
      before = on-err c.from_residual.result _ (not-at_end b.state c.pass_time.ensures.staffed);
      stands =
          let broken : StandsBroken known config (standing c.args.self.now.edition.stop_ms store now a) (standing c.args.self.now.edition.stop_ms store now b) =
          broken-orderless known config c.args.self.now.edition.stop_ms store now a b (orderless-gone a b c.in_err-pass_time.ensures.refused) c.pass_time.ensures.going in
          passed c.from_residual.result c.in_err-pass_time.field-0.0 _ _ c.from_residual.ensures.1 broken;
      knows = passed c.from_residual.result c.in_err-pass_time.field-0.0 _ _ c.from_residual.ensures.1 tt;
      serves = passed c.from_residual.result c.in_err-pass_time.field-0.0 _ _ c.from_residual.ensures.1 tt;
      up = ap is_halted (c.pass_time.ensures.going) ∙ c.requires.up;
      moment = passed c.from_residual.result c.in_err-pass_time.field-0.0 _ _ c.from_residual.ensures.1 tt;
      stays = on-err c.from_residual.result _ (moment-stays c.args.self.now.board.book.state c.pass_time.new.board.book.state (moment_for c.args.moment) (c.in_err-pass_time.ensures.stays));
      counts =
          let until : CountsUntil now.counts now.counts a b =
          counts-unbroken now.counts now.counts a b (counts-orderless now.counts now.counts a b refl (orderless-gone a b c.in_err-pass_time.ensures.refused) c.pass_time.ensures.going c.pass_time.ensures.taken) in
          passed c.from_residual.result c.in_err-pass_time.field-0.0 _ _ c.from_residual.ensures.1 until;
      heard =
          let until : HearsUntil known config (made_first c.args.moment slots a) (hearing (standing c.args.self.now.edition.stop_ms store now a) (g.K.Sink.seen c.args.out.now) c.args.self.now.written)
          (hearing (standing c.args.self.now.edition.stop_ms store now b) (g.K.Sink.seen c.args.out.now) c.args.self.now.written) = (
            None,
            tt,
            hears-same known config (made_first c.args.moment slots a) (standing c.args.self.now.edition.stop_ms store now a) (standing c.args.self.now.edition.stop_ms store now b)
                (g.K.Sink.seen c.args.out.now) c.args.self.now.written (orderless-gone a b c.in_err-pass_time.ensures.refused) (keeps-same now),
          ) in
          passed c.from_residual.result c.in_err-pass_time.field-0.0 _ _ c.from_residual.ensures.1 until;
      wakes = refl;
      step = passed c.from_residual.result c.in_err-pass_time.field-0.0 _ _ c.from_residual.ensures.1 tt;
      ends = passed c.from_residual.result c.in_err-pass_time.field-0.0 _ _ c.from_residual.ensures.1 tt;
      unheeded = on-err c.from_residual.result _ c.requires.heeded;
      follows = follows-same now;
      front = only-takes now.told now.told (takes-same now.told);
      watched = λ past before. watched-as now.told a b (nobody-gone IsLateWay a b c.in_err-pass_time.ensures.refused) c.pass_time.ensures.taken past before;
      listens = step-listens now.told b.state (step-kept now.told a.state b.state (c.pass_time.ensures.taken) (c.pass_time.ensures.going) c.requires.step);
      links = on-err c.from_residual.result _ (hands-step now.told b.state (step-kept now.told a.state b.state (c.pass_time.ensures.taken) (c.pass_time.ensures.going) c.requires.step));
      ready = refl;
      config = refl;
      err = search rules;
    }

pub in_err-signal_all : goal.returns-in_err-signal_all
in_err-signal_all g c =
    let known = g.N.Known.known in
    let config = c.args.self.now.config in
    let steps = c.passes_act_in_steps.ensures.acts in
    let slots = c.args.self.now.ready in
    let now = g.F.Front.seen c.args.front.now in
    let store = g.D.Store.seen c.args.store.now in
    let a = c.args.self.now.board.book in
    let b = c.pass_time.new.board.book in
    let s = c.signal_all.new.board.book in
    record {
      round = passed c.from_residual-in_err-signal_all.result c.in_err-signal_all.field-0.0 _ _ c.from_residual-in_err-signal_all.ensures.1 tt;
      broken =
          let broken : BreaksOff c.in_err-signal_all.field-0.0 (moment_for c.args.moment) slots a s =
          breaks-behind steps c.in_err-signal_all.field-0.0 (moment_for c.args.moment) slots a b s s s s s s s
          c.in_ok-pass_time.ensures.passes (subst (λ (xs : List ℕ). SignalsFirst xs b s) c.slots.ensures.is c.in_err-signal_all.ensures.first)
          (lets-go-none steps s c.in_err-signal_all.ensures.first.acts.row) (does-none steps s c.in_err-signal_all.ensures.first.acts.row) (retires-none steps s c.in_err-signal_all.ensures.first.acts.row) (starts-none steps s c.in_err-signal_all.ensures.first.acts.row) (takes-none steps s c.in_err-signal_all.ensures.first.acts.row) (ends-idle c.in_err-signal_all.field-0.0 s c.in_err-signal_all.ensures.why) in
          passed c.from_residual-in_err-signal_all.result c.in_err-signal_all.field-0.0 _ _ c.from_residual-in_err-signal_all.ensures.1 broken;
      share =
          let cut : CutsShare c.args.moment slots now.told now.told a s =
          cuts-signals c.args.moment slots now.told a b s c.in_ok-pass_time.ensures.passes
          (subst (λ (xs : List ℕ). SignalsFirst xs b s) c.slots.ensures.is c.in_err-signal_all.ensures.first) in
          passed c.from_residual-in_err-signal_all.result c.in_err-signal_all.field-0.0 _ _ c.from_residual-in_err-signal_all.ensures.1 cut;
      hushes = passed c.from_residual-in_err-signal_all.result c.in_err-signal_all.field-0.0 _ _ c.from_residual-in_err-signal_all.ensures.1 tt;
      timely = λ first. c.signal_all.ensures.timely (c.pass_time.ensures.timely first);
      goes_on = passed c.from_residual-in_err-signal_all.result c.in_err-signal_all.field-0.0 _ _ c.from_residual-in_err-signal_all.ensures.1 tt;
      before = on-err c.from_residual-in_err-signal_all.result _ (not-at_end s.state (staffed-same b.state s.state c.signal_all.ensures.children c.pass_time.ensures.staffed));
      stands =
          let broken : StandsBroken known config (standing c.args.self.now.edition.stop_ms store now a) (standing c.args.self.now.edition.stop_ms store now s) =
          broken-orderless known config c.args.self.now.edition.stop_ms store now a s
          (orderless-more steps a b s (orderless-time (moment_for c.args.moment) a b c.in_ok-pass_time.ensures.passes) (orderless-first slots b s (subst (λ (xs : List ℕ). SignalsFirst xs b s) c.slots.ensures.is c.in_err-signal_all.ensures.first))) (c.signal_all.ensures.rest.going ∙ c.pass_time.ensures.going) in
          passed c.from_residual-in_err-signal_all.result c.in_err-signal_all.field-0.0 _ _ c.from_residual-in_err-signal_all.ensures.1 broken;
      knows = passed c.from_residual-in_err-signal_all.result c.in_err-signal_all.field-0.0 _ _ c.from_residual-in_err-signal_all.ensures.1 tt;
      serves = passed c.from_residual-in_err-signal_all.result c.in_err-signal_all.field-0.0 _ _ c.from_residual-in_err-signal_all.ensures.1 tt;
      up = ap is_halted (c.signal_all.ensures.rest.going ∙ c.pass_time.ensures.going) ∙ c.requires.up;
      moment = passed c.from_residual-in_err-signal_all.result c.in_err-signal_all.field-0.0 _ _ c.from_residual-in_err-signal_all.ensures.1 tt;
      stays = on-err c.from_residual-in_err-signal_all.result _ (moment-passed c.args.self.now.board.book.state c.signal_all.new.board.book.state (moment_for c.args.moment) (c.signal_all.ensures.rest.moment ∙ c.in_ok-pass_time.ensures.moment));
      counts =
          let until : CountsUntil now.counts now.counts a s =
          counts-unbroken now.counts now.counts a s (counts-orderless now.counts now.counts a s refl (orderless-more steps a b s (orderless-time (moment_for c.args.moment) a b c.in_ok-pass_time.ensures.passes) (orderless-first slots b s (subst (λ (xs : List ℕ). SignalsFirst xs b s) c.slots.ensures.is c.in_err-signal_all.ensures.first))) (c.signal_all.ensures.rest.going ∙ c.pass_time.ensures.going) (c.signal_all.ensures.rest.accepted ∙ c.pass_time.ensures.taken)) in
          passed c.from_residual-in_err-signal_all.result c.in_err-signal_all.field-0.0 _ _ c.from_residual-in_err-signal_all.ensures.1 until;
      heard =
          let until : HearsUntil known config (made_first c.args.moment slots a) (hearing (standing c.args.self.now.edition.stop_ms store now a) (g.K.Sink.seen c.args.out.now) c.args.self.now.written)
          (hearing (standing c.args.self.now.edition.stop_ms store now s) (g.K.Sink.seen c.args.out.now) c.args.self.now.written) = (
            None,
            tt,
            hears-same known config (made_first c.args.moment slots a) (standing c.args.self.now.edition.stop_ms store now a) (standing c.args.self.now.edition.stop_ms store now s)
                (g.K.Sink.seen c.args.out.now) c.args.self.now.written (orderless-more steps a b s (orderless-time (moment_for c.args.moment) a b c.in_ok-pass_time.ensures.passes) (orderless-first slots b s (subst (λ (xs : List ℕ). SignalsFirst xs b s) c.slots.ensures.is c.in_err-signal_all.ensures.first))) (keeps-same now),
          ) in
          passed c.from_residual-in_err-signal_all.result c.in_err-signal_all.field-0.0 _ _ c.from_residual-in_err-signal_all.ensures.1 until;
      wakes = refl;
      step = passed c.from_residual-in_err-signal_all.result c.in_err-signal_all.field-0.0 _ _ c.from_residual-in_err-signal_all.ensures.1 tt;
      ends = passed c.from_residual-in_err-signal_all.result c.in_err-signal_all.field-0.0 _ _ c.from_residual-in_err-signal_all.ensures.1 tt;
      unheeded = on-err c.from_residual-in_err-signal_all.result _ c.requires.heeded;
      follows = follows-same now;
      front = only-takes now.told now.told (takes-same now.told);
      watched =
          λ past before. watched-as now.told a s
          (nobody-more a b s (nobody-passed (moment_for c.args.moment) a b c.in_ok-pass_time.ensures.passes) (nobody-acts 0 _ None b s c.in_err-signal_all.ensures.first.acts (none-signals c.in_err-signal_all.ensures.first.first)))
          (c.signal_all.ensures.rest.accepted ∙ c.pass_time.ensures.taken) past before;
      listens = step-listens now.told s.state (step-kept now.told a.state s.state (c.signal_all.ensures.rest.accepted ∙ c.pass_time.ensures.taken) (c.signal_all.ensures.rest.going ∙ c.pass_time.ensures.going) c.requires.step);
      links = on-err c.from_residual-in_err-signal_all.result _ (hands-step now.told s.state (step-kept now.told a.state s.state (c.signal_all.ensures.rest.accepted ∙ c.pass_time.ensures.taken) (c.signal_all.ensures.rest.going ∙ c.pass_time.ensures.going) c.requires.step));
      ready = refl;
      config = refl;
      err = search rules;
    }

pub in_err-let_go_of_conns : goal.returns-in_err-let_go_of_conns
in_err-let_go_of_conns g c =
    let known = g.N.Known.known in
    let config = c.args.self.now.config in
    let steps = c.passes_act_in_steps.ensures.acts in
    let slots = c.args.self.now.ready in
    let now = g.F.Front.seen c.args.front.now in
    let store = g.D.Store.seen c.args.store.now in
    let a = c.args.self.now.board.book in
    let b = c.pass_time.new.board.book in
    let s = c.signal_all.new.board.book in
    let d = c.let_go_of_conns.new.board.book in
    let signals = subst (λ (xs : List ℕ). Acts 0 (signal_events b xs) None b s) c.slots.ensures.is c.in_ok-signal_all.ensures.signals in
    let timely : StaysTimely a d = λ first. c.let_go_of_conns.ensures.timely (c.signal_all.ensures.timely (c.pass_time.ensures.timely first)) in
    record {
      round = passed c.from_residual-in_err-let_go_of_conns.result c.in_err-let_go_of_conns.field-0.0 _ _ c.from_residual-in_err-let_go_of_conns.ensures.1 tt;
      broken =
          let broken : BreaksOff c.in_err-let_go_of_conns.field-0.0 (moment_for c.args.moment) slots a d =
          breaks-behind steps c.in_err-let_go_of_conns.field-0.0 (moment_for c.args.moment) slots a b s c.in_err-let_go_of_conns.ensures.until.book c.in_err-let_go_of_conns.ensures.until.book c.in_err-let_go_of_conns.ensures.until.book c.in_err-let_go_of_conns.ensures.until.book c.in_err-let_go_of_conns.ensures.until.book d
          c.in_ok-pass_time.ensures.passes (signals-all slots b s signals) c.in_err-let_go_of_conns.ensures.until.lets
          (does-none steps c.in_err-let_go_of_conns.ensures.until.book c.in_err-let_go_of_conns.ensures.until.lets.acts.row) (retires-none steps c.in_err-let_go_of_conns.ensures.until.book c.in_err-let_go_of_conns.ensures.until.lets.acts.row) (starts-none steps c.in_err-let_go_of_conns.ensures.until.book c.in_err-let_go_of_conns.ensures.until.lets.acts.row) (takes-none steps c.in_err-let_go_of_conns.ensures.until.book c.in_err-let_go_of_conns.ensures.until.lets.acts.row) (inl c.in_err-let_go_of_conns.ensures.until.last) in
          passed c.from_residual-in_err-let_go_of_conns.result c.in_err-let_go_of_conns.field-0.0 _ _ c.from_residual-in_err-let_go_of_conns.ensures.1 broken;
      share =
          let cut : CutsShare c.args.moment slots now.told now.told a d =
          cuts-lets c.args.moment slots now.told c.in_err-let_go_of_conns.field-0.0 a b s d c.in_ok-pass_time.ensures.passes signals c.in_err-let_go_of_conns.ensures.until in
          passed c.from_residual-in_err-let_go_of_conns.result c.in_err-let_go_of_conns.field-0.0 _ _ c.from_residual-in_err-let_go_of_conns.ensures.1 cut;
      hushes = passed c.from_residual-in_err-let_go_of_conns.result c.in_err-let_go_of_conns.field-0.0 _ _ c.from_residual-in_err-let_go_of_conns.ensures.1 tt;
      timely = timely;
      goes_on = passed c.from_residual-in_err-let_go_of_conns.result c.in_err-let_go_of_conns.field-0.0 _ _ c.from_residual-in_err-let_go_of_conns.ensures.1 tt;
      before = on-err c.from_residual-in_err-let_go_of_conns.result _ (not-at_end d.state c.let_go_of_conns.ensures.staffed);
      stands =
          let broken : StandsBroken known config (standing c.args.self.now.edition.stop_ms store now a) (standing c.args.self.now.edition.stop_ms store now d) =
          broken-orderless known config c.args.self.now.edition.stop_ms store now a d
          (orderless-more steps a s d (orderless-more steps a b s (orderless-time (moment_for c.args.moment) a b c.in_ok-pass_time.ensures.passes) (orderless-signals slots b s signals)) (orderless-until steps c.in_err-let_go_of_conns.field-0.0 s d c.in_err-let_go_of_conns.ensures.until)) (c.let_go_of_conns.ensures.rest.going ∙ c.signal_all.ensures.rest.going ∙ c.pass_time.ensures.going) in
          passed c.from_residual-in_err-let_go_of_conns.result c.in_err-let_go_of_conns.field-0.0 _ _ c.from_residual-in_err-let_go_of_conns.ensures.1 broken;
      knows = passed c.from_residual-in_err-let_go_of_conns.result c.in_err-let_go_of_conns.field-0.0 _ _ c.from_residual-in_err-let_go_of_conns.ensures.1 tt;
      serves = passed c.from_residual-in_err-let_go_of_conns.result c.in_err-let_go_of_conns.field-0.0 _ _ c.from_residual-in_err-let_go_of_conns.ensures.1 tt;
      up = ap is_halted (c.let_go_of_conns.ensures.rest.going ∙ c.signal_all.ensures.rest.going ∙ c.pass_time.ensures.going) ∙ c.requires.up;
      moment = passed c.from_residual-in_err-let_go_of_conns.result c.in_err-let_go_of_conns.field-0.0 _ _ c.from_residual-in_err-let_go_of_conns.ensures.1 tt;
      stays = on-err c.from_residual-in_err-let_go_of_conns.result _ (moment-passed c.args.self.now.board.book.state c.let_go_of_conns.new.board.book.state (moment_for c.args.moment) (c.let_go_of_conns.ensures.rest.moment ∙ c.signal_all.ensures.rest.moment ∙ c.in_ok-pass_time.ensures.moment));
      counts =
          let until : CountsUntil now.counts now.counts a d =
          counts-unbroken now.counts now.counts a d (counts-orderless now.counts now.counts a d refl (orderless-more steps a s d (orderless-more steps a b s (orderless-time (moment_for c.args.moment) a b c.in_ok-pass_time.ensures.passes) (orderless-signals slots b s signals)) (orderless-until steps c.in_err-let_go_of_conns.field-0.0 s d c.in_err-let_go_of_conns.ensures.until)) (c.let_go_of_conns.ensures.rest.going ∙ c.signal_all.ensures.rest.going ∙ c.pass_time.ensures.going) (c.let_go_of_conns.ensures.rest.accepted ∙ c.signal_all.ensures.rest.accepted ∙ c.pass_time.ensures.taken)) in
          passed c.from_residual-in_err-let_go_of_conns.result c.in_err-let_go_of_conns.field-0.0 _ _ c.from_residual-in_err-let_go_of_conns.ensures.1 until;
      heard =
          let until : HearsUntil known config (made_first c.args.moment slots a) (hearing (standing c.args.self.now.edition.stop_ms store now a) (g.K.Sink.seen c.args.out.now) c.args.self.now.written)
          (hearing (standing c.args.self.now.edition.stop_ms store now d) (g.K.Sink.seen c.args.out.now) c.args.self.now.written) = (
            None,
            tt,
            hears-same known config (made_first c.args.moment slots a) (standing c.args.self.now.edition.stop_ms store now a) (standing c.args.self.now.edition.stop_ms store now d)
                (g.K.Sink.seen c.args.out.now) c.args.self.now.written (orderless-more steps a s d (orderless-more steps a b s (orderless-time (moment_for c.args.moment) a b c.in_ok-pass_time.ensures.passes) (orderless-signals slots b s signals)) (orderless-until steps c.in_err-let_go_of_conns.field-0.0 s d c.in_err-let_go_of_conns.ensures.until)) (keeps-same now),
          ) in
          passed c.from_residual-in_err-let_go_of_conns.result c.in_err-let_go_of_conns.field-0.0 _ _ c.from_residual-in_err-let_go_of_conns.ensures.1 until;
      wakes = refl;
      step = passed c.from_residual-in_err-let_go_of_conns.result c.in_err-let_go_of_conns.field-0.0 _ _ c.from_residual-in_err-let_go_of_conns.ensures.1 tt;
      ends = passed c.from_residual-in_err-let_go_of_conns.result c.in_err-let_go_of_conns.field-0.0 _ _ c.from_residual-in_err-let_go_of_conns.ensures.1 tt;
      unheeded = on-err c.from_residual-in_err-let_go_of_conns.result _ c.requires.heeded;
      follows = follows-same now;
      front = only-takes now.told now.told (takes-same now.told);
      watched =
          λ past before. watched-as now.told a d
          (nobody-more a s d (nobody-more a b s (nobody-passed (moment_for c.args.moment) a b c.in_ok-pass_time.ensures.passes) (nobody-signalled c.slots.result.now b s c.in_ok-signal_all.ensures.signals))
          (nobody-let_go_until _ s d c.in_err-let_go_of_conns.ensures.until))
          (c.let_go_of_conns.ensures.rest.accepted ∙ c.signal_all.ensures.rest.accepted ∙ c.pass_time.ensures.taken) past before;
      listens = step-listens now.told d.state (step-kept now.told a.state d.state (c.let_go_of_conns.ensures.rest.accepted ∙ c.signal_all.ensures.rest.accepted ∙ c.pass_time.ensures.taken) (c.let_go_of_conns.ensures.rest.going ∙ c.signal_all.ensures.rest.going ∙ c.pass_time.ensures.going) c.requires.step);
      links = on-err c.from_residual-in_err-let_go_of_conns.result _ (hands-step now.told d.state (step-kept now.told a.state d.state (c.let_go_of_conns.ensures.rest.accepted ∙ c.signal_all.ensures.rest.accepted ∙ c.pass_time.ensures.taken) (c.let_go_of_conns.ensures.rest.going ∙ c.signal_all.ensures.rest.going ∙ c.pass_time.ensures.going) c.requires.step));
      ready = refl;
      config = refl;
      err = search rules;
    }

pub in_err-asked : goal.returns-in_err-asked
in_err-asked g c =
    let known = g.N.Known.known in
    let config = c.args.self.now.config in
    let steps = c.passes_act_in_steps.ensures.acts in
    let slots = c.args.self.now.ready in
    let now = g.F.Front.seen c.args.front.now in
    let read = g.F.Front.seen c.heed.new.front in
    let store = g.D.Store.seen c.args.store.now in
    let renewed = g.D.Store.seen c.heed.new.store in
    let a = c.args.self.now.board.book in
    let b = c.pass_time.new.board.book in
    let s = c.signal_all.new.board.book in
    let d = c.let_go_of_conns.new.board.book in
    let e = c.heed.new.self.board.book in
    let signals = subst (λ (xs : List ℕ). Acts 0 (signal_events b xs) None b s) c.slots.ensures.is c.in_ok-signal_all.ensures.signals in
    let orders_off = orderless-before steps (moment_for c.args.moment) slots a b s d c.in_ok-pass_time.ensures.passes signals c.in_ok-let_go_of_conns.ensures.gone in
    let none_taken = nobody-before-orders a b s d (moment_for c.args.moment) slots c.in_ok-pass_time.ensures.passes signals c.in_ok-let_go_of_conns.ensures.gone in
    let timely : StaysTimely a d = λ first. c.let_go_of_conns.ensures.timely (c.signal_all.ensures.timely (c.pass_time.ensures.timely first)) in
    record {
      round = passed c.from_residual-in_err-asked.result c.in_err-asked.field-0.0 _ _ c.from_residual-in_err-asked.ensures.1 tt;
      broken =
          let broken : BreaksOff c.in_err-asked.field-0.0 (moment_for c.args.moment) slots a e =
          breaks-behind steps c.in_err-asked.field-0.0 (moment_for c.args.moment) slots a b s d e e e e e
          c.in_ok-pass_time.ensures.passes (signals-all slots b s signals) c.in_ok-let_go_of_conns.ensures.gone c.in_err-asked.ensures.until.does
          (retires-none steps e c.in_err-asked.ensures.until.does.acts.row) (starts-none steps e c.in_err-asked.ensures.until.does.acts.row) (takes-none steps e c.in_err-asked.ensures.until.does.acts.row) (ends-idle c.in_err-asked.field-0.0 e c.in_err-asked.ensures.until.why) in
          passed c.from_residual-in_err-asked.result c.in_err-asked.field-0.0 _ _ c.from_residual-in_err-asked.ensures.1 broken;
      share =
          let cut : CutsShare c.args.moment slots now.told read.told a e =
          cuts-asked c.args.moment slots now.told read.told a d e
          (begins (moment_for c.args.moment) slots a b s d c.in_ok-pass_time.ensures.passes signals c.in_ok-let_go_of_conns.ensures.gone)
          c.in_err-asked.ensures.asks c.heed.ensures.front in
          passed c.from_residual-in_err-asked.result c.in_err-asked.field-0.0 _ _ c.from_residual-in_err-asked.ensures.1 cut;
      hushes = passed c.from_residual-in_err-asked.result c.in_err-asked.field-0.0 _ _ c.from_residual-in_err-asked.ensures.1 tt;
      timely = λ first. c.heed.ensures.timely (timely first);
      goes_on = passed c.from_residual-in_err-asked.result c.in_err-asked.field-0.0 _ _ c.from_residual-in_err-asked.ensures.1 tt;
      before = on-err c.from_residual-in_err-asked.result _ (not-at_end e.state c.heed.ensures.in_time.staffed);
      stands =
          let broken : StandsBroken known config (standing c.args.self.now.edition.stop_ms store now a) (standing c.heed.new.self.edition.stop_ms renewed read e) =
          broken-orders known config c.args.self.now.edition.stop_ms store now a d (standing c.heed.new.self.edition.stop_ms renewed read e)
          orders_off (c.let_go_of_conns.ensures.rest.going ∙ c.signal_all.ensures.rest.going ∙ c.pass_time.ensures.going) timely c.in_err-asked.ensures.stands in
          passed c.from_residual-in_err-asked.result c.in_err-asked.field-0.0 _ _ c.from_residual-in_err-asked.ensures.1 broken;
      knows = passed c.from_residual-in_err-asked.result c.in_err-asked.field-0.0 _ _ c.from_residual-in_err-asked.ensures.1 tt;
      serves = passed c.from_residual-in_err-asked.result c.in_err-asked.field-0.0 _ _ c.from_residual-in_err-asked.ensures.1 tt;
      up = c.heed.ensures.up;
      moment = passed c.from_residual-in_err-asked.result c.in_err-asked.field-0.0 _ _ c.from_residual-in_err-asked.ensures.1 tt;
      stays = on-err c.from_residual-in_err-asked.result _ (moment-passed c.args.self.now.board.book.state c.heed.new.self.board.book.state (moment_for c.args.moment) (c.heed.ensures.moment ∙ c.let_go_of_conns.ensures.rest.moment ∙ c.signal_all.ensures.rest.moment ∙ c.in_ok-pass_time.ensures.moment));
      counts =
          let until : CountsUntil now.counts read.counts a e =
          counts-until now.counts now.counts read.counts a d e (counts-orderless now.counts now.counts a d refl orders_off (c.let_go_of_conns.ensures.rest.going ∙ c.signal_all.ensures.rest.going ∙ c.pass_time.ensures.going) (c.let_go_of_conns.ensures.rest.accepted ∙ c.signal_all.ensures.rest.accepted ∙ c.pass_time.ensures.taken))
          c.in_err-asked.ensures.counts in
          passed c.from_residual-in_err-asked.result c.in_err-asked.field-0.0 _ _ c.from_residual-in_err-asked.ensures.1 until;
      heard =
          let hears = c.in_err-asked.ensures.heard in
          let until : HearsUntil known config (made_first c.args.moment slots a) (hearing (standing c.args.self.now.edition.stop_ms store now a) (g.K.Sink.seen c.args.out.now) c.args.self.now.written)
          (hearing (standing c.heed.new.self.edition.stop_ms renewed read e) (g.K.Sink.seen c.heed.new.out) c.heed.new.self.written) = (
            hears.0,
            hears.1,
            hears-before known config (made_first c.args.moment slots a) (option_map never_answered hears.0) c.args.self.now.edition.stop_ms store now a d (g.K.Sink.seen c.args.out.now) c.args.self.now.written
                (hearing (standing c.heed.new.self.edition.stop_ms renewed read e) (g.K.Sink.seen c.heed.new.out) c.heed.new.self.written) orders_off timely
                (stands-orderless known config c.args.self.now.edition.stop_ms store now a d orders_off (c.let_go_of_conns.ensures.rest.going ∙ c.signal_all.ensures.rest.going ∙ c.pass_time.ensures.going))
                (begins (moment_for c.args.moment) slots a b s d c.in_ok-pass_time.ensures.passes signals c.in_ok-let_go_of_conns.ensures.gone).made hears.2,
          ) in
          passed c.from_residual-in_err-asked.result c.in_err-asked.field-0.0 _ _ c.from_residual-in_err-asked.ensures.1 until;
      wakes = c.heed.ensures.wakes;
      step = passed c.from_residual-in_err-asked.result c.in_err-asked.field-0.0 _ _ c.from_residual-in_err-asked.ensures.1 tt;
      ends = passed c.from_residual-in_err-asked.result c.in_err-asked.field-0.0 _ _ c.from_residual-in_err-asked.ensures.1 tt;
      unheeded = on-err c.from_residual-in_err-asked.result _ c.in_err-asked.ensures.unheeded;
      follows = c.heed.ensures.follows;
      front = only-reads now.told read.told c.heed.ensures.front;
      watched =
          λ past before. c.heed.ensures.watched past
          (watched-as now.told a d none_taken (c.let_go_of_conns.ensures.rest.accepted ∙ c.signal_all.ensures.rest.accepted ∙ c.pass_time.ensures.taken) past before);
      listens = step-listens read.told e.state c.heed.ensures.step;
      links = on-err c.from_residual-in_err-asked.result _ (hands-step read.told e.state c.heed.ensures.step);
      ready = ap (λ (l : _). l.ready) c.heed.ensures.others;
      config = ap (λ (l : _). l.config) c.heed.ensures.others;
      err = search rules;
    }

pub in_err-start_children : goal.returns-in_err-start_children
in_err-start_children g c =
    let known = g.N.Known.known in
    let config = c.args.self.now.config in
    let steps = c.passes_act_in_steps.ensures.acts in
    let slots = c.args.self.now.ready in
    let now = g.F.Front.seen c.args.front.now in
    let read = g.F.Front.seen c.heed.new.front in
    let store = g.D.Store.seen c.args.store.now in
    let renewed = g.D.Store.seen c.heed.new.store in
    let a = c.args.self.now.board.book in
    let b = c.pass_time.new.board.book in
    let s = c.signal_all.new.board.book in
    let d = c.let_go_of_conns.new.board.book in
    let e = c.heed.new.self.board.book in
    let f = c.retire_all.new.board.book in
    let h = c.start_children.new.board.book in
    let signals = subst (λ (xs : List ℕ). Acts 0 (signal_events b xs) None b s) c.slots.ensures.is c.in_ok-signal_all.ensures.signals in
    let orders_off = orderless-before steps (moment_for c.args.moment) slots a b s d c.in_ok-pass_time.ensures.passes signals c.in_ok-let_go_of_conns.ensures.gone in
    let none_taken = nobody-before-orders a b s d (moment_for c.args.moment) slots c.in_ok-pass_time.ensures.passes signals c.in_ok-let_go_of_conns.ensures.gone in
    let timely : StaysTimely a d = λ first. c.let_go_of_conns.ensures.timely (c.signal_all.ensures.timely (c.pass_time.ensures.timely first)) in
    let done : DoesAsked [] now.told read.told d e =
    subst (λ (stops : Bool). DoesAsked (stop_if stops) now.told read.told d e) c.if-asked.false c.in_ok-asked.ensures.asks in
    record {
      round = passed c.from_residual-in_err-start_children.result c.in_err-start_children.field-0.0 _ _ c.from_residual-in_err-start_children.ensures.1 tt;
      broken =
          let broken : BreaksOff c.in_err-start_children.field-0.0 (moment_for c.args.moment) slots a h =
          breaks-behind steps c.in_err-start_children.field-0.0 (moment_for c.args.moment) slots a b s d e f h h h
          c.in_ok-pass_time.ensures.passes (signals-all slots b s signals) c.in_ok-let_go_of_conns.ensures.gone c.in_ok-asked.ensures.does c.retire_all.ensures.retires c.start_children.ensures.starts (takes-none steps h c.start_children.ensures.starts.acts.row) (ends-idle c.in_err-start_children.field-0.0 h c.in_err-start_children.ensures.why) in
          passed c.from_residual-in_err-start_children.result c.in_err-start_children.field-0.0 _ _ c.from_residual-in_err-start_children.ensures.1 broken;
      share =
          let cut : CutsShare c.args.moment slots now.told read.told a h =
          cuts-started c.args.moment slots now.told read.told a d e f h
          (begins (moment_for c.args.moment) slots a b s d c.in_ok-pass_time.ensures.passes signals c.in_ok-let_go_of_conns.ensures.gone)
          done c.heed.ensures.front c.retire_all.ensures.retires c.start_children.ensures.starts in
          passed c.from_residual-in_err-start_children.result c.in_err-start_children.field-0.0 _ _ c.from_residual-in_err-start_children.ensures.1 cut;
      hushes = passed c.from_residual-in_err-start_children.result c.in_err-start_children.field-0.0 _ _ c.from_residual-in_err-start_children.ensures.1 tt;
      timely = λ first. c.start_children.ensures.starts.timely (c.retire_all.ensures.retires.timely (c.heed.ensures.timely (timely first)));
      goes_on = passed c.from_residual-in_err-start_children.result c.in_err-start_children.field-0.0 _ _ c.from_residual-in_err-start_children.ensures.1 tt;
      before = on-err c.from_residual-in_err-start_children.result _ (c.start_children.ensures.before (sym c.is_gone.ensures.end ∙ c.if-is_gone.false));
      stands =
          let broken : StandsBroken known config (standing c.args.self.now.edition.stop_ms store now a) (standing c.heed.new.self.edition.stop_ms renewed read h) =
          broken-after known config (standing c.args.self.now.edition.stop_ms store now a) c.heed.new.self.edition.stop_ms c.heed.new.self.edition.stop_ms renewed read read e h (orderless-children steps e f h c.retire_all.ensures.retires c.start_children.ensures.starts) (c.start_children.ensures.going ∙ c.retire_all.ensures.going) refl (same-lines read)
          (stands-orders known config _ false c.args.self.now.edition.stop_ms store now a d (standing c.heed.new.self.edition.stop_ms renewed read e) c.if-asked.false
          orders_off (c.let_go_of_conns.ensures.rest.going ∙ c.signal_all.ensures.rest.going ∙ c.pass_time.ensures.going) timely c.in_ok-asked.ensures.stands) in
          passed c.from_residual-in_err-start_children.result c.in_err-start_children.field-0.0 _ _ c.from_residual-in_err-start_children.ensures.1 broken;
      knows = passed c.from_residual-in_err-start_children.result c.in_err-start_children.field-0.0 _ _ c.from_residual-in_err-start_children.ensures.1 tt;
      serves = passed c.from_residual-in_err-start_children.result c.in_err-start_children.field-0.0 _ _ c.from_residual-in_err-start_children.ensures.1 tt;
      up = ap is_halted (c.start_children.ensures.going ∙ c.retire_all.ensures.going) ∙ c.heed.ensures.up;
      moment = passed c.from_residual-in_err-start_children.result c.in_err-start_children.field-0.0 _ _ c.from_residual-in_err-start_children.ensures.1 tt;
      stays = on-err c.from_residual-in_err-start_children.result _ (moment-passed c.args.self.now.board.book.state c.start_children.new.board.book.state (moment_for c.args.moment) (c.start_children.ensures.rest.moment ∙ c.retire_all.ensures.rest.moment ∙ c.heed.ensures.moment ∙ c.let_go_of_conns.ensures.rest.moment ∙ c.signal_all.ensures.rest.moment ∙ c.in_ok-pass_time.ensures.moment));
      counts =
          let until : CountsUntil now.counts read.counts a h =
          counts-unbroken now.counts read.counts a h (counts-more 0 now.counts read.counts read.counts a e h
          (counts-more 0 now.counts now.counts read.counts a d e (counts-orderless now.counts now.counts a d refl orders_off (c.let_go_of_conns.ensures.rest.going ∙ c.signal_all.ensures.rest.going ∙ c.pass_time.ensures.going) (c.let_go_of_conns.ensures.rest.accepted ∙ c.signal_all.ensures.rest.accepted ∙ c.pass_time.ensures.taken))
          (subst (λ (b : Bool). CountsOn (owed_by b) now.counts read.counts d e) c.if-asked.false c.in_ok-asked.ensures.counts))
          (counts-orderless read.counts read.counts e h refl (orderless-children steps e f h c.retire_all.ensures.retires c.start_children.ensures.starts) (c.start_children.ensures.going ∙ c.retire_all.ensures.going) (c.start_children.ensures.rest.accepted ∙ c.retire_all.ensures.rest.accepted))) in
          passed c.from_residual-in_err-start_children.result c.in_err-start_children.field-0.0 _ _ c.from_residual-in_err-start_children.ensures.1 until;
      heard =
          let until : HearsUntil known config (made_first c.args.moment slots a) (hearing (standing c.args.self.now.edition.stop_ms store now a) (g.K.Sink.seen c.args.out.now) c.args.self.now.written)
          (hearing (standing c.heed.new.self.edition.stop_ms renewed read h) (g.K.Sink.seen c.heed.new.out) c.heed.new.self.written) = (
            None,
            tt,
            hears-kept known config (made_first c.args.moment slots a) (hearing (standing c.args.self.now.edition.stop_ms store now a) (g.K.Sink.seen c.args.out.now) c.args.self.now.written)
                (standing c.heed.new.self.edition.stop_ms renewed read e) (standing c.heed.new.self.edition.stop_ms renewed read h) (g.K.Sink.seen c.heed.new.out)
                c.heed.new.self.written (orderless-children steps e f h c.retire_all.ensures.retires c.start_children.ensures.starts) (keeps-same read)
                (hears-before known config (made_first c.args.moment slots a) None c.args.self.now.edition.stop_ms store now a d (g.K.Sink.seen c.args.out.now) c.args.self.now.written
                (hearing (standing c.heed.new.self.edition.stop_ms renewed read e) (g.K.Sink.seen c.heed.new.out) c.heed.new.self.written) orders_off timely
                (stands-orderless known config c.args.self.now.edition.stop_ms store now a d orders_off (c.let_go_of_conns.ensures.rest.going ∙ c.signal_all.ensures.rest.going ∙ c.pass_time.ensures.going))
                (begins (moment_for c.args.moment) slots a b s d c.in_ok-pass_time.ensures.passes signals c.in_ok-let_go_of_conns.ensures.gone).made (subst (λ (x : Bool). Hears known config [] (last_if x) (hearing (standing c.args.self.now.edition.stop_ms store now d) (g.K.Sink.seen c.args.out.now) c.args.self.now.written)
                (hearing (standing c.heed.new.self.edition.stop_ms renewed read e) (g.K.Sink.seen c.heed.new.out) c.heed.new.self.written)) c.if-asked.false c.in_ok-asked.ensures.heard)),
          ) in
          passed c.from_residual-in_err-start_children.result c.in_err-start_children.field-0.0 _ _ c.from_residual-in_err-start_children.ensures.1 until;
      wakes = c.heed.ensures.wakes;
      step = passed c.from_residual-in_err-start_children.result c.in_err-start_children.field-0.0 _ _ c.from_residual-in_err-start_children.ensures.1 tt;
      ends = passed c.from_residual-in_err-start_children.result c.in_err-start_children.field-0.0 _ _ c.from_residual-in_err-start_children.ensures.1 tt;
      unheeded = on-err c.from_residual-in_err-start_children.result _ (c.in_ok-asked.ensures.none c.if-asked.false).0;
      follows = c.heed.ensures.follows;
      front = only-reads now.told read.told c.heed.ensures.front;
      watched =
          λ past before. watched-as read.told e h (nobody-more e f h (nobody-retired e f c.retire_all.ensures.retires) (nobody-started f h c.start_children.ensures.starts)) (c.start_children.ensures.rest.accepted ∙ c.retire_all.ensures.rest.accepted) past
          (c.heed.ensures.watched past (watched-as now.told a d none_taken (c.let_go_of_conns.ensures.rest.accepted ∙ c.signal_all.ensures.rest.accepted ∙ c.pass_time.ensures.taken) past before));
      listens = step-listens read.told h.state (step-kept read.told e.state h.state (c.start_children.ensures.rest.accepted ∙ c.retire_all.ensures.rest.accepted) (c.start_children.ensures.going ∙ c.retire_all.ensures.going) c.heed.ensures.step);
      links = on-err c.from_residual-in_err-start_children.result _ (hands-step read.told h.state (step-kept read.told e.state h.state (c.start_children.ensures.rest.accepted ∙ c.retire_all.ensures.rest.accepted) (c.start_children.ensures.going ∙ c.retire_all.ensures.going) c.heed.ensures.step));
      ready = ap (λ (l : _). l.ready) c.heed.ensures.others;
      config = ap (λ (l : _). l.config) c.heed.ensures.others;
      err = search rules;
    }

pub in_err-take_all : goal.returns-in_err-take_all
in_err-take_all g c =
    let known = g.N.Known.known in
    let config = c.args.self.now.config in
    let steps = c.passes_act_in_steps.ensures.acts in
    let slots = c.args.self.now.ready in
    let now = g.F.Front.seen c.args.front.now in
    let read = g.F.Front.seen c.heed.new.front in
    let new = g.F.Front.seen c.take_all.new.front in
    let store = g.D.Store.seen c.args.store.now in
    let renewed = g.D.Store.seen c.heed.new.store in
    let a = c.args.self.now.board.book in
    let b = c.pass_time.new.board.book in
    let s = c.signal_all.new.board.book in
    let d = c.let_go_of_conns.new.board.book in
    let e = c.heed.new.self.board.book in
    let f = c.retire_all.new.board.book in
    let h = c.start_children.new.board.book in
    let i = c.take_all.new.self.board.book in
    let signals = subst (λ (xs : List ℕ). Acts 0 (signal_events b xs) None b s) c.slots.ensures.is c.in_ok-signal_all.ensures.signals in
    let orders_off = orderless-before steps (moment_for c.args.moment) slots a b s d c.in_ok-pass_time.ensures.passes signals c.in_ok-let_go_of_conns.ensures.gone in
    let none_taken = nobody-before-orders a b s d (moment_for c.args.moment) slots c.in_ok-pass_time.ensures.passes signals c.in_ok-let_go_of_conns.ensures.gone in
    let timely : StaysTimely a d = λ first. c.let_go_of_conns.ensures.timely (c.signal_all.ensures.timely (c.pass_time.ensures.timely first)) in
    let done : DoesAsked [] now.told read.told d e =
    subst (λ (stops : Bool). DoesAsked (stop_if stops) now.told read.told d e) c.if-asked.false c.in_ok-asked.ensures.asks in
    record {
      round = passed c.from_residual-in_err-take_all.result c.in_err-take_all.field-0.0 _ _ c.from_residual-in_err-take_all.ensures.1 tt;
      broken =
          let broken : BreaksOff c.in_err-take_all.field-0.0 (moment_for c.args.moment) slots a i =
          breaks-behind steps c.in_err-take_all.field-0.0 (moment_for c.args.moment) slots a b s d e f h c.in_err-take_all.ensures.until.book i
          c.in_ok-pass_time.ensures.passes (signals-all slots b s signals) c.in_ok-let_go_of_conns.ensures.gone c.in_ok-asked.ensures.does c.retire_all.ensures.retires c.start_children.ensures.starts c.in_err-take_all.ensures.until.takes (inr c.in_err-take_all.ensures.until.last) in
          passed c.from_residual-in_err-take_all.result c.in_err-take_all.field-0.0 _ _ c.from_residual-in_err-take_all.ensures.1 broken;
      share =
          let cut : CutsShare c.args.moment slots now.told new.told a i =
          cuts-taken c.args.moment slots now.told read.told new.told a d e f h i
          (begins (moment_for c.args.moment) slots a b s d c.in_ok-pass_time.ensures.passes signals c.in_ok-let_go_of_conns.ensures.gone)
          done c.heed.ensures.front c.retire_all.ensures.retires c.start_children.ensures.starts c.in_err-take_all.ensures.cut c.take_all.ensures.front in
          passed c.from_residual-in_err-take_all.result c.in_err-take_all.field-0.0 _ _ c.from_residual-in_err-take_all.ensures.1 cut;
      hushes = passed c.from_residual-in_err-take_all.result c.in_err-take_all.field-0.0 _ _ c.from_residual-in_err-take_all.ensures.1 tt;
      timely = λ first. c.take_all.ensures.timely (c.start_children.ensures.starts.timely (c.retire_all.ensures.retires.timely (c.heed.ensures.timely (timely first))));
      goes_on = passed c.from_residual-in_err-take_all.result c.in_err-take_all.field-0.0 _ _ c.from_residual-in_err-take_all.ensures.1 tt;
      before =
          on-err c.from_residual-in_err-take_all.result _
          (end-same h.state i.state c.take_all.ensures.going c.take_all.ensures.children
          (c.start_children.ensures.before (sym c.is_gone.ensures.end ∙ c.if-is_gone.false)));
      stands =
          let broken : StandsBroken known config (standing c.args.self.now.edition.stop_ms store now a) (standing c.take_all.new.self.edition.stop_ms renewed new i) =
          broken-after known config (standing c.args.self.now.edition.stop_ms store now a) c.heed.new.self.edition.stop_ms c.take_all.new.self.edition.stop_ms renewed read new e i
          (orderless-more steps e h i (orderless-children steps e f h c.retire_all.ensures.retires c.start_children.ensures.starts) (orderless-takes_until steps c.in_err-take_all.field-0.0 h i c.in_err-take_all.ensures.until)) (c.take_all.ensures.going ∙ (c.start_children.ensures.going ∙ c.retire_all.ensures.going)) (ap (λ (e : LoadedEdition). e.stop_ms) c.take_all.ensures.edition) (lines-taken read new c.take_all.ensures.follows)
          (stands-orders known config _ false c.args.self.now.edition.stop_ms store now a d (standing c.heed.new.self.edition.stop_ms renewed read e) c.if-asked.false
          orders_off (c.let_go_of_conns.ensures.rest.going ∙ c.signal_all.ensures.rest.going ∙ c.pass_time.ensures.going) timely c.in_ok-asked.ensures.stands) in
          passed c.from_residual-in_err-take_all.result c.in_err-take_all.field-0.0 _ _ c.from_residual-in_err-take_all.ensures.1 broken;
      knows = passed c.from_residual-in_err-take_all.result c.in_err-take_all.field-0.0 _ _ c.from_residual-in_err-take_all.ensures.1 tt;
      serves = passed c.from_residual-in_err-take_all.result c.in_err-take_all.field-0.0 _ _ c.from_residual-in_err-take_all.ensures.1 tt;
      up = ap is_halted c.take_all.ensures.going ∙ ap is_halted (c.start_children.ensures.going ∙ c.retire_all.ensures.going) ∙ c.heed.ensures.up;
      moment = passed c.from_residual-in_err-take_all.result c.in_err-take_all.field-0.0 _ _ c.from_residual-in_err-take_all.ensures.1 tt;
      stays = on-err c.from_residual-in_err-take_all.result _ (moment-passed c.args.self.now.board.book.state c.take_all.new.self.board.book.state (moment_for c.args.moment) (c.take_all.ensures.moment ∙ c.start_children.ensures.rest.moment ∙ c.retire_all.ensures.rest.moment ∙ c.heed.ensures.moment ∙ c.let_go_of_conns.ensures.rest.moment ∙ c.signal_all.ensures.rest.moment ∙ c.in_ok-pass_time.ensures.moment));
      counts =
          let until : CountsUntil now.counts new.counts a i =
          counts-until now.counts read.counts new.counts a h i (counts-more 0 now.counts read.counts read.counts a e h
          (counts-more 0 now.counts now.counts read.counts a d e (counts-orderless now.counts now.counts a d refl orders_off (c.let_go_of_conns.ensures.rest.going ∙ c.signal_all.ensures.rest.going ∙ c.pass_time.ensures.going) (c.let_go_of_conns.ensures.rest.accepted ∙ c.signal_all.ensures.rest.accepted ∙ c.pass_time.ensures.taken))
          (subst (λ (b : Bool). CountsOn (owed_by b) now.counts read.counts d e) c.if-asked.false c.in_ok-asked.ensures.counts))
          (counts-orderless read.counts read.counts e h refl (orderless-children steps e f h c.retire_all.ensures.retires c.start_children.ensures.starts) (c.start_children.ensures.going ∙ c.retire_all.ensures.going) (c.start_children.ensures.rest.accepted ∙ c.retire_all.ensures.rest.accepted)))
          c.in_err-take_all.ensures.counts in
          passed c.from_residual-in_err-take_all.result c.in_err-take_all.field-0.0 _ _ c.from_residual-in_err-take_all.ensures.1 until;
      heard =
          let until : HearsUntil known config (made_first c.args.moment slots a) (hearing (standing c.args.self.now.edition.stop_ms store now a) (g.K.Sink.seen c.args.out.now) c.args.self.now.written)
          (hearing (standing c.take_all.new.self.edition.stop_ms renewed new i) (g.K.Sink.seen c.heed.new.out) c.take_all.new.self.written) = (
            None,
            tt,
            (subst (λ (w : Bool). Hears known config (made_first c.args.moment slots a) None (hearing (standing c.args.self.now.edition.stop_ms store now a) (g.K.Sink.seen c.args.out.now) c.args.self.now.written)
                (hearing (standing c.take_all.new.self.edition.stop_ms renewed new i) (g.K.Sink.seen c.heed.new.out) w)) (sym c.take_all.ensures.written)
                (hears-kept known config (made_first c.args.moment slots a) (hearing (standing c.args.self.now.edition.stop_ms store now a) (g.K.Sink.seen c.args.out.now) c.args.self.now.written)
                (standing c.heed.new.self.edition.stop_ms renewed read e) (standing c.take_all.new.self.edition.stop_ms renewed new i) (g.K.Sink.seen c.heed.new.out)
                c.heed.new.self.written (orderless-more steps e h i (orderless-children steps e f h c.retire_all.ensures.retires c.start_children.ensures.starts) (orderless-takes_until steps c.in_err-take_all.field-0.0 h i c.in_err-take_all.ensures.until)) c.take_all.ensures.heard
                (hears-before known config (made_first c.args.moment slots a) None c.args.self.now.edition.stop_ms store now a d (g.K.Sink.seen c.args.out.now) c.args.self.now.written
                (hearing (standing c.heed.new.self.edition.stop_ms renewed read e) (g.K.Sink.seen c.heed.new.out) c.heed.new.self.written) orders_off timely
                (stands-orderless known config c.args.self.now.edition.stop_ms store now a d orders_off (c.let_go_of_conns.ensures.rest.going ∙ c.signal_all.ensures.rest.going ∙ c.pass_time.ensures.going))
                (begins (moment_for c.args.moment) slots a b s d c.in_ok-pass_time.ensures.passes signals c.in_ok-let_go_of_conns.ensures.gone).made (subst (λ (x : Bool). Hears known config [] (last_if x) (hearing (standing c.args.self.now.edition.stop_ms store now d) (g.K.Sink.seen c.args.out.now) c.args.self.now.written)
                (hearing (standing c.heed.new.self.edition.stop_ms renewed read e) (g.K.Sink.seen c.heed.new.out) c.heed.new.self.written)) c.if-asked.false c.in_ok-asked.ensures.heard)))),
          ) in
          passed c.from_residual-in_err-take_all.result c.in_err-take_all.field-0.0 _ _ c.from_residual-in_err-take_all.ensures.1 until;
      wakes = c.take_all.ensures.wakes ∙ c.heed.ensures.wakes;
      step = passed c.from_residual-in_err-take_all.result c.in_err-take_all.field-0.0 _ _ c.from_residual-in_err-take_all.ensures.1 tt;
      ends = passed c.from_residual-in_err-take_all.result c.in_err-take_all.field-0.0 _ _ c.from_residual-in_err-take_all.ensures.1 tt;
      unheeded = on-err c.from_residual-in_err-take_all.result _ (heeded-takes read.told new.told c.take_all.ensures.front (c.in_ok-asked.ensures.none c.if-asked.false).0);
      follows = follows-trans now read new c.heed.ensures.follows c.take_all.ensures.follows;
      front = both-only now.told read.told new.told c.heed.ensures.front c.take_all.ensures.front;
      watched =
          λ past before. c.take_all.ensures.watched past
          (watched-as read.told e h (nobody-more e f h (nobody-retired e f c.retire_all.ensures.retires) (nobody-started f h c.start_children.ensures.starts)) (c.start_children.ensures.rest.accepted ∙ c.retire_all.ensures.rest.accepted) past
          (c.heed.ensures.watched past (watched-as now.told a d none_taken (c.let_go_of_conns.ensures.rest.accepted ∙ c.signal_all.ensures.rest.accepted ∙ c.pass_time.ensures.taken) past before)));
      listens = listens-takes read.told new.told h.state i.state c.take_all.ensures.front c.take_all.ensures.going (step-listens read.told h.state (step-kept read.told e.state h.state (c.start_children.ensures.rest.accepted ∙ c.retire_all.ensures.rest.accepted) (c.start_children.ensures.going ∙ c.retire_all.ensures.going) c.heed.ensures.step));
      links = on-err c.from_residual-in_err-take_all.result _ c.in_err-take_all.ensures.links;
      ready = c.take_all.ensures.ready ∙ ap (λ (l : _). l.ready) c.heed.ensures.others;
      config = c.take_all.ensures.config ∙ ap (λ (l : _). l.config) c.heed.ensures.others;
      err = search rules;
    }
