-- What each line leaves to the next one, and where the lines are broken off.
use Rattle.std.proofs.Common.{◌≡◌, Bool, IfSome, List, [], None, Some, ℕ, ap, refl, rules, subst, sym, ◌∙◌}
use Rattle.mpm_base.specs.CommandWord.{command_word}
use Rattle.mpm_base.specs.Front.{Commands, FrontSeen}
use Rattle.mpm_base.specs.declared.script_line.CommandWord.TheVariants as word
use Rattle.command_answers.specs.Answers.{ending_answer, status_answer}
use Rattle.conn_machine.specs.Shown.{totals_of}
use Rattle.conn_machine.specs.States.{is_halted, is_serving}
use Rattle.listener_round.specs.CountedInside.{CountsUntil}
use Rattle.listener_round.specs.FrontInside.{HasNoneToHeed}
use Rattle.listener_round.specs.HeardInside.{Hears, hearing}
use Rattle.listener_round.specs.OrdersInside.{AnswersRestart, ServesNewest}
use Rattle.listener_round.specs.StandingInside.{StandsBroken, standing}
use Rattle.listener_round.specs.declared.edition.LoadedEdition.{LoadedEdition}
use Rattle.listener_round.specs.declared.edition.NamedConfig.{NamedConfig}
use Rattle.listener_round.proofs.AnswerLemmas.{counts-mid, heeded-mid, none-answered, step-answered, wakes-answered}
use Rattle.listener_round.proofs.CountedLemmas.{alike-same, counts-alike, counts-ended, counts-more, counts-restarted, counts-unended, counts-unrestarted, counts-until, may-wakes, same-dropped, same-may}
use Rattle.listener_round.proofs.FrontLemmas.{step-kept}
use Rattle.listener_round.proofs.HeedLemmas.{HasHeeded, changed, ending-other, graceful-other, heeded-dropped, heeded-ended, heeded-may, heeded-more, heeded-restarted, idle-other, knows-kept, none-stops, serves-kept, step-line}
use Rattle.listener_round.proofs.LineHearsLemmas.{hears-ending, hears-restart, hears-state, hears-unknown}
use Rattle.listener_round.proofs.LineLemmas.{IsIdle, idle-status, idle-unknown}
use Rattle.listener_round.proofs.RestartLemmas.{knows-as}
use Rattle.listener_round.proofs.StandingLemmas.{broken-behind}
use Rattle.listener_round.proofs.listener_state.Listener.heed.Goals as goal

pub loop-preserved-in-Ok-Graceful : goal.loop-preserved-in-Ok-Graceful
loop-preserved-in-Ok-Graceful g c =
    let next = c.in-Some-next_line.ensures in
    let heeded =
    heeded-mid c.passes_act_in_steps.ensures.acts g.N.Known.known c.args.self.now.config c.args.self.now.edition.stop_ms c.loop.self.edition.stop_ms
    (g.D.Store.seen c.args.store.now) (g.D.Store.seen c.loop.store) c.loop.answer (g.F.Front.seen c.args.front.now) (g.F.Front.seen c.loop.front) next.0 c.args.self.now.board.book
    c.loop.self.board.book c.loop.invariant.heeded next.1 in
    let counts =
    counts-mid c.loop.answer (g.F.Front.seen c.args.front.now) (g.F.Front.seen c.loop.front) next.0 c.args.self.now.board.book c.loop.self.board.book c.loop.invariant.counts next.1 in
    let wakes = wakes-answered c.loop.answer (g.F.Front.seen c.loop.front) next.0 next.1 ∙ c.loop.invariant.wakes in
    let step = step-answered c.loop.answer (g.F.Front.seen c.loop.front) next.0 c.loop.self.board.book.state next.1 c.loop.invariant.step in
    let none = none-answered c.loop.answer (g.F.Front.seen c.loop.front) next.0 next.1 c.loop.invariant.none in
    let is : c.in-Some-next_line.line ≡ command_word word.Graceful = search rules in
    let before = c.loop.invariant in
    let restarted = c.in_ok-restart-in-Ok-Graceful.ensures in
    let kept : c.restart.new.self.written ≡ c.loop.self.written = ap (λ (l : _). l.written) c.restart.ensures.others in
    let others : record c.loop.self { board = c.restart.new.self.board; edition = c.restart.new.self.edition }
    ≡ record c.args.self.now { board = c.restart.new.self.board; edition = c.restart.new.self.edition; written = c.loop.self.written } =
    changed before.others (λ l. record l { board = c.restart.new.self.board; edition = c.restart.new.self.edition }) in
    record {
      heeded =
          heeded-more c.passes_act_in_steps.ensures.acts g.N.Known.known c.args.self.now.config c.args.self.now.edition.stop_ms
          c.loop.self.edition.stop_ms c.restart.new.self.edition.stop_ms (g.D.Store.seen c.args.store.now) (g.D.Store.seen c.loop.store)
          (g.D.Store.seen c.restart.new.store) (g.F.Front.seen c.args.front.now) next.0 (g.F.Front.seen c.next_line.new.front)
          c.args.self.now.board.book c.loop.self.board.book c.restart.new.self.board.book heeded
          (subst (λ (x : NamedConfig). HasHeeded g.N.Known.known x c.loop.self.edition.stop_ms c.restart.new.self.edition.stop_ms
          (g.D.Store.seen c.loop.store) (g.D.Store.seen c.restart.new.store) next.0 (g.F.Front.seen c.next_line.new.front)
          c.loop.self.board.book c.restart.new.self.board.book) (ap (λ (l : _). l.config) before.others)
          (heeded-restarted g.N.Known.known c.loop.self.config c.loop.self.edition.stop_ms c.restart.new.self.edition.stop_ms
          (g.D.Store.seen c.loop.store) (g.D.Store.seen c.restart.new.store) next.0 (g.F.Front.seen c.next_line.new.front)
          c.loop.self.board.book c.restart.new.self.board.book c.in-Some-next_line.line is next.2
          restarted.does restarted.makes c.restart.ensures.timely c.restart.ensures.in_time restarted.stands c.restart.ensures.moment c.restart.ensures.accepted));
      counts =
          counts-more 0 (g.F.Front.seen c.args.front.now).counts next.0.counts (g.F.Front.seen c.next_line.new.front).counts c.args.self.now.board.book c.loop.self.board.book
          c.restart.new.self.board.book counts
          (counts-restarted next.0 (g.F.Front.seen c.next_line.new.front) c.loop.self.board.book c.restart.new.self.board.book
          c.in-Some-next_line.line next.2 is restarted.orders c.restart.ensures.going c.restart.ensures.accepted);
      wakes = next.2.wakes ∙ wakes;
      knows = restarted.knows;
      serves = c.restart.ensures.serves;
      up = ap is_halted c.restart.ensures.going ∙ before.up;
      step =
          step-kept (g.F.Front.seen c.next_line.new.front).told c.loop.self.board.book.state c.restart.new.self.board.book.state
          c.restart.ensures.accepted c.restart.ensures.going
          (step-line next.0 (g.F.Front.seen c.next_line.new.front) c.in-Some-next_line.line c.loop.self.board.book.state
          next.2 step);
      none = none-stops next.0 (g.F.Front.seen c.next_line.new.front) c.in-Some-next_line.line next.2
          (graceful-other c.in-Some-next_line.line is) none;
      hears =
          λ f given.
          subst (λ (w : Bool). Hears g.N.Known.known c.args.self.now.config [] None
          (hearing (standing c.args.self.now.edition.stop_ms (g.D.Store.seen c.args.store.now) (g.F.Front.seen c.args.front.now) c.args.self.now.board.book)
          (g.K.Sink.seen c.args.out.now) c.args.self.now.written)
          (hearing (standing c.restart.new.self.edition.stop_ms (g.D.Store.seen c.restart.new.store) f c.restart.new.self.board.book)
          (g.K.Sink.seen c.loop.out) w)) (sym kept)
          (hears-restart g.N.Known.known c.args.self.now.config c.args.self.now.edition.stop_ms c.loop.self.edition.stop_ms (g.D.Store.seen c.args.store.now)
          (g.D.Store.seen c.loop.store) (g.F.Front.seen c.args.front.now) next.0 c.args.self.now.board.book c.loop.self.board.book (g.K.Sink.seen c.args.out.now)
          (g.K.Sink.seen c.loop.out) c.args.self.now.written c.loop.self.written heeded (c.loop.invariant.hears next.0 next.1)
          (standing c.restart.new.self.edition.stop_ms (g.D.Store.seen c.restart.new.store) f c.restart.new.self.board.book)
          (g.F.Front.seen c.next_line.new.front) c.in-Some-next_line.line c.in_ok-restart-in-Ok-Graceful.field-0 c.show.ensures.after is next.2
          given (subst (λ (x : NamedConfig). AnswersRestart x (g.D.Store.seen c.loop.store) c.loop.self.board.book c.restart.new.self.board.book
          c.in_ok-restart-in-Ok-Graceful.field-0)
          (ap (λ (l : _). l.config) before.others) restarted.answers));
      others =
          c.restart.ensures.others ∙ others
          ∙ ap (λ (w : Bool). record c.args.self.now { board = c.restart.new.self.board; edition = c.restart.new.self.edition; written = w }) (sym kept);
    }

pub returns-in_err-restart-in-Ok-Graceful-clause-stands : goal.returns-in_err-restart-in-Ok-Graceful-clause-stands
returns-in_err-restart-in-Ok-Graceful-clause-stands g c =
    let next = c.in-Some-next_line.ensures in
    let heeded =
    heeded-mid c.passes_act_in_steps.ensures.acts g.N.Known.known c.args.self.now.config c.args.self.now.edition.stop_ms c.loop.self.edition.stop_ms
    (g.D.Store.seen c.args.store.now) (g.D.Store.seen c.loop.store) c.loop.answer (g.F.Front.seen c.args.front.now) (g.F.Front.seen c.loop.front) next.0 c.args.self.now.board.book
    c.loop.self.board.book c.loop.invariant.heeded next.1 in
    let is : c.in-Some-next_line.line ≡ command_word word.Graceful = search rules in
    let before = c.loop.invariant in
    let broken : StandsBroken g.N.Known.known c.args.self.now.config
    (standing c.args.self.now.edition.stop_ms (g.D.Store.seen c.args.store.now) (g.F.Front.seen c.args.front.now) c.args.self.now.board.book)
    (standing c.restart.new.self.edition.stop_ms (g.D.Store.seen c.restart.new.store) (g.F.Front.seen c.next_line.new.front)
    c.restart.new.self.board.book) =
    broken-behind g.N.Known.known c.args.self.now.config
    (standing c.args.self.now.edition.stop_ms (g.D.Store.seen c.args.store.now) (g.F.Front.seen c.args.front.now) c.args.self.now.board.book)
    (standing c.loop.self.edition.stop_ms (g.D.Store.seen c.loop.store) next.0 c.loop.self.board.book)
    (standing c.restart.new.self.edition.stop_ms (g.D.Store.seen c.restart.new.store) (g.F.Front.seen c.next_line.new.front)
    c.restart.new.self.board.book) heeded.stands heeded.timely
    (subst (λ (x : NamedConfig). StandsBroken g.N.Known.known x
    (standing c.loop.self.edition.stop_ms (g.D.Store.seen c.loop.store) next.0 c.loop.self.board.book)
    (standing c.restart.new.self.edition.stop_ms (g.D.Store.seen c.restart.new.store) (g.F.Front.seen c.next_line.new.front)
    c.restart.new.self.board.book))
    (ap (λ (l : _). l.config) before.others)
    (c.in_err-restart-in-Ok-Graceful.ensures.broken next.0 (g.F.Front.seen c.next_line.new.front)
    (subst (λ (l : List ℕ). Commands next.0 (g.F.Front.seen c.next_line.new.front) (Some l)) is
    next.2))) in
    search (rules, broken)

pub returns-in_err-restart-in-Ok-Graceful-clause-counts : goal.returns-in_err-restart-in-Ok-Graceful-clause-counts
returns-in_err-restart-in-Ok-Graceful-clause-counts g c =
    let next = c.in-Some-next_line.ensures in
    let counts =
    counts-mid c.loop.answer (g.F.Front.seen c.args.front.now) (g.F.Front.seen c.loop.front) next.0 c.args.self.now.board.book c.loop.self.board.book c.loop.invariant.counts next.1 in
    let is : c.in-Some-next_line.line ≡ command_word word.Graceful = search rules in
    let until : CountsUntil (g.F.Front.seen c.args.front.now).counts (g.F.Front.seen c.next_line.new.front).counts c.args.self.now.board.book c.restart.new.self.board.book =
    counts-until (g.F.Front.seen c.args.front.now).counts next.0.counts (g.F.Front.seen c.next_line.new.front).counts c.args.self.now.board.book c.loop.self.board.book
    c.restart.new.self.board.book counts
    (counts-unrestarted next.0 (g.F.Front.seen c.next_line.new.front) c.loop.self.board.book c.restart.new.self.board.book
    c.in-Some-next_line.line next.2 is (ap (λ (l : _). l.board.book) c.in_err-restart-in-Ok-Graceful.ensures.same)) in
    search (rules, until)

pub returns-in_err-restart-in-Ok-Graceful-clause-unheeded : goal.returns-in_err-restart-in-Ok-Graceful-clause-unheeded
returns-in_err-restart-in-Ok-Graceful-clause-unheeded g c =
    let next = c.in-Some-next_line.ensures in
    let none = none-answered c.loop.answer (g.F.Front.seen c.loop.front) next.0 next.1 c.loop.invariant.none in
    let is : c.in-Some-next_line.line ≡ command_word word.Graceful = search rules in
    let unheeded : IfSome (g.F.Front.seen c.next_line.new.front).told HasNoneToHeed =
    none-stops next.0 (g.F.Front.seen c.next_line.new.front) c.in-Some-next_line.line next.2
    (graceful-other c.in-Some-next_line.line is) none in
    search (rules, unheeded)

pub loop-preserved-in-Ok-GracefulStop : goal.loop-preserved-in-Ok-GracefulStop
loop-preserved-in-Ok-GracefulStop g c =
    let next = c.in-Some-next_line.ensures in
    let heeded =
    heeded-mid c.passes_act_in_steps.ensures.acts g.N.Known.known c.args.self.now.config c.args.self.now.edition.stop_ms c.loop.self.edition.stop_ms
    (g.D.Store.seen c.args.store.now) (g.D.Store.seen c.loop.store) c.loop.answer (g.F.Front.seen c.args.front.now) (g.F.Front.seen c.loop.front) next.0 c.args.self.now.board.book
    c.loop.self.board.book c.loop.invariant.heeded next.1 in
    let counts =
    counts-mid c.loop.answer (g.F.Front.seen c.args.front.now) (g.F.Front.seen c.loop.front) next.0 c.args.self.now.board.book c.loop.self.board.book c.loop.invariant.counts next.1 in
    let wakes = wakes-answered c.loop.answer (g.F.Front.seen c.loop.front) next.0 next.1 ∙ c.loop.invariant.wakes in
    let step = step-answered c.loop.answer (g.F.Front.seen c.loop.front) next.0 c.loop.self.board.book.state next.1 c.loop.invariant.step in
    let none = none-answered c.loop.answer (g.F.Front.seen c.loop.front) next.0 next.1 c.loop.invariant.none in
    let is : c.in-Some-next_line.line ≡ command_word word.GracefulStop = search rules in
    let before = c.loop.invariant in
    let ended = c.in_ok-end-in-Ok-GracefulStop.ensures in
    let same : c.end.new.self.edition ≡ c.loop.self.edition = ap (λ (l : _). l.edition) c.end.ensures.others in
    let kept : c.end.new.self.written ≡ c.loop.self.written = ap (λ (l : _). l.written) c.end.ensures.others in
    let others : record c.loop.self { board = c.end.new.self.board }
    ≡ record c.args.self.now { board = c.end.new.self.board; edition = c.loop.self.edition; written = c.loop.self.written } =
    changed before.others (λ l. record l { board = c.end.new.self.board }) in
    record {
      heeded =
          heeded-more c.passes_act_in_steps.ensures.acts g.N.Known.known c.args.self.now.config c.args.self.now.edition.stop_ms
          c.loop.self.edition.stop_ms c.end.new.self.edition.stop_ms (g.D.Store.seen c.args.store.now) (g.D.Store.seen c.loop.store)
          (g.D.Store.seen c.loop.store) (g.F.Front.seen c.args.front.now) next.0 (g.F.Front.seen c.end.new.front)
          c.args.self.now.board.book c.loop.self.board.book c.end.new.self.board.book heeded
          (subst (λ (x : LoadedEdition). HasHeeded g.N.Known.known c.args.self.now.config c.loop.self.edition.stop_ms x.stop_ms
          (g.D.Store.seen c.loop.store) (g.D.Store.seen c.loop.store) next.0 (g.F.Front.seen c.end.new.front)
          c.loop.self.board.book c.end.new.self.board.book) (sym same)
          (subst (λ (x : NamedConfig). HasHeeded g.N.Known.known x c.loop.self.edition.stop_ms c.loop.self.edition.stop_ms
          (g.D.Store.seen c.loop.store) (g.D.Store.seen c.loop.store) next.0 (g.F.Front.seen c.end.new.front)
          c.loop.self.board.book c.end.new.self.board.book) (ap (λ (l : _). l.config) before.others)
          (heeded-ended g.N.Known.known c.loop.self.config c.loop.self.edition.stop_ms (g.D.Store.seen c.loop.store) next.0
          (g.F.Front.seen c.next_line.new.front) (g.F.Front.seen c.end.new.front) c.loop.self.board.book c.end.new.self.board.book c.in-Some-next_line.line
          is next.2
          ended.does ended.makes c.end.ensures.timely c.end.ensures.in_time ended.stands ended.hushes step c.end.ensures.moment
          c.end.ensures.accepted)));
      counts =
          counts-more 0 (g.F.Front.seen c.args.front.now).counts next.0.counts (g.F.Front.seen c.end.new.front).counts c.args.self.now.board.book c.loop.self.board.book
          c.end.new.self.board.book counts
          (counts-more 0 next.0.counts (g.F.Front.seen c.next_line.new.front).counts (g.F.Front.seen c.end.new.front).counts c.loop.self.board.book c.end.new.self.board.book
          c.end.new.self.board.book
          (counts-ended next.0 (g.F.Front.seen c.next_line.new.front) c.loop.self.board.book c.end.new.self.board.book
          c.in-Some-next_line.line next.2 is c.end.ensures.orders c.end.ensures.accepted ended.ended)
          (counts-alike (g.F.Front.seen c.next_line.new.front).counts (g.F.Front.seen c.end.new.front).counts c.end.new.self.board.book c.end.new.self.board.book
          (same-may (g.F.Front.seen c.next_line.new.front) (g.F.Front.seen c.end.new.front) c.end.ensures.hushed)
          (alike-same c.end.new.self.board.book c.end.new.self.board.book refl)));
      wakes = may-wakes (g.F.Front.seen c.next_line.new.front) (g.F.Front.seen c.end.new.front) c.end.ensures.hushed
          ∙ next.2.wakes ∙ wakes;
      knows =
          knows-as g.N.Known.known c.loop.self.config c.end.new.self.config (g.D.Store.seen c.loop.store).told c.end.new.self.board.book
          (ap (λ (l : _). l.config) c.end.ensures.others)
          (knows-kept g.N.Known.known c.loop.self.config (g.D.Store.seen c.loop.store).told c.loop.self.board.book c.end.new.self.board.book
          c.end.ensures.orders before.knows);
      serves =
          subst (ServesNewest g.N.Known.known c.end.new.self.board.book) (sym same)
          (serves-kept c.generations_keep_their_editions.ensures g.N.Known.known c.loop.self.board.book c.end.new.self.board.book c.loop.self.edition
          ended.does c.end.ensures.newest before.serves);
      up = c.end.ensures.up;
      step = c.end.ensures.step;
      none = heeded-may (g.F.Front.seen c.next_line.new.front) (g.F.Front.seen c.end.new.front) c.end.ensures.hushed
          (none-stops next.0 (g.F.Front.seen c.next_line.new.front) c.in-Some-next_line.line next.2
          (ending-other c.in-Some-next_line.line is) none);
      hears =
          λ f given.
          subst (λ (w : Bool). Hears g.N.Known.known c.args.self.now.config [] None
          (hearing (standing c.args.self.now.edition.stop_ms (g.D.Store.seen c.args.store.now) (g.F.Front.seen c.args.front.now) c.args.self.now.board.book)
          (g.K.Sink.seen c.args.out.now) c.args.self.now.written)
          (hearing (standing c.end.new.self.edition.stop_ms (g.D.Store.seen c.loop.store) f c.end.new.self.board.book)
          (g.K.Sink.seen c.loop.out) w)) (sym kept)
          (hears-ending g.N.Known.known c.args.self.now.config c.args.self.now.edition.stop_ms c.loop.self.edition.stop_ms (g.D.Store.seen c.args.store.now)
          (g.D.Store.seen c.loop.store) (g.F.Front.seen c.args.front.now) next.0 c.args.self.now.board.book c.loop.self.board.book (g.K.Sink.seen c.args.out.now)
          (g.K.Sink.seen c.loop.out) c.args.self.now.written c.loop.self.written heeded (c.loop.invariant.hears next.0 next.1)
          (is_serving c.loop.self.board.book.state.going)
          (standing c.end.new.self.edition.stop_ms (g.D.Store.seen c.loop.store) f c.end.new.self.board.book)
          (g.F.Front.seen c.next_line.new.front) (g.F.Front.seen c.end.new.front) c.in-Some-next_line.line _ c.show.ensures.after is next.2
          c.end.ensures.hushed given refl (c.ending_answer.ensures ∙ ap ending_answer ended.begins) ended.acts);
      others =
          c.end.ensures.others ∙ others
          ∙ ap (λ (e : LoadedEdition). record c.args.self.now { board = c.end.new.self.board; edition = e; written = c.loop.self.written }) (sym same)
          ∙ ap (λ (w : Bool). record c.args.self.now { board = c.end.new.self.board; edition = c.end.new.self.edition; written = w }) (sym kept);
    }

pub returns-in_err-end-in-Ok-GracefulStop-clause-stands : goal.returns-in_err-end-in-Ok-GracefulStop-clause-stands
returns-in_err-end-in-Ok-GracefulStop-clause-stands g c =
    let next = c.in-Some-next_line.ensures in
    let heeded =
    heeded-mid c.passes_act_in_steps.ensures.acts g.N.Known.known c.args.self.now.config c.args.self.now.edition.stop_ms c.loop.self.edition.stop_ms
    (g.D.Store.seen c.args.store.now) (g.D.Store.seen c.loop.store) c.loop.answer (g.F.Front.seen c.args.front.now) (g.F.Front.seen c.loop.front) next.0 c.args.self.now.board.book
    c.loop.self.board.book c.loop.invariant.heeded next.1 in
    let is : c.in-Some-next_line.line ≡ command_word word.GracefulStop = search rules in
    let before = c.loop.invariant in
    let same : c.end.new.self.edition ≡ c.loop.self.edition = ap (λ (l : _). l.edition) c.end.ensures.others in
    let broken : StandsBroken g.N.Known.known c.args.self.now.config
    (standing c.args.self.now.edition.stop_ms (g.D.Store.seen c.args.store.now) (g.F.Front.seen c.args.front.now) c.args.self.now.board.book)
    (standing c.end.new.self.edition.stop_ms (g.D.Store.seen c.loop.store) (g.F.Front.seen c.end.new.front) c.end.new.self.board.book) =
    broken-behind g.N.Known.known c.args.self.now.config
    (standing c.args.self.now.edition.stop_ms (g.D.Store.seen c.args.store.now) (g.F.Front.seen c.args.front.now) c.args.self.now.board.book)
    (standing c.loop.self.edition.stop_ms (g.D.Store.seen c.loop.store) next.0 c.loop.self.board.book)
    (standing c.end.new.self.edition.stop_ms (g.D.Store.seen c.loop.store) (g.F.Front.seen c.end.new.front) c.end.new.self.board.book)
    heeded.stands heeded.timely
    (subst (λ (x : LoadedEdition). StandsBroken g.N.Known.known c.args.self.now.config
    (standing c.loop.self.edition.stop_ms (g.D.Store.seen c.loop.store) next.0 c.loop.self.board.book)
    (standing x.stop_ms (g.D.Store.seen c.loop.store) (g.F.Front.seen c.end.new.front) c.end.new.self.board.book)) (sym same)
    (subst (λ (x : NamedConfig). StandsBroken g.N.Known.known x
    (standing c.loop.self.edition.stop_ms (g.D.Store.seen c.loop.store) next.0 c.loop.self.board.book)
    (standing c.loop.self.edition.stop_ms (g.D.Store.seen c.loop.store) (g.F.Front.seen c.end.new.front) c.end.new.self.board.book))
    (ap (λ (l : _). l.config) before.others)
    (c.in_err-end-in-Ok-GracefulStop.ensures.broken next.0 (g.D.Store.seen c.loop.store)
    (subst (λ (l : List ℕ). Commands next.0 (g.F.Front.seen c.next_line.new.front) (Some l)) is
    next.2)))) in
    search (rules, broken)

pub returns-in_err-end-in-Ok-GracefulStop-clause-counts : goal.returns-in_err-end-in-Ok-GracefulStop-clause-counts
returns-in_err-end-in-Ok-GracefulStop-clause-counts g c =
    let next = c.in-Some-next_line.ensures in
    let counts =
    counts-mid c.loop.answer (g.F.Front.seen c.args.front.now) (g.F.Front.seen c.loop.front) next.0 c.args.self.now.board.book c.loop.self.board.book c.loop.invariant.counts next.1 in
    let is : c.in-Some-next_line.line ≡ command_word word.GracefulStop = search rules in
    let until : CountsUntil (g.F.Front.seen c.args.front.now).counts (g.F.Front.seen c.end.new.front).counts c.args.self.now.board.book c.end.new.self.board.book =
    counts-until (g.F.Front.seen c.args.front.now).counts next.0.counts (g.F.Front.seen c.end.new.front).counts
    c.args.self.now.board.book c.loop.self.board.book c.end.new.self.board.book counts
    (subst (λ (f : FrontSeen). CountsUntil next.0.counts f.counts c.loop.self.board.book c.end.new.self.board.book)
    (sym c.in_err-end-in-Ok-GracefulStop.ensures.kept)
    (counts-unended next.0 (g.F.Front.seen c.next_line.new.front) c.loop.self.board.book c.end.new.self.board.book
    c.in-Some-next_line.line next.2 is (ap (λ (l : _). l.board.book) c.in_err-end-in-Ok-GracefulStop.ensures.same)
    c.in_err-end-in-Ok-GracefulStop.ensures.serving)) in
    search (rules, until)

pub returns-in_err-end-in-Ok-GracefulStop-clause-unheeded : goal.returns-in_err-end-in-Ok-GracefulStop-clause-unheeded
returns-in_err-end-in-Ok-GracefulStop-clause-unheeded g c =
    let next = c.in-Some-next_line.ensures in
    let none = none-answered c.loop.answer (g.F.Front.seen c.loop.front) next.0 next.1 c.loop.invariant.none in
    let is : c.in-Some-next_line.line ≡ command_word word.GracefulStop = search rules in
    let unheeded : IfSome (g.F.Front.seen c.end.new.front).told HasNoneToHeed =
    heeded-may (g.F.Front.seen c.next_line.new.front) (g.F.Front.seen c.end.new.front) c.end.ensures.hushed
    (none-stops next.0 (g.F.Front.seen c.next_line.new.front) c.in-Some-next_line.line next.2
    (ending-other c.in-Some-next_line.line is) none) in
    search (rules, unheeded)

pub loop-preserved-in-Ok-Status : goal.loop-preserved-in-Ok-Status
loop-preserved-in-Ok-Status g c =
    let next = c.in-Some-next_line.ensures in
    let heeded =
    heeded-mid c.passes_act_in_steps.ensures.acts g.N.Known.known c.args.self.now.config c.args.self.now.edition.stop_ms c.loop.self.edition.stop_ms
    (g.D.Store.seen c.args.store.now) (g.D.Store.seen c.loop.store) c.loop.answer (g.F.Front.seen c.args.front.now) (g.F.Front.seen c.loop.front) next.0 c.args.self.now.board.book
    c.loop.self.board.book c.loop.invariant.heeded next.1 in
    let counts =
    counts-mid c.loop.answer (g.F.Front.seen c.args.front.now) (g.F.Front.seen c.loop.front) next.0 c.args.self.now.board.book c.loop.self.board.book c.loop.invariant.counts next.1 in
    let wakes = wakes-answered c.loop.answer (g.F.Front.seen c.loop.front) next.0 next.1 ∙ c.loop.invariant.wakes in
    let step = step-answered c.loop.answer (g.F.Front.seen c.loop.front) next.0 c.loop.self.board.book.state next.1 c.loop.invariant.step in
    let none = none-answered c.loop.answer (g.F.Front.seen c.loop.front) next.0 next.1 c.loop.invariant.none in
    let before = c.loop.invariant in
    let is : c.in-Some-next_line.line ≡ command_word word.Status = search rules in
    let idle = idle-status c.in-Some-next_line.line is in
    let told = c.tell_state-whole.ensures.answers in
    let answer = status_answer (totals_of c.loop.self.board.book.state) in
    record {
      heeded =
          heeded-mid c.passes_act_in_steps.ensures.acts g.N.Known.known c.args.self.now.config c.args.self.now.edition.stop_ms
          c.loop.self.edition.stop_ms (g.D.Store.seen c.args.store.now) (g.D.Store.seen c.loop.store) (Some answer)
          (g.F.Front.seen c.args.front.now) (g.F.Front.seen c.next_line.new.front) (g.F.Front.seen c.tell_state-whole.new.front) c.args.self.now.board.book c.loop.self.board.book
          (heeded-more c.passes_act_in_steps.ensures.acts g.N.Known.known c.args.self.now.config c.args.self.now.edition.stop_ms
          c.loop.self.edition.stop_ms c.loop.self.edition.stop_ms (g.D.Store.seen c.args.store.now) (g.D.Store.seen c.loop.store)
          (g.D.Store.seen c.loop.store) (g.F.Front.seen c.args.front.now) next.0 (g.F.Front.seen c.next_line.new.front)
          c.args.self.now.board.book c.loop.self.board.book c.loop.self.board.book heeded
          (heeded-dropped c.passes_act_in_steps.ensures.acts g.N.Known.known c.args.self.now.config c.loop.self.edition.stop_ms
          (g.D.Store.seen c.loop.store) next.0 (g.F.Front.seen c.next_line.new.front) c.loop.self.board.book
          c.in-Some-next_line.line heeded.does.acts.row heeded.in_time idle next.2)) told;
      counts =
          counts-mid (Some answer) (g.F.Front.seen c.args.front.now) (g.F.Front.seen c.next_line.new.front) (g.F.Front.seen c.tell_state-whole.new.front) c.args.self.now.board.book c.loop.self.board.book
          (counts-more 0 (g.F.Front.seen c.args.front.now).counts next.0.counts (g.F.Front.seen c.next_line.new.front).counts c.args.self.now.board.book c.loop.self.board.book c.loop.self.board.book
          counts
          (counts-alike next.0.counts (g.F.Front.seen c.next_line.new.front).counts c.loop.self.board.book c.loop.self.board.book
          (same-dropped next.0 (g.F.Front.seen c.next_line.new.front) c.in-Some-next_line.line idle
          next.2) (alike-same c.loop.self.board.book c.loop.self.board.book refl))) told;
      wakes = wakes-answered (Some answer) (g.F.Front.seen c.next_line.new.front) (g.F.Front.seen c.tell_state-whole.new.front) told ∙ next.2.wakes ∙ wakes;
      knows = before.knows;
      serves = before.serves;
      up = before.up;
      step = step-answered (Some answer) (g.F.Front.seen c.next_line.new.front) (g.F.Front.seen c.tell_state-whole.new.front) c.loop.self.board.book.state told
          (step-line next.0 (g.F.Front.seen c.next_line.new.front) c.in-Some-next_line.line c.loop.self.board.book.state
          next.2 step);
      none = none-answered (Some answer) (g.F.Front.seen c.next_line.new.front) (g.F.Front.seen c.tell_state-whole.new.front) told
          (none-stops next.0 (g.F.Front.seen c.next_line.new.front) c.in-Some-next_line.line next.2
          (idle-other c.in-Some-next_line.line idle) none);
      hears =
          λ f same.
          subst (λ (x : FrontSeen). Hears g.N.Known.known c.args.self.now.config [] None
          (hearing (standing c.args.self.now.edition.stop_ms (g.D.Store.seen c.args.store.now) (g.F.Front.seen c.args.front.now) c.args.self.now.board.book)
          (g.K.Sink.seen c.args.out.now) c.args.self.now.written)
          (hearing (standing c.loop.self.edition.stop_ms (g.D.Store.seen c.loop.store) x c.loop.self.board.book) (g.K.Sink.seen c.tell_state-whole.new.out)
          c.both_whole-self.result)) (sym same)
          (subst (λ (w : Bool). Hears g.N.Known.known c.args.self.now.config [] None
          (hearing (standing c.args.self.now.edition.stop_ms (g.D.Store.seen c.args.store.now) (g.F.Front.seen c.args.front.now) c.args.self.now.board.book)
          (g.K.Sink.seen c.args.out.now) c.args.self.now.written)
          (hearing (standing c.loop.self.edition.stop_ms (g.D.Store.seen c.loop.store) (g.F.Front.seen c.tell_state-whole.new.front) c.loop.self.board.book)
          (g.K.Sink.seen c.tell_state-whole.new.out) w)) (sym c.both_whole-self.ensures)
          (hears-state g.N.Known.known c.args.self.now.config c.args.self.now.edition.stop_ms c.loop.self.edition.stop_ms (g.D.Store.seen c.args.store.now)
          (g.D.Store.seen c.loop.store) (g.F.Front.seen c.args.front.now) next.0 c.args.self.now.board.book c.loop.self.board.book (g.K.Sink.seen c.args.out.now)
          (g.K.Sink.seen c.loop.out) c.args.self.now.written c.loop.self.written heeded (c.loop.invariant.hears next.0 next.1)
          c.passes_act_in_steps.ensures.acts (g.F.Front.seen c.next_line.new.front) (g.F.Front.seen c.tell_state-whole.new.front) (g.K.Sink.seen c.tell_state-whole.new.out)
          c.tell_state-whole.result c.in-Some-next_line.line heeded.does.acts.row c.show.ensures.after is next.2 told c.tell_state-whole.ensures.faults
          c.tell_state-whole.ensures.writes));
      others = changed before.others (λ l. record l { written = c.both_whole-self.result });
    }

pub loop-preserved : goal.loop-preserved
loop-preserved g c =
    let next = c.in-Some-next_line.ensures in
    let heeded =
    heeded-mid c.passes_act_in_steps.ensures.acts g.N.Known.known c.args.self.now.config c.args.self.now.edition.stop_ms c.loop.self.edition.stop_ms
    (g.D.Store.seen c.args.store.now) (g.D.Store.seen c.loop.store) c.loop.answer (g.F.Front.seen c.args.front.now) (g.F.Front.seen c.loop.front) next.0 c.args.self.now.board.book
    c.loop.self.board.book c.loop.invariant.heeded next.1 in
    let counts =
    counts-mid c.loop.answer (g.F.Front.seen c.args.front.now) (g.F.Front.seen c.loop.front) next.0 c.args.self.now.board.book c.loop.self.board.book c.loop.invariant.counts next.1 in
    let wakes = wakes-answered c.loop.answer (g.F.Front.seen c.loop.front) next.0 next.1 ∙ c.loop.invariant.wakes in
    let step = step-answered c.loop.answer (g.F.Front.seen c.loop.front) next.0 c.loop.self.board.book.state next.1 c.loop.invariant.step in
    let none = none-answered c.loop.answer (g.F.Front.seen c.loop.front) next.0 next.1 c.loop.invariant.none in
    let before = c.loop.invariant in
    let idle : IsIdle c.in-Some-next_line.line =
    idle-unknown c.in-Some-next_line.line (λ w same. c.in-Err.ensures w (c.as_str.ensures ∙ same)) in
    record {
      heeded =
          heeded-more c.passes_act_in_steps.ensures.acts g.N.Known.known c.args.self.now.config c.args.self.now.edition.stop_ms
          c.loop.self.edition.stop_ms c.loop.self.edition.stop_ms (g.D.Store.seen c.args.store.now) (g.D.Store.seen c.loop.store)
          (g.D.Store.seen c.loop.store) (g.F.Front.seen c.args.front.now) next.0 (g.F.Front.seen c.next_line.new.front)
          c.args.self.now.board.book c.loop.self.board.book c.loop.self.board.book heeded
          (heeded-dropped c.passes_act_in_steps.ensures.acts g.N.Known.known c.args.self.now.config c.loop.self.edition.stop_ms
          (g.D.Store.seen c.loop.store) next.0 (g.F.Front.seen c.next_line.new.front) c.loop.self.board.book
          c.in-Some-next_line.line heeded.does.acts.row heeded.in_time idle next.2);
      counts =
          counts-more 0 (g.F.Front.seen c.args.front.now).counts next.0.counts (g.F.Front.seen c.next_line.new.front).counts c.args.self.now.board.book c.loop.self.board.book c.loop.self.board.book
          counts
          (counts-alike next.0.counts (g.F.Front.seen c.next_line.new.front).counts c.loop.self.board.book c.loop.self.board.book
          (same-dropped next.0 (g.F.Front.seen c.next_line.new.front) c.in-Some-next_line.line idle
          next.2) (alike-same c.loop.self.board.book c.loop.self.board.book refl));
      wakes = next.2.wakes ∙ wakes;
      knows = before.knows;
      serves = before.serves;
      up = before.up;
      step = step-line next.0 (g.F.Front.seen c.next_line.new.front) c.in-Some-next_line.line c.loop.self.board.book.state
          next.2 step;
      none = none-stops next.0 (g.F.Front.seen c.next_line.new.front) c.in-Some-next_line.line next.2
          (idle-other c.in-Some-next_line.line idle) none;
      hears =
          λ f given.
          hears-unknown g.N.Known.known c.args.self.now.config c.args.self.now.edition.stop_ms c.loop.self.edition.stop_ms (g.D.Store.seen c.args.store.now)
          (g.D.Store.seen c.loop.store) (g.F.Front.seen c.args.front.now) next.0 c.args.self.now.board.book c.loop.self.board.book (g.K.Sink.seen c.args.out.now)
          (g.K.Sink.seen c.loop.out) c.args.self.now.written c.loop.self.written heeded (c.loop.invariant.hears next.0 next.1)
          c.passes_act_in_steps.ensures.acts (g.F.Front.seen c.next_line.new.front) f c.in-Some-next_line.line _ heeded.does.acts.row c.show.ensures.after
          (λ w same. c.in-Err.ensures w (c.as_str.ensures ∙ same)) next.2 given c.unknown_answer.ensures;
      others = before.others;
    }
