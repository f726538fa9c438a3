mod Lines
use Rattle.std.proofs.Common.{◌≡◌, [], ◌∷◌, None, Some, ap, arith, refl, rules, subst, sym, ◌∙◌}
use Rattle.mpm_base.specs.CommandWord.{command_word}
use Rattle.mpm_base.specs.Front.{Commands, FrontSeen}
use Rattle.mpm_base.specs.declared.script_line.CommandWord.TheVariants as word
use Rattle.listener_round.specs.Heard.{asks_for_state}
use Rattle.listener_round.specs.HeardInside.{HearsUntil, hearing}
use Rattle.listener_round.specs.ShareInside.{DoesAllButOne, DoesAsked}
use Rattle.listener_round.specs.StandingInside.{standing}
use Rattle.listener_round.proofs.AnswerLemmas.{counts-mid, goes-next, heeded-mid, none-answered, step-answered, wakes-answered}
use Rattle.listener_round.proofs.CountedLemmas.{alike-same, counts-alike, counts-more, counts-same, counts-stopped, may-wakes, same-none}
use Rattle.listener_round.proofs.HeedLemmas.{does-all, does-but, does-unended, heeded-start, heeded-stopped, hushes-all, hushes-but, on-graceful, on-stop, stands-none, stands-read, step-line, step-none}
use Rattle.listener_round.proofs.LineHearsLemmas.{hears-lacking, hears-none, hears-start, hears-stop}
use Rattle.listener_round.proofs.StandingLemmas.{stands-more}
use Rattle.listener_round.proofs.listener_state.Listener.heed.Goals as goal
use Rattle.listener_round.proofs.listener_state.Listener.heed.Answers.Lines as lines

pub loop-init : goal.loop-init
loop-init g c =
    record {
      heeded = heeded-start c.passes_act_in_steps.ensures.acts g.N.Known.known c.args.self.now.config c.args.self.now.edition.stop_ms
          (g.D.Store.seen c.args.store.now) (g.F.Front.seen c.args.front.now) c.args.self.now.board.book c.requires.free c.requires.in_time;
      counts = counts-same (g.F.Front.seen c.args.front.now).counts c.args.self.now.board.book;
      wakes = refl;
      knows = c.requires.knows;
      serves = c.requires.serves;
      up = c.requires.up;
      step = c.requires.step;
      none = c.requires.heeded;
      hears =
          λ f same. hears-start c.passes_act_in_steps.ensures.acts g.N.Known.known c.args.self.now.config c.args.self.now.edition.stop_ms
          (g.D.Store.seen c.args.store.now) (g.F.Front.seen c.args.front.now) f c.args.self.now.board.book (g.K.Sink.seen c.args.out.now)
          c.args.self.now.written c.requires.free same;
      others = refl;
    }

pub returns-in_default-clause-stands : goal.returns-in_default-clause-stands
returns-in_default-clause-stands g c =
    let next = c.in_default.ensures in
    let heeded =
    heeded-mid c.passes_act_in_steps.ensures.acts g.N.Known.known c.args.self.now.config c.args.self.now.edition.stop_ms c.loop.self.edition.stop_ms
    (g.D.Store.seen c.args.store.now) (g.D.Store.seen c.loop.store) c.loop.answer (g.F.Front.seen c.args.front.now) (g.F.Front.seen c.loop.front) next.0 c.args.self.now.board.book
    c.loop.self.board.book c.loop.invariant.heeded next.1 in
    stands-more g.N.Known.known c.args.self.now.config 0 0
    (standing c.args.self.now.edition.stop_ms (g.D.Store.seen c.args.store.now) (g.F.Front.seen c.args.front.now) c.args.self.now.board.book)
    (standing c.loop.self.edition.stop_ms (g.D.Store.seen c.loop.store) next.0 c.loop.self.board.book)
    (standing c.loop.self.edition.stop_ms (g.D.Store.seen c.loop.store) (g.F.Front.seen c.next_line.new.front) c.loop.self.board.book) heeded.stands
    heeded.timely
    (stands-none g.N.Known.known c.args.self.now.config c.loop.self.edition.stop_ms (g.D.Store.seen c.loop.store) next.0
    (g.F.Front.seen c.next_line.new.front) c.loop.self.board.book next.2)

pub returns-in_default-clause-counts : goal.returns-in_default-clause-counts
returns-in_default-clause-counts g c =
    let next = c.in_default.ensures in
    let counts =
    counts-mid c.loop.answer (g.F.Front.seen c.args.front.now) (g.F.Front.seen c.loop.front) next.0 c.args.self.now.board.book c.loop.self.board.book c.loop.invariant.counts next.1 in
    counts-more 0 (g.F.Front.seen c.args.front.now).counts next.0.counts (g.F.Front.seen c.next_line.new.front).counts c.args.self.now.board.book c.loop.self.board.book c.loop.self.board.book
    counts
    (counts-alike next.0.counts (g.F.Front.seen c.next_line.new.front).counts c.loop.self.board.book c.loop.self.board.book
    (same-none next.0 (g.F.Front.seen c.next_line.new.front) next.2) (alike-same c.loop.self.board.book c.loop.self.board.book refl))

pub returns-in-Ok-Stop-clause-stands : goal.returns-in-Ok-Stop-clause-stands
returns-in-Ok-Stop-clause-stands g c =
    let next = c.in-Some-next_line.ensures in
    let heeded =
    heeded-mid c.passes_act_in_steps.ensures.acts g.N.Known.known c.args.self.now.config c.args.self.now.edition.stop_ms c.loop.self.edition.stop_ms
    (g.D.Store.seen c.args.store.now) (g.D.Store.seen c.loop.store) c.loop.answer (g.F.Front.seen c.args.front.now) (g.F.Front.seen c.loop.front) next.0 c.args.self.now.board.book
    c.loop.self.board.book c.loop.invariant.heeded next.1 in
    stands-more g.N.Known.known c.args.self.now.config 0 1
    (standing c.args.self.now.edition.stop_ms (g.D.Store.seen c.args.store.now) (g.F.Front.seen c.args.front.now) c.args.self.now.board.book)
    (standing c.loop.self.edition.stop_ms (g.D.Store.seen c.loop.store) next.0 c.loop.self.board.book)
    (standing c.loop.self.edition.stop_ms (g.D.Store.seen c.loop.store) (g.F.Front.seen c.next_line.new.front) c.loop.self.board.book) heeded.stands
    heeded.timely
    (stands-read g.N.Known.known c.args.self.now.config 1 c.loop.self.edition.stop_ms (g.D.Store.seen c.loop.store) next.0
    (g.F.Front.seen c.next_line.new.front) c.loop.self.board.book c.in-Some-next_line.line (omega arith) next.2)

pub returns-in-Ok-Stop-clause-counts : goal.returns-in-Ok-Stop-clause-counts
returns-in-Ok-Stop-clause-counts g c =
    let next = c.in-Some-next_line.ensures in
    let counts =
    counts-mid c.loop.answer (g.F.Front.seen c.args.front.now) (g.F.Front.seen c.loop.front) next.0 c.args.self.now.board.book c.loop.self.board.book c.loop.invariant.counts next.1 in
    let is : c.in-Some-next_line.line ≡ command_word word.Stop = search rules in
    counts-more 1 (g.F.Front.seen c.args.front.now).counts next.0.counts (g.F.Front.seen c.next_line.new.front).counts c.args.self.now.board.book c.loop.self.board.book c.loop.self.board.book
    counts
    (counts-stopped next.0 (g.F.Front.seen c.next_line.new.front) c.loop.self.board.book c.loop.self.board.book c.in-Some-next_line.line
    next.2 is refl)

pub returns-in-Ok-Stop-clause-asked : goal.returns-in-Ok-Stop-clause-asked
returns-in-Ok-Stop-clause-asked g c asked =
    let next = c.in-Some-next_line.ensures in
    let heeded =
    heeded-mid c.passes_act_in_steps.ensures.acts g.N.Known.known c.args.self.now.config c.args.self.now.edition.stop_ms c.loop.self.edition.stop_ms
    (g.D.Store.seen c.args.store.now) (g.D.Store.seen c.loop.store) c.loop.answer (g.F.Front.seen c.args.front.now) (g.F.Front.seen c.loop.front) next.0 c.args.self.now.board.book
    c.loop.self.board.book c.loop.invariant.heeded next.1 in
    let none = none-answered c.loop.answer (g.F.Front.seen c.loop.front) next.0 next.1 c.loop.invariant.none in
    let is : c.in-Some-next_line.line ≡ command_word word.Stop = search rules in
    heeded-stopped (g.F.Front.seen c.args.front.now) next.0 (g.F.Front.seen c.next_line.new.front) c.in-Some-next_line.line is
    heeded.goes.follows next.2 none

pub loop-preserved-in-Ok-Graceful : goal.loop-preserved-in-Ok-Graceful
loop-preserved-in-Ok-Graceful g c = lines.loop-preserved-in-Ok-Graceful g c

pub returns-in_err-restart-in-Ok-Graceful-clause-stands : goal.returns-in_err-restart-in-Ok-Graceful-clause-stands
returns-in_err-restart-in-Ok-Graceful-clause-stands g c = lines.returns-in_err-restart-in-Ok-Graceful-clause-stands g c

pub returns-in_err-restart-in-Ok-Graceful-clause-counts : goal.returns-in_err-restart-in-Ok-Graceful-clause-counts
returns-in_err-restart-in-Ok-Graceful-clause-counts g c = lines.returns-in_err-restart-in-Ok-Graceful-clause-counts g c

pub returns-in_err-restart-in-Ok-Graceful-clause-unheeded : goal.returns-in_err-restart-in-Ok-Graceful-clause-unheeded
returns-in_err-restart-in-Ok-Graceful-clause-unheeded g c = lines.returns-in_err-restart-in-Ok-Graceful-clause-unheeded g c

pub loop-preserved-in-Ok-GracefulStop : goal.loop-preserved-in-Ok-GracefulStop
loop-preserved-in-Ok-GracefulStop g c = lines.loop-preserved-in-Ok-GracefulStop g c

pub returns-in_err-end-in-Ok-GracefulStop-clause-stands : goal.returns-in_err-end-in-Ok-GracefulStop-clause-stands
returns-in_err-end-in-Ok-GracefulStop-clause-stands g c = lines.returns-in_err-end-in-Ok-GracefulStop-clause-stands g c

pub returns-in_err-end-in-Ok-GracefulStop-clause-counts : goal.returns-in_err-end-in-Ok-GracefulStop-clause-counts
returns-in_err-end-in-Ok-GracefulStop-clause-counts g c = lines.returns-in_err-end-in-Ok-GracefulStop-clause-counts g c

pub returns-in_err-end-in-Ok-GracefulStop-clause-unheeded : goal.returns-in_err-end-in-Ok-GracefulStop-clause-unheeded
returns-in_err-end-in-Ok-GracefulStop-clause-unheeded g c = lines.returns-in_err-end-in-Ok-GracefulStop-clause-unheeded g c

pub loop-preserved-in-Ok-Status : goal.loop-preserved-in-Ok-Status
loop-preserved-in-Ok-Status g c = lines.loop-preserved-in-Ok-Status g c

pub loop-preserved : goal.loop-preserved
loop-preserved g c = lines.loop-preserved g c

-- ## What the lines ask for

pub restart-requires-clause-in_time : goal.restart-requires-clause-in_time
restart-requires-clause-in_time g c κs within = c.loop.invariant.heeded.in_time

pub end-requires-clause-in_time : goal.end-requires-clause-in_time
end-requires-clause-in_time g c κs within = c.loop.invariant.heeded.in_time

pub returns-in_default-clause-asks : goal.returns-in_default-clause-asks
returns-in_default-clause-asks g c =
    let next = c.in_default.ensures in
    let heeded =
    heeded-mid c.passes_act_in_steps.ensures.acts g.N.Known.known c.args.self.now.config c.args.self.now.edition.stop_ms c.loop.self.edition.stop_ms
    (g.D.Store.seen c.args.store.now) (g.D.Store.seen c.loop.store) c.loop.answer (g.F.Front.seen c.args.front.now) (g.F.Front.seen c.loop.front) next.0 c.args.self.now.board.book
    c.loop.self.board.book c.loop.invariant.heeded next.1 in
    does-all heeded.words (g.F.Front.seen c.args.front.now).told next.0.told (g.F.Front.seen c.next_line.new.front).told
    c.args.self.now.board.book c.loop.self.board.book heeded.reads next.2.told_is heeded.makes

pub returns-in_default-clause-hushes : goal.returns-in_default-clause-hushes
returns-in_default-clause-hushes g c =
    let next = c.in_default.ensures in
    let heeded =
    heeded-mid c.passes_act_in_steps.ensures.acts g.N.Known.known c.args.self.now.config c.args.self.now.edition.stop_ms c.loop.self.edition.stop_ms
    (g.D.Store.seen c.args.store.now) (g.D.Store.seen c.loop.store) c.loop.answer (g.F.Front.seen c.args.front.now) (g.F.Front.seen c.loop.front) next.0 c.args.self.now.board.book
    c.loop.self.board.book c.loop.invariant.heeded next.1 in
    hushes-all heeded.words (g.F.Front.seen c.args.front.now).told next.0.told (g.F.Front.seen c.next_line.new.front).told heeded.reads
    next.2.told_is

pub returns-in_default-clause-timely : goal.returns-in_default-clause-timely
returns-in_default-clause-timely g c before = c.loop.invariant.heeded.timely before

pub returns-in_default-clause-in_time : goal.returns-in_default-clause-in_time
returns-in_default-clause-in_time g c = c.loop.invariant.heeded.in_time

pub returns-in-Ok-Stop-clause-asks : goal.returns-in-Ok-Stop-clause-asks
returns-in-Ok-Stop-clause-asks g c =
    let next = c.in-Some-next_line.ensures in
    let heeded =
    heeded-mid c.passes_act_in_steps.ensures.acts g.N.Known.known c.args.self.now.config c.args.self.now.edition.stop_ms c.loop.self.edition.stop_ms
    (g.D.Store.seen c.args.store.now) (g.D.Store.seen c.loop.store) c.loop.answer (g.F.Front.seen c.args.front.now) (g.F.Front.seen c.loop.front) next.0 c.args.self.now.board.book
    c.loop.self.board.book c.loop.invariant.heeded next.1 in
    let is : c.in-Some-next_line.line ≡ command_word word.Stop = search rules in
    does-but heeded.words (word.Stop ∷ []) (g.F.Front.seen c.args.front.now).told next.0.told (g.F.Front.seen c.next_line.new.front).told
    c.args.self.now.board.book c.loop.self.board.book heeded.reads
    (on-stop c.in-Some-next_line.line next.0 (g.F.Front.seen c.next_line.new.front) is next.2) heeded.makes

pub returns-in-Ok-Stop-clause-hushes : goal.returns-in-Ok-Stop-clause-hushes
returns-in-Ok-Stop-clause-hushes g c =
    let next = c.in-Some-next_line.ensures in
    let heeded =
    heeded-mid c.passes_act_in_steps.ensures.acts g.N.Known.known c.args.self.now.config c.args.self.now.edition.stop_ms c.loop.self.edition.stop_ms
    (g.D.Store.seen c.args.store.now) (g.D.Store.seen c.loop.store) c.loop.answer (g.F.Front.seen c.args.front.now) (g.F.Front.seen c.loop.front) next.0 c.args.self.now.board.book
    c.loop.self.board.book c.loop.invariant.heeded next.1 in
    let is : c.in-Some-next_line.line ≡ command_word word.Stop = search rules in
    hushes-but heeded.words (word.Stop ∷ []) (g.F.Front.seen c.args.front.now).told next.0.told
    (g.F.Front.seen c.next_line.new.front).told heeded.reads
    (on-stop c.in-Some-next_line.line next.0 (g.F.Front.seen c.next_line.new.front) is next.2)

pub returns-in-Ok-Stop-clause-timely : goal.returns-in-Ok-Stop-clause-timely
returns-in-Ok-Stop-clause-timely g c before = c.loop.invariant.heeded.timely before

pub returns-in-Ok-Stop-clause-in_time : goal.returns-in-Ok-Stop-clause-in_time
returns-in-Ok-Stop-clause-in_time g c = c.loop.invariant.heeded.in_time

pub returns-in_err-restart-in-Ok-Graceful-clause-asks : goal.returns-in_err-restart-in-Ok-Graceful-clause-asks
returns-in_err-restart-in-Ok-Graceful-clause-asks g c =
    let next = c.in-Some-next_line.ensures in
    let heeded =
    heeded-mid c.passes_act_in_steps.ensures.acts g.N.Known.known c.args.self.now.config c.args.self.now.edition.stop_ms c.loop.self.edition.stop_ms
    (g.D.Store.seen c.args.store.now) (g.D.Store.seen c.loop.store) c.loop.answer (g.F.Front.seen c.args.front.now) (g.F.Front.seen c.loop.front) next.0 c.args.self.now.board.book
    c.loop.self.board.book c.loop.invariant.heeded next.1 in
    let is : c.in-Some-next_line.line ≡ command_word word.Graceful = search rules in
    let asks : DoesAllButOne (g.F.Front.seen c.args.front.now).told (g.F.Front.seen c.next_line.new.front).told c.args.self.now.board.book
    c.restart.new.self.board.book = (
      word.Graceful,
      subst (λ (l : _). DoesAsked (word.Graceful ∷ []) (g.F.Front.seen c.args.front.now).told (g.F.Front.seen c.next_line.new.front).told
          c.args.self.now.board.book l.board.book) (sym c.in_err-restart-in-Ok-Graceful.ensures.same)
          (does-but heeded.words (word.Graceful ∷ []) (g.F.Front.seen c.args.front.now).told next.0.told
          (g.F.Front.seen c.next_line.new.front).told c.args.self.now.board.book c.loop.self.board.book heeded.reads
          (on-graceful c.in-Some-next_line.line next.0 (g.F.Front.seen c.next_line.new.front) is next.2)
          heeded.makes),
    ) in
    search (rules, asks)

pub returns-in_err-restart-in-Ok-Graceful-clause-timely : goal.returns-in_err-restart-in-Ok-Graceful-clause-timely
returns-in_err-restart-in-Ok-Graceful-clause-timely g c before = c.restart.ensures.timely (c.loop.invariant.heeded.timely before)

pub returns-in_err-restart-in-Ok-Graceful-clause-in_time : goal.returns-in_err-restart-in-Ok-Graceful-clause-in_time
returns-in_err-restart-in-Ok-Graceful-clause-in_time g c = c.restart.ensures.in_time

pub returns-in_err-end-in-Ok-GracefulStop-clause-asks : goal.returns-in_err-end-in-Ok-GracefulStop-clause-asks
returns-in_err-end-in-Ok-GracefulStop-clause-asks g c =
    let next = c.in-Some-next_line.ensures in
    let heeded =
    heeded-mid c.passes_act_in_steps.ensures.acts g.N.Known.known c.args.self.now.config c.args.self.now.edition.stop_ms c.loop.self.edition.stop_ms
    (g.D.Store.seen c.args.store.now) (g.D.Store.seen c.loop.store) c.loop.answer (g.F.Front.seen c.args.front.now) (g.F.Front.seen c.loop.front) next.0 c.args.self.now.board.book
    c.loop.self.board.book c.loop.invariant.heeded next.1 in
    let step = step-answered c.loop.answer (g.F.Front.seen c.loop.front) next.0 c.loop.self.board.book.state next.1 c.loop.invariant.step in
    let is : c.in-Some-next_line.line ≡ command_word word.GracefulStop = search rules in
    let ended = c.in_err-end-in-Ok-GracefulStop.ensures in
    let here =
    does-unended c.in-Some-next_line.line heeded.words (g.F.Front.seen c.args.front.now) next.0 (g.F.Front.seen c.next_line.new.front)
    c.args.self.now.board.book c.loop.self.board.book is next.2 step ended.serving heeded.reads heeded.makes in
    let asks : DoesAllButOne (g.F.Front.seen c.args.front.now).told (g.F.Front.seen c.end.new.front).told c.args.self.now.board.book
    c.end.new.self.board.book = (
      word.GracefulStop,
      subst (λ (f : FrontSeen). DoesAsked (word.GracefulStop ∷ []) (g.F.Front.seen c.args.front.now).told f.told c.args.self.now.board.book
          c.end.new.self.board.book) (sym ended.kept)
          (subst (λ (l : _). DoesAsked (word.GracefulStop ∷ []) (g.F.Front.seen c.args.front.now).told (g.F.Front.seen c.next_line.new.front).told
          c.args.self.now.board.book l.board.book) (sym ended.same) here),
    ) in
    search (rules, asks)

pub returns-in_err-end-in-Ok-GracefulStop-clause-timely : goal.returns-in_err-end-in-Ok-GracefulStop-clause-timely
returns-in_err-end-in-Ok-GracefulStop-clause-timely g c before = c.end.ensures.timely (c.loop.invariant.heeded.timely before)

pub returns-in_err-end-in-Ok-GracefulStop-clause-in_time : goal.returns-in_err-end-in-Ok-GracefulStop-clause-in_time
returns-in_err-end-in-Ok-GracefulStop-clause-in_time g c = c.end.ensures.in_time

pub returns-in_default-clause-wakes : goal.returns-in_default-clause-wakes
returns-in_default-clause-wakes g c =
    let next = c.in_default.ensures in
    let wakes = wakes-answered c.loop.answer (g.F.Front.seen c.loop.front) next.0 next.1 ∙ c.loop.invariant.wakes in
    next.2.wakes ∙ wakes

pub returns-in-Ok-Stop-clause-wakes : goal.returns-in-Ok-Stop-clause-wakes
returns-in-Ok-Stop-clause-wakes g c =
    let next = c.in-Some-next_line.ensures in
    let wakes = wakes-answered c.loop.answer (g.F.Front.seen c.loop.front) next.0 next.1 ∙ c.loop.invariant.wakes in
    next.2.wakes ∙ wakes

pub returns-in_err-restart-in-Ok-Graceful-clause-wakes : goal.returns-in_err-restart-in-Ok-Graceful-clause-wakes
returns-in_err-restart-in-Ok-Graceful-clause-wakes g c =
    let next = c.in-Some-next_line.ensures in
    let wakes = wakes-answered c.loop.answer (g.F.Front.seen c.loop.front) next.0 next.1 ∙ c.loop.invariant.wakes in
    next.2.wakes ∙ wakes

pub returns-in_err-end-in-Ok-GracefulStop-clause-wakes : goal.returns-in_err-end-in-Ok-GracefulStop-clause-wakes
returns-in_err-end-in-Ok-GracefulStop-clause-wakes g c =
    let next = c.in-Some-next_line.ensures in
    let wakes = wakes-answered c.loop.answer (g.F.Front.seen c.loop.front) next.0 next.1 ∙ c.loop.invariant.wakes in
    may-wakes (g.F.Front.seen c.next_line.new.front) (g.F.Front.seen c.end.new.front) c.end.ensures.hushed
    ∙ next.2.wakes ∙ wakes

-- ## The front behind the last line

pub returns-in_default-clause-follows : goal.returns-in_default-clause-follows
returns-in_default-clause-follows g c =
    let next = c.in_default.ensures in
    let heeded =
    heeded-mid c.passes_act_in_steps.ensures.acts g.N.Known.known c.args.self.now.config c.args.self.now.edition.stop_ms c.loop.self.edition.stop_ms
    (g.D.Store.seen c.args.store.now) (g.D.Store.seen c.loop.store) c.loop.answer (g.F.Front.seen c.args.front.now)
    (g.F.Front.seen c.loop.front) next.0 c.args.self.now.board.book c.loop.self.board.book c.loop.invariant.heeded next.1 in
    let goes =
    goes-next (g.F.Front.seen c.args.front.now) next.0 (g.F.Front.seen c.next_line.new.front) c.args.self.now.board.book c.loop.self.board.book
    None heeded.goes next.2 in
    goes.follows

pub returns-in_default-clause-front : goal.returns-in_default-clause-front
returns-in_default-clause-front g c =
    let next = c.in_default.ensures in
    let heeded =
    heeded-mid c.passes_act_in_steps.ensures.acts g.N.Known.known c.args.self.now.config c.args.self.now.edition.stop_ms c.loop.self.edition.stop_ms
    (g.D.Store.seen c.args.store.now) (g.D.Store.seen c.loop.store) c.loop.answer (g.F.Front.seen c.args.front.now)
    (g.F.Front.seen c.loop.front) next.0 c.args.self.now.board.book c.loop.self.board.book c.loop.invariant.heeded next.1 in
    let goes =
    goes-next (g.F.Front.seen c.args.front.now) next.0 (g.F.Front.seen c.next_line.new.front) c.args.self.now.board.book c.loop.self.board.book
    None heeded.goes next.2 in
    goes.front

pub returns-in_default-clause-watched : goal.returns-in_default-clause-watched
returns-in_default-clause-watched g c =
    let next = c.in_default.ensures in
    let heeded =
    heeded-mid c.passes_act_in_steps.ensures.acts g.N.Known.known c.args.self.now.config c.args.self.now.edition.stop_ms c.loop.self.edition.stop_ms
    (g.D.Store.seen c.args.store.now) (g.D.Store.seen c.loop.store) c.loop.answer (g.F.Front.seen c.args.front.now)
    (g.F.Front.seen c.loop.front) next.0 c.args.self.now.board.book c.loop.self.board.book c.loop.invariant.heeded next.1 in
    let goes =
    goes-next (g.F.Front.seen c.args.front.now) next.0 (g.F.Front.seen c.next_line.new.front) c.args.self.now.board.book c.loop.self.board.book
    None heeded.goes next.2 in
    goes.watched

pub returns-in-Ok-Stop-clause-follows : goal.returns-in-Ok-Stop-clause-follows
returns-in-Ok-Stop-clause-follows g c =
    let next = c.in-Some-next_line.ensures in
    let heeded =
    heeded-mid c.passes_act_in_steps.ensures.acts g.N.Known.known c.args.self.now.config c.args.self.now.edition.stop_ms c.loop.self.edition.stop_ms
    (g.D.Store.seen c.args.store.now) (g.D.Store.seen c.loop.store) c.loop.answer (g.F.Front.seen c.args.front.now)
    (g.F.Front.seen c.loop.front) next.0 c.args.self.now.board.book c.loop.self.board.book c.loop.invariant.heeded next.1 in
    let goes =
    goes-next (g.F.Front.seen c.args.front.now) next.0 (g.F.Front.seen c.next_line.new.front) c.args.self.now.board.book c.loop.self.board.book
    (Some c.in-Some-next_line.line) heeded.goes next.2 in
    goes.follows

pub returns-in-Ok-Stop-clause-front : goal.returns-in-Ok-Stop-clause-front
returns-in-Ok-Stop-clause-front g c =
    let next = c.in-Some-next_line.ensures in
    let heeded =
    heeded-mid c.passes_act_in_steps.ensures.acts g.N.Known.known c.args.self.now.config c.args.self.now.edition.stop_ms c.loop.self.edition.stop_ms
    (g.D.Store.seen c.args.store.now) (g.D.Store.seen c.loop.store) c.loop.answer (g.F.Front.seen c.args.front.now)
    (g.F.Front.seen c.loop.front) next.0 c.args.self.now.board.book c.loop.self.board.book c.loop.invariant.heeded next.1 in
    let goes =
    goes-next (g.F.Front.seen c.args.front.now) next.0 (g.F.Front.seen c.next_line.new.front) c.args.self.now.board.book c.loop.self.board.book
    (Some c.in-Some-next_line.line) heeded.goes next.2 in
    goes.front

pub returns-in-Ok-Stop-clause-watched : goal.returns-in-Ok-Stop-clause-watched
returns-in-Ok-Stop-clause-watched g c =
    let next = c.in-Some-next_line.ensures in
    let heeded =
    heeded-mid c.passes_act_in_steps.ensures.acts g.N.Known.known c.args.self.now.config c.args.self.now.edition.stop_ms c.loop.self.edition.stop_ms
    (g.D.Store.seen c.args.store.now) (g.D.Store.seen c.loop.store) c.loop.answer (g.F.Front.seen c.args.front.now)
    (g.F.Front.seen c.loop.front) next.0 c.args.self.now.board.book c.loop.self.board.book c.loop.invariant.heeded next.1 in
    let goes =
    goes-next (g.F.Front.seen c.args.front.now) next.0 (g.F.Front.seen c.next_line.new.front) c.args.self.now.board.book c.loop.self.board.book
    (Some c.in-Some-next_line.line) heeded.goes next.2 in
    goes.watched

pub returns-in_default-clause-step : goal.returns-in_default-clause-step
returns-in_default-clause-step g c =
    let next = c.in_default.ensures in
    step-none next.0 (g.F.Front.seen c.next_line.new.front) c.loop.self.board.book.state next.2
    (step-answered c.loop.answer (g.F.Front.seen c.loop.front) next.0 c.loop.self.board.book.state next.1 c.loop.invariant.step)

pub returns-in-Ok-Stop-clause-step : goal.returns-in-Ok-Stop-clause-step
returns-in-Ok-Stop-clause-step g c =
    let next = c.in-Some-next_line.ensures in
    step-line next.0 (g.F.Front.seen c.next_line.new.front) c.in-Some-next_line.line c.loop.self.board.book.state next.2
    (step-answered c.loop.answer (g.F.Front.seen c.loop.front) next.0 c.loop.self.board.book.state next.1 c.loop.invariant.step)

-- ## What was heard

pub returns-in_default-clause-heard : goal.returns-in_default-clause-heard
returns-in_default-clause-heard g c =
    let next = c.in_default.ensures in
    let heeded =
    heeded-mid c.passes_act_in_steps.ensures.acts g.N.Known.known c.args.self.now.config c.args.self.now.edition.stop_ms c.loop.self.edition.stop_ms
    (g.D.Store.seen c.args.store.now) (g.D.Store.seen c.loop.store) c.loop.answer (g.F.Front.seen c.args.front.now)
    (g.F.Front.seen c.loop.front) next.0 c.args.self.now.board.book c.loop.self.board.book c.loop.invariant.heeded next.1 in
    hears-none g.N.Known.known c.args.self.now.config c.args.self.now.edition.stop_ms c.loop.self.edition.stop_ms (g.D.Store.seen c.args.store.now)
    (g.D.Store.seen c.loop.store) (g.F.Front.seen c.args.front.now) next.0 c.args.self.now.board.book c.loop.self.board.book (g.K.Sink.seen c.args.out.now)
    (g.K.Sink.seen c.loop.out) c.args.self.now.written c.loop.self.written heeded (c.loop.invariant.hears next.0 next.1)
    c.passes_act_in_steps.ensures.acts (g.F.Front.seen c.next_line.new.front) heeded.does.acts.row next.2

pub returns-in-Ok-Stop-clause-heard : goal.returns-in-Ok-Stop-clause-heard
returns-in-Ok-Stop-clause-heard g c =
    let next = c.in-Some-next_line.ensures in
    let heeded =
    heeded-mid c.passes_act_in_steps.ensures.acts g.N.Known.known c.args.self.now.config c.args.self.now.edition.stop_ms c.loop.self.edition.stop_ms
    (g.D.Store.seen c.args.store.now) (g.D.Store.seen c.loop.store) c.loop.answer (g.F.Front.seen c.args.front.now)
    (g.F.Front.seen c.loop.front) next.0 c.args.self.now.board.book c.loop.self.board.book c.loop.invariant.heeded next.1 in
    let is : c.in-Some-next_line.line ≡ command_word word.Stop = search rules in
    hears-stop g.N.Known.known c.args.self.now.config c.args.self.now.edition.stop_ms c.loop.self.edition.stop_ms (g.D.Store.seen c.args.store.now)
    (g.D.Store.seen c.loop.store) (g.F.Front.seen c.args.front.now) next.0 c.args.self.now.board.book c.loop.self.board.book (g.K.Sink.seen c.args.out.now)
    (g.K.Sink.seen c.loop.out) c.args.self.now.written c.loop.self.written heeded (c.loop.invariant.hears next.0 next.1)
    (g.F.Front.seen c.next_line.new.front) c.in-Some-next_line.line is next.2

pub returns-in_err-restart-in-Ok-Graceful-clause-heard : goal.returns-in_err-restart-in-Ok-Graceful-clause-heard
returns-in_err-restart-in-Ok-Graceful-clause-heard g c =
    let next = c.in-Some-next_line.ensures in
    let heeded =
    heeded-mid c.passes_act_in_steps.ensures.acts g.N.Known.known c.args.self.now.config c.args.self.now.edition.stop_ms c.loop.self.edition.stop_ms
    (g.D.Store.seen c.args.store.now) (g.D.Store.seen c.loop.store) c.loop.answer (g.F.Front.seen c.args.front.now)
    (g.F.Front.seen c.loop.front) next.0 c.args.self.now.board.book c.loop.self.board.book c.loop.invariant.heeded next.1 in
    let is : c.in-Some-next_line.line ≡ command_word word.Graceful = search rules in
    let same = c.in_err-restart-in-Ok-Graceful.ensures.same in
    let until : HearsUntil g.N.Known.known c.args.self.now.config []
    (hearing (standing c.args.self.now.edition.stop_ms (g.D.Store.seen c.args.store.now) (g.F.Front.seen c.args.front.now) c.args.self.now.board.book)
    (g.K.Sink.seen c.args.out.now) c.args.self.now.written)
    (hearing (standing c.restart.new.self.edition.stop_ms (g.D.Store.seen c.restart.new.store) (g.F.Front.seen c.next_line.new.front)
    c.restart.new.self.board.book) (g.K.Sink.seen c.loop.out) c.restart.new.self.written) =
    hears-lacking g.N.Known.known c.args.self.now.config c.args.self.now.edition.stop_ms c.loop.self.edition.stop_ms (g.D.Store.seen c.args.store.now)
    (g.D.Store.seen c.loop.store) (g.F.Front.seen c.args.front.now) next.0 c.args.self.now.board.book c.loop.self.board.book (g.K.Sink.seen c.args.out.now)
    (g.K.Sink.seen c.loop.out) c.args.self.now.written c.loop.self.written heeded (c.loop.invariant.hears next.0 next.1)
    (standing c.restart.new.self.edition.stop_ms (g.D.Store.seen c.restart.new.store) (g.F.Front.seen c.next_line.new.front) c.restart.new.self.board.book)
    c.restart.new.self.written c.in-Some-next_line.line (ap asks_for_state is) (ap (λ (l : _). l.board.book) same) (ap (λ (l : _). l.written) same)
    next.2 in
    search (rules, until)

pub returns-in_err-end-in-Ok-GracefulStop-clause-heard : goal.returns-in_err-end-in-Ok-GracefulStop-clause-heard
returns-in_err-end-in-Ok-GracefulStop-clause-heard g c =
    let next = c.in-Some-next_line.ensures in
    let heeded =
    heeded-mid c.passes_act_in_steps.ensures.acts g.N.Known.known c.args.self.now.config c.args.self.now.edition.stop_ms c.loop.self.edition.stop_ms
    (g.D.Store.seen c.args.store.now) (g.D.Store.seen c.loop.store) c.loop.answer (g.F.Front.seen c.args.front.now)
    (g.F.Front.seen c.loop.front) next.0 c.args.self.now.board.book c.loop.self.board.book c.loop.invariant.heeded next.1 in
    let is : c.in-Some-next_line.line ≡ command_word word.GracefulStop = search rules in
    let ended = c.in_err-end-in-Ok-GracefulStop.ensures in
    let until : HearsUntil g.N.Known.known c.args.self.now.config []
    (hearing (standing c.args.self.now.edition.stop_ms (g.D.Store.seen c.args.store.now) (g.F.Front.seen c.args.front.now) c.args.self.now.board.book)
    (g.K.Sink.seen c.args.out.now) c.args.self.now.written)
    (hearing (standing c.end.new.self.edition.stop_ms (g.D.Store.seen c.loop.store) (g.F.Front.seen c.end.new.front) c.end.new.self.board.book)
    (g.K.Sink.seen c.loop.out) c.end.new.self.written) =
    hears-lacking g.N.Known.known c.args.self.now.config c.args.self.now.edition.stop_ms c.loop.self.edition.stop_ms (g.D.Store.seen c.args.store.now)
    (g.D.Store.seen c.loop.store) (g.F.Front.seen c.args.front.now) next.0 c.args.self.now.board.book c.loop.self.board.book (g.K.Sink.seen c.args.out.now)
    (g.K.Sink.seen c.loop.out) c.args.self.now.written c.loop.self.written heeded (c.loop.invariant.hears next.0 next.1)
    (standing c.end.new.self.edition.stop_ms (g.D.Store.seen c.loop.store) (g.F.Front.seen c.end.new.front) c.end.new.self.board.book)
    c.end.new.self.written c.in-Some-next_line.line (ap asks_for_state is) (ap (λ (l : _). l.board.book) ended.same) (ap (λ (l : _). l.written) ended.same)
    (subst (λ (f : FrontSeen). Commands next.0 f (Some c.in-Some-next_line.line)) (sym ended.kept) next.2) in
    search (rules, until)

-- ## What holds as it did before the last line

pub returns-in_default-clause-does : goal.returns-in_default-clause-does
returns-in_default-clause-does g c = c.loop.invariant.heeded.does

pub returns-in_default-clause-until : goal.returns-in_default-clause-until
returns-in_default-clause-until g c = tt

pub returns-in_default-clause-knows : goal.returns-in_default-clause-knows
returns-in_default-clause-knows g c = c.loop.invariant.knows

pub returns-in_default-clause-serves : goal.returns-in_default-clause-serves
returns-in_default-clause-serves g c = c.loop.invariant.serves

pub returns-in_default-clause-up : goal.returns-in_default-clause-up
returns-in_default-clause-up g c = c.loop.invariant.up

pub returns-in_default-clause-moment : goal.returns-in_default-clause-moment
returns-in_default-clause-moment g c = c.loop.invariant.heeded.moment

pub returns-in_default-clause-accepted : goal.returns-in_default-clause-accepted
returns-in_default-clause-accepted g c = c.loop.invariant.heeded.accepted

pub returns-in_default-clause-unheeded : goal.returns-in_default-clause-unheeded
returns-in_default-clause-unheeded g c = tt

pub returns-in_default-clause-others : goal.returns-in_default-clause-others
returns-in_default-clause-others g c = c.loop.invariant.others

pub returns-in_default-clause-err : goal.returns-in_default-clause-err
returns-in_default-clause-err g c = tt

pub returns-in-Ok-Stop-clause-does : goal.returns-in-Ok-Stop-clause-does
returns-in-Ok-Stop-clause-does g c = c.loop.invariant.heeded.does

pub returns-in-Ok-Stop-clause-until : goal.returns-in-Ok-Stop-clause-until
returns-in-Ok-Stop-clause-until g c = tt

pub returns-in-Ok-Stop-clause-knows : goal.returns-in-Ok-Stop-clause-knows
returns-in-Ok-Stop-clause-knows g c = c.loop.invariant.knows

pub returns-in-Ok-Stop-clause-serves : goal.returns-in-Ok-Stop-clause-serves
returns-in-Ok-Stop-clause-serves g c = c.loop.invariant.serves

pub returns-in-Ok-Stop-clause-up : goal.returns-in-Ok-Stop-clause-up
returns-in-Ok-Stop-clause-up g c = c.loop.invariant.up

pub returns-in-Ok-Stop-clause-moment : goal.returns-in-Ok-Stop-clause-moment
returns-in-Ok-Stop-clause-moment g c = c.loop.invariant.heeded.moment

pub returns-in-Ok-Stop-clause-accepted : goal.returns-in-Ok-Stop-clause-accepted
returns-in-Ok-Stop-clause-accepted g c = c.loop.invariant.heeded.accepted

pub returns-in-Ok-Stop-clause-unheeded : goal.returns-in-Ok-Stop-clause-unheeded
returns-in-Ok-Stop-clause-unheeded g c = tt

pub returns-in-Ok-Stop-clause-others : goal.returns-in-Ok-Stop-clause-others
returns-in-Ok-Stop-clause-others g c = c.loop.invariant.others

pub returns-in-Ok-Stop-clause-err : goal.returns-in-Ok-Stop-clause-err
returns-in-Ok-Stop-clause-err g c = tt
