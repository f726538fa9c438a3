use Rattle.std.proofs.Common.{◌≡◌, ◌+◌, ◌≤◌, inl, true, length, refl, sym, ap, subst, ◌∙◌, arith, length-append}
use Rattle.conn_state.specs.Rest.{is_in_head}
use Rattle.conn_state.specs.Reader.{SeenReader, StandsFor}
use Rattle.conn_state.proofs.CallLemmas.{reads-so_far, reads-done, reads-more, reads-end, has-room}
use Rattle.conn_state.proofs.ReaderLemmas.{come-none, come-step, come-more, come-few, asks-in_need, step-waits, found-no_memory, reads-last, none-answerable, counts-none, few-none, counts-head, counts-piece, behind_head}
use Rattle.conn_state.proofs.reader.RequestReader.read_turn.Goals.{in-Accepted, in-Wants+in_default}
use Rattle.conn_state.proofs.reader.RequestReader.read_turn.Goals as goal

pub loop-init : goal.loop-init
loop-init g c = record {
  come = come-none _ _;
  each = counts-none c.args.self.now.stage;
  few = few-none;
  asks = λ rest h. inl refl;
  calls = reads-so_far _ _ _ (omega arith);
  head = λ e. e;
  still = λ rest h a. refl;
}

pub returns-in-Whole-clause-rooms : goal.returns-in-Whole-clause-rooms
returns-in-Whole-clause-rooms g c = reads-done _ _ _ _ c.loop.invariant.calls

pub returns-in-Awaited-clause-rooms : goal.returns-in-Awaited-clause-rooms
returns-in-Awaited-clause-rooms g c = reads-done _ _ _ _ c.loop.invariant.calls

pub returns-in-NoMemory-clause-rooms : goal.returns-in-NoMemory-clause-rooms
returns-in-NoMemory-clause-rooms g c = reads-done _ _ _ _ c.loop.invariant.calls

pub returns-in-NoMemory-clause-reads : goal.returns-in-NoMemory-clause-reads
returns-in-NoMemory-clause-reads g c =
    found-no_memory _ _ c.args.self.now c.loop.self c.step.new.self c.loop.invariant.come c.step.ensures.limits c.loop.invariant.asks c.in-NoMemory.ensures.steps

pub take_piece-requires : goal.take_piece-requires
take_piece-requires g c =
    (step-waits _ _ c.args.self.now c.loop.self c.step.new.self c.loop.invariant.come c.step.ensures.limits c.in-Wants.ensures.steps c.self.invariant.0
    (subst (λ (r : SeenReader). StandsFor r c.self.invariant.0) c.self.view_is c.self.invariant.1)).short

pub returns-in-Some-clause-reads : goal.returns-in-Some-clause-reads
returns-in-Some-clause-reads g c =
    let further = come-step _ _ c.args.self.now c.loop.self c.step.new.self _ c.loop.invariant.come c.step.ensures.limits c.in-Wants.ensures.steps refl in
    reads-last _ _ _ c.args.self.now c.step.new.self c.take_piece.new.self further c.items_wait_for_nothing.ensures c.waiting_clients_are_found.ensures.found c.in-Some.answer
    (step-waits _ _ c.args.self.now c.loop.self c.step.new.self c.loop.invariant.come c.step.ensures.limits c.in-Wants.ensures.steps) c.in-Some.ensures.takes

pub returns-in-Some-clause-rooms : goal.returns-in-Some-clause-rooms
returns-in-Some-clause-rooms g c =
    let further = come-step _ _ c.args.self.now c.loop.self c.step.new.self _ c.loop.invariant.come c.step.ensures.limits c.in-Wants.ensures.steps refl in
    let first = subst (λ (r : SeenReader). StandsFor r c.self.invariant.0) c.self.view_is c.self.invariant.1 in
    reads-end _ _ _ _ _ _ c.in-Some.ensures.asks.answer c.loop.invariant.calls c.in-Some.ensures.asks.calls_is
    (has-room c.args.self.now c.step.new.self c.self.invariant.0 c.loop.invariant.come.got
    (λ e. c.loop.invariant.head (sym c.in-Wants.ensures.steps.finds.same_head ∙ e)) first (further.stands c.self.invariant.0 first))

pub returns-in-Some-clause-still : goal.returns-in-Some-clause-still
returns-in-Some-clause-still g c rest h a =
    let come = c.loop.invariant.come in
    let further = come-step _ _ c.args.self.now c.loop.self c.step.new.self _ come c.step.ensures.limits c.in-Wants.ensures.steps refl in
    absurd (none-answerable c.keeps_answer.ensures.whole c.keeps_spelling.ensures.requests c.keeps_spelling.ensures.refusal c.items_wait_for_nothing.ensures
    c.waiting_clients_are_found.ensures.found c.args.self.now c.step.new.self rest come.got further.same_limits further.same_client
    (step-waits _ _ c.args.self.now c.loop.self c.step.new.self come c.step.ensures.limits c.in-Wants.ensures.steps rest h) a)

pub loop-preserved : goal.loop-preserved
loop-preserved g c =
    let come = c.loop.invariant.come in
    elim c.match-step.branch [
      | in-Accepted w ↦
          rw (w.self-is, w.link-is)
          (record {
            come = come-step _ _ c.args.self.now c.loop.self c.step.new.self _ come c.step.ensures.limits w.in-Accepted.ensures.steps refl;
            each = counts-head c.loop.counter (length come.got) c.loop.self.stage c.step.new.self.stage c.loop.invariant.each w.in-Accepted.ensures.steps.finds;
            few = c.loop.invariant.few;
            asks = c.loop.invariant.asks;
            calls = c.loop.invariant.calls;
            head = λ e. c.loop.invariant.head w.in-Accepted.ensures.steps.finds.in_head;
            still = c.loop.invariant.still;
          })
      | in-Wants+in_default w ↦
          let further = come-step _ _ c.args.self.now c.loop.self c.step.new.self _ come c.step.ensures.limits w.in-Wants.ensures.steps refl in
          let waits = step-waits _ _ c.args.self.now c.loop.self c.step.new.self come c.step.ensures.limits w.in-Wants.ensures.steps in
          let some = w.in_default.ensures.takes in
          let asks = w.in_default.ensures.asks in
          let first = subst (λ (r : SeenReader). StandsFor r c.self.invariant.0) c.self.view_is c.self.invariant.1 in
          let behind : is_in_head c.step.new.self.stage ≡ true → is_in_head c.args.self.now.stage ≡ true =
          λ e. c.loop.invariant.head (sym w.in-Wants.ensures.steps.finds.same_head ∙ e) in
          let size = length-append come.got some.come.got in
          let few = come-few c.step.new.self c.self.invariant.0 come.got (waits c.self.invariant.0 (subst (λ (r : SeenReader). StandsFor r c.self.invariant.0) c.self.view_is c.self.invariant.1)) in
          rw (w.self-is, w.link-is)
          (record {
            come = come-more _ _ _ c.args.self.now c.step.new.self w.take_piece.new.self further some.come;
            each = subst (λ n. c.loop.counter + 1 ≤ n + behind_head w.take_piece.new.self.stage) (sym size)
                (counts-piece c.loop.counter (length come.got) (length some.come.got) c.loop.self.stage c.step.new.self.stage w.take_piece.new.self.stage
                c.loop.invariant.each w.in-Wants.ensures.steps.finds some.same_stage some.some);
            few = omega (arith, few, size, some.few);
            asks = asks-in_need c.items_wait_for_nothing.ensures c.waiting_clients_are_found.ensures.found _ _ c.args.self.now c.step.new.self further
                some.come.got waits some.few;
            calls = reads-more _ _ _ _ _ _ asks.answer c.loop.invariant.calls asks.calls_is
                (has-room c.args.self.now c.step.new.self c.self.invariant.0 come.got behind first (further.stands c.self.invariant.0 first)) _
                (omega (arith, size, asks.kept_is refl, ap length some.kept, length-append c.step.new.self.unread some.come.got));
            head = λ e. behind (ap is_in_head (sym some.same_stage) ∙ e);
            still = λ rest h a. absurd (none-answerable c.keeps_answer.ensures.whole c.keeps_spelling.ensures.requests c.keeps_spelling.ensures.refusal
                c.items_wait_for_nothing.ensures c.waiting_clients_are_found.ensures.found c.args.self.now c.step.new.self rest come.got
                further.same_limits further.same_client (waits rest h) a);
          })
    ]
