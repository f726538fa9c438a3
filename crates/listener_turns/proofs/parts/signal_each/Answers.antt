use Rattle.std.proofs.Common.{◌≡◌, ◌+◌, length, take, drop, slice_index, [], ◌∷◌, ◌++◌, refl, sym, ap, subst, ◌∙◌, append_assoc}
use Rattle.std.proofs.lemmas.List.{take_more, take-append-drop}
use Rattle.board.specs.Board.{SeenBoard}
use Rattle.listener_turns.specs.PartsInside.{MadeEvents}
use Rattle.listener_turns.specs.Signals.{ready_events}
use Rattle.listener_turns.proofs.ManyLemmas.{made_as, none_made, on_err, signals_more, take_whole}
use Rattle.listener_turns.proofs.parts.signal_each.Goals as goal

pub loop-slot-init : goal.loop-slot-init
loop-slot-init g c = record { made = none_made 0 c.args.board.now; rows = refl }

pub loop-slot-preserved : goal.loop-slot-preserved
loop-slot-preserved g c =
    let slots = c.args.slots.now in
    let i = c.loop-slot.slot-index in
    let count = length c.args.board.now.book.state.rows in
    let more : take (i + 1) slots ≡ take i slots ++ slice_index slots i ∷ [] = take_more slots i 0 c.loop-slot-test.true in
    record {
      made =
          made_as 0 (ready_events count (take i slots ++ slice_index slots i ∷ [])) (ready_events count (take (i + 1) slots)) c.args.board.now c.signal.new.board
          (ap (ready_events count) (sym more))
          (signals_more count (length c.loop-slot.board.book.state.rows) (slice_index slots i) (take i slots) c.args.board.now c.loop-slot.board c.signal.new.board
          (ap length c.loop-slot.invariant.rows) c.loop-slot.invariant.made c.in_ok-signal.ensures.signals);
      rows = c.signal.ensures.rows ∙ c.loop-slot.invariant.rows;
    }

pub returns-clause-all : goal.returns-clause-all
returns-clause-all g c =
    let slots = c.args.slots.now in
    let i = c.loop-slot.slot-index in
    let count = length c.args.board.now.book.state.rows in
    made_as 0 (ready_events count (take i slots)) (ready_events count slots) c.args.board.now c.loop-slot.board
    (ap (ready_events count) (take_whole i slots c.loop-slot-test.false)) c.loop-slot.invariant.made

pub returns-in_err-signal-clause-first : goal.returns-in_err-signal-clause-first
returns-in_err-signal-clause-first g c =
    let slots = c.args.slots.now in
    let i = c.loop-slot.slot-index in
    let count = length c.args.board.now.book.state.rows in
    let more : take (i + 1) slots ≡ take i slots ++ slice_index slots i ∷ [] = take_more slots i 0 c.loop-slot-test.true in
    let split : slots ≡ take i slots ++ slice_index slots i ∷ drop (i + 1) slots =
    sym (take-append-drop (i + 1) slots) ∙ ap (λ l. l ++ drop (i + 1) slots) more
    ∙ append_assoc (take i slots) (slice_index slots i ∷ []) (drop (i + 1) slots) in
    on_err c.from_residual.result (
      take i slots,
      slice_index slots i,
      drop (i + 1) slots,
      split,
      subst (λ (b : SeenBoard). MadeEvents 0 (ready_events count (take i slots)) c.args.board.now b) (sym c.in_err-signal.ensures.err) c.loop-slot.invariant.made,
    )
