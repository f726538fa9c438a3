use Rattle.std.proofs.Common.{◌≡◌, ◌+◌, not, take, drop, slice_index, [], ◌∷◌, ◌++◌, sym, ap, subst, rules, ◌∙◌}
use Rattle.std.specs.List.{list_any}
use Rattle.conn_machine.specs.Children.{is_empty}
use Rattle.conn_machine.specs.declared.child.Child.{Child}
use Rattle.std.proofs.lemmas.List.{take_more, take-append-drop}
use Rattle.board.specs.Board.{SeenBoard}
use Rattle.board_book.specs.Faults.{IsRefusedFor}
use Rattle.rounds.specs.PartsInside.{SignalsFirst, signal_events}
use Rattle.rounds.proofs.ActLemmas.{acts-spelled, on-err, signals-begun, signals-more}
use Rattle.rounds.proofs.round.signal_all.Goals as goal

pub returns-in_err-signal-clause-first : goal.returns-in_err-signal-clause-first
returns-in_err-signal-clause-first g c =
    on-err c.from_residual.result _
    (subst (λ (b : SeenBoard). SignalsFirst c.args.slots.now c.args.board.now.book b.book) (sym c.in_err-signal.ensures.refused)
    (signals-begun c.args.slots.now (take c.loop-slot.slot-index c.args.slots.now) (drop c.loop-slot.slot-index c.args.slots.now)
    c.args.board.now.book c.loop-slot.board.book (sym (take-append-drop c.loop-slot.slot-index c.args.slots.now)) c.loop-slot.invariant.acts))

pub returns-in_err-signal-clause-why : goal.returns-in_err-signal-clause-why
returns-in_err-signal-clause-why g c =
    let why : IsRefusedFor c.in_err-signal.field-0.0 c.signal.new.board.book =
    subst (λ (b : SeenBoard). IsRefusedFor c.in_err-signal.field-0.0 b.book) (sym c.in_err-signal.ensures.refused) c.in_err-signal.ensures.why in
    search (rules, why)

pub loop-slot-preserved : goal.loop-slot-preserved
loop-slot-preserved g c =
    let slots = c.args.slots.now in
    let i = c.loop-slot.slot-index in
    let more : take (i + 1) slots ≡ take i slots ++ slice_index slots i ∷ [] = take_more slots i 0 c.loop-slot-test.true in
    record {
      acts =
          acts-spelled _ (signal_events c.args.board.now.book (take (i + 1) slots)) c.args.board.now.book c.signal.new.board.book
          (signals-more c.passes_act_in_steps.ensures.acts (take i slots) (slice_index slots i) c.args.board.now.book c.loop-slot.board.book c.signal.new.board.book
          c.loop-slot.invariant.acts c.in_ok-signal.ensures.signals) (ap (signal_events c.args.board.now.book) (sym more));
      rest = c.passes_act_in_steps.ensures.rest c.args.board.now.book c.loop-slot.board.book c.signal.new.board.book c.loop-slot.invariant.rest c.signal.ensures.rest;
      timely = λ before. c.signal.ensures.timely (c.loop-slot.invariant.timely before);
      rows = c.signal.ensures.rows ∙ c.loop-slot.invariant.rows;
      children = c.signal.ensures.children ∙ c.loop-slot.invariant.children;
    }

pub signal-requires-clause-within : goal.signal-requires-clause-within
signal-requires-clause-within g c =
    rw (c.loop-slot.invariant.rest.moment, c.loop-slot.invariant.rest.going) c.requires.within

pub signal-requires-clause-staffed : goal.signal-requires-clause-staffed
signal-requires-clause-staffed g c =
    ap (list_any (λ (c : Child). not (is_empty c.phase))) c.loop-slot.invariant.children ∙ c.requires.staffed

pub returns-in_err-signal-clause-timely : goal.returns-in_err-signal-clause-timely
returns-in_err-signal-clause-timely g c before = c.signal.ensures.timely (c.loop-slot.invariant.timely before)
