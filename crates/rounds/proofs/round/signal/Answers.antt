use Rattle.std.proofs.Common.{◌≡◌, true, false, [], ◌∷◌, None, nat_lt, length, sym, ap, ◌∙◌, arith}
use Rattle.std.proofs.lemmas.Result.{on_ok_weaker}
use Rattle.conn_machine.specs.declared.event.Event.TheVariants as event
use Rattle.conn_machine.specs.declared.state.State.{State}
use Rattle.board.specs.Events.{IsAdded}
use Rattle.rounds.proofs.PassLemmas.{rows-kept}
use Rattle.rounds.proofs.ActLemmas.{acts-added, acts-spelled, is-below, known-none, known-one, not-below}
use Rattle.rounds.proofs.TimelyLemmas.{ready-children, ready-rows, ready-timely}
use Rattle.rounds.proofs.round.signal.Goals as goal

pub returns-then-slot-len-clause-signals : goal.returns-then-slot-len-clause-signals
returns-then-slot-len-clause-signals g c =
    let b = c.args.board.now.book in
    let rows = rows-kept c.histories_keep_sizes.ensures b c.show.ensures.state in
    let seen = ap (λ (s : State). length s.rows) c.state.ensures in
    let without : nat_lt c.args.slot (length b.base.rows) ≡ false = not-below c.args.slot (length b.base.rows) (omega (arith, rows, seen)) in
    acts-spelled [] _ b b (c.passes_act_in_steps.ensures.acts.none 0 None b c.requires.free) (sym (known-none c.args.slot b without))

pub returns-clause-signals : goal.returns-clause-signals
returns-clause-signals g c =
    let b = c.args.board.now in
    let rows = rows-kept c.histories_keep_sizes.ensures b.book c.show.ensures.state in
    let seen = ap (λ (s : State). length s.rows) c.state.ensures in
    let within : nat_lt c.args.slot (length b.book.base.rows) ≡ true = is-below c.args.slot (length b.book.base.rows) (omega (arith, rows, seen)) in
    on_ok_weaker c.ready.result
    (λ (added : IsAdded 0 (event.Ready c.args.slot) b c.ready.new.self).
    acts-spelled (event.Ready c.args.slot ∷ []) _ b.book c.ready.new.self.book
    (acts-added c.passes_act_in_steps.ensures.acts (event.Ready c.args.slot) None b c.ready.new.self added.new_is c.ready.ensures.entries
    (c.ready.ensures.row ∙ c.requires.free))
    (sym (known-one c.args.slot b.book within))) c.ready.ensures.ok

pub returns-clause-timely : goal.returns-clause-timely
returns-clause-timely g c =
    ready-timely c.passes_act_in_steps.ensures.acts c.args.slot c.args.board.now c.ready.new.self c.ready.result c.ready.ensures.ok c.ready.ensures.err
    c.ready.ensures.entries (c.ready.ensures.row ∙ c.requires.free) c.show.ensures.state c.requires.within c.requires.staffed

pub returns-clause-rows : goal.returns-clause-rows
returns-clause-rows g c = ready-rows c.args.slot c.args.board.now c.ready.new.self c.ready.result c.ready.ensures.ok c.ready.ensures.err

pub returns-clause-children : goal.returns-clause-children
returns-clause-children g c = ready-children c.args.slot c.args.board.now c.ready.new.self c.ready.result c.ready.ensures.ok c.ready.ensures.err
