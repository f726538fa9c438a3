use Rattle.std.proofs.Common.{None, Some, ap, refl, sym, ◌∙◌}
use Rattle.board.specs.Board.{SeenBoard}
use Rattle.rounds.proofs.HaltLemmas.{acts-stopped, acts-unstopped, halts-as, may-halt}
use Rattle.rounds.proofs.down.halt.Goals as goal

pub halt-requires-clause-allowed : goal.halt-requires-clause-allowed
halt-requires-clause-allowed g c =
    may-halt c.args.turns c.in-Ok.end c.in-Some.why c.args.board.now.book c.in-Ok.is (sym c.why.ensures ∙ c.in-Some.is) c.requires.must

pub returns-in-Some-clause-acts : goal.returns-in-Some-clause-acts
returns-in-Some-clause-acts g c =
    acts-stopped c.passes_act_in_steps.ensures.acts c.args.turns c.in-Ok.end c.in-Some.why c.args.board.now c.halt.new.self c.in-Ok.is
    (sym c.why.ensures ∙ c.in-Some.is) c.requires.free c.halt.ensures.is c.halt.ensures.entries c.halt.ensures.row

pub returns-in-Some-clause-stopped : goal.returns-in-Some-clause-stopped
returns-in-Some-clause-stopped g c =
    halts-as c.args.turns c.in-Ok.end (Some c.in-Some.why) _ _ c.in-Ok.is (sym c.why.ensures ∙ c.in-Some.is)
    (ap (λ (b : SeenBoard). b.book.state.going) c.halt.ensures.is)

pub returns-in-None-clause-acts : goal.returns-in-None-clause-acts
returns-in-None-clause-acts g c =
    acts-unstopped c.passes_act_in_steps.ensures.acts c.args.turns c.in-Ok.end c.args.board.now.book c.in-Ok.is (sym c.why.ensures ∙ c.in-None.is) c.requires.free

pub returns-in-None-clause-stopped : goal.returns-in-None-clause-stopped
returns-in-None-clause-stopped g c =
    halts-as c.args.turns c.in-Ok.end None _ _ c.in-Ok.is (sym c.why.ensures ∙ c.in-None.is) refl
