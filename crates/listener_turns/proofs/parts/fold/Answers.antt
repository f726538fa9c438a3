use Rattle.std.proofs.Common.{ap, sym, ◌∙◌}
use Rattle.table_rule.specs.declared.view.View.{View}
use Rattle.board_turns.proofs.GoesOnLemmas.{may_stay, may_try_fold}
use Rattle.board_turns.proofs.ThenLemmas.{listener_then, nothing_row, nothing_row_as}
use Rattle.listener_turns.proofs.FoldedLemmas.{fold_row_as, folds_all, folds_nothing, kept_none_as, quiet_fold_as, quiet_none, quiet_none_as}
use Rattle.listener_turns.proofs.parts.fold.Goals as goal

pub done-requires-clause-left : goal.done-requires-clause-left
done-requires-clause-left g c = may_stay _ _ (ap (λ (q : View). q.turn) c.turn-turn.ensures.turn.view)

pub returns-then-not-can_fold-clause-listener : goal.returns-then-not-can_fold-clause-listener
returns-then-not-can_fold-clause-listener g c = listener_then _ _ _ _ _ c.turn-turn.ensures.turn c.done.ensures.given c.requires.listener

pub returns-then-not-can_fold-clause-row : goal.returns-then-not-can_fold-clause-row
returns-then-not-can_fold-clause-row g c = nothing_row _ _ _ c.turn-turn.result.kept c.turns_rest_on_these.ensures c.turn-turn.ensures.turn c.done.ensures.given

pub returns-then-not-can_fold-clause-turn : goal.returns-then-not-can_fold-clause-turn
returns-then-not-can_fold-clause-turn g c = quiet_none _ _ _ c.turn-turn.result.kept c.turn-turn.ensures.turn c.done.ensures.given

pub returns-then-not-can_fold-clause-folds : goal.returns-then-not-can_fold-clause-folds
returns-then-not-can_fold-clause-folds g c =
    folds_nothing _ _ _ c.turn-turn.result.kept c.turn-turn.ensures.turn c.done.ensures.given c.requires.listener.number (sym c.can_fold.ensures ∙ c.if-not-can_fold.true)

pub done-requires-2-clause-left : goal.done-requires-2-clause-left
done-requires-2-clause-left g c =
    may_try_fold _ _ c.turn-turn.result.kept c.fold-folded.new.self c.fold-folded.result c.turn-turn.ensures.turn c.requires.listener.number
    c.fold-folded.ensures.ok c.fold-folded.ensures.err

pub returns-in-Ok-clause-listener : goal.returns-in-Ok-clause-listener
returns-in-Ok-clause-listener g c = listener_then _ _ _ _ _ c.turn-turn.ensures.turn c.done-2.ensures.given c.requires.listener

pub returns-in-Ok-clause-row : goal.returns-in-Ok-clause-row
returns-in-Ok-clause-row g c =
    fold_row_as _ _ _ c.turn-turn.result.kept c.fold-folded.new.self c.turns_rest_on_these.ensures c.turn-turn.ensures.turn c.done-2.ensures.given c.in-Ok.ensures.ok

pub returns-in-Ok-clause-turn : goal.returns-in-Ok-clause-turn
returns-in-Ok-clause-turn g c =
    quiet_fold_as _ _ _ c.turn-turn.result.kept c.fold-folded.new.self c.turn-turn.ensures.turn c.done-2.ensures.given c.in-Ok.ensures.ok

pub returns-in-Ok-clause-folds : goal.returns-in-Ok-clause-folds
returns-in-Ok-clause-folds g c =
    folds_all g.N.Known.known _ _ _ c.turn-turn.result.kept c.fold-folded.new.self c.turns_rest_on_these.ensures c.ended_connections_join.ensures
    c.turn-turn.ensures.turn c.done-2.ensures.given c.requires.listener.number c.in-Ok.ensures.ok c.show.ensures.agrees.closed c.show.ensures.agrees.answered
    c.show.ensures.outside.ended

pub returns-in-Err-clause-listener : goal.returns-in-Err-clause-listener
returns-in-Err-clause-listener g c = listener_then _ _ _ _ _ c.turn-turn.ensures.turn c.done-2.ensures.given c.requires.listener

pub returns-in-Err-clause-row : goal.returns-in-Err-clause-row
returns-in-Err-clause-row g c = nothing_row_as _ _ _ c.turn-turn.result.kept c.fold-folded.new.self c.turns_rest_on_these.ensures c.turn-turn.ensures.turn c.done-2.ensures.given c.in-Err.ensures.err

pub returns-in-Err-clause-turn : goal.returns-in-Err-clause-turn
returns-in-Err-clause-turn g c =
    quiet_none_as _ _ _ c.turn-turn.result.kept c.fold-folded.new.self c.turn-turn.ensures.turn c.done-2.ensures.given c.in-Err.ensures.err

pub returns-in-Err-clause-err : goal.returns-in-Err-clause-err
returns-in-Err-clause-err g c =
    kept_none_as _ _ _ c.turn-turn.result.kept c.fold-folded.new.self c.turn-turn.ensures.turn c.done-2.ensures.given c.in-Err.ensures.err
