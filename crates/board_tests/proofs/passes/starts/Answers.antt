use Rattle.board_tests.proofs.BoardLemmas.{has_passes, may_end, may_stay}
use Rattle.board_tests.proofs.passes.starts.Goals as goal

pub start_child-started-requires-clause-who : goal.start_child-started-requires-clause-who
start_child-started-requires-clause-who g c = has_passes _ _ c.turn-turn.result.kept c.turn-turn.ensures.turn

pub done-requires-clause-left : goal.done-requires-clause-left
done-requires-clause-left g c = may_stay _ _ c.turn-turn.result.kept c.turn-turn.ensures.turn

pub done-requires-2-clause-left : goal.done-requires-2-clause-left
done-requires-2-clause-left g c =
    may_end _ _ c.turn-turn.result.kept c.start_child-started.new.self 0 c.start_child-started.result
    c.values_stand_for_whole_histories.ensures.entries c.turn-turn.ensures.turn c.requires.number
    c.start_child-started.ensures.ok c.start_child-started.ensures.err c.start_child-started.ensures.entries
