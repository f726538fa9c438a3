use Rattle.lock_examples.proofs.TextLemmas.{may_write, none_seen}
use Rattle.lock_examples.proofs.texts.writes.Goals as goal

pub done-requires-clause-left : goal.done-requires-clause-left
done-requires-clause-left g c = may_write _ _ c.turn-turn.result.kept _ c.turn-turn.ensures.turn c.add.ensures.count c.add.ensures.passes

pub returns-clause-seen : goal.returns-clause-seen
returns-clause-seen g c = none_seen _ _ _ c.turn-turn.result.kept _ c.turn-turn.ensures.turn c.done.ensures.given
