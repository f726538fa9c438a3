use Rattle.std.proofs.Common.{refl}
use Rattle.stand_ins.proofs.HistoryLemmas.{count-kept, history-change}
use Rattle.stand_ins.proofs.history.History.set.Goals as goal

pub invariant_of-self-2 : goal.invariant_of-self-2
invariant_of-self-2 c = rw (c.in_ok-push_back.ensures.items, count-kept _ _ _ refl) c.self.invariant

pub returns-clause-ok : goal.returns-clause-ok
returns-clause-ok c = rw (← c.self.view_is, c.in_ok-push_back.ensures.items, history-change _ _ refl, c.in_ok-entry.ensures) refl
