use Rattle.stand_ins.proofs.HistoryLemmas.{later-told}
use Rattle.stand_ins.proofs.editions.Editions.later.Goals as goal

pub returns-clause-ok : goal.returns-clause-ok
returns-clause-ok c =
    let e = c.self.inside in
    rw (← c.self.view_is, c.in_ok-push_back.ensures.items) (later-told e.shelf.files e.coming.items e.wholes.items c.args.files)
