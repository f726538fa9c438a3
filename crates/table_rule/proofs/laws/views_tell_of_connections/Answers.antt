use Rattle.table_rule.proofs.MachineLemmas.{EachKeepsItsOwn, someone_has}
use Rattle.table_rule.proofs.TieLemmas.{views_of}
use Rattle.table_rule.proofs.WorkerLaws.{carried_permits, free_worker, stands_in_view}
use Rattle.table_rule.proofs.laws.views_tell_of_connections.Goals as goal

pub returns-clause-stands : goal.returns-clause-stands
returns-clause-stands g c = λ o s tied.
    let own : EachKeepsItsOwn = record {
      opened = c.each_pass_has_its_own_connection.ensures.opened;
      made = c.each_pass_has_its_own_connection.ensures.made;
      row = c.records_open_with_nothing.ensures.row;
    } in
    stands_in_view (someone_has own) o.base o.passes tied.history s.words s.views tied.first.credits (views_of g.K.Kept.ledger o s tied)

pub returns-clause-carried : goal.returns-clause-carried
returns-clause-carried g c = λ o s tied k.
    let own : EachKeepsItsOwn = record {
      opened = c.each_pass_has_its_own_connection.ensures.opened;
      made = c.each_pass_has_its_own_connection.ensures.made;
      row = c.records_open_with_nothing.ensures.row;
    } in
    carried_permits (someone_has own) o.base o.passes tied.history s.words s.views tied.first.credits (views_of g.K.Kept.ledger o s tied) k

pub returns-clause-room : goal.returns-clause-room
returns-clause-room g c = λ o s tied id k v.
    let own : EachKeepsItsOwn = record {
      opened = c.each_pass_has_its_own_connection.ensures.opened;
      made = c.each_pass_has_its_own_connection.ensures.made;
      row = c.records_open_with_nothing.ensures.row;
    } in
    free_worker (someone_has own) o.base o.passes tied.history s.words s.views tied.first.credits (views_of g.K.Kept.ledger o s tied) k id v
