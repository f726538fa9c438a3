use Rattle.table_rule.proofs.IdleLaws.{idles_law}
use Rattle.table_rule.proofs.MachineLemmas.{EachKeepsItsOwn, someone_has}
use Rattle.table_rule.proofs.laws.idle_word_is_looked_at.Goals as goal

pub returns : goal.returns
returns g c = λ o slots id k me.
    let own : EachKeepsItsOwn = record {
      opened = c.each_pass_has_its_own_connection.ensures.opened;
      made = c.each_pass_has_its_own_connection.ensures.made;
      row = c.records_open_with_nothing.ensures.row;
    } in
    idles_law g.K.Kept.ledger o (someone_has own) slots id me k
