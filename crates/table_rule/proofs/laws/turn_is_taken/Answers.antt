use Rattle.table_rule.proofs.MachineLemmas.{EachKeepsItsOwn, rows_stay, someone_has}
use Rattle.table_rule.proofs.TurnLaws.{takes_law}
use Rattle.table_rule.proofs.laws.turn_is_taken.Goals as goal

pub returns : goal.returns
returns g c = λ o slots id n me.
    let own : EachKeepsItsOwn = record {
      opened = c.each_pass_has_its_own_connection.ensures.opened;
      made = c.each_pass_has_its_own_connection.ensures.made;
      row = c.records_open_with_nothing.ensures.row;
    } in
    takes_law g.K.Kept.ledger o (someone_has own) (rows_stay own c.connections_stay_while_others_go_on.ensures.row) slots id me n
