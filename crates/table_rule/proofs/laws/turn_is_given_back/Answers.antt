use Rattle.table_rule.proofs.GiveLaws.{gives_law}
use Rattle.table_rule.proofs.MachineLemmas.{EachKeepsItsOwn, rows_stay}
use Rattle.table_rule.proofs.laws.turn_is_given_back.Goals as goal

pub returns : goal.returns
returns g c = λ o slots id n me kept.
    let own : EachKeepsItsOwn = record {
      opened = c.each_pass_has_its_own_connection.ensures.opened;
      made = c.each_pass_has_its_own_connection.ensures.made;
      row = c.records_open_with_nothing.ensures.row;
    } in
    gives_law g.K.Kept.ledger o
    (record {
      opening = c.events_keep_states_sound.ensures.opening;
      step = c.events_keep_states_sound.ensures.step;
      run = c.events_keep_states_sound.ensures.run;
      runs = c.made_histories_are_runs.ensures.run;
      made = c.passes_add_entries.ensures.made;
      seen = c.passes_add_entries.ensures.seen;
      row = c.records_open_with_nothing.ensures.row;
      twice = c.folds_are_one_fold.ensures.twice;
      begun = c.folds_are_one_fold.ensures.opening;
      stays = rows_stay own c.connections_stay_while_others_go_on.ensures.row;
    }) slots id me kept n
