use Rattle.table_rule.proofs.ShareLaws.{StartsAlone, started_no_permit, started_no_row}
use Rattle.table_rule.proofs.TieLemmas.{views_of}
use Rattle.table_rule.proofs.laws.started_children_have_no_permits.Goals as goal

pub returns-clause-permits : goal.returns-clause-permits
returns-clause-permits g c = λ o s tied id k v.
    let laws : StartsAlone = record {
      own = record {
        opened = c.each_pass_has_its_own_connection.ensures.opened;
        made = c.each_pass_has_its_own_connection.ensures.made;
        row = c.records_open_with_nothing.ensures.row;
      };
      opening = c.events_keep_states_sound.ensures.opening;
      run = c.events_keep_states_sound.ensures.run;
      runs = c.made_histories_are_runs.ensures.run;
      starts = c.started_children_have_nobodys_connection.ensures;
    } in
    started_no_permit laws o.base o.passes tied.history s.words s.views tied.first.credits (views_of g.K.Kept.ledger o s tied) id k v

pub returns-clause-rows : goal.returns-clause-rows
returns-clause-rows g c = λ o s tied id k v name.
    let laws : StartsAlone = record {
      own = record {
        opened = c.each_pass_has_its_own_connection.ensures.opened;
        made = c.each_pass_has_its_own_connection.ensures.made;
        row = c.records_open_with_nothing.ensures.row;
      };
      opening = c.events_keep_states_sound.ensures.opening;
      run = c.events_keep_states_sound.ensures.run;
      runs = c.made_histories_are_runs.ensures.run;
      starts = c.started_children_have_nobodys_connection.ensures;
    } in
    started_no_row laws o.base o.passes tied.history s.words s.views tied.first.credits (views_of g.K.Kept.ledger o s tied) id k v name
