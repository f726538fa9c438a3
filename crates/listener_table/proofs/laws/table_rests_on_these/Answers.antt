use Rattle.listener_table.proofs.laws.table_rests_on_these.Goals as goal

pub returns : goal.returns
returns c = record {
  turns = c.turns_rest_on_these.ensures;
  frame = c.own_events_tell_the_frame.ensures;
  others = c.others_leave_the_rest_to_the_listener.ensures;
  ends = c.ended_connections_join.ensures;
  editions = c.generations_keep_their_editions.ensures;
  sound = c.events_keep_states_sound.ensures;
  runs = c.made_histories_are_runs.ensures;
}
