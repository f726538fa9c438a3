use Rattle.listener_parts.proofs.TimesLemmas.{own_tell_time}
use Rattle.listener_parts.proofs.laws.own_events_tell_the_time.Goals as goal

pub returns : goal.returns
returns c =
    own_tell_time c.turns_rest_on_these.ensures c.events_keep_states_sound.ensures c.nothing_is_done_behind_the_end.ensures
    c.others_leave_the_rest_to_the_listener.ensures c.own_events_tell_the_frame.ensures
