use Rattle.conn_machine.proofs.FrameLaw.{frame_step, own_tell, own_tell_since}
use Rattle.conn_machine.proofs.laws_between_turns.own_events_tell_the_frame.Goals as goal

pub returns : goal.returns
returns c =
    record {
      step = frame_step;
      frame = own_tell;
      since = own_tell_since;
    }
