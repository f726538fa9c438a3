use Rattle.conn_machine.proofs.ChildSound.{sound-opening}
use Rattle.conn_machine.proofs.SoundLemmas.{keeps_sound}
use Rattle.conn_machine.proofs.SoundRuns.{run_stays_sound}
use Rattle.conn_machine.proofs.laws.events_keep_states_sound.Goals as goal

pub returns : goal.returns
returns c =
    record {
      opening = sound-opening;
      step = keeps_sound;
      run = run_stays_sound;
    }
