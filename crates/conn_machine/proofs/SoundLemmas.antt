-- Every event keeps a sound state sound.
use Rattle.std.proofs.Common.{◌≡◌, true}
use Rattle.conn_machine.specs.declared.event.Event.{Event}
use Rattle.conn_machine.specs.declared.event.Event.TheVariants as event
use Rattle.conn_machine.specs.declared.state.State.{State}
use Rattle.conn_machine.specs.Table.{is_allowed, next}
use Rattle.conn_machine.specs.Sound.{IsSound}
use Rattle.conn_machine.proofs.RowSound.{sound-accept, sound-park, sound-hold, sound-queue, sound-start, sound-answer, sound-linger, sound-close}
use Rattle.conn_machine.proofs.ChildSound.{sound-ready, sound-tick, sound-start_child, sound-command, sound-retire}

pub keeps_sound : (s : State) (e : Event) → IsSound s → is_allowed s e ≡ true → IsSound (next s e)
keeps_sound s (event.Accept slot) sound may = sound-accept s slot sound may
keeps_sound s (event.Park name kind) sound may = sound-park s name kind sound may
keeps_sound s (event.Hold name) sound may = sound-hold s name sound may
keeps_sound s (event.Queue name) sound may = sound-queue s name sound may
keeps_sound s (event.Start name) sound may = sound-start s name sound may
keeps_sound s (event.Answer name ask) sound may = sound-answer s name ask sound may
keeps_sound s (event.Linger name why) sound may = sound-linger s name why sound may
keeps_sound s (event.Close name why how) sound may = sound-close s name why how sound may
keeps_sound s (event.Ready slot) sound may = sound-ready s slot sound
keeps_sound s (event.Tick m) sound may = sound-tick s m sound may
keeps_sound s (event.StartChild k) sound may = sound-start_child s k sound may
keeps_sound s (event.Command c) sound may = sound-command s c sound may
keeps_sound s (event.Retire k) sound may = sound-retire s k sound may
