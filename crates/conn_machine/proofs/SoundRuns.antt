-- A sound state stays sound: after what the event table says of an event, and through each run.
use Rattle.std.proofs.Common.{◌≡◌, true, List, [], ◌∷◌, ◌++◌, sym, subst}
use Rattle.conn_machine.specs.declared.event.Event.{Event}
use Rattle.conn_machine.specs.declared.event.Entry.{Entry}
use Rattle.conn_machine.specs.declared.state.State.{State}
use Rattle.conn_machine.specs.Table.{is_allowed, next}
use Rattle.conn_machine.specs.Runs.{Run, after}
use Rattle.conn_machine.specs.Sound.{IsSound}
use Rattle.conn_machine.specs.Laws.{StaysSound}
use Rattle.conn_machine.proofs.SoundLemmas.{keeps_sound}

-- the state that an allowed event makes of a sound one is sound
pub sound_step : (s s' : State) (e : Event) → is_allowed s e ≡ true → s' ≡ next s e → IsSound s → IsSound s'
sound_step s s' e may made sound = subst IsSound (sym made) (keeps_sound s e sound may)

-- after the first entries of a run from a sound state the state is sound
sound_after : (s : State) (before rest : List Entry) → IsSound s → Run s (before ++ rest) → IsSound (after s before)
sound_after s [] rest sound run = sound
sound_after s (e ∷ before) rest sound run =
    sound_after (next s e.event) before rest (keeps_sound s e.event sound run.0) run.2

-- so it is after each first part of the history
pub run_stays_sound : (s : State) (history : List Entry) → IsSound s → Run s history → StaysSound s history
run_stays_sound s history sound run before rest is = sound_after s before rest sound (subst (Run s) is run)
