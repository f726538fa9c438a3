-- That a pass listens is a fact: it is so in one way at most.
use Rattle.std.specs.Prelude.{List, [], ◌∷◌, ◌++◌}
use Rattle.std.proofs.Props.{props}
use mathlib.Core.HLevel.{×_prop, Unit-prop}
use Rattle.conn_machine.specs.declared.event.Entry.{Entry}
use Rattle.conn_machine.specs.declared.folded.Folded.{Folded}
use Rattle.conn_machine.specs.declared.state.State.{State}
use Rattle.conn_machine.specs.Made.{AreMadeBehind}
use Rattle.conn_machine.specs.Runs.{IsNextOf}

pub next_prop : (base : State) (f : Folded) (history : List Entry) (e : Entry) → IsProp (IsNextOf e.pass base f history e)
next_prop base f history e = Prim.hlevel props

pub made_prop : (base : State) (f : Folded) (before entries : List Entry) → IsProp (AreMadeBehind base f before entries)
made_prop base f before [] = Unit-prop
made_prop base f before (e ∷ entries) = ×_prop (next_prop base f before e) (made_prop base f (before ++ e ∷ []) entries)

-- what shows that a pass listens
pub ruleset listens_props = (props, made_prop)
