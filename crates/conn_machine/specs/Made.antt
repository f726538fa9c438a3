-- Histories that passes made, and states in which a server opens.
use Rattle.std.specs.Prelude.{◌≡◌, ℕ, ◌≤◌, true, List, [], ◌∷◌, ◌++◌, ⊤}
use Rattle.mpm_base.specs.declared.shape.Shape.{Shape}
use Rattle.conn_machine.specs.declared.event.Entry.{Entry}
use Rattle.conn_machine.specs.declared.folded.Folded.{Folded}
use Rattle.conn_machine.specs.declared.state.State.{State}
use Rattle.mpm_base.specs.Shape.{is_in_bounds}
use Rattle.conn_machine.specs.States.{opening_state}
use Rattle.conn_machine.specs.Runs.{IsNextOf, entries_of}

-- the state is one in which a server opens
pub record IsOpened (s : State) : Type 0 where
  pub slots : ℕ
  pub children : ℕ
  pub shape : Shape
  pub bounds : is_in_bounds shape ≡ true
  pub state : s ≡ opening_state slots children shape

-- behind the entries before them, each of these is one that its pass may make where it stands
abbrev pub AreMadeBehind : State → Folded → List Entry → List Entry → Type 0
AreMadeBehind base f before [] = ⊤
AreMadeBehind base f before (e ∷ entries) =
    IsNextOf e.pass base f before e × AreMadeBehind base f (before ++ e ∷ []) entries

-- each entry of the history is one that its pass may make where it stands
abbrev pub AreMade : State → Folded → List Entry → Type 0
AreMade base f history = AreMadeBehind base f [] history

-- no pass but the first so many made an entry
abbrev pub AreOfPasses : ℕ → List Entry → Type 0
AreOfPasses passes history = (p : ℕ) → passes ≤ p → entries_of p history ≡ []

-- the pass has seen the first of the history, and made no entry behind that
abbrev pub HasSeen : ℕ → List Entry → List Entry → Type 0
HasSeen p seen history = (rest : List Entry) × (history ≡ seen ++ rest) × (entries_of p rest ≡ [])
