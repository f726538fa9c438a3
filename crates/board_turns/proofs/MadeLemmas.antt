-- That each entry of a history was made by its pass as it might be.
use Rattle.std.proofs.Common.{◌≡◌, ℕ, List, [], ◌∷◌, ◌++◌, sym, subst, append-nil, append_assoc}
use Rattle.conn_machine.specs.declared.event.Entry.{Entry}
use Rattle.conn_machine.specs.declared.folded.Folded.{Folded}
use Rattle.conn_machine.specs.declared.state.State.{State}
use Rattle.conn_machine.specs.Made.{AreMade, AreMadeBehind}
use Rattle.conn_machine.specs.Runs.{Adds, AreEntriesOf, IsNextOf}

-- what a pass may add behind a history is made behind it
pub entries_made : (p : ℕ) (base : State) (f : Folded) (history added : List Entry) → AreEntriesOf p base f history added → AreMadeBehind base f history added
entries_made p base f history [] are = tt
entries_made p base f history (e ∷ added) are = (
  subst (λ (q : ℕ). IsNextOf q base f history e) (sym are.0.pass) are.0,
  entries_made p base f (history ++ e ∷ []) added are.1,
)

-- and both are made as one
pub made_join : (base : State) (f : Folded) (before xs ys : List Entry) → AreMadeBehind base f before xs → AreMadeBehind base f (before ++ xs) ys
    → AreMadeBehind base f before (xs ++ ys)
made_join base f before [] ys first second = subst (λ (l : List Entry). AreMadeBehind base f l ys) (append-nil before) second
made_join base f before (x ∷ xs) ys first second = (
  first.0,
  made_join base f (before ++ x ∷ []) xs ys first.1 (subst (λ (l : List Entry). AreMadeBehind base f l ys) (sym (append_assoc before (x ∷ []) xs)) second),
)

-- a history that its passes made goes on by what a pass may add
pub made_adds : (p : ℕ) (base : State) (f : Folded) (old new : List Entry) → AreMade base f old → Adds p base f old new → AreMade base f new
made_adds p base f old new made adds =
    subst (AreMade base f) (sym adds.1) (made_join base f [] old adds.0 made (entries_made p base f old adds.0 adds.2))
