-- What the parts of a round make of what came with a wait.
use Rattle.std.specs.Prelude.{◌≡◌, ◌<◌, ◌≤◌, ◌+◌, ◌||◌, ℕ, Bool, true, false, List, [], ◌∷◌, ◌++◌, length, map, replicate, Option, None, Some}
use Rattle.std.specs.List.{list_any}
use Rattle.mpm_base.specs.Count.{greatest_count}
use Rattle.mpm_base.specs.Front.{FrontTold, TellsOn}
use Rattle.mpm_base.specs.declared.script_line.CommandWord.{CommandWord}
use Rattle.mpm_base.specs.declared.script_line.CommandWord.TheVariants as word
use Rattle.board_book.specs.Book.{SeenBook}
use Rattle.listener_round.specs.Commands.{asked_by, asks_to_end}
use Rattle.listener_round.specs.Pace.{Brought, Share, brought, lines_between, made_of, ordered, taken}
use Rattle.rounds.specs.declared.ends.End.{End}
use Rattle.rounds.specs.declared.ends.End.TheVariants as end
use Rattle.board_book.specs.Moments.{known_slots}
use Rattle.rounds.specs.TableInside.{NoneDueLate, StandsInTime}
use Rattle.conn_machine.specs.States.{is_at_its_end}
use Rattle.conn_machine.specs.declared.state.State.{State}

-- ## Command lines

-- the lines that were read ask for this, and none was given back
pub record ReadsFor (words : List CommandWord) (t t' : FrontTold) : Type 0 where
  pub reads : t'.read < greatest_count → t.read ≤ t'.read
  pub asks : t'.read < greatest_count → words ≡ asked_by t.hushed (lines_between t'.lines t.read t'.read)

-- listening was stopped where one of them asks for a graceful stop
abbrev pub HushesFor : FrontTold → FrontTold → Type 0
HushesFor t t' =
    t'.read < greatest_count → t'.hushed ≡ (list_any asks_to_end (lines_between t'.lines t.read t'.read) || t.hushed)

-- command lines were read, and what they ask for was done, but for these words at the end
pub record DoesAsked (missing : List CommandWord) (told told' : Option FrontTold) (old new : SeenBook) : Type 0 where
  pub words : List CommandWord
  pub asked : TellsOn (ReadsFor words) told told'
  pub made : brought new.history ++ map ordered missing ≡ brought old.history ++ map ordered words

-- what is missing behind the lines, where the last one asks to stop
abbrev pub stop_if : Bool → List CommandWord
stop_if true = word.Stop ∷ []
stop_if false = []

-- what the last one asks for was refused
abbrev pub DoesAllButOne : Option FrontTold → Option FrontTold → SeenBook → SeenBook → Type 0
DoesAllButOne told told' old new = (last : CommandWord) × DoesAsked (last ∷ []) told told' old new

-- ## Connections

-- so many were handed out
abbrev pub HandsMany : ℕ → FrontTold → FrontTold → Type 0
HandsMany handed t t' = t'.accepted < greatest_count → t.accepted + handed ≡ t'.accepted

-- connections were handed out, and taken, but for so many at the end
pub record TakesHanded (missing : ℕ) (told told' : Option FrontTold) (old new : SeenBook) : Type 0 where
  pub handed : ℕ
  pub counted : TellsOn (HandsMany handed) told told'
  pub made : brought new.history ++ replicate missing taken ≡ brought old.history ++ replicate handed taken

-- the last one may not have been taken
pub record TakesAllButOne (told told' : Option FrontTold) (old new : SeenBook) : Type 0 where
  pub missing : ℕ
  pub one : missing ≤ 1
  pub takes : TakesHanded missing told told' old new

-- one that could not be taken was, or wasn't
pub record MakesOneAtMost (old new : SeenBook) : Type 0 where
  pub many : ℕ
  pub one : many ≤ 1
  pub made : brought new.history ≡ brought old.history ++ replicate many taken

-- ## A round

-- behind a round that ended the turns for this, or didn't, the server stands in its time; a graceful stop is at its end exactly where the
-- turns end for that
abbrev pub GoesOnInTime : Option End → State → Type 0
GoesOnInTime None s = StandsInTime s × NoneDueLate s
GoesOnInTime (Some end.Gone) s = is_at_its_end s ≡ true
GoesOnInTime (Some end.Asked) s = is_at_its_end s ≡ false
GoesOnInTime (Some end.Overdue) s = is_at_its_end s ≡ false
GoesOnInTime (Some end.Ended) s = is_at_its_end s ≡ false
GoesOnInTime (Some end.Failed) s = is_at_its_end s ≡ false

-- the share came with a wait that gave these slots, to which the clock answered this, of what the front gave behind it
pub record ComesWith (answer : ℕ) (slots : List ℕ) (rows : ℕ) (s : Share) (told told' : Option FrontTold) : Type 0 where
  pub answer_is : s.answer ≡ Some answer
  pub signals : s.signals ≡ known_slots rows slots
  pub asked : TellsOn (ReadsFor s.orders) told told'
  pub counted : TellsOn (HandsMany s.handed) told told'

-- what a round that ended the turns for this, or didn't, made of a share at this moment: before it this was made, and now that
abbrev pub MakesFor : Option End → ℕ → Share → List Brought → List Brought → Type 0
MakesFor None moment s old new = new ≡ old ++ made_of moment s
MakesFor (Some end.Gone) moment s old new = (s.handed ≡ 0) × (new ≡ old ++ made_of moment s)
MakesFor (Some end.Asked) moment s old new = (s.handed ≡ 0) × (new ++ ordered word.Stop ∷ [] ≡ old ++ made_of moment s)
MakesFor (Some end.Overdue) moment s old new = (s.handed ≡ 0) × (new ≡ old ++ made_of moment (record s { signals = [] }))
MakesFor (Some end.Ended) moment s old new = ⊥
MakesFor (Some end.Failed) moment s old new = ⊥

-- the same of the share that came with the wait
pub record MakesShare (ended : Option End) (answer : ℕ) (slots : List ℕ) (told told' : Option FrontTold) (old new : SeenBook) : Type 0 where
  pub share : Share
  pub comes : ComesWith answer slots (length old.base.rows) share told told'
  pub made : MakesFor ended old.state.moment share (brought old.history) (brought new.history)

-- of a round that was broken off: the end is missing
pub record CutsShare (answer : ℕ) (slots : List ℕ) (told told' : Option FrontTold) (old new : SeenBook) : Type 0 where
  pub share : Share
  pub comes : ComesWith answer slots (length old.base.rows) share told told'
  pub missing : List Brought
  pub made : brought new.history ++ missing ≡ brought old.history ++ made_of old.state.moment share
