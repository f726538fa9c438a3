-- The command lines of a run: where each was read, and what its sender was answered. Each line is answered once, in its place, behind its event,
-- and before the next one is read.
-- Why it is so stands in docs/DECISIONS.md: 110, Where a command line is answered.
use Rattle.std.specs.Prelude.{◌≡◌, ◌⊎◌, ◌<◌, ◌≤◌, ◌+◌, ◌-◌, ◌||◌, ℕ, Bool, true, false, List, [], ◌∷◌, ◌++◌, count_by, length, map, replicate, take, bytes_eq, Option, None, Some, is_some, IfSome, IsSome, if◌then◌else◌, ⊤}
use Rattle.std.specs.List.{flat_map}
use Rattle.std.specs.Option.{option_map_or}
use Rattle.mpm_base.specs.CommandWord.{command_word}
use Rattle.mpm_base.specs.Count.{RisesJustBy, greatest_count}
use Rattle.mpm_base.specs.Front.{AnswerTold, FrontCounts, FrontSeen, FrontTold, WaitTold}
use Rattle.mpm_base.specs.GivenAnswers.{says_refused}
use Rattle.mpm_base.specs.declared.script_line.CommandWord.TheVariants as word
use Rattle.conn_machine.specs.declared.event.Entry.{Entry}
use Rattle.conn_machine.specs.declared.state.Going.{Going}
use Rattle.conn_machine.specs.declared.state.State.{State}
use Rattle.conn_machine.specs.Events.{count_events, is_order}
use Rattle.conn_machine.specs.Shown.{totals_of}
use Rattle.command_answers.specs.Answers.{open_line}
use Rattle.board_book.specs.ClosedDown.{IsBrokenOff}
use Rattle.listener_round.specs.Commands.{asked_in, asks_to_end, lines_read}
use Rattle.listener_round.specs.Generations.{Opening}
use Rattle.listener_round.specs.LineAnswers.{IsAnswerTo, next_event, state_behind}
use Rattle.listener_round.specs.Pace.{Brought, Share, brought, made_of, moment_by, ordered, progress_at, signalled, ticked, ticks_by, moved}

-- a command line that was read: how many entries of the run had been made by then, and what its sender was answered, where it was
pub record Heard : Type 0 where
  pub line : List ℕ
  pub made : ℕ
  pub answer : Option (List ℕ)

-- ## What each was answered

-- the line asks for a restart
abbrev pub asks_to_restart : List ℕ → Bool
asks_to_restart line = bytes_eq line (command_word word.Graceful)

-- it asks for the state
abbrev pub asks_for_state : List ℕ → Bool
asks_for_state line = bytes_eq line (command_word word.Status)

-- how many orders there are behind the line
abbrev pub orders_behind : ℕ → List ℕ → ℕ
orders_behind orders line = if asks_to_restart line then orders + 1 else orders

-- each of the lines, which were read behind so many orders and so many entries of the history from this state on, was answered for itself, by
-- what the history has of it and by the state where it was read; and before it there were just the orders of the lines before it
abbrev pub AreAnswered : Opening → State → List Entry → ℕ → ℕ → List Heard → Type 0
AreAnswered o first history orders from [] = ⊤
AreAnswered o first history orders from (h ∷ heard) =
    (from ≤ h.made) × (h.made ≤ length history) × (count_events is_order (take h.made history) ≡ orders)
    × IfSome h.answer (IsAnswerTo o orders (state_behind first history h.made) (next_event history h.made) h.line)
    × AreAnswered o first history (orders_behind orders h.line) h.made heard

-- none is left without an answer, but the last one where the server stopped for want of memory, which was given up then
abbrev pub NoneIsLeft : Going → List Heard → Type 0
NoneIsLeft going [] = ⊤
NoneIsLeft going (h ∷ []) = IsSome h.answer ⊎ IsBrokenOff going
NoneIsLeft going (h ∷ next ∷ heard) = IsSome h.answer × NoneIsLeft going (next ∷ heard)

-- ## What a front tells of them

-- the answer of the line of that number, from 1, where there is one
abbrev pub answer_told : ℕ → Option (List ℕ) → List AnswerTold
answer_told number None = []
answer_told number (Some text) = record { read = number; text = text } ∷ []

-- the answers of the lines behind so many
abbrev pub answers_behind : ℕ → List Heard → List AnswerTold
answers_behind number [] = []
answers_behind number (h ∷ heard) = answer_told (number + 1) h.answer ++ answers_behind (number + 1) heard

-- the lines are those that the front tells as read, and their answers those that it tells, each given once, when its line was the last that
-- was read; while fewer were read than the greatest count
pub record AreToldBy (heard : List Heard) (t : FrontTold) : Type 0 where
  pub lines : t.read < greatest_count → map (λ h. h.line) heard ≡ lines_read t
  pub answers : t.read < greatest_count → t.answers ≡ answers_behind 0 heard

-- ## When each was read

-- the first of the lines was read where the listener had made just this of what came from outside, where a graceful stop was asked for
-- before, or wasn't; and each other one behind what those before it ask for
abbrev pub AreReadAt : List Entry → List Brought → Bool → List Heard → Type 0
AreReadAt history before ending [] = ⊤
AreReadAt history before ending (h ∷ heard) =
    (brought (take h.made history) ≡ before)
    × AreReadAt history (before ++ map ordered (asked_in ending h.line)) (asks_to_end h.line || ending) heard

-- the lines were read behind the waits of a front, one of whose shares came with each: behind what the listener made of a wait's time and of
-- the slots that it gave, and before it took a connection that was handed out behind it
abbrev pub AreReadBehind : FrontTold → List Entry → List Brought → ℕ → List WaitTold → List Share → List Heard → Type 0
AreReadBehind t history before moment [] shares heard = heard ≡ []
AreReadBehind t history before moment (wait ∷ waits) [] heard = ⊥
AreReadBehind t history before moment (wait ∷ waits) (s ∷ shares) heard =
    (mine : List Heard) × (others : List Heard) × (heard ≡ mine ++ others)
    × (length mine ≡ (progress_at t waits).read - wait.began.read)
    × AreReadAt history (before ++ map ticked (ticks_by moment s.answer) ++ map signalled s.signals) wait.began.hushed mine
    × AreReadBehind t history (before ++ made_of moment s) (moment_by moment s.answer) waits shares others

-- so it is of all of them, behind so many moves at the start, while fewer were read than the greatest count
abbrev pub AreReadInPlace : List Entry → ℕ → List Share → List Heard → FrontTold → Type 0
AreReadInPlace history first shares heard t =
    t.read < greatest_count → AreReadBehind t history (replicate first moved) 0 t.waits shares heard

-- ## What a front counts of them, whether it tells or not

-- the line was answered
abbrev pub was_answered : Heard → Bool
was_answered h = is_some h.answer

-- the answer says that a restart was refused
abbrev pub was_refused : Heard → Bool
was_refused h = option_map_or says_refused h.answer false

-- the front gave so many lines, of them so many that ask for a restart, and for the state; and it counted the answers, and those of them that
-- say that a restart was refused
pub record AreCounted (heard : List Heard) (old new : FrontCounts) : Type 0 where
  pub lines : RisesJustBy (length heard) old.words.all new.words.all
  pub restarts : RisesJustBy (count_by (λ h. asks_to_restart h.line) heard) old.words.graceful new.words.graceful
  pub states : RisesJustBy (count_by (λ h. asks_for_state h.line) heard) old.words.status new.words.status
  pub answers : RisesJustBy (count_by was_answered heard) old.answers.all new.answers.all
  pub refusals : RisesJustBy (count_by was_refused heard) old.answers.refused new.answers.refused

-- ## A run

-- the command lines of a run that opened so, and came to this: each was answered for itself, and once; where the front tells, the lines are
-- those that it tells, read in their place among what came with its waits; and the front counted them and their answers
pub record KeepsLines (o : Opening) (first : State) (moves : ℕ) (shares : List Share) (f f' : FrontSeen) (going : Going) (history : List Entry) : Type 0 where
  pub heard : List Heard
  pub answered : AreAnswered o first history 0 0 heard
  pub each : NoneIsLeft going heard
  pub told : IfSome f'.told (AreToldBy heard)
  pub placed : IfSome f'.told (AreReadInPlace history moves shares heard)
  pub counted : AreCounted heard f.counts f'.counts

-- what the output has of the lines that ask for the state: a line for each, of the state where it was read
abbrev pub open_line_of : State → List Entry → Heard → List ℕ
open_line_of first history h = if asks_for_state h.line then open_line (totals_of (state_behind first history h.made)) else []

-- the same of all of them, in order
abbrev pub open_lines : State → List Entry → List Heard → List ℕ
open_lines first history heard = flat_map (open_line_of first history) heard
