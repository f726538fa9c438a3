-- What command lines ask for: each `graceful` for one order, taken or refused; the first `graceful-stop` for a graceful stop; and `stop` for
-- a stop, behind which nothing is read. Each other line asks for nothing. When it is done stands in `Pace.antt`.
use Rattle.std.specs.Prelude.{◌≡◌, ◌≢◌, ◌<◌, ℕ, Bool, true, false, not, ◌&&◌, ◌||◌, List, [], ◌∷◌, ◌++◌, take, bytes_eq, if◌then◌else◌, ⊤}
use Rattle.mpm_base.specs.CommandWord.{command_word}
use Rattle.mpm_base.specs.Count.{greatest_count}
use Rattle.mpm_base.specs.Front.{FrontSeen, FrontTold}
use Rattle.mpm_base.specs.declared.script_line.CommandWord.{CommandWord}
use Rattle.mpm_base.specs.declared.script_line.CommandWord.TheVariants as word
use Rattle.conn_machine.specs.declared.event.Commanded.TheVariants.{Graceful, Refused, GracefulStop, Stop}
use Rattle.conn_machine.specs.declared.event.Entry.{Entry}
use Rattle.conn_machine.specs.declared.event.Event.{Event}
use Rattle.conn_machine.specs.declared.event.Event.TheVariants as event
use Rattle.conn_machine.specs.declared.event.Why.{Why}
use Rattle.conn_machine.specs.declared.event.Why.TheVariants as why
use Rattle.conn_machine.specs.declared.state.Going.{Going}
use Rattle.conn_machine.specs.declared.state.Going.TheVariants.{Halted}
use Rattle.conn_machine.specs.Events.{count_events}
use Rattle.board_book.specs.Book.{HasEntryOf, SeenBook}
use Rattle.listener_round.specs.Stores.{RisesBy}

-- ## What was read

-- the command line that stops the server
abbrev pub stop_line : List ℕ
stop_line = command_word word.Stop

-- no line stops the server
abbrev pub NoneStops : List (List ℕ) → Type 0
NoneStops [] = ⊤
NoneStops (line ∷ lines) = (line ≢ stop_line) × NoneStops lines

-- the command lines of a front that were read
abbrev pub lines_read : FrontTold → List (List ℕ)
lines_read t = take t.read t.lines

-- the last line that was read stops the server, and none before it does
pub record StopsAtLast (t : FrontTold) : Type 0 where
  pub before : List (List ℕ)
  pub lines_are : lines_read t ≡ before ++ stop_line ∷ []
  pub none : NoneStops before

-- the server was stopped by a line exactly where one that was read stops it; then that is the last one, while fewer were read than the
-- greatest count
abbrev pub HeedsLines : Going → FrontTold → Type 0
HeedsLines (Halted why.Asked) t = t.read < greatest_count → StopsAtLast t
HeedsLines other t = NoneStops (lines_read t)

-- ## What lines ask for

-- the line asks for a graceful stop
abbrev pub asks_to_end : List ℕ → Bool
asks_to_end line = bytes_eq line (command_word word.GracefulStop)

-- what the line asks for, where a graceful stop was asked for before, or wasn't: a further one asks for nothing
abbrev pub asked_in : Bool → List ℕ → List CommandWord
asked_in ending line =
    if bytes_eq line (command_word word.Graceful) then word.Graceful ∷ []
    else if bytes_eq line stop_line then word.Stop ∷ []
    else if asks_to_end line && not ending then word.GracefulStop ∷ [] else []

-- what the lines ask for so, in order
abbrev pub asked_by : Bool → List (List ℕ) → List CommandWord
asked_by ending [] = []
asked_by ending (line ∷ lines) = asked_in ending line ++ asked_by (asks_to_end line || ending) lines

-- the event is what a command line asks for
abbrev pub is_by_line : Event → Bool
is_by_line (event.Command (Graceful shape)) = true
is_by_line (event.Command (Refused reason)) = true
is_by_line (event.Command (GracefulStop until)) = true
is_by_line (event.Command (Stop why.Asked)) = true
is_by_line other = false

-- the front, whether it tells or not, gave a line at least for each of them
abbrev pub GivesLines : List Entry → FrontSeen → FrontSeen → Type 0
GivesLines history old new = RisesBy (count_events is_by_line history) old.counts.commands new.counts.commands

-- the server begins to end
abbrev pub is_graceful_stop : Event → Bool
is_graceful_stop (event.Command (GracefulStop until)) = true
is_graceful_stop other = false

-- ## What the history has of it

-- the history has an entry by which the server stops only for what the state tells
abbrev pub TellsStop : SeenBook → Type 0
TellsStop b = (why : Why) → HasEntryOf (event.Command (Stop why)) b.history → b.state.going ≡ Halted why
