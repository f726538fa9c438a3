-- The command lines of a run on its way, and what each was answered.
use Rattle.std.specs.Prelude.{◌≡◌, ℕ, ◌<◌, Bool, false, true, List, [], ◌∷◌, ◌++◌, length, map, Option, None, Some, option_map, IfSome, IsSome, Result, Ok, Err, ⊤}
use Rattle.mpm_base.specs.Count.{NeverFalls, greatest_count}
use Rattle.mpm_base.specs.Front.{Commands, FrontSeen, FrontTold, TellsOn}
use Rattle.mpm_base.specs.Sink.{SinkSeen}
use Rattle.conn_machine.specs.declared.event.Entry.{Entry}
use Rattle.conn_machine.specs.declared.state.State.{State}
use Rattle.conn_machine.specs.Events.{count_events, is_order}
use Rattle.conn_state.specs.Known.{KnownOutside}
use Rattle.board_book.specs.Book.{SeenBook}
use Rattle.board_book.specs.declared.faults.BoardFault.{BoardFault}
use Rattle.command_answers.specs.Answers.{stopping_answer}
use Rattle.run_report.specs.EndingsInside.{WritesAll}
use Rattle.board_book.specs.Moments.{known_slots, moment_for, ticks_to}
use Rattle.board_book.specs.Timely.{AreTimely}
use Rattle.rounds.specs.declared.ends.End.{End}
use Rattle.rounds.specs.declared.ends.End.TheVariants as end
use Rattle.listener_round.specs.Commands.{lines_read, stop_line}
use Rattle.listener_round.specs.FirstNumbers.{opened_by}
use Rattle.listener_round.specs.Generations.{Opening}
use Rattle.listener_round.specs.Heard.{AreAnswered, AreCounted, AreReadAt, AreReadInPlace, AreToldBy, Heard, asks_for_state, open_lines, orders_behind}
use Rattle.listener_round.specs.OrdersInside.{AnswersIf}
use Rattle.listener_round.specs.Pace.{Brought, Share, brought, signalled, ticked}
use Rattle.listener_round.specs.StandingInside.{IsOpenedBy, Past, Standing, StandsSo, entries_behind}
use Rattle.listener_round.specs.declared.edition.NamedConfig.{NamedConfig}
use Rattle.listener_round.specs.declared.run_numbers.RunNumbers.{RunNumbers}

-- ## Lines that were answered

-- how many orders there are behind the lines, where there were so many before
abbrev pub orders_after : ℕ → List Heard → ℕ
orders_after orders [] = orders
orders_after orders (h ∷ heard) = orders_after (orders_behind orders h.line) heard

-- each of the lines was answered
abbrev pub AllAnswered : List Heard → Type 0
AllAnswered [] = ⊤
AllAnswered (h ∷ heard) = IsSome h.answer × AllAnswered heard

-- the front tells as many as read
abbrev pub AreAllRead : List Heard → FrontTold → Type 0
AreAllRead heard t = t.read < greatest_count → length heard ≡ t.read

-- the lines are those of a run that opened so and has these entries, whose front came from the one to the other: each was answered, and the
-- orders are theirs
pub record HasHeard (o : Opening) (first : State) (history : List Entry) (old new : FrontSeen) (heard : List Heard) : Type 0 where
  pub answered : AreAnswered o first history 0 0 heard
  pub orders : orders_after 0 heard ≡ count_events is_order history
  pub each : AllAnswered heard
  pub told : IfSome new.told (AreToldBy heard)
  pub read : IfSome new.told (AreAllRead heard)
  pub counted : AreCounted heard old.counts new.counts

-- ## A front that read nothing

-- a front that still tells the same of what was read and answered
pub record StaysHeard (t t' : FrontTold) : Type 0 where
  pub read : t'.read ≡ t.read
  pub lines : lines_read t' ≡ lines_read t
  pub answers : t'.answers ≡ t.answers

-- the same of one that may tell, and what it counted
pub record KeepsHeard (f f' : FrontSeen) : Type 0 where
  pub told : TellsOn StaysHeard f.told f'.told
  pub lines : f'.counts.words.all ≡ f.counts.words.all
  pub restarts : f'.counts.words.graceful ≡ f.counts.words.graceful
  pub states : f'.counts.words.status ≡ f.counts.words.status
  pub answers : f'.counts.answers ≡ f.counts.answers

-- ## The last one

-- a line that was read and isn't answered yet, and what it is answered once the server has stopped, if anything
pub record Unanswered : Type 0 where
  pub line : List ℕ
  pub answer : Option (List ℕ)

-- one that asks to stop
abbrev pub stop_unanswered : Unanswered
stop_unanswered = record { line = stop_line; answer = Some stopping_answer }

-- one for which memory lacked
abbrev pub never_answered : List ℕ → Unanswered
never_answered line = record { line = line; answer = None }

-- the front gave it last, or there is none
abbrev pub GivesLast : Option Unanswered → FrontSeen → FrontSeen → Type 0
GivesLast None old new = new ≡ old
GivesLast (Some last) old new = Commands old new (Some last.line)

-- the lines with it, where it was read behind so many entries
abbrev pub with_last : Option Unanswered → ℕ → List Heard → List Heard
with_last None made heard = heard
with_last (Some last) made heard = heard ++ record { line = last.line; made = made; answer = last.answer } ∷ []

-- there is one that asks to stop, or none
abbrev pub last_if : Bool → Option Unanswered
last_if true = Some stop_unanswered
last_if false = None

-- so it is behind a round that ended the turns for this, or didn't
abbrev pub last_at : Option End → Option Unanswered
last_at None = None
last_at (Some end.Ended) = None
last_at (Some end.Asked) = Some stop_unanswered
last_at (Some end.Failed) = None
last_at (Some end.Overdue) = None
last_at (Some end.Gone) = None

-- ## The output

-- whatever stands in an output, written whole or not, it has this text behind it, where that was written whole too
pub record WritesOn (text : List ℕ) (old : SinkSeen) (written : Bool) (new : SinkSeen) (written' : Bool) : Type 0 where
  pub faults : NeverFalls old.faults new.faults
  pub behind : (sink : SinkSeen) (before : List ℕ) → NeverFalls sink.faults old.faults → WritesAll sink old before written → WritesAll sink new (before ++ text) written'

-- ## Further lines

-- how a run stands, and its output with whether that was written whole
pub record Hearing : Type 0 where
  pub stands : Standing
  pub out : SinkSeen
  pub written : Bool

-- the same, of its parts
abbrev pub hearing : Standing → SinkSeen → Bool → Hearing
hearing stands out written = record { stands = stands; out = out; written = written }

-- the lines were read from the one on, and each where it says, where this had been made before
abbrev pub ReadsAt : List Entry → List Brought → List Heard → FrontTold → FrontTold → Type 0
ReadsAt history before heard t t' = t'.read < greatest_count → AreReadAt history before t.hushed heard

-- behind these lines of a run, further ones were read, each where it says, and answered, but for the last one; the front came from the one to
-- the other meanwhile, and the output has the lines of those that ask for the state
pub record HearsMore (o : Opening) (first : State) (history : List Entry) (before : List Brought) (begun old new : FrontSeen) (heard : List Heard)
    (last : Option Unanswered) (out : SinkSeen) (written : Bool) (out' : SinkSeen) (written' : Bool) : Type 0 where
  pub mine : List Heard
  pub mid : FrontSeen
  pub has : HasHeard o first history begun mid (heard ++ mine)
  pub gave : GivesLast last mid new
  pub placed : TellsOn (ReadsAt history before (with_last last (length history) mine)) old.told new.told
  pub writes : WritesOn (open_lines first history mine) out written out' written'

-- so it is whatever the run, where it stood so and had heard some; and of what comes from outside the listener had made this first
abbrev pub Hears : Option KnownOutside → NamedConfig → List Brought → Option Unanswered → Hearing → Hearing → Type 0
Hears known c made last old new =
    (o : Opening) (n : RunNumbers) (past : Past) (heard : List Heard) → IsOpenedBy c o → AreTimely old.stands.book.base old.stands.book.history
    → StandsSo known o n past 0 0 old.stands
    → HasHeard o (opened_by n) (entries_behind past old.stands.book) o.front old.stands.front heard
    → HearsMore o (opened_by n) (entries_behind past new.stands.book) (brought (entries_behind past old.stands.book) ++ made) o.front
    old.stands.front new.stands.front heard last old.out old.written new.out new.written

-- the line doesn't ask for the state, where there is one
abbrev pub AsksForNoState : Option (List ℕ) → Type 0
AsksForNoState line = IfSome line (λ l. asks_for_state l ≡ false)

-- the same where something could not be done: for the last line memory may have lacked
abbrev pub HearsUntil : Option KnownOutside → NamedConfig → List Brought → Hearing → Hearing → Type 0
HearsUntil known c made old new =
    (line : Option (List ℕ)) × AsksForNoState line × Hears known c made (option_map never_answered line) old new

-- so it is over whichever front stands behind the answer of the last line, where that is still to be given
abbrev pub HearsBehind : Option KnownOutside → NamedConfig → Option (List ℕ) → FrontSeen → Hearing → (FrontSeen → Hearing) → Type 0
HearsBehind known c answer front old new = (f : FrontSeen) → AnswersIf answer front f → Hears known c [] None old (new f)

-- ## All lines

-- what was heard of a run that opened so, by these numbers, whose front is this one now, and whose output came from the one to the other: all
-- lines, each read in its place among the shares, behind so many moves at the start, and answered, but for the last one
pub record HasHeardAll (o : Opening) (n : RunNumbers) (history : List Entry) (moves : ℕ) (shares : List Share) (last : Option Unanswered) (front : FrontSeen)
    (out : SinkSeen) (written : Bool) (out' : SinkSeen) (written' : Bool) : Type 0 where
  pub heard : List Heard
  pub mid : FrontSeen
  pub has : HasHeard o (opened_by n) history o.front mid heard
  pub gave : GivesLast last mid front
  pub placed : IfSome front.told (AreReadInPlace history moves shares (with_last last (length history) heard))
  pub writes : WritesOn (open_lines (opened_by n) history heard) out written out' written'

-- the same of turns that ended so: the last line is one that asks to stop, where they ended for one; and where they were broken off it may be
-- one for which memory lacked
abbrev pub HasHeardIn : Result End BoardFault → Opening → RunNumbers → List Entry → ℕ → List Share → FrontSeen → SinkSeen → Bool → SinkSeen → Bool → Type 0
HasHeardIn (Ok ended) o n history moves shares front out written out' written' =
    HasHeardAll o n history moves shares (last_at (Some ended)) front out written out' written'
HasHeardIn (Err fault) o n history moves shares front out written out' written' =
    (line : Option (List ℕ)) × AsksForNoState line
    × HasHeardAll o n history moves shares (option_map never_answered line) front out written out' written'

-- what the listener makes of a wait's moment and of the slots that it gave, before it reads command lines
abbrev pub made_first : ℕ → List ℕ → SeenBook → List Brought
made_first answer slots b = map ticked (ticks_to b.state.moment (moment_for answer)) ++ map signalled (known_slots (length b.base.rows) slots)
