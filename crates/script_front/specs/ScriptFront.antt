-- The front that plays a script: what contracts see of it, and what its waits do.
use Rattle.std.specs.Prelude.{◌≡◌, ℕ, suc, ◌+◌, ◌<◌, ◌≤◌, Bool, true, false, max, nat_le, if◌then◌else◌, List, [], ◌∷◌, count_by, drop, take, length, map, Option, None, Some, option_map, ⊤}
use Rattle.std.specs.List.{flat_map}
use Rattle.mpm_script.specs.Clients.{clients_of, fails_of, is_dropped, name_at, names_of}
use Rattle.mpm_script.specs.Commands.{command_lines_of}
use Rattle.mpm_base.specs.Front.{AnswerTold, BoundTold, DialTold, FrontSeen, FrontTold, HasAllTaken, WaitTold, Backlog, WatchTold, client_at, earlier, is_woken, next_coming}
use Rattle.mpm_base.specs.GivenAnswers.{no_answers}
use Rattle.mpm_base.specs.GivenWords.{no_words}
use Rattle.mpm_base.specs.Link.{LinkTold}
use Rattle.stand_ins.specs.ScriptLink.{SeenScriptLink, new_paced_link}
use Rattle.script_front.specs.Signals.{SeenClient, Gives, client_after_lines, all_closed, new_client}
use Rattle.script_front.specs.declared.wait_end.WaitEnd.{WaitEnd}
use Rattle.script_front.specs.declared.wait_end.WaitingCounts.{WaitingCounts}
use Rattle.script_front.specs.declared.watch_end.WatchEnd.{WatchEnd}
use Rattle.http_server.specs.declared.log.Log.{Log}
use Rattle.mpm_base.specs.declared.addr.Addr.{Addr}
use Rattle.mpm_base.specs.declared.conn.ConnName.{ConnName}
use Rattle.mpm_base.specs.declared.front.Arrival.{Arrival}
use Rattle.mpm_base.specs.declared.front.Arrival.TheVariants as arrival
use Rattle.mpm_base.specs.declared.front.Woke.{Woke}
use Rattle.mpm_base.specs.declared.front.Woke.TheVariants as woke
use Rattle.mpm_base.specs.declared.given_answers.GivenAnswers.{GivenAnswers}
use Rattle.mpm_base.specs.declared.given_words.GivenWords.{GivenWords}
use Rattle.mpm_base.specs.declared.script_line.LinkCall.TheVariants as call
use Rattle.mpm_base.specs.declared.script_line.ScriptLine.{ScriptLine}
use Rattle.mpm_base.specs.declared.script_line.ScriptLine.TheVariants as line

-- its script, how many of the lines have happened, whether it waited before, its clients in the order of their connections,
-- under which name the link of each is watched, what it tells, how often a wait answered Ended, how many of the command lines that
-- were read say each of the words, and how many answers their senders were given
pub record SeenFront : Type 0 where
  pub script : List ScriptLine
  pub happened : ℕ
  pub begun : Bool
  pub clients : List SeenClient
  pub names : List (Option ConnName)
  pub told : FrontTold
  pub ends : ℕ
  pub words : GivenWords
  pub answers : GivenAnswers

-- so many connections and command lines wait to be taken
abbrev pub backlog_of : WaitingCounts → Backlog
backlog_of counts = record { arrivals = counts.arrivals; lines = counts.lines }

-- a wait of it, from the slots that it gave, how it ended, and how far the server was as it began
abbrev pub wait_told : List ℕ × WaitEnd → WaitTold
wait_told wait =
    record {
      began = record { accepted = wait.1.accepted; read = wait.1.read; hushed = wait.1.hushed };
      until = wait.1.until;
      quiet = wait.1.quiet;
      slots = wait.0;
      answer = wait.1.answer;
      passed = option_map backlog_of wait.1.passed;
    }

-- a watch of it, from the number of the link and how it ended
abbrev pub watch_told : ℕ × WatchEnd → WatchTold
watch_told watch = record { rank = watch.0; name = watch.1.name; answer = watch.1.answer }

-- a link that it turned away, from its number and the link
abbrev pub turned_told : ℕ × SeenScriptLink → LinkTold
turned_told turned = turned.1.told

-- what it was bound to, from the address and the port for command lines
abbrev pub bound_told : Addr × Option ℕ → BoundTold
bound_told bound = record { listen = bound.0; control = bound.1 }

-- a dial of it, from the port and the bytes of the word: none fails, and nothing comes back
abbrev pub dial_told : ℕ × Log ℕ Bool → DialTold
dial_told dial = record { port = dial.0; word = map (λ byte. byte.0) dial.1.items; answer = true; text = [] }

-- an answer of it, from the number of lines that had been read and the bytes
abbrev pub answer_told : ℕ × Log ℕ Bool → AnswerTold
answer_told answer = record { read = answer.0; text = map (λ byte. byte.0) answer.1.items }

-- how many of the waits gave a moment
abbrev pub woken_waits : List WaitTold → ℕ
woken_waits waits = count_by (λ wait. is_woken wait.answer) waits

-- it as each front is seen: it has a script and tells, and none of its calls fails; as many waits gave a moment as it tells, as many command
-- lines were given as were read, and as many links handed out as connections
abbrev pub front_seen : SeenFront → FrontSeen
front_seen f =
    record {
      script = Some f.script;
      told = Some f.told;
      counts = record {
        faults = 0;
        accept_faults = 0;
        ends = f.ends;
        wakes = woken_waits f.told.waits;
        commands = f.told.read;
        words = f.words;
        answers = f.answers;
        handed = f.told.accepted;
      };
    }

-- the moment of the line, where it is an `at`
abbrev pub comings_by : ScriptLine → List ℕ
comings_by (line.At m) = m ∷ []
comings_by (line.Conn name) = []
comings_by (line.Client name act) = []
comings_by (line.Command word) = []
comings_by (line.Site site) = []

-- the moments of the `at` lines, in order
abbrev pub comings_of : List ScriptLine → List ℕ
comings_of lines = flat_map comings_by lines

-- ## Before the first wait

-- a connection that was not watched yet
abbrev pub no_name_yet : List ℕ → Option ConnName
no_name_yet name = None

-- no line has happened
abbrev pub new_front : List ScriptLine → SeenFront
new_front lines =
    record {
      script = lines;
      happened = 0;
      begun = false;
      clients = map new_client (names_of lines);
      names = map no_name_yet (names_of lines);
      told = record {
        clients = clients_of lines;
        arrived = 0;
        accepted = 0;
        watches = [];
        turned_away = [];
        lines = [];
        read = 0;
        answers = [];
        bound = [];
        dialled = [];
        hushed = false;
        left = length lines;
        moment = 0;
        comings = Some (comings_of lines);
        failed = false;
        waits = [];
      };
      ends = 0;
      words = no_words;
      answers = no_answers;
    }

-- ## The lines that come next

-- the lines that have not happened
abbrev pub to_come : SeenFront → List ScriptLine
to_come f = drop f.happened f.script

-- how many lines stand before the first `at`
abbrev pub lines_now : List ScriptLine → ℕ
lines_now [] = 0
lines_now (line.At m ∷ lines) = 0
lines_now (line.Conn name ∷ lines) = suc (lines_now lines)
lines_now (line.Client name act ∷ lines) = suc (lines_now lines)
lines_now (line.Command word ∷ lines) = suc (lines_now lines)
lines_now (line.Site site ∷ lines) = suc (lines_now lines)

-- how many lines stand before the first `at` of a later moment
abbrev pub lines_by : ℕ → List ScriptLine → ℕ
lines_by m [] = 0
lines_by m (line.At at ∷ lines) = if nat_le at m then suc (lines_by m lines) else 0
lines_by m (line.Conn name ∷ lines) = suc (lines_by m lines)
lines_by m (line.Client name act ∷ lines) = suc (lines_by m lines)
lines_by m (line.Command word ∷ lines) = suc (lines_by m lines)
lines_by m (line.Site site ∷ lines) = suc (lines_by m lines)

-- the moment of the first of the lines, where it is an `at`
abbrev pub next_moment : List ScriptLine → Option ℕ
next_moment [] = None
next_moment (line.At m ∷ lines) = Some m
next_moment (line.Conn name ∷ lines) = None
next_moment (line.Client name act ∷ lines) = None
next_moment (line.Command word ∷ lines) = None
next_moment (line.Site site ∷ lines) = None

-- the clients after so many further lines
abbrev pub after_next : ℕ → SeenFront → List SeenClient → List SeenClient
after_next count f clients = map (client_after_lines (take count (to_come f))) clients

-- ## Any time

-- what holds of every such front: it tells the connections of its script, of which those have arrived whose lines have
-- happened, the command lines that those lines bring, no more of which were read than came, how many lines have not happened, and
-- the moments of the `at` lines, of which none that has happened is later than the moment; each client has its name, and a place
-- for the name under which its link is watched; and once it has waited the next line is an `at`, where there is one
pub record IsOfScript (f : SeenFront) : Type 0 where
  pub happened : f.happened ≤ length f.script
  pub left : f.told.left + f.happened ≡ length f.script
  pub clients : f.told.clients ≡ clients_of f.script
  pub arrived : f.told.arrived ≡ length (names_of (take f.happened f.script))
  pub accepted : f.told.accepted ≤ f.told.arrived
  pub lines : f.told.lines ≡ command_lines_of (take f.happened f.script)
  pub read : f.told.read ≤ length f.told.lines
  pub comings : f.told.comings ≡ Some (comings_of f.script)
  pub past : next_coming f.told.moment (comings_of (take f.happened f.script)) ≡ None
  pub named : map (λ client. client.name) f.clients ≡ names_of f.script
  pub watched : length f.names ≡ length f.told.clients
  pub next : f.begun ≡ true → lines_now (to_come f) ≡ 0

-- ## A wait

-- so many further lines happened, and the front stands at that moment
pub record Moves (old new : SeenFront) (count moment : ℕ) : Type 0 where
  pub script : new.script ≡ old.script
  pub begun : new.begun ≡ true
  pub happened : new.happened ≡ old.happened + count
  pub moment_is : new.told.moment ≡ moment

-- each link that was handed out was found closed
abbrev pub all_taken_closed : SeenFront → Bool
all_taken_closed f = all_closed (take f.told.accepted f.clients)

-- it hasn't answered Ended, and no line stands before the next `at`
pub record IsUnderWay (f : SeenFront) : Type 0 where
  pub ends : f.ends ≡ 0
  pub next : lines_now (to_come f) ≡ 0

-- time may pass: no connection is being served, and no accept failed since the last wait
pub record MayPass (f : SeenFront) (quiet : Bool) : Type 0 where
  pub idle : quiet ≡ true
  pub steady : f.told.failed ≡ false

-- a wait does the first of these that fits. A signal falls away, and a wait ends, exactly where the clients then have their links
-- marked as closed
pub data Plays (old new : SeenFront) (until : Option ℕ) (quiet : Bool) : Woke → List ℕ → Type 0 where
  -- once it has answered Ended it does so again
  over : 0 < old.ends → Moves old new 0 old.told.moment → new.clients ≡ old.clients → Plays old new until quiet woke.Ended []
  -- in the first wait the lines before the first `at` happen
  begins : old.ends ≡ 0 → old.begun ≡ false → 0 < lines_now (to_come old) → Moves old new (lines_now (to_come old)) old.told.moment
      → new.clients ≡ after_next (lines_now (to_come old)) old old.clients → Plays old new until quiet (woke.Woke old.told.moment) []
  -- it gives the signals that are due, as far as there is room
  signals : {ready : List ℕ} → IsUnderWay old → Gives 256 old.clients old.names new.clients ready → 0 < length ready
      → Moves old new 0 old.told.moment → Plays old new until quiet (woke.Woke old.told.moment) ready
  -- behind an accept that failed no time passes
  recovers : IsUnderWay old → Gives 256 old.clients old.names new.clients [] → old.told.failed ≡ true → Moves old new 0 old.told.moment
      → Plays old new until quiet (woke.Woke old.told.moment) []
  -- where a connection is being served none does
  served : IsUnderWay old → Gives 256 old.clients old.names new.clients [] → quiet ≡ false → Moves old new 0 old.told.moment
      → Plays old new until quiet (woke.Woke old.told.moment) []
  -- it goes on to the moment of the next `at`, or to `until`, whichever is earlier, and never back; what happens by then happens
  passes : {m to : ℕ} {still : List SeenClient} → IsUnderWay old → Gives 256 old.clients old.names still [] → MayPass old quiet
      → earlier until (next_moment (to_come old)) ≡ Some m → to ≡ max old.told.moment m → Moves old new (lines_by to (to_come old)) to
      → new.clients ≡ after_next (lines_by to (to_come old)) old still → Plays old new until quiet (woke.Woke to) []
  -- nothing comes any more
  ends : IsUnderWay old → Gives 256 old.clients old.names new.clients [] → MayPass old quiet → earlier until (next_moment (to_come old)) ≡ None
      → HasAllTaken new.told → all_taken_closed new ≡ true → Moves old new 0 old.told.moment → Plays old new until quiet woke.Ended []
  -- it waits for its connections and command lines to be taken, or for its links to be closed
  stays : IsUnderWay old → Gives 256 old.clients old.names new.clients [] → MayPass old quiet → earlier until (next_moment (to_come old)) ≡ None
      → (HasAllTaken new.told → all_taken_closed new ≡ false) → Moves old new 0 old.told.moment → Plays old new until quiet (woke.Woke old.told.moment) []

-- ## An accept

-- the link of that number as it is handed out: its client sends these bytes, the calls that the lines of its name list fail once
-- these have happened, and only where a line drops it may it be dropped
abbrev pub paced_link_of : List ScriptLine → ℕ → List ℕ → SeenScriptLink
paced_link_of lines number text =
    new_paced_link number text (fails_of call.Read (name_at lines number) lines) (fails_of call.Write (name_at lines number) lines) (is_dropped (name_at lines number) lines)

-- a link is handed out as that of its client, and its bytes and room come little by little
abbrev pub HandsPaced : SeenFront → Arrival SeenScriptLink → Type 0
HandsPaced f (arrival.Some link) = link ≡ paced_link_of f.script f.told.accepted (client_at f.told.clients f.told.accepted)
HandsPaced f arrival.None = ⊤
HandsPaced f arrival.Failed = ⊤
