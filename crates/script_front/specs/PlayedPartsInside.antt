-- The parts of a front that plays a script, and what holds between them.
use Rattle.std.specs.Prelude.{◌≡◌, ◌⊎◌, ℕ, ◌+◌, ◌<◌, ◌≤◌, Bool, true, false, bytes_eq, if◌then◌else◌, List, [], ◌∷◌, ◌++◌, length, map, take, drop, Option, None}
use Rattle.std.specs.List.{list_any}
use Rattle.mpm_script.specs.Clients.{clients_of, fails_of, is_dropped, names_of, sent_by}
use Rattle.mpm_script.specs.Commands.{command_lines_of, commands_of}
use Rattle.mpm_base.specs.Front.{next_coming}
use Rattle.script_front.specs.ScriptFront.{comings_of, lines_now}
use Rattle.script_front.specs.DuePlacesInside.{AreMarked, Covers}
use Rattle.script_front.specs.Signals.{SeenClient, all_closed}
use Rattle.script_front.specs.declared.client_plans.Awaited.{Awaited}
use Rattle.script_front.specs.declared.client_plans.LinkPlan.{LinkPlan}
use Rattle.script_front.specs.declared.due_places.DuePlaces.{DuePlaces}
use Rattle.mpm_base.specs.declared.conn.ConnName.{ConnName}
use Rattle.mpm_base.specs.declared.script_line.CommandWord.{CommandWord}
use Rattle.mpm_base.specs.declared.script_line.ClientAct.{ClientAct}
use Rattle.mpm_base.specs.declared.script_line.ClientAct.TheVariants as act
use Rattle.mpm_base.specs.declared.script_line.LinkCall.TheVariants as call
use Rattle.mpm_base.specs.declared.script_line.ScriptLine.{ScriptLine}
use Rattle.mpm_base.specs.declared.script_line.ScriptLine.TheVariants as line

-- ## What the lines say of a link

-- the line acts on clients
abbrev pub is_of_client : ScriptLine → Bool
is_of_client (line.At m) = false
is_of_client (line.Conn name) = false
is_of_client (line.Client name act) = true
is_of_client (line.Command word) = false
is_of_client (line.Site site) = false

-- the act is an end
abbrev pub is_end : ClientAct → Bool
is_end (act.Send bytes) = false
is_end act.End = true
is_end act.Drop = false
is_end (act.Room room) = false
is_end (act.Fail which number) = false

-- the line ends the client of that name
abbrev pub ends_client : List ℕ → ScriptLine → Bool
ends_client name (line.At m) = false
ends_client name (line.Conn other) = false
ends_client name (line.Client other act) = if bytes_eq other name then is_end act else false
ends_client name (line.Command word) = false
ends_client name (line.Site site) = false

-- what the lines say of the link of the connection of that name: what its client sends, whether it ends, which of its calls are to
-- fail, and whether it is dropped
abbrev pub plan_of : List ScriptLine → List ℕ → LinkPlan
plan_of lines name =
    record {
      text = sent_by name lines;
      ended = list_any (ends_client name) lines;
      fail_reads = fails_of call.Read name lines;
      fail_writes = fails_of call.Write name lines;
      drops = is_dropped name lines;
    }

-- of the link of each connection, in their order
abbrev pub plans_of : List ScriptLine → List LinkPlan
plans_of lines = map (plan_of lines) (names_of lines)

-- nothing is said of it yet
abbrev pub new_plan : LinkPlan
new_plan = record { text = []; ended = false; fail_reads = []; fail_writes = []; drops = false }

-- its client acts: nothing that it sends behind its end counts
abbrev pub plan_after_act : ClientAct → LinkPlan → LinkPlan
plan_after_act (act.Send bytes) plan = if plan.ended then plan else record plan { text = plan.text ++ bytes }
plan_after_act act.End plan = record plan { ended = true }
plan_after_act act.Drop plan = record plan { drops = true }
plan_after_act (act.Room room) plan = plan
plan_after_act (act.Fail call.Read number) plan = record plan { fail_reads = plan.fail_reads ++ number ∷ [] }
plan_after_act (act.Fail call.Write number) plan = record plan { fail_writes = plan.fail_writes ++ number ∷ [] }

-- the line says something of it where it names its connection, which has that name
abbrev pub plan_after_line : List ℕ → ScriptLine → LinkPlan → LinkPlan
plan_after_line name (line.At m) plan = plan
plan_after_line name (line.Conn other) plan = plan
plan_after_line name (line.Client other act) plan = if bytes_eq other name then plan_after_act act plan else plan
plan_after_line name (line.Command word) plan = plan
plan_after_line name (line.Site site) plan = plan

-- so do the lines, one after the other
abbrev pub plan_after_lines : List ℕ → List ScriptLine → LinkPlan → LinkPlan
plan_after_lines name [] plan = plan
plan_after_lines name (line ∷ lines) plan = plan_after_lines name lines (plan_after_line name line plan)

-- what they say of the link of the connection of that name
abbrev pub plan_after : List ScriptLine → List ℕ → LinkPlan
plan_after lines name = plan_after_lines name lines new_plan

-- the plans of links that were not handed out
abbrev pub plans : List Awaited → List LinkPlan
plans awaited = map (λ one. one.plan) awaited

-- whatever was said of the links of these names, in order, the line's is said too
abbrev pub TellsPlans : ScriptLine → List (List ℕ) → List LinkPlan → List LinkPlan → Type 0
TellsPlans line names old new =
    (plan : List ℕ → LinkPlan) → old ≡ map plan names → new ≡ map (λ name. plan_after_line name line (plan name)) names

-- ## The parts of a front

-- the clients of a script: what its lines say of the links that were not handed out, what is known of each client, and under
-- which name each link is watched
pub record SeenClients : Type 0 where
  pub waiting : List LinkPlan
  pub clients : List SeenClient
  pub watched : List (Option ConnName)

-- the clients of the script are those of these names; for each there is a place for the name under which its link is watched, and a
-- mark where a signal may be due; and so many links were found closed, one behind the other
pub record AreClients (names : List (List ℕ)) (clients : List SeenClient) (watched : List (Option ConnName)) (due : DuePlaces) (closed : ℕ) : Type 0 where
  pub names_are : map (λ client. client.name) clients ≡ names
  pub each : length watched ≡ length names
  pub marks : length due.marks.items ≡ length names
  pub marked : AreMarked due
  pub covers : Covers due.marks.items clients watched
  pub shut : all_closed (take closed clients) ≡ true

-- the commands of a script that weren't read, how many of its command lines have come, and how many of these were read
pub record SeenCommands : Type 0 where
  pub unread : List CommandWord
  pub came : ℕ
  pub read : ℕ

-- none has come, and these are the commands
abbrev pub new_commands : List CommandWord → SeenCommands
new_commands commands = record { unread = commands; came = 0; read = 0 }

-- no more were read than came, and no more came than there are
pub record AreInOrder (unread : List CommandWord) (came read : ℕ) : Type 0 where
  pub past : read ≤ came
  pub few : came ≤ read + length unread

-- so many of the lines have happened: their commands have come, and those that weren't read are the last ones of the lines
pub record AreCommands (lines : List ScriptLine) (count : ℕ) (ws : SeenCommands) : Type 0 where
  pub came : ws.came ≡ length (command_lines_of (take count lines))
  pub read : ws.read ≤ ws.came
  pub unread_are : ws.unread ≡ drop ws.read (commands_of lines)

-- all lines have happened after it waited, each connection was handed out or listening was stopped, and each command line was read
pub record IsPlayedOut (lines : List ScriptLine) (count : ℕ) (waited : Bool) (taken : ℕ) (hushed : Bool) (ws : SeenCommands) : Type 0 where
  pub begun : waited ≡ true
  pub all : count ≡ length lines
  pub each : (taken ≡ length (clients_of lines)) ⊎ (hushed ≡ true)
  pub told : ws.read ≡ ws.came

-- so many of the lines have happened by that moment, so many connections have arrived and so many of them were handed out; the
-- plans of the others' links wait, each client has its name, and there is a place for the name under which it is watched; so have
-- come the command lines; once it has waited the next line is an `at`; and where a wait answered Ended all was taken
pub record ArePlayed (lines : List ScriptLine) (count : ℕ) (waited : Bool) (moment arrivals taken : ℕ) (hushed : Bool) (cs : SeenClients) (ws : SeenCommands) (ended : ℕ) : Type 0 where
  pub happened : count ≤ length lines
  pub past : next_coming moment (comings_of (take count lines)) ≡ None
  pub arrived : arrivals ≡ length (names_of (take count lines))
  pub accepted : taken ≤ arrivals
  pub plans_are : cs.waiting ≡ drop taken (plans_of lines)
  pub clients_are : map (λ client. client.name) cs.clients ≡ names_of lines
  pub names_are : length cs.watched ≡ length (clients_of lines)
  pub commands : AreCommands lines count ws
  pub next : waited ≡ true → lines_now (drop count lines) ≡ 0
  pub over : 0 < ended → IsPlayedOut lines count waited taken hushed ws
