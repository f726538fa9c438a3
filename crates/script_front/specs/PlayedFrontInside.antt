-- What helps to prove of a front that plays a script, and no public contract reaches: the steps of its waits.
use Rattle.std.specs.Prelude.{◌≡◌, ℕ, ◌+◌, ◌-◌, Bool, true, false, nat_le, nat_lt, if◌then◌else◌, List, [], ◌∷◌, ◌++◌, length, take, Option, None, Some}
use Rattle.mpm_script.specs.Clients.{names_of}
use Rattle.mpm_script.specs.Commands.{command_lines_of}
use Rattle.mpm_base.specs.Count.{next_count, RisesExactlyWhere}
use Rattle.mpm_base.specs.Front.{is_ended}
use Rattle.script_front.specs.ScriptFront.{SeenFront, after_next, lines_by, to_come, wait_told}
use Rattle.script_front.specs.Signals.{SeenClient}
use Rattle.script_front.specs.declared.wait_end.WaitEnd.{WaitEnd}
use Rattle.script_front.specs.declared.wait_end.WaitingCounts.{WaitingCounts}
use Rattle.mpm_base.specs.declared.front.Woke.{Woke}
use Rattle.mpm_base.specs.declared.script_line.ScriptLine.{ScriptLine}
use Rattle.mpm_base.specs.declared.script_line.ScriptLine.TheVariants as line

-- the line is an `at`
abbrev pub is_at : ScriptLine → Bool
is_at (line.At m) = true
is_at (line.Conn name) = false
is_at (line.Client name act) = false
is_at (line.Command word) = false
is_at (line.Site site) = false

-- the line makes a connection
abbrev pub is_conn : ScriptLine → Bool
is_conn (line.At m) = false
is_conn (line.Conn name) = true
is_conn (line.Client name act) = false
is_conn (line.Command word) = false
is_conn (line.Site site) = false

-- the line is a command
abbrev pub is_command : ScriptLine → Bool
is_command (line.At m) = false
is_command (line.Conn name) = false
is_command (line.Client name act) = false
is_command (line.Command word) = true
is_command (line.Site site) = false

-- the line is no `at` of a later moment
abbrev pub happens_by : ℕ → ScriptLine → Bool
happens_by m (line.At at) = nat_le at m
happens_by m (line.Conn name) = true
happens_by m (line.Client name act) = true
happens_by m (line.Command word) = true
happens_by m (line.Site site) = true

-- it has waited
abbrev pub with_begun : SeenFront → SeenFront
with_begun f = record f { begun = true }

-- it stands at that moment
abbrev pub with_moment : ℕ → SeenFront → SeenFront
with_moment m f = record f { told = record f.told { moment = m } }

-- its clients are these
abbrev pub with_clients : List SeenClient → SeenFront → SeenFront
with_clients clients f = record f { clients = clients }

-- so many further lines happened
abbrev pub with_lines : ℕ → SeenFront → SeenFront
with_lines count f =
    record f {
      happened = f.happened + count;
      clients = after_next count f f.clients;
      told = record f.told {
        arrived = length (names_of (take (f.happened + count) f.script));
        lines = command_lines_of (take (f.happened + count) f.script);
        left = f.told.left - count;
      };
    }

-- it stands at that moment, and what happens by then happened
abbrev pub gone_to : ℕ → SeenFront → SeenFront
gone_to m f = with_lines (lines_by m (to_come f)) (with_moment m f)

-- how many connections and command lines wait to be taken
abbrev pub waiting_counts : SeenFront → WaitingCounts
waiting_counts f = record { arrivals = f.told.arrived - f.told.accepted; lines = length f.told.lines - f.told.read }

-- so much waited before time passed, where the second of the moments is later than the first
abbrev pub passed_between : ℕ → ℕ → WaitingCounts → Option WaitingCounts
passed_between from to counts = if nat_lt from to then Some counts else None

-- it made one wait more, which gave these slots and ended so, and forgot an accept that failed
abbrev pub with_wait : List ℕ → WaitEnd → SeenFront → SeenFront
with_wait slots end f =
    record f { told = record f.told { failed = false; waits = f.told.waits ++ wait_told (slots, end) ∷ [] } }

-- a further wait answered Ended
abbrev pub with_end : SeenFront → SeenFront
with_end f = record f { ends = next_count f.ends }

-- what a wait leaves of the rest
pub record KeepsRest (answer : Woke) (old new : SeenFront) : Type 0 where
  pub names_are : new.names ≡ old.names
  pub told_is : new.told ≡ record old.told { arrived = new.told.arrived; lines = new.told.lines; left = new.told.left; moment = new.told.moment }
  pub ends : RisesExactlyWhere (is_ended answer) old.ends new.ends
  pub words : new.words ≡ old.words
  pub answers_stay : new.answers ≡ old.answers
