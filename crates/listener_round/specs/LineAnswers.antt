-- What the sender of a command line is answered, by what the history has of the line and by the state where it was read.
use Rattle.std.specs.Prelude.{◌≡◌, ◌≢◌, ℕ, ◌+◌, Bool, true, false, List, drop, take, Option, Some, IfSome, ⊤, slice_get}
use Rattle.mpm_base.specs.CommandWord.{command_word}
use Rattle.mpm_base.specs.Store.{StoreTold, bytes_of}
use Rattle.mpm_base.specs.declared.script_line.CommandWord.{CommandWord}
use Rattle.mpm_base.specs.declared.script_line.CommandWord.TheVariants as word
use Rattle.mpm_base.specs.declared.shape.Shape.{Shape}
use Rattle.mpm_config.specs.Config.{Configuration}
use Rattle.conn_machine.specs.declared.event.Commanded.TheVariants.{Graceful, Refused, GracefulStop, Stop}
use Rattle.conn_machine.specs.declared.event.Entry.{Entry}
use Rattle.conn_machine.specs.declared.event.Event.{Event}
use Rattle.conn_machine.specs.declared.event.Event.TheVariants as event
use Rattle.conn_machine.specs.declared.event.Refusal.{Refusal}
use Rattle.conn_machine.specs.declared.event.Refusal.TheVariants as refusal
use Rattle.conn_machine.specs.declared.event.Why.TheVariants as why
use Rattle.conn_machine.specs.declared.state.State.{State}
use Rattle.conn_machine.specs.Runs.{after}
use Rattle.conn_machine.specs.Shown.{totals_of}
use Rattle.conn_machine.specs.States.{is_serving}
use Rattle.worker_group.specs.Acts.{events_of}
use Rattle.command_answers.specs.Answers.{absent_answer, conf_line, ending_answer, generation_answer, late_answer, memory_answer, site_answer, status_answer, stopping_answer, store_answer, unknown_answer}
use Rattle.run_opening.specs.Configured.{IsNoConfig}
use Rattle.run_opening.specs.Sites.{IsSiteRefusedOf}
use Rattle.run_report.specs.Texts.{config_word}
use Rattle.run_report.specs.declared.texts.ConfigRefusal.{ConfigRefusal}
use Rattle.listener_round.specs.Generations.{Opening, config_among, renewed}

-- ## A restart that was refused

-- the configuration of that edition is refused, at the number and with the word that a start tells of it
pub record RefusesConf (o : Opening) (t : StoreTold) (why : ConfigRefusal) (number : ℕ) : Type 0 where
  pub text : List ℕ
  pub found : bytes_of o.name t.files ≡ Some text
  pub refused : IsNoConfig text why number

-- so the answer says it, of the edition of that number, where that is known
pub record TellsConf (o : Opening) (edition : ℕ) (answer : List ℕ) : Type 0 where
  pub why : ConfigRefusal
  pub number : ℕ
  pub says : answer ≡ conf_line number (config_word why)
  pub refused : IfSome o.store.told (λ t. RefusesConf o (renewed edition t) why number)

-- by the configuration of that edition there is no site, for the file or the folder of the name that a start tells of it
pub record RefusesSite (o : Opening) (t : StoreTold) (name : List ℕ) : Type 0 where
  pub config : Configuration
  pub accepted : config_among o.config o.name t.files ≡ Some config
  pub refused : IsSiteRefusedOf t.files config name

-- so the answer says it, of the edition of that number, where that is known
pub record TellsSite (o : Opening) (edition : ℕ) (answer : List ℕ) : Type 0 where
  pub name : List ℕ
  pub says : answer ≡ site_answer name
  pub refused : IfSome o.store.told (λ t. RefusesSite o (renewed edition t) name)

-- what a restart is answered that asked for the edition of that number and was refused for the reason
abbrev pub IsRefusalAnswer : Opening → ℕ → Refusal → List ℕ → Type 0
IsRefusalAnswer o edition refusal.Late answer = answer ≡ late_answer
IsRefusalAnswer o edition refusal.Absent answer = answer ≡ absent_answer
IsRefusalAnswer o edition refusal.Conf answer = TellsConf o edition answer
IsRefusalAnswer o edition refusal.Site answer = TellsSite o edition answer
IsRefusalAnswer o edition refusal.Store answer = answer ≡ store_answer
IsRefusalAnswer o edition refusal.NoMemory answer = answer ≡ memory_answer

-- ## Each line

-- what a line is answered that was read in the state, behind so many orders, where the listener's next event is this one
pub data IsAnswerTo (o : Opening) (orders : ℕ) (s : State) (next : Option Event) : List ℕ → List ℕ → Type 0 where
  -- a restart: behind the event by which a generation began the number of that generation
  restarted : {shape : Shape} → next ≡ Some (event.Command (Graceful shape))
      → IsAnswerTo o orders s next (command_word word.Graceful) (generation_answer (s.newest + 1))
  -- or behind the one by which it was refused the reason
  refused : {reason : Refusal} {answer : List ℕ} → next ≡ Some (event.Command (Refused reason)) → IsRefusalAnswer o (orders + 1) reason answer
      → IsAnswerTo o orders s next (command_word word.Graceful) answer
  -- a graceful stop: that it begins, behind its event
  ends : {until : Option ℕ} → is_serving s.going ≡ true → next ≡ Some (event.Command (GracefulStop until))
      → IsAnswerTo o orders s next (command_word word.GracefulStop) (ending_answer true)
  -- or that it had begun before
  ends_already : is_serving s.going ≡ false → IsAnswerTo o orders s next (command_word word.GracefulStop) (ending_answer false)
  -- a stop, behind its event
  stops : next ≡ Some (event.Command (Stop why.Asked)) → IsAnswerTo o orders s next (command_word word.Stop) stopping_answer
  -- the state: its numbers, as it was where the line was read
  told : IsAnswerTo o orders s next (command_word word.Status) (status_answer (totals_of s))
  -- no line that is a command
  unknown : {line : List ℕ} → ((command : CommandWord) → line ≢ command_word command) → IsAnswerTo o orders s next line unknown_answer

-- ## Where it was read

-- the state behind so many entries of a history from this state on
abbrev pub state_behind : State → List Entry → ℕ → State
state_behind first history made = after first (take made history)

-- the listener's next event behind them
abbrev pub next_event : List Entry → ℕ → Option Event
next_event history made = slice_get (events_of 0 (drop made history)) 0
