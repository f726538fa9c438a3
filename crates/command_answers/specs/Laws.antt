-- What the answers are worth.
use Rattle.std.specs.Prelude.{◌≡◌, ℕ, ◌++◌, Bool, true, false, codes}
use Rattle.mpm_base.specs.GivenAnswers.{says_refused}
use Rattle.restart_control.specs.declared.reload_fault.ReloadFault.{ReloadFault}
use Rattle.conn_machine.specs.declared.state.State.{State}
use Rattle.conn_machine.specs.Shown.{letters, snapshot_of, totals_of}
use Rattle.scoreboard.specs.Page.{line, text_page}
use Rattle.command_answers.specs.Answers.{ending_answer, generation_answer, late_answer, memory_answer, refused_answer, status_answer, stopping_answer, unknown_answer}
use Rattle.conn_machine.specs.declared.totals.Totals.{Totals}

-- of each state the answer to `status`, with the line of the letters behind it, is the plain status page
abbrev pub IsAPage : Type 0
IsAPage = (s : State) → text_page (snapshot_of s) ≡ status_answer (totals_of s) ++ line (codes "Scoreboard") (letters s)

-- the answers to a restart that was refused say that it was, and no other answer does
pub record SayApart : Type 0 where
  pub late : says_refused late_answer ≡ true
  pub memory : says_refused memory_answer ≡ true
  pub refused : (fault : ReloadFault) → says_refused (refused_answer fault) ≡ true
  pub made : (number : ℕ) → says_refused (generation_answer number) ≡ false
  pub ending : (begins : Bool) → says_refused (ending_answer begins) ≡ false
  pub stopping : says_refused stopping_answer ≡ false
  pub unknown : says_refused unknown_answer ≡ false
  pub status : (t : Totals) → says_refused (status_answer t) ≡ false
