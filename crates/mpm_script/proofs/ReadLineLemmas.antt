-- The next line of a script: what it leaves of those that were read, and how it is refused.
use Rattle.std.proofs.Common.{◌≡◌, ℕ, suc, ◌<◌, true, List, [], length, subst, ◌∙◌}
use Rattle.std.specs.Prelude.{Err}
use Rattle.mpm_script.specs.ReadLinesInside.{DisagreesAt, RefusesLine}
use Rattle.mpm_script.specs.Script.{AllAgree, AreLines, BeginsWithLine, ScriptIs, is_repeated}
use Rattle.mpm_script.specs.declared.script.ScriptFault.{ScriptFault}
use Rattle.mpm_script.specs.declared.script.ScriptFault.TheVariants as fault
use Rattle.mpm_base.specs.declared.script_line.ScriptLine.{ScriptLine}
use Rattle.mpm_script.proofs.SequenceLemmas.{OneLine, line_once}

-- a line that doesn't agree with those before it
pub refused_by : OneLine → (before : List ScriptLine) (bytes : List ℕ) (line : ScriptLine) (rest : List ℕ) (number : ℕ) (e : ScriptFault)
    → BeginsWithLine bytes line rest → 0 < length bytes → number ≡ suc (length before) → DisagreesAt number before line e → RefusesLine before bytes e
refused_by one before bytes line rest number (fault.BadLine n) begins some is d = (
  d.0 ∙ is,
  record {
    some = some;
    no_line = λ other behind h. subst (λ l. is_repeated before l ≡ true) (line_once one bytes line rest other behind begins h).0 d.1;
  },
)
refused_by one before bytes line rest number (fault.MomentBackwards n) begins some is d =
    (d.0 ∙ is, record { line = line; behind = rest; begins = begins; failing = d.1 })
refused_by one before bytes line rest number (fault.UnknownName n) begins some is d =
    (d.0 ∙ is, record { line = line; behind = rest; begins = begins; failing = d.1 })
refused_by one before bytes line rest number fault.NoMemory begins some is d = tt

-- bytes whose first lines were read, and which are refused behind them
pub refused_behind : (bytes : List ℕ) (lines : List ScriptLine) (rest : List ℕ) (e : ScriptFault)
    → AreLines bytes lines rest → AllAgree [] lines → RefusesLine lines rest e → ScriptIs bytes (Err e)
refused_behind bytes lines rest (fault.BadLine n) are agree h =
    record { lines = lines; rest = rest; are_lines = are; agree = agree; number_is = h.0; refused_for = h.1 }
refused_behind bytes lines rest (fault.MomentBackwards n) are agree h =
    record { lines = lines; rest = rest; are_lines = are; agree = agree; number_is = h.0; refused_for = h.1 }
refused_behind bytes lines rest (fault.UnknownName n) are agree h =
    record { lines = lines; rest = rest; are_lines = are; agree = agree; number_is = h.0; refused_for = h.1 }
refused_behind bytes lines rest fault.NoMemory are agree h = tt
