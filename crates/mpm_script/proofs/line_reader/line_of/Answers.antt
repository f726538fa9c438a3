-- Where a text is no line of each kind, it is no line.
use Rattle.std.proofs.Common.{ℕ, List}
use Rattle.mpm_script.specs.ScriptLine.{IsSiteLine, IsLine}
use Rattle.mpm_base.specs.declared.script_line.CommandWord.{CommandWord}
use Rattle.mpm_base.specs.declared.script_line.ClientAct.{ClientAct}
use Rattle.mpm_base.specs.declared.script_line.SiteLine.{SiteLine}
use Rattle.mpm_base.specs.declared.script_line.ScriptLine.{ScriptLine}
use Rattle.mpm_base.specs.declared.script_line.ScriptLine.TheVariants as line
use Rattle.mpm_script.proofs.line_reader.line_of.Goals as goal

no_line : (text : List ℕ)
    → ((m : ℕ) → ¬ (IsLine text (line.At m)))
    → ((name : List ℕ) → ¬ (IsLine text (line.Conn name)))
    → ((word : CommandWord) → ¬ (IsLine text (line.Command word)))
    → ((name : List ℕ) (act : ClientAct) → ¬ (IsLine text (line.Client name act)))
    → ((site : SiteLine) → ¬ (IsSiteLine text site))
    → (l : ScriptLine) → ¬ (IsLine text l)
no_line text at conn command client site (line.At m) h = at m h
no_line text at conn command client site (line.Conn name) h = conn name h
no_line text at conn command client site (line.Client name act) h = client name act h
no_line text at conn command client site (line.Command word) h = command word h
no_line text at conn command client site (line.Site s) h = site s h

pub returns-in-None : goal.returns-in-None
returns-in-None c =
    no_line c.args.text.now c.in_default.ensures.none c.in_default-conn_line.ensures.none c.in_default-command_line.ensures.none
    (rw c.in_default-2.is at c.in_ok-name.ensures) (rw c.in-None.is at c.in_ok-site.ensures)
