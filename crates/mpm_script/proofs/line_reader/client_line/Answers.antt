-- Where a text is no line of each word of a client, it is no line of a client.
use Rattle.std.proofs.Common.{ℕ, List, [], Option, subst}
use Rattle.std.specs.Prelude.{codes}
use Rattle.mpm_script.specs.ScriptLine.{IsLine}
use Rattle.mpm_script.specs.LineWordsInside.{IsNamed}
use Rattle.mpm_base.specs.declared.script_line.LinkCall.{LinkCall}
use Rattle.mpm_base.specs.declared.script_line.ClientAct.{ClientAct}
use Rattle.mpm_base.specs.declared.script_line.ClientAct.TheVariants as act
use Rattle.mpm_base.specs.declared.script_line.ScriptLine.TheVariants as line
use Rattle.mpm_script.proofs.LineLemmas.{client_named}
use Rattle.mpm_script.proofs.line_reader.client_line.Goals as goal

no_client : (text : List ℕ)
    → ((name : List ℕ) → ¬ (IsNamed (codes "end ") text name []))
    → ((name : List ℕ) → ¬ (IsNamed (codes "drop ") text name []))
    → ((name : List ℕ) (room : Option ℕ) → ¬ (IsLine text (line.Client name (act.Room room))))
    → ((name : List ℕ) (which : LinkCall) (n : ℕ) → ¬ (IsLine text (line.Client name (act.Fail which n))))
    → ((name bytes : List ℕ) → ¬ (IsLine text (line.Client name (act.Send bytes))))
    → (name : List ℕ) (act : ClientAct) → ¬ (IsLine text (line.Client name act))
no_client text end drop room fail send name (act.Send bytes) h = send name bytes h
no_client text end drop room fail send name act.End h = end name (subst (IsNamed (codes "end ") text name) h.3 (client_named text name act.End h))
no_client text end drop room fail send name act.Drop h = drop name (subst (IsNamed (codes "drop ") text name) h.3 (client_named text name act.Drop h))
no_client text end drop room fail send name (act.Room r) h = room name r h
no_client text end drop room fail send name (act.Fail which n) h = fail name which n h

pub returns-in-None : goal.returns-in-None
returns-in-None c =
    no_client c.args.text.now c.in_default.ensures.none c.in_default-bare_line.ensures.none c.in_default-room_line.ensures.none
    c.in_default-fail_line.ensures.none (rw c.in-None.is at c.in_ok-name.ensures)
