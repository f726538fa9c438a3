use Rattle.std.proofs.Common.{◌≡◌, [], take, map}
use Rattle.mpm_script.specs.Clients.{names_of}
use Rattle.script_front.specs.PlayedPartsInside.{plan_after, plans}
use Rattle.script_front.specs.ScriptFront.{no_name_yet}
use Rattle.script_front.specs.Signals.{new_client}
use Rattle.script_front.proofs.client_parts.named_parts.Given as goal

abbrev pub invariant-loop-line : goal.invariant-loop-line
invariant-loop-line l = record {
  chains : l.parts.chains ≡ names_of (take l.line-index l.lines);
  waiting : plans l.parts.awaited.items ≡ map (plan_after []) (names_of (take l.line-index l.lines));
  clients : l.parts.clients.items ≡ map new_client (names_of (take l.line-index l.lines));
  watched : l.parts.watched.items ≡ map no_name_yet (names_of (take l.line-index l.lines));
}
