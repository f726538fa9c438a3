use Rattle.std.proofs.Common.{length, ap, sym, refl, ◌∙◌, arith}
use Rattle.std.proofs.lemmas.List.{length-map}
use Rattle.mpm_script.specs.Clients.{names_of}
use Rattle.script_front.specs.ScriptFront.{no_name_yet}
use Rattle.script_front.specs.Signals.{new_client}
use Rattle.script_front.proofs.DueLemmas.{covers-new}
use Rattle.script_front.proofs.SignalLemmas.{names, names-new}
use Rattle.script_front.proofs.script_clients.ScriptClients.make.Goals as goal

pub invariant_of-result : goal.invariant_of-result
invariant_of-result c =
    let made = c.in_ok-parts.ensures in
    let all = names_of c.args.lines.now in
    record {
      names_are = ap names made.clients ∙ names-new all ∙ sym made.chains;
      each = ap length made.watched ∙ length-map all no_name_yet ∙ sym (ap length made.chains);
      marks = omega (arith, c.in_ok-due.ensures.each, c.len.ensures, ap length made.clients, length-map all new_client, ap length made.chains);
      marked = c.in_ok-due.ensures.marked;
      covers = rw made.watched (covers-new _ _ all);
      shut = refl;
    }
