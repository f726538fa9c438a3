use Rattle.std.proofs.Common.{length, drop, map, ap, sym, refl, ◌∙◌, arith}
use Rattle.std.proofs.lemmas.List.{length-map}
use Rattle.mpm_script.specs.Clients.{names_of, sent_by}
use Rattle.mpm_script.specs.Commands.{commands_of}
use Rattle.script_front.specs.PlayedPartsInside.{SeenCommands, plans_of}
use Rattle.script_front.specs.ScriptFront.{no_name_yet}
use Rattle.script_front.proofs.SignalLemmas.{names, names-new}
use Rattle.script_front.proofs.script_front.ScriptFront.make.Goals as goal

pub invariant_of-result : goal.invariant_of-result
invariant_of-result c =
    let made = c.in_ok-clients.ensures in
    let script = c.args.script in
    let lines = c.lines.ensures in
    let told = c.in_ok-commands.ensures in
    let again = c.lines-2.ensures in
    record {
      happened = omega arith;
      past = refl;
      arrived = refl;
      accepted = omega arith;
      plans_are = made.waiting ∙ ap plans_of lines;
      clients_are = ap names made.clients ∙ names-new (names_of c.lines.result.now) ∙ ap names_of lines;
      names_are =
          ap length made.watched ∙ ap (λ lines. length (map no_name_yet (names_of lines))) lines ∙ length-map (names_of script) no_name_yet
          ∙ sym (length-map (names_of script) (λ name. sent_by name script));
      commands =
          record {
            came = ap (λ (ws : SeenCommands). ws.came) told;
            read = omega (arith, ap (λ (ws : SeenCommands). ws.read) told);
            unread_are =
                ap (λ (ws : SeenCommands). ws.unread) told ∙ ap commands_of again
                ∙ ap (λ k. drop k (commands_of script)) (sym (ap (λ (ws : SeenCommands). ws.read) told));
          };
      next = λ e. absurd (cc);
      over = λ e. absurd (omega (arith, e));
    }
