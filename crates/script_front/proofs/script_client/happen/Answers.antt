use Rattle.std.proofs.Common.{◌+◌, length, map, drop, ap, sym, refl, ◌∙◌, arith}
use Rattle.std.proofs.lemmas.List.{length-map}
use Rattle.mpm_base.specs.declared.script_line.ScriptLine.{ScriptLine}
use Rattle.script_front.specs.Signals.{SeenClient, client_after_line, client_after_lines}
use Rattle.script_front.specs.declared.due_places.DuePlaces.{DuePlaces}
use Rattle.script_front.proofs.SignalLemmas.{all_end, all_more, all_silent, names, names-line}
use Rattle.script_front.proofs.script_client.happen.Goals as goal
use Rattle.script_front.proofs.script_client.happen.Goals.{in-Some, in_default}

pub loop-line-preserved : goal.loop-line-preserved
loop-line-preserved c =
    let lines = c.args.lines.now in
    let i = c.loop-line.line-index in
    let was = c.loop-line.clients in
    let line = c.line-item.result in
    let more = all_more lines i line was c.loop-line-test.true c.line-item.is in
    elim c.match-act_in.branch [
      | in-Some w ↦
          let now = w.clients-is ∙ w.act_on.ensures.clients ∙ ap (λ (l : ScriptLine). map (client_after_line l) was) (sym w.in-Some.ensures.some) in
          record {
            named = ap names now ∙ names-line line was ∙ c.loop-line.invariant.named;
            happened = ap (map (client_after_lines (drop (i + 1) lines))) now ∙ more ∙ c.loop-line.invariant.happened;
            each = ap (λ (due : DuePlaces). length due.marks.items) w.due-is ∙ w.act_on.ensures.each ∙ c.loop-line.invariant.each;
            marked = rw w.due-is w.act_on.ensures.marked;
            covers = λ watched was. rw (w.due-is, w.clients-is) (w.act_on.ensures.covers watched (c.loop-line.invariant.covers watched was));
          }
      | in_default w ↦
          let now = w.clients-is ∙ sym (all_silent line was w.in_default.ensures.none) in
          record {
            named = ap names w.clients-is ∙ c.loop-line.invariant.named;
            happened = ap (map (client_after_lines (drop (i + 1) lines))) now ∙ more ∙ c.loop-line.invariant.happened;
            each = ap (λ (due : DuePlaces). length due.marks.items) w.due-is ∙ c.loop-line.invariant.each;
            marked = rw w.due-is c.loop-line.invariant.marked;
            covers = λ watched was. rw (w.due-is, w.clients-is) (c.loop-line.invariant.covers watched was);
          }
    ]

pub returns-clause-clients : goal.returns-clause-clients
returns-clause-clients c = sym (all_end c.args.lines.now c.loop-line.line-index c.loop-line.clients c.loop-line-test.false) ∙ c.loop-line.invariant.happened

pub returns-clause-each : goal.returns-clause-each
returns-clause-each c = c.loop-line.invariant.each

pub returns-clause-marked : goal.returns-clause-marked
returns-clause-marked c = c.loop-line.invariant.marked

pub returns-clause-covers : goal.returns-clause-covers
returns-clause-covers c = c.loop-line.invariant.covers

pub loop-line-init : goal.loop-line-init
loop-line-init c = record {
  named = c.requires.named;
  happened = refl;
  each = refl;
  marked = c.requires.marked;
  covers = λ watched was. was;
}

pub act_on-requires-clause-each : goal.act_on-requires-clause-each
act_on-requires-clause-each c =
    let same = ap length c.loop-line.invariant.named in
    omega (arith, c.loop-line.invariant.each, c.requires.each, same, ap length c.requires.named, length-map c.loop-line.clients (λ (client : SeenClient). client.name), length-map c.args.clients.now (λ (client : SeenClient). client.name))

pub act_on-requires-clause-marked : goal.act_on-requires-clause-marked
act_on-requires-clause-marked c = c.loop-line.invariant.marked
