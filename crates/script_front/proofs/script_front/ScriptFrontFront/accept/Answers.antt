use Rattle.std.proofs.Common.{◌≡◌, ◌+◌, length, ap, refl, arith, ◌∙◌}
use Rattle.mpm_base.specs.Count.{next_count}
use Rattle.mpm_base.specs.Link.{fresh_link}
use Rattle.mpm_base.specs.Front.{client_at}
use Rattle.mpm_script.specs.Clients.{clients_of}
use Rattle.stand_ins.specs.ScriptLink.{SeenScriptLink, new_paced_link}
use Rattle.script_front.specs.declared.client_plans.LinkPlan.{LinkPlan}
use Rattle.script_front.proofs.PlayedLemmas.{next-taken, none-waits, played-accept}
use Rattle.script_front.proofs.script_front.ScriptFrontFront.accept.Goals as goal

pub invariant_of-self : goal.invariant_of-self
invariant_of-self c =
    let s = c.self.inside in
    played-accept s.script s.happened s.begun s.moment s.arrived s.accepted s.hushed s.clients s.commands s.ends c.self.invariant c.next.new.self _ c.in-Some.ensures.some c.in-Some.ensures.rest c.if-self-2.false c.if-self.false

pub returns-clause-accepts : goal.returns-clause-accepts
returns-clause-accepts c =
    let s = c.self.inside in
    let next = next-taken s.script s.happened s.begun s.moment s.arrived s.accepted s.hushed s.clients s.commands s.ends c.self.invariant _ _ c.in-Some.ensures.some in
    let e : next_count s.accepted ≡ s.accepted + 1 = omega arith in
    rw (← c.self.view_is) (record {
      told_is = rw e;
      hands = (
        record {
          listens = c.if-self.false;
          arrived = omega (arith, c.self.invariant.accepted, c.if-self-2.false);
        },
        (
          _,
          refl,
          record {
            known = next.0;
            fresh = ap (λ (l : SeenScriptLink). l.told) c.paced.ensures ∙ ap (fresh_link s.accepted) next.2;
          },
        ),
        ap (λ (l : SeenScriptLink). l.counts.faults) c.paced.ensures,
      );
      script = refl;
      faults = refl;
      accept_faults = omega arith;
      ends = refl;
      wakes = refl;
      commands = refl;
      words = refl;
      answers_stay = refl;
      handed = (omega arith, λ below. omega arith);
    })

pub returns-clause-link : goal.returns-clause-link
returns-clause-link c =
    let s = c.self.inside in
    let next = next-taken s.script s.happened s.begun s.moment s.arrived s.accepted s.hushed s.clients s.commands s.ends c.self.invariant _ _ c.in-Some.ensures.some in
    let text = ap (λ text. new_paced_link s.accepted text c.in-Some.next.plan.fail_reads c.in-Some.next.plan.fail_writes c.in-Some.next.plan.drops) next.2 in
    let calls = ap (λ (plan : LinkPlan). new_paced_link s.accepted (client_at (clients_of s.script) s.accepted) plan.fail_reads plan.fail_writes plan.drops) next.1 in
    rw (← c.self.view_is) (c.paced.ensures ∙ text ∙ calls)

pub unreachable-requires : goal.unreachable-requires
unreachable-requires c =
    let s = c.self.inside in
    none-waits s.script s.happened s.begun s.moment s.arrived s.accepted s.hushed s.clients s.commands s.ends c.self.invariant (ap length c.in-None.ensures.none) c.if-self-2.false
