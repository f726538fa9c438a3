use Rattle.std.proofs.Common.{length, ap, refl, ◌∙◌, length-set, arith}
use Rattle.script_front.proofs.DueLemmas.{covers-marked}
use Rattle.script_front.proofs.SignalLemmas.{acts-size, acts-start, acts-step}
use Rattle.script_front.proofs.script_client.act_on.Goals as goal

pub places-init : goal.places-init
places-init c = record {
  walked = acts-start c.args.clients.now c.args.chains.now c.requires.named c.args.name.now c.args.act.now c.last-next.result c.last-next.ensures;
  each = refl;
  marked = c.requires.marked;
  covers = λ watched was. was;
}

pub add-requires-clause-within : goal.add-requires-clause-within
add-requires-clause-within c =
    let was = rw c.in-Some.is at c.places.invariant.walked in
    let few = acts-size c.args.clients.now c.args.chains.now c.requires.named c.args.name.now c.args.act.now c.places.clients c.in-Some.place was in
    omega (arith, few.0, c.places.invariant.each, c.requires.each)

pub add-requires-clause-marked : goal.add-requires-clause-marked
add-requires-clause-marked c = c.places.invariant.marked

pub places-preserved : goal.places-preserved
places-preserved c =
    let was = rw c.in-Some.is at c.places.invariant.walked in
    let few = acts-size c.args.clients.now c.args.chains.now c.requires.named c.args.name.now c.args.act.now c.places.clients c.in-Some.place was in
    let step = acts-step c.args.clients.now c.args.chains.now c.requires.named c.args.name.now c.args.act.now c.places.clients c.in-Some.place _ c.earlier-next.result was c.index-clients-place.is c.earlier-next.ensures in
    record {
      walked = rw (c.act.ensures, ← c.index-clients-place.is) step;
      each = ap length c.add.ensures.marks ∙ length-set c.places.due.marks.items c.in-Some.place _ ∙ c.places.invariant.each;
      marked = c.add.ensures.marked;
      covers = λ watched was.
          rw c.add.ensures.marks
          (covers-marked c.places.due.marks.items c.places.clients watched c.in-Some.place _ (c.places.invariant.covers watched was)
          (omega (arith, few.0, c.places.invariant.each, c.requires.each)) (omega (arith, few)));
    }

pub returns-clause-each : goal.returns-clause-each
returns-clause-each c = c.places.invariant.each

pub returns-clause-marked : goal.returns-clause-marked
returns-clause-marked c = c.places.invariant.marked

pub returns-clause-covers : goal.returns-clause-covers
returns-clause-covers c = c.places.invariant.covers
