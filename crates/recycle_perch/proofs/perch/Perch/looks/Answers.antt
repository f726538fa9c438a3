use Rattle.std.proofs.Common.{sym, subst, [], arith}
use Rattle.std.specs.Prelude.{vec_capacity}
use Rattle.recycle_perch.specs.Looking.{LookAt, word_names_of}
use Rattle.recycle_perch.proofs.LookLemmas.{all_more}
use Rattle.recycle_perch.proofs.perch.Perch.looks.Goals as goal

pub loop-preserved : goal.loop-preserved
loop-preserved g c = (
  all_more [] _ c.loop.all.items _ c.in_ok-looks.looks c.push_reserved.ensures.items c.loop.invariant.0
      (subst (λ n. LookAt [] n c.in_ok-looks.looks) c.capacity.ensures c.in_ok-looks.ensures),
  omega (arith, c.push_reserved.ensures.len, c.loop.invariant.1),
  omega (arith, c.push_reserved.ensures.capacity, c.loop.invariant.2),
)

pub returns-clause-looks : goal.returns-clause-looks
returns-clause-looks g c = λ i looks at.
    subst (λ places. LookAt (word_names_of places) (vec_capacity c.args.self.now.places) looks) (sym c.requires) (c.loop.invariant.0 i looks at)
