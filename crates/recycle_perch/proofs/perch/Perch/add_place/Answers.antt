use Rattle.std.proofs.Common.{refl, arith}
use Rattle.std.proofs.lemmas.Option.{slice_get_read, slice_get_within}
use Rattle.recycle_perch.proofs.LookLemmas.{first_more, others_less, same_length}
use Rattle.recycle_perch.proofs.perch.Perch.add_place.Goals as goal

pub loop-i-init : goal.loop-i-init
loop-i-init g c = (refl, λ k looks at below. absurd (omega arith), λ k looks at above. c.requires.looks k looks at)

pub add-requires : goal.add-requires
add-requires g c =
    let all = c.loop-i.all in
    let at = slice_get_read all.items all.len c.loop-i.i _ all.ok.0 (omega (arith, c.loop-i-test.true, c.len-i-end.ensures, c.loop-i.invariant.0)) c.index_mut.ensures.value in
    let known = c.loop-i.invariant.2 c.loop-i.i _ at (omega arith) in
    let long = same_length _ _ c.index_mut.result.now.marks.items c.args.self.now.places.items known.words in
    omega (arith, c.requires.room, known.room, long, c.index_mut.result.now.marks.ok.0, c.args.self.now.places.ok.0)

pub loop-i-preserved : goal.loop-i-preserved
loop-i-preserved g c =
    let all = c.loop-i.all in
    let at = slice_get_read all.items all.len c.loop-i.i _ all.ok.0 (omega (arith, c.loop-i-test.true, c.len-i-end.ensures, c.loop-i.invariant.0)) c.index_mut.ensures.value in
    let known = c.loop-i.invariant.2 c.loop-i.i _ at (omega arith) in (
      c.loop-i.invariant.0,
      first_more c.loop-i.i _ _ all.items c.add.new.self c.loop-i.invariant.1 (c.add.ensures.words _ _ known),
      others_less c.loop-i.i _ _ all.items c.add.new.self c.loop-i.invariant.2,
    )

pub returns-clause-looks : goal.returns-clause-looks
returns-clause-looks g c = λ i looks at.
    c.loop-i.invariant.1 i looks at
    (omega (arith, c.loop-i-test.false, slice_get_within c.loop-i.all.items i looks at, c.loop-i.all.ok.0, c.loop-i.invariant.0, c.len-i-end.ensures))
