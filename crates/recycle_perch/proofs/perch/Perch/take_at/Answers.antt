use Rattle.std.proofs.Common.{◌∙◌, arith}
use Rattle.std.proofs.lemmas.Option.{IfSome_then, slice_get_read}
use Rattle.recycle_perch.proofs.LookLemmas.{looked, same_at, words_at}
use Rattle.recycle_perch.proofs.perch.Perch.take_at.Goals as goal

pub take-requires-clause-mark : goal.take-requires-clause-mark
take-requires-clause-mark g c =
    same_at _ _ c.args.looks.now.marks.items c.args.self.now.places.items c.args.i _ _ c.requires.looks.words
    (omega (arith, c.requires.place, c.args.self.now.places.ok.0)) c.index_mut-mark.ensures.value c.index-place.ensures

pub returns-clause-looks : goal.returns-clause-looks
returns-clause-looks g c = record {
  words = words_at c.args.looks.now.marks.items c.args.i _ _ c.index_mut-mark.ensures.value c.take.ensures.mark ∙ c.requires.looks.words;
  room = c.requires.looks.room;
}

pub returns-clause-step : goal.returns-clause-step
returns-clause-step g c =
    looked c.take.result c.args.looks.now.marks.items c.args.i _ _ c.index_mut-mark.ensures.value c.take.ensures.step

pub returns-clause-number : goal.returns-clause-number
returns-clause-number g c =
    let places = c.args.self.now.places in
    IfSome_then c.take.result c.take.ensures.number (λ carrier its.
    its ∙ c.args.self.now.in_order c.args.i _ (slice_get_read places.items places.len c.args.i _ places.ok.0 c.requires.place c.index-place.ensures))
