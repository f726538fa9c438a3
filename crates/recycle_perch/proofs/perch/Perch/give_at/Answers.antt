use Rattle.std.proofs.Common.{◌∙◌, sym, arith}
use Rattle.std.proofs.lemmas.Option.{slice_get_read}
use Rattle.recycle_perch.proofs.LookLemmas.{same_at, tried, words_at}
use Rattle.recycle_perch.proofs.perch.Perch.give_at.Goals as goal

pub give-requires-clause-mark : goal.give-requires-clause-mark
give-requires-clause-mark g c =
    same_at _ _ c.args.looks.now.marks.items c.args.self.now.places.items c.args.i _ _ c.requires.looks.words
    (omega (arith, c.requires.place, c.args.self.now.places.ok.0)) c.index_mut-mark.ensures.value c.index-place.ensures

pub give-requires-clause-number : goal.give-requires-clause-number
give-requires-clause-number g c =
    let places = c.args.self.now.places in
    c.requires.number ∙ sym (c.args.self.now.in_order c.args.i _ (slice_get_read places.items places.len c.args.i _ places.ok.0 c.requires.place c.index-place.ensures))

pub returns-clause-looks : goal.returns-clause-looks
returns-clause-looks g c = record {
  words = words_at c.args.looks.now.marks.items c.args.i _ _ c.index_mut-mark.ensures.value c.give.ensures.mark ∙ c.requires.looks.words;
  room = c.requires.looks.room;
}

pub returns-clause-step : goal.returns-clause-step
returns-clause-step g c = tried c.give.result c.args.looks.now.marks.items c.args.i _ _ c.index_mut-mark.ensures.value c.give.ensures.step
