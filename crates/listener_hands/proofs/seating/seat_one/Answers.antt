use Rattle.std.proofs.Common.{arith}
use Rattle.std.specs.Prelude.{vec_capacity}
use Rattle.std.proofs.lemmas.Option.{slice_get_read}
use Rattle.recycle_perch.specs.Looking.{LookAt, word_names_of}
use Rattle.listener_hands.proofs.LineLemmas.{first_set}
use Rattle.listener_hands.proofs.seating.seat_one.Goals as goal

pub give-requires-clause-looks : goal.give-requires-clause-looks
give-requires-clause-looks g c =
    let all = c.admit.new.all in
    c.admit.ensures.looks 0 c.index_mut.result.now
    (slice_get_read all.items all.len 0 c.index_mut.result.now all.ok.0 (omega (arith, c.requires.some, c.admit.ensures.count)) c.index_mut.ensures.value)

pub returns-clause-looks : goal.returns-clause-looks
returns-clause-looks g c =
    let places = c.admit.new.self.places in
    first_set (LookAt (word_names_of places.items) (vec_capacity places)) c.admit.new.all.items c.give.new.looks c.admit.ensures.looks c.give.ensures.looks
