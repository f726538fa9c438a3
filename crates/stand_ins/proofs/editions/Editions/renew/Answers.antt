use Rattle.std.proofs.Common.{ap, length, arith}
use Rattle.stand_ins.proofs.HistoryLemmas.{next-told}
use Rattle.stand_ins.proofs.editions.Editions.renew.Goals as goal

pub invariant_of-self : goal.invariant_of-self
invariant_of-self c = record {
  counted = omega (arith, ap length c.make_edition.ensures.editions, c.self.invariant.counted);
  room = c.make_edition.ensures.room;
}

pub returns-then-self-gt0 : goal.returns-then-self-gt0
returns-then-self-gt0 c =
    let e = c.self.inside in
    rw (← c.self.view_is) (next-told e.shelf.files c.make_edition.new.shelf.files e.coming.items c.make_edition.new.coming.items e.wholes.items c.make_edition.ensures.editions)
