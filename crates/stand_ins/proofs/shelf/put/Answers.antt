use Rattle.std.proofs.Common.{◌≡◌, length, arith}
use Rattle.stand_ins.proofs.PlaceLemmas.{found-last, found-same}
use Rattle.stand_ins.proofs.shelf.put.Goals as goal

pub returns-in_err-insert-clause-found : goal.returns-in_err-insert-clause-found
returns-in_err-insert-clause-found c =
    rw c.in_ok-reserve.ensures.items (found-same c.args.places.now c.insert.new.self c.args.slots.now.items c.in_err-insert.ensures.err c.requires.found)

pub returns-clause-found : goal.returns-clause-found
returns-clause-found c =
    let size : c.len-place.result ≡ length c.args.slots.now.items = omega (arith, c.args.slots.now.ok.0) in
    rw (c.push_reserved.ensures.items, c.in_ok-reserve.ensures.items)
    (found-last c.args.places.now c.insert.new.self c.args.slots.now.items c.args.slot c.args.key c.len-place.result c.requires.entry.same c.requires.entry.text
    size c.requires.found c.requires.none c.in_ok-insert.ensures.updates)
