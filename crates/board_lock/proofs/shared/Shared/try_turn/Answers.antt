use Rattle.std.proofs.Common.{rules}
use Rattle.board_lock.proofs.Hands.{has_value, took}
use Rattle.board_lock.proofs.shared.Shared.try_turn.Goals as goal

pub compare_exchange-requires : goal.compare_exchange-requires
compare_exchange-requires g c =
    (c.requires.own, search rules, c.turn_is_taken.ensures _ _ _ _ _ c.requires.free.hand c.args.pass.now.up c.if-found-eq1.false)

pub exchange-requires : goal.exchange-requires
exchange-requires g c =
    let v = c.args.pass.now.seat.me in let w = c.compare_exchange.new.seat.me in
    (search rules, has_value g.K.Kept.ledger v w (took g.K.Kept.ledger _ _ v w c.if-compare_exchange-found.false c.compare_exchange.ensures.2))
