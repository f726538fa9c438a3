use Rattle.std.proofs.Common.{rules, ap, ◌≡◌, arith}
use Rattle.board_lock.proofs.shared.Shared.next_pass.Goals as goal

pub fetch_add-requires : goal.fetch_add-requires
fetch_add-requires g c =
    let first = ap (λ me. me.0) c.requires.first in
    let limit : c.args.first.now.seat.me.0.origin.passes ≡ (g.K.Kept.ledger c.args.self.now.table.shared.key.value).passes = ap (λ v. v.origin.passes) first in
    let next : c.args.first.now.seat.me.0.draws.next ≡ c.args.number = ap (λ v. v.draws.next) first in
    let below = c.requires.number.1 in (
      c.requires.own,
      search rules,
      c.number_is_drawn.ensures _ _ _ _ c.args.first.now.up
          (ap (λ v. v.who.number) first) (ap (λ v. v.draws.spare) first) (omega (arith, limit, next)),
    )
