use Rattle.std.proofs.Common.{◌≡◌, ◌∙◌, ℕ, ap, replicate, arith}
use Rattle.conn_machine.specs.States.{unused_row}
use Rattle.conn_machine.proofs.KeptCounts.{counted_opening}
use Rattle.conn_machine.proofs.rows.Rows.make.Goals as goal

pub invariant_of-result : goal.invariant_of-result
invariant_of-result c =
    let e : c.loop.counter ≡ c.args.slots = omega (arith, c.loop-test.false) in
    counted_opening c.in_ok-counts.counts c.args.slots c.loop.items.items (omega arith) c.in_ok-counts.ensures
    (c.loop.invariant ∙ ap (λ (n : ℕ). replicate n unused_row) e)
