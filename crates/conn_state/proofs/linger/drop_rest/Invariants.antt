use Rattle.std.proofs.Common.{◌≤◌, ◌-◌}
use Rattle.conn_state.specs.CallsInside.{DropsSoFar}
use Rattle.conn_state.specs.LingerInside.{HasDropped}
use Rattle.conn_state.proofs.linger.drop_rest.Given as goal

-- bytes were dropped so far, and no more than may be
abbrev pub invariant-loop-dropped : goal.invariant-loop-dropped
invariant-loop-dropped g l = record {
  has : HasDropped (g.L.Link.seen l.fn.link).told (g.L.Link.seen l.link).told (g.L.Link.seen l.fn.link).counts (g.L.Link.seen l.link).counts l.fn.dropped l.dropped;
  most : l.dropped ≤ 1048576;
  calls : DropsSoFar (g.L.Link.calls l.fn.link) (g.L.Link.calls l.link) l.fn.dropped l.dropped;
}

-- how many bytes are left to drop
abbrev pub decreases-loop-dropped : goal.decreases-loop-dropped
decreases-loop-dropped g l = 1048576 - l.dropped
