use Rattle.std.proofs.Common.{length}
use Rattle.conn_state.specs.CallsInside.{WritesSoFar}
use Rattle.conn_state.specs.Outgoing.{IsUnsentOf, pending_bytes, range_len}
use Rattle.conn_state.specs.WritingInside.{HasSent}
use Rattle.conn_state.proofs.outgoing.send.Given as goal

-- a front of what was pending was sent so far, and each write was offered all that was left
abbrev pub invariant-loop-link : goal.invariant-loop-link
invariant-loop-link g l = record {
  sent : HasSent (g.L.Link.seen l.fn.link).told (g.L.Link.seen l.link).told (g.L.Link.seen l.fn.link).counts (g.L.Link.seen l.link).counts
      (pending_bytes l.fn.site l.fn.unsent) (pending_bytes l.fn.site l.unsent);
  of : IsUnsentOf l.fn.site l.unsent;
  calls : WritesSoFar (g.L.Link.calls l.fn.link) (g.L.Link.calls l.link) (length l.fn.unsent.head) (range_len l.fn.unsent.body)
      (length l.unsent.head) (range_len l.unsent.body);
}

-- how many bytes are left
abbrev pub decreases-loop-link : goal.decreases-loop-link
decreases-loop-link g l = length (pending_bytes l.fn.site l.unsent)
