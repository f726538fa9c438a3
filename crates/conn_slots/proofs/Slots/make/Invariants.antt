use Rattle.std.proofs.Common.{◌≡◌, ◌≤◌, vec_len, vec_capacity}
use Rattle.conn_slots.proofs.FreshLemmas.{fresh_entries}
use Rattle.conn_slots.proofs.Slots.make.Given as goal

-- an unused entry for each slot so far, and room for all
abbrev pub invariant-loop-slot : goal.invariant-loop-slot
invariant-loop-slot g l = record {
  fresh : l.entries.items ≡ fresh_entries g.row.T.Denot l.n l.slot;
  count : vec_len l.entries ≡ l.slot;
  room : l.n ≤ vec_capacity l.entries;
}
