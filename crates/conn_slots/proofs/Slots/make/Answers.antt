use Rattle.std.proofs.Common.{◌≡◌, ℕ, ◌+◌, ap, ◌∙◌, arith}
use Rattle.conn_slots.proofs.FreshLemmas.{fresh_entries, fresh_push, fresh_seen, fresh_table, room_left}
use Rattle.conn_slots.proofs.Slots.make.Goals as goal

pub invariant_of-result : goal.invariant_of-result
invariant_of-result g c =
    let all : c.loop-slot.slot ≡ c.args.n = omega arith in
    fresh_table g.row.T.Denot c.args.n c.loop-slot.entries.items
    (c.loop-slot.invariant.fresh ∙ ap (λ k. fresh_entries g.row.T.Denot c.args.n k) all) c.requires.some c.requires.few

pub returns-clause-unused : goal.returns-clause-unused
returns-clause-unused g c =
    let all : c.loop-slot.slot ≡ c.args.n = omega arith in
    rw c.loop-slot.invariant.fresh (rw all (fresh_seen g.row.T.Denot c.args.n c.args.n))

pub slot_behind-requires : goal.slot_behind-requires
slot_behind-requires g c = c.loop-slot-test.true

pub push_reserved-requires : goal.push_reserved-requires
push_reserved-requires g c = room_left _ _ _ _ c.loop-slot.invariant.count c.loop-slot-test.true c.loop-slot.invariant.room

pub loop-slot-preserved : goal.loop-slot-preserved
loop-slot-preserved g c = record {
  fresh = c.push_reserved.ensures.items ∙ rw c.slot_behind.ensures (fresh_push g.row.T.Denot c.args.n c.loop-slot.slot c.loop-slot.entries.items c.loop-slot.invariant.fresh);
  count = c.push_reserved.ensures.len ∙ ap (λ (k : ℕ). k + 1) c.loop-slot.invariant.count;
  room = rw c.push_reserved.ensures.capacity c.loop-slot.invariant.room;
}
