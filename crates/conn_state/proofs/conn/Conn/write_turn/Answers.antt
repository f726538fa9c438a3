use Rattle.std.proofs.Common.{subst}
use Rattle.conn_state.specs.Outgoing.{IsUnsentOf, pending_bytes}
use Rattle.conn_state.specs.Writing.{SendsOn}
use Rattle.conn_state.proofs.ConnLemmas.{held-written}
use Rattle.conn_state.proofs.conn.Conn.write_turn.Goals as goal

pub invariant_of-self : goal.invariant_of-self
invariant_of-self g c =
    let sending = c.send-turn in
    let old = g.L.Link.seen c.self.inside.link in
    let new = g.L.Link.seen sending.new.link in
    let sends = subst (λ st. SendsOn old.told new.told old.counts new.counts (pending_bytes st c.self.inside.unsent) (pending_bytes st sending.new.unsent) sending.result)
    c.deref.ensures sending.ensures.sends in
    held-written c.follows_what_was_read.ensures.may _ _ c.args.self.now c.self.inside.plan c.self.inside.unsent sending.new.unsent new sending.result
    c.leaves-self-inside.result c.self.invariant c.self.view_is c.requires.usable c.requires.not_shut sends
    (subst (λ st. IsUnsentOf st sending.new.unsent) c.deref.ensures sending.ensures.of) c.leaves-self-inside.ensures
