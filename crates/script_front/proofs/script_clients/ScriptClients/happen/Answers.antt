use Rattle.std.proofs.Common.{length, ap, ◌∙◌, arith}
use Rattle.script_front.proofs.LookLemmas.{shut-lines}
use Rattle.script_front.proofs.SignalLemmas.{lent-back, names, names-lines}
use Rattle.script_front.proofs.script_clients.ScriptClients.happen.Goals as goal

pub invariant_of-self : goal.invariant_of-self
invariant_of-self c =
    let s = c.self.inside in
    let lent = c.as_mut_slice.ensures.value in
    let back = lent-back s.clients.len c.happen.new.clients s.clients.items (omega arith) (omega (arith, c.happen.auto.clients, ap length lent)) in
    record {
      names_are = ap names (back ∙ c.happen.ensures.clients) ∙ names-lines c.args.lines.now c.as_mut_slice.result.now ∙ ap names lent ∙ c.self.invariant.names_are;
      each = c.self.invariant.each;
      marks = c.happen.ensures.each ∙ c.self.invariant.marks;
      marked = c.happen.ensures.marked;
      covers = rw back (c.happen.ensures.covers s.names.items (rw lent c.self.invariant.covers));
      shut = rw (back, c.happen.ensures.clients, lent) (shut-lines c.args.lines.now s.closed s.clients.items ∙ c.self.invariant.shut);
    }
