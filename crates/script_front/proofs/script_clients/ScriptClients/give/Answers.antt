use Rattle.std.proofs.Common.{length, ap, ◌∙◌, arith}
use Rattle.script_front.proofs.LookLemmas.{shut-gives}
use Rattle.script_front.proofs.SignalLemmas.{lent-back, names, names-gives}
use Rattle.script_front.proofs.script_clients.ScriptClients.give.Goals as goal

pub invariant_of-self : goal.invariant_of-self
invariant_of-self c =
    let s = c.self.inside in
    let lent = c.as_mut_slice.ensures.value in
    let back = lent-back s.clients.len c.give.new.clients s.clients.items (omega arith) (omega (arith, c.give.auto.clients, ap length lent)) in
    record {
      names_are = ap names back ∙ names-gives c.give.ensures.gives ∙ ap names lent ∙ c.self.invariant.names_are;
      each = c.self.invariant.each;
      marks = c.give.ensures.marks ∙ c.self.invariant.marks;
      marked = c.give.ensures.marked;
      covers = rw back (rw c.as_slice.ensures.value at c.give.ensures.covers);
      shut = rw back (shut-gives s.closed c.give.ensures.gives (rw lent c.self.invariant.shut));
    }
