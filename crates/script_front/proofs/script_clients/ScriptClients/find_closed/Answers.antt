use Rattle.std.proofs.Common.{length, ap, ◌∙◌, arith}
use Rattle.script_front.proofs.DueLemmas.{covers-looks}
use Rattle.script_front.proofs.LookLemmas.{names-looks, shut-all}
use Rattle.script_front.proofs.SignalLemmas.{lent-back, names}
use Rattle.script_front.proofs.script_clients.ScriptClients.find_closed.Goals as goal

pub invariant_of-self : goal.invariant_of-self
invariant_of-self c =
    let s = c.self.inside in
    let found = c.closed_up_to-self-inside in
    let lent = c.as_mut_slice.ensures.value in
    let back = lent-back s.clients.len found.new.clients s.clients.items (omega arith) (omega (arith, found.auto.clients, ap length lent)) in
    record {
      names_are = ap names back ∙ names-looks c.as_mut_slice.result.now found.new.clients found.ensures.looks ∙ ap names lent ∙ c.self.invariant.names_are;
      each = c.self.invariant.each;
      marks = c.self.invariant.marks;
      marked = c.self.invariant.marked;
      covers = rw back (covers-looks s.due.marks.items c.as_mut_slice.result.now found.new.clients s.names.items found.ensures.looks (rw lent c.self.invariant.covers));
      shut = rw back found.ensures.are;
    }

pub returns-clause-is : goal.returns-clause-is
returns-clause-is c =
    let s = c.self.inside in
    let found = c.closed_up_to-self-inside in
    let lent = c.as_mut_slice.ensures.value in
    let back = lent-back s.clients.len found.new.clients s.clients.items (omega arith) (omega (arith, found.auto.clients, ap length lent)) in
    rw back (shut-all found.new.clients c.args.count found.result found.ensures.are found.ensures.not_yet)
