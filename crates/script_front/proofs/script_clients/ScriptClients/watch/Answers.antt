use Rattle.std.proofs.Common.{◌≡◌, Some, ◌<◌, ◌≤◌, length, ap, set, refl, ◌∙◌, length-set, arith}
use Rattle.std.proofs.Math.Seq.{map-set_same}
use Rattle.std.proofs.lemmas.List.{length-map, set_past}
use Rattle.script_front.specs.PlayedPartsInside.{SeenClients}
use Rattle.script_front.specs.Signals.{SeenClient, after_watch_of, watched_client}
use Rattle.script_front.proofs.DueLemmas.{covers-watched}
use Rattle.script_front.proofs.LookLemmas.{shut-watch}
use Rattle.script_front.proofs.SignalLemmas.{watch-past, watch-set}
use Rattle.script_front.proofs.script_clients.ScriptClients.watch.Goals as goal
use Rattle.script_front.proofs.script_clients.ScriptClients.watch.Goals.{After-add}

within : (c : After-add) → c.args.number < length c.self.inside.clients.items
within c = omega (arith, c.if-number-len.true, c.len.ensures)

-- the client of that number was changed
changed : (c : After-add) → set c.self.inside.clients.items c.args.number c.watch.new.self ≡ after_watch_of c.args.number c.self.inside.clients.items
changed c =
    let x = c.index_mut-then-number-len in
    ap (set c.self.inside.clients.items c.args.number) c.watch.ensures ∙ watch-set c.self.inside.clients.items c.args.number x.result.now (within c) x.ensures.value

pub returns-then-number-len : goal.returns-then-number-len
returns-then-number-len c =
    rw (changed c) (ap (λ (cs : SeenClients). record cs { clients = after_watch_of c.args.number cs.clients; watched = set cs.watched c.args.number (Some c.args.name) }) c.self.view_is)

pub returns-else-number-len : goal.returns-else-number-len
returns-else-number-len c =
    let s = c.self.inside in
    let client = ap (λ (cs : SeenClients). length cs.clients) c.self.view_is in
    let watch = ap (λ (cs : SeenClients). length cs.watched) c.self.view_is in
    let past : length c.args.self.now.clients ≤ c.args.number = omega (arith, c.if-number-len.false, c.len.ensures, client) in
    let past' : length c.args.self.now.watched ≤ c.args.number =
    omega (arith, c.if-number-len.false, c.len.ensures, watch, c.self.invariant.each, ap length c.self.invariant.names_are, length-map s.clients.items (λ (client : SeenClient). client.name)) in
    rw (watch-past c.args.self.now.clients c.args.number past, set_past c.args.self.now.watched c.args.number (Some c.args.name) past') refl

pub invariant_of-self : goal.invariant_of-self
invariant_of-self c =
    let s = c.self.inside in
    let x = c.index_mut-then-number-len in
    let was = x.result.now in
    let same = ap (λ (client : SeenClient). client.name) (c.watch.ensures ∙ ap watched_client x.ensures.value) in
    let marks = c.self.invariant.marks in
    let each = length-map s.clients.items (λ (client : SeenClient). client.name) in
    record {
      names_are = map-set_same (λ (client : SeenClient). client.name) s.clients.items c.args.number c.watch.new.self was same ∙ c.self.invariant.names_are;
      each = length-set s.names.items c.args.number (Some c.args.name) ∙ c.self.invariant.each;
      marks = ap length c.add.ensures.marks ∙ length-set s.due.marks.items c.args.number _ ∙ marks;
      marked = c.add.ensures.marked;
      covers =
          rw c.add.ensures.marks
          (covers-watched s.due.marks.items s.clients.items s.names.items c.args.number c.watch.new.self (Some c.args.name) c.self.invariant.covers
          (omega (arith, within c, marks, ap length c.self.invariant.names_are, each)) (within c));
      shut = rw (changed c) (shut-watch c.args.number s.closed s.clients.items ∙ c.self.invariant.shut);
    }
