use Rattle.std.proofs.Common.{refl, sym, ap, subst, ◌∙◌}
use Rattle.mpm_base.specs.Link.{LinkSeen}
use Rattle.conn_state.specs.Reader.{IsAnswerable, StandsFor}
use Rattle.conn_state.specs.Conn.{SeenConn}
use Rattle.conn_state.specs.Outgoing.{pending_bytes}
use Rattle.conn_state.specs.ConnInside.{TakesIn}
use Rattle.conn_state.proofs.ConnLemmas.{held-read, reads-on, keeps-still}
use Rattle.conn_state.proofs.conn.Conn.read_turn.Goals as goal

pub invariant_of-self : goal.invariant_of-self
invariant_of-self g c =
    let reading = c.read_item-turn in
    let takes = subst (λ st. TakesIn (g.L.Link.seen c.self.inside.link) (g.L.Link.seen reading.new.link) st c.self.inside.reader reading.new.reader
    c.self.inside.unsent reading.new.unsent reading.result.turn reading.result.plan) c.deref.ensures reading.ensures.takes in
    held-read c.answered_items_stay.ensures c.kept_bytes_go_on.ensures c.follows_what_was_read.ensures.may _ _ c.args.self.now c.self.inside.plan reading.result.plan
    c.self.inside.unsent reading.new.unsent (g.L.Link.seen reading.new.link) reading.new.reader reading.result.turn c.leaves-self-inside.result
    c.self.invariant c.self.view_is refl c.requires.usable c.requires.sent c.requires.«open» c.requires.not_shut takes c.leaves-self-inside.ensures

pub returns-clause-reads : goal.returns-clause-reads
returns-clause-reads g c =
    let reading = c.read_item-turn in
    let takes = subst (λ st. TakesIn (g.L.Link.seen c.self.inside.link) (g.L.Link.seen reading.new.link) st c.self.inside.reader reading.new.reader
    c.self.inside.unsent reading.new.unsent reading.result.turn reading.result.plan) c.deref.ensures reading.ensures.takes in
    reads-on (record {
      told = (g.L.Link.seen c.self.inside.link).told;
      counts = (g.L.Link.seen c.self.inside.link).counts;
      name = c.self.inside.name;
      child = c.self.inside.child;
      generation = c.self.inside.generation;
      site = c.self.inside.site.value;
      notes = c.self.inside.notes;
      pending = pending_bytes c.self.inside.site.value c.self.inside.unsent;
      reader = c.self.inside.reader;
      turn = c.self.inside.turn;
      linger = c.self.inside.linger;
      dropped = c.self.inside.dropped;
    }) c.args.self.now reading.result.plan c.self.inside.unsent reading.new.unsent (g.L.Link.seen reading.new.link) reading.new.reader reading.result.turn
    c.leaves-self-inside.result c.self.view_is refl takes c.leaves-self-inside.ensures

pub returns-clause-still : goal.returns-clause-still
returns-clause-still g c rest h a =
    let old = sym c.self.view_is in
    let same = c.read_item-turn.ensures.still rest (subst (λ (x : SeenConn). StandsFor x.reader rest) old h) (subst (λ (x : SeenConn). IsAnswerable x.reader rest) old a) in
    let reading = c.read_item-turn in
    let takes = subst (λ st. TakesIn (g.L.Link.seen c.self.inside.link) (g.L.Link.seen reading.new.link) st c.self.inside.reader reading.new.reader
    c.self.inside.unsent reading.new.unsent reading.result.turn reading.result.plan) c.deref.ensures reading.ensures.takes in (
      record {
        told = ap (λ (l : LinkSeen). l.told) same ∙ ap (λ (x : SeenConn). x.told) c.self.view_is;
        counts = ap (λ (l : LinkSeen). l.counts) same ∙ ap (λ (x : SeenConn). x.counts) c.self.view_is;
      },
      keeps-still c.keeps_answer.ensures.whole c.keeps_spelling.ensures.requests c.keeps_spelling.ensures.refusal (record {
        told = (g.L.Link.seen c.self.inside.link).told;
        counts = (g.L.Link.seen c.self.inside.link).counts;
        name = c.self.inside.name;
        child = c.self.inside.child;
        generation = c.self.inside.generation;
        site = c.self.inside.site.value;
        notes = c.self.inside.notes;
        pending = pending_bytes c.self.inside.site.value c.self.inside.unsent;
        reader = c.self.inside.reader;
        turn = c.self.inside.turn;
        linger = c.self.inside.linger;
        dropped = c.self.inside.dropped;
      }) c.args.self.now reading.result.plan c.self.inside.unsent reading.new.unsent (g.L.Link.seen reading.new.link) reading.new.reader reading.result.turn
          c.self.view_is takes rest h a,
    )
