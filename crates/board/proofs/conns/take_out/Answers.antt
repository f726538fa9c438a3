use Rattle.std.proofs.Common.{◌≡◌, None, Some, ap, sym, ◌∙◌}
use Rattle.std.specs.Option.{option_copied_mut}
use Rattle.conn_slots.specs.Slots.{item_of}
use Rattle.conn_state.specs.Conn.{SeenConn}
use Rattle.board.specs.Board.{conn_at}
use Rattle.board.specs.Layout.{conns_in}
use Rattle.board.proofs.UseLemmas.{conn-of-item}
use Rattle.board.proofs.conns.take_out.Goals as goal

pub known_as-requires : goal.known_as-requires
known_as-requires g c =
    let slots = c.args.conns.now.slots in
    let item : item_of slots c.args.name ≡ Some c.in-Some.place.now = sym c.get_mut.follows ∙ ap option_copied_mut c.in-Some.is in
    let there : conn_at (conns_in slots) c.args.name.slot ≡ Some c.in-Some-take.conn =
    conn-of-item slots c.args.name c.in-Some.place.now item ∙ sym c.take.ensures.value ∙ c.in-Some-take.is in
    record { client = c.requires.client c.in-Some-take.conn there }

pub unreachable-requires-in-None : goal.unreachable-requires-in-None
unreachable-requires-in-None g c =
    let slots = c.args.conns.now.slots in
    let item : item_of slots c.args.name ≡ Some c.in-Some.place.now = sym c.get_mut.follows ∙ ap option_copied_mut c.in-Some.is in
    let none : conn_at (conns_in slots) c.args.name.slot ≡ None =
    conn-of-item slots c.args.name c.in-Some.place.now item ∙ sym c.take.ensures.value ∙ c.in-None.is in
    let there = c.requires.there.1 in
    absurd (cc)

pub returns-clause-conn : goal.returns-clause-conn
returns-clause-conn g c =
    let slots = c.args.conns.now.slots in
    let item : item_of slots c.args.name ≡ Some c.in-Some.place.now = sym c.get_mut.follows ∙ ap option_copied_mut c.in-Some.is in
    conn-of-item slots c.args.name c.in-Some.place.now item ∙ sym c.take.ensures.value ∙ c.in-Some-take.is
    ∙ ap (λ (x : SeenConn). Some x) (sym c.known_as.ensures.same)
