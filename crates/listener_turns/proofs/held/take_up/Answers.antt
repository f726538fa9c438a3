use Rattle.std.proofs.Common.{ap, sym, ◌∙◌}
use Rattle.conn_machine.specs.declared.event.Event.TheVariants as event
use Rattle.board.specs.Board.{SeenBoard}
use Rattle.board_turns.proofs.GoesOnLemmas.{made}
use Rattle.listener_turns.proofs.HeldLemmas.{kind_there, took_up}
use Rattle.listener_turns.proofs.held.take_up.Goals as goal

pub unreachable-requires : goal.unreachable-requires
unreachable-requires g c = kind_there c.args.board.now.book.state c.args.name c.requires.waits (sym c.kind.ensures ∙ c.in_default.is)

pub returns-clause-made : goal.returns-clause-made
returns-clause-made g c =
    made 0 (event.Hold c.args.name) c.args.board.now c.hold-conn.new.self _ c.hold-conn.ensures.is c.hold-conn.ensures.entries

pub returns-clause-row : goal.returns-clause-row
returns-clause-row g c =
    took_up c.args.board.now.book.state c.hold-conn.new.self.book.state c.args.name c.hold-conn.result c.in-Some.kind c.cause-cause.result c.is_late-late.result
    c.show.ensures.sound (ap (λ (b : SeenBoard). b.book.state) c.hold-conn.ensures.is) c.requires.waits (sym c.in-Some.is ∙ c.kind.ensures) c.cause-cause.ensures
    c.is_late-late.ensures c.hold-conn.ensures.name c.hold-conn.ensures.handed
