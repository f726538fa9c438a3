use Rattle.std.proofs.Common.{ap}
use Rattle.conn_machine.specs.declared.event.Event.TheVariants as event
use Rattle.board.specs.Board.{SeenBoard}
use Rattle.board_turns.proofs.GoesOnLemmas.{made}
use Rattle.listener_turns.proofs.ChildrenLemmas.{fewer_stopping, retires_more, retires_none}
use Rattle.listener_turns.proofs.children.retire_each.Goals as goal

pub loop-child-init : goal.loop-child-init
loop-child-init g c = record { has = retires_none c.args.board.now }

pub loop-child-smaller : goal.loop-child-smaller
loop-child-smaller g c =
    fewer_stopping c.loop-child.board.book.state c.retire.new.self.book.state c.in-Some.child c.in-Some.ensures
    (ap (λ (b : SeenBoard). b.book.state) c.retire.ensures.is)

pub loop-child-preserved : goal.loop-child-preserved
loop-child-preserved g c =
    record {
      has =
          retires_more c.args.board.now c.loop-child.board c.retire.new.self c.in-Some.child c.loop-child.invariant.has
          (made 0 (event.Retire c.in-Some.child) c.loop-child.board c.retire.new.self c.loop-child.board.conns c.retire.ensures.is c.retire.ensures.entries);
    }

pub returns-clause-retired : goal.returns-clause-retired
returns-clause-retired g c =
    let has = c.loop-child.invariant.has in
    (has.children, has.made)

pub returns-clause-all : goal.returns-clause-all
returns-clause-all g c = c.in_default.ensures
