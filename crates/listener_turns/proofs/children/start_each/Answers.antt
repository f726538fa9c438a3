use Rattle.std.proofs.Common.{ap, sym, subst, rules, ◌∙◌}
use Rattle.conn_machine.specs.declared.event.Event.TheVariants as event
use Rattle.board.specs.Board.{SeenBoard}
use Rattle.board_book.specs.Faults.{IsRefusedFor}
use Rattle.board_turns.proofs.GoesOnLemmas.{made_added}
use Rattle.listener_turns.proofs.ChildrenLemmas.{HasStarted, fewer_gone, may_start_child, starts_more, starts_none}
use Rattle.listener_turns.proofs.children.start_each.Goals as goal

pub loop-child-init : goal.loop-child-init
loop-child-init g c = record { has = starts_none c.args.board.now }

pub start_child-requires-clause-allowed : goal.start_child-requires-clause-allowed
start_child-requires-clause-allowed g c going =
    may_start_child c.loop-child.board.book.state c.in-Some.child c.show.ensures.sound (sym c.can_start.ensures ∙ c.in-Some.is)

pub loop-child-smaller : goal.loop-child-smaller
loop-child-smaller g c =
    fewer_gone c.loop-child.board.book.state c.start_child.new.self.book.state c.in-Some.child (sym c.can_start.ensures ∙ c.in-Some.is)
    (ap (λ (b : SeenBoard). b.book.state) c.in_ok-start_child.ensures.ok.new_is)

pub loop-child-preserved : goal.loop-child-preserved
loop-child-preserved g c =
    record {
      has =
          starts_more c.args.board.now c.loop-child.board c.start_child.new.self c.in-Some.child c.loop-child.invariant.has (sym c.can_start.ensures ∙ c.in-Some.is)
          (made_added 0 (event.StartChild c.in-Some.child) c.loop-child.board c.start_child.new.self c.start_child.new.self.conns c.in_ok-start_child.ensures.ok
          c.start_child.ensures.entries);
    }

pub returns-in_err-start_child-clause-started : goal.returns-in_err-start_child-clause-started
returns-in_err-start_child-clause-started g c =
    let has = subst (λ (b : SeenBoard). HasStarted c.args.board.now b) (sym c.in_err-start_child.ensures.err) c.loop-child.invariant.has in
    (has.children, has.made, has.started)

pub returns-in_err-start_child-clause-why : goal.returns-in_err-start_child-clause-why
returns-in_err-start_child-clause-why g c =
    let why : IsRefusedFor c.in_err-start_child.field-0.0 c.start_child.new.self.book =
    subst (λ (b : SeenBoard). IsRefusedFor c.in_err-start_child.field-0.0 b.book) (sym c.in_err-start_child.ensures.err) c.in_err-start_child.ensures.why in
    search (rules, why)

pub returns-clause-started : goal.returns-clause-started
returns-clause-started g c =
    let has = c.loop-child.invariant.has in
    (has.children, has.made, has.started)

pub returns-clause-all : goal.returns-clause-all
returns-clause-all g c = sym c.can_start.ensures ∙ c.in_default.is
