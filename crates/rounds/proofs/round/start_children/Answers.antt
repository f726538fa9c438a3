use Rattle.std.proofs.Common.{None, length, ap, subst, sym, ◌∙◌, refl, rules}
use Rattle.conn_machine.specs.declared.event.Event.TheVariants as event
use Rattle.board.specs.Board.{SeenBoard}
use Rattle.board_book.specs.Faults.{IsRefusedFor}
use Rattle.worker_group.specs.Service.{LeavesRest}
use Rattle.rounds.specs.PartsInside.{StartsSome}
use Rattle.conn_machine.specs.States.{is_staffed}
use Rattle.rounds.proofs.StaffLemmas.{before-behind, length-updated, staffed-behind, staffed-start}
use Rattle.rounds.proofs.TimelyLemmas.{timely-start}
use Rattle.rounds.proofs.ChildrenLemmas.{all-started, opens-in-order, starts-next}
use Rattle.rounds.proofs.ListenLemmas.{may-start_child, fewer-gone}
use Rattle.rounds.proofs.ActLemmas.{acts-added, rest_same, rest_start, starts-more, starts-none}
use Rattle.rounds.proofs.round.start_children.Goals as goal

pub loop-child-init : goal.loop-child-init
loop-child-init g c =
    record {
      starts = starts-none c.passes_act_in_steps.ensures.acts c.args.board.now.book c.requires.free;
      first = opens-in-order c.args.board.now.book c.show_state.ensures.after;
      rest = rest_same c.args.board.now.book c.args.board.now.book refl;
      going = refl;
      staffed = λ staffed. staffed;
      children = refl;
    }

pub start_child-requires-clause-allowed : goal.start_child-requires-clause-allowed
start_child-requires-clause-allowed g c going =
    may-start_child c.loop-child.board.book.state c.in-Some.child c.show.ensures.sound (sym c.can_start.ensures ∙ c.in-Some.is)

pub loop-child-smaller : goal.loop-child-smaller
loop-child-smaller g c =
    fewer-gone c.loop-child.board.book.state c.start_child.new.self.book.state c.in-Some.child (sym c.can_start.ensures ∙ c.in-Some.is)
    (ap (λ (b : SeenBoard). b.book.state) c.in_ok-start_child.ensures.ok.new_is)

pub loop-child-preserved : goal.loop-child-preserved
loop-child-preserved g c =
    let law = c.children_change_one_at_a_time.ensures in
    let one =
    acts-added c.passes_act_in_steps.ensures.acts (event.StartChild c.in-Some.child) None c.loop-child.board c.start_child.new.self c.in_ok-start_child.ensures.ok.new_is
    c.start_child.ensures.entries (c.start_child.ensures.row ∙ c.loop-child.invariant.starts.acts.row) in
    record {
      starts =
          starts-more c.passes_act_in_steps.ensures.acts c.in-Some.child c.args.board.now.book c.loop-child.board.book c.start_child.new.self.book c.loop-child.invariant.starts one
          (timely-start c.in-Some.child c.loop-child.board.book c.start_child.new.self.book one c.show.ensures.state (sym c.can_start.ensures ∙ c.in-Some.is));
      first =
          λ opening. starts-next (record { there = law.there; others = law.others; as_many = law.length }) c.args.board.now.book.base c.loop-child.board c.start_child.new.self c.in-Some.child (sym c.can_start.ensures ∙ c.in-Some.is)
          c.in_ok-start_child.ensures.ok.new_is (c.loop-child.invariant.first opening);
      rest =
          c.passes_act_in_steps.ensures.rest c.args.board.now.book c.loop-child.board.book c.start_child.new.self.book c.loop-child.invariant.rest
          (rest_start c.in-Some.child c.loop-child.board c.start_child.new.self c.in_ok-start_child.ensures.ok.new_is);
      going = ap (λ (b : SeenBoard). b.book.state.going) c.in_ok-start_child.ensures.ok.new_is ∙ c.loop-child.invariant.going;
      staffed =
          λ staffed. ap (λ (b : SeenBoard). is_staffed b.book.state) c.in_ok-start_child.ensures.ok.new_is
          ∙ staffed-start c.loop-child.board.book.state c.in-Some.child (c.loop-child.invariant.staffed staffed);
      children =
          ap (λ (b : SeenBoard). length b.book.state.children) c.in_ok-start_child.ensures.ok.new_is
          ∙ length-updated c.loop-child.board.book.state.children c.in-Some.child _ ∙ c.loop-child.invariant.children;
    }

pub returns-in_err-start_child-clause-starts : goal.returns-in_err-start_child-clause-starts
returns-in_err-start_child-clause-starts g c =
    subst (λ (b : SeenBoard). StartsSome c.args.board.now.book b.book) (sym c.in_err-start_child.ensures.err) c.loop-child.invariant.starts

pub returns-in_err-start_child-clause-why : goal.returns-in_err-start_child-clause-why
returns-in_err-start_child-clause-why g c =
    let why : IsRefusedFor c.in_err-start_child.field-0.0 c.start_child.new.self.book =
    subst (λ (b : SeenBoard). IsRefusedFor c.in_err-start_child.field-0.0 b.book) (sym c.in_err-start_child.ensures.err) c.in_err-start_child.ensures.why in
    search (rules, why)

pub returns-in_err-start_child-clause-rest : goal.returns-in_err-start_child-clause-rest
returns-in_err-start_child-clause-rest g c =
    subst (λ (b : SeenBoard). LeavesRest c.args.board.now.book b.book) (sym c.in_err-start_child.ensures.err) c.loop-child.invariant.rest

pub returns-clause-first : goal.returns-clause-first
returns-clause-first g c opening =
    all-started c.args.board.now.book.base c.loop-child.board.book (c.loop-child.invariant.first opening) (sym c.can_start.ensures ∙ c.in_default.is)

pub returns-in_err-start_child-clause-before : goal.returns-in_err-start_child-clause-before
returns-in_err-start_child-clause-before g c =
    before-behind c.args.board.now.book.state c.start_child.new.self.book.state
    (ap (λ (b : SeenBoard). b.book.state.going) c.in_err-start_child.ensures.err ∙ c.loop-child.invariant.going)
    (λ staffed. ap (λ (b : SeenBoard). is_staffed b.book.state) c.in_err-start_child.ensures.err ∙ c.loop-child.invariant.staffed staffed)

pub returns-in_err-start_child-clause-children : goal.returns-in_err-start_child-clause-children
returns-in_err-start_child-clause-children g c =
    ap (λ (b : SeenBoard). length b.book.state.children) c.in_err-start_child.ensures.err ∙ c.loop-child.invariant.children

pub returns-clause-staffed : goal.returns-clause-staffed
returns-clause-staffed g c up before some =
    staffed-behind c.args.board.now.book.state c.loop-child.board.book.state c.loop-child.invariant.going up c.loop-child.invariant.staffed before
    (sym c.can_start.ensures ∙ c.in_default.is) c.show-2.ensures.sound.children.newest some

pub returns-clause-before : goal.returns-clause-before
returns-clause-before g c =
    before-behind c.args.board.now.book.state c.loop-child.board.book.state c.loop-child.invariant.going c.loop-child.invariant.staffed
