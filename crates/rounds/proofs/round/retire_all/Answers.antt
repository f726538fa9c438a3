use Rattle.std.proofs.Common.{ap, ◌∙◌, None, refl}
use Rattle.std.specs.List.{list_any}
use Rattle.conn_machine.specs.Rows.{is_live}
use Rattle.conn_machine.specs.States.{is_halted}
use Rattle.conn_machine.specs.declared.event.Event.TheVariants as event
use Rattle.board.specs.Board.{SeenBoard}
use Rattle.rounds.proofs.ListenLemmas.{fewer-stopping, all-gone}
use Rattle.rounds.proofs.ActLemmas.{acts-added, rest_retire, rest_same, retires-more, retires-none}
use Rattle.rounds.proofs.TimelyLemmas.{timely-retire}
use Rattle.rounds.proofs.round.retire_all.Goals as goal

pub loop-child-init : goal.loop-child-init
loop-child-init g c =
    record { retires = retires-none c.passes_act_in_steps.ensures.acts c.args.board.now.book c.requires.free; rest = rest_same c.args.board.now.book c.args.board.now.book refl; going = refl; rows = refl }

pub loop-child-smaller : goal.loop-child-smaller
loop-child-smaller g c =
    fewer-stopping c.loop-child.board.book.state c.retire.new.self.book.state c.in-Some.child c.in-Some.ensures
    (ap (λ (b : SeenBoard). b.book.state) c.retire.ensures.is)

pub loop-child-preserved : goal.loop-child-preserved
loop-child-preserved g c =
    let one =
    acts-added c.passes_act_in_steps.ensures.acts (event.Retire c.in-Some.child) None c.loop-child.board c.retire.new.self c.retire.ensures.is c.retire.ensures.entries
    (c.retire.ensures.row ∙ c.loop-child.invariant.retires.acts.row) in
    record {
      retires =
          retires-more c.passes_act_in_steps.ensures.acts c.in-Some.child c.args.board.now.book c.loop-child.board.book c.retire.new.self.book c.loop-child.invariant.retires
          one (timely-retire c.in-Some.child c.loop-child.board.book c.retire.new.self.book one c.show_state.ensures.after c.in-Some.ensures);
      rest =
          c.passes_act_in_steps.ensures.rest c.args.board.now.book c.loop-child.board.book c.retire.new.self.book c.loop-child.invariant.rest
          (rest_retire c.in-Some.child c.loop-child.board c.retire.new.self c.retire.ensures.is);
      going = ap (λ (b : SeenBoard). b.book.state.going) c.retire.ensures.is ∙ c.loop-child.invariant.going;
      rows = ap (λ (b : SeenBoard). b.book.state.rows) c.retire.ensures.is ∙ c.loop-child.invariant.rows;
    }

pub returns-clause-down : goal.returns-clause-down
returns-clause-down g c halted live =
    let still = ap (list_any is_live) c.loop-child.invariant.rows ∙ live in
    record {
      live = still;
      empty =
          all-gone c.loop-child.board.book.state c.show.ensures.sound (ap is_halted c.loop-child.invariant.going ∙ halted)
          c.in_default.ensures still;
    }
