use Rattle.board_book.proofs.FiledLemmas.{filed_on}
use Rattle.board_book.proofs.filed.step_and_note.Goals as goal

pub invariant_of-state-2 : goal.invariant_of-state-2
invariant_of-state-2 c =
    filed_on c.rows_change_one_at_a_time.ensures c.state.inside.state c.step_and_note.new.state c.args.event.now c.state.inside.rings c.refile.new.rings c.slot_of_event.result
    c.state.invariant c.in_ok-stepped.ensures.state c.step_and_note.ensures.sizes.rows c.slot_of_event.ensures c.refile.ensures
