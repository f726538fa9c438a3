use Rattle.std.proofs.Common.{◌≤◌, ℕ, vec_capacity, refl, rules}
use Rattle.std.proofs.lemmas.List.{length-replicate}
use Rattle.conn_machine.specs.States.{opening_state}
use Rattle.board_book.proofs.BookLemmas.{kept_first}
use Rattle.board_book.proofs.book.Book.open.Goals as goal

pub invariant_of-result : goal.invariant_of-result
invariant_of-result c =
    let space : 1 ≤ vec_capacity c.in-Ok.history = search rules in
    let opened = opening_state c.args.slots c.args.children c.args.shape in
    rw (c.of.ensures, c.state.ensures, c.in_ok-state.ensures, c.in-Ok.ensures.items, c.in_ok-folded.ensures, c.in_ok-editions.ensures, length-replicate {A = ℕ} c.args.passes 0)
    (kept_first c.args.slots c.args.children c.args.passes (vec_capacity c.in-Ok.history) c.args.shape c.in_ok-ahead.ahead
    (c.folds_are_one_fold.ensures.opening opened c.args.passes) c.requires.slots c.requires.children
    (c.events_keep_states_sound.ensures.opening c.args.slots c.args.children c.args.shape c.requires.shape) space
    (c.records_open_with_nothing.ensures.places c.args.passes) (c.folds_are_one_fold.ensures.opened c.args.passes)
    (c.each_pass_has_its_own_connection.ensures.opened opened c.args.passes
    (record { slots = c.args.slots; children = c.args.children; shape = c.args.shape; bounds = c.requires.shape; state = refl }))
    c.in_ok-ahead.ensures)
