use Rattle.std.proofs.Common.{◌≡◌, ◌∙◌, [], length, vec_capacity, ap, rules, arith}
use Rattle.conn_machine.specs.declared.folded.Folded.{Folded}
use Rattle.board_book.specs.Book.{SeenBook}
use Rattle.board_book.specs.BookInside.{lines_then}
use Rattle.board_book.proofs.FoldedLemmas.{IsFoldedBut, folded_is, kept_folded}
use Rattle.board_book.proofs.book.Book.fold.Goals as goal

pub fold_into-requires-clause-ahead : goal.fold_into-requires-clause-ahead
fold_into-requires-clause-ahead c = rw c.as_slice.ensures.value c.self.invariant.ahead_is

pub fold_into-requires-clause-places : goal.fold_into-requires-clause-places
fold_into-requires-clause-places c = c.self.invariant.folded.places

pub fold_into-requires-clause-passes : goal.fold_into-requires-clause-passes
fold_into-requires-clause-passes c = rw c.as_slice.ensures.value c.self.invariant.few

pub fold_into-requires-clause-few : goal.fold_into-requires-clause-few
fold_into-requires-clause-few c = rw c.as_slice.ensures.value (omega (arith, c.self.invariant.countable))

pub invariant_of-self : goal.invariant_of-self
invariant_of-self c =
    let inside = c.self.inside in
    let before = c.self.invariant in
    let passes = length inside.folded.ordinals in
    let base = inside.base.value in
    let history = inside.history.items in
    let folded_but : IsFoldedBut history inside.folded c.fold_into.new.folded = rw c.as_slice.ensures.value at c.fold_into.ensures.folded in
    let places = c.records_go_on_by_folds.ensures.places passes base inside.folded history [] before.folded.places in
    let as_many : length c.fold_into.new.folded.ordinals ≡ passes =
    ap (λ (f : Folded). length f.ordinals) (folded_but base []) ∙ places.ordinals in
    rw (c.clear.ensures.items, c.of.ensures, c.state-3.ensures, as_many, c.keep_in_use.ensures, c.state-2.ensures, c.in_ok-editions.ensures, c.state.ensures)
    (kept_folded passes base inside.folded history inside.state inside.ahead c.fold_into.new.self inside.editions.items.items (vec_capacity inside.history) (vec_capacity c.clear.new.self)
    c.take_on.new.lines c.fold_into.new.folded c.generations_begin_in_order.ensures before folded_but c.fold_into.ensures.ahead (search rules) places
    (c.folds_are_one_fold.ensures.within base inside.folded history [] before.folded.within)
    (c.each_pass_has_its_own_connection.ensures.folded passes base inside.folded history [] before.folded.places before.few before.own before.made)
    (c.folds_are_one_fold.ensures.begun base inside.folded history [] before.has_editions.begun))

pub returns-clause-ok : goal.returns-clause-ok
returns-clause-ok c ended lines_are =
    let inside = c.self.inside in
    let before = c.self.invariant in
    let passes = length inside.folded.ordinals in
    let base = inside.base.value in
    let history = inside.history.items in
    let folded_but : IsFoldedBut history inside.folded c.fold_into.new.folded = rw c.as_slice.ensures.value at c.fold_into.ensures.folded in
    let places = c.records_go_on_by_folds.ensures.places passes base inside.folded history ended before.folded.places in
    let old_lines : c.fold_into.new.folded.lines ≡ c.args.self.now.folded.lines =
    ap (λ (f : Folded). f.lines) (folded_but base []) ∙ ap (λ (b : SeenBook). b.folded.lines) c.self.view_is in
    rw (c.clear.ensures.items, c.of.ensures, c.state-3.ensures, c.in_ok-editions.ensures, c.state.ensures)
    (folded_is c.args.self.now passes base inside.folded history inside.state inside.ahead inside.editions.items.items (vec_capacity inside.history) c.take_on.new.lines ended
    c.fold_into.new.folded before folded_but c.self.view_is places.ordinals
    (c.take_on.ensures ∙ ap (lines_then c.args.lines) old_lines ∙ lines_are))
