use Rattle.std.proofs.Common.{length, refl}
use Rattle.board_book.proofs.AheadLemmas.{folded_is}
use Rattle.board_book.proofs.ahead.Ahead.fold_into.Goals as goal

pub returns-clause-folded : goal.returns-clause-folded
returns-clause-folded c base ended =
    folded_is c.args.folded.now _ c.args.history.now c.args.self.now base ended c.requires.ahead c.requires.places
    (c.records_go_on_by_folds.ensures.places (length c.args.folded.now.ordinals) base c.args.folded.now c.args.history.now ended c.requires.places)
    (λ p. c.records_go_on_by_folds.ensures.fold (length c.args.folded.now.ordinals) base c.args.folded.now c.args.history.now ended p c.requires.places c.requires.passes)
    (rw (c.copy_from.ensures, c.copy_from-2.ensures, c.as_slice.ensures.value, c.as_slice-2.ensures.value) refl)
