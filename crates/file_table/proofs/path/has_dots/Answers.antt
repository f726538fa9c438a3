use Rattle.std.proofs.Common.{rules, tests}
use Rattle.std.proofs.lemmas.Iterator.Search.{any_from_yields_List}
use Rattle.std.proofs.lemmas.Iterator.Splits.{YieldsList-from_slice_split}
use Rattle.file_table.specs.Path.{is_dot_segment, is_slash}
use Rattle.file_table.proofs.path.has_dots.Goals as goal

pub returns : goal.returns
returns c =
    any_from_yields_List is_dot_segment _ _ _ c.any.ensures.ran
    (YieldsList-from_slice_split _ is_slash c.args.path.now c.split.ensures.rest c.split.ensures.done c.split.ensures.closure (λ x b q k. search (rules, tests)))
    (λ x b q k. search (rules, tests))
