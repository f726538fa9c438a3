use Rattle.std.proofs.Common.{rules, tests}
use Rattle.std.proofs.lemmas.Iterator.Search.{all_from_yields_List}
use Rattle.std.proofs.lemmas.Iterator.Splits.{YieldsList-from_slice_split}
use Rattle.file_table.specs.Path.{is_filled, is_slash}
use Rattle.file_table.proofs.path.all_filled.Goals as goal

pub returns : goal.returns
returns c =
    all_from_yields_List is_filled _ _ _ c.all.ensures.ran
    (YieldsList-from_slice_split _ is_slash c.args.name.now c.split.ensures.rest c.split.ensures.done c.split.ensures.closure (λ x b q k. search (rules, tests)))
    (λ x b q k. search (rules, tests))
