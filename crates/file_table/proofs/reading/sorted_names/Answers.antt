use Rattle.std.proofs.lemmas.List.Sorted.{IsPermutation-map}
use Rattle.file_table.proofs.reading.sorted_names.Goals as goal

pub returns-clause-names : goal.returns-clause-names
returns-clause-names c =
    rw (← c.in_ok-sorted.ensures) (IsPermutation-map (λ name. name.now) _ _ c.sort.ensures.permutation)
