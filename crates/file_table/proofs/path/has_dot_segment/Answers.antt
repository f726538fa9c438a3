use Rattle.std.proofs.Common.{◌≡◌, ℕ, ◌∷◌, List, [], true, sym, ◌∙◌, arith}
use Rattle.std.specs.List.{slice_split}
use Rattle.std.proofs.lemmas.Map.Views.{any-filter_same}
use Rattle.std.proofs.lemmas.Bool.Decides.{nat_tests}
use Rattle.file_table.specs.Path.{is_dot_segment, is_filled, is_slash}
use Rattle.file_table.proofs.path.has_dot_segment.Goals as goal

filled_dots : (part : List ℕ) → is_dot_segment part ≡ true → is_filled part ≡ true
filled_dots [] h = h
filled_dots (b ∷ bs) h = grind (arith, nat_tests)

pub returns : goal.returns
returns c = c.has_dots.ensures ∙ sym (any-filter_same is_dot_segment is_filled true filled_dots (slice_split is_slash c.args.path.now))
