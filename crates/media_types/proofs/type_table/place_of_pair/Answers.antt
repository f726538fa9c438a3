use Rattle.std.proofs.Common.{◌≡◌, ℕ, ◌≤◌, Bool, List, [], ◌∷◌, length, ap, unwrap_or, arith, ◌∙◌}
use Rattle.std.specs.List.{position, position_or_len}
use Rattle.std.proofs.lemmas.Bool.Decides.{nat_tests}
use Rattle.std.proofs.lemmas.Grind.{common_steps}
use Rattle.media_types.specs.MediaType.{is_pair_of}
use Rattle.media_types.specs.declared.types.TypePair.{TypePair}
use Rattle.media_types.proofs.type_table.place_of_pair.Goals as goal

place-le : (p : TypePair → Bool) (xs : List TypePair) → position_or_len p xs ≤ length xs
place-le p [] = omega arith
place-le p (x ∷ xs) = grind (arith, common_steps, place-le p xs)

-- the place where there is one, or the length
place-or : (p : TypePair → Bool) (xs : List TypePair) → unwrap_or (position p xs) (length xs) ≡ position_or_len p xs
place-or p xs = grind (arith, nat_tests, place-le p xs)

pub returns : goal.returns
returns c =
    c.unwrap_or.ensures ∙ ap (λ o. unwrap_or o (length c.args.pairs.now)) c.find_pair.ensures ∙ place-or (is_pair_of c.args.extension.now) c.args.pairs.now
