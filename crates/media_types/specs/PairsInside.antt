-- The pairs by which types are looked up, as they are kept.
use Rattle.std.specs.Prelude.{◌≡◌, ℕ, List, map, Option}
use Rattle.media_types.specs.MediaType.{pairs_of, with_charset}
use Rattle.media_types.specs.declared.types.MediaTypes.{MediaTypes}
use Rattle.media_types.specs.declared.types.TypePair.{TypePair}

-- the pair with the character set behind its type, where there is one to name
abbrev pub pair_sent : Option (List ℕ) → TypePair → TypePair
pair_sent charset p = record { extension = p.extension; media = with_charset charset p.media }

-- the pairs are those of the types, as they are sent
abbrev pub ArePairsOf : MediaTypes → List TypePair → Type 0
ArePairsOf types pairs = pairs ≡ map (pair_sent types.charset) (pairs_of types)
