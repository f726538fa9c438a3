-- Where the type of a name stands among the pairs by which types are looked up.
use Rattle.std.specs.Prelude.{ℕ, List, length, Option, Some, None}
use Rattle.std.specs.List.{position_or_len}
use Rattle.media_types.specs.MediaType.{extension_of, is_pair_of, pairs_of}
use Rattle.media_types.specs.declared.types.MediaTypes.{MediaTypes}
use Rattle.media_types.specs.declared.types.TypePair.{TypePair}

-- the place of the pair of a name with this extension; behind all pairs where none has it
abbrev pub place_of_extension : List TypePair → Option (List ℕ) → ℕ
place_of_extension pairs None = length pairs
place_of_extension pairs (Some extension) = position_or_len (is_pair_of extension) pairs

-- the place of the type of a file of that name
unfoldable pub place_of_name : MediaTypes → List ℕ → ℕ
place_of_name types name = place_of_extension (pairs_of types) (extension_of name)
