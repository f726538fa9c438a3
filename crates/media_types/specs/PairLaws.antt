-- What pairs come to: a statement above the types of names.
use Rattle.std.specs.Prelude.{◌≡◌, true, false, List, [], ◌∷◌, ◌++◌, ℕ, Some, None}
use Rattle.media_types.specs.MediaType.{extension_of, is_pair_of, type_of_name, with_charset}
use Rattle.media_types.specs.declared.types.MediaTypes.{MediaTypes}
use Rattle.media_types.specs.declared.types.TypePair.{TypePair}

-- the types with one pair more
abbrev pub with_pair : MediaTypes → TypePair → MediaTypes
with_pair types p = record types { added = types.added ++ p ∷ [] }

-- the last pair of an extension decides its type, whatever stands before it, and changes no other name's
pub record LaterPairsCount : Type 0 where
  pub own : (types : MediaTypes) (p : TypePair) (name extension : List ℕ) → extension_of name ≡ Some extension
      → is_pair_of extension p ≡ true → type_of_name (with_pair types p) name ≡ with_charset types.charset p.media
  pub others : (types : MediaTypes) (p : TypePair) (name extension : List ℕ) → extension_of name ≡ Some extension
      → is_pair_of extension p ≡ false → type_of_name (with_pair types p) name ≡ type_of_name types name
  pub unnamed : (types : MediaTypes) (p : TypePair) (name : List ℕ) → extension_of name ≡ None
      → type_of_name (with_pair types p) name ≡ type_of_name types name
