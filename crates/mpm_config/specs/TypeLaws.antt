-- What the types of a configuration come to.
use Rattle.std.specs.Prelude.{All, IfSome}
use Rattle.media_types.specs.declared.types.MediaTypes.{MediaTypes}
use Rattle.media_types.specs.declared.types.TypePair.{TypePair}
use Rattle.type_words.specs.TypeLaws.{IsPrintable}

-- each byte of a type that was added, and of the character set, where one is named, can be seen or is a space
pub record HavePrintable (types : MediaTypes) : Type 0 where
  pub added : All (λ (p : TypePair). All IsPrintable p.media) types.added
  pub charset : IfSome types.charset (All IsPrintable)
