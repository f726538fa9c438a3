-- The tables, as the code has them.
use Rattle.media_types.specs.MediaType.{pair}
use Rattle.media_types.specs.declared.tables.Known.{Known}
use Rattle.media_types.specs.declared.types.TypePair.{TypePair}

-- what a line of the code's tables says, as a pair
abbrev pub pair_of : Known → TypePair
pair_of k = pair k.extension.now k.media.now
