use Rattle.type_words.proofs.TypeLemmas.{charset-printable, pairs-printable}
use Rattle.type_words.proofs.laws.types_are_printable.Goals as goal

pub returns : goal.returns
returns c = record { types = pairs-printable; charsets = charset-printable }
