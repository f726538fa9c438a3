use Rattle.media_types.proofs.PairLemmas.{other_type, own_type, unnamed_type}
use Rattle.media_types.proofs.laws.later_pairs_count.Goals as goal

pub returns : goal.returns
returns c = record { own = own_type; others = other_type; unnamed = unnamed_type }
