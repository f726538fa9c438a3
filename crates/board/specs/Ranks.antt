-- What the links of connections that ended tell of the order in which they came.
use Rattle.std.specs.Prelude.{◌≡◌, ◌==◌, ℕ, Bool, false, List, [], ◌∷◌, Option, None, Some, ⊤}
use Rattle.std.specs.List.{flat_map}
use Rattle.std.specs.Option.{option_map_or}
use Rattle.mpm_base.specs.Link.{LinkTold}
use Rattle.conn_state.specs.Answered.{SeenEnded}

-- the link of each connection tells
abbrev pub AllTell : List SeenEnded → Type 0
AllTell [] = ⊤
AllTell (e ∷ ended) = ((t : LinkTold) × (e.told ≡ Some t)) × AllTell ended

-- the rank of a link that tells
abbrev pub rank_told : Option LinkTold → List ℕ
rank_told None = []
rank_told (Some t) = t.rank ∷ []

-- the ranks that the links of the connections tell, in order
abbrev pub ranks_of : List SeenEnded → List ℕ
ranks_of ended = flat_map (λ e. rank_told e.told) ended

-- the link of the connection tells that rank
abbrev pub has_rank : ℕ → SeenEnded → Bool
has_rank rank e = option_map_or (λ t. t.rank == rank) e.told false
