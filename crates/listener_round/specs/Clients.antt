-- What a front tells of its clients.
use Rattle.std.specs.Prelude.{ℕ, List, Option, option_map}
use Rattle.mpm_base.specs.Front.{FrontTold}

-- what the clients of a front send, in the order of arrival, where it tells that
abbrev pub clients_told : Option FrontTold → Option (List (List ℕ))
clients_told told = option_map (λ t. t.clients) told

-- the moments at which something comes by itself, where a front tells and is patient
abbrev pub comings_told : Option FrontTold → Option (Option (List ℕ))
comings_told told = option_map (λ t. t.comings) told
