-- The search for the > that only blanks follow.
use Rattle.std.proofs.Common.{ℕ, ◌++◌, List, Option, option_map, take, drop}
use Rattle.mpm_config.specs.Form.{before_end}

-- what is found from a place on, of the whole
abbrev pub found_from : List ℕ → ℕ → Option (List ℕ)
found_from xs i = option_map (λ v. take i xs ++ v) (before_end (drop i xs))
