-- The search for a port, from a place on.
use Rattle.std.proofs.Common.{ℕ, ◌++◌, List, take, drop}
use Rattle.name_hosts.specs.Host.{host_part}

-- what stands before the place, and what is left from there on without its port
abbrev pub left_from : List ℕ → ℕ → List ℕ
left_from value i = take i value ++ host_part (drop i value)
