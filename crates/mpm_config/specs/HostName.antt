-- The names of a host, as ServerName and ServerAlias have them.
use Rattle.std.specs.Prelude.{ℕ, ◌==◌, ◌&&◌, ◌||◌, Bool, false, true, is_some, not, List, [], ◌∷◌, length, codes, Option, None, Some}
use Rattle.std.specs.List.{before_first, list_any}
use Rattle.std.specs.Str.{bytes_eq}
use Rattle.mpm_config.specs.Range.{port_range}
use Rattle.conf_text.specs.Parts.{Parts, parts_around}
use Rattle.mpm_config.specs.Value.{number}
use Rattle.conf_text.specs.Words.{Word, Closed, Unclosed}
use Rattle.name_hosts.specs.Host.{without_point}

-- a name: some bytes without an asterisk (42) or a question mark (63), and no point alone
abbrev pub is_host_name : List ℕ → Bool
is_host_name v = not (length v == 0) && not (list_any (λ b. b == 42 || b == 63) v) && not (bytes_eq v (codes "."))

-- behind a colon stands a port, which isn't compared
abbrev pub has_right_port : Option Parts → Bool
has_right_port None = true
has_right_port (Some p) = is_some (number port_range p.after)

-- a value of ServerName: a name, or a name, a colon (58) and a port
abbrev pub is_server_name : List ℕ → Bool
is_server_name v = is_host_name (before_first (λ b. b == 58) v) && has_right_port (parts_around 58 v)

-- its name, without its port and one point at its end
abbrev pub server_name : List ℕ → List ℕ
server_name v = without_point (before_first (λ b. b == 58) v)

-- each word is a name
abbrev pub are_host_names : List Word → Bool
are_host_names [] = true
are_host_names (Closed v ∷ ws) = is_host_name v && are_host_names ws
are_host_names (Unclosed ∷ ws) = false

-- a value of ServerAlias: one or more names
abbrev pub are_aliases : List Word → Bool
are_aliases ws = not (length ws == 0) && are_host_names ws

-- the names, each without one point at its end
abbrev pub aliases_of : List Word → List (List ℕ)
aliases_of [] = []
aliases_of (Closed v ∷ ws) = without_point v ∷ aliases_of ws
aliases_of (Unclosed ∷ ws) = aliases_of ws

-- a host has at most 64 aliases
abbrev pub most_aliases : ℕ
most_aliases = 64
