-- Which host of a server a request is for, by its name (RFC 9110, section 7.2; RFC 9112, section 3.2). No port is compared.
use Rattle.std.specs.Prelude.{ℕ, ◌-◌, ◌==◌, ◌&&◌, Bool, List, [], ◌∷◌, length, take, drop, slice_index, position, unwrap_or, if◌then◌else◌}
use Rattle.std.specs.List.{list_all, list_any}
use Rattle.std.specs.Char.{is_ascii_digit}
use Rattle.mpm_base.specs.LetterCase.{is_same_ignoring_case}

-- a port behind a host: a colon (58), and digits or nothing
abbrev pub is_port : List ℕ → Bool
is_port text = slice_index text 0 == 58 && list_all is_ascii_digit (drop 1 text)

-- a value without its port
abbrev pub host_part : List ℕ → List ℕ
host_part [] = []
host_part (b ∷ bs) = if is_port (b ∷ bs) then [] else b ∷ host_part bs

-- a name without one point (46) at its end, which stands for the root of all names (RFC 1034, section 3.1)
abbrev pub without_point : List ℕ → List ℕ
without_point name = if slice_index name (length name - 1) == 46 then take (length name - 1) name else name

-- one of the names is that of the host, in which case of letters doesn't count (RFC 9110, section 4.2.3)
abbrev pub has_name : List ℕ → List (List ℕ) → Bool
has_name host names = list_any (is_same_ignoring_case host) names

-- the first host that has the name of the value; the first of all where none has it
abbrev pub choose : List (List (List ℕ)) → List ℕ → ℕ
choose hosts value = unwrap_or (position (has_name (without_point (host_part value))) hosts) 0
