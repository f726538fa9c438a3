-- The target of a request (RFC 9112, section 3.2).
-- Why it is so stands in docs/DECISIONS.md: 24, What a path names.
use Rattle.std.specs.Prelude.{ℕ, ◌==◌, Bool, List, [], ◌∷◌, length, take, drop, codes, Option, Some, None, slice_index, if◌then◌else◌}
use Rattle.std.specs.List.{after_first, before_first, list_any}
use Rattle.mpm_base.specs.LetterCase.{is_same_ignoring_case}
use Rattle.http_read.specs.Authority.{is_authority}

-- the byte that begins a query
abbrev pub begins_query : ℕ → Bool
begins_query b = b == 63

-- what stands before the query
abbrev pub before_query : List ℕ → List ℕ
before_query target = before_first begins_query target

-- the byte that begins a path
abbrev pub begins_path : ℕ → Bool
begins_path b = b == 47

-- the byte that begins a fragment, which no target has
abbrev pub begins_fragment : ℕ → Bool
begins_fragment b = b == 35

-- the target begins with http://, in which case of letters doesn't count
abbrev pub has_scheme : List ℕ → Bool
has_scheme target = is_same_ignoring_case (take 7 target) (codes "http://")

-- a path, or the root where it is empty (RFC 9110, section 4.2.3)
abbrev pub path_or_root : List ℕ → List ℕ
path_or_root path = if length path == 0 then 47 ∷ [] else path

-- the authority: what stands before the path
abbrev pub authority_of : List ℕ → List ℕ
authority_of text = before_first begins_path text

-- the name by which a request asks for its host: the authority of a target in absolute form, whatever its Host says (RFC 9112, section
-- 3.2.2), else the value of its Host
abbrev pub named_host : List ℕ → List ℕ → List ℕ
named_host target host = if has_scheme target then authority_of (before_query (drop 7 target)) else host

-- the path behind an authority, which is a host with or without a port (RFC 9110, section 4.2.1)
abbrev pub path_behind : List ℕ → Option (List ℕ)
path_behind text =
    if is_authority (authority_of text) then Some (path_or_root (drop (length (authority_of text)) text)) else None

-- the path of a target in origin form or in absolute form; another one, and one with a fragment, has none
unfoldable pub path_of : List ℕ → Option (List ℕ)
path_of target =
    if list_any begins_fragment target then None
    else (if begins_path (slice_index target 0) then Some (before_query target)
    else (if has_scheme target then path_behind (before_query (drop 7 target)) else None))

-- the query of a target: all that stands behind its first question mark; nothing where there is none
abbrev pub query_of : List ℕ → List ℕ
query_of target = after_first begins_query target
