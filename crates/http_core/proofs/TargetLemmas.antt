-- The path of a target.
use Rattle.std.proofs.Common.{◌≡◌, ℕ, true, false, List, drop, slice_index, refl}
use Rattle.std.specs.List.{list_any}
use Rattle.http_core.specs.Target.{authority_of, before_query, begins_fragment, begins_path, has_scheme, named_host, path_behind, path_of}

-- a target in absolute form has the path behind its scheme
pub absolute_path : (target : List ℕ) → list_any begins_fragment target ≡ false → begins_path (slice_index target 0) ≡ false → has_scheme target ≡ true
    → path_of target ≡ path_behind (before_query (drop 7 target))
unfolding path_of
absolute_path target none h k = rw (none, h, k) refl

-- a request with such a target names its host there
pub absolute_host : (target host : List ℕ) → has_scheme target ≡ true → named_host target host ≡ authority_of (before_query (drop 7 target))
absolute_host target host h = rw h refl
