-- What a map and a list of places find of the places of names.
use Rattle.std.specs.Prelude.{◌≡◌, ℕ, ◌<◌, List, [], Option, None, length, bytes_eq, slice_index_or}
use Rattle.std.specs.Global.{Vec}
use Rattle.std.specs.HashMap.{HashMap, get_by}
use Rattle.mpm_script.specs.NameChains.{IsLastBelow}

-- the map finds the last place of each name, and at each place stands the last place before it that has its name
pub record AreChained {S : Type 0} (last : HashMap (Vec ℕ) ℕ S) (earlier : List (Option ℕ)) (names : List (List ℕ)) : Type 0 where
  pub found : (name : List ℕ) → IsLastBelow name (length names) names (get_by (λ key. bytes_eq name key.items) last)
  pub each : length earlier ≡ length names
  pub chained : (k : ℕ) → k < length names → IsLastBelow (slice_index_or names k []) k names (slice_index_or earlier k None)
