-- What a map from names to places finds.
use Rattle.std.specs.Prelude.{◌≡◌, ℕ, List, bytes_eq}
use Rattle.std.specs.Global.{Vec}
use Rattle.std.specs.HashMap.{HashMap, get_by}
use Rattle.mpm_script.specs.NamePlaces.{line_place}

-- by each name the map finds the place of the first of the names that is this one
abbrev pub FindsPlaces : {S : Type 0} → HashMap (Vec ℕ) ℕ S → List (List ℕ) → Type 0
FindsPlaces places names = (name : List ℕ) → get_by (λ key. bytes_eq name key.items) places ≡ line_place name names
