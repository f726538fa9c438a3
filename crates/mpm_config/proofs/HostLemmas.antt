-- The hosts of a configuration keep what its settings keep.
use Rattle.std.proofs.Common.{◌≡◌, ℕ, ◌≤◌, List, [], ◌∷◌, length, map, unwrap_or, Option, Some, None, IsUtf8, arith}
use Rattle.std.specs.List.{All}
use Rattle.std.specs.Option.{IfSome}
use Rattle.std.proofs.lemmas.List.{length-map}
use Rattle.std.proofs.lemmas.List.Elements.{All-cons, All-map, All-nil, All-weaker}
use Rattle.mpm_config.specs.Config.{AreHostConfs}
use Rattle.mpm_config.specs.declared.host_conf.HostConf.{HostConf}
use Rattle.mpm_config.specs.Reading.{confs_by, host_conf_by}
use Rattle.mpm_config.specs.Settings.{HostSettings}
use Rattle.mpm_config.specs.SettingsInside.{IsKeptHost}

text_or : (own : Option (List ℕ)) (outer : List ℕ) → IfSome own IsUtf8 → IsUtf8 outer → IsUtf8 (unwrap_or own outer)
text_or None outer h k = k
text_or (Some text) outer h k = h

abbrev IsText : HostConf → Type 0
IsText c = IsUtf8 c.root × IsUtf8 c.index

host_text : (root index : List ℕ) → IsUtf8 root → IsUtf8 index → (h : HostSettings) → IsKeptHost h.root h.index → IsText (host_conf_by root index h)
host_text root index r i h kept = (text_or h.root root kept.root_text r, text_or h.index index kept.index_text i)

pub confs_are : (name : List (List ℕ)) (root index : List ℕ) (hosts : List HostSettings) → IsUtf8 root → IsUtf8 index → length hosts ≤ 64
    → All (λ (h : HostSettings). IsKeptHost h.root h.index) hosts → AreHostConfs (confs_by name root index hosts)
confs_are name root index [] r i few kept = record {
  some = omega arith;
  most = omega arith;
  texts = All-cons IsText (record { names = name; root = root; index = index }) [] (r, i) (All-nil IsText);
}
confs_are name root index (h ∷ hs) r i few kept =
    let many : length (map (host_conf_by root index) (h ∷ hs)) ≡ length (h ∷ hs) = length-map (h ∷ hs) (host_conf_by root index) in
    record {
      some = omega (arith, many);
      most = omega (arith, many, few);
      texts = All-map IsText (host_conf_by root index) (h ∷ hs)
          (All-weaker (λ (x : HostSettings). IsKeptHost x.root x.index) (λ x. IsText (host_conf_by root index x)) (host_text root index r i) (h ∷ hs) kept);
    }
