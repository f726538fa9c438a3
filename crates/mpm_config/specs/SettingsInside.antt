-- What holds of the settings at each line.
use Rattle.std.specs.Prelude.{ℕ, ◌≤◌, List, length, All, Option, IfSome}
use Rattle.mpm_config.specs.Config.{most_hosts}
use Rattle.mpm_config.specs.Settings.{HostSettings}
use Rattle.std.specs.Str.{IsUtf8}
use Rattle.mpm_config.specs.declared.numbers.Numbers.{Numbers}
use Rattle.mpm_config.specs.Numbers.{IsInRange}

-- what the section of a host keeps
pub record IsKeptHost (root index : Option (List ℕ)) : Type 0 where
  pub root_text : IfSome root IsUtf8
  pub index_text : IfSome index IsUtf8

-- what settings keep
pub record AreKept (numbers : Numbers) (root index : List ℕ) (hosts : List HostSettings) : Type 0 where
  pub in_range : IsInRange numbers
  pub root_text : IsUtf8 root
  pub index_text : IsUtf8 index
  pub few : length hosts ≤ most_hosts
  pub hosts_are : All (λ (h : HostSettings). IsKeptHost h.root h.index) hosts
