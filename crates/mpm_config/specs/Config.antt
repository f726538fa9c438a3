-- A configuration, as contracts see it.
use Rattle.std.specs.Prelude.{◌≡◌, ℕ, ◌<◌, ◌≤◌, Bool, List, length, All, Option}
use Rattle.std.specs.Str.{IsUtf8}
use Rattle.media_types.specs.declared.types.MediaTypes.{MediaTypes}
use Rattle.mpm_base.specs.declared.addr.Addr.{Addr}
use Rattle.mpm_config.specs.declared.host_conf.HostConf.{HostConf}
use Rattle.mpm_config.specs.declared.numbers.Numbers.{Numbers}
use Rattle.mpm_config.specs.Numbers.{IsInRange}
use Rattle.mpm_config.specs.Correction.{after_corrections}

-- there are at most as many sections of hosts
abbrev pub most_hosts : ℕ
most_hosts = 64

-- there are at most as many pairs of types, counted as they are written
abbrev pub most_pairs : ℕ
most_pairs = 1024

-- there is a host, and no more than there may be; each root and index is UTF-8
pub record AreHostConfs (hosts : List HostConf) : Type 0 where
  pub some : 0 < length hosts
  pub most : length hosts ≤ most_hosts
  pub texts : All (λ (host : HostConf). IsUtf8 host.root × IsUtf8 host.index) hosts

-- the numbers as they were written and after the corrections, the address to listen at, the port of the
-- control line, the folder of the files, the name of a folder's own file, whether files have tags, whether the
-- times at which they were changed count, by what they get their types, whether the status page is served, the
-- name of the log, where there is one, and the hosts
pub record Configuration : Type 0 where
  pub written : Numbers
  pub current : Numbers
  pub listen : Addr
  pub control : Option ℕ
  pub root : List ℕ
  pub index : List ℕ
  pub tags : Bool
  pub times : Bool
  pub types : MediaTypes
  pub status : Bool
  pub log : Option (List ℕ)
  pub hosts : List HostConf

-- what every configuration keeps
pub record IsConfiguration (written current : Numbers) (root index : List ℕ) (hosts : List HostConf) : Type 0 where
  pub in_range : IsInRange written
  pub fixed : current ≡ after_corrections written
  pub root_text : IsUtf8 root
  pub index_text : IsUtf8 index
  pub hosts_are : AreHostConfs hosts

-- the new configuration with the two limits of the old one, corrected again
abbrev pub with_limits : Configuration → Configuration → Configuration
with_limits old new =
    let written = record new.written { server_limit = old.written.server_limit; thread_limit = old.written.thread_limit } in
    record new { written = written; current = after_corrections written }
