-- The editions by which a server serves: what it opened by, and then what the store has each time a command `graceful` is read, which has
-- the number of that command. Which edition a generation has stands in the board (`edition_of`).
use Rattle.std.specs.Prelude.{ℕ, zero, suc, List, length, nat_le, Option, None, Some, option_map, Result, Ok, Err, if◌then◌else◌}
use Rattle.std.specs.Option.{option_and_then}
use Rattle.mpm_base.specs.Front.{FrontSeen}
use Rattle.mpm_base.specs.Store.{StoreSeen, StoreTold, after_renew, bytes_of}
use Rattle.mpm_base.specs.declared.store.File.{File}
use Rattle.mpm_config.specs.Config.{Configuration, with_limits}
use Rattle.mpm_config.specs.Reading.{ConfigAndWarnings, config_of}
use Rattle.mpm_config.specs.declared.fault.ConfFault.{ConfFault}
use Rattle.http_read.specs.declared.request.Limits.{Limits}
use Rattle.file_table.specs.Site.{SeenSite}
use Rattle.conn_state.specs.Known.{KnownEdition, KnownOutside, This, Of}
use Rattle.restart_control.specs.Reload.{most_config, order_of}

-- what a server opened by: the name of its configuration in the store, that configuration, and its site; and what was seen of the store
-- and of the front then
pub record Opening : Type 0 where
  pub name : List ℕ
  pub config : Configuration
  pub site : SeenSite
  pub store : StoreSeen
  pub front : FrontSeen

-- ## The files

-- what a store tells once it was renewed so many times; at its last edition it stays
abbrev pub renewed : ℕ → StoreTold → StoreTold
renewed zero t = t
renewed (suc n) t = after_renew (renewed n t)

-- ## The configuration

-- the configuration that was read, with the two limits of the one by which the server opened; none where there was a fault
abbrev pub carried : Configuration → Result ConfigAndWarnings ConfFault → Option Configuration
carried first (Ok read) = Some (with_limits first read.config)
carried first (Err fault) = None

-- what the text configures for a server that opened by this configuration; none where it is too large, or is refused
abbrev pub config_in : Configuration → List ℕ → Option Configuration
config_in first text = if nat_le (length text) most_config then carried first (config_of text) else None

-- the same of the file of that name; none where there is no such file
abbrev pub config_among : Configuration → List ℕ → List File → Option Configuration
config_among first name files = option_and_then (config_in first) (bytes_of name files)

-- the configuration of the edition of that number, where the store tells it: there may be none. Edition 0 has the one by which the server
-- opened
abbrev pub config_at : Opening → ℕ → Option (Option Configuration)
config_at o zero = Some (Some o.config)
config_at o (suc n) = option_map (λ t. config_among o.config o.name (renewed (suc n) t).files) o.store.told

-- ## What connections are served by

-- how long the head of a request may be: LimitRequestLine, LimitRequestFieldSize and LimitRequestFields
abbrev pub head_limits_of : Configuration → Limits
head_limits_of c = record { line = c.current.line; field = c.current.field; fields = c.current.fields }

-- what connections are served by of a generation that has this configuration and is made of these files
abbrev pub edition_of_files : List File → Configuration → KnownEdition
edition_of_files files c = record { limits = head_limits_of c; site = Of (order_of c) files }

-- what connections are served by of a generation that is made of these files, by the configuration of that name among them
abbrev pub made_edition : Configuration → List ℕ → List File → Option KnownEdition
made_edition first name files = option_map (edition_of_files files) (config_among first name files)

-- what is known of the edition of that number: edition 0 is what the server opened by
abbrev pub known_edition : Opening → ℕ → Option (Option KnownEdition)
known_edition o zero = Some (Some (record { limits = head_limits_of o.config; site = This o.site }))
known_edition o (suc n) = option_map (λ t. made_edition o.config o.name (renewed (suc n) t).files) o.store.told

-- what is known of the editions
abbrev pub known_editions : Opening → KnownOutside
known_editions o = record { clients = None; edition = known_edition o }
