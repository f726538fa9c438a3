-- What the directives of a text set.
use Rattle.std.specs.Prelude.{◌≡◌, ℕ, Bool, false, true, if◌then◌else◌, List, [], ◌∷◌, ◌++◌, Option, Some, None, codes}
use Rattle.media_types.specs.MediaType.{default_types}
use Rattle.media_types.specs.declared.types.MediaTypes.{MediaTypes}
use Rattle.media_types.specs.declared.types.TypePair.{TypePair}
use Rattle.mpm_base.specs.declared.addr.Addr.{Addr}
use Rattle.mpm_config.specs.declared.numbers.Numbers.{Numbers}
use Rattle.mpm_config.specs.declared.setting.Setting.{Setting}
use Rattle.mpm_config.specs.declared.setting.Setting.TheVariants.{Number, KeepAlive, Listen, ControlListen, DocumentRoot, DirectoryIndex, FileETag, LastModified, MimeTable, AddDefaultCharset, ServerStatus, ServerName, TransferLog}
use Rattle.mpm_config.specs.HostName.{server_name}
use Rattle.mpm_config.specs.Numbers.{initial_numbers, with_number}

-- what the section of a host sets: its name, where it has one, its further names, and where they are set the folder of its files and
-- the name of a folder's own file
pub record HostSettings : Type 0 where
  pub name : List (List ℕ)
  pub aliases : List (List ℕ)
  pub root : Option (List ℕ)
  pub index : Option (List ℕ)

-- those of a section in which nothing stands
abbrev pub empty_host : HostSettings
empty_host = record { name = []; aliases = []; root = None; index = None }

-- those after one more setting, which that value spells, where it may stand in such a section
abbrev pub with_host_setting : HostSettings → List ℕ → Setting → Option HostSettings
with_host_setting h v DocumentRoot = Some (record h { root = Some v })
with_host_setting h v DirectoryIndex = Some (record h { index = Some v })
with_host_setting h v ServerName = Some (record h { name = server_name v ∷ [] })
with_host_setting h v (Number q n) = None
with_host_setting h v (KeepAlive b) = None
with_host_setting h v (Listen a) = None
with_host_setting h v (ControlListen p) = None
with_host_setting h v (FileETag b) = None
with_host_setting h v (LastModified b) = None
with_host_setting h v (MimeTable b) = None
with_host_setting h v (AddDefaultCharset b) = None
with_host_setting h v (ServerStatus b) = None
with_host_setting h v TransferLog = None

-- the numbers, the address to listen at, the port of the control line, the folder of the files, a folder's own file, whether files have
-- tags, whether the times at which they were changed count, by what they get their types, whether the status page is served, the name of
-- the server, where it has one, that of the log, where there is one, and the hosts whose sections were closed
pub record Settings : Type 0 where
  pub numbers : Numbers
  pub listen : Addr
  pub control : Option ℕ
  pub root : List ℕ
  pub index : List ℕ
  pub tags : Bool
  pub times : Bool
  pub types : MediaTypes
  pub status : Bool
  pub name : List (List ℕ)
  pub log : Option (List ℕ)
  pub hosts : List HostSettings

-- the settings of the empty text
abbrev pub initial_settings : Settings
initial_settings = record {
  numbers = initial_numbers;
  listen = record { host = 127 ∷ 0 ∷ 0 ∷ 1 ∷ []; port = 8080 };
  control = None;
  root = codes "htdocs";
  index = codes "index.html";
  tags = false;
  times = false;
  types = default_types;
  status = true;
  name = [];
  log = None;
  hosts = [];
}

-- the character set that a value names, where it names one
abbrev pub charset_named : Bool → List ℕ → Option (List ℕ)
charset_named named v = if named then Some v else None

-- the settings after one more, which that value spells
abbrev pub with_setting : Settings → List ℕ → Setting → Settings
with_setting s v (Number q n) = record s { numbers = with_number s.numbers q n }
with_setting s v (KeepAlive b) = record s { numbers = record s.numbers { keep = b } }
with_setting s v (Listen a) = record s { listen = a }
with_setting s v (ControlListen p) = record s { control = Some p }
with_setting s v DocumentRoot = record s { root = v }
with_setting s v DirectoryIndex = record s { index = v }
with_setting s v (FileETag b) = record s { tags = b }
with_setting s v (LastModified b) = record s { times = b }
with_setting s v (MimeTable b) = record s { types = record s.types { long = b } }
with_setting s v (AddDefaultCharset b) = record s { types = record s.types { charset = charset_named b v } }
with_setting s v (ServerStatus b) = record s { status = b }
with_setting s v ServerName = record s { name = server_name v ∷ [] }
with_setting s v TransferLog = record s { log = Some v }

-- the settings with these pairs behind those of the types
abbrev pub with_pairs : Settings → List TypePair → Settings
with_pairs s pairs = record s { types = record s.types { added = s.types.added ++ pairs } }

-- both settings are of one directive
abbrev pub IsSameDirective : Setting → Setting → Type 0
IsSameDirective (Number q m) (Number r n) = q ≡ r
IsSameDirective (KeepAlive b) (KeepAlive c) = Unit {0}
IsSameDirective (Listen a) (Listen b) = Unit {0}
IsSameDirective (ControlListen p) (ControlListen q) = Unit {0}
IsSameDirective DocumentRoot DocumentRoot = Unit {0}
IsSameDirective DirectoryIndex DirectoryIndex = Unit {0}
IsSameDirective (FileETag b) (FileETag c) = Unit {0}
IsSameDirective (LastModified b) (LastModified c) = Unit {0}
IsSameDirective (MimeTable b) (MimeTable c) = Unit {0}
IsSameDirective (AddDefaultCharset b) (AddDefaultCharset c) = Unit {0}
IsSameDirective (ServerStatus b) (ServerStatus c) = Unit {0}
IsSameDirective ServerName ServerName = Unit {0}
IsSameDirective TransferLog TransferLog = Unit {0}
IsSameDirective s t = ⊥
