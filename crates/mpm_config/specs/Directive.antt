-- The names of the language. A name is compared without regard to the case of ASCII letters.
use Rattle.std.specs.Prelude.{ℕ, List, [], ◌∷◌, Option, find, codes, option_map}
use Rattle.mpm_base.specs.LetterCase.{is_same_ignoring_case}
use Rattle.mpm_config.specs.declared.directive.Directive.{Directive}
use Rattle.mpm_config.specs.declared.directive.Directive.TheVariants.{Number, KeepAlive, Listen, ControlListen, DocumentRoot, DirectoryIndex, FileETag, LastModified, AddType, MimeTable, AddDefaultCharset, ServerStatus, ServerName, ServerAlias, TransferLog}
use Rattle.mpm_config.specs.declared.directive.Quantity.{Quantity}
use Rattle.mpm_config.specs.declared.directive.Quantity.TheVariants as number

-- the first spelling of the name of a directive whose value is a number
abbrev pub quantity_name : Quantity → List ℕ
quantity_name number.ServerLimit = codes "ServerLimit"
quantity_name number.ThreadLimit = codes "ThreadLimit"
quantity_name number.StartServers = codes "StartServers"
quantity_name number.MinSpareThreads = codes "MinSpareThreads"
quantity_name number.MaxSpareThreads = codes "MaxSpareThreads"
quantity_name number.ThreadsPerChild = codes "ThreadsPerChild"
quantity_name number.MaxRequestWorkers = codes "MaxRequestWorkers"
quantity_name number.MaxConnectionsPerChild = codes "MaxConnectionsPerChild"
quantity_name number.AsyncRequestWorkerFactor = codes "AsyncRequestWorkerFactor"
quantity_name number.Timeout = codes "Timeout"
quantity_name number.RequestReadTimeout = codes "RequestReadTimeout"
quantity_name number.KeepAliveTimeout = codes "KeepAliveTimeout"
quantity_name number.MaxKeepAliveRequests = codes "MaxKeepAliveRequests"
quantity_name number.GracefulShutdownTimeout = codes "GracefulShutdownTimeout"
quantity_name number.LimitRequestLine = codes "LimitRequestLine"
quantity_name number.LimitRequestFieldSize = codes "LimitRequestFieldSize"
quantity_name number.LimitRequestFields = codes "LimitRequestFields"

-- a name, and what it stands for
pub record Name : Type 0 where
  pub text : List ℕ
  pub directive : Directive

-- the first spelling of a directive
abbrev pub first_name : Quantity → Name
first_name q = record { text = quantity_name q; directive = Number q }

-- every name of the language, in the order of the table
abbrev pub names : List Name
names =
    first_name number.ServerLimit ∷
    first_name number.ThreadLimit ∷
    first_name number.StartServers ∷
    first_name number.MinSpareThreads ∷
    first_name number.MaxSpareThreads ∷
    first_name number.ThreadsPerChild ∷
    first_name number.MaxRequestWorkers ∷
    record { text = codes "MaxClients"; directive = Number number.MaxRequestWorkers } ∷
    first_name number.MaxConnectionsPerChild ∷
    record { text = codes "MaxRequestsPerChild"; directive = Number number.MaxConnectionsPerChild } ∷
    first_name number.AsyncRequestWorkerFactor ∷
    first_name number.Timeout ∷
    first_name number.RequestReadTimeout ∷
    record { text = codes "KeepAlive"; directive = KeepAlive } ∷
    first_name number.KeepAliveTimeout ∷
    first_name number.MaxKeepAliveRequests ∷
    first_name number.GracefulShutdownTimeout ∷
    first_name number.LimitRequestLine ∷
    first_name number.LimitRequestFieldSize ∷
    first_name number.LimitRequestFields ∷
    record { text = codes "Listen"; directive = Listen } ∷
    record { text = codes "ControlListen"; directive = ControlListen } ∷
    record { text = codes "DocumentRoot"; directive = DocumentRoot } ∷
    record { text = codes "DirectoryIndex"; directive = DirectoryIndex } ∷
    record { text = codes "FileETag"; directive = FileETag } ∷
    record { text = codes "LastModified"; directive = LastModified } ∷
    record { text = codes "AddType"; directive = AddType } ∷
    record { text = codes "MimeTable"; directive = MimeTable } ∷
    record { text = codes "AddDefaultCharset"; directive = AddDefaultCharset } ∷
    record { text = codes "ServerStatus"; directive = ServerStatus } ∷
    record { text = codes "ServerName"; directive = ServerName } ∷
    record { text = codes "ServerAlias"; directive = ServerAlias } ∷
    record { text = codes "TransferLog"; directive = TransferLog } ∷ []

-- the directive of the first of the names that the word is
abbrev pub directive_among : List Name → List ℕ → Option Directive
directive_among ns word = option_map (λ n. n.directive) (find (λ n. is_same_ignoring_case word n.text) ns)

-- the directive that a word names
abbrev pub directive_of : List ℕ → Option Directive
directive_of word = directive_among names word
