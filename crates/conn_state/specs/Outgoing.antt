-- What a connection has yet to send: what is left of a head, and behind it a range of a file of the site.
use Rattle.std.specs.Prelude.{ℕ, ◌-◌, ◌<◌, ◌≤◌, List, [], ◌++◌, length, slice_get, Option, Some, None, IfSome}
use Rattle.file_table.specs.Site.{SeenSite}
use Rattle.http_core.specs.Served.{size_at}
use Rattle.conn_state.specs.declared.outgoing.FileRange.{FileRange}
use Rattle.conn_state.specs.Replies.{file_range}

-- what is left of the head, and the range that is left of the body
pub record Unsent : Type 0 where
  pub head : List ℕ
  pub body : Option FileRange

-- the range is one of a file of the site
pub record IsRangeOf (site : SeenSite) (r : FileRange) : Type 0 where
  pub there : r.file < length site.files
  pub ordered : r.from ≤ r.to
  pub within : r.to ≤ size_at site r.file

-- what is left of the body is of this site
abbrev pub IsUnsentOf : SeenSite → Unsent → Type 0
IsUnsentOf site u = IfSome u.body (IsRangeOf site)

-- the bytes of the range, which stay in the site
abbrev pub range_bytes : SeenSite → Option FileRange → List ℕ
range_bytes site None = []
range_bytes site (Some r) = file_range (slice_get site.files r.file) r.from r.to

-- the bytes that are pending
abbrev pub pending_bytes : SeenSite → Unsent → List ℕ
pending_bytes site u = u.head ++ range_bytes site u.body

-- how many bytes the range has
abbrev pub range_len : Option FileRange → ℕ
range_len None = 0
range_len (Some r) = r.to - r.from
