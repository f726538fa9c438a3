-- The status page: where it stands, and which of its two texts a target asks for.
-- Why it is so stands in docs/DECISIONS.md: 25, The status page.
use Rattle.std.specs.Prelude.{ℕ, Bool, false, List, [], codes, Option, Some, None, if◌then◌else◌}
use Rattle.std.specs.Str.{bytes_eq}
use Rattle.mpm_base.specs.declared.note.Snapshot.{Snapshot}
use Rattle.scoreboard.specs.Page.{text_page, html_page}
use Rattle.http_core.specs.Target.{query_of}

-- the path of the status page
abbrev pub status_path : List ℕ
status_path = codes "/server-status"

-- the path of a target, as it was sent, is exactly that one
abbrev pub is_status_path : Option (List ℕ) → Bool
is_status_path None = false
is_status_path (Some path) = bytes_eq path status_path

-- the target asks for the plain text: its query is exactly `auto`; every other one, or none, asks for HTML
abbrev pub asks_for_text : List ℕ → Bool
asks_for_text target = bytes_eq (query_of target) (codes "auto")

-- the media type of the page, as plain text or as HTML
abbrev pub page_type : Bool → List ℕ
page_type auto = if auto then codes "text/plain" else codes "text/html"

-- the page of a snapshot, as plain text or as HTML; nothing where there is no snapshot
abbrev pub page_text : Bool → Option Snapshot → List ℕ
page_text auto None = []
page_text auto (Some snapshot) = if auto then text_page snapshot else html_page snapshot
