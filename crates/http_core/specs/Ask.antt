-- What is asked of the table for a request, and the plan of its response.
use Rattle.std.specs.Prelude.{ℕ, ◌<◌, ◌≤◌, false, length, ⊤}
use Rattle.mpm_base.specs.declared.conn.Ask.{Ask}
use Rattle.http_read.specs.RequestParts.{RequestParts}
use Rattle.file_table.specs.Resource.{IsFoundFor}
use Rattle.file_table.specs.Site.{SeenSite}
use Rattle.file_table.specs.declared.found.Found.TheVariants as resource
use Rattle.http_core.specs.Code.{number_of}
use Rattle.http_core.specs.Served.{code_of, is_head, is_page, served_to, size_at}
use Rattle.http_core.specs.declared.plan.Plan.{Plan}
use Rattle.http_core.specs.declared.plan.FilePart.{FilePart}
use Rattle.http_core.specs.declared.plan.Served.{Served}
use Rattle.http_core.specs.declared.plan.Served.TheVariants as served

-- what a request asks for: its code, whether it asks to close, and whether its response is the status page
abbrev pub ask_for : SeenSite → RequestParts → Ask
ask_for site r = record {
  asked_close = r.asked_close;
  refused = false;
  code = number_of (code_of (served_to site r));
  page = is_page (served_to site r);
}

-- the plan of the response to a request
abbrev pub plan_for : SeenSite → RequestParts → Plan
plan_for site r = record { served = served_to site r; only_head = is_head r.method; minor = r.minor }

-- the part is one of a file of the site
pub record IsPartOf (site : SeenSite) (part : FilePart) : Type 0 where
  pub there : part.file < length site.files
  pub ordered : part.from ≤ part.to
  pub within : part.to ≤ size_at site part.file

-- what is served is of this site
abbrev pub IsServedOf : SeenSite → Served → Type 0
IsServedOf site (served.Whole part) = IsPartOf site part
IsServedOf site (served.Part part) = IsPartOf site part
IsServedOf site (served.Unsatisfied size) = ⊤
IsServedOf site (served.Unmodified place) = place < length site.files
IsServedOf site (served.Moved path) = ⊤
IsServedOf site served.Options = ⊤
IsServedOf site (served.Page auto) = ⊤
IsServedOf site (served.Refused code) = ⊤

-- a file that is served, whole or in part, or that the client has as it is, is one that the host has
abbrev pub IsServedFor : SeenSite → ℕ → Served → Type 0
IsServedFor site host (served.Whole part) = IsFoundFor site host (resource.File part.file)
IsServedFor site host (served.Part part) = IsFoundFor site host (resource.File part.file)
IsServedFor site host (served.Unsatisfied size) = ⊤
IsServedFor site host (served.Unmodified place) = IsFoundFor site host (resource.File place)
IsServedFor site host (served.Moved path) = ⊤
IsServedFor site host served.Options = ⊤
IsServedFor site host (served.Page auto) = ⊤
IsServedFor site host (served.Refused code) = ⊤
