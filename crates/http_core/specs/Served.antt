-- What a request is served: the first rule that fits.
use Rattle.std.specs.Prelude.{ℕ, ◌==◌, ◌&&◌, ◌||◌, Bool, true, false, not, List, length, codes, Option, Some, None, if◌then◌else◌, slice_get}
use Rattle.std.specs.Str.{bytes_eq}
use Rattle.mpm_base.specs.declared.store.File.{File}
use Rattle.http_read.specs.RequestParts.{RequestParts}
use Rattle.file_table.specs.Resource.{resource_of}
use Rattle.file_table.specs.Site.{SeenSite}
use Rattle.file_table.specs.declared.found.Found.{Found}
use Rattle.file_table.specs.declared.found.Found.TheVariants as resource
use Rattle.http_core.specs.Conditions.{precondition, range_on}
use Rattle.http_core.specs.Location.{location_of}
use Rattle.http_core.specs.Range.{range_in_value, selection_of}
use Rattle.http_core.specs.StatusPage.{asks_for_text, is_status_path}
use Rattle.http_core.specs.Target.{named_host, path_of}
use Rattle.name_hosts.specs.Host.{choose}
use Rattle.http_core.specs.declared.code.Code.{Code}
use Rattle.http_core.specs.declared.code.Code.TheVariants as code
use Rattle.http_core.specs.declared.conditions.Verdict.{Verdict}
use Rattle.http_core.specs.declared.conditions.Verdict.TheVariants as verdict
use Rattle.http_core.specs.declared.range.Range.{Range}
use Rattle.http_core.specs.declared.range.Selection.{Selection}
use Rattle.http_core.specs.declared.range.Selection.TheVariants as selection
use Rattle.http_core.specs.declared.plan.Served.{Served}
use Rattle.http_core.specs.declared.plan.Served.TheVariants as served

-- the method is GET (RFC 9110, section 9.3.1)
abbrev pub is_get : List ℕ → Bool
is_get method = bytes_eq method (codes "GET")

-- the method is HEAD (section 9.3.2)
abbrev pub is_head : List ℕ → Bool
is_head method = bytes_eq method (codes "HEAD")

-- the method is OPTIONS (section 9.3.7)
abbrev pub is_options : List ℕ → Bool
is_options method = bytes_eq method (codes "OPTIONS")

-- a method that is known and not allowed
abbrev pub is_disallowed : List ℕ → Bool
is_disallowed method =
    bytes_eq method (codes "POST") || bytes_eq method (codes "PUT") || bytes_eq method (codes "DELETE") || bytes_eq method (codes "PATCH")

-- the host that a request is for: the first that has the name by which it asks, else the first of the site
abbrev pub chosen_host : SeenSite → RequestParts → ℕ
chosen_host site r = choose site.names (named_host r.target r.host)

-- what the path of a target names in the site, for the host
abbrev pub resource_at : SeenSite → ℕ → Option (List ℕ) → Found
resource_at site host None = resource.BadPath
resource_at site host (Some path) = resource_of site host path

-- what a target names in the site, for the host
abbrev pub resource_of_target : SeenSite → ℕ → List ℕ → Found
resource_of_target site host target = resource_at site host (path_of target)

-- how many bytes a file has; none where there is no file
abbrev pub size_of_file : Option File → ℕ
size_of_file None = 0
size_of_file (Some file) = length file.bytes

-- how many bytes the file at the place has
abbrev pub size_at : SeenSite → ℕ → ℕ
size_at site place = size_of_file (slice_get site.files place)

-- OPTIONS is served but where the target is none (RFC 9110, section 9.3.7)
abbrev pub options_of : Found → Served
options_of resource.BadPath = served.Refused code.BadRequest
options_of (resource.File place) = served.Options
options_of (resource.Redirect path) = served.Options
options_of resource.Missing = served.Options

-- the file, or what a range selects of it
abbrev pub served_selection : ℕ → ℕ → Selection → Served
served_selection place size selection.Whole = served.Whole (record { file = place; from = 0; to = size; size = size })
served_selection place size (selection.Part from to) = served.Part (record { file = place; from = from; to = to; size = size })
served_selection place size selection.Unsatisfiable = served.Unsatisfied size

-- the file, whole where no range counts
abbrev pub served_range : ℕ → ℕ → Option Range → Served
served_range place size None = served_selection place size selection.Whole
served_range place size (Some range) = served_selection place size (selection_of size range)

-- the range of a request where it may count: that of a GET, for a file of some bytes
abbrev pub range_for : Bool → ℕ → Option (List ℕ) → Option Range
range_for get size None = None
range_for get size (Some text) = if not get || size == 0 then None else range_in_value text

-- what the conditions say of the file at the place; there is none that says anything of no file
abbrev pub verdict_of : SeenSite → RequestParts → Option File → Verdict
verdict_of site r None = verdict.Sends
verdict_of site r (Some file) = precondition site.marks r.conditions file

-- the Range of the request, where it counts for the file
abbrev pub range_of_file : SeenSite → RequestParts → Option File → Option (List ℕ)
range_of_file site r None = None
range_of_file site r (Some file) = range_on site.marks r file

-- the file at the place by that verdict: what is sent of it, or what is answered in its place
abbrev pub served_by : Verdict → ℕ → Served → Served
served_by verdict.Sends place sent = sent
served_by verdict.Fails place sent = served.Refused code.PreconditionFailed
served_by verdict.Unmodified place sent = served.Unmodified place

-- what is sent of the file at the place to GET, or else to HEAD, where its conditions say nothing else
abbrev pub sent_file : SeenSite → Bool → RequestParts → ℕ → Served
sent_file site get r place =
    served_range place (size_at site place) (range_for get (size_at site place) (range_of_file site r (slice_get site.files place)))

-- what the file at the place serves to GET, or else to HEAD: its conditions are looked at before its Range (RFC 9110, section 13.2.2)
abbrev pub served_file : SeenSite → Bool → RequestParts → ℕ → Served
served_file site get r place = served_by (verdict_of site r (slice_get site.files place)) place (sent_file site get r place)

-- what the resource of a target serves to GET, or else to HEAD
abbrev pub served_of : SeenSite → Bool → RequestParts → Found → Served
served_of site get r resource.BadPath = served.Refused code.BadRequest
served_of site get r (resource.Redirect path) = served.Moved (location_of r.target path)
served_of site get r resource.Missing = served.Refused code.NotFound
served_of site get r (resource.File place) = served_file site get r place

-- what a target serves to GET, or else to HEAD: the status page, where its path is that and the site has the page, for which neither a
-- range nor a condition counts; or what it names in the site, for the host
abbrev pub served_at : SeenSite → ℕ → Bool → RequestParts → Served
served_at site host get r =
    if site.status && is_status_path (path_of r.target) then served.Page (asks_for_text r.target)
    else served_of site get r (resource_of_target site host r.target)

-- what a request is served
abbrev pub served_to : SeenSite → RequestParts → Served
served_to site r =
    if is_get r.method || is_head r.method then served_at site (chosen_host site r) (is_get r.method) r
    else (if is_options r.method
    then (if bytes_eq r.target (codes "*") then served.Options else options_of (resource_of_target site (chosen_host site r) r.target))
    else (if is_disallowed r.method then served.Refused code.MethodNotAllowed else served.Refused code.NotImplemented))

-- the code of what is served
abbrev pub code_of : Served → Code
code_of (served.Whole part) = code.Ok
code_of (served.Part part) = code.PartialContent
code_of (served.Unsatisfied size) = code.RangeNotSatisfiable
code_of (served.Unmodified place) = code.NotModified
code_of (served.Moved path) = code.MovedPermanently
code_of served.Options = code.Ok
code_of (served.Page auto) = code.Ok
code_of (served.Refused reason) = reason

-- what is served is the status page
abbrev pub is_page : Served → Bool
is_page (served.Page auto) = true
is_page (served.Whole part) = false
is_page (served.Part part) = false
is_page (served.Unsatisfied size) = false
is_page (served.Unmodified place) = false
is_page (served.Moved path) = false
is_page served.Options = false
is_page (served.Refused reason) = false
