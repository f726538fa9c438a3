-- A file that a request is served is one that the host has which the request is for.
use Rattle.std.proofs.Common.{ℕ, cond, Bool, true, false, List, Option, None, Some}
use Rattle.std.specs.Prelude.{◌&&◌, ◌||◌, codes, slice_get}
use Rattle.std.specs.Str.{bytes_eq}
use Rattle.http_read.specs.RequestParts.{RequestParts}
use Rattle.file_table.specs.HostFiles.{HostsHaveTheirFiles}
use Rattle.file_table.specs.Resource.{IsFoundFor}
use Rattle.file_table.specs.Site.{SeenSite}
use Rattle.file_table.specs.declared.found.Found.{Found}
use Rattle.file_table.specs.declared.found.Found.TheVariants as resource
use Rattle.http_core.specs.Ask.{IsServedFor}
use Rattle.http_core.specs.Range.{selection_of}
use Rattle.http_core.specs.Served.{chosen_host, is_disallowed, is_get, is_head, is_options, options_of, range_for, range_of_file, resource_at, resource_of_target, sent_file, served_at, served_by, served_of, served_range, served_selection, served_to, size_at, verdict_of}
use Rattle.http_core.specs.StatusPage.{asks_for_text, is_status_path}
use Rattle.http_core.specs.Target.{path_of}
use Rattle.http_core.specs.declared.code.Code.TheVariants as code
use Rattle.http_core.specs.declared.conditions.Verdict.{Verdict}
use Rattle.http_core.specs.declared.conditions.Verdict.TheVariants as verdict
use Rattle.http_core.specs.declared.plan.Served.{Served}
use Rattle.http_core.specs.declared.plan.Served.TheVariants as served
use Rattle.http_core.specs.declared.range.Range.{Range}
use Rattle.http_core.specs.declared.range.Selection.{Selection}
use Rattle.http_core.specs.declared.range.Selection.TheVariants as selection

module _ (law : HostsHaveTheirFiles) (site : SeenSite) (host : ℕ) where
  selected_for : (place size : ℕ) (s : Selection) → IsFoundFor site host (resource.File place) → IsServedFor site host (served_selection place size s)
  selected_for place size selection.Whole there = there
  selected_for place size (selection.Part from to) there = there
  selected_for place size selection.Unsatisfiable there = tt

  ranged_for : (place size : ℕ) (range : Option Range) → IsFoundFor site host (resource.File place) → IsServedFor site host (served_range place size range)
  ranged_for place size None there = there
  ranged_for place size (Some range) there = selected_for place size (selection_of size range) there

  sent_for : (get : Bool) (r : RequestParts) (place : ℕ) → IsFoundFor site host (resource.File place) → IsServedFor site host (sent_file site get r place)
  sent_for get r place there =
      ranged_for place (size_at site place) (range_for get (size_at site place) (range_of_file site r (slice_get site.files place))) there

  by_verdict : (v : Verdict) (place : ℕ) (sent : Served) → IsFoundFor site host (resource.File place) → IsServedFor site host sent
      → IsServedFor site host (served_by v place sent)
  by_verdict verdict.Sends place sent there so = so
  by_verdict verdict.Fails place sent there so = tt
  by_verdict verdict.Unmodified place sent there so = there

  resource_for : (get : Bool) (r : RequestParts) (found : Found) → IsFoundFor site host found → IsServedFor site host (served_of site get r found)
  resource_for get r resource.BadPath there = tt
  resource_for get r (resource.Redirect path) there = tt
  resource_for get r resource.Missing there = tt
  resource_for get r (resource.File place) there =
      by_verdict (verdict_of site r (slice_get site.files place)) place (sent_file site get r place) there (sent_for get r place there)

  path_for : (path : Option (List ℕ)) → IsFoundFor site host (resource_at site host path)
  path_for None = tt
  path_for (Some path) = law.named site host path

  either_for : (b : Bool) (x y : Served) → IsServedFor site host x → IsServedFor site host y → IsServedFor site host (cond b x y)
  either_for true x y h k = h
  either_for false x y h k = k

  options_for : (found : Found) → IsServedFor site host (options_of found)
  options_for resource.BadPath = tt
  options_for (resource.File place) = tt
  options_for (resource.Redirect path) = tt
  options_for resource.Missing = tt

  at_for : (get : Bool) (r : RequestParts) → IsServedFor site host (served_at site host get r)
  at_for get r =
      let found = resource_of_target site host r.target in
      either_for (site.status && is_status_path (path_of r.target)) (served.Page (asks_for_text r.target)) (served_of site get r found) tt
      (resource_for get r found (path_for (path_of r.target)))

pub served_for : HostsHaveTheirFiles → (site : SeenSite) (r : RequestParts) → IsServedFor site (chosen_host site r) (served_to site r)
served_for law site r =
    let host = chosen_host site r in
    let found = resource_of_target site host r.target in
    let shown = cond (bytes_eq r.target (codes "*")) served.Options (options_of found) in
    let refused = cond (is_disallowed r.method) (served.Refused code.MethodNotAllowed) (served.Refused code.NotImplemented) in
    either_for law site host (is_get r.method || is_head r.method) (served_at site host (is_get r.method) r) (cond (is_options r.method) shown refused)
    (at_for law site host (is_get r.method) r)
    (either_for law site host (is_options r.method) shown refused
    (either_for law site host (bytes_eq r.target (codes "*")) served.Options (options_of found) tt (options_for law site host found))
    (either_for law site host (is_disallowed r.method) (served.Refused code.MethodNotAllowed) (served.Refused code.NotImplemented) tt tt))
