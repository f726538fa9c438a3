-- What conditions come to: statements above what requests are served.
use Rattle.std.specs.Prelude.{◌≡◌, true, false, ℕ, List, Option, Some, None, slice_get, if◌then◌else◌}
use Rattle.mpm_base.specs.declared.store.File.{File}
use Rattle.http_read.specs.RequestParts.{Conditions, RequestParts, no_conditions}
use Rattle.file_table.specs.Site.{SeenSite, no_marks}
use Rattle.file_table.specs.Tag.{tag_of}
use Rattle.http_core.specs.Conditions.{has_marks, is_changed_since, is_unchanged_since, matches_file, names_file}
use Rattle.http_core.specs.Served.{served_to, size_at}
use Rattle.http_core.specs.declared.code.Code.TheVariants as code
use Rattle.http_core.specs.declared.plan.FilePart.{FilePart}
use Rattle.http_core.specs.declared.plan.Served.{Served}
use Rattle.http_core.specs.declared.plan.Served.TheVariants as served

-- the same request without its conditions; its Range goes with an If-Range
abbrev pub without_conditions : RequestParts → RequestParts
without_conditions r =
    record r { range = if r.conditions.ranged_if then None else r.range; conditions = no_conditions }

-- the same request without its conditions and its Range
abbrev pub without_range : RequestParts → RequestParts
without_range r = record r { range = None; conditions = no_conditions }

-- the same request without its conditions, its Range kept
abbrev pub with_range_kept : RequestParts → RequestParts
with_range_kept r = record r { conditions = no_conditions }

-- the whole file at the place
abbrev pub whole_file : SeenSite → ℕ → Served
whole_file site place =
    served.Whole (record { file = place; from = 0; to = size_at site place; size = size_at site place })

-- the file at the place is sent: the whole of it, or a part of it, or it is said that it has no such part
abbrev pub SendsFile : SeenSite → ℕ → Served → Type 0
SendsFile site place (served.Whole part) = served.Whole part ≡ whole_file site place
SendsFile site place (served.Part part) = (part.file ≡ place) × (part.size ≡ size_at site place)
SendsFile site place (served.Unsatisfied size) = size ≡ size_at site place
SendsFile site place (served.Unmodified other) = ⊥
SendsFile site place (served.Moved path) = ⊥
SendsFile site place served.Options = ⊥
SendsFile site place (served.Page auto) = ⊥
SendsFile site place (served.Refused reason) = ⊥

-- the file at the place is one of the site. Without its conditions and its Range the request is sent the whole of it; without its conditions
-- alone it is sent that file too, or a part of it, or that it has no such part
pub record AsksForFile (site : SeenSite) (r : RequestParts) (place : ℕ) (file : File) : Type 0 where
  pub there : slice_get site.files place ≡ Some file
  pub sent : served_to site (without_range r) ≡ whole_file site place
  pub ranged : SendsFile site place (served_to site (with_range_kept r))

-- the client has the file as it is: If-None-Match names the tag of its bytes, or each tag; where that doesn't stand, If-Modified-Since is a
-- date that isn't before its last change
abbrev pub HasFile : SeenSite → Conditions → File → Option (List (List ℕ)) → Type 0
HasFile site c file None = is_unchanged_since site.marks file c.if_modified_since ≡ true
HasFile site c file (Some words) = names_file site.marks file words ≡ true

-- the file isn't as the client has it in mind: If-Match names neither the tag of its bytes nor each tag; where that doesn't stand,
-- If-Unmodified-Since is a date before its last change
abbrev pub MeansOther : SeenSite → Conditions → File → Option (List (List ℕ)) → Type 0
MeansOther site c file None = is_changed_since site.marks file c.if_unmodified_since ≡ true
MeansOther site c file (Some words) = matches_file site.marks file words ≡ false

-- without marks no condition counts: what is served is what is served without them, and a Range counts where no If-Range stands. 304 and
-- 412 come only where files have marks, and answer only a request that is sent a whole file without its conditions and its Range, and that
-- file, a part of it, or that it has no such part without its conditions alone; 304 only one that says that the client has that file as it
-- is, and 412 only one that says that the client has it in mind otherwise; and a part of a file is sent behind an If-Range only where that
-- is the tag of the file's bytes
pub record ConditionsCountForFiles : Type 0 where
  pub unmarked : (site : SeenSite) (r : RequestParts) → site.marks ≡ no_marks → served_to site r ≡ served_to site (without_conditions r)
  pub unmodified : (site : SeenSite) (r : RequestParts) (place : ℕ) → served_to site r ≡ served.Unmodified place
      → (has_marks site.marks ≡ true)
      × ((file : File) × AsksForFile site r place file × HasFile site r.conditions file r.conditions.if_none_match)
  pub failed : (site : SeenSite) (r : RequestParts) → served_to site r ≡ served.Refused code.PreconditionFailed
      → (has_marks site.marks ≡ true)
      × ((place : ℕ) × (file : File) × AsksForFile site r place file × MeansOther site r.conditions file r.conditions.if_match)
  pub part : (site : SeenSite) (r : RequestParts) (part : FilePart) → served_to site r ≡ served.Part part → r.conditions.ranged_if ≡ true
      → (file : File) × (slice_get site.files part.file ≡ Some file) × (site.marks.tags ≡ true)
      × (r.conditions.if_range ≡ Some (tag_of file.bytes))
