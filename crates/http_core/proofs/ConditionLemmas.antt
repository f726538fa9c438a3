-- What conditions come to: what a request is served beside what it is served without them.
use Rattle.std.proofs.Common.{◌≡◌, ℕ, ◌<◌, Bool, true, false, cond, not, ◌&&◌, ◌||◌, List, [], get_or, length, Option, None, Some, refl, sym, ap, subst, ◌∙◌}
use Rattle.std.specs.Prelude.{codes, slice_get}
use Rattle.std.specs.Option.{option_map}
use Rattle.std.specs.Str.{bytes_eq}
use Rattle.std.proofs.lemmas.Bool.{false≢true}
use Rattle.std.proofs.lemmas.Option.{none-some, slice_get-get_or}
use Rattle.std.proofs.lemmas.Slice.Eq.{bytes_eq-Decides}
use Rattle.mpm_base.specs.declared.store.File.{File}
use Rattle.http_read.specs.RequestParts.{Conditions, RequestParts, no_conditions}
use Rattle.file_table.specs.HostFiles.{HostsHaveTheirFiles}
use Rattle.file_table.specs.Resource.{IsFoundFor}
use Rattle.file_table.specs.Site.{SeenSite, no_marks}
use Rattle.file_table.specs.Tag.{tag_of}
use Rattle.file_table.specs.declared.found.Found.{Found}
use Rattle.file_table.specs.declared.found.Found.TheVariants as resource
use Rattle.file_table.specs.declared.marks.Marks.{Marks}
use Rattle.http_core.specs.ConditionsInside.{is_that_tag}
use Rattle.http_core.specs.ConditionLaws.{AsksForFile, ConditionsCountForFiles, HasFile, MeansOther, SendsFile, whole_file, with_range_kept, without_conditions, without_range}
use Rattle.http_core.specs.Conditions.{by_words, fails_match, has_marks, is_changed_since, is_exactly, is_unchanged_since, is_unmodified, matches_file, names_file, precondition, range_counts, range_on}
use Rattle.http_core.specs.Range.{range_in_value, selection_of}
use Rattle.http_core.specs.Served.{chosen_host, is_disallowed, is_get, is_head, is_options, options_of, range_for, range_of_file, resource_at, resource_of_target, sent_file, served_at, served_by, served_file, served_of, served_range, served_selection, served_to, size_at, verdict_of}
use Rattle.http_core.specs.StatusPage.{asks_for_text, is_status_path}
use Rattle.http_core.specs.Target.{path_of}
use Rattle.http_core.specs.declared.code.Code.{Code}
use Rattle.http_core.specs.declared.code.Code.TheVariants as code
use Rattle.http_core.specs.declared.conditions.Verdict.{Verdict}
use Rattle.http_core.specs.declared.conditions.Verdict.TheVariants as verdict
use Rattle.http_core.specs.declared.plan.FilePart.{FilePart}
use Rattle.http_core.specs.declared.plan.Served.{Served}
use Rattle.http_core.specs.declared.plan.Served.TheVariants as served
use Rattle.http_core.specs.declared.range.Range.{Range}
use Rattle.http_core.specs.declared.range.Selection.{Selection}
use Rattle.http_core.specs.declared.range.Selection.TheVariants as selection

and_false : (b : Bool) → (b && false) ≡ false
and_false true = refl
and_false false = refl

and_first : (a b : Bool) → (a && b) ≡ true → a ≡ true
and_first true b h = refl
and_first false b h = absurd (false≢true h)

and_second : (a b : Bool) → (a && b) ≡ true → b ≡ true
and_second true b h = h
and_second false b h = absurd (false≢true h)

not_true : (b : Bool) → not b ≡ true → b ≡ false
not_true true h = absurd (false≢true h)
not_true false h = refl

same_both : {A : Type 0} (b : Bool) (x : A) → cond b x x ≡ x
same_both true x = refl
same_both false x = refl

-- ## Where there are no marks

kept_range : (b : Bool) (range : Option (List ℕ)) → cond (not b || false) range None ≡ cond b None range
kept_range true range = refl
kept_range false range = refl

-- the file is served as without the conditions
file_unmarked : (site : SeenSite) (get : Bool) (r : RequestParts) (place : ℕ) (file : Option File) → site.marks ≡ no_marks
    → served_by (verdict_of site r file) place (served_range place (size_at site place) (range_for get (size_at site place) (range_of_file site r file)))
    ≡ served_by (verdict_of site (without_conditions r) file) place
    (served_range place (size_at site place) (range_for get (size_at site place) (range_of_file site (without_conditions r) file)))
file_unmarked site get r place None none = refl
file_unmarked site get r place (Some f) none =
    let size = size_at site place in
    ap (λ (m : Marks). served_by (precondition m r.conditions f) place (served_range place size (range_for get size (range_on m r f)))) none
    ∙ ap (λ range. served_range place size (range_for get size range)) (kept_range r.conditions.ranged_if r.range)
    ∙ sym (ap (λ (m : Marks). served_by (precondition m no_conditions f) place (served_range place size (range_for get size (range_on m (without_conditions r) f)))) none)

found_unmarked : (site : SeenSite) (get : Bool) (r : RequestParts) (found : Found) → site.marks ≡ no_marks
    → served_of site get r found ≡ served_of site get (without_conditions r) found
found_unmarked site get r resource.BadPath none = refl
found_unmarked site get r (resource.Redirect path) none = refl
found_unmarked site get r resource.Missing none = refl
found_unmarked site get r (resource.File place) none = file_unmarked site get r place (slice_get site.files place) none

pub unmarked : (site : SeenSite) (r : RequestParts) → site.marks ≡ no_marks → served_to site r ≡ served_to site (without_conditions r)
unmarked site r none =
    let host = chosen_host site r in
    let get = is_get r.method in
    let found = resource_of_target site host r.target in
    let refused = cond (is_disallowed r.method) (served.Refused code.MethodNotAllowed) (served.Refused code.NotImplemented) in
    let others = cond (is_options r.method) (cond (bytes_eq r.target (codes "*")) served.Options (options_of found)) refused in
    ap (λ s. cond (is_get r.method || is_head r.method) (cond (site.status && is_status_path (path_of r.target)) (served.Page (asks_for_text r.target)) s) others)
    (found_unmarked site get r found none)

-- ## A file without conditions

-- no condition says anything of it
sends : (m : Marks) (f : File) → precondition m no_conditions f ≡ verdict.Sends
sends m f =
    ap (λ b. cond (has_marks m) (cond b verdict.Fails (cond b verdict.Unmodified verdict.Sends)) verdict.Sends) (and_false m.times)
    ∙ same_both (has_marks m) verdict.Sends

-- it is sent whole without a Range too
whole_of : (site : SeenSite) (get : Bool) (r : RequestParts) (place : ℕ) (f : File)
    → served_by (verdict_of site (without_range r) (Some f)) place
    (served_range place (size_at site place) (range_for get (size_at site place) (range_of_file site (without_range r) (Some f)))) ≡ whole_file site place
whole_of site get r place f =
    let size = size_at site place in
    let sent = served_range place size (range_for get size (range_of_file site (without_range r) (Some f))) in
    ap (λ v. served_by v place sent) (sends site.marks f)
    ∙ ap (λ range. served_range place size (range_for get size range)) (same_both (range_counts site.marks no_conditions f) None)

selection_sends : (site : SeenSite) (place : ℕ) (s : Selection) → SendsFile site place (served_selection place (size_at site place) s)
selection_sends site place selection.Whole = refl
selection_sends site place (selection.Part from to) = (refl, refl)
selection_sends site place selection.Unsatisfiable = refl

range_sends : (site : SeenSite) (place : ℕ) (range : Option Range) → SendsFile site place (served_range place (size_at site place) range)
range_sends site place None = refl
range_sends site place (Some range) = selection_sends site place (selection_of (size_at site place) range)

-- something of it is sent with a Range
some_of : (site : SeenSite) (get : Bool) (r : RequestParts) (place : ℕ) (f : File)
    → SendsFile site place (served_by (verdict_of site (with_range_kept r) (Some f)) place
    (served_range place (size_at site place) (range_for get (size_at site place) (range_of_file site (with_range_kept r) (Some f)))))
some_of site get r place f =
    let size = size_at site place in
    let range = range_for get size (range_of_file site (with_range_kept r) (Some f)) in
    subst (λ v. SendsFile site place (served_by v place (served_range place size range))) (sym (sends site.marks f)) (range_sends site place range)

-- ## Beside each other

-- the file stands at the place; without its conditions and its Range a request is served the one, and without its conditions alone the other
abbrev Sent : SeenSite → ℕ → File → Served → Served → Type 0
Sent site place file plain ranged = (slice_get site.files place ≡ Some file) × (plain ≡ whole_file site place) × SendsFile site place ranged

-- what is said of what a request is served, where it is served these without its conditions
abbrev Beside : SeenSite → RequestParts → Served → Served → Served → Type 0
Beside site r (served.Unmodified place) plain ranged =
    (has_marks site.marks ≡ true) × ((file : File) × Sent site place file plain ranged × HasFile site r.conditions file r.conditions.if_none_match)
Beside site r (served.Refused code.PreconditionFailed) plain ranged =
    (has_marks site.marks ≡ true)
    × ((place : ℕ) × (file : File) × Sent site place file plain ranged × MeansOther site r.conditions file r.conditions.if_match)
Beside site r (served.Refused reason) plain ranged = Unit {0}
Beside site r (served.Part part) plain ranged = r.conditions.ranged_if ≡ true
    → (file : File) × (slice_get site.files part.file ≡ Some file) × (site.marks.tags ≡ true) × (r.conditions.if_range ≡ Some (tag_of file.bytes))
Beside site r (served.Whole part) plain ranged = Unit {0}
Beside site r (served.Unsatisfied size) plain ranged = Unit {0}
Beside site r (served.Moved path) plain ranged = Unit {0}
Beside site r served.Options plain ranged = Unit {0}
Beside site r (served.Page auto) plain ranged = Unit {0}

has_file : (site : SeenSite) (c : Conditions) (f : File) (words : Option (List (List ℕ)))
    → by_words words (λ ws. names_file site.marks f ws) (is_unchanged_since site.marks f c.if_modified_since) ≡ true → HasFile site c f words
has_file site c f None h = h
has_file site c f (Some words) h = h

means_other : (site : SeenSite) (c : Conditions) (f : File) (words : Option (List (List ℕ)))
    → by_words words (λ ws. not (matches_file site.marks f ws)) (is_changed_since site.marks f c.if_unmodified_since) ≡ true → MeansOther site c f words
means_other site c f None h = h
means_other site c f (Some words) h = not_true (matches_file site.marks f words) h

is_tag : (tag : List ℕ) (value : Option (List ℕ)) → is_exactly tag value ≡ true → value ≡ Some tag
is_tag tag None h = absurd (false≢true h)
is_tag tag (Some value) h = ap Some ((bytes_eq-Decides value tag).0 h)

module _ (site : SeenSite) (r : RequestParts) (plain ranged : Served) where
  -- a Range that counts behind an If-Range
  abbrev Named : File → Type 0
  Named f = r.conditions.ranged_if ≡ true → (site.marks.tags ≡ true) × (r.conditions.if_range ≡ Some (tag_of f.bytes))

  selected : (place size : ℕ) (f : File) (s : Selection) → slice_get site.files place ≡ Some f → Named f → Beside site r (served_selection place size s) plain ranged
  selected place size f selection.Whole there named = tt
  selected place size f (selection.Part from to) there named = λ behind. (f, there, (named behind).0, (named behind).1)
  selected place size f selection.Unsatisfiable there named = tt

  by_range : (place size : ℕ) (f : File) (range : Option Range) → slice_get site.files place ≡ Some f → Named f → Beside site r (served_range place size range) plain ranged
  by_range place size f None there named = tt
  by_range place size f (Some range) there named = selected place size f (selection_of size range) there named

  by_text : (get : Bool) (place size : ℕ) (f : File) (text : Option (List ℕ)) → slice_get site.files place ≡ Some f → Named f
      → Beside site r (served_range place size (range_for get size text)) plain ranged
  by_text get place size f None there named = tt
  by_text get place size f (Some text) there named = by_range place size f (range_for get size (Some text)) there named

  -- the Range counts, or it doesn't
  counted : (get : Bool) (place size : ℕ) (f : File) (counts : Bool) → range_counts site.marks r.conditions f ≡ counts → slice_get site.files place ≡ Some f
      → Beside site r (served_range place size (range_for get size (cond counts r.range None))) plain ranged
  counted get place size f false is there = tt
  counted get place size f true is there = by_text get place size f r.range there (named r.conditions.ranged_if is)
    where
      named : (b : Bool) → (not b || (site.marks.tags && is_exactly (tag_of f.bytes) r.conditions.if_range)) ≡ true
          → b ≡ true → (site.marks.tags ≡ true) × (r.conditions.if_range ≡ Some (tag_of f.bytes))
      named true h e = (and_first _ _ h, is_tag (tag_of f.bytes) r.conditions.if_range (and_second _ _ h))
      named false h e = absurd (false≢true e)

  -- by the verdict
  judged : (get : Bool) (place size : ℕ) (f : File) (a b d : Bool) → has_marks site.marks ≡ a → fails_match site.marks r.conditions f ≡ b
      → is_unmodified site.marks r.conditions f ≡ d → Sent site place f plain ranged
      → Beside site r (served_by (cond a (cond b verdict.Fails (cond d verdict.Unmodified verdict.Sends)) verdict.Sends) place
      (served_range place size (range_for get size (range_on site.marks r f)))) plain ranged
  judged get place size f false b d marked fails is sent = counted get place size f (range_counts site.marks r.conditions f) refl sent.0
  judged get place size f true true d marked fails is sent = (marked, (place, f, sent, means_other site r.conditions f r.conditions.if_match fails))
  judged get place size f true false false marked fails is sent = counted get place size f (range_counts site.marks r.conditions f) refl sent.0
  judged get place size f true false true marked fails is sent = (marked, (f, sent, has_file site r.conditions f r.conditions.if_none_match is))

  either : (b : Bool) (x y : Served) → Beside site r x plain ranged → Beside site r y plain ranged → Beside site r (cond b x y) plain ranged
  either true x y h k = h
  either false x y h k = k

  options_beside : (found : Found) → Beside site r (options_of found) plain ranged
  options_beside resource.BadPath = tt
  options_beside (resource.File place) = tt
  options_beside (resource.Redirect path) = tt
  options_beside resource.Missing = tt

-- a file that stands for none
no_file : File
no_file = record { name = []; bytes = []; second = 0 }

-- ## Whether a Range counts, as it is looked up

range_by : (site : SeenSite) (r : RequestParts) (place : ℕ) (file : Option File) (tag : Option (List ℕ)) (exact : Bool) → slice_get site.files place ≡ file
    → place < length site.files → tag ≡ cond site.marks.tags (option_map (λ (f : File). tag_of f.bytes) file) None → exact ≡ is_that_tag tag r.conditions.if_range
    → range_of_file site r file ≡ cond (not r.conditions.ranged_if || exact) r.range None
range_by site r place None tag exact none within is_tag is_exact =
    absurd (none-some (get_or site.files place no_file) (sym none ∙ slice_get-get_or site.files place no_file within))
range_by site r place (Some f) tag exact there within is_tag is_exact =
    ap (λ b. cond (not r.conditions.ranged_if || b) r.range None)
    (sym (is_exact ∙ ap (λ t. is_that_tag t r.conditions.if_range) is_tag ∙ by_tags site.marks.tags))
  where
    by_tags : (b : Bool) → is_that_tag (cond b (Some (tag_of f.bytes)) None) r.conditions.if_range ≡ (b && is_exactly (tag_of f.bytes) r.conditions.if_range)
    by_tags true = refl
    by_tags false = refl

pub range_counted : (site : SeenSite) (r : RequestParts) (place : ℕ) (tag : Option (List ℕ)) (exact : Bool) → place < length site.files
    → tag ≡ cond site.marks.tags (option_map (λ (f : File). tag_of f.bytes) (slice_get site.files place)) None → exact ≡ is_that_tag tag r.conditions.if_range
    → range_of_file site r (slice_get site.files place) ≡ cond (not r.conditions.ranged_if || exact) r.range None
range_counted site r place tag exact within is_tag is_exact =
    range_by site r place (slice_get site.files place) tag exact refl within is_tag is_exact

-- a file of the site
file_beside : (site : SeenSite) (r : RequestParts) (get : Bool) (place : ℕ) (file : Option File) → slice_get site.files place ≡ file → place < length site.files
    → Beside site r (served_by (verdict_of site r file) place (served_range place (size_at site place) (range_for get (size_at site place) (range_of_file site r file))))
    (served_by (verdict_of site (without_range r) file) place
    (served_range place (size_at site place) (range_for get (size_at site place) (range_of_file site (without_range r) file))))
    (served_by (verdict_of site (with_range_kept r) file) place
    (served_range place (size_at site place) (range_for get (size_at site place) (range_of_file site (with_range_kept r) file))))
file_beside site r get place None none within = absurd (none-some (get_or site.files place no_file) (sym none ∙ slice_get-get_or site.files place no_file within))
file_beside site r get place (Some f) there within =
    judged site r _ _ get place (size_at site place) f (has_marks site.marks) (fails_match site.marks r.conditions f) (is_unmodified site.marks r.conditions f)
    refl refl refl (there, whole_of site get r place f, some_of site get r place f)

found_beside : (site : SeenSite) (r : RequestParts) (host : ℕ) (get : Bool) (found : Found) → IsFoundFor site host found
    → Beside site r (served_of site get r found) (served_of site get (without_range r) found) (served_of site get (with_range_kept r) found)
found_beside site r host get resource.BadPath there = tt
found_beside site r host get (resource.Redirect path) there = tt
found_beside site r host get resource.Missing there = tt
found_beside site r host get (resource.File place) there = file_beside site r get place (slice_get site.files place) refl there.2

path_found : HostsHaveTheirFiles → (site : SeenSite) (host : ℕ) (path : Option (List ℕ)) → IsFoundFor site host (resource_at site host path)
path_found law site host None = tt
path_found law site host (Some path) = law.named site host path

-- all three are chosen alike
chosen : (site : SeenSite) (r : RequestParts) (b : Bool) (x y plain plain' ranged ranged' : Served) → Beside site r x plain ranged → Beside site r y plain' ranged'
    → Beside site r (cond b x y) (cond b plain plain') (cond b ranged ranged')
chosen site r true x y plain plain' ranged ranged' h k = h
chosen site r false x y plain plain' ranged ranged' h k = k

beside : HostsHaveTheirFiles → (site : SeenSite) (r : RequestParts)
    → Beside site r (served_to site r) (served_to site (without_range r)) (served_to site (with_range_kept r))
beside law site r =
    let host = chosen_host site r in
    let get = is_get r.method in
    let found = resource_of_target site host r.target in
    let shown = cond (bytes_eq r.target (codes "*")) served.Options (options_of found) in
    let refused = cond (is_disallowed r.method) (served.Refused code.MethodNotAllowed) (served.Refused code.NotImplemented) in
    let others = cond (is_options r.method) shown refused in
    let page = served.Page (asks_for_text r.target) in
    chosen site r (is_get r.method || is_head r.method) (served_at site host get r) others (served_at site host get (without_range r)) others
    (served_at site host get (with_range_kept r)) others
    (chosen site r (site.status && is_status_path (path_of r.target)) page (served_of site get r found) page (served_of site get (without_range r) found) page
    (served_of site get (with_range_kept r) found) tt (found_beside site r host get found (path_found law site host (path_of r.target))))
    (either site r others others (is_options r.method) shown refused
    (either site r others others (bytes_eq r.target (codes "*")) served.Options (options_of found) tt (options_beside site r others others found))
    (either site r others others (is_disallowed r.method) (served.Refused code.MethodNotAllowed) (served.Refused code.NotImplemented) tt tt))

beside_as : HostsHaveTheirFiles → (site : SeenSite) (r : RequestParts) (s : Served) → served_to site r ≡ s
    → Beside site r s (served_to site (without_range r)) (served_to site (with_range_kept r))
beside_as law site r s e = subst (λ s. Beside site r s (served_to site (without_range r)) (served_to site (with_range_kept r))) e (beside law site r)

asks : (site : SeenSite) (r : RequestParts) (place : ℕ) (file : File)
    → Sent site place file (served_to site (without_range r)) (served_to site (with_range_kept r)) → AsksForFile site r place file
asks site r place file sent = record { there = sent.0; sent = sent.1; ranged = sent.2 }

pub conditions_count : HostsHaveTheirFiles → ConditionsCountForFiles
conditions_count law = record {
  unmarked = unmarked;
  unmodified = λ site r place e.
      let b = beside_as law site r (served.Unmodified place) e in
      (b.0, (b.1.0, asks site r place b.1.0 b.1.1, b.1.2));
  failed = λ site r e.
      let b = beside_as law site r (served.Refused code.PreconditionFailed) e in
      (b.0, (b.1.0, b.1.1, asks site r b.1.0 b.1.1 b.1.2, b.1.3));
  part = λ site r part e behind. beside_as law site r (served.Part part) e behind;
}
