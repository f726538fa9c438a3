-- What the conditions of a request say of a file (RFC 9110, section 13): whether it is sent, or what is answered in its place.
-- Why it is so stands in docs/DECISIONS.md: 121, Which conditions count.
use Rattle.std.specs.Prelude.{ℕ, ◌&&◌, ◌||◌, nat_le, nat_lt, Bool, false, not, List, ◌++◌, codes, Option, Some, None, if◌then◌else◌}
use Rattle.std.specs.Str.{bytes_eq}
use Rattle.httpdate.specs.Date.{parse_secs}
use Rattle.mpm_base.specs.declared.store.File.{File}
use Rattle.http_read.specs.FieldValues.{has_exactly}
use Rattle.http_read.specs.RequestParts.{Conditions, RequestParts}
use Rattle.file_table.specs.Tag.{tag_of}
use Rattle.file_table.specs.declared.marks.Marks.{Marks}
use Rattle.http_core.specs.declared.conditions.Verdict.{Verdict}
use Rattle.http_core.specs.declared.conditions.Verdict.TheVariants as verdict

-- ## Tags

-- one of the words is the tag of the file, where files have tags (section 8.8.3.2, strong comparison)
abbrev pub has_tag : Marks → File → List (List ℕ) → Bool
has_tag m f words = m.tags && has_exactly (tag_of f.bytes) words

-- one of the words is that tag as a weak one
abbrev pub has_weak_tag : Marks → File → List (List ℕ) → Bool
has_weak_tag m f words = m.tags && has_exactly (codes "W/" ++ tag_of f.bytes) words

-- one of the words stands for each tag
abbrev pub has_any_tag : List (List ℕ) → Bool
has_any_tag words = has_exactly (codes "*") words

-- If-Match names the file (section 13.1.1)
abbrev pub matches_file : Marks → File → List (List ℕ) → Bool
matches_file m f words = has_any_tag words || has_tag m f words

-- If-None-Match names the file (section 13.1.2): a weak tag does as well
abbrev pub names_file : Marks → File → List (List ℕ) → Bool
names_file m f words = has_any_tag words || has_tag m f words || has_weak_tag m f words

-- ## Times

-- the second of a date (section 5.6.7); a value that is none has no second
abbrev pub date_in : Option (List ℕ) → Option ℕ
date_in None = None
date_in (Some value) = parse_secs value

-- there is such a second, and it is before that in which the file was changed
abbrev pub is_before : File → Option ℕ → Bool
is_before f None = false
is_before f (Some second) = nat_lt second f.second

-- there is such a second, and it isn't before that in which the file was changed
abbrev pub is_not_before : File → Option ℕ → Bool
is_not_before f None = false
is_not_before f (Some second) = nat_le f.second second

-- the file was changed behind the date, where times count (section 13.1.4)
abbrev pub is_changed_since : Marks → File → Option (List ℕ) → Bool
is_changed_since m f value = m.times && is_before f (date_in value)

-- it wasn't (section 13.1.3)
abbrev pub is_unchanged_since : Marks → File → Option (List ℕ) → Bool
is_unchanged_since m f value = m.times && is_not_before f (date_in value)

-- ## The verdict

-- what the words say, where a field of them stands, or else the other
abbrev pub by_words : Option (List (List ℕ)) → (List (List ℕ) → Bool) → Bool → Bool
by_words None said other = other
by_words (Some words) said other = said words

-- the file isn't the one that the client has in mind: by If-Match, or where that doesn't stand by If-Unmodified-Since
abbrev pub fails_match : Marks → Conditions → File → Bool
fails_match m c f = by_words c.if_match (λ words. not (matches_file m f words)) (is_changed_since m f c.if_unmodified_since)

-- the client has the file as it is: by If-None-Match, or where that doesn't stand by If-Modified-Since
abbrev pub is_unmodified : Marks → Conditions → File → Bool
is_unmodified m c f = by_words c.if_none_match (λ words. names_file m f words) (is_unchanged_since m f c.if_modified_since)

-- files have marks of some kind
abbrev pub has_marks : Marks → Bool
has_marks m = m.tags || m.times

-- what the conditions of a GET or HEAD say of the file by its marks, in the order of section 13.2.2
abbrev pub verdict_by_marks : Marks → Conditions → File → Verdict
verdict_by_marks m c f =
    if fails_match m c f then verdict.Fails
    else (if is_unmodified m c f then verdict.Unmodified
    else verdict.Sends)

-- the same; where files have no marks it isn't looked at
abbrev pub precondition : Marks → Conditions → File → Verdict
precondition m c f = if has_marks m then verdict_by_marks m c f else verdict.Sends

-- the value is exactly that tag
abbrev pub is_exactly : List ℕ → Option (List ℕ) → Bool
is_exactly tag None = false
is_exactly tag (Some value) = bytes_eq value tag

-- the Range of the request counts for the file: no If-Range stands, or the only one is the tag of the file (section 13.1.5)
abbrev pub range_counts : Marks → Conditions → File → Bool
range_counts m c f = not c.ranged_if || (m.tags && is_exactly (tag_of f.bytes) c.if_range)

-- the Range of a request, where it counts for the file
abbrev pub range_on : Marks → RequestParts → File → Option (List ℕ)
range_on m r f = if range_counts m r.conditions f then r.range else None
