-- The values of the fields of one name, as they are looked up.
use Rattle.std.specs.Prelude.{◌≡◌, ℕ, ◌≤◌, List, [], ◌∷◌, length, map, All, Option, Some, None, Result, Ok, Err, codes}
use Rattle.httparse.specs.declared.spans.Span.{Span}
use Rattle.httparse.specs.declared.spans.HeaderSpan.{HeaderSpan}
use Rattle.httparse.specs.Spans.{span_bytes, header_bytes, IsWithin}
use Rattle.http_read.specs.declared.request_fields.Found.{Found}
use Rattle.http_read.specs.declared.request_fields.Values.{Values}
use Rattle.http_read.specs.declared.request_fields.Values.TheVariants as values
use Rattle.http_read.specs.FieldValues.{values_named, words_of_all}
use Rattle.http_read.specs.RequestParts.{Conditions}
use Rattle.http_read.specs.Spans.{conditions_at}
use Rattle.http_read.specs.SpansInside.{AreConditionsWithin}
use Rattle.http_read.specs.declared.condition_spans.ConditionSpans.{ConditionSpans}
use Rattle.http_read.specs.declared.found_conditions.FoundConditions.{FoundConditions}

-- the values of the fields of that name, where the fields stand so in the head
abbrev pub values_in : List ℕ → List HeaderSpan → List ℕ → List (List ℕ)
values_in head fields name = values_named name (map (header_bytes head) fields)

-- the values were found: none, the one at the span, or several
abbrev pub AreValues : List ℕ → List (List ℕ) → Values → Type 0
AreValues head found values.Absent = found ≡ []
AreValues head found (values.One span) = (found ≡ span_bytes head span ∷ []) × IsWithin (length head) span
AreValues head found values.Several = 2 ≤ length found

-- the values of the fields by which a head is judged were found
pub record AreFound (head : List ℕ) (fields : List (List ℕ × List ℕ)) (found : Found) : Type 0 where
  pub host_is : AreValues head (values_named (codes "host") fields) found.host
  pub codings_are : AreValues head (values_named (codes "transfer-encoding") fields) found.codings
  pub lengths_are : AreValues head (values_named (codes "content-length") fields) found.lengths
  pub expect_is : AreValues head (values_named (codes "expect") fields) found.expect
  pub connection_is : AreValues head (values_named (codes "connection") fields) found.connection
  pub range_is : AreValues head (values_named (codes "range") fields) found.range

-- the Host stands at the span, or its refusal is this
abbrev pub IsHostAt : List ℕ → Result (List ℕ) ℕ → Result Span ℕ → Type 0
IsHostAt head host (Ok span) = (host ≡ Ok (span_bytes head span)) × IsWithin (length head) span
IsHostAt head host (Err code) = host ≡ Err code

-- the values of the fields of the conditions were found
pub record AreConditionsFound (head : List ℕ) (fields : List (List ℕ × List ℕ)) (found : FoundConditions) : Type 0 where
  pub if_match_is : AreValues head (values_named (codes "if-match") fields) found.if_match
  pub if_none_match_is : AreValues head (values_named (codes "if-none-match") fields) found.if_none_match
  pub if_unmodified_since_is : AreValues head (values_named (codes "if-unmodified-since") fields) found.if_unmodified_since
  pub if_modified_since_is : AreValues head (values_named (codes "if-modified-since") fields) found.if_modified_since
  pub if_range_is : AreValues head (values_named (codes "if-range") fields) found.if_range

-- the value stands at the span, where both are there
abbrev pub IsValueAt : List ℕ → Option (List ℕ) → Option Span → Type 0
IsValueAt head value (Some span) = (value ≡ Some (span_bytes head span)) × IsWithin (length head) span
IsValueAt head value None = value ≡ None

-- the values stand at the spans
pub record AreValuesAt (head : List ℕ) (values : List (List ℕ)) (spans : List Span) : Type 0 where
  pub are : values ≡ map (span_bytes head) spans
  pub within : All (IsWithin (length head)) spans

-- the words are those of the values at the spans, where both are there
abbrev pub AreWordsAt : List ℕ → Option (List (List ℕ)) → Option (List Span) → Type 0
AreWordsAt head words (Some spans) = (words ≡ Some (words_of_all (map (span_bytes head) spans))) × All (IsWithin (length head)) spans
AreWordsAt head words None = words ≡ None

-- the conditions stand at the spans
pub record AreConditionsAt (head : List ℕ) (conditions : Conditions) (s : ConditionSpans) : Type 0 where
  pub are : conditions ≡ conditions_at head s
  pub within : AreConditionsWithin head s
