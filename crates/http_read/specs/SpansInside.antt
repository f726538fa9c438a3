-- What holds of the spans of a request.
use Rattle.std.specs.Prelude.{ℕ, List, length, All, Option, Some, None, ⊤}
use Rattle.httparse.specs.declared.spans.Span.{Span}
use Rattle.httparse.specs.Spans.{IsWithin}
use Rattle.http_read.specs.declared.condition_spans.ConditionSpans.{ConditionSpans}

-- where the span is there, it lies in the head
abbrev pub MayBeWithin : List ℕ → Option Span → Type 0
MayBeWithin head (Some span) = IsWithin (length head) span
MayBeWithin head None = ⊤

-- where the spans are there, they lie in the head
abbrev pub MayAllBeWithin : List ℕ → Option (List Span) → Type 0
MayAllBeWithin head (Some spans) = All (IsWithin (length head)) spans
MayAllBeWithin head None = ⊤

-- the spans of the conditions lie in the head
pub record AreConditionsWithin (head : List ℕ) (s : ConditionSpans) : Type 0 where
  pub if_match_in : MayAllBeWithin head s.if_match
  pub if_none_match_in : MayAllBeWithin head s.if_none_match
  pub if_unmodified_since_in : MayBeWithin head s.if_unmodified_since
  pub if_modified_since_in : MayBeWithin head s.if_modified_since
  pub if_range_in : MayBeWithin head s.if_range

-- the spans of a request lie in its head
pub record AreWithin (head : List ℕ) (method target host : Span) (range : Option Span) (conditions : ConditionSpans) : Type 0 where
  pub method_in : IsWithin (length head) method
  pub target_in : IsWithin (length head) target
  pub host_in : IsWithin (length head) host
  pub range_in : MayBeWithin head range
  pub conditions_in : AreConditionsWithin head conditions
