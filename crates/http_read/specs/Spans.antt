-- The texts of a request as spans of a copy of its head.
use Rattle.std.specs.Prelude.{ℕ, List, map, Option, Some, None}
use Rattle.httparse.specs.declared.spans.Span.{Span}
use Rattle.httparse.specs.Spans.{span_bytes}
use Rattle.http_read.specs.FieldValues.{words_of_all}
use Rattle.http_read.specs.RequestParts.{Conditions}
use Rattle.http_read.specs.declared.condition_spans.ConditionSpans.{ConditionSpans}

-- the text that a span covers, where it is there
abbrev pub value_at : List ℕ → Option Span → Option (List ℕ)
value_at head (Some span) = Some (span_bytes head span)
value_at head None = None

-- the words of the values that spans cover, where these are there
abbrev pub words_at : List ℕ → Option (List Span) → Option (List (List ℕ))
words_at head (Some spans) = Some (words_of_all (map (span_bytes head) spans))
words_at head None = None

-- the conditions that stand there
abbrev pub conditions_at : List ℕ → ConditionSpans → Conditions
conditions_at head s = record {
  if_match = words_at head s.if_match;
  if_none_match = words_at head s.if_none_match;
  if_unmodified_since = value_at head s.if_unmodified_since;
  if_modified_since = value_at head s.if_modified_since;
  if_range = value_at head s.if_range;
  ranged_if = s.ranged_if;
}
