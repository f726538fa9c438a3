-- The conditions of a head, from the places at which their values stand.
use Rattle.std.proofs.Common.{◌≡◌, ℕ, Bool, List, length, ltb, Option, None, Some, refl, sym, ap, ◌∙◌}
use Rattle.std.specs.Prelude.{codes, map}
use Rattle.httparse.specs.declared.spans.Span.{Span}
use Rattle.http_read.specs.FieldValues.{only_value, values_named, words_where_any}
use Rattle.http_read.specs.HeadRules.{conditions_in}
use Rattle.http_read.specs.RequestParts.{Conditions}
use Rattle.http_read.specs.Spans.{conditions_at, value_at, words_at}
use Rattle.http_read.specs.SpansInside.{MayAllBeWithin, MayBeWithin}
use Rattle.http_read.specs.ValuesInside.{AreConditionsAt, AreWordsAt, IsValueAt}
use Rattle.http_read.specs.declared.condition_spans.ConditionSpans.{ConditionSpans}

pub value_is : (head : List ℕ) (value : Option (List ℕ)) (span : Option Span) → IsValueAt head value span → value ≡ value_at head span
value_is head value None at = at
value_is head value (Some span) at = at.0

pub value_in : (head : List ℕ) (value : Option (List ℕ)) (span : Option Span) → IsValueAt head value span → MayBeWithin head span
value_in head value None at = tt
value_in head value (Some span) at = at.1

words_are : (head : List ℕ) (words : Option (List (List ℕ))) (spans : Option (List Span)) → AreWordsAt head words spans → words ≡ words_at head spans
words_are head words None at = at
words_are head words (Some spans) at = at.0

words_in : (head : List ℕ) (words : Option (List (List ℕ))) (spans : Option (List Span)) → AreWordsAt head words spans → MayAllBeWithin head spans
words_in head words None at = tt
words_in head words (Some spans) at = at.1

-- conditions of which these are the parts
abbrev made_of : Option (List (List ℕ)) → Option (List (List ℕ)) → Option (List ℕ) → Option (List ℕ) → Option (List ℕ) → Bool → Conditions
made_of a b c d e f = record {
  if_match = a;
  if_none_match = b;
  if_unmodified_since = c;
  if_modified_since = d;
  if_range = e;
  ranged_if = f;
}

pub conditions_found : (head : List ℕ) (fields : List (List ℕ × List ℕ)) (s : ConditionSpans)
    → AreWordsAt head (words_where_any (values_named (codes "if-match") fields)) s.if_match
    → AreWordsAt head (words_where_any (values_named (codes "if-none-match") fields)) s.if_none_match
    → IsValueAt head (only_value (values_named (codes "if-unmodified-since") fields)) s.if_unmodified_since
    → IsValueAt head (only_value (values_named (codes "if-modified-since") fields)) s.if_modified_since
    → IsValueAt head (only_value (values_named (codes "if-range") fields)) s.if_range
    → s.ranged_if ≡ ltb 0 (length (values_named (codes "if-range") fields))
    → AreConditionsAt head (conditions_in fields) s
conditions_found head fields s one two three four five six = record {
  are =
      ap (λ x. made_of x (words_where_any (values_named (codes "if-none-match") fields)) (only_value (values_named (codes "if-unmodified-since") fields))
      (only_value (values_named (codes "if-modified-since") fields)) (only_value (values_named (codes "if-range") fields)) (ltb 0 (length (values_named (codes "if-range") fields))))
      (words_are head _ s.if_match one)
      ∙ ap (λ x. made_of (words_at head s.if_match) x (only_value (values_named (codes "if-unmodified-since") fields))
      (only_value (values_named (codes "if-modified-since") fields)) (only_value (values_named (codes "if-range") fields)) (ltb 0 (length (values_named (codes "if-range") fields))))
      (words_are head _ s.if_none_match two)
      ∙ ap (λ x. made_of (words_at head s.if_match) (words_at head s.if_none_match) x
      (only_value (values_named (codes "if-modified-since") fields)) (only_value (values_named (codes "if-range") fields)) (ltb 0 (length (values_named (codes "if-range") fields))))
      (value_is head _ s.if_unmodified_since three)
      ∙ ap (λ x. made_of (words_at head s.if_match) (words_at head s.if_none_match) (value_at head s.if_unmodified_since) x
      (only_value (values_named (codes "if-range") fields)) (ltb 0 (length (values_named (codes "if-range") fields))))
      (value_is head _ s.if_modified_since four)
      ∙ ap (λ x. made_of (words_at head s.if_match) (words_at head s.if_none_match) (value_at head s.if_unmodified_since) (value_at head s.if_modified_since) x
      (ltb 0 (length (values_named (codes "if-range") fields))))
      (value_is head _ s.if_range five)
      ∙ ap (λ x. made_of (words_at head s.if_match) (words_at head s.if_none_match) (value_at head s.if_unmodified_since) (value_at head s.if_modified_since) (value_at head s.if_range) x)
      (sym six);
  within = record {
    if_match_in = words_in head _ s.if_match one;
    if_none_match_in = words_in head _ s.if_none_match two;
    if_unmodified_since_in = value_in head _ s.if_unmodified_since three;
    if_modified_since_in = value_in head _ s.if_modified_since four;
    if_range_in = value_in head _ s.if_range five;
  };
}
