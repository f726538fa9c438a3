use Rattle.std.proofs.Common.{◌≡◌, length, refl, sym, ap, ◌∙◌, arith}
use Rattle.std.specs.Prelude.{codes}
use Rattle.httparse.specs.Spans.{header_bytes}
use Rattle.http_read.proofs.FieldLemmas.{stays_as}
use Rattle.http_read.proofs.found_conditions.add_field.Goals as goal

pub returns-in-8 : goal.returns-in-8
returns-in-8 c fields found =
    let head = c.args.head.now in
    let f = header_bytes head c.args.header.now in
    let long : length f.0 ≡ 8 = ap length (sym c.of.ensures) ∙ c.in-8.is in
    record {
      if_match_is = c.add_value-found.ensures fields found.if_match_is;
      if_none_match_is = stays_as head (codes "if-none-match") fields f c.args.found.if_none_match 8 13 long refl (λ e. absurd (omega (arith, e))) found.if_none_match_is;
      if_unmodified_since_is = stays_as head (codes "if-unmodified-since") fields f c.args.found.if_unmodified_since 8 19 long refl (λ e. absurd (omega (arith, e))) found.if_unmodified_since_is;
      if_modified_since_is = stays_as head (codes "if-modified-since") fields f c.args.found.if_modified_since 8 17 long refl (λ e. absurd (omega (arith, e))) found.if_modified_since_is;
      if_range_is = c.add_value-found-in-8.ensures fields found.if_range_is;
    }

pub returns-in-13 : goal.returns-in-13
returns-in-13 c fields found =
    let head = c.args.head.now in
    let f = header_bytes head c.args.header.now in
    let long : length f.0 ≡ 13 = ap length (sym c.of.ensures) ∙ c.in-13.is in
    record {
      if_match_is = stays_as head (codes "if-match") fields f c.args.found.if_match 13 8 long refl (λ e. absurd (omega (arith, e))) found.if_match_is;
      if_none_match_is = c.add_value-found-in-13.ensures fields found.if_none_match_is;
      if_unmodified_since_is = stays_as head (codes "if-unmodified-since") fields f c.args.found.if_unmodified_since 13 19 long refl (λ e. absurd (omega (arith, e))) found.if_unmodified_since_is;
      if_modified_since_is = stays_as head (codes "if-modified-since") fields f c.args.found.if_modified_since 13 17 long refl (λ e. absurd (omega (arith, e))) found.if_modified_since_is;
      if_range_is = stays_as head (codes "if-range") fields f c.args.found.if_range 13 8 long refl (λ e. absurd (omega (arith, e))) found.if_range_is;
    }

pub returns-in-17 : goal.returns-in-17
returns-in-17 c fields found =
    let head = c.args.head.now in
    let f = header_bytes head c.args.header.now in
    let long : length f.0 ≡ 17 = ap length (sym c.of.ensures) ∙ c.in-17.is in
    record {
      if_match_is = stays_as head (codes "if-match") fields f c.args.found.if_match 17 8 long refl (λ e. absurd (omega (arith, e))) found.if_match_is;
      if_none_match_is = stays_as head (codes "if-none-match") fields f c.args.found.if_none_match 17 13 long refl (λ e. absurd (omega (arith, e))) found.if_none_match_is;
      if_unmodified_since_is = stays_as head (codes "if-unmodified-since") fields f c.args.found.if_unmodified_since 17 19 long refl (λ e. absurd (omega (arith, e))) found.if_unmodified_since_is;
      if_modified_since_is = c.add_value-found-in-17.ensures fields found.if_modified_since_is;
      if_range_is = stays_as head (codes "if-range") fields f c.args.found.if_range 17 8 long refl (λ e. absurd (omega (arith, e))) found.if_range_is;
    }

pub returns-in-19 : goal.returns-in-19
returns-in-19 c fields found =
    let head = c.args.head.now in
    let f = header_bytes head c.args.header.now in
    let long : length f.0 ≡ 19 = ap length (sym c.of.ensures) ∙ c.in-19.is in
    record {
      if_match_is = stays_as head (codes "if-match") fields f c.args.found.if_match 19 8 long refl (λ e. absurd (omega (arith, e))) found.if_match_is;
      if_none_match_is = stays_as head (codes "if-none-match") fields f c.args.found.if_none_match 19 13 long refl (λ e. absurd (omega (arith, e))) found.if_none_match_is;
      if_unmodified_since_is = c.add_value-found-in-19.ensures fields found.if_unmodified_since_is;
      if_modified_since_is = stays_as head (codes "if-modified-since") fields f c.args.found.if_modified_since 19 17 long refl (λ e. absurd (omega (arith, e))) found.if_modified_since_is;
      if_range_is = stays_as head (codes "if-range") fields f c.args.found.if_range 19 8 long refl (λ e. absurd (omega (arith, e))) found.if_range_is;
    }
