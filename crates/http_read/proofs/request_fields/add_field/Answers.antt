use Rattle.std.proofs.Common.{◌≡◌, length, refl, sym, ap, ◌∙◌, arith}
use Rattle.std.specs.Prelude.{codes}
use Rattle.httparse.specs.Spans.{header_bytes}
use Rattle.http_read.proofs.FieldLemmas.{stays_as}
use Rattle.http_read.proofs.request_fields.add_field.Goals as goal

pub returns-in-4 : goal.returns-in-4
returns-in-4 c fields found =
    let head = c.args.head.now in
    let f = header_bytes head c.args.header.now in
    let long : length f.0 ≡ 4 = ap length (sym c.of.ensures) ∙ c.in-4.is in
    record {
      host_is = c.add_value-found.ensures fields found.host_is;
      codings_are = stays_as head (codes "transfer-encoding") fields f c.args.found.codings 4 17 long refl (λ e. absurd (omega (arith, e))) found.codings_are;
      lengths_are = stays_as head (codes "content-length") fields f c.args.found.lengths 4 14 long refl (λ e. absurd (omega (arith, e))) found.lengths_are;
      expect_is = stays_as head (codes "expect") fields f c.args.found.expect 4 6 long refl (λ e. absurd (omega (arith, e))) found.expect_is;
      connection_is = stays_as head (codes "connection") fields f c.args.found.connection 4 10 long refl (λ e. absurd (omega (arith, e))) found.connection_is;
      range_is = stays_as head (codes "range") fields f c.args.found.range 4 5 long refl (λ e. absurd (omega (arith, e))) found.range_is;
    }

pub returns-in-5 : goal.returns-in-5
returns-in-5 c fields found =
    let head = c.args.head.now in
    let f = header_bytes head c.args.header.now in
    let long : length f.0 ≡ 5 = ap length (sym c.of.ensures) ∙ c.in-5.is in
    record {
      host_is = stays_as head (codes "host") fields f c.args.found.host 5 4 long refl (λ e. absurd (omega (arith, e))) found.host_is;
      codings_are = stays_as head (codes "transfer-encoding") fields f c.args.found.codings 5 17 long refl (λ e. absurd (omega (arith, e))) found.codings_are;
      lengths_are = stays_as head (codes "content-length") fields f c.args.found.lengths 5 14 long refl (λ e. absurd (omega (arith, e))) found.lengths_are;
      expect_is = stays_as head (codes "expect") fields f c.args.found.expect 5 6 long refl (λ e. absurd (omega (arith, e))) found.expect_is;
      connection_is = stays_as head (codes "connection") fields f c.args.found.connection 5 10 long refl (λ e. absurd (omega (arith, e))) found.connection_is;
      range_is = c.add_value-found-in-5.ensures fields found.range_is;
    }

pub returns-in-6 : goal.returns-in-6
returns-in-6 c fields found =
    let head = c.args.head.now in
    let f = header_bytes head c.args.header.now in
    let long : length f.0 ≡ 6 = ap length (sym c.of.ensures) ∙ c.in-6.is in
    record {
      host_is = stays_as head (codes "host") fields f c.args.found.host 6 4 long refl (λ e. absurd (omega (arith, e))) found.host_is;
      codings_are = stays_as head (codes "transfer-encoding") fields f c.args.found.codings 6 17 long refl (λ e. absurd (omega (arith, e))) found.codings_are;
      lengths_are = stays_as head (codes "content-length") fields f c.args.found.lengths 6 14 long refl (λ e. absurd (omega (arith, e))) found.lengths_are;
      expect_is = c.add_value-found-in-6.ensures fields found.expect_is;
      connection_is = stays_as head (codes "connection") fields f c.args.found.connection 6 10 long refl (λ e. absurd (omega (arith, e))) found.connection_is;
      range_is = stays_as head (codes "range") fields f c.args.found.range 6 5 long refl (λ e. absurd (omega (arith, e))) found.range_is;
    }

pub returns-in-10 : goal.returns-in-10
returns-in-10 c fields found =
    let head = c.args.head.now in
    let f = header_bytes head c.args.header.now in
    let long : length f.0 ≡ 10 = ap length (sym c.of.ensures) ∙ c.in-10.is in
    record {
      host_is = stays_as head (codes "host") fields f c.args.found.host 10 4 long refl (λ e. absurd (omega (arith, e))) found.host_is;
      codings_are = stays_as head (codes "transfer-encoding") fields f c.args.found.codings 10 17 long refl (λ e. absurd (omega (arith, e))) found.codings_are;
      lengths_are = stays_as head (codes "content-length") fields f c.args.found.lengths 10 14 long refl (λ e. absurd (omega (arith, e))) found.lengths_are;
      expect_is = stays_as head (codes "expect") fields f c.args.found.expect 10 6 long refl (λ e. absurd (omega (arith, e))) found.expect_is;
      connection_is = c.add_value-found-in-10.ensures fields found.connection_is;
      range_is = stays_as head (codes "range") fields f c.args.found.range 10 5 long refl (λ e. absurd (omega (arith, e))) found.range_is;
    }

pub returns-in-14 : goal.returns-in-14
returns-in-14 c fields found =
    let head = c.args.head.now in
    let f = header_bytes head c.args.header.now in
    let long : length f.0 ≡ 14 = ap length (sym c.of.ensures) ∙ c.in-14.is in
    record {
      host_is = stays_as head (codes "host") fields f c.args.found.host 14 4 long refl (λ e. absurd (omega (arith, e))) found.host_is;
      codings_are = stays_as head (codes "transfer-encoding") fields f c.args.found.codings 14 17 long refl (λ e. absurd (omega (arith, e))) found.codings_are;
      lengths_are = c.add_value-found-in-14.ensures fields found.lengths_are;
      expect_is = stays_as head (codes "expect") fields f c.args.found.expect 14 6 long refl (λ e. absurd (omega (arith, e))) found.expect_is;
      connection_is = stays_as head (codes "connection") fields f c.args.found.connection 14 10 long refl (λ e. absurd (omega (arith, e))) found.connection_is;
      range_is = stays_as head (codes "range") fields f c.args.found.range 14 5 long refl (λ e. absurd (omega (arith, e))) found.range_is;
    }

pub returns-in-17 : goal.returns-in-17
returns-in-17 c fields found =
    let head = c.args.head.now in
    let f = header_bytes head c.args.header.now in
    let long : length f.0 ≡ 17 = ap length (sym c.of.ensures) ∙ c.in-17.is in
    record {
      host_is = stays_as head (codes "host") fields f c.args.found.host 17 4 long refl (λ e. absurd (omega (arith, e))) found.host_is;
      codings_are = c.add_value-found-in-17.ensures fields found.codings_are;
      lengths_are = stays_as head (codes "content-length") fields f c.args.found.lengths 17 14 long refl (λ e. absurd (omega (arith, e))) found.lengths_are;
      expect_is = stays_as head (codes "expect") fields f c.args.found.expect 17 6 long refl (λ e. absurd (omega (arith, e))) found.expect_is;
      connection_is = stays_as head (codes "connection") fields f c.args.found.connection 17 10 long refl (λ e. absurd (omega (arith, e))) found.connection_is;
      range_is = stays_as head (codes "range") fields f c.args.found.range 17 5 long refl (λ e. absurd (omega (arith, e))) found.range_is;
    }
