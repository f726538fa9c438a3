-- A text may be cut at its first blank.
use Rattle.std.proofs.Common.{◌≡◌, ap, subst, sym, ◌∙◌}
use Rattle.std.specs.Str.{IsCharBoundary}
use Rattle.std.specs.List.{position_or_len}
use Rattle.conf_text.specs.Words.{is_blank}
use Rattle.conf_text.proofs.WordLemmas.{blank_boundary}
use Rattle.conf_text.proofs.word.at_blank.Goals as goal

pub split_at-requires : goal.split_at-requires
split_at-requires c =
    let e : c.blank_place.result ≡ position_or_len is_blank c.args.text.now = c.blank_place.ensures ∙ ap (λ xs. position_or_len is_blank xs) c.as_bytes.ensures.value in
    subst (λ n. IsCharBoundary c.args.text.now n) (sym e) (blank_boundary c.args.text.now)
