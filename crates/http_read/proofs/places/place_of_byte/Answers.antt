use Rattle.std.proofs.Common.{◌≡◌, ℕ, ◌≤◌, ◌==◌, ◌∙◌, sym, ap, length, unwrap_or, subst}
use Rattle.std.specs.List.{position_or_len}
use Rattle.http_read.proofs.PlaceLemmas.{position-le, position-or}
use Rattle.http_read.proofs.places.place_of_byte.Goals as goal

pub returns-clause-place : goal.returns-clause-place
returns-clause-place c = c.unwrap_or.ensures ∙ ap (λ o. unwrap_or o (length c.args.text.now)) c.find_byte.ensures ∙ position-or (λ (b : ℕ). b == c.args.byte) c.args.text.now

pub returns-clause-within : goal.returns-clause-within
returns-clause-within c =
    let place : c.unwrap_or.result ≡ position_or_len (λ (b : ℕ). b == c.args.byte) c.args.text.now =
    c.unwrap_or.ensures ∙ ap (λ o. unwrap_or o (length c.args.text.now)) c.find_byte.ensures ∙ position-or (λ (b : ℕ). b == c.args.byte) c.args.text.now in
    subst (λ n. n ≤ length c.args.text.now) (sym place) (position-le (λ (b : ℕ). b == c.args.byte) c.args.text.now)
