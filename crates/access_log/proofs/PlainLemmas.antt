-- A line that has nothing to escape stands in the log as it is.
use Rattle.std.proofs.Common.{◌≡◌, ℕ, ◌++◌, not, Bool, true, false, List, [], ◌∷◌, refl, ap, ◌∙◌}
use Rattle.std.specs.List.{list_all}
use Rattle.std.proofs.lemmas.Bool.{and_parts}
use Rattle.access_log.specs.EscapedLine.{is_marked, is_printed, escaped_byte, escaped}
use Rattle.access_log.specs.PlainInside.{is_plain}

not_marked : (b : Bool) → not b ≡ true → b ≡ false
not_marked true h = cc
not_marked false h = refl

plain_byte : (b : ℕ) → is_plain b ≡ true → escaped_byte b ≡ b ∷ []
plain_byte b h =
    let parts = and_parts (is_printed b) (not (is_marked b)) h in
    let marked = not_marked (is_marked b) parts.1 in
    let printed = parts.0 in
    rw (marked, printed) refl

pub plain_line : (line : List ℕ) → list_all is_plain line ≡ true → escaped line ≡ line
plain_line [] h = refl
plain_line (b ∷ line) h =
    let parts = and_parts (is_plain b) (list_all is_plain line) h in
    ap (λ text. text ++ escaped line) (plain_byte b parts.0) ∙ ap (λ text. b ∷ text) (plain_line line parts.1)
