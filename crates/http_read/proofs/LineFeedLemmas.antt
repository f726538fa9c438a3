-- Where the first line feed of bytes stands.
use Rattle.std.proofs.Common.{◌≡◌, ℕ, ◌+◌, ◌<◌, true, false, List, ◌∷◌, ◌++◌, length, get_or, take, drop, sym, refl, ap, ◌∙◌, subst, arith}
use Rattle.std.specs.Prelude.{Option, Some, None, ◌==◌, IsFalse}
use Rattle.std.proofs.lemmas.Bool.{eqb-true, ne_eqb}
use Rattle.std.proofs.lemmas.List.{take-append-drop, drop_more, length-take-le, get_or-take}
use Rattle.std.proofs.lemmas.List.Elements.{All-from_get_or}
use Rattle.memchr.specs.Find.{IsFirstByte, is_byte}
use Rattle.http_read.specs.ExtentsInside.{IsFeedAt}

not_feed : (b : ℕ) → ((b == 10) ≡ true → ⊥) → (b == 10) ≡ false
not_feed b other = ne_eqb b 10 (λ e. other (subst (λ v. (v == 10) ≡ true) (sym e) refl))

pub feed_at : (bytes : List ℕ) (r : Option ℕ) → IsFirstByte (is_byte 10) bytes r → IsFeedAt bytes r
feed_at bytes None none =
    All-from_get_or (λ b. IsFalse (b == 10)) bytes 0 (λ i inside. not_feed (get_or bytes i 0) (none i (omega arith) inside))
feed_at bytes (Some k) h =
    let front_len : length (take k bytes) ≡ k = length-take-le k bytes (omega (arith, h.0.high)) in
    let feed : get_or bytes k 0 ≡ 10 = eqb-true (get_or bytes k 0) 10 h.1 in
    record {
      within = h.0.high;
      line = All-from_get_or (λ b. IsFalse (b == 10)) (take k bytes) 0 (λ i inside.
          let before : i < k = omega arith in
          subst (λ v. IsFalse (v == 10)) (sym (get_or-take k bytes i 0 before)) (not_feed (get_or bytes i 0) (h.0.before i (omega arith) before)));
      bytes_are =
          sym (take-append-drop k bytes)
          ∙ ap (λ x. take k bytes ++ x) (drop_more bytes k 0 h.0.high ∙ ap (λ v. v ∷ drop (k + 1) bytes) feed);
    }
