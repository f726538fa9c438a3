-- The extension of a name, from its end.
use Rattle.std.proofs.Common.{◌≡◌, ℕ, ◌+◌, ◌<◌, zero, suc, List, [], ◌∷◌, length, drop, get_or, Some, None, refl, ap, sym, ◌∙◌}
use Rattle.std.proofs.lemmas.List.{at_drop_more}
use Rattle.media_types.specs.MediaType.{extension_of}

-- an extension of the end of a name is that of the name
pub extension_kept : (n : ℕ) (name extension : List ℕ) → extension_of (drop n name) ≡ Some extension → extension_of name ≡ Some extension
extension_kept zero name extension h = h
extension_kept (suc n) [] extension h = h
extension_kept (suc n) (b ∷ bs) extension h = rw (extension_kept n bs extension h) refl

-- the extension begins behind a point where no later one stands
pub extension_here : (name rest : List ℕ) (place : ℕ) → place < length name → get_or name place 0 ≡ 46 → extension_of (drop (place + 1) name) ≡ None
    → rest ≡ drop (place + 1) name → extension_of name ≡ Some rest
extension_here name rest place within point none e =
    extension_kept place name rest
    (at_drop_more extension_of name place 0 within ∙ ap (λ b. extension_of (b ∷ drop (place + 1) name)) point ∙ rw none (ap (λ r. Some r) (sym e)))
