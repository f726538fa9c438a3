-- A search in the code's table finds what the same search finds among the names.
use Rattle.std.proofs.Common.{◌≡◌, ℕ, List, [], ◌∷◌, Bool, true, false, cond, Option, Some, find, option_map, map, refl}
use Rattle.mpm_config.specs.declared.directive.Spelling.{Spelling}
use Rattle.mpm_base.specs.LetterCase.{is_same_ignoring_case}
use Rattle.mpm_config.specs.Directive.{Name, directive_among}
use Rattle.mpm_config.specs.DirectiveInside.{name_of}

-- a choice that is made before or after the directive is read
chosen : (b : Bool) (s : Spelling) (x : Option Spelling) (y : Option Name) → option_map (λ (s : Spelling). s.directive) x ≡ option_map (λ (n : Name). n.directive) y
    → option_map (λ (s : Spelling). s.directive) (cond b (Some s) x) ≡ option_map (λ (n : Name). n.directive) (cond b (Some (name_of s)) y)
chosen true s x y h = refl
chosen false s x y h = h

pub same_search : (w : List ℕ) (xs : List Spelling) →
    option_map (λ (s : Spelling). s.directive) (find (λ (s : Spelling). is_same_ignoring_case w s.name.now) xs) ≡ directive_among (map name_of xs) w
same_search w [] = refl
same_search w (s ∷ xs) = chosen (is_same_ignoring_case w s.name.now) s _ _ (same_search w xs)
