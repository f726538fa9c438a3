-- The connections of the lines up to a place, and of one line more.
use Rattle.std.proofs.Common.{◌≡◌, ℕ, ◌+◌, ◌<◌, List, [], ◌∷◌, ◌++◌, length, get_or, take, map, ap, refl, sym, ◌∙◌}
use Rattle.std.proofs.lemmas.Grind.{flat_map-append}
use Rattle.std.proofs.lemmas.List.{append-nil, map-append, take_more}
use Rattle.mpm_script.specs.Clients.{made_by, names_of}
use Rattle.mpm_base.specs.declared.script_line.ScriptLine.{ScriptLine}

module _ (lines : List ScriptLine) (i : ℕ) (line : ScriptLine) where
  -- the line makes a connection
  pub names-more : (name : List ℕ) (ns : List (List ℕ)) → i < length lines → line ≡ get_or lines i line → made_by line ≡ name ∷ [] → ns ≡ names_of (take i lines)
      → ns ++ name ∷ [] ≡ names_of (take (i + 1) lines)
  names-more name ns l is makes h =
      rw h (sym (ap names_of (take_more lines i line l) ∙ flat_map-append made_by (take i lines) (get_or lines i line ∷ []) ∙ rw (← is, makes)))

  -- the line makes none
  pub names-same : (ns : List (List ℕ)) → i < length lines → line ≡ get_or lines i line → made_by line ≡ [] → ns ≡ names_of (take i lines) → ns ≡ names_of (take (i + 1) lines)
  names-same ns l is makes h =
      h ∙ sym (ap names_of (take_more lines i line l) ∙ flat_map-append made_by (take i lines) (get_or lines i line ∷ []) ∙ rw (← is, makes, append-nil (names_of (take i lines))))

-- the same of what is made for each name
pub named-more : {X : Type 0} (f : List ℕ → X) (lines : List ScriptLine) (i : ℕ) (line : ScriptLine) (name : List ℕ) (ys : List X) → i < length lines → line ≡ get_or lines i line
    → made_by line ≡ name ∷ [] → ys ≡ map f (names_of (take i lines)) → ys ++ f name ∷ [] ≡ map f (names_of (take (i + 1) lines))
named-more f lines i line name ys l is makes h =
    rw (← names-more lines i line name (names_of (take i lines)) l is makes refl, map-append f (names_of (take i lines)) (name ∷ []), h)

pub unnamed-more : {X : Type 0} (f : List ℕ → X) (lines : List ScriptLine) (i : ℕ) (line : ScriptLine) (ys : List X) → i < length lines → line ≡ get_or lines i line
    → made_by line ≡ [] → ys ≡ map f (names_of (take i lines)) → ys ≡ map f (names_of (take (i + 1) lines))
unnamed-more f lines i line ys l is makes h = h ∙ ap (map f) (names-same lines i line (names_of (take i lines)) l is makes refl)
