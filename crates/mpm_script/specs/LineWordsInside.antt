-- The parts of a line that have a name in them, before what stands behind the name is read.
use Rattle.std.specs.Prelude.{◌≡◌, ℕ, Bool, false, List, [], ◌∷◌, ◌++◌, codes, ⊤}
use Rattle.mpm_script.specs.Escapes.{Spells}
use Rattle.mpm_script.specs.ScriptLine.{is_name_byte, IsName, IsFileName}

-- a run of bytes that pass a test ends here: the text is empty, or its first byte fails the test
abbrev pub EndsRun : (ℕ → Bool) → List ℕ → Type 0
EndsRun test [] = ⊤
EndsRun test (b ∷ bytes) = test b ≡ false

-- the text is that word, the name of a connection, and what stands behind it, which goes on with no byte of a name
pub record IsNamed (word text name behind : List ℕ) : Type 0 where
  pub whole : text ≡ word ++ (name ++ behind)
  pub is_name : IsName name
  pub stops : EndsRun is_name_byte behind

-- the text is the line of a file of that name, with that text behind it
pub record IsFiled (text name behind : List ℕ) : Type 0 where
  pub whole : text ≡ codes "file " ++ (name ++ (codes " " ++ behind))
  pub is_name : IsFileName name

-- the text is that word, and then a text that spells the bytes
abbrev pub IsSpelledBehind : List ℕ → List ℕ → List ℕ → Type 0
IsSpelledBehind word text bytes = (spelling : List ℕ) × (text ≡ word ++ spelling) × Spells spelling bytes
