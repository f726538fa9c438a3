-- The commands of a script: which command lines have come, and which is read next.
use Rattle.std.proofs.Common.{◌≡◌, ℕ, zero, suc, ◌+◌, ◌<◌, ◌≤◌, List, [], ◌∷◌, ◌++◌, length, map, take, drop, Some, option_map, ap, sym, refl, ◌∙◌, add-one, arith}
use Rattle.std.proofs.Math.Seq.{take-add}
use Rattle.std.specs.List.{slice_get}
use Rattle.std.proofs.lemmas.Grind.{flat_map-append}
use Rattle.std.proofs.lemmas.List.{length-append, length-map, length-take, map-append, take-append-drop}
use Rattle.std.proofs.lemmas.Option.{slice_get-map}
use Rattle.mpm_script.specs.Commands.{command_in, command_lines_of, commands_of}
use Rattle.mpm_base.specs.CommandWord.{command_word}
use Rattle.mpm_base.specs.declared.script_line.CommandWord.{CommandWord}
use Rattle.mpm_base.specs.declared.script_line.ScriptLine.{ScriptLine}
use Rattle.script_front.specs.PlayedPartsInside.{AreCommands, SeenCommands}
use Rattle.script_front.proofs.ComingLemmas.{brings-few}

-- ## The command lines of lines

lines-append : (before behind : List ScriptLine) → command_lines_of (before ++ behind) ≡ command_lines_of before ++ command_lines_of behind
lines-append before behind = ap (map command_word) (flat_map-append command_in before behind) ∙ map-append command_word (commands_of before) (commands_of behind)

-- those of the lines up to one place, and from there to another
pub lines-add : (lines : List ScriptLine) (h n : ℕ)
    → command_lines_of (take (h + n) lines) ≡ command_lines_of (take h lines) ++ command_lines_of (take n (drop h lines))
lines-add lines h n = ap command_lines_of (take-add h n lines) ∙ lines-append (take h lines) (take n (drop h lines))

-- those of all lines
lines-all : (lines : List ScriptLine) (h : ℕ) → command_lines_of (take h lines) ++ command_lines_of (drop h lines) ≡ command_lines_of lines
lines-all lines h = sym (lines-append (take h lines) (drop h lines)) ∙ ap command_lines_of (take-append-drop h lines)

-- no more come than there are
pub come-within : (lines : List ScriptLine) (h : ℕ) → length (command_lines_of (take h lines)) ≤ length (commands_of lines)
come-within lines h =
    omega (arith, ap length (lines-all lines h), length-append (command_lines_of (take h lines)) (command_lines_of (drop h lines)), length-map (commands_of lines) command_word)

-- and no more than lines
pub brings-within : (lines : List ScriptLine) (h : ℕ) → length (command_lines_of (take h lines)) ≤ h
brings-within lines h = omega (arith, brings-few (take h lines), length-take h lines)

-- ## The next one

-- the first of the rest of a list stands at its place
next-at : (ws : List CommandWord) (k : ℕ) (word : CommandWord) (rest : List CommandWord) → drop k ws ≡ word ∷ rest
    → (slice_get ws k ≡ Some word) × (drop (suc k) ws ≡ rest)
next-at [] zero word rest e = absurd (cc)
next-at [] (suc k) word rest e = absurd (cc)
next-at (w ∷ ws) zero word rest e = (cc, cc)
next-at (w ∷ ws) (suc k) word rest e = next-at ws k word rest e

-- what stands in the first of two lists
front-at : (xs ys : List (List ℕ)) (k : ℕ) → k < length xs → slice_get (xs ++ ys) k ≡ slice_get xs k
front-at [] ys k l = absurd (omega (arith, l))
front-at (x ∷ xs) ys zero l = refl
front-at (x ∷ xs) ys (suc k) l = front-at xs ys k (omega (arith, l))

module _ (lines : List ScriptLine) (h : ℕ) (ws : SeenCommands) (are : AreCommands lines h ws) where
  -- the next line is the word of the next command
  pub next-line : (word : CommandWord) (rest : List CommandWord) → ws.unread ≡ word ∷ rest → ws.read < ws.came
      → slice_get (command_lines_of (take h lines)) ws.read ≡ Some (command_word word)
  next-line word rest is some =
      let within : ws.read < length (command_lines_of (take h lines)) = omega (arith, some, are.came) in
      let there = next-at (commands_of lines) ws.read word rest (sym are.unread_are ∙ is) in
      sym (front-at (command_lines_of (take h lines)) (command_lines_of (drop h lines)) ws.read within)
      ∙ ap (λ (xs : List (List ℕ)). slice_get xs ws.read) (lines-all lines h)
      ∙ slice_get-map command_word (commands_of lines) ws.read
      ∙ ap (option_map command_word) there.0

  -- it was read
  pub commands-read : (ws' : SeenCommands) (word : CommandWord) → ws.unread ≡ word ∷ ws'.unread → ws' ≡ record ws { unread = ws'.unread; read = ws.read + 1 }
      → ws.read < ws.came → AreCommands lines h ws'
  commands-read ws' word is only some =
      let came = ap (λ (s : SeenCommands). s.came) only in
      let read = ap (λ (s : SeenCommands). s.read) only in
      let there = next-at (commands_of lines) ws.read word ws'.unread (sym are.unread_are ∙ is) in
      record {
        came = came ∙ are.came;
        read = omega (arith, came, read, some);
        unread_are = sym there.1 ∙ ap (λ k. drop k (commands_of lines)) (sym (read ∙ add-one ws.read));
      }

  -- so many further lines happened
  pub commands-come : (n more : ℕ) (ws' : SeenCommands) → more ≡ length (command_lines_of (take n (drop h lines))) → ws' ≡ record ws { came = ws.came + more }
      → AreCommands lines (h + n) ws'
  commands-come n more ws' is only =
      let came = ap (λ (s : SeenCommands). s.came) only in
      let read = ap (λ (s : SeenCommands). s.read) only in
      record {
        came =
            omega (arith, came, is, are.came, ap length (lines-add lines h n), length-append (command_lines_of (take h lines)) (command_lines_of (take n (drop h lines))));
        read = omega (arith, came, read, are.read);
        unread_are = ap (λ (s : SeenCommands). s.unread) only ∙ are.unread_are ∙ ap (λ k. drop k (commands_of lines)) (sym read);
      }
