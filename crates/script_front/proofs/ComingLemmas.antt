-- The lines that happen next, counted one by one, and how many of the lines make a connection or bring a command line.
use Rattle.std.proofs.Common.{◌≡◌, ℕ, suc, ◌+◌, ◌<◌, ◌≤◌, true, false, cond, nat_le, List, [], ◌∷◌, length, get_or, drop, refl, ◌∙◌, arith}
use Rattle.std.proofs.Math.Numerals.{one-add}
use Rattle.std.specs.List.{count_by}
use Rattle.std.proofs.lemmas.List.{at_drop_more, at_drop_all}
use Rattle.std.proofs.lemmas.List.Recursion.{is_count_by}
use Rattle.std.proofs.lemmas.List.Sums.{count_by-le-length}
use Rattle.mpm_script.specs.Clients.{names_of}
use Rattle.mpm_script.specs.Commands.{command_lines_of}
use Rattle.script_front.specs.PlayedFrontInside.{happens_by, is_at, is_command, is_conn}
use Rattle.script_front.specs.ScriptFront.{lines_by, lines_now}
use Rattle.mpm_base.specs.declared.script_line.ScriptLine.{ScriptLine}
use Rattle.mpm_base.specs.declared.script_line.ScriptLine.TheVariants as line

-- the lines before the first `at`, one line further on
now-cons : (l : ScriptLine) (lines : List ScriptLine) → lines_now (l ∷ lines) ≡ cond (is_at l) 0 (1 + lines_now lines)
now-cons (line.At m) lines = refl
now-cons (line.Conn name) lines = omega arith
now-cons (line.Client name act) lines = omega arith
now-cons (line.Command word) lines = omega arith
now-cons (line.Site site) lines = omega arith

pub now_more : (lines : List ScriptLine) (i : ℕ) (d : ScriptLine) → i < length lines
    → lines_now (drop i lines) ≡ cond (is_at (get_or lines i d)) 0 (1 + lines_now (drop (i + 1) lines))
now_more lines i d h = at_drop_more lines_now lines i d h ∙ now-cons (get_or lines i d) (drop (i + 1) lines)

pub now_end : (lines : List ScriptLine) (i : ℕ) → length lines ≤ i → lines_now (drop i lines) ≡ 0
now_end lines i h = at_drop_all lines_now lines i h

-- behind them the next line is an `at`
pub now_passed : (lines : List ScriptLine) → lines_now (drop (lines_now lines) lines) ≡ 0
now_passed [] = refl
now_passed (line.At m ∷ lines) = refl
now_passed (line.Conn name ∷ lines) = now_passed lines
now_passed (line.Client name act ∷ lines) = now_passed lines
now_passed (line.Command word ∷ lines) = now_passed lines
now_passed (line.Site site ∷ lines) = now_passed lines

-- the lines before the first `at` of a later moment
by-cons : (m : ℕ) (l : ScriptLine) (lines : List ScriptLine) → lines_by m (l ∷ lines) ≡ cond (happens_by m l) (1 + lines_by m lines) 0
by-cons m (line.At at) lines = rw one-add
by-cons m (line.Conn name) lines = omega arith
by-cons m (line.Client name act) lines = omega arith
by-cons m (line.Command word) lines = omega arith
by-cons m (line.Site site) lines = omega arith

pub by_more : (m : ℕ) (lines : List ScriptLine) (i : ℕ) (d : ScriptLine) → i < length lines
    → lines_by m (drop i lines) ≡ cond (happens_by m (get_or lines i d)) (1 + lines_by m (drop (i + 1) lines)) 0
by_more m lines i d h = at_drop_more (lines_by m) lines i d h ∙ by-cons m (get_or lines i d) (drop (i + 1) lines)

pub by_end : (m : ℕ) (lines : List ScriptLine) (i : ℕ) → length lines ≤ i → lines_by m (drop i lines) ≡ 0
by_end m lines i h = at_drop_all (lines_by m) lines i h

-- behind them too
pub by_passed : (m : ℕ) (lines : List ScriptLine) → lines_now (drop (lines_by m lines) lines) ≡ 0
by_passed m [] = refl
by_passed m (line.At at ∷ lines) =
    elim (nat_le at m) as (λ happens. lines_now (drop (cond happens (suc (lines_by m lines)) 0) (line.At at ∷ lines)) ≡ 0) [
      | true ↦ by_passed m lines
      | false ↦ refl
    ]
by_passed m (line.Conn name ∷ lines) = by_passed m lines
by_passed m (line.Client name act ∷ lines) = by_passed m lines
by_passed m (line.Command word ∷ lines) = by_passed m lines
by_passed m (line.Site site ∷ lines) = by_passed m lines

names-cons : (l : ScriptLine) (lines : List ScriptLine) → length (names_of (l ∷ lines)) ≡ cond (is_conn l) (1 + length (names_of lines)) (length (names_of lines))
names-cons (line.At m) lines = refl
names-cons (line.Conn name) lines = omega arith
names-cons (line.Client name act) lines = refl
names-cons (line.Command word) lines = refl
names-cons (line.Site site) lines = refl

pub names-count : (lines : List ScriptLine) → length (names_of lines) ≡ count_by is_conn lines
names-count lines = is_count_by (λ lines. length (names_of lines)) is_conn refl names-cons lines

-- no more connections than lines
pub names-few : (lines : List ScriptLine) → length (names_of lines) ≤ length lines
names-few lines = omega (arith, names-count lines, count_by-le-length is_conn lines)

-- the same of command lines
brings-cons : (l : ScriptLine) (lines : List ScriptLine)
    → length (command_lines_of (l ∷ lines)) ≡ cond (is_command l) (1 + length (command_lines_of lines)) (length (command_lines_of lines))
brings-cons (line.At m) lines = refl
brings-cons (line.Conn name) lines = refl
brings-cons (line.Client name act) lines = refl
brings-cons (line.Command word) lines = omega arith
brings-cons (line.Site site) lines = refl

pub brings-count : (lines : List ScriptLine) → length (command_lines_of lines) ≡ count_by is_command lines
brings-count lines = is_count_by (λ lines. length (command_lines_of lines)) is_command refl brings-cons lines

pub brings-few : (lines : List ScriptLine) → length (command_lines_of lines) ≤ length lines
brings-few lines = omega (arith, brings-count lines, count_by-le-length is_command lines)
