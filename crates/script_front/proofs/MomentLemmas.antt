-- The moments of the `at` lines: which are past, and which comes next.
use Rattle.std.proofs.Common.{◌≡◌, ℕ, suc, ◌+◌, ◌<◌, ◌≤◌, Bool, true, false, cond, nat_le, nat_lt, min, List, [], ◌∷◌, ◌++◌, take, drop, Option, None, Some, ap, refl, ◌∙◌, arith}
use Rattle.std.proofs.Math.Seq.{take-add}
use Rattle.std.proofs.lemmas.Bool.Decides.{nat_tests}
use Rattle.std.proofs.lemmas.Grind.{flat_map-append}
use Rattle.std.proofs.lemmas.List.{take-append-drop}
use Rattle.std.proofs.lemmas.List.Folds.{find-append}
use Rattle.mpm_base.specs.Front.{earlier, next_coming}
use Rattle.script_front.specs.ScriptFront.{comings_by, comings_of, lines_by, lines_now, next_moment}
use Rattle.mpm_base.specs.declared.script_line.ScriptLine.{ScriptLine}
use Rattle.mpm_base.specs.declared.script_line.ScriptLine.TheVariants as line

-- behind moments that are past the others count
coming-behind : (m : ℕ) (xs ys : List ℕ) → next_coming m xs ≡ None → next_coming m (xs ++ ys) ≡ next_coming m ys
coming-behind m xs ys past = find-append (nat_lt m) xs ys ∙ rw past refl

-- what is past at a moment is past later
pub past-later : (m later : ℕ) (xs : List ℕ) → m ≤ later → next_coming m xs ≡ None → next_coming later xs ≡ None
past-later m later [] l past = refl
past-later m later (x ∷ xs) l past = go (nat_lt m x) (nat_lt later x) refl refl past (past-later m later xs l)
  where
    go : (b b' : Bool) → nat_lt m x ≡ b → nat_lt later x ≡ b' → cond b (Some x) (next_coming m xs) ≡ None
        → (next_coming m xs ≡ None → next_coming later xs ≡ None) → cond b' (Some x) (next_coming later xs) ≡ None
    go true b' e e' none rest = absurd (cc)
    go false true e e' none rest = absurd (grind (arith, nat_tests))
    go false false e e' none rest = rest none

-- the lines up to one place, and from there to another
pub past-add : (m : ℕ) (lines : List ScriptLine) (h n : ℕ) → next_coming m (comings_of (take h lines)) ≡ None → next_coming m (comings_of (take n (drop h lines))) ≡ None
    → next_coming m (comings_of (take (h + n) lines)) ≡ None
past-add m lines h n past more =
    rw (take-add h n lines, flat_map-append comings_by (take h lines) (take n (drop h lines)))
    (coming-behind m (comings_of (take h lines)) (comings_of (take n (drop h lines))) past ∙ more)

-- no `at` stands before the first one
pub now_timeless : (lines : List ScriptLine) → comings_of (take (lines_now lines) lines) ≡ []
now_timeless [] = refl
now_timeless (line.At m ∷ lines) = refl
now_timeless (line.Conn name ∷ lines) = now_timeless lines
now_timeless (line.Client name act ∷ lines) = now_timeless lines
now_timeless (line.Command word ∷ lines) = now_timeless lines
now_timeless (line.Site site ∷ lines) = now_timeless lines

pub now_past : (m : ℕ) (lines : List ScriptLine) → next_coming m (comings_of (take (lines_now lines) lines)) ≡ None
now_past m lines = rw (now_timeless lines) refl

-- none of a later moment stands before the first of a later moment
pub by_past : (m : ℕ) (lines : List ScriptLine) → next_coming m (comings_of (take (lines_by m lines) lines)) ≡ None
by_past m [] = refl
by_past m (line.At at ∷ lines) = go (nat_le at m) refl (by_past m lines)
  where
    go : (happens : Bool) → nat_le at m ≡ happens → next_coming m (comings_of (take (lines_by m lines) lines)) ≡ None
        → next_coming m (comings_of (take (cond happens (suc (lines_by m lines)) 0) (line.At at ∷ lines))) ≡ None
    go true e rest = let early : nat_lt m at ≡ false = grind (arith, nat_tests) in rw early rest
    go false e rest = refl
by_past m (line.Conn name ∷ lines) = by_past m lines
by_past m (line.Client name act ∷ lines) = by_past m lines
by_past m (line.Command word ∷ lines) = by_past m lines
by_past m (line.Site site ∷ lines) = by_past m lines

-- the earlier of the two is later only where that one of the script is
at-later : (m n at : ℕ) (until : Option ℕ) → earlier until (Some at) ≡ Some n → m < n → nat_lt m at ≡ true
at-later m n at None e l = let is : at ≡ n = cc in grind (arith, nat_tests)
at-later m n at (Some u) e l = let is : min u at ≡ n = cc in grind (arith, nat_tests)

-- where the next line is an `at`, what comes next is its moment, if it is later
next-of : (m n : ℕ) (rest : List ScriptLine) (until : Option ℕ) → lines_now rest ≡ 0 → earlier until (next_moment rest) ≡ Some n → m < n
    → earlier until (next_coming m (comings_of rest)) ≡ Some n
next-of m n [] until now comes l = comes
next-of m n (line.At at ∷ rest) until now comes l = rw (at-later m n at until comes l) comes
next-of m n (line.Conn name ∷ rest) until now comes l = absurd (omega arith)
next-of m n (line.Client name act ∷ rest) until now comes l = absurd (omega arith)
next-of m n (line.Command word ∷ rest) until now comes l = absurd (omega arith)
next-of m n (line.Site site ∷ rest) until now comes l = absurd (omega arith)

-- the same among all lines, so many of which are past
pub next-later : (m n : ℕ) (lines : List ScriptLine) (h : ℕ) (until : Option ℕ) → next_coming m (comings_of (take h lines)) ≡ None → lines_now (drop h lines) ≡ 0
    → earlier until (next_moment (drop h lines)) ≡ Some n → m < n → earlier until (next_coming m (comings_of lines)) ≡ Some n
next-later m n lines h until past now comes l =
    let all : comings_of (take h lines) ++ comings_of (drop h lines) ≡ comings_of lines =
    rw (← flat_map-append comings_by (take h lines) (drop h lines)) (ap comings_of (take-append-drop h lines)) in
    let next : next_coming m (comings_of lines) ≡ next_coming m (comings_of (drop h lines)) =
    rw (← all) (coming-behind m (comings_of (take h lines)) (comings_of (drop h lines)) past) in
    rw next (next-of m n (drop h lines) until now comes l)
