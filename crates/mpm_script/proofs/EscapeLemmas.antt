-- Texts that spell bytes: what stands behind a backslash, and that a text spells no two things.
use Rattle.std.proofs.Common.{◌≡◌, ℕ, ◌+◌, ◌*◌, ◌<◌, List, [], ◌∷◌, ◌++◌, length, refl, sym, ap, subst, ◌∙◌, arith, Some}
use Rattle.std.specs.Char.{digit_value}
use Rattle.std.proofs.lemmas.Bool.{false≢true}
use Rattle.std.proofs.lemmas.List.{append_assoc, append-nil, length-append}
use Rattle.mpm_script.specs.Escapes.{is_plain, letter_value, IsEscape, letter, digits, SpellsByte, plain, escape, Spells}
use Rattle.mpm_script.specs.EscapesInside.{BeginsEscape, BeginsByte, WritesByte}

-- the two digits behind an 'x'
pub escape_of_digits : (text rest : List ℕ) → text ≡ 120 ∷ rest → (b : ℕ) (behind : List ℕ) → WritesByte rest b behind → BeginsEscape text b behind
escape_of_digits text rest e b behind h = (
  120 ∷ h.0 ∷ h.1 ∷ [],
  subst (λ v. IsEscape (120 ∷ h.0 ∷ h.1 ∷ []) v) (sym h.4) (digits h.2 h.3),
  e ∙ ap (λ xs. 120 ∷ xs) h.5,
)

digits_of_code : {code : List ℕ} {b : ℕ} → IsEscape code b → (rest behind : List ℕ) → 120 ∷ rest ≡ code ++ behind → WritesByte rest b behind
digits_of_code (letter {c} {b} is) rest behind e =
    let first : 120 ≡ c = cc in
    let none : letter_value 120 ≡ Some b = ap letter_value first ∙ is in
    absurd (cc)
digits_of_code (digits {high} {low} h l) rest behind e = (high, low, h, l, refl, cc)

pub digits_of_escape : (text rest : List ℕ) → text ≡ 120 ∷ rest → (b : ℕ) (behind : List ℕ) → BeginsEscape text b behind → WritesByte rest b behind
digits_of_escape text rest e b behind h = digits_of_code h.1 rest behind (sym e ∙ h.2)

-- what follows a backslash
pub byte_of_escape : (text rest : List ℕ) → text ≡ 92 ∷ rest → (b : ℕ) (behind : List ℕ) → BeginsEscape rest b behind → BeginsByte text b behind
byte_of_escape text rest e b behind h = (92 ∷ h.0, escape h.1, e ∙ ap (λ xs. 92 ∷ xs) h.2)

escape_of_piece : {piece : List ℕ} {b : ℕ} → SpellsByte piece b → (rest behind : List ℕ) → 92 ∷ rest ≡ piece ++ behind → BeginsEscape rest b behind
escape_of_piece (plain {b} is) rest behind e =
    let first : 92 ≡ b = cc in
    absurd (false≢true (ap is_plain first ∙ is))
escape_of_piece (escape {code} is) rest behind e = (code, is, cc)

pub escape_of_byte : (text rest : List ℕ) → text ≡ 92 ∷ rest → (b : ℕ) (behind : List ℕ) → BeginsByte text b behind → BeginsEscape rest b behind
escape_of_byte text rest e b behind h = escape_of_piece h.1 rest behind (sym e ∙ h.2)

-- a text begins with one piece alone
one_escape : {code other : List ℕ} {b d : ℕ} → IsEscape code b → IsEscape other d → (rest behind : List ℕ)
    → code ++ rest ≡ other ++ behind → (b ≡ d) × (rest ≡ behind)
one_escape (letter {c = x} {b = b} is) (letter {c = y} {b = d} also) rest behind e =
    let first : x ≡ y = cc in
    let same : Some b ≡ Some d = sym is ∙ ap letter_value first ∙ also in
    (cc, cc)
one_escape (letter {c = x} {b = b} is) (digits {high} {low} h l) rest behind e =
    let first : 120 ≡ x = cc in
    let none : letter_value 120 ≡ Some b = ap letter_value first ∙ is in
    absurd (cc)
one_escape (digits {high} {low} h l) (letter {c = y} {b = d} also) rest behind e =
    let first : 120 ≡ y = cc in
    let none : letter_value 120 ≡ Some d = ap letter_value first ∙ also in
    absurd (cc)
one_escape (digits {high = x} {low = y} h l) (digits {high = v} {low = w} p q) rest behind e =
    let highs : x ≡ v = cc in
    let lows : y ≡ w = cc in
    (λ i. 16 * digit_value (highs i) + digit_value (lows i), cc)

one_piece : {piece other : List ℕ} {b d : ℕ} → SpellsByte piece b → SpellsByte other d → (rest behind : List ℕ)
    → piece ++ rest ≡ other ++ behind → (b ≡ d) × (rest ≡ behind)
one_piece (plain {b = x} is) (plain {b = y} also) rest behind e = (cc, cc)
one_piece (plain {b = x} is) (escape {code} also) rest behind e =
    let first : 92 ≡ x = cc in
    absurd (false≢true (ap is_plain first ∙ is))
one_piece (escape {code} is) (plain {b = y} also) rest behind e =
    let first : 92 ≡ y = cc in
    absurd (false≢true (ap is_plain first ∙ also))
one_piece (escape {code = v} is) (escape {code = w} also) rest behind e =
    let codes_same : v ++ rest ≡ w ++ behind = cc in
    one_escape is also rest behind codes_same

pub one_byte : (text : List ℕ) (b c : ℕ) (rest behind : List ℕ) → BeginsByte text b rest → BeginsByte text c behind → (b ≡ c) × (rest ≡ behind)
one_byte text b c rest behind h k = one_piece h.1 k.1 rest behind (sym h.2 ∙ k.2)

-- a piece has a byte at least
pub byte_is_some : (text : List ℕ) (b : ℕ) (rest : List ℕ) → BeginsByte text b rest → length rest < length text
byte_is_some text b rest h = longer h.1 rest h.2
  where
    longer : {piece : List ℕ} {b : ℕ} → SpellsByte piece b → (rest : List ℕ) → text ≡ piece ++ rest → length rest < length text
    longer (plain is) rest e = omega (arith, ap length e)
    longer (escape {code} is) rest e = omega (arith, ap length e, length-append code rest)

-- what a text spells, from its first byte
pub spells_first : (text : List ℕ) (b : ℕ) (rest bytes : List ℕ) → BeginsByte text b rest → Spells rest bytes → Spells text (b ∷ bytes)
spells_first text b rest bytes h k = (h.0, rest, h.1, h.2, k)

-- what a text that begins with a byte spells: that byte, and what the rest spells
pub record SpellsBehind (b : ℕ) (rest bytes : List ℕ) : Type 0 where
  pub behind : List ℕ
  pub is : bytes ≡ b ∷ behind
  pub spells : Spells rest behind

pub spells_behind : (text : List ℕ) (b : ℕ) (rest bytes : List ℕ) → BeginsByte text b rest → Spells text bytes → SpellsBehind b rest bytes
spells_behind text b rest [] h k = absurd (omega (arith, byte_is_some text b rest h, ap length k))
spells_behind text b rest (c ∷ bytes) h k =
    let same = one_byte text b c rest k.1 h (k.0, k.2, k.3) in
    record { behind = bytes; is = ap (λ x. x ∷ bytes) (sym same.0); spells = subst (λ r. Spells r bytes) (sym same.1) k.4 }

-- the loop that reads a text: what was read so far and what the rest spells are what the text spells
pub record Reads (text bytes rest : List ℕ) : Type 0 where
  pub spells : (tail : List ℕ) → Spells rest tail → Spells text (bytes ++ tail)
  pub only : (all : List ℕ) → Spells text all → (tail : List ℕ) × (all ≡ bytes ++ tail) × Spells rest tail

pub reads_more : (text bytes rest : List ℕ) (b : ℕ) (behind : List ℕ) → Reads text bytes rest → BeginsByte rest b behind → Reads text (bytes ++ b ∷ []) behind
reads_more text bytes rest b behind reads first = record {
  spells = λ tail h. subst (Spells text) (sym (append_assoc bytes (b ∷ []) tail)) (reads.spells (b ∷ tail) (spells_first rest b behind tail first h));
  only = λ all h.
      let old = reads.only all h in
      let next = spells_behind rest b behind old.0 first old.2 in
      (next.behind, old.1 ∙ ap (λ xs. bytes ++ xs) next.is ∙ sym (append_assoc bytes (b ∷ []) next.behind), next.spells);
}

pub reads_all : (text bytes : List ℕ) → Reads text bytes [] → Spells text bytes
reads_all text bytes reads = subst (Spells text) (append-nil bytes) (reads.spells [] refl)

pub reads_stuck : (text bytes rest : List ℕ) → Reads text bytes rest → 0 < length rest
    → ((b : ℕ) (behind : List ℕ) → ¬ (BeginsByte rest b behind)) → (all : List ℕ) → ¬ (Spells text all)
reads_stuck text bytes rest reads some none all h = stuck (reads.only all h).0 (reads.only all h).2
  where
    stuck : (tail : List ℕ) → ¬ (Spells rest tail)
    stuck [] k = absurd (omega (arith, ap length k))
    stuck (b ∷ tail) k = none b k.1 (k.0, k.2, k.3)
