-- The words of the usage line have their forms.
use Rattle.std.proofs.Common.{◌≡◌, ◌∙◌, ℕ, ◌==◌, ◌&&◌, Bool, true, false, cond, List, [], ◌∷◌, length, Option, Some, None, codes, nat_le, refl, sym, ap, ap₂, arith}
use Rattle.std.specs.Prelude.{is_some, option_and_then}
use Rattle.std.specs.Option.{option_map_or}
use Rattle.std.specs.Str.{bytes_eq}
use Rattle.std.specs.Str.Parse.{digits_value}
use Rattle.std.proofs.lemmas.Bool.{ne_eqb}
use Rattle.clap.specs.Lexer.{long_of, long_of_rest, short_of, short_of_rest, strip_byte}
use Rattle.clap.specs.Walk.{Held, Row, Rule, Step, Text, Walk, after_step, finished, idle, long_or_other, nothing_held, option, plain_word, settled, short_or_plain, trailing, walk, walked, word_met}
use Rattle.clap.specs.Simple.{Shape, built, entered}
use Rattle.clap.specs.Kinds.{Kinds, or_else}
use Rattle.clap.specs.Faults.{bundle_fault, check_fault, defaults_fault, entered_fault, flag_word_fault, settle_fault, step_fault, turn_fault, word_fault}
use Rattle.clap.proofs.OnLiterals.{clap_on_literals}
use Rattle.mpm_base.specs.CommandWord.{command_word}
use Rattle.mpm_base.specs.Digits.{number_in_digits}
use Rattle.mpm_base.specs.declared.script_line.CommandWord.{CommandWord}
use Rattle.mpm_base.specs.declared.script_line.CommandWord.TheVariants as word
use Rattle.command_words.specs.Invocations.{AreOfForm, IsLoadText, IsPlainWord, Parses, command, loads, option_values, plays, sends, serves, tests, values_in}

-- ## Words that aren't taken for options

never : (b : Bool) → (b && false) ≡ false
never true = refl
never false = refl

not_dashes : (w : Text) → IsPlainWord w → bytes_eq w (45 ∷ 45 ∷ []) ≡ false
not_dashes [] h = refl
not_dashes (x ∷ []) h = never (x == 45)
not_dashes (x ∷ y ∷ rest) h = ap (λ (b : Bool). b && bytes_eq (y ∷ rest) (45 ∷ [])) (ne_eqb x 45 h)

no_long : (w : Text) → IsPlainWord w → long_of w ≡ None
no_long [] h = refl
no_long (x ∷ []) h = go (x == 45)
  where
    go : (b : Bool) → option_and_then long_of_rest (option_and_then (strip_byte 45) (cond b (Some []) None)) ≡ None
    go true = refl
    go false = refl
no_long (x ∷ y ∷ rest) h =
    ap (λ (b : Bool). option_and_then long_of_rest (option_and_then (strip_byte 45) (cond b (Some (y ∷ rest)) None))) (ne_eqb x 45 h)

no_short : (w : Text) → IsPlainWord w → short_of w ≡ None
no_short [] h = refl
no_short (x ∷ []) h = go (x == 45)
  where
    go : (b : Bool) → option_and_then short_of_rest (cond b (Some []) None) ≡ None
    go true = refl
    go false = refl
no_short (x ∷ y ∷ rest) h = ap (λ (b : Bool). option_and_then short_of_rest (cond b (Some (y ∷ rest)) None)) (ne_eqb x 45 h)

-- a text with a first `-` is no number
no_number : (y : ℕ) (rest : Text) → number_in_digits 6 (45 ∷ y ∷ rest) ≡ None
no_number y rest =
    let text = 45 ∷ y ∷ rest in
    ap (λ (b : Bool). cond b (Some (digits_value 10 text)) None) (never (nat_le 1 (length text) && nat_le (length text) 6))

plain_number : (text : Text) (n : ℕ) → number_in_digits 6 text ≡ Some n → IsPlainWord text
plain_number [] n e = tt
plain_number (x ∷ []) n e = tt
plain_number (x ∷ y ∷ rest) n e = λ dash.
    let same : number_in_digits 6 (45 ∷ y ∷ rest) ≡ Some n = ap (λ (b : ℕ). number_in_digits 6 (b ∷ y ∷ rest)) (sym dash) ∙ e in
    absurd (cc (no_number y rest, same))

-- ## The value of an option

abbrev shape : Shape
shape = (built command).top

-- where the walk stands before the value of an option
abbrev waits_for : Text → List Row → Walk
waits_for id rows = record {
  held = record { rows = rows; pending = Some (id, []); skip = 0 };
  waiting = option id;
  position = 1;
  is_trailing = false;
  stopped = None;
}

-- where it stands behind it
abbrev has_value : Text → Text → List Row → Walk
has_value id value rows = record {
  held = record { rows = rows; pending = Some (id, value ∷ []); skip = 0 };
  waiting = idle;
  position = 1;
  is_trailing = false;
  stopped = None;
}

met : (c : List Rule) (id : Text) (w : Text) (h : Held) → IsPlainWord w → word_met c [] false (option id) 1 w h ≡ plain_word c (option id) w h
met c id w h plain =
    let dashes : Held × Step = (h, trailing 1) in
    ap (λ (b : Bool). cond b dashes (long_or_other c (option id) w (long_of w) h)) (not_dashes w plain)
    ∙ ap (λ (l : Option (Text × Option Text)). long_or_other c (option id) w l h) (no_long w plain)
    ∙ ap (λ (s : Option Text). short_or_plain c (option id) w s h) (no_short w plain)

goes_on : (c : List Rule) (id value : Text) (rows : List Row) → IsPlainWord value
    → walked c [] (waits_for id rows) value ≡ after_step c value (waits_for id rows) (plain_word c (option id) value (waits_for id rows).held).0 (plain_word c (option id) value (waits_for id rows).held).1
unfolding walked
goes_on c id value rows plain =
    ap (λ (m : Held × Step). after_step c value (waits_for id rows) m.0 m.1) (met c id value (waits_for id rows).held plain)

no_fault : (s : Shape) (id value : Text) (rows : List Row) → IsPlainWord value → turn_fault s [] (waits_for id rows) value ≡ []
no_fault s id value rows plain =
    let h = (waits_for id rows).held in
    let none : Kinds = [] in
    let word_none : word_fault s [] false (option id) value h ≡ [] =
    ap (λ (b : Bool). cond b none (flag_word_fault s.rules s.args_override_self (long_of value) value h)) (not_dashes value plain)
    ∙ ap (λ (l : Option (Text × Option Text)). flag_word_fault s.rules s.args_override_self l value h) (no_long value plain)
    ∙ ap (λ (o : Option Text). option_map_or (λ flags. bundle_fault s.rules s.args_override_self flags h) o []) (no_short value plain) in
    let step_none = ap (λ (m : Held × Step). step_fault s 1 m.0 m.1) (met s.rules id value h plain) in
    ap₂ or_else word_none step_none

-- ## The forms

-- the faults of words, by where the walk over them ends and its own faults
abbrev ends_with : Walk → Kinds → Kinds
ends_with w faults =
    or_else faults
    (or_else (entered_fault (built command) w.stopped) (or_else (settle_fault shape.rules shape.args_override_self w.held)
    (or_else (defaults_fault (settled shape.rules w.held).rows shape.rules)
    (check_fault shape (finished shape.rules w.held) (is_some (entered (built command) w.stopped))))))

script_walk : (name : Text) → IsPlainWord name → walk shape.rules [] nothing_held (codes "--script" ∷ name ∷ []) ≡ has_value (codes "script") name []
unfolding command clap_on_literals
script_walk name plain = goes_on shape.rules (codes "script") name [] plain

pub script_form : (name : Text) → IsPlainWord name → AreOfForm (codes "--script" ∷ name ∷ []) (plays name)
unfolding Parses option_values command clap_on_literals
script_form name plain = record {
  parsed = ap₂ ends_with (script_walk name plain) (ap (λ (k : Kinds). or_else k []) (no_fault shape (codes "script") name [] plain));
  found = ap (λ (w : Walk). values_in (finished shape.rules w.held)) (script_walk name plain);
}

load_walk : (text : Text) → IsPlainWord text → walk shape.rules [] nothing_held (codes "--load" ∷ text ∷ []) ≡ has_value (codes "load") text []
unfolding command clap_on_literals
load_walk text plain = goes_on shape.rules (codes "load") text [] plain

pub load_form : (text : Text) (n : ℕ) → IsLoadText text n → AreOfForm (codes "--load" ∷ text ∷ []) (loads n)
unfolding Parses option_values command clap_on_literals
load_form text n is_load =
    let plain = plain_number text n is_load.number in
    record {
      parsed = ap₂ ends_with (load_walk text plain) (ap (λ (k : Kinds). or_else k []) (no_fault shape (codes "load") text [] plain));
      found = record {
        text = text;
        option = ap (λ (w : Walk). values_in (finished shape.rules w.held)) (load_walk text plain);
        number = is_load;
      };
    }

pub least_load : IsLoadText (codes "1") 1
least_load = record { number = refl; some = omega arith; few = omega arith }

pub most_load : IsLoadText (codes "100000") 100000
most_load = record { number = refl; some = omega arith; few = omega arith }

serve_walk : (name : Text) → IsPlainWord name → walk shape.rules [] nothing_held (codes "-f" ∷ name ∷ []) ≡ has_value (codes "file") name []
unfolding command clap_on_literals
serve_walk name plain = goes_on shape.rules (codes "file") name [] plain

pub serve_form : (name : Text) → IsPlainWord name → AreOfForm (codes "-f" ∷ name ∷ []) (serves name)
unfolding Parses option_values command clap_on_literals
serve_form name plain = record {
  parsed = ap₂ ends_with (serve_walk name plain) (ap (λ (k : Kinds). or_else k []) (no_fault shape (codes "file") name [] plain));
  found = ap (λ (w : Walk). values_in (finished shape.rules w.held)) (serve_walk name plain);
}

-- the rows of these words, whose last option has its value
abbrev rows_of_words : List Text → List Row
rows_of_words words = (settled shape.rules (walk shape.rules [] nothing_held words).held).rows

test_walk : (name : Text) → IsPlainWord name
    → walk shape.rules [] nothing_held (codes "-t" ∷ codes "-f" ∷ name ∷ []) ≡ has_value (codes "file") name (rows_of_words (codes "-t" ∷ []))
unfolding command clap_on_literals
test_walk name plain = goes_on shape.rules (codes "file") name (rows_of_words (codes "-t" ∷ [])) plain

pub test_form : (name : Text) → IsPlainWord name → AreOfForm (codes "-t" ∷ codes "-f" ∷ name ∷ []) (tests name)
unfolding Parses option_values command clap_on_literals
test_form name plain = record {
  parsed = ap₂ ends_with (test_walk name plain)
      (ap (λ (k : Kinds). or_else k []) (no_fault shape (codes "file") name (rows_of_words (codes "-t" ∷ [])) plain));
  found = ap (λ (w : Walk). values_in (finished shape.rules w.held)) (test_walk name plain);
}

-- the rows of a word to be sent
abbrev word_rows : CommandWord → List Row
word_rows w = rows_of_words (codes "-k" ∷ command_word w ∷ [])

send_walk : (w : CommandWord) (name : Text) → IsPlainWord name
    → walk shape.rules [] nothing_held (codes "-k" ∷ command_word w ∷ codes "-f" ∷ name ∷ []) ≡ has_value (codes "file") name (word_rows w)
unfolding command clap_on_literals
send_walk word.Graceful name plain = goes_on shape.rules (codes "file") name (word_rows word.Graceful) plain
send_walk word.GracefulStop name plain = goes_on shape.rules (codes "file") name (word_rows word.GracefulStop) plain
send_walk word.Stop name plain = goes_on shape.rules (codes "file") name (word_rows word.Stop) plain
send_walk word.Status name plain = goes_on shape.rules (codes "file") name (word_rows word.Status) plain

pub send_form : (w : CommandWord) (name : Text) → IsPlainWord name → AreOfForm (codes "-k" ∷ command_word w ∷ codes "-f" ∷ name ∷ []) (sends w name)
unfolding Parses option_values command clap_on_literals
send_form word.Graceful name plain = record {
  parsed = ap₂ ends_with (send_walk word.Graceful name plain)
      (ap (λ (k : Kinds). or_else k []) (no_fault shape (codes "file") name (word_rows word.Graceful) plain));
  found = ap (λ (v : Walk). values_in (finished shape.rules v.held)) (send_walk word.Graceful name plain);
}
send_form word.GracefulStop name plain = record {
  parsed = ap₂ ends_with (send_walk word.GracefulStop name plain)
      (ap (λ (k : Kinds). or_else k []) (no_fault shape (codes "file") name (word_rows word.GracefulStop) plain));
  found = ap (λ (v : Walk). values_in (finished shape.rules v.held)) (send_walk word.GracefulStop name plain);
}
send_form word.Stop name plain = record {
  parsed = ap₂ ends_with (send_walk word.Stop name plain)
      (ap (λ (k : Kinds). or_else k []) (no_fault shape (codes "file") name (word_rows word.Stop) plain));
  found = ap (λ (v : Walk). values_in (finished shape.rules v.held)) (send_walk word.Stop name plain);
}
send_form word.Status name plain = record {
  parsed = ap₂ ends_with (send_walk word.Status name plain)
      (ap (λ (k : Kinds). or_else k []) (no_fault shape (codes "file") name (word_rows word.Status) plain));
  found = ap (λ (v : Walk). values_in (finished shape.rules v.held)) (send_walk word.Status name plain);
}
