-- Options have at most one form.
use Rattle.std.proofs.Common.{◌≡◌, ◌∙◌, ℕ, Bool, List, [], ◌∷◌, refl, sym, ap, true, false}
use Rattle.std.specs.Prelude.{is_some}
use Rattle.mpm_base.specs.CommandWord.{command_word}
use Rattle.mpm_base.specs.declared.script_line.CommandWord.{CommandWord}
use Rattle.mpm_base.specs.declared.script_line.CommandWord.TheVariants as word
use Rattle.command_words.specs.Invocations.{Form, IsForm, IsLoad, OptionValues, loads, plays, sends, serves, tests}

one_command : (word other : CommandWord) → command_word word ≡ command_word other → word ≡ other
one_command word.Graceful word.Graceful e = refl
one_command word.Graceful other e = absurd (cc)
one_command word.GracefulStop word.GracefulStop e = refl
one_command word.GracefulStop other e = absurd (cc)
one_command word.Stop word.Stop e = refl
one_command word.Stop other e = absurd (cc)
one_command word.Status word.Status e = refl
one_command word.Status other e = absurd (cc)

-- ## Which options are there

abbrev kind_in : OptionValues → List Bool
kind_in v = is_some v.script ∷ is_some v.load ∷ is_some v.file ∷ v.test ∷ is_some v.word ∷ []

abbrev kind_of : Form → List Bool
kind_of (plays name) = true ∷ false ∷ false ∷ false ∷ false ∷ []
kind_of (loads n) = false ∷ true ∷ false ∷ false ∷ false ∷ []
kind_of (serves name) = false ∷ false ∷ true ∷ false ∷ false ∷ []
kind_of (tests name) = false ∷ false ∷ true ∷ true ∷ false ∷ []
kind_of (sends word name) = false ∷ false ∷ true ∷ false ∷ true ∷ []

kind_told : (v : OptionValues) (form : Form) → IsForm v form → kind_in v ≡ kind_of form
kind_told v (plays name) h = ap kind_in h
kind_told v (loads n) h = ap kind_in h.option
kind_told v (serves name) h = ap kind_in h
kind_told v (tests name) h = ap kind_in h
kind_told v (sends word name) h = ap kind_in h

one_kind : (v : OptionValues) (form other : Form) → IsForm v form → IsForm v other → kind_of form ≡ kind_of other
one_kind v form other h k = sym (kind_told v form h) ∙ kind_told v other k

-- ## One form

one_file : (v : OptionValues) (a b : OptionValues) → v ≡ a → v ≡ b → a.file ≡ b.file
one_file v a b h k = ap (λ (o : OptionValues). o.file) (sym h ∙ k)

one_load : (v : OptionValues) (n m : ℕ) → IsLoad v n → IsLoad v m → n ≡ m
one_load v n m h k =
    let loads = ap (λ (o : OptionValues). o.load) (sym h.option ∙ k.option) in
    cc (loads, h.number.number, k.number.number)

pub one-form : (v : OptionValues) (form other : Form) → IsForm v form → IsForm v other → form ≡ other
one-form v (plays name) (plays other) h k =
    let scripts = ap (λ (o : OptionValues). o.script) (sym h ∙ k) in
    ap plays (cc)
one-form v (plays name) other h k =
    let kinds = one_kind v (plays name) other h k in
    absurd (cc)
one-form v (loads n) (loads m) h k = ap loads (one_load v n m h k)
one-form v (loads n) other h k =
    let kinds = one_kind v (loads n) other h k in
    absurd (cc)
one-form v (serves name) (serves other) h k =
    let files = one_file v _ _ h k in
    ap serves (cc)
one-form v (serves name) other h k =
    let kinds = one_kind v (serves name) other h k in
    absurd (cc)
one-form v (tests name) (tests other) h k =
    let files = one_file v _ _ h k in
    ap tests (cc)
one-form v (tests name) other h k =
    let kinds = one_kind v (tests name) other h k in
    absurd (cc)
one-form v (sends word name) (sends also other) h k =
    let files = one_file v _ _ h k in
    let texts = ap (λ (o : OptionValues). o.word) (sym h ∙ k) in
    let words : word ≡ also = one_command word also (cc) in
    ap (λ (w : CommandWord). sends w name) words ∙ ap (sends also) (cc)
one-form v (sends word name) other h k =
    let kinds = one_kind v (sends word name) other h k in
    absurd (cc)
