-- What bytes are as a script has one answer.
use Rattle.std.proofs.Common.{◌≡◌, ℕ, suc, inl, inr, Bool, true, List, [], ◌∷◌, ◌++◌, length, Result, Ok, Err, refl, sym, ap, subst, ◌∙◌, arith}
use Rattle.std.proofs.lemmas.Bool.{false≢true}
use Rattle.std.proofs.lemmas.List.{append-nil}
use Rattle.mpm_script.specs.Script.{BeginsWithLine, AreLines, AllAgree, agrees, is_repeated, is_backwards, is_unknown, IsScript, IsRefusedAt, IsBadLine, BeginsFailing, ScriptIs, IsSureAnswer}
use Rattle.mpm_base.specs.declared.script_line.ScriptLine.{ScriptLine}
use Rattle.mpm_base.specs.declared.script_line.ScriptLine.TheVariants as line
use Rattle.mpm_script.specs.declared.script.ScriptFault.{ScriptFault}
use Rattle.mpm_script.specs.declared.script.ScriptFault.TheVariants as fault
use Rattle.mpm_script.proofs.AgreementLemmas.{agrees_at}
use Rattle.mpm_script.proofs.SequenceLemmas.{OneLine, line_once, line_some, two_sequences}

-- ## How far the bytes are good

-- no line that agrees comes next
abbrev pub NoNext : List ScriptLine → List ℕ → Type 0
NoNext lines rest = (line : ScriptLine) (behind : List ℕ) → BeginsWithLine rest line behind → ¬ (agrees lines line ≡ true)

-- the lines are good, and none that agrees comes next
pub record IsLongest (bytes : List ℕ) (lines : List ScriptLine) (rest : List ℕ) : Type 0 where
  pub are_lines : AreLines bytes lines rest
  pub agree : AllAgree [] lines
  pub no_next : NoNext lines rest

-- so another reading doesn't go on from there
no_more : (bytes : List ℕ) (lines : List ScriptLine) (rest : List ℕ) (others : List ScriptLine) (behind : List ℕ)
    → IsLongest bytes lines rest → AllAgree [] others → (more : List ScriptLine) → others ≡ lines ++ more → AreLines rest more behind
    → (lines ≡ others) × (rest ≡ behind)
no_more bytes lines rest others behind h agree [] whole are_lines = (sym (append-nil lines) ∙ sym whole, are_lines)
no_more bytes lines rest others behind h agree (line ∷ more) whole are_lines =
    absurd (h.no_next line are_lines.0 are_lines.1 (agrees_at [] lines line more (subst (AllAgree []) whole agree)))

-- there is one reading of which that holds
pub one_longest : OneLine → (bytes : List ℕ) (lines : List ScriptLine) (rest : List ℕ) (others : List ScriptLine) (behind : List ℕ)
    → IsLongest bytes lines rest → IsLongest bytes others behind → (lines ≡ others) × (rest ≡ behind)
one_longest one bytes lines rest others behind h k =
    elim (two_sequences one bytes lines rest others behind h.are_lines k.are_lines) [
      | inl w ↦ no_more bytes lines rest others behind h k.agree w.more w.whole w.are_lines
      | inr w ↦
          let same = no_more bytes others behind lines rest k h.agree w.more w.whole w.are_lines in
          (sym same.0, sym same.1)
    ]

-- a line that fails a test doesn't agree
repeated_disagrees : (before : List ScriptLine) (next : ScriptLine) → is_repeated before next ≡ true → ¬ (agrees before next ≡ true)
repeated_disagrees before next h k = false≢true (rw h at k)

backwards_disagrees : (before : List ScriptLine) (next : ScriptLine) → is_backwards before next ≡ true → ¬ (agrees before next ≡ true)
backwards_disagrees before (line.At m) h k = false≢true (rw h at k)
backwards_disagrees before (line.Conn name) h k = false≢true h
backwards_disagrees before (line.Client name act) h k = false≢true h
backwards_disagrees before (line.Command word) h k = false≢true h
backwards_disagrees before (line.Site site) h k = false≢true h

unknown_disagrees : (before : List ScriptLine) (next : ScriptLine) → is_unknown before next ≡ true → ¬ (agrees before next ≡ true)
unknown_disagrees before (line.At m) h k = false≢true h
unknown_disagrees before (line.Conn name) h k = false≢true h
unknown_disagrees before (line.Client name act) h k = false≢true (rw h at k)
unknown_disagrees before (line.Command word) h k = false≢true h
unknown_disagrees before (line.Site site) h k = false≢true h

no_line_at_end : (lines : List ScriptLine) → NoNext lines []
no_line_at_end lines line behind h agree = absurd (omega (arith, line_some [] line behind h))

no_next_bad : (lines : List ScriptLine) (rest : List ℕ) → IsBadLine lines rest → NoNext lines rest
no_next_bad lines rest bad line behind h agree = repeated_disagrees lines line (bad.no_line line behind h) agree

no_next_failing : OneLine → (fails : List ScriptLine → ScriptLine → Bool)
    → ((before : List ScriptLine) (next : ScriptLine) → fails before next ≡ true → ¬ (agrees before next ≡ true))
    → (lines : List ScriptLine) (rest : List ℕ) → BeginsFailing fails lines rest → NoNext lines rest
no_next_failing one fails disagrees lines rest failing line behind h agree =
    let same = (line_once one rest failing.line failing.behind line behind failing.begins h).0 in
    disagrees lines line (subst (λ l. fails lines l ≡ true) same failing.failing) agree

-- ## What an answer says of the longest good reading

abbrev pub Says : Result (List ScriptLine) ScriptFault → List ScriptLine → List ℕ → Type 0
Says (Ok script) lines rest = (script ≡ lines) × (rest ≡ [])
Says (Err (fault.BadLine n)) lines rest = (n ≡ suc (length lines)) × IsBadLine lines rest
Says (Err (fault.MomentBackwards n)) lines rest = (n ≡ suc (length lines)) × BeginsFailing is_backwards lines rest
Says (Err (fault.UnknownName n)) lines rest = (n ≡ suc (length lines)) × BeginsFailing is_unknown lines rest
Says (Err fault.NoMemory) lines rest = ⊥

pub record Reading (bytes : List ℕ) (answer : Result (List ScriptLine) ScriptFault) : Type 0 where
  pub lines : List ScriptLine
  pub rest : List ℕ
  pub longest : IsLongest bytes lines rest
  pub says : Says answer lines rest

whole_reading : (bytes : List ℕ) (lines : List ScriptLine) → IsScript bytes lines → IsLongest bytes lines []
whole_reading bytes lines h = record { are_lines = h.are_lines; agree = h.agree; no_next = no_line_at_end lines }

refused_reading : (bytes : List ℕ) (n : ℕ) (For : List ScriptLine → List ℕ → Type 0) (h : IsRefusedAt bytes n For)
    → NoNext h.lines h.rest → IsLongest bytes h.lines h.rest
refused_reading bytes n For h none = record { are_lines = h.are_lines; agree = h.agree; no_next = none }

reading : OneLine → (bytes : List ℕ) (answer : Result (List ScriptLine) ScriptFault) → ScriptIs bytes answer → IsSureAnswer answer
    → Reading bytes answer
reading one bytes (Ok script) h i =
    record { lines = script; rest = []; longest = whole_reading bytes script h; says = (refl, refl) }
reading one bytes (Err (fault.BadLine n)) h i =
    let none = no_next_bad h.lines h.rest h.refused_for in
    record { lines = h.lines; rest = h.rest; longest = refused_reading bytes n IsBadLine h none; says = (h.number_is, h.refused_for) }
reading one bytes (Err (fault.MomentBackwards n)) h i =
    let none = no_next_failing one is_backwards backwards_disagrees h.lines h.rest h.refused_for in
    record { lines = h.lines; rest = h.rest; longest = refused_reading bytes n (BeginsFailing is_backwards) h none; says = (h.number_is, h.refused_for) }
reading one bytes (Err (fault.UnknownName n)) h i =
    let none = no_next_failing one is_unknown unknown_disagrees h.lines h.rest h.refused_for in
    record { lines = h.lines; rest = h.rest; longest = refused_reading bytes n (BeginsFailing is_unknown) h none; says = (h.number_is, h.refused_for) }
reading one bytes (Err fault.NoMemory) h i = absurd i

-- ## One answer

-- no line fails two tests
repeated_or_backwards : (before : List ScriptLine) (next : ScriptLine) → is_repeated before next ≡ true → ¬ (is_backwards before next ≡ true)
repeated_or_backwards before (line.At m) h k = false≢true h
repeated_or_backwards before (line.Conn name) h k = false≢true k
repeated_or_backwards before (line.Client name act) h k = false≢true h
repeated_or_backwards before (line.Command word) h k = false≢true h
repeated_or_backwards before (line.Site site) h k = false≢true h

repeated_or_unknown : (before : List ScriptLine) (next : ScriptLine) → is_repeated before next ≡ true → ¬ (is_unknown before next ≡ true)
repeated_or_unknown before (line.At m) h k = false≢true h
repeated_or_unknown before (line.Conn name) h k = false≢true k
repeated_or_unknown before (line.Client name act) h k = false≢true h
repeated_or_unknown before (line.Command word) h k = false≢true h
repeated_or_unknown before (line.Site site) h k = false≢true h

backwards_or_unknown : (before : List ScriptLine) (next : ScriptLine) → is_backwards before next ≡ true → ¬ (is_unknown before next ≡ true)
backwards_or_unknown before (line.At m) h k = false≢true k
backwards_or_unknown before (line.Conn name) h k = false≢true h
backwards_or_unknown before (line.Client name act) h k = false≢true h
backwards_or_unknown before (line.Command word) h k = false≢true h
backwards_or_unknown before (line.Site site) h k = false≢true h

bad_or_backwards : (lines : List ScriptLine) (rest : List ℕ) → IsBadLine lines rest → ¬ BeginsFailing is_backwards lines rest
bad_or_backwards lines rest bad h = repeated_or_backwards lines h.line (bad.no_line h.line h.behind h.begins) h.failing

bad_or_unknown : (lines : List ScriptLine) (rest : List ℕ) → IsBadLine lines rest → ¬ BeginsFailing is_unknown lines rest
bad_or_unknown lines rest bad h = repeated_or_unknown lines h.line (bad.no_line h.line h.behind h.begins) h.failing

failing_twice : OneLine → (lines : List ScriptLine) (rest : List ℕ) → BeginsFailing is_backwards lines rest
    → ¬ BeginsFailing is_unknown lines rest
failing_twice one lines rest h k =
    let same = (line_once one rest h.line h.behind k.line k.behind h.begins k.begins).0 in
    backwards_or_unknown lines k.line (subst (λ l. is_backwards lines l ≡ true) same h.failing) k.failing

-- nothing is refused behind the last line
bad_some : (lines : List ScriptLine) (rest : List ℕ) → rest ≡ [] → ¬ IsBadLine lines rest
bad_some lines rest none h = absurd (omega (arith, h.some, ap length none))

failing_some : (fails : List ScriptLine → ScriptLine → Bool) (lines : List ScriptLine) (rest : List ℕ) → rest ≡ []
    → ¬ BeginsFailing fails lines rest
failing_some fails lines rest none h = absurd (omega (arith, line_some rest h.line h.behind h.begins, ap length none))

same_says : OneLine → (lines : List ScriptLine) (rest : List ℕ) (answer other : Result (List ScriptLine) ScriptFault)
    → Says answer lines rest → Says other lines rest → answer ≡ other
same_says one lines rest (Err fault.NoMemory) other h k = absurd h
same_says one lines rest answer (Err fault.NoMemory) h k = absurd k
same_says one lines rest (Ok script) (Ok other) h k = ap (λ s. Ok s) (h.0 ∙ sym k.0)
same_says one lines rest (Ok script) (Err (fault.BadLine n)) h k = absurd (bad_some lines rest h.1 k.1)
same_says one lines rest (Ok script) (Err (fault.MomentBackwards n)) h k = absurd (failing_some is_backwards lines rest h.1 k.1)
same_says one lines rest (Ok script) (Err (fault.UnknownName n)) h k = absurd (failing_some is_unknown lines rest h.1 k.1)
same_says one lines rest (Err (fault.BadLine n)) (Ok script) h k = absurd (bad_some lines rest k.1 h.1)
same_says one lines rest (Err (fault.BadLine n)) (Err (fault.BadLine m)) h k = ap (λ n. Err (fault.BadLine n)) (h.0 ∙ sym k.0)
same_says one lines rest (Err (fault.BadLine n)) (Err (fault.MomentBackwards m)) h k = absurd (bad_or_backwards lines rest h.1 k.1)
same_says one lines rest (Err (fault.BadLine n)) (Err (fault.UnknownName m)) h k = absurd (bad_or_unknown lines rest h.1 k.1)
same_says one lines rest (Err (fault.MomentBackwards n)) (Ok script) h k = absurd (failing_some is_backwards lines rest k.1 h.1)
same_says one lines rest (Err (fault.MomentBackwards n)) (Err (fault.BadLine m)) h k = absurd (bad_or_backwards lines rest k.1 h.1)
same_says one lines rest (Err (fault.MomentBackwards n)) (Err (fault.MomentBackwards m)) h k = ap (λ n. Err (fault.MomentBackwards n)) (h.0 ∙ sym k.0)
same_says one lines rest (Err (fault.MomentBackwards n)) (Err (fault.UnknownName m)) h k = absurd (failing_twice one lines rest h.1 k.1)
same_says one lines rest (Err (fault.UnknownName n)) (Ok script) h k = absurd (failing_some is_unknown lines rest k.1 h.1)
same_says one lines rest (Err (fault.UnknownName n)) (Err (fault.BadLine m)) h k = absurd (bad_or_unknown lines rest k.1 h.1)
same_says one lines rest (Err (fault.UnknownName n)) (Err (fault.MomentBackwards m)) h k = absurd (failing_twice one lines rest k.1 h.1)
same_says one lines rest (Err (fault.UnknownName n)) (Err (fault.UnknownName m)) h k = ap (λ n. Err (fault.UnknownName n)) (h.0 ∙ sym k.0)

pub one_answer : OneLine → (bytes : List ℕ) (answer other : Result (List ScriptLine) ScriptFault)
    → ScriptIs bytes answer → ScriptIs bytes other → IsSureAnswer answer → IsSureAnswer other → answer ≡ other
one_answer one bytes answer other h k i j =
    let first = reading one bytes answer h i in
    let second = reading one bytes other k j in
    let same = one_longest one bytes first.lines first.rest second.lines second.rest first.longest second.longest in
    let says = subst (λ lines. Says other lines first.rest) (sym same.0) (subst (λ rest. Says other second.lines rest) (sym same.1) second.says) in
    same_says one first.lines first.rest answer other first.says says
