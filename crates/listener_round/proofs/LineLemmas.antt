-- What the command lines that were read ask for, and one more behind them.
use Rattle.std.proofs.Common.{◌≡◌, ◌≢◌, ◌<◌, ◌≤◌, ◌+◌, ◌-◌, ℕ, zero, suc, Bool, true, false, ◌||◌, cond, List, [], ◌∷◌, ◌++◌, drop, slice_get, take, Option, None, Some, option_map, IfSome, refl, sym, ap, subst, ◌∙◌, append-nil, append_assoc, arith}
use Rattle.std.proofs.lemmas.Bool.{false_from_ne_true}
use Rattle.std.proofs.lemmas.List.Folds.{list_any-append}
use Rattle.std.proofs.lemmas.Slice.Eq.{bytes_eq-Decides}
use Rattle.std.specs.List.{list_any}
use Rattle.std.specs.Str.{bytes_eq}
use Rattle.mpm_base.specs.CommandWord.{command_word}
use Rattle.mpm_base.specs.Count.{greatest_count, next_count}
use Rattle.mpm_base.specs.Front.{FrontTold, GivesLine, TellsOn, after_command, hushed_front}
use Rattle.mpm_base.specs.declared.script_line.CommandWord.{CommandWord}
use Rattle.mpm_base.specs.declared.script_line.CommandWord.TheVariants as word
use Rattle.listener_round.specs.Commands.{asked_by, asked_in, asks_to_end}
use Rattle.listener_round.specs.Pace.{lines_between}
use Rattle.listener_round.specs.ShareInside.{HushesFor, ReadsFor}
use Rattle.listener_round.proofs.CommandLemmas.{take-next}
use Rattle.listener_round.proofs.ShareLemmas.{between-none}

-- ## Lines

or-swap : (f e r : Bool) → (r || (f || e)) ≡ ((f || r) || e)
or-swap true e true = refl
or-swap true e false = refl
or-swap false e true = refl
or-swap false e false = refl

-- one line more asks for what it asks for behind the others
asked-both : (ending : Bool) (lines : List (List ℕ)) (line : List ℕ)
    → asked_by ending (lines ++ line ∷ []) ≡ asked_by ending lines ++ asked_in (list_any asks_to_end lines || ending) line
asked-both ending [] line = append-nil (asked_in ending line)
asked-both ending (first ∷ lines) line =
    let further = asks_to_end first || ending in
    ap (λ (xs : List CommandWord). asked_in ending first ++ xs) (asked-both further lines line)
    ∙ sym (append_assoc (asked_in ending first) (asked_by further lines) (asked_in (list_any asks_to_end lines || further) line))
    ∙ ap (λ (b : Bool). asked_by ending (first ∷ lines) ++ asked_in b line) (or-swap (asks_to_end first) ending (list_any asks_to_end lines))

-- the lines up to one more
between-more : (lines : List (List ℕ)) (from to : ℕ) (line : List ℕ) → from ≤ to → slice_get lines to ≡ Some line
    → lines_between lines from (to + 1) ≡ lines_between lines from to ++ line ∷ []
between-more lines zero to line order at =
    let none : to - 0 ≡ to = omega arith in
    let one : to + 1 - 0 ≡ suc to = omega arith in
    ap (λ (n : ℕ). take n lines) one ∙ take-next lines to line at ∙ ap (λ (n : ℕ). take n lines ++ line ∷ []) (sym none)
between-more [] (suc from) to line order at = absurd (cc at)
between-more (x ∷ lines) (suc from) zero line order at = absurd (omega (arith, order))
between-more (x ∷ lines) (suc from) (suc to) line order at =
    let one : suc to + 1 - suc from ≡ to + 1 - from = omega arith in
    let same : suc to - suc from ≡ to - from = omega arith in
    ap (λ (n : ℕ). take n (drop from lines)) one ∙ between-more lines from to line (omega (arith, order)) at
    ∙ ap (λ (n : ℕ). take n (drop from lines) ++ line ∷ []) (sym same)

-- ## A front of which lines are read

-- lines were read, which ask for this, and listening was stopped where one asks for that
pub record HasReadSo (words : List CommandWord) (t t' : FrontTold) : Type 0 where
  pub reads : ReadsFor words t t'
  pub hushes : HushesFor t t'
  pub read : t'.read < greatest_count → t.read ≤ t'.read
  pub lines : t'.lines ≡ t.lines

pub read-none : (t : FrontTold) → HasReadSo [] t t
read-none t = record {
  reads = record { reads = λ few. omega arith; asks = λ few. sym (ap (asked_by t.hushed) (between-none t.lines t.read)) };
  hushes = λ few. sym (ap (λ (lines : List (List ℕ)). list_any asks_to_end lines || t.hushed) (between-none t.lines t.read));
  read = λ few. omega arith;
  lines = refl;
}

-- the same of a front that may tell
abbrev pub HasRead : List CommandWord → Option FrontTold → Option FrontTold → Type 0
HasRead words told told' = TellsOn (HasReadSo words) told told'

pub reads-none : (told : Option FrontTold) → HasRead [] told told
reads-none None = refl
reads-none (Some t) = (t, refl, read-none t)

-- one line more was read, and then listening was stopped where it asks for that
record IsReadOn (line : List ℕ) (t t' : FrontTold) : Type 0 where
  pub gives : slice_get t.lines t.read ≡ Some line
  pub read : t'.read ≡ next_count t.read
  pub lines : t'.lines ≡ t.lines
  pub hushed : t'.hushed ≡ (asks_to_end line || t.hushed)

or-last : (f e r : Bool) → (f || (r || e)) ≡ ((r || (f || false)) || e)
or-last true e true = refl
or-last true e false = refl
or-last false e true = refl
or-last false e false = refl

between-read : (line : List ℕ) (t t' t'' : FrontTold) → t.read ≤ t'.read → IsReadOn line t' t'' → t''.read < greatest_count
    → lines_between t''.lines t.read t''.read ≡ lines_between t'.lines t.read t'.read ++ line ∷ []
between-read line t t' t'' order on few =
    let one : t''.read ≡ t'.read + 1 = omega (arith, few, on.read) in
    ap (λ (lines : List (List ℕ)). lines_between lines t.read t''.read) on.lines
    ∙ ap (λ (n : ℕ). lines_between t'.lines t.read n) one
    ∙ between-more t'.lines t.read t'.read line order on.gives

read-more : (words : List CommandWord) (line : List ℕ) (t t' t'' : FrontTold) → HasReadSo words t t' → IsReadOn line t' t''
    → HasReadSo (words ++ asked_in t'.hushed line) t t''
read-more words line t t' t'' so on = record {
  reads =
      record {
        reads = λ few. omega (arith, few, so.read (omega (arith, few, on.read)), on.read);
        asks =
            λ few.
            let fewer : t'.read < greatest_count = omega (arith, few, on.read) in
            ap (λ (xs : List CommandWord). xs ++ asked_in t'.hushed line) (so.reads.asks fewer)
            ∙ ap (λ (b : Bool). asked_by t.hushed (lines_between t'.lines t.read t'.read) ++ asked_in b line) (so.hushes fewer)
            ∙ sym (asked-both t.hushed (lines_between t'.lines t.read t'.read) line)
            ∙ ap (asked_by t.hushed) (sym (between-read line t t' t'' (so.read fewer) on few));
      };
  hushes =
      λ few.
      let fewer : t'.read < greatest_count = omega (arith, few, on.read) in
      on.hushed ∙ ap (λ (b : Bool). asks_to_end line || b) (so.hushes fewer)
      ∙ or-last (asks_to_end line) t.hushed (list_any asks_to_end (lines_between t'.lines t.read t'.read))
      ∙ ap (λ (b : Bool). b || t.hushed) (sym (list_any-append asks_to_end (lines_between t'.lines t.read t'.read) (line ∷ [])))
      ∙ ap (λ (lines : List (List ℕ)). list_any asks_to_end lines || t.hushed) (sym (between-read line t t' t'' (so.read fewer) on few));
  read = λ few. omega (arith, few, so.read (omega (arith, few, on.read)), on.read);
  lines = on.lines ∙ so.lines;
}

-- whether a front that tells listens no more
abbrev pub is_off : Option FrontTold → Bool
is_off None = false
is_off (Some t) = t.hushed

-- one line more, behind which listening wasn't stopped
pub reads-line : (words : List CommandWord) (line : List ℕ) (told mid new : Option FrontTold) → HasRead words told mid
    → new ≡ option_map (after_command true) mid → IfSome mid (GivesLine (Some line)) → asks_to_end line ≡ false
    → HasRead (words ++ asked_in (is_off mid) line) told new
reads-line words line None mid new so is gives ends = is ∙ ap (option_map (after_command true)) so
reads-line words line (Some t) mid new so is gives ends =
    let here : mid ≡ Some so.0 = so.1 in
    let last = after_command true so.0 in
    let there : new ≡ Some last = is ∙ ap (option_map (after_command true)) here in
    let given : GivesLine (Some line) so.0 = subst (λ (o : Option FrontTold). IfSome o (GivesLine (Some line))) here gives in (
      last,
      there,
      subst (λ (b : Bool). HasReadSo (words ++ asked_in b line) t last) (sym (ap is_off here))
          (read-more words line t so.0 last so.2
          (record { gives = given; read = refl; lines = refl; hushed = ap (λ (b : Bool). b || so.0.hushed) (sym ends) })),
    )

-- one that asks for a graceful stop, behind which listening was stopped
pub reads-ending : (words : List CommandWord) (line : List ℕ) (told mid next new : Option FrontTold) → HasRead words told mid
    → next ≡ option_map (after_command true) mid → IfSome mid (GivesLine (Some line)) → asks_to_end line ≡ true
    → new ≡ option_map hushed_front next → HasRead (words ++ asked_in (is_off mid) line) told new
reads-ending words line None mid next new so is gives ends hush =
    hush ∙ ap (option_map hushed_front) (is ∙ ap (option_map (after_command true)) so)
reads-ending words line (Some t) mid next new so is gives ends hush =
    let here : mid ≡ Some so.0 = so.1 in
    let last = hushed_front (after_command true so.0) in
    let there : new ≡ Some last = hush ∙ ap (option_map hushed_front) (is ∙ ap (option_map (after_command true)) here) in
    let given : GivesLine (Some line) so.0 = subst (λ (o : Option FrontTold). IfSome o (GivesLine (Some line))) here gives in (
      last,
      there,
      subst (λ (b : Bool). HasReadSo (words ++ asked_in b line) t last) (sym (ap is_off here))
          (read-more words line t so.0 last so.2
          (record { gives = given; read = refl; lines = refl; hushed = ap (λ (b : Bool). b || so.0.hushed) (sym ends) })),
    )

-- one that asks for it again, as listening was stopped already
pub reads-ended : (words : List CommandWord) (line : List ℕ) (told mid new : Option FrontTold) → HasRead words told mid
    → new ≡ option_map (after_command true) mid → IfSome mid (GivesLine (Some line)) → asks_to_end line ≡ true → IfSome mid (λ t. t.hushed ≡ true)
    → HasRead (words ++ asked_in (is_off mid) line) told new
reads-ended words line None mid new so is gives ends off = is ∙ ap (option_map (after_command true)) so
reads-ended words line (Some t) mid new so is gives ends off =
    let here : mid ≡ Some so.0 = so.1 in
    let last = after_command true so.0 in
    let there : new ≡ Some last = is ∙ ap (option_map (after_command true)) here in
    let given : GivesLine (Some line) so.0 = subst (λ (o : Option FrontTold). IfSome o (GivesLine (Some line))) here gives in
    let stopped : so.0.hushed ≡ true = subst (λ (o : Option FrontTold). IfSome o (λ x. x.hushed ≡ true)) here off in (
      last,
      there,
      subst (λ (b : Bool). HasReadSo (words ++ asked_in b line) t last) (sym (ap is_off here))
          (read-more words line t so.0 last so.2
          (record { gives = given; read = refl; lines = refl; hushed = stopped ∙ ap (λ (b : Bool). b || so.0.hushed) (sym ends) })),
    )

-- ## What a line asks for

pub asks-graceful : (ending : Bool) → asked_in ending (command_word word.Graceful) ≡ word.Graceful ∷ []
asks-graceful ending = refl

pub asks-stop : (ending : Bool) → asked_in ending (command_word word.Stop) ≡ word.Stop ∷ []
asks-stop ending = refl

pub asks-ending : (ending : Bool) → asked_in ending (command_word word.GracefulStop) ≡ cond ending [] (word.GracefulStop ∷ [])
asks-ending true = refl
asks-ending false = refl

pub other-word : (line other : List ℕ) → line ≢ other → bytes_eq line other ≡ false
other-word line other differs = false_from_ne_true (bytes_eq line other) (λ same. differs ((bytes_eq-Decides line other).0 same))

-- a line that asks for nothing that the table has an event for
pub record IsIdle (line : List ℕ) : Type 0 where
  pub graceful : line ≢ command_word word.Graceful
  pub stop : line ≢ command_word word.Stop
  pub ending : line ≢ command_word word.GracefulStop

-- one that is no word is such a line
pub idle-unknown : (line : List ℕ) → ((w : CommandWord) → line ≢ command_word w) → IsIdle line
idle-unknown line unknown = record {
  graceful = unknown word.Graceful;
  stop = unknown word.Stop;
  ending = unknown word.GracefulStop;
}

pub words-differ : (w v : CommandWord) (line : List ℕ) → bytes_eq (command_word w) (command_word v) ≡ false → line ≡ command_word w → line ≢ command_word v
words-differ w v line differs is other =
    let same : bytes_eq (command_word w) (command_word v) ≡ bytes_eq (command_word v) (command_word v) =
    ap (λ (l : List ℕ). bytes_eq l (command_word v)) (sym is ∙ other) in
    let equal : bytes_eq (command_word v) (command_word v) ≡ true = (bytes_eq-Decides (command_word v) (command_word v)).1 refl in
    let both : false ≡ true = sym differs ∙ same ∙ equal in
    absurd (cc both)

-- and so is one that asks for the state
pub idle-status : (line : List ℕ) → line ≡ command_word word.Status → IsIdle line
idle-status line is = record {
  graceful = words-differ word.Status word.Graceful line refl is;
  stop = words-differ word.Status word.Stop line refl is;
  ending = words-differ word.Status word.GracefulStop line refl is;
}

-- it asks for nothing
pub asks-nothing : (ending : Bool) (line : List ℕ) → IsIdle line → asked_in ending line ≡ []
asks-nothing ending line idle =
    let graceful = other-word line (command_word word.Graceful) idle.graceful in
    let stop = other-word line (command_word word.Stop) idle.stop in
    let ends = other-word line (command_word word.GracefulStop) idle.ending in
    rw (graceful, stop, ends) refl

pub ends-not : (line : List ℕ) → IsIdle line → asks_to_end line ≡ false
ends-not line idle = other-word line (command_word word.GracefulStop) idle.ending
