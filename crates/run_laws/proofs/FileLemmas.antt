-- What the files of a store, and texts, say of a call: each has one reading.
use Rattle.std.proofs.Common.{◌≡◌, inl, inr, ℕ, ◌+◌, ◌<◌, ◌++◌, List, length, length-append, Option, None, Some, IfSome, IsSomeAnd, Result, Err, refl, sym, ap, subst, ◌∙◌, arith}
use Rattle.mpm_base.specs.Sink.{SinkSeen}
use Rattle.mpm_base.specs.Store.{StoreTold, bytes_of}
use Rattle.mpm_base.specs.declared.script_line.ScriptLine.{ScriptLine}
use Rattle.mpm_config.specs.Config.{Configuration}
use Rattle.mpm_config.specs.Reading.{ConfigAndWarnings}
use Rattle.mpm_config.specs.declared.fault.ConfFault.{ConfFault}
use Rattle.mpm_config.specs.declared.fault.ConfFault.TheVariants as conf
use Rattle.mpm_script.specs.Script.{IsSureAnswer, ScriptIs}
use Rattle.mpm_script.specs.declared.script.ScriptFault.{ScriptFault}
use Rattle.run_opening.specs.Calls.{Call, HadConfigAccepted, HasConfigAccepted, IsFileUnread, IsRefusedAsLarge, StoreFailed}
use Rattle.run_opening.specs.Configured.{Configures, IsNoConfig, config_fault, with_notices}
use Rattle.run_report.specs.Written.{LeavesUnwritten}
use Rattle.run_report.specs.declared.texts.ConfigRefusal.{ConfigRefusal}
use Rattle.run_report.specs.declared.texts.ConfigRefusal.TheVariants.{BadSection, BadValue, NotText, TooDeep, Unclosed, UnknownDirective}
use Rattle.run_report.specs.declared.texts.ScriptRefusal.{ScriptRefusal}
use Rattle.run_report.specs.declared.texts.ScriptRefusal.TheVariants.{BadLine, MomentBackwards, UnknownName}
use Rattle.script_run.specs.ScriptRefusals.{fault_at}
use Rattle.run_laws.specs.Exact.{HasWritten}
use Rattle.run_laws.specs.Grounds.{TellsFile}
use Rattle.run_laws.proofs.WayLemmas.{holds-of}

-- ## Files

-- a file of a store that tells its files has the bytes that it was read with
pub same-bytes : (call : Call) (name bytes other : List ℕ) (t : StoreTold) → call.store.told ≡ Some t → bytes_of name t.files ≡ Some bytes
    → IfSome call.store.told (λ t. bytes_of name t.files ≡ Some other) → other ≡ bytes
same-bytes call name bytes other t told found file = let there = holds-of _ call.store.told t told file in cc (there, found)

-- one that is missing has none
pub missing-file : (call : Call) (name other : List ℕ) (t : StoreTold) → call.store.told ≡ Some t → bytes_of name t.files ≡ None
    → IfSome call.store.told (λ t. bytes_of name t.files ≡ Some other) → ⊥
missing-file call name other t told none file = let there = holds-of _ call.store.told t told file in cc (there, none)

-- one that is there couldn't be read as a call of the store failed
pub unread-fails : (call : Call) (name bytes : List ℕ) → TellsFile call name bytes → IsFileUnread call name → StoreFailed call
unread-fails call name bytes file unread =
    elim unread.cause [
      | inl missing ↦ let none = holds-of _ call.store.told file.t file.told missing.1.none in absurd (cc (none, file.found))
      | inr failed ↦ failed.1
    ]

-- one that is refused for its size is too large
pub large-file : (most : ℕ) (call : Call) (name bytes : List ℕ) → TellsFile call name bytes → IsRefusedAsLarge most call name → most < length bytes
large-file most call name bytes file refused =
    let large = holds-of _ call.store.told file.t file.told refused.large in
    let same : large.0 ≡ bytes = cc (large.1, file.found) in
    subst (λ (bs : List ℕ). most < length bs) same large.2

-- ## Configurations

-- the line or the place of a fault
abbrev number_in : ConfFault → ℕ
number_in (conf.NotText n) = n
number_in (conf.UnknownDirective n) = n
number_in (conf.BadValue n) = n
number_in (conf.BadSection n) = n
number_in (conf.Unclosed n) = n
number_in (conf.TooDeep n) = n
number_in conf.NoMemory = 0

number-of : (why : ConfigRefusal) (n : ℕ) → number_in (config_fault why n) ≡ n
number-of NotText n = refl
number-of UnknownDirective n = refl
number-of BadValue n = refl
number-of BadSection n = refl
number-of Unclosed n = refl
number-of TooDeep n = refl

-- a text is refused at one number
pub one-number : (text : List ℕ) (why why' : ConfigRefusal) (n n' : ℕ) → IsNoConfig text why n → IsNoConfig text why' n' → n' ≡ n
one-number text why why' n n' (inl long) (inl long') = long'.number_is ∙ sym long.number_is
one-number text why why' n n' (inl long) (inr refused) = absurd (omega (arith, long.many, refused.few))
one-number text why why' n n' (inr refused) (inl long) = absurd (omega (arith, long.many, refused.few))
one-number text why why' n n' (inr refused) (inr refused') =
    let same : config_fault why' n' ≡ config_fault why n = cc (refused.refused, refused'.refused) in
    sym (number-of why' n') ∙ ap number_in same ∙ number-of why n

-- and not where it is accepted
pub refused-accepted : (text : List ℕ) (why : ConfigRefusal) (n : ℕ) (c : Configuration) → IsNoConfig text why n → Configures text c → ⊥
refused-accepted text why n c (inl long) accepted = absurd (omega (arith, long.many, accepted.few))
refused-accepted text why n c (inr refused) accepted = cc (refused.refused, accepted.accepted)

-- it is accepted as one configuration
pub one-config : (text : List ℕ) (c c' : Configuration) → Configures text c → Configures text c' → c' ≡ c
one-config text c c' accepted accepted' =
    let same : with_notices c' ≡ with_notices c = cc (accepted.accepted, accepted'.accepted) in
    ap (λ (read : ConfigAndWarnings). read.config) same

-- a configuration that was accepted before the call was accepted
pub had-accepted : (call : Call) (name : List ℕ) (c : Configuration) → HasConfigAccepted call name c → HadConfigAccepted call name c
had-accepted call name c accepted = record { bytes = accepted.bytes; file = accepted.has.file; accepted = accepted.accepted }

-- it is that of the file
pub had-config : (call : Call) (name bytes : List ℕ) (c c' : Configuration) → TellsFile call name bytes → Configures bytes c
    → HadConfigAccepted call name c' → c' ≡ c
had-config call name bytes c c' file accepted had =
    let same = same-bytes call name bytes had.bytes file.t file.told file.found had.file in
    one-config bytes c c' accepted (subst (λ (bs : List ℕ). Configures bs c') same had.accepted)

-- ## Scripts

-- the law: bytes have one answer
abbrev pub OneAnswer : Type 0
OneAnswer =
    (bytes : List ℕ) (answer other : Result (List ScriptLine) ScriptFault) → ScriptIs bytes answer → ScriptIs bytes other → IsSureAnswer answer
    → IsSureAnswer other → answer ≡ other

pub sure-fault : (why : ScriptRefusal) (line : ℕ) → IsSureAnswer (Err (fault_at why line))
sure-fault BadLine line = tt
sure-fault MomentBackwards line = tt
sure-fault UnknownName line = tt

-- the line of a refusal
pub same-line : (why why' : ScriptRefusal) (line line' : ℕ) → fault_at why line ≡ fault_at why' line' → line ≡ line'
same-line BadLine BadLine line line' same = cc same
same-line BadLine MomentBackwards line line' same = absurd (cc same)
same-line BadLine UnknownName line line' same = absurd (cc same)
same-line MomentBackwards BadLine line line' same = absurd (cc same)
same-line MomentBackwards MomentBackwards line line' same = cc same
same-line MomentBackwards UnknownName line line' same = absurd (cc same)
same-line UnknownName BadLine line line' same = absurd (cc same)
same-line UnknownName MomentBackwards line line' same = absurd (cc same)
same-line UnknownName UnknownName line line' same = cc same

-- ## Texts

-- the output that tells the text lacks nothing of it
whole-lacks : (o q : Option (List ℕ)) (text : List ℕ) → IsSomeAnd o (λ written. q ≡ Some (written ++ text))
    → IfSome o (λ written. IsSomeAnd q (λ written'. length written' < length written + length text)) → ⊥
whole-lacks None q text tells lacks = tells
whole-lacks (Some w) q text tells lacks =
    let short : length (w ++ text) < length w + length text =
    subst (λ (x : Option (List ℕ)). IsSomeAnd x (λ written'. length written' < length w + length text)) tells lacks in
    absurd (omega (arith, short, length-append w text))

-- what was written was not left unwritten
pub written-whole : (sink sink' : SinkSeen) (text : List ℕ) → HasWritten sink sink' text → LeavesUnwritten sink sink' text → ⊥
written-whole sink sink' text (inl never) unwritten = never unwritten.failed
written-whole sink sink' text (inr tells) unwritten = whole-lacks sink.told sink'.told text tells unwritten.lacks
