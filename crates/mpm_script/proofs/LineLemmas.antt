-- Lines of a script: a text is one of them at most.
use Rattle.std.proofs.Common.{◌≡◌, ℕ, Bool, true, false, cond, length, arith, List, [], ◌∷◌, ◌++◌, ◌==◌, get_or, refl, sym, ap, subst, ◌∙◌, Option, None, Some, MatchOption}
use Rattle.std.specs.Prelude.{codes}
use Rattle.mpm_base.specs.CommandWord.{command_word}
use Rattle.mpm_base.specs.Digits.{number_in_digits}
use Rattle.std.proofs.lemmas.Bool.{false≢true}
use Rattle.std.proofs.lemmas.List.{append_cancel_left}
use Rattle.mpm_script.specs.Escapes.{Spells}
use Rattle.mpm_script.specs.ScriptLine.{is_name_byte, is_file_byte, IsNumber, act_word, IsBehindName, IsSiteLine, IsLine}
use Rattle.mpm_script.specs.LineWordsInside.{EndsRun, IsNamed, IsFiled, IsSpelledBehind}
use Rattle.mpm_base.specs.declared.script_line.LinkCall.{LinkCall}
use Rattle.mpm_base.specs.declared.script_line.LinkCall.TheVariants as call
use Rattle.mpm_base.specs.declared.script_line.CommandWord.{CommandWord}
use Rattle.mpm_base.specs.declared.script_line.CommandWord.TheVariants as word
use Rattle.mpm_base.specs.declared.script_line.ClientAct.{ClientAct}
use Rattle.mpm_base.specs.declared.script_line.ClientAct.TheVariants as act
use Rattle.mpm_base.specs.declared.script_line.SiteLine.{SiteLine}
use Rattle.mpm_base.specs.declared.script_line.SiteLine.TheVariants as site
use Rattle.mpm_base.specs.declared.script_line.ScriptLine.{ScriptLine}
use Rattle.mpm_base.specs.declared.script_line.ScriptLine.TheVariants as line
use Rattle.mpm_script.proofs.EscapeLemmas.{one_byte, byte_is_some}
use Rattle.mpm_script.proofs.CutLemmas.{one_cut}

-- ---- texts that differ

-- the text has that byte at that place
abbrev has_byte : ℕ → ℕ → List ℕ → Bool
has_byte place b text = get_or text place 0 == b

apart : {text other : List ℕ} (test : List ℕ → Bool) → text ≡ other → test text ≡ true → test other ≡ false → ⊥
apart test e passes fails = false≢true (sym fails ∙ ap test (sym e) ∙ passes)

-- ---- texts that spell bytes, and numbers

-- a text spells bytes in one way
pub one_spelling : (text bytes other : List ℕ) → Spells text bytes → Spells text other → bytes ≡ other
one_spelling text [] [] h k = refl
one_spelling text [] (b ∷ other) h k = absurd (omega (arith, byte_is_some text b k.1 (k.0, k.2, k.3), ap length h))
one_spelling text (b ∷ bytes) [] h k = absurd (omega (arith, byte_is_some text b h.1 (h.0, h.2, h.3), ap length k))
one_spelling text (b ∷ bytes) (d ∷ other) h k =
    let same = one_byte text b d h.1 k.1 (h.0, h.2, h.3) (k.0, k.2, k.3) in
    let rests = one_spelling k.1 bytes other (subst (λ r. Spells r bytes) same.1 h.4) k.4 in
    let first = same.0 in
    cc

-- what a text spells behind a word, from what the rest spells
pub spelled_from : (word text rest : List ℕ) → text ≡ word ++ rest → (read : Option (List ℕ))
    → MatchOption read ((bytes : List ℕ) → ¬ (Spells rest bytes)) (Spells rest)
    → MatchOption read ((bytes : List ℕ) → ¬ (IsSpelledBehind word text bytes)) (IsSpelledBehind word text)
spelled_from word text rest e None none = λ bytes h.
    none bytes (subst (λ s. Spells s bytes) (append_cancel_left word h.0 rest (sym h.1 ∙ e)) h.2)
spelled_from word text rest e (Some bytes) spells = (rest, e, spells)

one_spelling_behind : (word text bytes other : List ℕ) → IsSpelledBehind word text bytes → IsSpelledBehind word text other → bytes ≡ other
one_spelling_behind word text bytes other h k =
    let same : k.0 ≡ h.0 = append_cancel_left word k.0 h.0 (sym k.1 ∙ h.1) in
    one_spelling h.0 bytes other h.2 (subst (λ s. Spells s other) same k.2)

-- the number behind a word
abbrev IsNumberBehind : List ℕ → List ℕ → ℕ → Type 0
IsNumberBehind word text n = (digits : List ℕ) × (text ≡ word ++ digits) × IsNumber digits n

one_number : (word text : List ℕ) (n m : ℕ) → IsNumberBehind word text n → IsNumberBehind word text m → n ≡ m
one_number word text n m h k =
    let same : h.0 ≡ k.0 = append_cancel_left word h.0 k.0 (sym h.1 ∙ k.1) in
    let value : Some n ≡ Some m = sym h.2 ∙ ap (λ ds. number_in_digits 15 ds) same ∙ k.2 in
    cc

-- no number is the word of all
all_no_digits : (digits : List ℕ) (n : ℕ) → codes " all" ≡ codes " " ++ digits → ¬ (IsNumber digits n)
all_no_digits digits n e number =
    let word : codes "all" ≡ digits = append_cancel_left (codes " ") (codes "all") digits e in
    let read : number_in_digits 15 (codes "all") ≡ Some n = ap (λ ds. number_in_digits 15 ds) word ∙ number in
    absurd (cc)

-- ---- what happens to a link

-- what stands behind a name goes on with no byte of a name
behind_stops : (act : ClientAct) (behind : List ℕ) → IsBehindName act behind → EndsRun is_name_byte behind
behind_stops (act.Send bytes) behind h = subst (EndsRun is_name_byte) (sym h.1) refl
behind_stops act.End behind h = subst (EndsRun is_name_byte) (sym h) tt
behind_stops act.Drop behind h = subst (EndsRun is_name_byte) (sym h) tt
behind_stops (act.Room None) behind h = subst (EndsRun is_name_byte) (sym h) refl
behind_stops (act.Room (Some n)) behind h = subst (EndsRun is_name_byte) (sym h.1) refl
behind_stops (act.Fail call.Read n) behind h = subst (EndsRun is_name_byte) (sym h.1) refl
behind_stops (act.Fail call.Write n) behind h = subst (EndsRun is_name_byte) (sym h.1) refl

-- such a line, by its word and name
pub client_named : (text name : List ℕ) (act : ClientAct) (h : IsLine text (line.Client name act)) → IsNamed (act_word act) text name h.0
client_named text name act h = record { whole = h.1; is_name = h.2; stops = behind_stops act h.0 h.3 }

-- two of one text have one name, and one text behind it
pub one_named : (word text name other behind also : List ℕ) → IsNamed word text name behind → IsNamed word text other also
    → (name ≡ other) × (behind ≡ also)
one_named word text name other behind also h k =
    one_cut is_name_byte name other behind also h.is_name.bytes k.is_name.bytes h.stops k.stops
    (append_cancel_left word (name ++ behind) (other ++ also) (sym h.whole ∙ k.whole))

-- where a text is cut behind a name, what stands there is what makes it such a line
pub behind_client : (text name other behind : List ℕ) (act : ClientAct) → IsNamed (act_word act) text name behind
    → IsLine text (line.Client other act) → IsBehindName act behind
behind_client text name other behind act h k =
    subst (IsBehindName act) (one_named (act_word act) text other name k.0 behind (client_named text other act k) h).1 k.3

one_word : (text rest behind : List ℕ) (act other : ClientAct) → text ≡ act_word act ++ rest → text ≡ act_word other ++ behind
    → act_word act ≡ act_word other
one_word text rest behind (act.Send bytes) (act.Send others) h k = refl
one_word text rest behind (act.Send bytes) other h k = absurd (apart (has_byte 0 115) (sym h ∙ k) refl refl)
one_word text rest behind act.End act.End h k = refl
one_word text rest behind act.End other h k = absurd (apart (has_byte 0 101) (sym h ∙ k) refl refl)
one_word text rest behind act.Drop act.Drop h k = refl
one_word text rest behind act.Drop other h k = absurd (apart (has_byte 0 100) (sym h ∙ k) refl refl)
one_word text rest behind (act.Room room) (act.Room also) h k = refl
one_word text rest behind (act.Room room) other h k = absurd (apart (has_byte 0 114) (sym h ∙ k) refl refl)
one_word text rest behind (act.Fail which n) (act.Fail also m) h k = refl
one_word text rest behind (act.Fail which n) other h k = absurd (apart (has_byte 0 102) (sym h ∙ k) refl refl)

one_room : (behind : List ℕ) (room also : Option ℕ) → IsBehindName (act.Room room) behind → IsBehindName (act.Room also) behind → room ≡ also
one_room behind None None h k = refl
one_room behind None (Some m) h k = absurd (all_no_digits k.0 m (sym h ∙ k.1) k.2)
one_room behind (Some n) None h k = absurd (all_no_digits h.0 n (sym k ∙ h.1) h.2)
one_room behind (Some n) (Some m) h k = ap (λ x. Some x) (one_number (codes " ") behind n m h k)

one_call : (behind : List ℕ) (which also : LinkCall) (n m : ℕ) → IsBehindName (act.Fail which n) behind → IsBehindName (act.Fail also m) behind
    → (which ≡ also) × (n ≡ m)
one_call behind call.Read call.Read n m h k = (refl, one_number (codes " read ") behind n m h k)
one_call behind call.Read call.Write n m h k = absurd (apart (has_byte 1 114) (sym h.1 ∙ k.1) refl refl)
one_call behind call.Write call.Read n m h k = absurd (apart (has_byte 1 119) (sym h.1 ∙ k.1) refl refl)
one_call behind call.Write call.Write n m h k = (refl, one_number (codes " write ") behind n m h k)

-- what stands behind a name is one act of that word
one_act : (behind : List ℕ) (act other : ClientAct) → act_word act ≡ act_word other → IsBehindName act behind → IsBehindName other behind
    → act ≡ other
one_act behind (act.Send bytes) (act.Send others) e h k = ap (λ x. act.Send x) (one_spelling_behind (codes " ") behind bytes others h k)
one_act behind (act.Send bytes) other e h k = absurd (apart (has_byte 0 115) e refl refl)
one_act behind act.End act.End e h k = refl
one_act behind act.End other e h k = absurd (apart (has_byte 0 101) e refl refl)
one_act behind act.Drop act.Drop e h k = refl
one_act behind act.Drop other e h k = absurd (apart (has_byte 0 100) e refl refl)
one_act behind (act.Room room) (act.Room also) e h k = ap (λ x. act.Room x) (one_room behind room also h k)
one_act behind (act.Room room) other e h k = absurd (apart (has_byte 0 114) e refl refl)
one_act behind (act.Fail which n) (act.Fail also m) e h k =
    let same = one_call behind which also n m h k in
    let calls : which ≡ also = same.0 in
    let numbers : n ≡ m = same.1 in
    cc
one_act behind (act.Fail which n) other e h k = absurd (apart (has_byte 0 102) e refl refl)

one_client : (text name other : List ℕ) (act also : ClientAct) → IsLine text (line.Client name act) → IsLine text (line.Client other also)
    → line.Client name act ≡ line.Client other also
one_client text name other act also h k =
    let words = one_word text (name ++ h.0) (other ++ k.0) act also h.1 k.1 in
    let at_word = subst (λ w. IsNamed w text other k.0) (sym words) (client_named text other also k) in
    let same = one_named (act_word act) text name other h.0 k.0 (client_named text name act h) at_word in
    let names : name ≡ other = same.0 in
    let acts : act ≡ also = one_act k.0 act also words (subst (IsBehindName act) same.1 h.3) k.3 in
    cc

-- ---- what happens to the site

-- the word of such a line, and what stands behind it
site_word : SiteLine → List ℕ
site_word (site.Conf bytes) = codes "conf "
site_word site.Clear = codes "clear"
site_word (site.File name bytes) = codes "file "
site_word (site.Unfile name) = codes "unfile "

site_begins : (text : List ℕ) (site : SiteLine) → IsSiteLine text site → (rest : List ℕ) × (text ≡ site_word site ++ rest)
unfolding site_word
site_begins text (site.Conf bytes) h = (h.0, h.1)
site_begins text site.Clear h = ([], h)
site_begins text (site.File name bytes) h = (name ++ 32 ∷ h.0, h.1)
site_begins text (site.Unfile name) h = (name, h.0)

-- the line of a file has one name, and one text behind it
pub one_filed : (text name other behind also : List ℕ) → IsFiled text name behind → IsFiled text other also → (name ≡ other) × (behind ≡ also)
one_filed text name other behind also h k =
    let parts = append_cancel_left (codes "file ") (name ++ 32 ∷ behind) (other ++ 32 ∷ also) (sym h.whole ∙ k.whole) in
    let same = one_cut is_file_byte name other (32 ∷ behind) (32 ∷ also) h.is_name.bytes k.is_name.bytes refl refl parts in
    let ends : 32 ∷ behind ≡ 32 ∷ also = same.1 in
    (same.0, cc)

-- where it is cut, what stands there spells the file's bytes
pub behind_filed : (text name other behind bytes : List ℕ) → IsFiled text name behind → IsSiteLine text (site.File other bytes) → Spells behind bytes
behind_filed text name other behind bytes h k =
    subst (λ s. Spells s bytes) (one_filed text other name k.0 behind (record { whole = k.1; is_name = k.2 }) h).1 k.3

one_file_line : (text name other bytes also : List ℕ) → IsSiteLine text (site.File name bytes) → IsSiteLine text (site.File other also)
    → site.File name bytes ≡ site.File other also
one_file_line text name other bytes also h k =
    let filed : IsFiled text other k.0 = record { whole = k.1; is_name = k.2 } in
    let same = one_filed text name other h.0 k.0 (record { whole = h.1; is_name = h.2 }) filed in
    let names : name ≡ other = same.0 in
    let all : bytes ≡ also = one_spelling k.0 bytes also (behind_filed text other name k.0 bytes filed h) k.3 in
    cc

one_site : (text : List ℕ) (site other : SiteLine) → IsSiteLine text site → IsSiteLine text other → site ≡ other
unfolding site_word
one_site text (site.Conf bytes) (site.Conf others) h k = ap (λ x. site.Conf x) (one_spelling_behind (codes "conf ") text bytes others h k)
one_site text (site.Conf bytes) other h k = absurd (apart (has_byte 3 102) (sym h.1 ∙ (site_begins text other k).1) refl refl)
one_site text site.Clear site.Clear h k = refl
one_site text site.Clear other h k = absurd (apart (has_byte 3 97) (sym h ∙ (site_begins text other k).1) refl refl)
one_site text (site.File name bytes) (site.File also others) h k = one_file_line text name also bytes others h k
one_site text (site.File name bytes) other h k = absurd (apart (has_byte 3 101) (sym h.1 ∙ (site_begins text other k).1) refl refl)
one_site text (site.Unfile name) (site.Unfile also) h k =
    ap (λ x. site.Unfile x) (append_cancel_left (codes "unfile ") name also (sym h.0 ∙ k.0))
one_site text (site.Unfile name) other h k = absurd (apart (has_byte 3 105) (sym h.0 ∙ (site_begins text other k).1) refl refl)

-- ---- lines

-- the kinds of lines, and how the first and the fourth byte of a text tell its kind: "at", "conn", "comm", "conf", "clea",
-- "fail", "file", "unfi", and the other words of a client
data Kind : Type 0 where
  Time : Kind
  Name : Kind
  Act : Kind
  Order : Kind
  Change : Kind

kind_of : ScriptLine → Kind
kind_of (line.At m) = Time
kind_of (line.Conn name) = Name
kind_of (line.Client name act) = Act
kind_of (line.Command word) = Order
kind_of (line.Site site) = Change

kind_of_bytes : ℕ → ℕ → Kind
kind_of_bytes first fourth =
    cond (first == 97) Time
    (cond (first == 99) (cond (fourth == 110) Name (cond (fourth == 109) Order Change))
    (cond (first == 102) (cond (fourth == 108) Act Change)
    (cond (first == 117) Change Act)))

kind_of_text : List ℕ → Kind
kind_of_text text = kind_of_bytes (get_or text 0 0) (get_or text 3 0)

kind_of_client : (act : ClientAct) (rest : List ℕ) → kind_of_text (act_word act ++ rest) ≡ Act
unfolding kind_of_text kind_of_bytes
kind_of_client (act.Send bytes) rest = refl
kind_of_client act.End rest = refl
kind_of_client act.Drop rest = refl
kind_of_client (act.Room room) rest = refl
kind_of_client (act.Fail which n) rest = refl

kind_of_site : (site : SiteLine) (rest : List ℕ) → kind_of_text (site_word site ++ rest) ≡ Change
unfolding kind_of_text kind_of_bytes site_word
kind_of_site (site.Conf bytes) rest = refl
kind_of_site site.Clear rest = refl
kind_of_site (site.File name bytes) rest = refl
kind_of_site (site.Unfile name) rest = refl

kind_told : (text : List ℕ) (line : ScriptLine) → IsLine text line → kind_of_text text ≡ kind_of line
unfolding kind_of_text kind_of_bytes kind_of
kind_told text (line.At m) h = ap kind_of_text h.1
kind_told text (line.Conn name) h = ap kind_of_text h.0
kind_told text (line.Client name act) h = ap kind_of_text h.1 ∙ kind_of_client act (name ++ h.0)
kind_told text (line.Command word) h = ap kind_of_text h
kind_told text (line.Site site) h = ap kind_of_text (site_begins text site h).1 ∙ kind_of_site site (site_begins text site h).0

one_kind : (text : List ℕ) (line other : ScriptLine) → IsLine text line → IsLine text other → kind_of line ≡ kind_of other
one_kind text line other h k = sym (kind_told text line h) ∙ kind_told text other k

one_command : (word other : CommandWord) → command_word word ≡ command_word other → word ≡ other
one_command word.Graceful word.Graceful e = refl
one_command word.Graceful other e = absurd (cc)
one_command word.GracefulStop word.GracefulStop e = refl
one_command word.GracefulStop other e = absurd (cc)
one_command word.Stop word.Stop e = refl
one_command word.Stop other e = absurd (cc)
one_command word.Status word.Status e = refl
one_command word.Status other e = absurd (cc)

pub one_line : (text : List ℕ) (line other : ScriptLine) → IsLine text line → IsLine text other → line ≡ other
unfolding kind_of
one_line text (line.At m) (line.At n) h k =
    ap (λ x. line.At x) (one_number (codes "at ") text m n (h.0, h.1, h.2) (k.0, k.1, k.2))
one_line text (line.At m) other h k =
    let kinds = one_kind text (line.At m) other h k in
    absurd (cc)
one_line text (line.Conn name) (line.Conn also) h k =
    ap (λ x. line.Conn x) (append_cancel_left (codes "conn ") name also (sym h.0 ∙ k.0))
one_line text (line.Conn name) other h k =
    let kinds = one_kind text (line.Conn name) other h k in
    absurd (cc)
one_line text (line.Client name act) (line.Client other also) h k = one_client text name other act also h k
one_line text (line.Client name act) other h k =
    let kinds = one_kind text (line.Client name act) other h k in
    absurd (cc)
one_line text (line.Command word) (line.Command other) h k =
    ap (λ x. line.Command x) (one_command word other (append_cancel_left (codes "command ") (command_word word) (command_word other) (sym h ∙ k)))
one_line text (line.Command word) other h k =
    let kinds = one_kind text (line.Command word) other h k in
    absurd (cc)
one_line text (line.Site site) (line.Site other) h k = ap (λ x. line.Site x) (one_site text site other h k)
one_line text (line.Site site) other h k =
    let kinds = one_kind text (line.Site site) other h k in
    absurd (cc)
