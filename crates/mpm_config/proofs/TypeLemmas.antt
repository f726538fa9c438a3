-- The types of each text that is accepted can be printed: each line keeps that.
use Rattle.std.proofs.Common.{◌≡◌, ℕ, ◌-◌, ◌++◌, nat_le, nat_lt, slice_get, if◌then◌else◌, Bool, true, false, List, [], ◌∷◌, Option, Some, None, Result, Ok, Err, length, option_map, refl, sym, subst}
use Rattle.std.specs.List.{All}
use Rattle.std.specs.Result.{IfOk}
use Rattle.std.proofs.lemmas.List.Elements.{All-append, All-nil}
use Rattle.conf_text.specs.Line.{Line, logical_lines}
use Rattle.conf_text.specs.Words.{Word, Closed, Unclosed, words}
use Rattle.media_types.specs.declared.types.TypePair.{TypePair}
use Rattle.type_words.proofs.TypeLemmas.{charset-printable, pairs-printable}
use Rattle.type_words.specs.TypeLaws.{IsPrintable}
use Rattle.type_words.specs.TypeWords.{are_type_words, charset_of_value, pairs_of_words, table_of_value}
use Rattle.mpm_config.specs.Directive.{directive_of}
use Rattle.mpm_config.specs.Form.{form_of}
use Rattle.mpm_config.specs.HostName.{aliases_of, are_aliases, is_server_name}
use Rattle.mpm_config.specs.Range.{port_range}
use Rattle.mpm_config.specs.Reading.{Progress, SetsNothing, adds_names, adds_pairs, after_closing, after_line, and_then, assigns, at_end, close_section, close_shown, config_of, configuration_of, hides, in_hiding, in_sight, may_open_host, open_by_guard, open_host, open_section, sets, sets_host, settings_of, start, text_len, text_settings, with_closed_host}
use Rattle.mpm_config.specs.Setting.{AddsNames, AddsPairs, Assignment, Sets, assignment, assignment_of, meaning, of_name, of_value, of_words, setting_of}
use Rattle.mpm_config.specs.Settings.{HostSettings, Settings, empty_host, with_host_setting, with_setting}
use Rattle.mpm_config.specs.TypeLaws.{HavePrintable}
use Rattle.mpm_config.specs.Value.{address, is_file, is_folder, is_log, number, number_of, switch, tags_of_value}
use Rattle.mpm_config.specs.declared.directive.Directive.{Directive}
use Rattle.mpm_config.specs.declared.directive.Directive.TheVariants as directive
use Rattle.mpm_config.specs.declared.fault.ConfFault.{ConfFault}
use Rattle.mpm_config.specs.declared.fault.ConfFault.TheVariants as fault
use Rattle.mpm_config.specs.declared.form.Form.{Form}
use Rattle.mpm_config.specs.declared.form.Form.TheVariants as form
use Rattle.mpm_config.specs.declared.form.Kind.{Kind}
use Rattle.mpm_config.specs.declared.form.Kind.TheVariants as kind
use Rattle.mpm_config.specs.declared.reader.Section.{Section}
use Rattle.mpm_config.specs.declared.setting.Setting.{Setting}
use Rattle.mpm_config.specs.declared.setting.Setting.TheVariants as sets
use Rattle.mpm_config.specs.declared.setting.Wrong.{Wrong}
use Rattle.mpm_config.specs.declared.setting.Wrong.TheVariants as wrong
use Rattle.mpm_config.proofs.LawLemmas.{choice, closed_sets, hiding_sets, opened_sets}

-- ## What a line adds

abbrev SetsPrintable : Setting → List ℕ → Type 0
SetsPrintable (sets.AddDefaultCharset true) v = All IsPrintable v
SetsPrintable s v = Unit {0}

-- what the line of a directive adds to the types
abbrev AddsPrintable : Result Assignment Wrong → Type 0
AddsPrintable (Ok (Sets s v)) = SetsPrintable s v
AddsPrintable (Ok (AddsNames ws)) = Unit {0}
AddsPrintable (Ok (AddsPairs ws)) = All (λ (p : TypePair). All IsPrintable p.media) (pairs_of_words ws)
AddsPrintable (Err e) = Unit {0}

mapped : {A : Type 0} (v : List ℕ) (f : A → Setting) → ((a : A) → SetsPrintable (f a) v) → (o : Option A) → AddsPrintable (assignment_of v (option_map f o))
mapped v f own None = tt
mapped v f own (Some a) = own a

chosen : (v : List ℕ) (t : Bool) (s : Setting) → SetsPrintable s v → AddsPrintable (assignment_of v (if t then Some s else None))
chosen v true s own = own
chosen v false s own = tt

named : (v : List ℕ) (o : Option Bool) → charset_of_value v ≡ o → AddsPrintable (assignment_of v (option_map (λ b. sets.AddDefaultCharset b) o))
named v None is = tt
named v (Some true) is = charset-printable v is
named v (Some false) is = tt

by-value : (d : Directive) (v : List ℕ) → AddsPrintable (assignment_of v (setting_of d v))
by-value (directive.Number q) v = mapped v (λ n. sets.Number q n) (λ n. tt) (number_of q v)
by-value directive.KeepAlive v = mapped v (λ b. sets.KeepAlive b) (λ b. tt) (switch v)
by-value directive.Listen v = mapped v (λ a. sets.Listen a) (λ a. tt) (address v)
by-value directive.ControlListen v = mapped v (λ p. sets.ControlListen p) (λ p. tt) (number port_range v)
by-value directive.DocumentRoot v = chosen v (is_folder v) sets.DocumentRoot tt
by-value directive.DirectoryIndex v = chosen v (is_file v) sets.DirectoryIndex tt
by-value directive.FileETag v = mapped v (λ b. sets.FileETag b) (λ b. tt) (tags_of_value v)
by-value directive.LastModified v = mapped v (λ b. sets.LastModified b) (λ b. tt) (switch v)
by-value directive.AddType v = tt
by-value directive.MimeTable v = mapped v (λ b. sets.MimeTable b) (λ b. tt) (table_of_value v)
by-value directive.AddDefaultCharset v = named v (charset_of_value v) refl
by-value directive.ServerStatus v = mapped v (λ b. sets.ServerStatus b) (λ b. tt) (switch v)
by-value directive.ServerName v = chosen v (is_server_name v) sets.ServerName tt
by-value directive.ServerAlias v = tt
by-value directive.TransferLog v = chosen v (is_log v) sets.TransferLog tt

one-value : (d : Directive) (ws : List Word) → AddsPrintable (of_value d ws)
one-value d [] = tt
one-value d (Closed v ∷ []) = by-value d v
one-value d (Closed v ∷ w ∷ ws) = tt
one-value d (Unclosed ∷ ws) = tt

by-words : (d : Directive) (ws : List Word) → AddsPrintable (of_words d ws)
by-words (directive.Number q) ws = one-value (directive.Number q) ws
by-words directive.KeepAlive ws = one-value directive.KeepAlive ws
by-words directive.Listen ws = one-value directive.Listen ws
by-words directive.ControlListen ws = one-value directive.ControlListen ws
by-words directive.DocumentRoot ws = one-value directive.DocumentRoot ws
by-words directive.DirectoryIndex ws = one-value directive.DirectoryIndex ws
by-words directive.FileETag ws = one-value directive.FileETag ws
by-words directive.LastModified ws = one-value directive.LastModified ws
by-words directive.AddType ws = by (are_type_words ws) refl where
  by : (t : Bool) → are_type_words ws ≡ t → AddsPrintable (if t then Ok (AddsPairs ws) else Err wrong.Value)
  by true are = pairs-printable ws are
  by false are = tt
by-words directive.MimeTable ws = one-value directive.MimeTable ws
by-words directive.AddDefaultCharset ws = one-value directive.AddDefaultCharset ws
by-words directive.ServerStatus ws = one-value directive.ServerStatus ws
by-words directive.ServerName ws = one-value directive.ServerName ws
by-words directive.ServerAlias ws = by (are_aliases ws) where
  by : (t : Bool) → AddsPrintable (if t then Ok (AddsNames ws) else Err wrong.Value)
  by true = tt
  by false = tt
by-words directive.TransferLog ws = one-value directive.TransferLog ws

by-name : (o : Option Directive) (ws : List Word) → AddsPrintable (of_name o ws)
by-name None ws = tt
by-name (Some d) ws = by-words d ws

by-line : (ws : List Word) → AddsPrintable (meaning ws)
by-line [] = tt
by-line (Closed name ∷ ws) = by-name (directive_of name) ws
by-line (Unclosed ∷ ws) = tt

-- ## What a line keeps

abbrev Keeps : Progress → Type 0
Keeps p = HavePrintable p.settings.types

-- what sets nothing keeps the types
still : (p : Progress) (r : Result Progress ConfFault) → IfOk r (SetsNothing p) → Keeps p → IfOk r Keeps
still p (Ok q) nothing kept = subst (λ (s : Settings). HavePrintable s.types) (sym nothing.settings) kept
still p (Err e) nothing kept = tt

setting-keeps : (s : Settings) (v : List ℕ) (a : Setting) → SetsPrintable a v → HavePrintable s.types → HavePrintable (with_setting s v a).types
setting-keeps s v (sets.Number q n) own kept = kept
setting-keeps s v (sets.KeepAlive b) own kept = kept
setting-keeps s v (sets.Listen a) own kept = kept
setting-keeps s v (sets.ControlListen p) own kept = kept
setting-keeps s v sets.DocumentRoot own kept = kept
setting-keeps s v sets.DirectoryIndex own kept = kept
setting-keeps s v (sets.FileETag b) own kept = kept
setting-keeps s v (sets.LastModified b) own kept = kept
setting-keeps s v (sets.MimeTable b) own kept = record { added = kept.added; charset = kept.charset }
setting-keeps s v (sets.AddDefaultCharset true) own kept = record { added = kept.added; charset = own }
setting-keeps s v (sets.AddDefaultCharset false) own kept = record { added = kept.added; charset = tt }
setting-keeps s v (sets.ServerStatus b) own kept = kept
setting-keeps s v sets.ServerName own kept = kept
setting-keeps s v sets.TransferLog own kept = kept

host-keeps : (n : ℕ) (p : Progress) (h : Option HostSettings) → Keeps p → IfOk (sets_host n p h) Keeps
host-keeps n p None kept = tt
host-keeps n p (Some h) kept = kept

sets-keep : (n : ℕ) (p : Progress) (s : Setting) (v : List ℕ) (h : Option HostSettings) → SetsPrintable s v → Keeps p → IfOk (sets n p s v h) Keeps
sets-keep n p s v None own kept = setting-keeps p.settings v s own kept
sets-keep n p s v (Some h) own kept = host-keeps n p (with_host_setting h v s) kept

names-keep : (n : ℕ) (p : Progress) (names : List (List ℕ)) (h : Option HostSettings) → Keeps p → IfOk (adds_names n p names h) Keeps
names-keep n p names None kept = tt
names-keep n p names (Some h) kept = choice (λ r. IfOk r Keeps) (nat_le (length (h.aliases ++ names)) 64) _ _ kept tt

pairs-keep : (n : ℕ) (p : Progress) (pairs : List TypePair) (h : Option HostSettings) → All (λ (q : TypePair). All IsPrintable q.media) pairs → Keeps p
    → IfOk (adds_pairs n p pairs h) Keeps
pairs-keep n p pairs (Some h) own kept = tt
pairs-keep n p pairs None own kept =
    choice (λ r. IfOk r Keeps) (nat_le (length (p.settings.types.added ++ pairs)) 1024) _ _
    (record { added = All-append (λ (q : TypePair). All IsPrintable q.media) p.settings.types.added pairs kept.added own; charset = kept.charset }) tt

directive-keeps : (n : ℕ) (p : Progress) (a : Result Assignment Wrong) → AddsPrintable a → Keeps p → IfOk (assigns n p a) Keeps
directive-keeps n p (Ok (Sets s v)) own kept = sets-keep n p s v p.host own kept
directive-keeps n p (Ok (AddsNames ws)) own kept = names-keep n p (aliases_of ws) p.host kept
directive-keeps n p (Ok (AddsPairs ws)) own kept = pairs-keep n p (pairs_of_words ws) p.host own kept
directive-keeps n p (Err wrong.Name) own kept = tt
directive-keeps n p (Err wrong.Value) own kept = tt

guard-keeps : (n : ℕ) (guard : Option Bool) (p : Progress) → Keeps p → IfOk (open_by_guard n guard p) Keeps
guard-keeps n None p kept = tt
guard-keeps n (Some shown) p kept = still p (open_section n kind.Module shown p) (opened_sets n kind.Module shown p) kept

opening-keeps : (n : ℕ) (right : Bool) (p : Progress) → Keeps p → IfOk (open_host n right p) Keeps
opening-keeps n right p kept =
    let opened : Progress = record p { host = Some empty_host } in
    choice (λ r. IfOk r Keeps) (may_open_host right p) _ _ (still opened (open_section n kind.Host true opened) (opened_sets n kind.Host true opened) kept) tt

closed-keeps : (p : Progress) (h : Option HostSettings) → Keeps p → Keeps (with_closed_host p h)
closed-keeps p None kept = kept
closed-keeps p (Some h) kept = kept

behind-keeps : (k : Kind) (p : Progress) → Keeps p → Keeps (after_closing k p)
behind-keeps kind.Module p kept = kept
behind-keeps kind.Host p kept = closed-keeps p p.host kept

then-keeps : (k : Kind) (r : Result Progress ConfFault) → IfOk r Keeps → IfOk (and_then r (λ q. Ok (after_closing k q))) Keeps
then-keeps k (Ok q) kept = behind-keeps k q kept
then-keeps k (Err e) kept = tt

closing-keeps : (n : ℕ) (k : Kind) (p : Progress) → Keeps p → IfOk (close_shown n k p) Keeps
closing-keeps n k p kept = then-keeps k (close_section n k p) (still p (close_section n k p) (closed_sets n k p) kept)

sight-keeps : (p : Progress) (l : Line) (f : Form) → Keeps p → IfOk (in_sight p l f) Keeps
sight-keeps p l form.Blank kept = kept
sight-keeps p l (form.Opening guard) kept = guard-keeps l.number guard p kept
sight-keeps p l (form.OpeningHost right) kept = opening-keeps l.number right p kept
sight-keeps p l (form.Closing k) kept = closing-keeps l.number k p kept
sight-keeps p l form.ClosingWithWord kept = tt
sight-keeps p l form.OtherSection kept = tt
sight-keeps p l form.Directive kept = directive-keeps l.number p (assignment l.bytes) (by-line (words l.bytes)) kept

line-keeps : (p : Progress) (l : Line) → Keeps p → IfOk (after_line p l) Keeps
line-keeps p l kept =
    choice (λ r. IfOk r Keeps) (hides p.sections) (in_hiding p l (form_of l.bytes)) (in_sight p l (form_of l.bytes))
    (still p (in_hiding p l (form_of l.bytes)) (hiding_sets p l (form_of l.bytes)) kept) (sight-keeps p l (form_of l.bytes) kept)

-- ## What a text has

abbrev HasPrintable : Settings → Type 0
HasPrintable s = HavePrintable s.types

end-keeps : (p : Progress) (last : Option Section) → Keeps p → IfOk (at_end p last) HasPrintable
end-keeps p None kept = kept
end-keeps p (Some s) kept = tt

next-keeps : (r : Result Progress ConfFault) (f : Progress → Result Settings ConfFault) → IfOk r Keeps → ((q : Progress) → Keeps q → IfOk (f q) HasPrintable)
    → IfOk (and_then r f) HasPrintable
next-keeps (Ok q) f kept further = further q kept
next-keeps (Err e) f kept further = tt

lines-keep : (p : Progress) (ls : List Line) → Keeps p → IfOk (settings_of p ls) HasPrintable
lines-keep p [] kept = end-keeps p (slice_get p.sections (length p.sections - 1)) kept
lines-keep p (l ∷ ls) kept = next-keeps (after_line p l) (λ q. settings_of q ls) (line-keeps p l kept) (λ q k. lines-keep q ls k)

start-keeps : Keeps start
start-keeps = record { added = All-nil (λ (p : TypePair). All IsPrintable p.media); charset = tt }

text-has : (text : List ℕ) → IfOk (text_settings text) HasPrintable
text-has text = by (nat_lt (text_len text) (length text)) (lines-keep start (logical_lines text) start-keeps) where
  by : (t : Bool) → IfOk (settings_of start (logical_lines text)) HasPrintable
      → IfOk (if t then Err (fault.NotText (text_len text)) else settings_of start (logical_lines text)) HasPrintable
  by true has = tt
  by false has = has

settings-have : (r : Result Settings ConfFault) → IfOk r HasPrintable → IfOk (and_then r (λ s. Ok (configuration_of s))) (λ read. HavePrintable read.config.types)
settings-have (Ok s) has = has
settings-have (Err e) has = tt

pub configuration-has : (text : List ℕ) → IfOk (config_of text) (λ read. HavePrintable read.config.types)
configuration-has text = settings-have (text_settings text) (text-has text)
