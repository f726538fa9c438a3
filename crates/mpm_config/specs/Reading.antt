-- The configuration of a text: its logical lines are read in order, each in the sections that are open before it.
use Rattle.std.specs.Prelude.{◌≡◌, ℕ, ◌-◌, ◌==◌, ◌&&◌, nat_le, nat_lt, min, if◌then◌else◌, Bool, false, true, is_none, not, map, unwrap_or, List, [], ◌∷◌, ◌++◌, length, take, slice_get, Option, Some, None, IfSome, Result, Ok, Err}
use Rattle.std.specs.List.{list_any, position_or_len}
use Rattle.std.specs.Str.Lossy.{utf8_valid_len}
use Rattle.media_types.specs.declared.types.TypePair.{TypePair}
use Rattle.mpm_config.specs.declared.fault.ConfFault.{ConfFault}
use Rattle.mpm_config.specs.declared.fault.ConfFault.TheVariants.{NotText, UnknownDirective, BadValue, BadSection, Unclosed, TooDeep, NoMemory}
use Rattle.mpm_config.specs.declared.form.Form.{Form}
use Rattle.mpm_config.specs.declared.form.Form.TheVariants.{Blank, Opening, OpeningHost, Closing, ClosingWithWord, OtherSection, Directive}
use Rattle.mpm_config.specs.declared.form.Kind.{Kind}
use Rattle.mpm_config.specs.declared.form.Kind.TheVariants.{Module, Host}
use Rattle.mpm_config.specs.declared.host_conf.HostConf.{HostConf}
use Rattle.mpm_config.specs.declared.setting.Setting.{Setting}
use Rattle.mpm_config.specs.declared.reader.Section.{Section}
use Rattle.mpm_config.specs.declared.setting.Wrong.{Wrong}
use Rattle.mpm_config.specs.declared.setting.Wrong.TheVariants.{Name, Value}
use Rattle.mpm_config.specs.Config.{Configuration, most_hosts, most_pairs}
use Rattle.mpm_config.specs.Correction.{after_corrections, notices}
use Rattle.mpm_config.specs.Form.{form_of}
use Rattle.conf_text.specs.Line.{Line, logical_lines}
use Rattle.mpm_config.specs.Setting.{Assignment, Sets, AddsNames, AddsPairs, assignment}
use Rattle.mpm_config.specs.Settings.{HostSettings, Settings, empty_host, initial_settings, with_host_setting, with_pairs, with_setting}
use Rattle.mpm_config.specs.HostName.{aliases_of, most_aliases}
use Rattle.mpm_config.specs.Warning.{Notice}
use Rattle.type_words.specs.TypeWords.{pairs_of_words}

-- goes on where nothing was refused
abbrev pub and_then : {A B : Type 0} → Result A ConfFault → (A → Result B ConfFault) → Result B ConfFault
and_then (Ok a) f = f a
and_then (Err e) f = Err e

-- what stands after some lines: the settings, the host whose section is open, and the sections that are open, the innermost last
pub record Progress : Type 0 where
  pub settings : Settings
  pub host : Option HostSettings
  pub sections : List Section

-- the guard of some open section does not hold
abbrev pub hides : List Section → Bool
hides sections = list_any (λ s. not s.shown) sections

-- as many sections may be open at once
abbrev pub greatest_depth : ℕ
greatest_depth = 8

-- a section of the kind opens in a line
abbrev pub open_section : ℕ → Kind → Bool → Progress → Result Progress ConfFault
open_section n kind shown p =
    if nat_lt (length p.sections) greatest_depth
    then Ok (record p { sections = p.sections ++ record { line = n; kind = kind; shown = shown } ∷ [] }) else Err (TooDeep n)

-- a section opens by its guard
abbrev pub open_by_guard : ℕ → Option Bool → Progress → Result Progress ConfFault
open_by_guard n None p = Err (BadSection n)
open_by_guard n (Some shown) p = open_section n Module shown p

-- the section of a further host may open: its argument is right, it stands in no other, and there may be one more
abbrev pub may_open_host : Bool → Progress → Bool
may_open_host right p = right && is_none p.host && nat_lt (length p.settings.hosts) most_hosts

-- the section of a host opens
abbrev pub open_host : ℕ → Bool → Progress → Result Progress ConfFault
open_host n right p = if may_open_host right p then open_section n Host true (record p { host = Some empty_host }) else Err (BadSection n)

-- the kinds are the same
abbrev pub is_same_kind : Kind → Kind → Bool
is_same_kind Module Module = true
is_same_kind Host Host = true
is_same_kind Module Host = false
is_same_kind Host Module = false

-- the innermost section closes, which is that one
abbrev pub close_innermost : ℕ → Kind → Progress → Option Section → Result Progress ConfFault
close_innermost n kind p None = Err (BadSection n)
close_innermost n kind p (Some s) =
    if is_same_kind s.kind kind then Ok (record p { sections = take (length p.sections - 1) p.sections }) else Err (BadSection n)

-- the innermost section closes, which is one of the kind
abbrev pub close_section : ℕ → Kind → Progress → Result Progress ConfFault
close_section n kind p = close_innermost n kind p (slice_get p.sections (length p.sections - 1))

-- the host whose section closed is one of the hosts
abbrev pub with_closed_host : Progress → Option HostSettings → Progress
with_closed_host p None = p
with_closed_host p (Some h) = record p { settings = record p.settings { hosts = p.settings.hosts ++ h ∷ [] }; host = None }

-- behind the closing of a section of the kind, where it was shown
abbrev pub after_closing : Kind → Progress → Progress
after_closing Module p = p
after_closing Host p = with_closed_host p p.host

-- a section that is shown closes
abbrev pub close_shown : ℕ → Kind → Progress → Result Progress ConfFault
close_shown n kind p = and_then (close_section n kind p) (λ q. Ok (after_closing kind q))

-- the open host goes on with these settings; where there are none, the directive may not stand in its section
abbrev pub sets_host : ℕ → Progress → Option HostSettings → Result Progress ConfFault
sets_host n p None = Err (BadSection n)
sets_host n p (Some h) = Ok (record p { host = Some h })

-- a value sets what it sets, of the open host or outside of such sections
abbrev pub sets : ℕ → Progress → Setting → List ℕ → Option HostSettings → Result Progress ConfFault
sets n p s v None = Ok (record p { settings = with_setting p.settings v s })
sets n p s v (Some h) = sets_host n p (with_host_setting h v s)

-- names are added to the open host, which may have so many
abbrev pub adds_names : ℕ → Progress → List (List ℕ) → Option HostSettings → Result Progress ConfFault
adds_names n p names None = Err (BadSection n)
adds_names n p names (Some h) =
    if nat_le (length (h.aliases ++ names)) most_aliases
    then Ok (record p { host = Some (record h { aliases = h.aliases ++ names }) }) else Err (BadValue n)

-- pairs are added to those of the types, of which there may be so many; they are of the whole server
abbrev pub adds_pairs : ℕ → Progress → List TypePair → Option HostSettings → Result Progress ConfFault
adds_pairs n p pairs (Some h) = Err (BadSection n)
adds_pairs n p pairs None =
    if nat_le (length (p.settings.types.added ++ pairs)) most_pairs
    then Ok (record p { settings = with_pairs p.settings pairs }) else Err (BadValue n)

-- a directive does what it does
abbrev pub assigns : ℕ → Progress → Result Assignment Wrong → Result Progress ConfFault
assigns n p (Ok (Sets s v)) = sets n p s v p.host
assigns n p (Ok (AddsNames ws)) = adds_names n p (aliases_of ws) p.host
assigns n p (Ok (AddsPairs ws)) = adds_pairs n p (pairs_of_words ws) p.host
assigns n p (Err Name) = Err (UnknownDirective n)
assigns n p (Err Value) = Err (BadValue n)

-- a line where all open sections are shown
abbrev pub in_sight : Progress → Line → Form → Result Progress ConfFault
in_sight p l Blank = Ok p
in_sight p l (Opening guard) = open_by_guard l.number guard p
in_sight p l (OpeningHost right) = open_host l.number right p
in_sight p l (Closing kind) = close_shown l.number kind p
in_sight p l ClosingWithWord = Err (BadSection l.number)
in_sight p l OtherSection = Err (BadSection l.number)
in_sight p l Directive = assigns l.number p (assignment l.bytes)

-- a line in a part that is skipped, where only sections count and no guard or argument is asked
abbrev pub in_hiding : Progress → Line → Form → Result Progress ConfFault
in_hiding p l (Opening guard) = open_section l.number Module true p
in_hiding p l (OpeningHost right) = open_section l.number Host true p
in_hiding p l (Closing kind) = close_section l.number kind p
in_hiding p l ClosingWithWord = Err (BadSection l.number)
in_hiding p l form = Ok p

-- what stands after one more line
abbrev pub after_line : Progress → Line → Result Progress ConfFault
after_line p l = if hides p.sections then in_hiding p l (form_of l.bytes) else in_sight p l (form_of l.bytes)

-- at the end no section is open
abbrev pub at_end : Progress → Option Section → Result Settings ConfFault
at_end p None = Ok p.settings
at_end p (Some s) = Err (Unclosed s.line)

-- the settings of some lines
abbrev pub settings_of : Progress → List Line → Result Settings ConfFault
settings_of p [] = at_end p (slice_get p.sections (length p.sections - 1))
settings_of p (l ∷ ls) = and_then (after_line p l) (λ q. settings_of q ls)

-- before the first line
abbrev pub start : Progress
start = record { settings = initial_settings; host = None; sections = [] }

-- how many bytes are text: UTF-8 without a NUL
abbrev pub text_len : List ℕ → ℕ
text_len bytes = min (position_or_len (λ b. b == 0) bytes) (utf8_valid_len bytes)

-- a configuration, and what an operator is told of it
pub record ConfigAndWarnings : Type 0 where
  pub config : Configuration
  pub warnings : List Notice

-- a host by its section; what it lacks is that outside of such sections, of the whole text
abbrev pub host_conf_by : List ℕ → List ℕ → HostSettings → HostConf
host_conf_by root index h = record { names = h.name ++ h.aliases; root = unwrap_or h.root root; index = unwrap_or h.index index }

-- the hosts by these sections; without one there is one host, the outer one
abbrev pub confs_by : List (List ℕ) → List ℕ → List ℕ → List HostSettings → List HostConf
confs_by name root index [] = record { names = name; root = root; index = index } ∷ []
confs_by name root index (h ∷ hs) = map (host_conf_by root index) (h ∷ hs)

-- the configuration of the settings of a whole text
abbrev pub configuration_of : Settings → ConfigAndWarnings
configuration_of s = record {
  config = record {
    written = s.numbers;
    current = after_corrections s.numbers;
    listen = s.listen;
    control = s.control;
    root = s.root;
    index = s.index;
    tags = s.tags;
    times = s.times;
    types = s.types;
    status = s.status;
    log = s.log;
    hosts = confs_by s.name s.root s.index s.hosts;
  };
  warnings = notices s.numbers;
}

-- the settings of a text
abbrev pub text_settings : List ℕ → Result Settings ConfFault
text_settings bytes = if nat_lt (text_len bytes) (length bytes) then Err (NotText (text_len bytes)) else settings_of start (logical_lines bytes)

-- the configuration of a text, or its refusal
abbrev pub config_of : List ℕ → Result ConfigAndWarnings ConfFault
config_of bytes = and_then (text_settings bytes) (λ s. Ok (configuration_of s))

-- the fault is that which was to be answered; want of memory alone is free
abbrev pub Refuses : {A : Type 0} → Result A ConfFault → ConfFault → Type 0
Refuses r NoMemory = Unit {0}
Refuses r e = r ≡ Err e

-- what stands after some lines
abbrev pub after_lines : Progress → List Line → Result Progress ConfFault
after_lines p [] = Ok p
after_lines p (l ∷ ls) = and_then (after_line p l) (λ q. after_lines q ls)

-- the line that a refusal of a line names
abbrev pub IsAtLine : ℕ → ConfFault → Type 0
IsAtLine n (UnknownDirective m) = m ≡ n
IsAtLine n (BadValue m) = m ≡ n
IsAtLine n (BadSection m) = m ≡ n
IsAtLine n (TooDeep m) = m ≡ n
IsAtLine n e = ⊥

-- the settings are as they were, and so are those of the host whose section is open
pub record SetsNothing (old new : Progress) : Type 0 where
  pub settings : new.settings ≡ old.settings
  pub host : new.host ≡ old.host

-- the same setting of the section of a host, twice: the later one replaces the other where it may stand there
abbrev pub ReplacesInHost : HostSettings → List ℕ → List ℕ → Setting → Setting → Type 0
ReplacesInHost h v w a b = IfSome (with_host_setting h v a) (λ first. with_host_setting first w b ≡ with_host_setting h w b)
