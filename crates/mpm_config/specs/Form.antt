-- What kind of line a line is. A section of the kind IfModule hides what stands in it unless a module of its name is
-- there, or, with an exclamation mark before the name, unless none is. One of the kind VirtualHost is about one host.
-- Why it is so stands in docs/DECISIONS.md: 19, Open points of the configuration language.
use Rattle.std.specs.Prelude.{ℕ, ◌==◌, ◌&&◌, ◌||◌, if◌then◌else◌, Bool, false, is_some, not, List, [], ◌∷◌, codes, drop, Option, Some, None, option_map}
use Rattle.std.specs.List.{before_first, list_all, position_or_len}
use Rattle.std.specs.Option.{option_map_or}
use Rattle.std.specs.Str.{bytes_eq}
use Rattle.mpm_config.specs.declared.form.Form.{Form}
use Rattle.mpm_config.specs.declared.form.Form.TheVariants.{Blank, Opening, OpeningHost, Closing, ClosingWithWord, OtherSection, Directive}
use Rattle.mpm_config.specs.declared.form.Kind.{Kind}
use Rattle.mpm_config.specs.declared.form.Kind.TheVariants.{Module, Host}
use Rattle.mpm_config.specs.Range.{port_range}
use Rattle.conf_text.specs.Parts.{Parts, parts_around}
use Rattle.mpm_config.specs.Value.{number}
use Rattle.mpm_base.specs.LetterCase.{is_same_ignoring_case}
use Rattle.conf_text.specs.Words.{Word, Closed, is_blank, words, from_blanks}

-- the modules that are there
abbrev pub is_present : List ℕ → Bool
is_present name = bytes_eq name (codes "mpm_event_module") || bytes_eq name (codes "core_module")

-- whether a guard with an exclamation mark holds; without a name it is none
abbrev pub unless_present : List ℕ → Option Bool
unless_present [] = None
unless_present (b ∷ bs) = Some (not (is_present (b ∷ bs)))

-- whether a guard holds; an exclamation mark is 33
abbrev pub guard_of : List ℕ → Option Bool
guard_of [] = None
guard_of (b ∷ bs) = if b == 33 then unless_present bs else Some (is_present (b ∷ bs))

-- the guard of an opening: exactly one name
abbrev pub guard : List Word → Option Bool
guard (Closed name ∷ []) = guard_of name
guard ws = None

-- any address with that port, which isn't compared: before the colon stands an asterisk
abbrev pub is_any_with_port : Option Parts → Bool
is_any_with_port None = false
is_any_with_port (Some p) = bytes_eq p.before (codes "*") && is_some (number port_range p.after)

-- an asterisk, or one, a colon (58) and a port
abbrev pub is_any_address : List ℕ → Bool
is_any_address v = bytes_eq v (codes "*") || is_any_with_port (parts_around 58 v)

-- the argument of the section of a host: exactly one such word
abbrev pub takes_hosts : List Word → Bool
takes_hosts (Closed v ∷ []) = is_any_address v
takes_hosts ws = false

-- the kind of a section that the word names, which stands without quotes
abbrev pub kind_of : List ℕ → Option Kind
kind_of word =
    if is_same_ignoring_case word (codes "IfModule") then Some Module
    else (if is_same_ignoring_case word (codes "VirtualHost") then Some Host else None)

-- the opening of a section of the kind with these words behind it
abbrev pub section_opening : List Word → Kind → Form
section_opening ws Module = Opening (guard ws)
section_opening ws Host = OpeningHost (takes_hosts ws)

-- what closes a section has no further word
abbrev pub section_closing : List Word → Kind → Form
section_closing [] kind = Closing kind
section_closing (w ∷ ws) kind = ClosingWithWord

-- the words behind the kind, which goes to the first blank
abbrev pub arguments : List ℕ → List Word
arguments text = words (drop (position_or_len is_blank text) text)

-- the form of an opening
abbrev pub opening_of : List ℕ → Form
opening_of text = option_map_or (section_opening (arguments text)) (kind_of (before_first is_blank text)) OtherSection

-- the form of a closing, by what stands behind its slash
abbrev pub closing_of : List ℕ → Form
closing_of text = option_map_or (section_closing (arguments text)) (kind_of (before_first is_blank text)) OtherSection

-- what stands between < and >; a slash is 47
abbrev pub of_inside : List ℕ → Form
of_inside [] = OtherSection
of_inside (b ∷ bs) = if b == 47 then closing_of bs else opening_of (b ∷ bs)

-- what stands before the > (62) that only blanks follow
abbrev pub before_end : List ℕ → Option (List ℕ)
before_end [] = None
before_end (b ∷ bs) = if b == 62 && list_all is_blank bs then Some [] else option_map (λ v. b ∷ v) (before_end bs)

-- the kind of a line that begins with <, by what follows that
abbrev pub of_section : List ℕ → Form
of_section v = option_map_or of_inside (before_end v) OtherSection

-- the kind of a line, by what follows the blanks at the front; a comment begins with # (35), a section with < (60)
abbrev pub of_line : List ℕ → Form
of_line [] = Blank
of_line (b ∷ bs) = if b == 35 then Blank else (if b == 60 then of_section bs else Directive)

-- the kind of a line
abbrev pub form_of : List ℕ → Form
form_of line = of_line (from_blanks line)
