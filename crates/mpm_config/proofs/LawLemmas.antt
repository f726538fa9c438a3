-- The laws of the language.
use Rattle.std.proofs.Common.{◌≡◌, ℕ, ◌+◌, ◌≤◌, ◌-◌, ◌++◌, nat_le, nat_lt, slice_get, if◌then◌else◌, Bool, true, false, List, [], ◌∷◌, Option, Some, None, Result, Ok, Err, length, refl, ap, sym, ◌∙◌, subst, arith}
use Rattle.std.specs.Result.{IfOk, IfErr}
use Rattle.mpm_config.specs.declared.directive.Quantity.{Quantity}
use Rattle.mpm_config.specs.declared.directive.Quantity.TheVariants.{ServerLimit, ThreadLimit, StartServers, MinSpareThreads, MaxSpareThreads, ThreadsPerChild, MaxRequestWorkers, MaxConnectionsPerChild, AsyncRequestWorkerFactor, Timeout, RequestReadTimeout, KeepAliveTimeout, MaxKeepAliveRequests, GracefulShutdownTimeout, LimitRequestLine, LimitRequestFieldSize, LimitRequestFields}
use Rattle.mpm_config.specs.declared.fault.ConfFault.{ConfFault}
use Rattle.mpm_config.specs.declared.form.Form.{Form}
use Rattle.mpm_config.specs.declared.form.Form.TheVariants as form
use Rattle.mpm_config.specs.declared.form.Kind.{Kind}
use Rattle.mpm_config.specs.declared.form.Kind.TheVariants as kind
use Rattle.mpm_config.specs.declared.reader.Section.{Section}
use Rattle.mpm_config.specs.HostName.{aliases_of}
use Rattle.mpm_config.specs.declared.numbers.Numbers.{Numbers}
use Rattle.mpm_config.specs.declared.setting.Setting.{Setting}
use Rattle.mpm_config.specs.declared.setting.Setting.TheVariants as sets
use Rattle.mpm_config.specs.declared.setting.Wrong.{Wrong}
use Rattle.mpm_config.specs.declared.setting.Wrong.TheVariants as wrong
use Rattle.mpm_config.specs.Form.{form_of}
use Rattle.conf_text.specs.Line.{Line, Rise, continues, front, join_next, logical}
use Rattle.mpm_config.specs.Numbers.{with_number}
use Rattle.mpm_config.specs.Reading.{Progress, adds_names, after_closing, after_line, after_lines, and_then, adds_pairs, assigns, close_innermost, close_section, hides, in_hiding, in_sight, is_same_kind, may_open_host, open_host, open_section, open_by_guard, sets, sets_host, settings_of, IsAtLine, ReplacesInHost, SetsNothing}
use Rattle.mpm_config.specs.Setting.{Assignment, Sets, AddsNames, AddsPairs, assignment}
use Rattle.media_types.specs.declared.types.TypePair.{TypePair}
use Rattle.type_words.specs.TypeWords.{pairs_of_words}
use Rattle.mpm_config.specs.Settings.{HostSettings, Settings, empty_host, with_host_setting, with_setting, IsSameDirective}

set_twice : (n : Numbers) (q : Quantity) (a b : ℕ) → with_number (with_number n q a) q b ≡ with_number n q b
set_twice n ServerLimit a b = refl
set_twice n ThreadLimit a b = refl
set_twice n StartServers a b = refl
set_twice n MinSpareThreads a b = refl
set_twice n MaxSpareThreads a b = refl
set_twice n ThreadsPerChild a b = refl
set_twice n MaxRequestWorkers a b = refl
set_twice n MaxConnectionsPerChild a b = refl
set_twice n AsyncRequestWorkerFactor a b = refl
set_twice n Timeout a b = refl
set_twice n RequestReadTimeout a b = refl
set_twice n KeepAliveTimeout a b = refl
set_twice n MaxKeepAliveRequests a b = refl
set_twice n GracefulShutdownTimeout a b = refl
set_twice n LimitRequestLine a b = refl
set_twice n LimitRequestFieldSize a b = refl
set_twice n LimitRequestFields a b = refl

pub replaced : (s : Settings) (v w : List ℕ) (a b : Setting) → IsSameDirective a b → with_setting (with_setting s v a) w b ≡ with_setting s w b
replaced s v w (sets.Number q m) (sets.Number r n) h =
    ap (λ t. with_setting (with_setting s v (sets.Number t m)) w (sets.Number r n)) h ∙ ap (λ k. record s { numbers = k }) (set_twice s.numbers r m n)
replaced s v w (sets.KeepAlive b) (sets.KeepAlive c) h = refl
replaced s v w (sets.Listen a) (sets.Listen b) h = refl
replaced s v w (sets.ControlListen p) (sets.ControlListen q) h = refl
replaced s v w sets.DocumentRoot sets.DocumentRoot h = refl
replaced s v w sets.DirectoryIndex sets.DirectoryIndex h = refl
replaced s v w (sets.FileETag b) (sets.FileETag c) h = refl
replaced s v w (sets.LastModified b) (sets.LastModified c) h = refl
replaced s v w (sets.MimeTable b) (sets.MimeTable c) h = refl
replaced s v w (sets.AddDefaultCharset b) (sets.AddDefaultCharset c) h = refl
replaced s v w (sets.ServerStatus b) (sets.ServerStatus c) h = refl
replaced s v w sets.ServerName sets.ServerName h = refl
replaced s v w sets.TransferLog sets.TransferLog h = refl
replaced s v w a b h = absurd h

-- the same in the section of a host; what may not stand there is refused the first time
pub replaced_in_host : (h : HostSettings) (v w : List ℕ) (a b : Setting) → IsSameDirective a b → ReplacesInHost h v w a b
replaced_in_host h v w (sets.Number q m) (sets.Number r n) same = tt
replaced_in_host h v w (sets.KeepAlive b) (sets.KeepAlive c) same = tt
replaced_in_host h v w (sets.Listen a) (sets.Listen b) same = tt
replaced_in_host h v w (sets.ControlListen p) (sets.ControlListen q) same = tt
replaced_in_host h v w sets.DocumentRoot sets.DocumentRoot same = refl
replaced_in_host h v w sets.DirectoryIndex sets.DirectoryIndex same = refl
replaced_in_host h v w (sets.FileETag b) (sets.FileETag c) same = tt
replaced_in_host h v w (sets.LastModified b) (sets.LastModified c) same = tt
replaced_in_host h v w (sets.MimeTable b) (sets.MimeTable c) same = tt
replaced_in_host h v w (sets.AddDefaultCharset b) (sets.AddDefaultCharset c) same = tt
replaced_in_host h v w (sets.ServerStatus b) (sets.ServerStatus c) same = tt
replaced_in_host h v w sets.ServerName sets.ServerName same = refl
replaced_in_host h v w sets.TransferLog sets.TransferLog same = tt
replaced_in_host h v w a b same = absurd same

-- what holds of both outcomes of a test holds of its outcome
pub choice : (P : Result Progress ConfFault → Type 0) (t : Bool) (r s : Result Progress ConfFault) → P r → P s → P (if t then r else s)
choice P true r s a b = a
choice P false r s a b = b

-- to open or close a section sets nothing
nothing : (p : Progress) (sections : List Section) → SetsNothing p (record p { sections = sections })
nothing p sections = record { settings = refl; host = refl }

pub opened_sets : (n : ℕ) (kind : Kind) (shown : Bool) (p : Progress) → IfOk (open_section n kind shown p) (SetsNothing p)
opened_sets n kind shown p = choice (λ r. IfOk r (SetsNothing p)) (nat_lt (length p.sections) 8) _ _ (nothing p _) tt

innermost_sets : (n : ℕ) (kind : Kind) (p : Progress) (s : Option Section) → IfOk (close_innermost n kind p s) (SetsNothing p)
innermost_sets n kind p None = tt
innermost_sets n kind p (Some s) = choice (λ r. IfOk r (SetsNothing p)) (is_same_kind s.kind kind) _ _ (nothing p _) tt

pub closed_sets : (n : ℕ) (kind : Kind) (p : Progress) → IfOk (close_section n kind p) (SetsNothing p)
closed_sets n kind p = innermost_sets n kind p (slice_get p.sections (length p.sections - 1))

pub hiding_sets : (p : Progress) (l : Line) (f : Form) → IfOk (in_hiding p l f) (SetsNothing p)
hiding_sets p l form.Blank = record { settings = refl; host = refl }
hiding_sets p l (form.Opening g) = opened_sets l.number kind.Module true p
hiding_sets p l (form.OpeningHost right) = opened_sets l.number kind.Host true p
hiding_sets p l (form.Closing k) = closed_sets l.number k p
hiding_sets p l form.ClosingWithWord = tt
hiding_sets p l form.OtherSection = record { settings = refl; host = refl }
hiding_sets p l form.Directive = record { settings = refl; host = refl }

pub hidden_sets_nothing : (p : Progress) (l : Line) → hides p.sections ≡ true → IfOk (after_line p l) (SetsNothing p)
hidden_sets_nothing p l h = rw h (hiding_sets p l (form_of l.bytes))

-- numbers that rise from one on rise from each smaller one on
rise_from : (m n : ℕ) (ls : List Line) → m ≤ n → Rise n ls → Rise m ls
rise_from m n [] h r = tt
rise_from m n (l ∷ ls) h r = (omega (arith, r.0), r.1)

joined_rise : (n : ℕ) (piece : List ℕ) (ls : List Line) → Rise (n + 1) ls → Rise n (join_next n piece ls)
joined_rise n piece [] r = (omega arith, tt)
joined_rise n piece (l ∷ ls) r = (omega arith, rise_from (n + 1) (l.number + 1) ls (omega (arith, r.0)) r.1)

piece_rise : (t : Bool) (n : ℕ) (p : List ℕ) (ls : List Line) → Rise (n + 1) ls → Rise n (if t then join_next n (front p) ls else record { number = n; bytes = p } ∷ ls)
piece_rise true n p ls r = joined_rise n (front p) ls r
piece_rise false n p ls r = (omega arith, r)

pub lines_rise : (n : ℕ) (ps : List (List ℕ)) → Rise n (logical n ps)
lines_rise n [] = tt
lines_rise n (p ∷ ps) = piece_rise (continues p) n p (logical (n + 1) ps) (lines_rise (n + 1) ps)

-- a line is refused by its own number
opened_own : (n : ℕ) (kind : Kind) (shown : Bool) (p : Progress) → IfErr (open_section n kind shown p) (IsAtLine n)
opened_own n kind shown p = choice (λ r. IfErr r (IsAtLine n)) (nat_lt (length p.sections) 8) _ _ tt refl

opened_by_own : (n : ℕ) (guard : Option Bool) (p : Progress) → IfErr (open_by_guard n guard p) (IsAtLine n)
opened_by_own n None p = refl
opened_by_own n (Some shown) p = opened_own n kind.Module shown p

opened_host_own : (n : ℕ) (right : Bool) (p : Progress) → IfErr (open_host n right p) (IsAtLine n)
opened_host_own n right p =
    choice (λ r. IfErr r (IsAtLine n)) (may_open_host right p) _ _ (opened_own n kind.Host true (record p { host = Some empty_host })) refl

innermost_own : (n : ℕ) (kind : Kind) (p : Progress) (s : Option Section) → IfErr (close_innermost n kind p s) (IsAtLine n)
innermost_own n kind p None = refl
innermost_own n kind p (Some s) = choice (λ r. IfErr r (IsAtLine n)) (is_same_kind s.kind kind) _ _ tt refl

closed_own : (n : ℕ) (kind : Kind) (p : Progress) → IfErr (close_section n kind p) (IsAtLine n)
closed_own n kind p = innermost_own n kind p (slice_get p.sections (length p.sections - 1))

then_own : (n : ℕ) (f : Progress → Progress) (r : Result Progress ConfFault) → IfErr r (IsAtLine n) → IfErr (and_then r (λ q. Ok (f q))) (IsAtLine n)
then_own n f (Ok q) h = tt
then_own n f (Err e) h = h

host_own : (n : ℕ) (p : Progress) (h : Option HostSettings) → IfErr (sets_host n p h) (IsAtLine n)
host_own n p None = refl
host_own n p (Some h) = tt

sets_own : (n : ℕ) (p : Progress) (s : Setting) (v : List ℕ) (h : Option HostSettings) → IfErr (sets n p s v h) (IsAtLine n)
sets_own n p s v None = tt
sets_own n p s v (Some h) = host_own n p (with_host_setting h v s)

names_own : (n : ℕ) (p : Progress) (names : List (List ℕ)) (h : Option HostSettings) → IfErr (adds_names n p names h) (IsAtLine n)
names_own n p names None = refl
names_own n p names (Some h) = choice (λ r. IfErr r (IsAtLine n)) (nat_le (length (h.aliases ++ names)) 64) _ _ tt refl

pairs_own : (n : ℕ) (p : Progress) (pairs : List TypePair) (h : Option HostSettings) → IfErr (adds_pairs n p pairs h) (IsAtLine n)
pairs_own n p pairs None = choice (λ r. IfErr r (IsAtLine n)) (nat_le (length (p.settings.types.added ++ pairs)) 1024) _ _ tt refl
pairs_own n p pairs (Some h) = refl

assigns_own : (n : ℕ) (p : Progress) (a : Result Assignment Wrong) → IfErr (assigns n p a) (IsAtLine n)
assigns_own n p (Ok (Sets s v)) = sets_own n p s v p.host
assigns_own n p (Ok (AddsNames ws)) = names_own n p (aliases_of ws) p.host
assigns_own n p (Ok (AddsPairs ws)) = pairs_own n p (pairs_of_words ws) p.host
assigns_own n p (Err wrong.Name) = refl
assigns_own n p (Err wrong.Value) = refl

hiding_own : (p : Progress) (l : Line) (f : Form) → IfErr (in_hiding p l f) (IsAtLine l.number)
hiding_own p l form.Blank = tt
hiding_own p l (form.Opening g) = opened_own l.number kind.Module true p
hiding_own p l (form.OpeningHost right) = opened_own l.number kind.Host true p
hiding_own p l (form.Closing k) = closed_own l.number k p
hiding_own p l form.ClosingWithWord = refl
hiding_own p l form.OtherSection = tt
hiding_own p l form.Directive = tt

sight_own : (p : Progress) (l : Line) (f : Form) → IfErr (in_sight p l f) (IsAtLine l.number)
sight_own p l form.Blank = tt
sight_own p l (form.Opening g) = opened_by_own l.number g p
sight_own p l (form.OpeningHost right) = opened_host_own l.number right p
sight_own p l (form.Closing k) = then_own l.number (after_closing k) (close_section l.number k p) (closed_own l.number k p)
sight_own p l form.ClosingWithWord = refl
sight_own p l form.OtherSection = refl
sight_own p l form.Directive = assigns_own l.number p (assignment l.bytes)

pub own_number : (p : Progress) (l : Line) → IfErr (after_line p l) (IsAtLine l.number)
own_number p l =
    choice (λ r. IfErr r (IsAtLine l.number)) (hides p.sections) (in_hiding p l (form_of l.bytes)) (in_sight p l (form_of l.bytes))
    (hiding_own p l (form_of l.bytes)) (sight_own p l (form_of l.bytes))

-- a line that is accepted leaves the refusal to those after it
passed : (r : Result Progress ConfFault) (f : Progress → Result Progress ConfFault) (g : Progress → Result Settings ConfFault) (q : Progress) (e : ConfFault)
    → ((p : Progress) → f p ≡ Ok q → g p ≡ Err e) → and_then r f ≡ Ok q → and_then r g ≡ Err e
passed (Ok p) f g q e ih h = ih p h
passed (Err d) f g q e ih h = absurd (cc)

-- the lines after some others are read from what stands after these
pub first_decides : (p q : Progress) (before later : List Line) (l : Line) (e : ConfFault) → after_lines p before ≡ Ok q → after_line q l ≡ Err e → settings_of p (before ++ l ∷ later) ≡ Err e
first_decides p q [] later l e h k =
    let same : p ≡ q = cc in
    let refused : after_line p l ≡ Err e = subst (λ r. after_line r l ≡ Err e) (sym same) k in
    rw refused refl
first_decides p q (b ∷ bs) later l e h k =
    passed (after_line p b) (λ r. after_lines r bs) (λ r. settings_of r (bs ++ l ∷ later)) q e (λ r g. first_decides r q bs later l e g k) h
