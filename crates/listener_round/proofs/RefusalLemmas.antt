-- What a restart is answered: the number of the generation that began, or why none did.
use Rattle.std.proofs.Common.{◌≡◌, ◌≢◌, ◌⊎◌, inl, inr, ◌<◌, ◌==◌, ℕ, ◌+◌, ◌-◌, suc, Bool, true, false, if◌then◌else◌, nat_lt, nat_le, List, [], ◌∷◌, ◌++◌, length, slice_get, take, Option, None, Some, option_map, IfSome, Result, Ok, Err, IfOk, OnOk, refl, sym, ap, subst, ◌∙◌, arith}
use Rattle.mpm_base.specs.Store.{Renews, StoreCounts, StoreSeen, StoreTold, after_renew, bytes_of}
use Rattle.mpm_base.specs.declared.store.File.{File}
use Rattle.media_types.specs.declared.types.TypePair.{TypePair}
use Rattle.mpm_config.specs.Config.{Configuration, most_pairs}
use Rattle.mpm_config.specs.Form.{form_of}
use Rattle.conf_text.specs.Line.{Line, logical_lines}
use Rattle.mpm_config.specs.HostName.{aliases_of, most_aliases}
use Rattle.mpm_config.specs.Reading.{ConfigAndWarnings, Progress, adds_names, adds_pairs, after_closing, after_line, and_then, assigns, at_end, close_innermost, close_section, close_shown, config_of, configuration_of, greatest_depth, hides, in_hiding, in_sight, is_same_kind, may_open_host, open_host, open_section, sets, sets_host, settings_of, start, text_len, text_settings}
use Rattle.mpm_config.specs.Setting.{AddsNames, AddsPairs, Assignment, Sets, assignment}
use Rattle.mpm_config.specs.Settings.{HostSettings, empty_host, with_host_setting, with_pairs}
use Rattle.mpm_config.specs.declared.fault.ConfFault.{ConfFault}
use Rattle.mpm_config.specs.declared.fault.ConfFault.TheVariants as conf
use Rattle.mpm_config.specs.declared.form.Form.{Form}
use Rattle.mpm_config.specs.declared.form.Form.TheVariants as form
use Rattle.mpm_config.specs.declared.form.Kind.{Kind}
use Rattle.mpm_config.specs.declared.form.Kind.TheVariants as kind
use Rattle.mpm_config.specs.declared.reader.Section.{Section}
use Rattle.mpm_config.specs.declared.setting.Setting.{Setting}
use Rattle.mpm_config.specs.declared.setting.Wrong.{Wrong}
use Rattle.mpm_config.specs.declared.setting.Wrong.TheVariants as wrong
use Rattle.type_words.specs.TypeWords.{pairs_of_words}
use Rattle.file_table.specs.Load.{MayLoad, is_limit}
use Rattle.file_table.specs.declared.load_fault.LoadFault.{LoadFault}
use Rattle.file_table.specs.declared.load_fault.LoadFault.TheVariants as load
use Rattle.restart_control.specs.Reload.{HasCause, IsNextConfig, LacksSite, RefusesConfig, order_of}
use Rattle.restart_control.specs.declared.plan.Plan.{Plan}
use Rattle.restart_control.specs.declared.reload_fault.ReloadFault.{ReloadFault}
use Rattle.restart_control.specs.declared.reload_fault.ReloadFault.TheVariants as fault
use Rattle.conn_machine.specs.declared.event.Refusal.{Refusal}
use Rattle.conn_machine.specs.declared.event.Refusal.TheVariants as refusal
use Rattle.conn_machine.specs.declared.state.State.{State}
use Rattle.board_book.specs.Book.{SeenBook}
use Rattle.command_answers.specs.Answers.{conf_answer_for, conf_line, late_answer, memory_answer, name_for, refused_answer}
use Rattle.run_opening.specs.Configured.{config_fault}
use Rattle.run_opening.specs.Sites.{IsSiteRefusedOf}
use Rattle.run_report.specs.Texts.{config_word}
use Rattle.run_report.specs.declared.texts.ConfigRefusal.{ConfigRefusal}
use Rattle.run_report.specs.declared.texts.ConfigRefusal.TheVariants as no
use Rattle.listener_round.specs.Generations.{Opening, renewed}
use Rattle.listener_round.specs.LineAnswers.{RefusesConf, RefusesSite, TellsConf}
use Rattle.listener_round.specs.OrdersInside.{AnswersPlan, AnswersRefusal, AnswersRestart, Carries, Refuses, reason_for}
use Rattle.listener_round.specs.Orders.{shape_by}
use Rattle.listener_round.specs.declared.edition.LoadedEdition.{LoadedEdition}
use Rattle.listener_round.specs.declared.edition.NamedConfig.{NamedConfig}
use Rattle.listener_round.proofs.PlanLemmas.{next-config}

-- ## A text is refused for what it has

-- no text is refused for want of memory
abbrev IsOfText : {A : Type 0} → Result A ConfFault → Type 0
IsOfText (Err conf.NoMemory) = ⊥
IsOfText other = Unit {0}

joined : {A B : Type 0} (r : Result A ConfFault) (f : A → Result B ConfFault) → IsOfText r → ((a : A) → IsOfText (f a)) → IsOfText (and_then r f)
joined (Ok a) f first rest = rest a
joined (Err (conf.NotText n)) f first rest = tt
joined (Err (conf.UnknownDirective n)) f first rest = tt
joined (Err (conf.BadValue n)) f first rest = tt
joined (Err (conf.BadSection n)) f first rest = tt
joined (Err (conf.Unclosed n)) f first rest = tt
joined (Err (conf.TooDeep n)) f first rest = tt
joined (Err conf.NoMemory) f first rest = absurd first

opened : (n : ℕ) (k : Kind) (shown : Bool) (p : Progress) → IsOfText (open_section n k shown p)
opened n k shown p = by (nat_lt (length p.sections) greatest_depth) where
  by : (fits : Bool)
      → IsOfText (if fits then Ok (record p { sections = p.sections ++ record { line = n; kind = k; shown = shown } ∷ [] }) else Err (conf.TooDeep n))
  by true = tt
  by false = tt

host-opened : (n : ℕ) (right : Bool) (p : Progress) → IsOfText (open_host n right p)
host-opened n right p = by (may_open_host right p) where
  by : (may : Bool) → IsOfText (if may then open_section n kind.Host true (record p { host = Some empty_host }) else Err (conf.BadSection n))
  by true = opened n kind.Host true (record p { host = Some empty_host })
  by false = tt

innermost-closed : (n : ℕ) (k : Kind) (p : Progress) (last : Option Section) → IsOfText (close_innermost n k p last)
innermost-closed n k p None = tt
innermost-closed n k p (Some s) = by (is_same_kind s.kind k) where
  by : (same : Bool) → IsOfText (if same then Ok (record p { sections = take (length p.sections - 1) p.sections }) else Err (conf.BadSection n))
  by true = tt
  by false = tt

closed : (n : ℕ) (k : Kind) (p : Progress) → IsOfText (close_section n k p)
closed n k p = innermost-closed n k p (slice_get p.sections (length p.sections - 1))

closed-in-sight : (n : ℕ) (k : Kind) (p : Progress) → IsOfText (close_shown n k p)
closed-in-sight n k p = joined (close_section n k p) (λ q. Ok (after_closing k q)) (closed n k p) (λ q. tt)

host-set : (n : ℕ) (p : Progress) (next : Option HostSettings) → IsOfText (sets_host n p next)
host-set n p None = tt
host-set n p (Some h) = tt

value-set : (n : ℕ) (p : Progress) (s : Setting) (v : List ℕ) (host : Option HostSettings) → IsOfText (sets n p s v host)
value-set n p s v None = tt
value-set n p s v (Some h) = host-set n p (with_host_setting h v s)

names-added : (n : ℕ) (p : Progress) (names : List (List ℕ)) (host : Option HostSettings) → IsOfText (adds_names n p names host)
names-added n p names None = tt
names-added n p names (Some h) = by (nat_le (length (h.aliases ++ names)) most_aliases) where
  by : (fits : Bool)
      → IsOfText (if fits then Ok (record p { host = Some (record h { aliases = h.aliases ++ names }) }) else Err (conf.BadValue n))
  by true = tt
  by false = tt

pairs-added : (n : ℕ) (p : Progress) (pairs : List TypePair) (host : Option HostSettings) → IsOfText (adds_pairs n p pairs host)
pairs-added n p pairs None = by (nat_le (length (p.settings.types.added ++ pairs)) most_pairs) where
  by : (fits : Bool) → IsOfText (if fits then Ok (record p { settings = with_pairs p.settings pairs }) else Err (conf.BadValue n))
  by true = tt
  by false = tt
pairs-added n p pairs (Some h) = tt

assigned : (n : ℕ) (p : Progress) (a : Result Assignment Wrong) → IsOfText (assigns n p a)
assigned n p (Ok (Sets s v)) = value-set n p s v p.host
assigned n p (Ok (AddsNames ws)) = names-added n p (aliases_of ws) p.host
assigned n p (Ok (AddsPairs ws)) = pairs-added n p (pairs_of_words ws) p.host
assigned n p (Err wrong.Name) = tt
assigned n p (Err wrong.Value) = tt

seen : (p : Progress) (l : Line) (f : Form) → IsOfText (in_sight p l f)
seen p l form.Blank = tt
seen p l (form.Opening None) = tt
seen p l (form.Opening (Some shown)) = opened l.number kind.Module shown p
seen p l (form.OpeningHost right) = host-opened l.number right p
seen p l (form.Closing k) = closed-in-sight l.number k p
seen p l form.ClosingWithWord = tt
seen p l form.OtherSection = tt
seen p l form.Directive = assigned l.number p (assignment l.bytes)

hidden : (p : Progress) (l : Line) (f : Form) → IsOfText (in_hiding p l f)
hidden p l form.Blank = tt
hidden p l (form.Opening guard) = opened l.number kind.Module true p
hidden p l (form.OpeningHost right) = opened l.number kind.Host true p
hidden p l (form.Closing k) = closed l.number k p
hidden p l form.ClosingWithWord = tt
hidden p l form.OtherSection = tt
hidden p l form.Directive = tt

one-line : (p : Progress) (l : Line) → IsOfText (after_line p l)
one-line p l = by (hides p.sections) where
  by : (hides : Bool) → IsOfText (if hides then in_hiding p l (form_of l.bytes) else in_sight p l (form_of l.bytes))
  by true = hidden p l (form_of l.bytes)
  by false = seen p l (form_of l.bytes)

last-open : (p : Progress) (last : Option Section) → IsOfText (at_end p last)
last-open p None = tt
last-open p (Some s) = tt

all-lines : (p : Progress) (ls : List Line) → IsOfText (settings_of p ls)
all-lines p [] = last-open p (slice_get p.sections (length p.sections - 1))
all-lines p (l ∷ ls) = joined (after_line p l) (λ q. settings_of q ls) (one-line p l) (λ q. all-lines q ls)

whole-text : (bytes : List ℕ) → IsOfText (text_settings bytes)
whole-text bytes = by (nat_lt (text_len bytes) (length bytes)) where
  by : (no_text : Bool) → IsOfText (if no_text then Err (conf.NotText (text_len bytes)) else settings_of start (logical_lines bytes))
  by true = tt
  by false = all-lines start (logical_lines bytes)

never-memory : (bytes : List ℕ) → config_of bytes ≢ Err conf.NoMemory
never-memory bytes is = subst (λ (r : Result ConfigAndWarnings ConfFault). IsOfText r) is (joined (text_settings bytes) (λ s. Ok (configuration_of s)) (whole-text bytes) (λ s. tt))

-- ## What the refusal of a configuration says

-- so a start tells it too
pub record HasWord (f : ConfFault) : Type 0 where
  pub why : ConfigRefusal
  pub number : ℕ
  pub fault_is : f ≡ config_fault why number

has-word : (f : ConfFault) → f ≢ conf.NoMemory → HasWord f
has-word (conf.NotText n) other = record { why = no.NotText; number = n; fault_is = refl }
has-word (conf.UnknownDirective n) other = record { why = no.UnknownDirective; number = n; fault_is = refl }
has-word (conf.BadValue n) other = record { why = no.BadValue; number = n; fault_is = refl }
has-word (conf.BadSection n) other = record { why = no.BadSection; number = n; fault_is = refl }
has-word (conf.Unclosed n) other = record { why = no.Unclosed; number = n; fault_is = refl }
has-word (conf.TooDeep n) other = record { why = no.TooDeep; number = n; fault_is = refl }
has-word conf.NoMemory other = absurd (other refl)

-- what is told of a renewed store, where the one that it was renewed from tells anything
pub if-renewed : (P : StoreTold → Type 0) (orders : ℕ) (first next : Option StoreTold) → next ≡ option_map (renewed orders) first → IfSome next P
    → IfSome first (λ t. P (renewed orders t))
if-renewed P orders None next is so = tt
if-renewed P orders (Some t) next is so = subst (λ (x : Option StoreTold). IfSome x P) is so

-- the next edition is one order further
pub renewed-once : (orders : ℕ) (first now next : Option StoreTold) → now ≡ option_map (renewed orders) first → next ≡ option_map after_renew now
    → next ≡ option_map (renewed (orders + 1)) first
renewed-once orders None now next is further = further ∙ ap (option_map after_renew) is
renewed-once orders (Some t) now next is further =
    let more : orders + 1 ≡ suc orders = omega arith in
    further ∙ ap (option_map after_renew) is ∙ ap (λ (n : ℕ). Some (renewed n t)) (sym more)

-- ## What a restart is answered

-- it comes too late
pub late-says : (c : NamedConfig) (store : StoreSeen) → AnswersRefusal c store refusal.Late late_answer
late-says c store o orders by told = refl

mapped : {P Q : StoreTold → Type 0} (told : Option StoreTold) → ((t : StoreTold) → P t → Q t) → IfSome told P → IfSome told Q
mapped None each so = tt
mapped (Some t) each so = each t so

-- the configuration is refused
word-says : (why : ConfigRefusal) (number : ℕ) → conf_answer_for (config_fault why number) ≡ conf_line number (config_word why)
word-says no.NotText number = refl
word-says no.UnknownDirective number = refl
word-says no.BadValue number = refl
word-says no.BadSection number = refl
word-says no.Unclosed number = refl
word-says no.TooDeep number = refl

conf-says : (o : Opening) (edition : ℕ) (next : Option StoreTold) (name : List ℕ) (counts counts' : StoreCounts) (f : ConfFault)
    → next ≡ option_map (renewed edition) o.store.told → o.name ≡ name → RefusesConfig next name counts counts' f → TellsConf o edition (conf_answer_for f)
conf-says o edition next name counts counts' f is named (inl large) =
    let named-so : (files : List File) (text : List ℕ) → bytes_of name files ≡ Some text → bytes_of o.name files ≡ Some text =
    λ files text found. subst (λ (x : List ℕ). bytes_of x files ≡ Some text) (sym named) found in
    record {
      why = no.BadValue;
      number = 0;
      says = ap conf_answer_for large.fault_is;
      refused = if-renewed (λ t. RefusesConf o t no.BadValue 0) edition o.store.told next is
          (mapped next
          (λ t found. record { text = found.0; found = named-so t.files found.0 found.1; refused = inl (record { many = found.2; why_is = refl; number_is = refl }) })
          large.large);
    }
conf-says o edition next name counts counts' f is named (inr bad) =
    let word = has-word f (λ none. never-memory bad.text (bad.refused ∙ ap (λ (x : ConfFault). Err x) none)) in
    record {
      why = word.why;
      number = word.number;
      says = ap conf_answer_for word.fault_is ∙ word-says word.why word.number;
      refused = if-renewed (λ t. RefusesConf o t word.why word.number) edition o.store.told next is
          (mapped next
          (λ t found. record {
            text = bad.text;
            found = subst (λ (x : List ℕ). bytes_of x t.files ≡ Some bad.text) (sym named) found;
            refused = inr (record { few = bad.has.few; refused = bad.refused ∙ ap (λ (x : ConfFault). Err x) word.fault_is });
          })
          bad.has.file);
    }

-- there is no site by it
no-site : (files : List File) (c : Configuration) (f : LoadFault) (root : List ℕ) → root ≡ c.root → is_limit f ≡ true → MayLoad (order_of c) files (Err f)
    → IsSiteRefusedOf files c (name_for f root)
no-site files c load.StoreFault root root_is limit lacks = absurd (cc limit)
no-site files c (load.TooMany name) root root_is limit lacks = inl (record { many = lacks })
no-site files c (load.TooLarge name size) root root_is limit lacks = inr (record { size = size; large = lacks })
no-site files c load.NoMemory root root_is limit lacks = absurd (cc limit)

site-refused : (o : Opening) (edition : ℕ) (first next : Option StoreTold) (name : List ℕ) (running : Configuration) (counts counts' : StoreCounts) (f : LoadFault)
    (root : List ℕ) → next ≡ option_map (renewed edition) first → o.name ≡ name → o.config ≡ running → LacksSite next name running counts counts' f root
    → IfSome first (λ t. RefusesSite o (renewed edition t) (name_for f root))
site-refused o edition None next name running counts counts' f root is named configured lacks = tt
site-refused o edition (Some t) next name running counts counts' f root is named configured lacks =
    let there = renewed edition t in
    let has : IsNextConfig (Some there) o.name o.config lacks.config =
    subst (λ (x : Option StoreTold). IsNextConfig x o.name o.config lacks.config) is
    (subst (λ (x : List ℕ). IsNextConfig next x o.config lacks.config) (sym named)
    (subst (λ (x : Configuration). IsNextConfig next name x lacks.config) (sym configured) lacks.has)) in
    let loads : MayLoad (order_of lacks.config) there.files (Err f) =
    subst (λ (x : Option StoreTold). IfSome x (λ t. MayLoad (order_of lacks.config) t.files (Err f))) is lacks.lacks in
    record {
      config = lacks.config;
      accepted = next-config there o.name o.config lacks.config has;
      refused = no-site there.files lacks.config f root lacks.root_is lacks.limit loads;
    }

-- it was refused for what the store made of its next edition
pub cause-says : (c : NamedConfig) (s s' : StoreSeen) (why : ReloadFault) → Renews s s' → HasCause s'.told c.name.now c.config.now s.counts s'.counts why
    → AnswersRefusal c s (reason_for why) (refused_answer why)
cause-says c s s' fault.Absent renews cause o orders by is = refl
cause-says c s s' (fault.Conf f) renews cause o orders by is =
    conf-says o (orders + 1) s'.told c.name.now s.counts s'.counts f (renewed-once orders o.store.told s.told s'.told is renews.told_is) by.name cause
cause-says c s s' (fault.Load f root) renews cause o orders by is = record {
  name = name_for f root;
  says = refl;
  refused = site-refused o (orders + 1) o.store.told s'.told c.name.now c.config.now s.counts s'.counts f root
      (renewed-once orders o.store.told s.told s'.told is renews.told_is) by.name by.config cause;
}
cause-says c s s' fault.StoreFault renews cause o orders by is = refl
cause-says c s s' fault.NoMemory renews cause o orders by is = refl

-- it was refused by an event for the reason, and answered with a text that says so
pub answers-refused : {E : Type 0} (c : NamedConfig) (store : StoreSeen) (a b : SeenBook) (reason : Refusal) (text : List ℕ) (r : Result (List ℕ) E)
    → OnOk r (Refuses reason a b) → IfOk r (λ says. says ≡ text) → AnswersRefusal c store reason text → IfOk r (AnswersRestart c store a b)
answers-refused c store a b reason text (Err e) refuses is says = tt
answers-refused c store a b reason text (Ok answer) refuses is says =
    inr (record { reason = reason; refuses = refuses; says = subst (AnswersRefusal c store reason) (sym is) says })

-- a plan was carried out, or memory lacked for that
pub answers-carried : {E : Type 0} (c : NamedConfig) (store : StoreSeen) (plan : Plan) (a b : SeenBook) (e e' : LoadedEdition) (r : Result (List ℕ) E)
    → OnOk r (Carries plan a b e e') → IfOk r (AnswersPlan a b) → IfOk r (AnswersRestart c store a b)
answers-carried c store plan a b e e' (Err fault) carries answers = tt
answers-carried c store plan a b e e' (Ok text) (inl begins) (inl newest) =
    inl (record { shape = shape_by plan.config; acts = begins.acts; says = newest.1 })
answers-carried c store plan a b e e' (Ok text) (inr lacks) (inl newest) =
    absurd (omega (arith, newest.0, ap (λ (s : State). s.newest) lacks.refuses.state))
answers-carried c store plan a b e e' (Ok text) carries (inr refused) =
    inr (record { reason = refusal.NoMemory; refuses = refused.0; says = λ o orders by told. refused.1 })

-- memory lacked for a plan
pub plan-refused : {E : Type 0} (a b : SeenBook) (text : List ℕ) (r : Result (List ℕ) E) → text ≡ memory_answer → OnOk r (Refuses refusal.NoMemory a b)
    → IfOk r (λ says. says ≡ text) → IfOk r (AnswersPlan a b)
plan-refused a b text (Err e) is refuses says = tt
plan-refused a b text (Ok answer) is refuses says = inr (refuses, says ∙ is)
