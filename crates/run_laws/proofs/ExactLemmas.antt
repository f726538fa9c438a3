-- That each exit status comes where its cause is, by what the words ask for.
use Rattle.std.proofs.Common.{◌≡◌, ◌⊎◌, inl, inr, ℕ, ◌<◌, ◌≤◌, ◌++◌, List, length, None, Some, IsSome, Ok, Err, option_map, is_some, sym, ap, subst, ◌∙◌, arith}
use Rattle.mpm_base.specs.Count.{Rises}
use Rattle.mpm_base.specs.Store.{StoreTold, bytes_of}
use Rattle.mpm_base.specs.declared.script_line.CommandWord.{CommandWord}
use Rattle.mpm_base.specs.declared.script_line.ScriptLine.{ScriptLine}
use Rattle.mpm_config.specs.Config.{Configuration}
use Rattle.mpm_script.specs.Script.{ScriptIs}
use Rattle.restart_control.specs.Reload.{most_config, order_of}
use Rattle.file_table.specs.Load.{IsWithinLimits}
use Rattle.file_table.specs.Site.{IsSiteOf, SeenSite}
use Rattle.command_words.specs.Invocations.{NamesConfig, loads, plays, sends, serves, tests}
use Rattle.run_opening.specs.Calls.{HadConfigAccepted, HasConfigAccepted, LoadsSite, StoreFailed}
use Rattle.run_opening.specs.Configured.{Configures, IsNoConfig, IsRefused, warnings_of}
use Rattle.run_opening.specs.Sites.{IsSiteRefusedOf}
use Rattle.run_report.specs.Texts.{syntax_ok}
use Rattle.run_report.specs.Written.{LeavesUnwritten}
use Rattle.run_report.specs.declared.texts.ConfigRefusal.{ConfigRefusal}
use Rattle.run_report.specs.declared.texts.ScriptRefusal.{ScriptRefusal}
use Rattle.script_run.specs.Played.{HasPlayed}
use Rattle.script_run.specs.ScriptRefusals.{fault_at}
use Rattle.script_run.specs.Scripts.{HasConfig, HasScriptSite, IsSiteRefused, most_script}
use Rattle.script_run.specs.declared.scripted.Scripted.{Scripted}
use Rattle.server_run.specs.Ends.{EndsRestartRefused, IsUnbound}
use Rattle.run_laws.specs.Exact.{EndsShowing, HasWritten, LacksIt, UnlessFailing}
use Rattle.run_laws.specs.Grounds.{AsksLines, HasFitScript, HasLargeScript, HasNoConfig, HasNoSite, HasUnfitScript, LacksNamed, SendsBy, ServesBy, ServesSite, TellsFile, TestsFit, WritesConfig, WritesSite}
use Rattle.run_laws.specs.Outcomes.{IsOutcome, SeenOutcome}
use Rattle.run_laws.proofs.WayLemmas.{ConfigWays, LoadWays, OneForm, PlayWays, ScriptWays, SendWays, ServeWays, TestWays, config_large, config_unfit, config_unread, ended-as, holds-of, loads_on, misconfigured, play_unsited, played, plays_on, restart_refused, script_large, script_unfit, script_unread, send_unconfigured, sent, sent_unwritten, serve_unconfigured, serve_unsited, served, test_unconfigured, test_unwritten, tested, unbound, uncontrolled, undialled, unloaded}
use Rattle.run_laws.proofs.FileLemmas.{OneAnswer, had-accepted, had-config, large-file, missing-file, one-config, one-number, refused-accepted, same-bytes, same-line, sure-fault, unread-fails, written-whole}

-- ## A configuration that the words name

-- it ended there, or the configuration is accepted
abbrev NamedWays : SeenOutcome → List ℕ → Type 0
NamedWays o name = ConfigWays o name ⊎ ((c : Configuration) × HadConfigAccepted o.call name c)

serve-named : (o : SeenOutcome) (name : List ℕ) → ServeWays o name → NamedWays o name
serve-named o name (serve_unconfigured way) = inl way
serve-named o name (unloaded three c accepted failed) = inr (c, had-accepted o.call name c accepted)
serve-named o name (serve_unsited nine c for accepted refused shows) = inr (c, had-accepted o.call name c accepted)
serve-named o name (unbound four c site accepted loaded front) = inr (c, had-accepted o.call name c accepted)
serve-named o name (served b c site some accepted loaded) = inr (c, accepted)

test-named : (o : SeenOutcome) (name : List ℕ) → TestWays o name → NamedWays o name
test-named o name (test_unconfigured way) = inl way
test-named o name (tested zero c accepted shows text) = inr (c, had-accepted o.call name c accepted)
test-named o name (test_unwritten five c accepted shows unwritten) = inr (c, had-accepted o.call name c accepted)

send-named : (o : SeenOutcome) (word : CommandWord) (name : List ℕ) → SendWays o word name → NamedWays o name
send-named o word name (send_unconfigured way) = inl way
send-named o word name (uncontrolled ten c accepted control shows) = inr (c, had-accepted o.call name c accepted)
send-named o word name (sent zero c port accepted control shows ends) = inr (c, had-accepted o.call name c accepted)
send-named o word name (sent_unwritten five c port accepted control shows ends) = inr (c, had-accepted o.call name c accepted)
send-named o word name (restart_refused twelve c port accepted control shows ends) = inr (c, had-accepted o.call name c accepted)
send-named o word name (undialled four c port accepted control shows dials) = inr (c, had-accepted o.call name c accepted)

-- where the named configuration is accepted none of these came, but a call of the store that failed
config-fails : (o : SeenOutcome) (name bytes : List ℕ) (c : Configuration) → TellsFile o.call name bytes → Configures bytes c → ConfigWays o name
    → (o.status ≡ 3) × StoreFailed o.call
config-fails o name bytes c file accepted (config_unread three unread) = (three, unread-fails o.call name bytes file unread)
config-fails o name bytes c file accepted (config_large one refused shows) =
    let large = large-file most_config o.call name bytes file refused in absurd (omega (arith, large, accepted.few))
config-fails o name bytes c file accepted (config_unfit one other number why has refused shows) =
    let same = same-bytes o.call name bytes other file.t file.told file.found has.file in
    absurd (refused-accepted bytes why number c (inr (subst (λ (bs : List ℕ). IsRefused bs why number) same refused)) accepted)

-- ## Each call

-- the laws of words and of scripts, and a call
module _ (one : OneForm) (answer : OneAnswer) (o : SeenOutcome) (is : IsOutcome o) where
  -- what a call with a named configuration came to
  named-ways : (name : List ℕ) → NamesConfig o.call.words name → NamedWays o name ⊎ (o.status ≡ 6)
  named-ways name (inl serve) =
      elim (ended-as one o is (serves name) serve) [ inl way ↦ inl (serve-named o name way) | inr six ↦ inr six ]
  named-ways name (inr (inl test)) =
      elim (ended-as one o is (tests name) test) [ inl way ↦ inl (test-named o name way) | inr six ↦ inr six ]
  named-ways name (inr (inr send)) =
      elim (ended-as one o is (sends send.0 name) send.1) [ inl way ↦ inl (send-named o send.0 name way) | inr six ↦ inr six ]

  -- ## 3

  missing-config : (name : List ℕ) (t : StoreTold) → o.call.store.told ≡ Some t → bytes_of name t.files ≡ None → NamedWays o name
      → EndsShowing o 3 (Some 0)
  missing-config name t told none (inl (config_unread three unread)) =
      elim unread.cause [ inl missing ↦ inl (three, missing.0) | inr failed ↦ inr (inr (three, failed.1)) ]
  missing-config name t told none (inl (config_large one refused shows)) =
      let large = holds-of _ o.call.store.told t told refused.large in absurd (cc (large.1, none))
  missing-config name t told none (inl (config_unfit one other number why has refused shows)) =
      absurd (missing-file o.call name other t told none has.file)
  missing-config name t told none (inr accepted) = absurd (missing-file o.call name accepted.1.bytes t told none accepted.1.file)

  missing-script : (name : List ℕ) (t : StoreTold) → o.call.store.told ≡ Some t → bytes_of name t.files ≡ None → ScriptWays o name
      → EndsShowing o 3 (Some 0)
  missing-script name t told none (script_unread three unread) =
      elim unread.cause [ inl missing ↦ inl (three, missing.0) | inr failed ↦ inr (inr (three, failed.1)) ]
  missing-script name t told none (script_large eight refused shows) =
      let large = holds-of _ o.call.store.told t told refused.large in absurd (cc (large.1, none))
  missing-script name t told none (script_unfit eight other line why has refused shows) =
      absurd (missing-file o.call name other t told none has.file)
  missing-script name t told none (plays_on other lines has script way) = absurd (missing-file o.call name other t told none has.file)

  pub missing-ends : LacksNamed o.call → EndsShowing o 3 (Some 0)
  missing-ends lacks =
      elim lacks.command [
        | inl script ↦ elim (ended-as one o is (plays lacks.name) script) [
          | inl way ↦ missing-script lacks.name lacks.t lacks.told lacks.none way
          | inr six ↦ inr (inl six)
        ]
        | inr config ↦ elim (named-ways lacks.name config) [
          | inl way ↦ missing-config lacks.name lacks.t lacks.told lacks.none way
          | inr six ↦ inr (inl six)
        ]
      ]

  -- ## 8

  large-ends : (name bytes : List ℕ) → TellsFile o.call name bytes → most_script < length bytes → ScriptWays o name → EndsShowing o 8 (Some 0)
  large-ends name bytes file large (script_unread three unread) = inr (inr (three, unread-fails o.call name bytes file unread))
  large-ends name bytes file large (script_large eight refused shows) = inl (eight, shows)
  large-ends name bytes file large (script_unfit eight other line why has refused shows) =
      let same = same-bytes o.call name bytes other file.t file.told file.found has.file in
      let few = subst (λ (bs : List ℕ). length bs ≤ most_script) same has.few in absurd (omega (arith, few, large))
  large-ends name bytes file large (plays_on other lines has script way) =
      let same = same-bytes o.call name bytes other file.t file.told file.found has.file in
      let few = subst (λ (bs : List ℕ). length bs ≤ most_script) same has.few in absurd (omega (arith, few, large))

  pub large-script-ends : HasLargeScript o.call → EndsShowing o 8 (Some 0)
  large-script-ends has =
      elim (ended-as one o is (plays has.name) has.command) [
        | inl way ↦ large-ends has.name has.bytes has.file has.large way
        | inr six ↦ inr (inl six)
      ]

  unfit-ends : (name bytes : List ℕ) (why : ScriptRefusal) (line : ℕ) → TellsFile o.call name bytes → length bytes ≤ most_script
      → ScriptIs bytes (Err (fault_at why line)) → ScriptWays o name → EndsShowing o 8 (Some line)
  unfit-ends name bytes why line file few refused (script_unread three unread) = inr (inr (three, unread-fails o.call name bytes file unread))
  unfit-ends name bytes why line file few refused (script_large eight large shows) =
      let many = large-file most_script o.call name bytes file large in absurd (omega (arith, few, many))
  unfit-ends name bytes why line file few refused (script_unfit eight other line' why' has refused' shows) =
      let same = same-bytes o.call name bytes other file.t file.told file.found has.file in
      let there = subst (λ (bs : List ℕ). ScriptIs bs (Err (fault_at why' line'))) same refused' in
      let equal = answer bytes (Err (fault_at why' line')) (Err (fault_at why line)) there refused (sure-fault why' line') (sure-fault why line) in
      let fault : fault_at why' line' ≡ fault_at why line = cc equal in
      inl (eight, shows ∙ ap (λ (n : ℕ). Some n) (same-line why' why line' line fault))
  unfit-ends name bytes why line file few refused (plays_on other lines has script way) =
      let same = same-bytes o.call name bytes other file.t file.told file.found has.file in
      let there = subst (λ (bs : List ℕ). ScriptIs bs (Ok lines)) same script in
      let equal = answer bytes (Ok lines) (Err (fault_at why line)) there refused tt (sure-fault why line) in absurd (cc equal)

  pub unfit-script-ends : (why : ScriptRefusal) (line : ℕ) → HasUnfitScript o.call why line → EndsShowing o 8 (Some line)
  unfit-script-ends why line has =
      elim (ended-as one o is (plays has.name) has.command) [
        | inl way ↦ unfit-ends has.name has.bytes why line has.file has.few has.refused way
        | inr six ↦ inr (inl six)
      ]

  -- ## Lines that are to be played

  fit-plays : (lines : List ScriptLine) (fit : HasFitScript o.call lines) → ScriptWays o fit.name
      → PlayWays o lines ⊎ ((o.status ≡ 3) × StoreFailed o.call)
  fit-plays lines fit (script_unread three unread) = inr (three, unread-fails o.call fit.name fit.bytes fit.file unread)
  fit-plays lines fit (script_large eight large shows) =
      let many = large-file most_script o.call fit.name fit.bytes fit.file large in absurd (omega (arith, fit.few, many))
  fit-plays lines fit (script_unfit eight other line why has refused shows) =
      let same = same-bytes o.call fit.name fit.bytes other fit.file.t fit.file.told fit.file.found has.file in
      let there = subst (λ (bs : List ℕ). ScriptIs bs (Err (fault_at why line))) same refused in
      let equal = answer fit.bytes (Ok lines) (Err (fault_at why line)) fit.script there tt (sure-fault why line) in absurd (cc equal)
  fit-plays lines fit (plays_on other lines' has script way) =
      let same = same-bytes o.call fit.name fit.bytes other fit.file.t fit.file.told fit.file.found has.file in
      let there = subst (λ (bs : List ℕ). ScriptIs bs (Ok lines')) same script in
      let equal = answer fit.bytes (Ok lines') (Ok lines) there fit.script tt tt in
      let lines_are : lines' ≡ lines = cc equal in
      inl (subst (PlayWays o) lines_are way)

  asked-ways : (lines : List ScriptLine) → AsksLines o.call lines → UnlessFailing o (PlayWays o lines)
  asked-ways lines (inl fit) =
      elim (ended-as one o is (plays fit.name) fit.command) [
        | inl way ↦ elim (fit-plays lines fit way) [ inl play ↦ inl play | inr failed ↦ inr (inr failed) ]
        | inr six ↦ inr (inl six)
      ]
  asked-ways lines (inr load) =
      elim (ended-as one o is (loads load.count) load.command) [
        | inl way ↦ inl (load-plays way)
        | inr six ↦ inr (inl six)
      ]
    where
      load-plays : LoadWays o load.count → PlayWays o lines
      load-plays (loads_on lines' lines_are way) = subst (PlayWays o) (lines_are ∙ sym load.lines_are) way

  -- ## 1

  -- the text of the lines is one
  same-text : (lines : List ScriptLine) (text text' : List ℕ) → HasConfig lines text → HasConfig lines text' → text' ≡ text
  same-text lines text text' has has' = cc (has, has')

  played-config : (lines : List ScriptLine) (text : List ℕ) (s : Scripted) → HasConfig lines text
      → HasPlayed o.call s.config s.board s.front s.clock s.store o.status → s.front.script ≡ lines → Configures text s.config
  played-config lines text s has kept script =
      let same = same-text lines text kept.config has (subst (λ (ls : List ScriptLine). HasConfig ls kept.config) script kept.config_is) in
      subst (λ (bs : List ℕ). Configures bs s.config) same kept.accepted

  unwritten-config : (lines : List ScriptLine) (text : List ℕ) (why : ConfigRefusal) (number : ℕ) → HasConfig lines text → IsNoConfig text why number
      → PlayWays o lines → EndsShowing o 1 (Some number)
  unwritten-config lines text why number has refused (misconfigured first text' why' number' has' refused' shows) =
      let same = same-text lines text text' has has' in
      let there = subst (λ (bs : List ℕ). IsNoConfig bs why' number') same refused' in
      inl (first, shows ∙ ap (λ (n : ℕ). Some n) (one-number text why why' number number' refused there))
  unwritten-config lines text why number has refused (play_unsited nine text' c name has' accepted unsited shows) =
      let same = same-text lines text text' has has' in
      absurd (refused-accepted text why number c refused (subst (λ (bs : List ℕ). Configures bs c) same accepted))
  unwritten-config lines text why number has refused (played s some kept script) =
      absurd (refused-accepted text why number s.config refused (played-config lines text s has kept script))

  unfit-config : (name bytes : List ℕ) (why : ConfigRefusal) (number : ℕ) → TellsFile o.call name bytes → IsNoConfig bytes why number → NamedWays o name
      → EndsShowing o 1 (Some number)
  unfit-config name bytes why number file refused (inl (config_unread three unread)) = inr (inr (three, unread-fails o.call name bytes file unread))
  unfit-config name bytes why number file (inl long) (inl (config_large first large shows)) =
      inl (first, shows ∙ ap (λ (n : ℕ). Some n) (sym long.number_is))
  unfit-config name bytes why number file (inr refused) (inl (config_large first large shows)) =
      let many = large-file most_config o.call name bytes file large in absurd (omega (arith, refused.few, many))
  unfit-config name bytes why number file refused (inl (config_unfit first other number' why' has refused' shows)) =
      let same = same-bytes o.call name bytes other file.t file.told file.found has.file in
      let there = subst (λ (bs : List ℕ). IsRefused bs why' number') same refused' in
      inl (first, shows ∙ ap (λ (n : ℕ). Some n) (one-number bytes why why' number number' refused (inr there)))
  unfit-config name bytes why number file refused (inr accepted) =
      let had = accepted.1 in
      let same = same-bytes o.call name bytes had.bytes file.t file.told file.found had.file in
      absurd (refused-accepted bytes why number accepted.0 refused (subst (λ (bs : List ℕ). Configures bs accepted.0) same had.accepted))

  pub config-ends : (why : ConfigRefusal) (number : ℕ) → HasNoConfig o.call why number → EndsShowing o 1 (Some number)
  config-ends why number (inl writes) =
      elim (asked-ways writes.lines writes.asks) [
        | inl play ↦ unwritten-config writes.lines writes.text why number writes.text_is writes.refused play
        | inr other ↦ inr other
      ]
  config-ends why number (inr unfit) =
      elim (named-ways unfit.name unfit.command) [
        | inl way ↦ unfit-config unfit.name unfit.bytes why number unfit.file unfit.refused way
        | inr six ↦ inr (inl six)
      ]

  -- ## 9

  written-config : (lines : List ScriptLine) (c : Configuration) → WritesConfig o.call lines c → PlayWays o lines
      → ((o.status ≡ 9) × (o.call.shown ≡ None) × ((name : List ℕ) × IsSiteRefused lines c name))
      ⊎ ((s : Scripted) × (o.scripted ≡ Some s) × ((site : SeenSite) × HasScriptSite lines c site))
  written-config lines c writes (misconfigured first text' why number has' refused shows) =
      let same = same-text lines writes.text text' writes.text_is has' in
      absurd (refused-accepted writes.text why number c (subst (λ (bs : List ℕ). IsNoConfig bs why number) same refused) writes.accepted)
  written-config lines c writes (play_unsited nine text' c' name has' accepted unsited shows) =
      let same = same-text lines writes.text text' writes.text_is has' in
      let config = one-config writes.text c c' writes.accepted (subst (λ (bs : List ℕ). Configures bs c') same accepted) in
      inl (nine, shows, (name, subst (λ (x : Configuration). IsSiteRefused lines x name) config unsited))
  written-config lines c writes (played s some kept script) =
      let config = one-config writes.text c s.config writes.accepted (played-config lines writes.text s writes.text_is kept script) in
      inr (
        s,
        some,
        (
          kept.site,
          subst (λ (x : Configuration). HasScriptSite lines x kept.site) config
              (subst (λ (ls : List ScriptLine). HasScriptSite ls s.config kept.site) script kept.site_is),
        ),
      )

  -- what a server came to whose configuration is accepted
  by-file : (c : Configuration) (t : StoreTold) (by : ServesBy o.call c t) → TellsFile o.call by.name by.bytes
  by-file c t by = record { t = t; told = by.told; found = by.found }

  by-config : (c : Configuration) (t : StoreTold) (by : ServesBy o.call c t) (c' : Configuration) → HadConfigAccepted o.call by.name c' → c' ≡ c
  by-config c t by c' had = had-config o.call by.name by.bytes c c' (by-file c t by) by.accepted had

  by-site : (c : Configuration) (t : StoreTold) (by : ServesBy o.call c t) (c' : Configuration) (site : SeenSite) → HadConfigAccepted o.call by.name c'
      → LoadsSite o.call c' site → (site : SeenSite) × IsSiteOf (order_of c) t.files site × IsWithinLimits site
  by-site c t by c' site had loaded = (
    site,
    subst (λ (x : Configuration). IsSiteOf (order_of x) t.files site) (by-config c t by c' had)
        (holds-of _ o.call.store.told t by.told loaded.is_site),
    loaded.within,
  )

  served-config : (c : Configuration) (t : StoreTold) (by : ServesBy o.call c t) → ServeWays o by.name
      → ((o.status ≡ 3) × StoreFailed o.call)
      ⊎ ((o.status ≡ 9) × (o.call.shown ≡ None) × ((name : List ℕ) × IsSiteRefusedOf t.files c name))
      ⊎ ((IsSome o.board ⊎ ((o.status ≡ 4) × IsUnbound o.call o.front o.front'))
      × ((site : SeenSite) × IsSiteOf (order_of c) t.files site × IsWithinLimits site))
  served-config c t by (serve_unconfigured way) = inl (config-fails o by.name by.bytes c (by-file c t by) by.accepted way)
  served-config c t by (unloaded three c' accepted failed) = inl (three, failed)
  served-config c t by (serve_unsited nine c' name accepted refused shows) =
      inr (inl (
        nine,
        shows,
        (
          name,
          subst (λ (x : Configuration). IsSiteRefusedOf t.files x name) (by-config c t by c' (had-accepted o.call by.name c' accepted))
              (holds-of _ o.call.store.told t by.told refused.lacks),
        ),
      ))
  served-config c t by (unbound four c' site accepted loaded front) =
      inr (inr (inr (four, front), by-site c t by c' site (had-accepted o.call by.name c' accepted) loaded))
  served-config c t by (served b c' site some had loaded) =
      inr (inr (inl (ap is_some some), by-site c t by c' site had loaded))

  pub site-ends : HasNoSite o.call → EndsShowing o 9 None
  site-ends (inl writes) =
      elim (asked-ways writes.lines writes.writes.asks) [
        | inl play ↦ elim (written-config writes.lines writes.config writes.writes play) [
          | inl unsited ↦ inl (unsited.0, unsited.1)
          | inr opened ↦ absurd (writes.none opened.2.0 opened.2.1)
        ]
        | inr other ↦ inr other
      ]
  site-ends (inr by) =
      elim (ended-as one o is (serves by.serves.name) by.serves.command) [
        | inl way ↦ elim (served-config by.config by.t by.serves way) [
          | inl failed ↦ inr (inr failed)
          | inr other ↦ elim other [
            | inl unsited ↦ inl (unsited.0, unsited.1)
            | inr opened ↦ absurd (by.none opened.1.0 opened.1.1 opened.1.2)
          ]
        ]
        | inr six ↦ inr (inl six)
      ]

  -- ## Runs that open

  pub plays-opens : WritesSite o.call → UnlessFailing o (IsSome o.scripted)
  plays-opens writes =
      elim (asked-ways writes.lines writes.writes.asks) [
        | inl play ↦ elim (written-config writes.lines writes.config writes.writes play) [
          | inl unsited ↦ absurd (writes.fits unsited.2.0 unsited.2.1)
          | inr opened ↦ inl (ap is_some opened.1)
        ]
        | inr other ↦ inr other
      ]

  pub serves-opens : ServesSite o.call → UnlessFailing o (IsSome o.board ⊎ ((o.status ≡ 4) × IsUnbound o.call o.front o.front'))
  serves-opens by =
      elim (ended-as one o is (serves by.serves.name) by.serves.command) [
        | inl way ↦ elim (served-config by.config by.t by.serves way) [
          | inl failed ↦ inr (inr failed)
          | inr other ↦ elim other [
            | inl unsited ↦ absurd (by.fits unsited.2.0 unsited.2.1)
            | inr opened ↦ inl opened.0
          ]
        ]
        | inr six ↦ inr (inl six)
      ]

  -- ## Tests and commands

  tested-ends : (c : Configuration) (fit : TestsFit o.call c) → HasWritten o.call.sink o.call.sink' (warnings_of c ++ syntax_ok) → TestWays o fit.name
      → EndsShowing o 0 None
  tested-ends c fit written (test_unconfigured way) = inr (inr (config-fails o fit.name fit.bytes c fit.file fit.accepted way))
  tested-ends c fit written (tested zero c' accepted shows text) = inl (zero, shows)
  tested-ends c fit written (test_unwritten five c' accepted shows unwritten) =
      let same = had-config o.call fit.name fit.bytes c c' fit.file fit.accepted (had-accepted o.call fit.name c' accepted) in
      absurd (written-whole o.call.sink o.call.sink' (warnings_of c ++ syntax_ok) written
      (subst (λ (x : Configuration). LeavesUnwritten o.call.sink o.call.sink' (warnings_of x ++ syntax_ok)) same unwritten))

  pub tests-well : (c : Configuration) → TestsFit o.call c → HasWritten o.call.sink o.call.sink' (warnings_of c ++ syntax_ok) → EndsShowing o 0 None
  tests-well c fit written =
      elim (ended-as one o is (tests fit.name) fit.command) [ inl way ↦ tested-ends c fit written way | inr six ↦ inr (inl six) ]

  untold-ends : (c : Configuration) (fit : TestsFit o.call c) → LacksIt o.call.sink o.call.sink' (warnings_of c ++ syntax_ok) → TestWays o fit.name
      → EndsShowing o 5 None
  untold-ends c fit lacks (test_unconfigured way) = inr (inr (config-fails o fit.name fit.bytes c fit.file fit.accepted way))
  untold-ends c fit lacks (tested zero c' accepted shows text) =
      let same = had-config o.call fit.name fit.bytes c c' fit.file fit.accepted (had-accepted o.call fit.name c' accepted) in
      absurd (lacks (subst (λ (x : Configuration). o.call.sink'.told ≡ option_map (λ written. written ++ (warnings_of x ++ syntax_ok)) o.call.sink.told) same text))
  untold-ends c fit lacks (test_unwritten five c' accepted shows unwritten) = inl (five, shows)

  pub tests-unwritten : (c : Configuration) → TestsFit o.call c → LacksIt o.call.sink o.call.sink' (warnings_of c ++ syntax_ok) → EndsShowing o 5 None
  tests-unwritten c fit lacks =
      elim (ended-as one o is (tests fit.name) fit.command) [ inl way ↦ untold-ends c fit lacks way | inr six ↦ inr (inl six) ]

  -- the configuration that was accepted is that of the file
  sends-config : (word : CommandWord) (c : Configuration) (by : SendsBy o.call word c) (c' : Configuration) → HasConfigAccepted o.call by.name c' → c' ≡ c
  sends-config word c by c' accepted = had-config o.call by.name by.bytes c c' by.file by.accepted (had-accepted o.call by.name c' accepted)

  -- so where that has no control line nothing was dialled
  never-dialled : (word : CommandWord) (c : Configuration) (by : SendsBy o.call word c) (c' : Configuration) (port : ℕ) → c.control ≡ None
      → HasConfigAccepted o.call by.name c' → c'.control ≡ Some port → ⊥
  never-dialled word c by c' port none accepted control =
      let same = sends-config word c by c' accepted in
      let there : c.control ≡ Some port = subst (λ (x : Configuration). x.control ≡ Some port) same control in absurd (cc (there, none))

  uncontrolled-by : (word : CommandWord) (c : Configuration) (by : SendsBy o.call word c) → c.control ≡ None → SendWays o word by.name → EndsShowing o 10 None
  uncontrolled-by word c by none (send_unconfigured way) = inr (inr (config-fails o by.name by.bytes c by.file by.accepted way))
  uncontrolled-by word c by none (uncontrolled ten c' accepted control shows) = inl (ten, shows)
  uncontrolled-by word c by none (sent zero c' port accepted control shows ends) = absurd (never-dialled word c by c' port none accepted control)
  uncontrolled-by word c by none (sent_unwritten five c' port accepted control shows ends) = absurd (never-dialled word c by c' port none accepted control)
  uncontrolled-by word c by none (restart_refused twelve c' port accepted control shows ends) = absurd (never-dialled word c by c' port none accepted control)
  uncontrolled-by word c by none (undialled four c' port accepted control shows dials) = absurd (never-dialled word c by c' port none accepted control)

  pub uncontrolled-ends : (word : CommandWord) (c : Configuration) → SendsBy o.call word c → c.control ≡ None → EndsShowing o 10 None
  uncontrolled-ends word c by none =
      elim (ended-as one o is (sends word by.name) by.command) [ inl way ↦ uncontrolled-by word c by none way | inr six ↦ inr (inl six) ]

  -- a word that could be sent was, where no call of the front failed, and no write of the output; a restart may have been refused
  sent-by : (word : CommandWord) (c : Configuration) (port : ℕ) (by : SendsBy o.call word c) → c.control ≡ Some port
      → (Rises o.front.counts.faults o.front'.counts.faults → ⊥) → (Rises o.call.sink.faults o.call.sink'.faults → ⊥) → SendWays o word by.name
      → EndsShowing o 0 None ⊎ ((o.status ≡ 12) × EndsRestartRefused o.call o.front o.front')
  sent-by word c port by control still output (send_unconfigured way) = inl (inr (inr (config-fails o by.name by.bytes c by.file by.accepted way)))
  sent-by word c port by control still output (uncontrolled ten c' accepted none shows) =
      let same = sends-config word c by c' accepted in
      let there : c.control ≡ None = subst (λ (x : Configuration). x.control ≡ None) same none in absurd (cc (there, control))
  sent-by word c port by control still output (sent zero c' port' accepted control' shows ends) = inl (inl (zero, shows))
  sent-by word c port by control still output (sent_unwritten five c' port' accepted control' shows ends) = absurd (output ends.unwritten.failed)
  sent-by word c port by control still output (restart_refused twelve c' port' accepted control' shows ends) = inr (twelve, ends)
  sent-by word c port by control still output (undialled four c' port' accepted control' shows dials) = absurd (still dials.faults)

  pub sends-well : (word : CommandWord) (c : Configuration) (port : ℕ) → SendsBy o.call word c → c.control ≡ Some port
      → (Rises o.front.counts.faults o.front'.counts.faults → ⊥) → (Rises o.call.sink.faults o.call.sink'.faults → ⊥)
      → EndsShowing o 0 None ⊎ ((o.status ≡ 12) × EndsRestartRefused o.call o.front o.front')
  sends-well word c port by control still output =
      elim (ended-as one o is (sends word by.name) by.command) [ inl way ↦ sent-by word c port by control still output way | inr six ↦ inl (inr (inl six)) ]
