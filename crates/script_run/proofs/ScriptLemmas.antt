-- Which script is played, and why one isn't.
use Rattle.run_opening.proofs.FileLemmas.{has_file, too_large}
use Rattle.std.proofs.Common.{◌≡◌, inl, inr, ℕ, List, Option, None, Some, IfSome, IsSome, Result, Ok, Err, refl, sym, subst, ◌⊎◌, IsNone, arith}
use Rattle.mpm_base.specs.Store.{ReadsBytes}
use Rattle.mpm_base.specs.declared.store.StoreFault.{StoreFault}
use Rattle.mpm_base.specs.declared.store.StoreFault.TheVariants as store
use Rattle.mpm_base.specs.declared.script_line.ScriptLine.{ScriptLine}
use Rattle.mpm_script.specs.Load.{load_lines}
use Rattle.mpm_script.specs.Script.{ScriptIs}
use Rattle.mpm_script.specs.declared.script.ScriptFault.{ScriptFault}
use Rattle.run_opening.specs.Calls.{Call, IsFileUnread}
use Rattle.script_run.specs.Scripts.{PlaysLines, most_script, HasConfig, HasScriptSite}
use Rattle.script_run.specs.ScriptRefusals.{EndsMisconfigured, EndsRefused, EndsScriptSiteRefused}
use Rattle.script_run.specs.Played.{HasPlayed}
use Rattle.script_run.specs.PlayedInside.{HasRunScript, IsPlayed, EndsScript, IsPlayedStatus, IsScriptStatus, IsServedRun}
use Rattle.script_run.specs.ScriptsInside.{IsConfigRefusalOf, IsRefusalOf, IsSiteRefusalOf, HasReadConfig, IsOfText, IsScriptConfig, RefusesConfig, RefusesLoad, RefusesSite}
use Rattle.run_opening.specs.RefusalsInside.{RefusesRun}
use Rattle.command_words.specs.Invocations.{IsLoadWords, IsScriptWords}
use Rattle.run_report.specs.Texts.{script_refused}
use Rattle.script_run.specs.declared.scripted.Scripted.{Scripted}
use Rattle.run_report.specs.declared.texts.ScriptRefusal.TheVariants.{BadLine}
use Rattle.mpm_base.specs.Sink.{SinkSeen}
use Rattle.mpm_config.specs.Config.{Configuration}
use Rattle.run_opening.specs.Configured.{Configures}
use Rattle.run_opening.specs.declared.config_reading.NoConfig.{NoConfig}
use Rattle.run_opening.specs.declared.config_reading.NoConfig.TheVariants as no
use Rattle.file_table.specs.declared.load_fault.LoadFault.{LoadFault}
use Rattle.file_table.specs.declared.load_fault.LoadFault.TheVariants as fault
use Rattle.file_table.specs.Load.{MayLoad}
use Rattle.script_front.specs.Editions.{editions_of}
use Rattle.restart_control.specs.Reload.{order_of}
use Rattle.run_opening.specs.Refusals.{EndsSilently}

-- ## The lines that are played

-- those of a script that was read
pub reads-script : (call : Call) (name bytes : List ℕ) (lines : List ScriptLine) (answer : Result (List ℕ) StoreFault) → IsScriptWords call.words name
    → ReadsBytes call.store call.store' name most_script answer → answer ≡ Ok bytes → ScriptIs bytes (Ok lines) → PlaysLines call lines
reads-script call name bytes lines answer command reads is script =
    inl (record {
      name = name;
      bytes = bytes;
      command = command;
      has = has_file most_script call call.store' name bytes answer reads refl is;
      script = script;
    })

-- those of a load
pub makes-load : (call : Call) (count : ℕ) → IsLoadWords call.words count → call.store' ≡ call.store → PlaysLines call (load_lines count)
makes-load call count command unasked = inr (record { count = count; command = command; unasked = unasked; lines_are = refl })

-- they were played
pub played : (o : Option Scripted) (call : Call) (lines : List ScriptLine) (status : ℕ) → PlaysLines call lines → (IsSome o → call.shown ≡ None)
    → IfSome o (λ s. IsPlayed lines s call.sink call.sink' status)
    → IfSome o (λ s. HasPlayed call s.config s.board s.front s.clock s.store status)
played None call lines status plays shows run = tt
played (Some s) call lines status plays shows run =
    let same = sym run.script in
    let ran =
    subst (λ (script : List ScriptLine). HasRunScript script s.config run.site s.board s.front s.clock s.store call.sink call.sink' status) same run.run in
    record {
      config = run.text;
      site = run.site;
      plays = subst (PlaysLines call) same plays;
      config_is = subst (λ (script : List ScriptLine). HasConfig script run.text) same run.text_is;
      accepted = run.accepted;
      site_is = subst (λ (script : List ScriptLine). HasScriptSite script s.config run.site) same run.site_is;
      shows = shows refl;
      has_run = ran.has_run;
      left = ran.left;
      receive = ran.receive;
      taken = ran.taken;
      store_is = ran.store_is;
      ends = ran.ends;
    }

-- their configuration is refused
pub misconfigured : (call : Call) (lines : List ScriptLine) → PlaysLines call lines → IsConfigRefusalOf call.sink call.sink' lines call.shown
    → EndsMisconfigured call
misconfigured call lines plays refusal = record {
  lines = lines;
  config = refusal.bad.text;
  number = refusal.number;
  why = refusal.why;
  plays = plays;
  config_is = refusal.bad.text_is;
  refused = refusal.bad.refused;
  shows = refusal.shows;
  text = refusal.text;
}

-- their site is refused
pub unsited : (call : Call) (lines : List ScriptLine) → PlaysLines call lines → IsSiteRefusalOf call.sink call.sink' lines call.shown
    → EndsScriptSiteRefused call
unsited call lines plays refusal = record {
  lines = lines;
  config_text = refusal.config_text;
  config = refusal.config;
  refused_for = refusal.refusal.name;
  plays = plays;
  config_is = refusal.text_is;
  accepted = refusal.accepted;
  refused = refusal.refusal.refused;
  shows = refusal.refusal.shows;
  text = refusal.refusal.text;
}

-- ## A script that is refused

-- at a line
pub at-line : (call : Call) (name bytes : List ℕ) (fault : ScriptFault) (answer : Result (List ℕ) StoreFault) → IsScriptWords call.words name
    → ReadsBytes call.store call.store' name most_script answer → answer ≡ Ok bytes → ScriptIs bytes (Err fault)
    → IsRefusalOf call.sink call.sink' fault call.shown → EndsRefused call
at-line call name bytes fault answer command reads is script refusal =
    inr (record {
      name = name;
      bytes = bytes;
      line = refusal.line;
      why = refusal.why;
      command = command;
      has = has_file most_script call call.store' name bytes answer reads refl is;
      refused = subst (λ (f : ScriptFault). ScriptIs bytes (Err f)) refusal.fault_is script;
      shows = refusal.shows;
      text = refusal.text;
    })

-- for its size
pub refused-large : (call : Call) (name : List ℕ) (size : ℕ) (answer : Result (List ℕ) StoreFault) → IsScriptWords call.words name
    → ReadsBytes call.store call.store' name most_script answer → answer ≡ Err (store.Large size)
    → RefusesRun call.sink call.sink' (Some 0) (script_refused 0 BadLine) call.shown → EndsRefused call
refused-large call name size answer command reads is refused =
    inl (record {
      name = name;
      command = command;
      kept = reads.told_stays;
      cause = too_large most_script call name size answer reads is;
      shows = refused.shows;
      text = refused.writes;
    })

-- ## The configuration and the site of a script

-- why a script has no configuration
pub of-text : (lines : List ScriptLine) (why : NoConfig) → IsScriptConfig lines (Err why) → IsOfText why
of-text lines (no.Refused why number) is = tt
of-text lines no.NoMemory is = tt
of-text lines no.Missing is = is
of-text lines no.Failed is = is

-- a script whose configuration is refused
pub config-refusal : (sink sink' : SinkSeen) (lines : List ScriptLine) (shown : Option ℕ) (why : NoConfig) → IsScriptConfig lines (Err why)
    → RefusesConfig sink sink' why shown → IsConfigRefusalOf sink sink' lines shown
config-refusal sink sink' lines shown (no.Refused why number) bad refused =
    record { number = number; why = why; bad = bad; shows = refused.shows; text = refused.writes }
config-refusal sink sink' lines shown no.NoMemory bad refused = absurd refused
config-refusal sink sink' lines shown no.Missing bad refused = absurd refused
config-refusal sink sink' lines shown no.Failed bad refused = absurd refused

-- a script that was played by the configuration that was read
pub is-played : (o : Option Scripted) (lines : List ScriptLine) (c : Configuration) (told : List ℕ) (sink sink' : SinkSeen) (status : ℕ)
    → HasReadConfig lines c told → IfSome o (λ s. IsServedRun lines c s sink sink' status) → IfSome o (λ s. IsPlayed lines s sink sink' status)
is-played None lines c told sink sink' status has run = tt
is-played (Some s) lines c told sink sink' status has run = record {
  script = run.script;
  text = has.text;
  site = run.site;
  text_is = has.text_is;
  accepted = subst (Configures has.text) (sym run.config) has.accepted;
  site_is = subst (λ (x : Configuration). HasScriptSite lines x run.site) (sym run.config) run.site_is;
  run = subst (λ (x : Configuration). HasRunScript lines x run.site s.board s.front s.clock s.store sink sink' status) (sym run.config) run.run;
}

-- why it is refused
pub refuses-site : (sink sink' : SinkSeen) (lines : List ScriptLine) (c : Configuration) (shown : Option ℕ) (e : LoadFault)
    → MayLoad (order_of c) (editions_of lines).files (Err e) → RefusesLoad sink sink' c e shown → RefusesSite sink sink' lines c shown
refuses-site sink sink' lines c shown fault.StoreFault may refused = absurd refused
refuses-site sink sink' lines c shown (fault.TooMany root) may refused =
    record { name = root; refused = inl (record { many = may }); shows = refused.shows; text = refused.writes }
refuses-site sink sink' lines c shown (fault.TooLarge name size) may refused =
    record { name = name; refused = inr (record { size = size; large = may }); shows = refused.shows; text = refused.writes }
refuses-site sink sink' lines c shown fault.NoMemory may refused = absurd refused

-- so it is by the configuration that was read
pub site-refusal : (sink sink' : SinkSeen) (lines : List ScriptLine) (c : Configuration) (told : List ℕ) (shown : Option ℕ)
    → HasReadConfig lines c told → RefusesSite sink sink' lines c shown → IsSiteRefusalOf sink sink' lines shown
site-refusal sink sink' lines c told shown has refusal =
    record { config_text = has.text; config = c; text_is = has.text_is; accepted = has.accepted; refusal = refusal }

-- ## How the play of a script ends

script-status : (status : ℕ) → IsPlayedStatus status ⊎ (status ≡ 1) ⊎ (status ≡ 9) → IsScriptStatus status
script-status status (inl (inl zero)) = inl zero
script-status status (inl (inr (inl five))) = inr (inr (inr (inl five)))
script-status status (inl (inr (inr six))) = inr (inr (inr (inr (inl six))))
script-status status (inr (inl one)) = inr (inl one)
script-status status (inr (inr nine)) = inr (inr (inr (inr (inr (inr nine)))))

-- its lines were played
pub plays : (call : Call) (lines : List ScriptLine) (status : ℕ) (left : Option Scripted) → PlaysLines call lines
    → IfSome left (λ s. IsPlayed lines s call.sink call.sink' status)
    → ((status ≡ 0) ⊎ (status ≡ 5) → IsSome left) → (IsSome left → call.shown ≡ None) → IsPlayedStatus status ⊎ (status ≡ 1) ⊎ (status ≡ 9)
    → (status ≡ 1 → IsConfigRefusalOf call.sink call.sink' lines call.shown) → (status ≡ 9 → IsSiteRefusalOf call.sink call.sink' lines call.shown)
    → (status ≡ 6 → IsNone left → EndsSilently call.sink call.sink' call.shown) → EndsScript call status left
plays call lines status left plays_lines kept opened shows known unfit siteless silent = record {
  known = script-status status known;
  kept = played left call lines status plays_lines shows kept;
  opened = opened;
  misconfigured = λ one. misconfigured call lines plays_lines (unfit one);
  unread = λ three. absurd (omega (arith, known, three));
  refused = λ eight. absurd (omega (arith, known, eight));
  site_refused = λ nine. unsited call lines plays_lines (siteless nine);
  silent = silent;
}

-- nothing was played
unplayed : (call : Call) (status : ℕ) (left : Option Scripted) → IsNone left → (status ≡ 3) ⊎ (status ≡ 6) ⊎ (status ≡ 8)
    → (status ≡ 3 → (name : List ℕ) × IsScriptWords call.words name × IsFileUnread call name) → (status ≡ 8 → EndsRefused call)
    → (status ≡ 6 → EndsSilently call.sink call.sink' call.shown) → EndsScript call status left
unplayed call status None none known unread refused silent = record {
  known =
      elim known [
        | inl three ↦ inr (inr (inl three))
        | inr other ↦ elim other [ inl six ↦ inr (inr (inr (inr (inl six)))) | inr eight ↦ inr (inr (inr (inr (inr (inl eight))))) ]
      ];
  kept = tt;
  opened = λ good. absurd (omega (arith, known, good));
  misconfigured = λ one. absurd (omega (arith, known, one));
  unread = unread;
  refused = refused;
  site_refused = λ nine. absurd (omega (arith, known, nine));
  silent = λ six nothing. silent six;
}
unplayed call status (Some s) none known unread refused silent = absurd (cc none)

-- its file could not be read
pub unread-script : (call : Call) (name : List ℕ) (status : ℕ) (left : Option Scripted) → IsScriptWords call.words name → IsNone left
    → (status ≡ 3) ⊎ (status ≡ 6) → (status ≡ 3 → IsFileUnread call name) → (status ≡ 6 → EndsSilently call.sink call.sink' call.shown)
    → EndsScript call status left
unread-script call name status left command none known unread silent =
    unplayed call status left none (elim known [ inl three ↦ inl three | inr six ↦ inr (inl six) ]) (λ three. (name, command, unread three))
    (λ eight. absurd (omega (arith, known, eight))) silent

-- it was refused
pub refused-script : (call : Call) (status : ℕ) (left : Option Scripted) → IsNone left → (status ≡ 8) ⊎ (status ≡ 6) → (status ≡ 8 → EndsRefused call)
    → (status ≡ 6 → EndsSilently call.sink call.sink' call.shown) → EndsScript call status left
refused-script call status left none known refused silent =
    unplayed call status left none (elim known [ inl eight ↦ inr (inr eight) | inr six ↦ inr (inl six) ])
    (λ three. absurd (omega (arith, known, three))) refused silent

-- memory lacked for it
pub lacking-script : (call : Call) (status : ℕ) (left : Option Scripted) → IsNone left → status ≡ 6 → EndsSilently call.sink call.sink' call.shown
    → EndsScript call status left
lacking-script call status left none six silent =
    unplayed call status left none (inr (inl six)) (λ three. absurd (omega (arith, six, three))) (λ eight. absurd (omega (arith, six, eight)))
    (λ six. silent)
