-- What becomes of the configuration that the words name: it is refused, tested, or has a control port.
use Rattle.run_opening.proofs.ConfigLemmas.{RefusesText, RefusesSize, from-refused, from-missing, from-failed, has-accepted, told-of}
use Rattle.std.proofs.Common.{◌≡◌, inl, inr, ℕ, ◌⊎◌, ◌++◌, Bool, List, None, Some, option_map, Result, Ok, Err, refl, ap, subst, ◌∙◌, arith}
use Rattle.mpm_base.specs.CommandWord.{command_word}
use Rattle.mpm_base.specs.Front.{Dials, FrontSeen}
use Rattle.mpm_base.specs.Store.{ReadsBytes}
use Rattle.mpm_base.specs.declared.script_line.CommandWord.{CommandWord}
use Rattle.mpm_base.specs.declared.store.StoreFault.{StoreFault}
use Rattle.mpm_config.specs.Config.{Configuration}
use Rattle.mpm_config.specs.Reading.{Refuses as refuses}
use Rattle.run_opening.specs.Calls.{Call}
use Rattle.restart_control.specs.Reload.{most_config}
use Rattle.run_opening.specs.ConfiguredInside.{IsConfigFrom}
use Rattle.server_run.specs.Ends.{EndsFileRefused, EndsTested, EndsTestUnwritten, EndsUncontrolled, EndsUnread, HasDialled, Sends}
use Rattle.run_opening.specs.RefusalsInside.{RefusesConfigOf, RefusesRun}
use Rattle.command_words.specs.Invocations.{IsSendWords, IsTestWords, NamesConfig}
use Rattle.run_report.specs.Texts.{config_refused, no_control_line, syntax_ok}
use Rattle.run_report.specs.Written.{LeavesUnwritten}
use Rattle.run_opening.specs.declared.config_reading.NoConfig.{NoConfig}
use Rattle.run_opening.specs.declared.config_reading.NoConfig.TheVariants as no
use Rattle.run_report.specs.declared.texts.ConfigRefusal.{ConfigRefusal}
use Rattle.run_opening.proofs.FileLemmas.{has_file, too_large, unread-failed, unread-missing}
use Rattle.server_run.proofs.InvocationLemmas.{config-file}

-- ## A configuration that is refused

-- it is refused
refuses-named : (call : Call) (name : List ℕ) (answer : Result (List ℕ) StoreFault) (why : ConfigRefusal) (number : ℕ) → NamesConfig call.words name
    → ReadsBytes call.store call.store' name most_config answer → RefusesText answer why number ⊎ RefusesSize answer why number
    → RefusesRun call.sink call.sink' (Some number) (config_refused number why) call.shown → EndsFileRefused call
refuses-named call name answer why number command reads (inl refuses) refused =
    let has = has_file most_config call call.store' name refuses.text answer reads refl refuses.is in
    inr (record {
      name = name;
      bytes = refuses.text;
      number = number;
      why = why;
      command = command;
      has = has;
      refused = record { few = has.few; refused = refuses.refused };
      shows = refused.shows;
      text = refused.writes;
    })
refuses-named call name answer why number command reads (inr refuses) refused =
    let here =
    subst (λ (w : ConfigRefusal). RefusesRun call.sink call.sink' (Some 0) (config_refused 0 w) call.shown) refuses.why_is
    (subst (λ (n : ℕ). RefusesRun call.sink call.sink' (Some n) (config_refused n why) call.shown) refuses.number_is refused) in
    inl (record {
      name = name;
      command = command;
      kept = reads.told_stays;
      cause = too_large most_config call name refuses.size answer reads refuses.is;
      shows = here.shows;
      text = here.writes;
    })

-- with exit status 1
pub config-refused : (call : Call) (name : List ℕ) (answer : Result (List ℕ) StoreFault) (why : NoConfig) (status : ℕ) → NamesConfig call.words name
    → ReadsBytes call.store call.store' name most_config answer → IsConfigFrom answer (Err why)
    → RefusesConfigOf call.sink call.sink' name why status call.shown → status ≡ 1 → EndsFileRefused call
config-refused call name answer (no.Refused why number) status command reads is refused one =
    refuses-named call name answer why number command reads (from-refused answer why number is) refused.1
config-refused call name answer no.Missing status command reads is refused one = absurd (omega (arith, refused.0, one))
config-refused call name answer no.Failed status command reads is refused one = absurd (omega (arith, refused.0, one))
config-refused call name answer no.NoMemory status command reads is refused one = absurd refused

-- or it can't be read, with exit status 3
pub config-unread : (call : Call) (name : List ℕ) (answer : Result (List ℕ) StoreFault) (why : NoConfig) (status : ℕ) → NamesConfig call.words name
    → ReadsBytes call.store call.store' name most_config answer → IsConfigFrom answer (Err why)
    → RefusesConfigOf call.sink call.sink' name why status call.shown → status ≡ 3 → EndsUnread call
config-unread call name answer (no.Refused why number) status command reads is refused three = absurd (omega (arith, refused.0, three))
config-unread call name answer no.Missing status command reads is refused three =
    inl (record {
      name = name;
      command = config-file call.words name command;
      unread = unread-missing call most_config name answer reads (from-missing answer is) refused.1;
    })
config-unread call name answer no.Failed status command reads is refused three =
    inl (record {
      name = name;
      command = config-file call.words name command;
      unread = unread-failed call most_config name answer reads (from-failed answer is) refused.1;
    })
config-unread call name answer no.NoMemory status command reads is refused three = absurd refused

-- ## Tests

-- a configuration was tested that is accepted, and that was written
pub ends-tested : (call : Call) (name : List ℕ) (answer : Result (List ℕ) StoreFault) (conf : Configuration × List ℕ) → IsTestWords call.words name
    → ReadsBytes call.store call.store' name most_config answer → IsConfigFrom answer (Ok conf) → call.shown ≡ None
    → call.sink'.told ≡ option_map (λ written. written ++ (conf.1 ++ syntax_ok)) call.sink.told → EndsTested call
ends-tested call name answer conf command reads is shows text = record {
  name = name;
  config = conf.0;
  command = command;
  accepted = has-accepted call call.store' name answer conf reads refl is;
  shows = shows;
  text = text ∙ ap (λ (t : List ℕ). option_map (λ (written : List ℕ). written ++ (t ++ syntax_ok)) call.sink.told) (told-of answer conf is);
}

-- or it was not written whole
pub ends-test-unwritten : (call : Call) (name : List ℕ) (answer : Result (List ℕ) StoreFault) (conf : Configuration × List ℕ) → IsTestWords call.words name
    → ReadsBytes call.store call.store' name most_config answer → IsConfigFrom answer (Ok conf) → call.shown ≡ None
    → LeavesUnwritten call.sink call.sink' (conf.1 ++ syntax_ok) → EndsTestUnwritten call
ends-test-unwritten call name answer conf command reads is shows unwritten = record {
  name = name;
  config = conf.0;
  command = command;
  accepted = has-accepted call call.store' name answer conf reads refl is;
  shows = shows;
  unwritten = subst (λ (t : List ℕ). LeavesUnwritten call.sink call.sink' (t ++ syntax_ok)) (told-of answer conf is) unwritten;
}

-- ## Commands

-- the command was to be sent to this port
sends : (call : Call) (word : CommandWord) (name : List ℕ) (port : ℕ) (answer : Result (List ℕ) StoreFault) (conf : Configuration × List ℕ)
    → IsSendWords call.words word name → ReadsBytes call.store call.store' name most_config answer → IsConfigFrom answer (Ok conf)
    → conf.0.control ≡ Some port → call.shown ≡ None → Sends call word port
sends call word name port answer conf command reads is control shows = record {
  name = name;
  config = conf.0;
  command = command;
  accepted = has-accepted call call.store' name answer conf reads refl is;
  control = control;
  shows = shows;
}

-- and the front dialled it
pub has-dialled : (call : Call) (word : CommandWord) (name : List ℕ) (port : ℕ) (answer : Result (List ℕ) StoreFault) (conf : Configuration × List ℕ)
    (f f' : FrontSeen) (spelled : List ℕ) (taken : Bool) (text : List ℕ) → IsSendWords call.words word name
    → ReadsBytes call.store call.store' name most_config answer → IsConfigFrom answer (Ok conf) → conf.0.control ≡ Some port → call.shown ≡ None
    → spelled ≡ command_word word → Dials f f' port spelled taken text → HasDialled call f f' taken text
has-dialled call word name port answer conf f f' spelled taken text command reads is control shows spells dials = record {
  word = word;
  port = port;
  sends = sends call word name port answer conf command reads is control shows;
  dials = subst (λ (w : List ℕ). Dials f f' port w taken text) spells dials;
}

-- there is none
pub ends-uncontrolled : (call : Call) (word : CommandWord) (name : List ℕ) (answer : Result (List ℕ) StoreFault) (conf : Configuration × List ℕ)
    → IsSendWords call.words word name → ReadsBytes call.store call.store' name most_config answer → IsConfigFrom answer (Ok conf)
    → conf.0.control ≡ None → RefusesRun call.sink call.sink' None no_control_line call.shown → EndsUncontrolled call
ends-uncontrolled call word name answer conf command reads is control refused = record {
  word = word;
  name = name;
  config = conf.0;
  command = command;
  accepted = has-accepted call call.store' name answer conf reads refl is;
  control = control;
  shows = refused.shows;
  text = refused.writes;
}
