-- That each exit status comes exactly where its cause is: `Causes` says that it comes only there, and this that it comes there. Want of memory
-- may come before each, and a call of the store that fails before what its files say.
use Rattle.board.specs.Board.{SeenBoard}
use Rattle.command_words.specs.Invocations.{IsNoInvocation}
use Rattle.conn_machine.specs.declared.event.Why.TheVariants as why
use Rattle.conn_machine.specs.declared.state.Going.TheVariants.{Halted}
use Rattle.mpm_base.specs.Count.{Rises}
use Rattle.mpm_base.specs.GivenAnswers.{says_refused}
use Rattle.mpm_base.specs.Sink.{SinkSeen}
use Rattle.mpm_base.specs.declared.script_line.CommandWord.{CommandWord}
use Rattle.mpm_config.specs.Config.{Configuration}
use Rattle.server_run.specs.Ends.{HasDialled, HasRunServer, IsUnbound, texts_of_server}
use Rattle.run_laws.specs.Grounds.{HasLargeScript, HasNoConfig, HasNoSite, HasUnfitScript, LacksNamed, SendsBy, ServesSite, TestsFit, WritesSite}
use Rattle.run_laws.specs.Outcomes.{IsOutcome, SeenOutcome}
use Rattle.run_opening.specs.Calls.{StoreFailed}
use Rattle.script_run.specs.Played.{HasPlayed, texts_of_play}
use Rattle.run_opening.specs.Configured.{warnings_of}
use Rattle.run_report.specs.Endings.{IsGoodEnd, Reports, run_text}
use Rattle.run_report.specs.Texts.{syntax_ok}
use Rattle.run_report.specs.Written.{LeavesUnwritten}
use Rattle.run_report.specs.declared.texts.ConfigRefusal.{ConfigRefusal}
use Rattle.run_report.specs.declared.texts.ScriptRefusal.{ScriptRefusal}
use Rattle.std.specs.Prelude.{◌≡◌, ◌⊎◌, ℕ, List, ◌++◌, true, false, Option, None, Some, IfSome, IsNone, IsSome, IsSomeAnd, option_map}

-- ## What may come before

-- it ended with this exit status, or memory lacked
abbrev pub EndsWith : SeenOutcome → ℕ → Type 0
EndsWith o status = (o.status ≡ status) ⊎ (o.status ≡ 6)

-- it ended with this one and shows this number; or memory lacked; or a call of the store failed, with exit status 3
abbrev pub EndsShowing : SeenOutcome → ℕ → Option ℕ → Type 0
EndsShowing o status shown =
    ((o.status ≡ status) × (o.call.shown ≡ shown)) ⊎ (o.status ≡ 6) ⊎ ((o.status ≡ 3) × StoreFailed o.call)

-- this holds; or memory lacked; or a call of the store failed, with exit status 3
abbrev pub UnlessFailing : SeenOutcome → Type 0 → Type 0
UnlessFailing o P = P ⊎ (o.status ≡ 6) ⊎ ((o.status ≡ 3) × StoreFailed o.call)

-- ## What was written

-- all of the text was written: no write failed; or the output tells its bytes, and has it
abbrev pub HasWritten : SinkSeen → SinkSeen → List ℕ → Type 0
HasWritten sink sink' text =
    ¬ (Rises sink.faults sink'.faults) ⊎ IsSomeAnd sink.told (λ written. sink'.told ≡ Some (written ++ text))

-- the output doesn't have the text, as one that tells its bytes may show
abbrev pub LacksIt : SinkSeen → SinkSeen → List ℕ → Type 0
LacksIt sink sink' text = ¬ (sink'.told ≡ option_map (λ written. written ++ text) sink.told)

-- ## A run that opened

-- what is left of a run: 0 and 5 come exactly where it came to a good end, 0 where its texts were written, of which these stand before the
-- report, and 5 where they were not; 4 exactly where its front had failed; and 6 where its server stopped for want of memory, and where
-- memory lacked for the report
pub record EndsExactly (o : SeenOutcome) (texts : List ℕ) (b : SeenBoard) : Type 0 where
  pub well : o.status ≡ 0 → IsGoodEnd b.book.state.going × Reports o.call.sink o.call.sink' texts b
  pub unwritten : o.status ≡ 5 → IsGoodEnd b.book.state.going × LeavesUnwritten o.call.sink o.call.sink' (run_text texts b)
  pub failed : o.status ≡ 4 → b.book.state.going ≡ Halted why.FrontFailed
  pub comes_well : IsGoodEnd b.book.state.going → HasWritten o.call.sink o.call.sink' (run_text texts b) → EndsWith o 0
  pub comes_unwritten : IsGoodEnd b.book.state.going → LacksIt o.call.sink o.call.sink' (run_text texts b) → EndsWith o 5
  pub comes_failed : b.book.state.going ≡ Halted why.FrontFailed → EndsWith o 4
  pub comes_lacking : b.book.state.going ≡ Halted why.NoMemory → o.status ≡ 6
  pub no_other : (o.status ≡ 0) ⊎ (o.status ≡ 4) ⊎ (o.status ≡ 5) ⊎ (o.status ≡ 6)

-- ## A command

-- the front tells its dials
abbrev pub Tells : SeenOutcome → Type 0
Tells o = IsSome o.front.told

-- ## Each status

-- each exit status comes where its cause is
pub record IsExact (o : SeenOutcome) : Type 0 where
  -- 2: the words have none of the forms
  pub unknown : IsNoInvocation o.call.words → EndsWith o 2
  -- 3: the store tells its files, and the one that is named isn't there; that it is missing is shown, unless a call of the store failed
  pub missing : LacksNamed o.call → EndsShowing o 3 (Some 0)
  -- 8: the script is too large, or refused at a line
  pub large_script : HasLargeScript o.call → EndsShowing o 8 (Some 0)
  pub unfit_script : (why : ScriptRefusal) (line : ℕ) → HasUnfitScript o.call why line → EndsShowing o 8 (Some line)
  -- 1: the configuration is too large, or refused at a line or a place
  pub misconfigured : (why : ConfigRefusal) (number : ℕ) → HasNoConfig o.call why number → EndsShowing o 1 (Some number)
  -- 9: there is no site by the configuration
  pub site_refused : HasNoSite o.call → EndsShowing o 9 None
  -- 10: a word was to be sent, and the configuration has no control line
  pub uncontrolled : (word : CommandWord) (c : Configuration) → SendsBy o.call word c → c.control ≡ None → EndsShowing o 10 None
  -- 0 or 5: the configuration was to be tested, and is accepted
  pub tested : (c : Configuration) → TestsFit o.call c → HasWritten o.call.sink o.call.sink' (warnings_of c ++ syntax_ok) → EndsShowing o 0 None
  pub untold : (c : Configuration) → TestsFit o.call c → LacksIt o.call.sink o.call.sink' (warnings_of c ++ syntax_ok) → EndsShowing o 5 None
  -- 12, 0 or 5: the word was sent, as a front shows that tells its dials, and what came back says that a restart was refused, or doesn't, and
  -- was written or wasn't
  pub refused : (text : List ℕ) → HasDialled o.call o.front o.front' true text → Tells o → says_refused text ≡ true → EndsWith o 12
  pub sent : (text : List ℕ) → HasDialled o.call o.front o.front' true text → Tells o → says_refused text ≡ false
      → HasWritten o.call.sink o.call.sink' text → EndsWith o 0
  pub unanswered : (text : List ℕ) → HasDialled o.call o.front o.front' true text → Tells o → says_refused text ≡ false
      → LacksIt o.call.sink o.call.sink' text → EndsWith o 5
  -- 4: the dial failed
  pub undialled : (text : List ℕ) → HasDialled o.call o.front o.front' false text → Tells o → EndsWith o 4
  -- the run of a script opens where nothing is refused, and so does that of a server, unless its front can't be bound
  pub plays : WritesSite o.call → UnlessFailing o (IsSome o.scripted)
  pub serves : ServesSite o.call → UnlessFailing o (IsSome o.board ⊎ ((o.status ≡ 4) × IsUnbound o.call o.front o.front'))
  -- 0, 4, 5 and 6 of one that opened
  pub played : IfSome o.scripted
      (λ s. (run : HasPlayed o.call s.config s.board s.front s.clock s.store o.status) × EndsExactly o (texts_of_play run) s.board)
  pub served : IfSome o.board
      (λ b. (run : HasRunServer o.call o.front o.front' o.clock' o.status b) × EndsExactly o (texts_of_server run) b)
  -- 4, where none opened: a bind or a dial failed, and the front's count of failed calls rose
  pub unopened : IsNone o.board → o.status ≡ 4 → Rises o.front.counts.faults o.front'.counts.faults

-- the law: so it is of each call of `run`
abbrev pub StatusesAreExact : Type 0
StatusesAreExact = (o : SeenOutcome) → IsOutcome o → IsExact o
