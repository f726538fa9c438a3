-- How a call of each form ends.
use Rattle.std.proofs.Common.{◌≡◌, ◌⊎◌, inl, inr, ℕ, ◌++◌, false, List, [], Option, None, Some, IfSome, IsSome, Ok, Err, option_map, refl, subst, arith}
use Rattle.std.proofs.lemmas.Bool.{cases_eq}
use Rattle.mpm_base.specs.CommandWord.{command_word}
use Rattle.mpm_base.specs.Front.{Dials}
use Rattle.mpm_base.specs.declared.script_line.CommandWord.{CommandWord}
use Rattle.mpm_base.specs.declared.script_line.ScriptLine.{ScriptLine}
use Rattle.mpm_config.specs.Config.{Configuration}
use Rattle.mpm_script.specs.Load.{load_lines}
use Rattle.mpm_script.specs.Script.{ScriptIs}
use Rattle.file_table.specs.Site.{SeenSite}
use Rattle.restart_control.specs.Reload.{most_config}
use Rattle.command_words.specs.Invocations.{AreOfForm, Form, IsNoInvocation, NamesConfig, loads, plays, sends, serves, tests}
use Rattle.board.specs.Board.{SeenBoard}
use Rattle.run_opening.specs.Calls.{HadConfigAccepted, HasConfigAccepted, HasFile, HasSiteRefused, IsFileUnread, IsRefusedAsLarge, LoadsSite, StoreFailed}
use Rattle.run_opening.specs.Configured.{Configures, IsNoConfig, IsRefused, warnings_of}
use Rattle.run_report.specs.Texts.{syntax_ok}
use Rattle.run_report.specs.Written.{LeavesUnwritten}
use Rattle.run_report.specs.declared.texts.ConfigRefusal.{ConfigRefusal}
use Rattle.run_report.specs.declared.texts.ScriptRefusal.{ScriptRefusal}
use Rattle.script_run.specs.Played.{HasPlayed}
use Rattle.script_run.specs.ScriptRefusals.{EndsRefused, fault_at}
use Rattle.script_run.specs.Scripts.{HasConfig, HasScript, IsSiteRefused, PlaysLines, most_script}
use Rattle.script_run.specs.declared.scripted.Scripted.{Scripted}
use Rattle.mpm_run.specs.ExitStatuses.{EndsConfigRefused, EndsFrontFault, EndsSiteRefused, IsExitStatus, LacksOutput, Succeeds}
use Rattle.server_run.specs.Ends.{EndsRestartRefused, EndsSent, EndsSentUnwritten, EndsUnread, HasDialled, HasRunServer, IsUnbound}
use Rattle.run_laws.specs.Outcomes.{IsOutcome, SeenOutcome}

-- ## Options

-- the value of one that has one
pub some-of : {X : Type 0} (o : Option X) → IsSome o → (x : X) × (o ≡ Some x)
some-of None some = absurd (cc some)
some-of (Some x) some = (x, refl)

-- what holds of its value, where it has this one
pub holds-of : {X : Type 0} (P : X → Type 0) (o : Option X) (x : X) → o ≡ Some x → IfSome o P → P x
holds-of P o x is holds = subst (λ (y : Option _). IfSome y P) is holds

-- ## How the lines of a script end

-- a call ends so that plays these lines: they write no configuration, or have no site by it; or their run opened
pub data PlayWays (o : SeenOutcome) (lines : List ScriptLine) : Type 0 where
  misconfigured : o.status ≡ 1 → (text : List ℕ) (why : ConfigRefusal) (number : ℕ) → HasConfig lines text → IsNoConfig text why number
      → o.call.shown ≡ Some number → PlayWays o lines
  play_unsited : o.status ≡ 9 → (text : List ℕ) (c : Configuration) (name : List ℕ) → HasConfig lines text → Configures text c
      → IsSiteRefused lines c name → o.call.shown ≡ None → PlayWays o lines
  played : (s : Scripted) → o.scripted ≡ Some s → HasPlayed o.call s.config s.board s.front s.clock s.store o.status → s.front.script ≡ lines → PlayWays o lines

-- so ends one that plays the script of that name: it can't be read, or is too large, or refused; or its lines are played
pub data ScriptWays (o : SeenOutcome) (name : List ℕ) : Type 0 where
  script_unread : o.status ≡ 3 → IsFileUnread o.call name → ScriptWays o name
  script_large : o.status ≡ 8 → IsRefusedAsLarge most_script o.call name → o.call.shown ≡ Some 0 → ScriptWays o name
  script_unfit : o.status ≡ 8 → (bytes : List ℕ) (line : ℕ) (why : ScriptRefusal) → HasScript o.call name bytes
      → ScriptIs bytes (Err (fault_at why line)) → o.call.shown ≡ Some line → ScriptWays o name
  plays_on : (bytes : List ℕ) (lines : List ScriptLine) → HasScript o.call name bytes → ScriptIs bytes (Ok lines) → PlayWays o lines
      → ScriptWays o name

-- and one that plays a load
pub data LoadWays (o : SeenOutcome) (count : ℕ) : Type 0 where
  loads_on : (lines : List ScriptLine) → lines ≡ load_lines count → PlayWays o lines → LoadWays o count

-- ## How a named configuration ends

-- it can't be read, or is too large, or refused
pub data ConfigWays (o : SeenOutcome) (name : List ℕ) : Type 0 where
  config_unread : o.status ≡ 3 → IsFileUnread o.call name → ConfigWays o name
  config_large : o.status ≡ 1 → IsRefusedAsLarge most_config o.call name → o.call.shown ≡ Some 0 → ConfigWays o name
  config_unfit : o.status ≡ 1 → (bytes : List ℕ) (number : ℕ) (why : ConfigRefusal) → HasFile most_config o.call name bytes → IsRefused bytes why number
      → o.call.shown ≡ Some number → ConfigWays o name

-- a server ends so
pub data ServeWays (o : SeenOutcome) (name : List ℕ) : Type 0 where
  serve_unconfigured : ConfigWays o name → ServeWays o name
  unloaded : o.status ≡ 3 → (c : Configuration) → HasConfigAccepted o.call name c → StoreFailed o.call → ServeWays o name
  serve_unsited : o.status ≡ 9 → (c : Configuration) (refused_for : List ℕ) → HasConfigAccepted o.call name c → HasSiteRefused o.call c refused_for
      → o.call.shown ≡ None → ServeWays o name
  unbound : o.status ≡ 4 → (c : Configuration) (site : SeenSite) → HasConfigAccepted o.call name c → LoadsSite o.call c site
      → IsUnbound o.call o.front o.front' → ServeWays o name
  served : (b : SeenBoard) (c : Configuration) (site : SeenSite) → o.board ≡ Some b → HadConfigAccepted o.call name c → LoadsSite o.call c site
      → ServeWays o name

-- a test ends so
pub data TestWays (o : SeenOutcome) (name : List ℕ) : Type 0 where
  test_unconfigured : ConfigWays o name → TestWays o name
  tested : o.status ≡ 0 → (c : Configuration) → HasConfigAccepted o.call name c → o.call.shown ≡ None
      → o.call.sink'.told ≡ option_map (λ written. written ++ (warnings_of c ++ syntax_ok)) o.call.sink.told → TestWays o name
  test_unwritten : o.status ≡ 5 → (c : Configuration) → HasConfigAccepted o.call name c → o.call.shown ≡ None
      → LeavesUnwritten o.call.sink o.call.sink' (warnings_of c ++ syntax_ok) → TestWays o name

-- the sending of a word ends so
pub data SendWays (o : SeenOutcome) (word : CommandWord) (name : List ℕ) : Type 0 where
  send_unconfigured : ConfigWays o name → SendWays o word name
  uncontrolled : o.status ≡ 10 → (c : Configuration) → HasConfigAccepted o.call name c → c.control ≡ None → o.call.shown ≡ None
      → SendWays o word name
  sent : o.status ≡ 0 → (c : Configuration) (port : ℕ) → HasConfigAccepted o.call name c → c.control ≡ Some port → o.call.shown ≡ None
      → EndsSent o.call o.front o.front' → SendWays o word name
  sent_unwritten : o.status ≡ 5 → (c : Configuration) (port : ℕ) → HasConfigAccepted o.call name c → c.control ≡ Some port → o.call.shown ≡ None
      → EndsSentUnwritten o.call o.front o.front' → SendWays o word name
  restart_refused : o.status ≡ 12 → (c : Configuration) (port : ℕ) → HasConfigAccepted o.call name c → c.control ≡ Some port
      → o.call.shown ≡ None → EndsRestartRefused o.call o.front o.front' → SendWays o word name
  undialled : o.status ≡ 4 → (c : Configuration) (port : ℕ) → HasConfigAccepted o.call name c → c.control ≡ Some port → o.call.shown ≡ None
      → Dials o.front o.front' port (command_word word) false [] → SendWays o word name

-- ## How each form ends

-- a call of that form ends so, where memory didn't lack
abbrev pub Ways : SeenOutcome → Form → Type 0
Ways o (plays name) = ScriptWays o name
Ways o (loads count) = LoadWays o count
Ways o (serves name) = ServeWays o name
Ways o (tests name) = TestWays o name
Ways o (sends word name) = SendWays o word name

-- the words have a form, and the call ended as one of that form
pub record Ended (o : SeenOutcome) : Type 0 where
  pub form : Form
  pub words : AreOfForm o.call.words form
  pub way : Ways o form

-- so it did; or memory lacked; or the words have no form
abbrev pub EndsSomehow : SeenOutcome → Type 0
EndsSomehow o = Ended o ⊎ (o.status ≡ 6) ⊎ ((o.status ≡ 2) × IsNoInvocation o.call.words)

module _ (o : SeenOutcome) (is : IsOutcome o) where
  -- a script or a load
  play-ended : (lines : List ScriptLine) → PlaysLines o.call lines → PlayWays o lines → Ended o
  play-ended lines (inl reads) way = record { form = plays reads.name; words = reads.command; way = plays_on reads.bytes lines reads.has reads.script way }
  play-ended lines (inr makes) way = record { form = loads makes.count; words = makes.command; way = loads_on lines makes.lines_are way }

  -- a run of one that opened
  played-ended : (s : Scripted) → o.scripted ≡ Some s → Ended o
  played-ended s some =
      let kept : HasPlayed o.call s.config s.board s.front s.clock s.store o.status = holds-of _ o.scripted s some is.leaves.kept in
      play-ended s.front.script kept.plays (played s some kept refl)

  -- a run of a server that opened
  served-ended : (b : SeenBoard) → o.board ≡ Some b → Ended o
  served-ended b some =
      let run : HasRunServer o.call o.front o.front' o.clock' o.status b = holds-of _ o.board b some is.leaves.server in
      record { form = serves run.name; words = run.command; way = served b run.config run.site some run.accepted run.loads }

  -- one that has no configuration
  named-ended : (name : List ℕ) → NamesConfig o.call.words name → ConfigWays o name → Ended o
  named-ended name (inl serve) way = record { form = serves name; words = serve; way = serve_unconfigured way }
  named-ended name (inr (inl test)) way = record { form = tests name; words = test; way = test_unconfigured way }
  named-ended name (inr (inr send)) way = record { form = sends send.0 name; words = send.1; way = send_unconfigured way }

  -- one that dialled
  sent-ended : o.status ≡ 0 → EndsSent o.call o.front o.front' → Ended o
  sent-ended zero e =
      let d = e.answered.dialled in
      record { form = sends d.word d.sends.name; words = d.sends.command; way = sent zero d.sends.config d.port d.sends.accepted d.sends.control d.sends.shows e }

  sent-unwritten : o.status ≡ 5 → EndsSentUnwritten o.call o.front o.front' → Ended o
  sent-unwritten five e =
      let d = e.answered.dialled in
      record { form = sends d.word d.sends.name; words = d.sends.command; way = sent_unwritten five d.sends.config d.port d.sends.accepted d.sends.control d.sends.shows e }

  restart-ended : o.status ≡ 12 → EndsRestartRefused o.call o.front o.front' → Ended o
  restart-ended twelve e =
      let d = e.dialled in
      record { form = sends d.word d.sends.name; words = d.sends.command; way = restart_refused twelve d.sends.config d.port d.sends.accepted d.sends.control d.sends.shows e }

  undialled-ended : o.status ≡ 4 → HasDialled o.call o.front o.front' false [] → Ended o
  undialled-ended four d =
      record { form = sends d.word d.sends.name; words = d.sends.command; way = undialled four d.sends.config d.port d.sends.accepted d.sends.control d.sends.shows d.dials }

  -- with each exit status
  well-ended : o.status ≡ 0 → Succeeds o.call o.front o.front' o.scripted o.board → Ended o
  well-ended zero (inl script) = let some = some-of o.scripted script in played-ended some.0 some.1
  well-ended zero (inr (inl server)) = let some = some-of o.board server in served-ended some.0 some.1
  well-ended zero (inr (inr (inl test))) =
      record { form = tests test.name; words = test.command; way = tested zero test.config test.accepted test.shows test.text }
  well-ended zero (inr (inr (inr send))) = sent-ended zero send

  config-ended : o.status ≡ 1 → EndsConfigRefused o.call → Ended o
  config-ended one (inl script) =
      play-ended script.lines script.plays (misconfigured one script.config script.why script.number script.config_is script.refused script.shows)
  config-ended one (inr (inl large)) = named-ended large.name large.command (config_large one large.cause large.shows)
  config-ended one (inr (inr unfit)) =
      named-ended unfit.name unfit.command (config_unfit one unfit.bytes unfit.number unfit.why unfit.has unfit.refused unfit.shows)

  unread-ended : o.status ≡ 3 → EndsUnread o.call → Ended o
  unread-ended three (inl file) =
      elim file.command [
        | inl script ↦ record { form = plays file.name; words = script; way = script_unread three file.unread }
        | inr config ↦ named-ended file.name config (config_unread three file.unread)
      ]
  unread-ended three (inr folder) =
      record { form = serves folder.name; words = folder.command; way = unloaded three folder.config folder.accepted folder.failed }

  front-ended : o.status ≡ 4 → EndsFrontFault o.call o.front o.front' o.board → Ended o
  front-ended four (inl server) = let some = some-of o.board server in served-ended some.0 some.1
  front-ended four (inr (inl bound)) =
      let u = bound.unbound in
      record { form = serves u.name; words = u.command; way = unbound four u.config u.site u.accepted u.loads u }
  front-ended four (inr (inr dialled)) = undialled-ended four dialled.dialled

  output-ended : o.status ≡ 5 → LacksOutput o.call o.front o.front' o.scripted o.board → Ended o
  output-ended five (inl script) = let some = some-of o.scripted script in played-ended some.0 some.1
  output-ended five (inr (inl server)) = let some = some-of o.board server in served-ended some.0 some.1
  output-ended five (inr (inr (inl test))) =
      record { form = tests test.name; words = test.command; way = test_unwritten five test.config test.accepted test.shows test.unwritten }
  output-ended five (inr (inr (inr send))) = sent-unwritten five send

  script-ended : o.status ≡ 8 → EndsRefused o.call → Ended o
  script-ended eight (inl large) =
      record { form = plays large.name; words = large.command; way = script_large eight large.cause large.shows }
  script-ended eight (inr line) =
      record { form = plays line.name; words = line.command; way = script_unfit eight line.bytes line.line line.why line.has line.refused line.shows }

  site-ended : o.status ≡ 9 → EndsSiteRefused o.call → Ended o
  site-ended nine (inl script) =
      play-ended script.lines script.plays (play_unsited nine script.config_text script.config script.refused_for script.config_is script.accepted script.refused script.shows)
  site-ended nine (inr server) =
      record { form = serves server.name; words = server.command; way = serve_unsited nine server.config server.refused_for server.accepted server.refused server.shows }

  control-ended : o.status ≡ 10 → Ended o
  control-ended ten =
      let e = is.causes.uncontrolled ten in
      record { form = sends e.word e.name; words = e.command; way = uncontrolled ten e.config e.accepted e.control e.shows }

-- an exit status is one of those that there are
by-status : {X : Type 0} (s : ℕ) → IsExitStatus s → (s ≡ 0 → X) → (s ≡ 1 → X) → (s ≡ 2 → X) → (s ≡ 3 → X) → (s ≡ 4 → X) → (s ≡ 5 → X) → (s ≡ 6 → X)
    → (s ≡ 8 → X) → (s ≡ 9 → X) → (s ≡ 10 → X) → (s ≡ 12 → X) → X
by-status s known a b c d e f g h i j k =
    elim (cases_eq s 0) [
      | inl is ↦ a is
      | inr no0 ↦
          elim (cases_eq s 1) [
            | inl is ↦ b is
            | inr no1 ↦
                elim (cases_eq s 2) [
                  | inl is ↦ c is
                  | inr no2 ↦
                      elim (cases_eq s 3) [
                        | inl is ↦ d is
                        | inr no3 ↦
                            elim (cases_eq s 4) [
                              | inl is ↦ e is
                              | inr no4 ↦
                                  elim (cases_eq s 5) [
                                    | inl is ↦ f is
                                    | inr no5 ↦
                                        elim (cases_eq s 6) [
                                          | inl is ↦ g is
                                          | inr no6 ↦
                                              elim (cases_eq s 8) [
                                                | inl is ↦ h is
                                                | inr no8 ↦
                                                    elim (cases_eq s 9) [
                                                      | inl is ↦ i is
                                                      | inr no9 ↦
                                                          elim (cases_eq s 10) [
                                                            | inl is ↦ j is
                                                            | inr no10 ↦ elim (cases_eq s 12) [ inl is ↦ k is | inr no12 ↦ absurd (omega arith) ]
                                                          ]
                                                    ]
                                              ]
                                        ]
                                  ]
                            ]
                      ]
                ]
          ]
    ]

pub ends-somehow : (o : SeenOutcome) → IsOutcome o → EndsSomehow o
ends-somehow o is =
    by-status o.status is.causes.known
    (λ zero. inl (well-ended o is zero (is.causes.served zero)))
    (λ one. inl (config-ended o is one (is.causes.misconfigured one)))
    (λ two. inr (inr (two, (is.causes.unknown two).unknown)))
    (λ three. inl (unread-ended o is three (is.causes.unread three)))
    (λ four. inl (front-ended o is four (is.causes.front_failed four)))
    (λ five. inl (output-ended o is five (is.causes.unwritten five)))
    (λ six. inr (inl six))
    (λ eight. inl (script-ended o is eight (is.causes.refused eight)))
    (λ nine. inl (site-ended o is nine (is.causes.site_refused nine)))
    (λ ten. inl (control-ended o is ten))
    (λ twelve. inl (restart-ended o is twelve (is.causes.restart_refused twelve)))

-- ## By the form of the words

-- the law: words have one form at most
abbrev pub OneForm : Type 0
OneForm = (words : List (List ℕ)) (form other : Form) → AreOfForm words form → AreOfForm words other → form ≡ other

-- a call whose words have that form ended as one of it, or memory lacked
pub ended-as : OneForm → (o : SeenOutcome) → IsOutcome o → (form : Form) → AreOfForm o.call.words form → Ways o form ⊎ (o.status ≡ 6)
ended-as one o is form words =
    elim (ends-somehow o is) [
      | inl ended ↦ inl (subst (Ways o) (one o.call.words ended.form form ended.words words) ended.way)
      | inr other ↦ elim other [ inl six ↦ inr six | inr unknown ↦ absurd (unknown.1 form words) ]
    ]

-- one whose words have none ended for that, or memory lacked
pub ended-unknown : (o : SeenOutcome) → IsOutcome o → IsNoInvocation o.call.words → (o.status ≡ 2) ⊎ (o.status ≡ 6)
ended-unknown o is none =
    elim (ends-somehow o is) [
      | inl ended ↦ absurd (none ended.form ended.words)
      | inr other ↦ elim other [ inl six ↦ inr six | inr unknown ↦ inl unknown.0 ]
    ]
