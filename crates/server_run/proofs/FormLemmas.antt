-- How the test of a configuration and a command end that have no configuration.
use Rattle.std.proofs.Common.{◌≡◌, ◌⊎◌, inl, inr, ℕ, List, true, refl, arith}
use Rattle.std.proofs.lemmas.Bool.{cases_Bool}
use Rattle.mpm_base.specs.Front.{FrontSeen}
use Rattle.mpm_base.specs.GivenAnswers.{says_refused}
use Rattle.run_opening.specs.Calls.{Call}
use Rattle.run_opening.specs.Refusals.{EndsSilently}
use Rattle.server_run.specs.EndsInside.{EndsSend, EndsTest, ShowsAnswer}
use Rattle.server_run.specs.Ends.{EndsFileRefused, EndsUnread, HasDialled}

-- ## A configuration that isn't there, or is refused

-- a test, a command and a server that have none
module _ (call : Call) (status : ℕ) (known : (status ≡ 1) ⊎ (status ≡ 3) ⊎ (status ≡ 6)) (refused : status ≡ 1 → EndsFileRefused call) (unread : status ≡ 3 → EndsUnread call) (silent : status ≡ 6 → EndsSilently call.sink call.sink' call.shown) where
  pub test-unconfigured : EndsTest call status
  test-unconfigured = record {
    known = elim known [ inl one ↦ inr (inl one) | inr other ↦ elim other [ inl three ↦ inr (inr (inl three)) | inr six ↦ inr (inr (inr (inr six))) ] ];
    tested = λ zero. absurd (omega (arith, known, zero));
    misconfigured = refused;
    unread = unread;
    unwritten = λ five. absurd (omega (arith, known, five));
    silent = silent;
  }

  pub send-unconfigured : (f : FrontSeen) → EndsSend call f f status
  send-unconfigured f = record {
    known = elim known [ inl one ↦ inr (inl one) | inr other ↦ elim other [ inl three ↦ inr (inr (inl three)) | inr six ↦ inr (inr (inr (inr (inr (inl six))))) ] ];
    front = inl refl;
    sent = λ zero. absurd (omega (arith, known, zero));
    misconfigured = refused;
    unread = unread;
    undialled = λ four. absurd (omega (arith, known, four));
    unwritten = λ five. absurd (omega (arith, known, five));
    silent = silent;
    uncontrolled = λ ten. absurd (omega (arith, known, ten));
    restart_refused = λ twelve. absurd (omega (arith, known, twelve));
  }

-- ## An answer

-- a command that was answered ends as its answer says, and as that was written
pub ends-answered : (call : Call) (f f' : FrontSeen) (text : List ℕ) (status : ℕ) → HasDialled call f f' true text
    → ShowsAnswer call.sink call.sink' text status → EndsSend call f f' status
ends-answered call f f' text status dialled shows =
    elim (cases_Bool (says_refused text)) [
      | inl says ↦
          let so = shows.refused says in
          record {
            known = inr (inr (inr (inr (inr (inr (inr so.0))))));
            front = inr (inl (record { text = text; dialled = dialled; status_is = inl (says, so.0) }));
            sent = λ zero. absurd (omega (arith, so.0, zero));
            misconfigured = λ one. absurd (omega (arith, so.0, one));
            unread = λ three. absurd (omega (arith, so.0, three));
            undialled = λ four. absurd (omega (arith, so.0, four));
            unwritten = λ five. absurd (omega (arith, so.0, five));
            silent = λ six. absurd (omega (arith, so.0, six));
            uncontrolled = λ ten. absurd (omega (arith, so.0, ten));
            restart_refused = λ twelve. record { text = text; dialled = dialled; refused = says; written = so.1 };
          }
      | inr well ↦
          let so = shows.answered well in
          record {
            known = elim so [ inl zero ↦ inl zero | inr five ↦ inr (inr (inr (inr (inl five)))) ];
            front = inr (inl (record { text = text; dialled = dialled; status_is = inr (well, so) }));
            sent = λ zero. record { text = text; answered = record { dialled = dialled; well = well }; written = shows.written zero };
            misconfigured = λ one. absurd (omega (arith, so, one));
            unread = λ three. absurd (omega (arith, so, three));
            undialled = λ four. absurd (omega (arith, so, four));
            unwritten = λ five. record { text = text; answered = record { dialled = dialled; well = well }; unwritten = shows.unwritten five };
            silent = λ six. absurd (omega (arith, so, six));
            uncontrolled = λ ten. absurd (omega (arith, so, ten));
            restart_refused = λ twelve. absurd (omega (arith, so, twelve));
          }
    ]

-- memory lacked for one, and nothing was done
pub send-unroomed : (call : Call) (status : ℕ) → status ≡ 6 → EndsSilently call.sink call.sink' call.shown → (f : FrontSeen) → EndsSend call f f status
send-unroomed call status six silent f = record {
  known = inr (inr (inr (inr (inr (inl six)))));
  front = inl refl;
  sent = λ zero. absurd (omega (arith, six, zero));
  misconfigured = λ one. absurd (omega (arith, six, one));
  unread = λ three. absurd (omega (arith, six, three));
  undialled = λ four. absurd (omega (arith, six, four));
  unwritten = λ five. absurd (omega (arith, six, five));
  silent = λ _. silent;
  uncontrolled = λ ten. absurd (omega (arith, six, ten));
  restart_refused = λ twelve. absurd (omega (arith, six, twelve));
}
