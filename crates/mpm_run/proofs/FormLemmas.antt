-- What each form of the command line makes of what its parts leave.
use Rattle.std.proofs.Common.{◌≡◌, ◌⊎◌, inl, inr, ℕ, List, Option, None, refl, arith}
use Rattle.mpm_base.specs.Front.{FrontSeen}
use Rattle.board.specs.Board.{SeenBoard}
use Rattle.command_words.specs.Invocations.{IsNoInvocation}
use Rattle.run_opening.specs.Calls.{Call}
use Rattle.run_opening.specs.Refusals.{EndsSilently}
use Rattle.run_opening.specs.RefusalsInside.{RefusesRun}
use Rattle.run_report.specs.Texts.{usage}
use Rattle.mpm_run.specs.ExitStatuses.{Causes, LeavesAll}
use Rattle.server_run.specs.EndsInside.{EndsSend, EndsServe, EndsTest}
use Rattle.script_run.specs.PlayedInside.{EndsScript}
use Rattle.script_run.specs.declared.scripted.Scripted.{Scripted}

-- ## A script

-- what it leaves
pub script-leaves : (call : Call) (f : FrontSeen) (calls : Option (List (ℕ × ℕ))) (status : ℕ) (left : Option Scripted) → EndsScript call status left
    → LeavesAll call f f calls calls status left None
script-leaves call f calls status left ends =
    record { kept = ends.kept; server = tt; unopened = λ none. record { front = inl refl; clock = refl } }

-- why it ended so
pub script-causes : (call : Call) (f : FrontSeen) (status : ℕ) (left : Option Scripted) → EndsScript call status left → Causes call f f status left None
script-causes call f status left ends = record {
  known = (omega (arith, ends.known), λ seven. absurd (omega (arith, ends.known, seven)), λ eleven. absurd (omega (arith, ends.known, eleven)));
  served = λ zero. inl (ends.opened (inl zero));
  misconfigured = λ one. inl (ends.misconfigured one);
  unknown = λ two. absurd (omega (arith, ends.known, two));
  unread = λ three. let file = ends.unread three in inl (record { name = file.0; command = inl file.1; unread = file.2 });
  front_failed = λ four. absurd (omega (arith, ends.known, four));
  unwritten = λ five. inl (ends.opened (inr five));
  silent = λ six none nothing. ends.silent six none;
  refused = ends.refused;
  site_refused = λ nine. inl (ends.site_refused nine);
  uncontrolled = λ ten. absurd (omega (arith, ends.known, ten));
  restart_refused = λ twelve. absurd (omega (arith, ends.known, twelve));
}

-- ## A server

-- what it leaves
pub serve-leaves : (call : Call) (f f' : FrontSeen) (calls calls' : Option (List (ℕ × ℕ))) (status : ℕ) (left : Option SeenBoard)
    → EndsServe call f f' calls calls' status left → LeavesAll call f f' calls calls' status None left
serve-leaves call f f' calls calls' status left ends = record { kept = tt; server = ends.server; unopened = ends.unopened }

-- why it ended so
pub serve-causes : (call : Call) (f f' : FrontSeen) (calls calls' : Option (List (ℕ × ℕ))) (status : ℕ) (left : Option SeenBoard)
    → EndsServe call f f' calls calls' status left → Causes call f f' status None left
serve-causes call f f' calls calls' status left ends = record {
  known = (omega (arith, ends.known), λ seven. absurd (omega (arith, ends.known, seven)), λ eleven. absurd (omega (arith, ends.known, eleven)));
  served = λ zero. inr (inl (ends.opened (inl zero)));
  misconfigured = λ one. inr (ends.misconfigured one);
  unknown = λ two. absurd (omega (arith, ends.known, two));
  unread = ends.unread;
  front_failed = λ four. elim (ends.front_failed four) [ inl opened ↦ inl opened | inr unbound ↦ inr (inl unbound) ];
  unwritten = λ five. inr (inl (ends.opened (inr five)));
  silent = λ six none nothing. ends.silent six nothing;
  refused = λ eight. absurd (omega (arith, ends.known, eight));
  site_refused = λ nine. inr (ends.site_refused nine);
  uncontrolled = λ ten. absurd (omega (arith, ends.known, ten));
  restart_refused = λ twelve. absurd (omega (arith, ends.known, twelve));
}

-- ## A command that has no run

-- what a test leaves
pub test-leaves : (call : Call) (f : FrontSeen) (calls : Option (List (ℕ × ℕ))) (status : ℕ) → EndsTest call status
    → LeavesAll call f f calls calls status None None
test-leaves call f calls status ends =
    record { kept = tt; server = tt; unopened = λ none. record { front = inl refl; clock = refl } }

-- why it ended so
pub test-causes : (call : Call) (f : FrontSeen) (status : ℕ) → EndsTest call status → Causes call f f status None None
test-causes call f status ends = record {
  known = (omega (arith, ends.known), λ seven. absurd (omega (arith, ends.known, seven)), λ eleven. absurd (omega (arith, ends.known, eleven)));
  served = λ zero. inr (inr (inl (ends.tested zero)));
  misconfigured = λ one. inr (ends.misconfigured one);
  unknown = λ two. absurd (omega (arith, ends.known, two));
  unread = ends.unread;
  front_failed = λ four. absurd (omega (arith, ends.known, four));
  unwritten = λ five. inr (inr (inl (ends.unwritten five)));
  silent = λ six none nothing. ends.silent six;
  refused = λ eight. absurd (omega (arith, ends.known, eight));
  site_refused = λ nine. absurd (omega (arith, ends.known, nine));
  uncontrolled = λ ten. absurd (omega (arith, ends.known, ten));
  restart_refused = λ twelve. absurd (omega (arith, ends.known, twelve));
}

-- what a command leaves that is sent
pub send-leaves : (call : Call) (f f' : FrontSeen) (calls : Option (List (ℕ × ℕ))) (status : ℕ) → EndsSend call f f' status
    → LeavesAll call f f' calls calls status None None
send-leaves call f f' calls status ends =
    record { kept = tt; server = tt; unopened = λ none. record { front = ends.front; clock = refl } }

-- why it ended so
pub send-causes : (call : Call) (f f' : FrontSeen) (status : ℕ) → EndsSend call f f' status → Causes call f f' status None None
send-causes call f f' status ends = record {
  known = (omega (arith, ends.known), λ seven. absurd (omega (arith, ends.known, seven)), λ eleven. absurd (omega (arith, ends.known, eleven)));
  served = λ zero. inr (inr (inr (ends.sent zero)));
  misconfigured = λ one. inr (ends.misconfigured one);
  unknown = λ two. absurd (omega (arith, ends.known, two));
  unread = ends.unread;
  front_failed = λ four. inr (inr (ends.undialled four));
  unwritten = λ five. inr (inr (inr (ends.unwritten five)));
  silent = λ six none nothing. ends.silent six;
  refused = λ eight. absurd (omega (arith, ends.known, eight));
  site_refused = λ nine. absurd (omega (arith, ends.known, nine));
  uncontrolled = ends.uncontrolled;
  restart_refused = ends.restart_refused;
}

-- words that are no command leave nothing
pub unknown-leaves : (call : Call) (f : FrontSeen) (calls : Option (List (ℕ × ℕ))) (status : ℕ) → LeavesAll call f f calls calls status None None
unknown-leaves call f calls status =
    record { kept = tt; server = tt; unopened = λ none. record { front = inl refl; clock = refl } }

-- why they end so, or a command for which memory lacked
pub unknown-causes : (call : Call) (f : FrontSeen) (status : ℕ) → (status ≡ 2) ⊎ (status ≡ 6) → (status ≡ 2 → IsNoInvocation call.words)
    → call.store' ≡ call.store → (status ≡ 2 → RefusesRun call.sink call.sink' None usage call.shown)
    → (status ≡ 6 → EndsSilently call.sink call.sink' call.shown) → Causes call f f status None None
unknown-causes call f status known unknown unasked refused silent = record {
  known = (omega (arith, known), λ seven. absurd (omega (arith, known, seven)), λ eleven. absurd (omega (arith, known, eleven)));
  served = λ zero. absurd (omega (arith, known, zero));
  misconfigured = λ one. absurd (omega (arith, known, one));
  unknown = λ two. record { unknown = unknown two; unasked = unasked; shows = (refused two).shows; text = (refused two).writes };
  unread = λ three. absurd (omega (arith, known, three));
  front_failed = λ four. absurd (omega (arith, known, four));
  unwritten = λ five. absurd (omega (arith, known, five));
  silent = λ six none nothing. silent six;
  refused = λ eight. absurd (omega (arith, known, eight));
  site_refused = λ nine. absurd (omega (arith, known, nine));
  uncontrolled = λ ten. absurd (omega (arith, known, ten));
  restart_refused = λ twelve. absurd (omega (arith, known, twelve));
}
