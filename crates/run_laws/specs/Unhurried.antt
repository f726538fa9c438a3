-- That in the run of a script no deadline stands in for service: time passes only where each signal was taken up that the front had given.
use Rattle.conn_machine.specs.Runs.{after}
use Rattle.conn_machine.specs.declared.event.Entry.{Entry}
use Rattle.conn_machine.specs.declared.event.Event.TheVariants as event
use Rattle.conn_machine.specs.declared.state.State.{State}
use Rattle.listener_round.specs.FirstNumbers.{numbers_of, opened_by}
use Rattle.listener_round.specs.Pace.{Brought, brought, moved, ordered, signalled, taken, ticked}
use Rattle.listener.specs.Patient.{PassesPatiently}
use Rattle.mpm_base.specs.Front.{FrontTold, WaitTold}
use Rattle.mpm_base.specs.declared.front.Woke.TheVariants as woke
use Rattle.board_book.specs.Moments.{known_slots, moment_for}
use Rattle.run_laws.specs.Outcomes.{IsOutcome, SeenOutcome}
use Rattle.script_front.specs.ScriptFront.{comings_of}
use Rattle.script_run.specs.Played.{HasPlayed}
use Rattle.script_run.specs.declared.scripted.Scripted.{Scripted}
use Rattle.std.specs.List.{flat_map}
use Rattle.std.specs.Prelude.{◌≡◌, ℕ, List, [], ◌∷◌, ◌++◌, Some}

-- the slot that it signals, where it does
abbrev pub slots_in : Brought → List ℕ
slots_in (ticked m) = []
slots_in (signalled slot) = slot ∷ []
slots_in (ordered word) = []
slots_in moved = []
slots_in taken = []

-- the slots that the listener signalled, in order
abbrev pub slots_signalled : List Entry → List ℕ
slots_signalled history = flat_map slots_in (brought history)

-- the slots that the waits gave and a table of so many has, in order
abbrev pub slots_given : ℕ → List WaitTold → List ℕ
slots_given rows waits = flat_map (λ wait. known_slots rows wait.slots) waits

-- behind these entries time passes to the moment as a wait let it, and each slot that the waits before that one gave was signalled before, once
-- and in order; it passes in a state in which nothing is left to be done and no connection that waits is signalled, to a moment at which
-- something comes by itself, or to the least deadline. So whatever came for a connection before was taken up, and no connection is late for
-- which something had come
pub record PassesUnhurried (rows : ℕ) (comings : List ℕ) (t : FrontTold) (s : State) (before : List Entry) (m : ℕ) : Type 0 where
  pub earlier : List WaitTold
  pub wait : WaitTold
  pub later : List WaitTold
  pub waits_are : t.waits ≡ earlier ++ wait ∷ later
  pub to : ℕ
  pub woke : wait.answer ≡ woke.Woke to
  pub moment : m ≡ moment_for to
  pub signals : slots_signalled before ≡ slots_given rows earlier
  pub patiently : PassesPatiently comings t.waits s m

-- the law: so it is of each tick of all entries of the run of a script
abbrev pub NoDeadlineStandsInForService : Type 0
NoDeadlineStandsInForService =
    (o : SeenOutcome) (s : Scripted) (played : HasPlayed o.call s.config s.board s.front s.clock s.store o.status)
    → IsOutcome o
    → o.scripted ≡ Some s
    → (before rest : List Entry) (e : Entry) (m : ℕ)
    → played.has_run.folded.entries ++ s.board.book.history ≡ before ++ e ∷ rest
    → e.event ≡ event.Tick m
    → PassesUnhurried (numbers_of s.config).slots (comings_of s.front.script) s.front.told (after (opened_by (numbers_of s.config)) before) before m
