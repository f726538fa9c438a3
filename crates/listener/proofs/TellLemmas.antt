-- That the state tells for what the server stopped.
use Rattle.std.proofs.Common.{◌≡◌, Bool, true, false, not, ◌&&◌, List, [], ◌∷◌, ◌++◌, refl, sym, ap, subst}
use Rattle.conn_machine.specs.declared.event.Commanded.TheVariants.{Stop}
use Rattle.conn_machine.specs.declared.event.Entry.{Entry}
use Rattle.conn_machine.specs.declared.event.Event.{Event}
use Rattle.conn_machine.specs.declared.event.Event.TheVariants as event
use Rattle.conn_machine.specs.declared.event.Why.{Why}
use Rattle.conn_machine.specs.declared.state.Going.TheVariants.{Halted}
use Rattle.conn_machine.specs.declared.state.State.{State}
use Rattle.conn_machine.specs.Runs.{Run, after}
use Rattle.conn_machine.specs.States.{is_halted}
use Rattle.conn_machine.specs.Table.{is_allowed, next}
use Rattle.board_book.specs.Book.{SeenBook}
use Rattle.listener_round.specs.Commands.{TellsStop}

-- a server that stopped takes no command
no-command : (stopped fits : Bool) → (not stopped && fits) ≡ true → stopped ≡ true → ⊥
no-command true fits may halted = cc may
no-command false fits may halted = cc halted

-- it stays as it stopped
stays-halted : (s : State) (e : Event) (why : Why) → is_allowed s e ≡ true → s.going ≡ Halted why → (next s e).going ≡ Halted why
stays-halted s (event.Command c) why may halted = absurd (no-command (is_halted s.going) _ may (ap is_halted halted))
stays-halted s e why may halted = halted

-- whatever follows
ends-halted : (s : State) (history : List Entry) (why : Why) → Run s history → s.going ≡ Halted why → (after s history).going ≡ Halted why
ends-halted s [] why run halted = halted
ends-halted s (e ∷ history) why run halted = ends-halted (next s e.event) history why run.2 (stays-halted s e.event why run.0 halted)

-- behind a stop of a run
stops-behind : (s : State) (before behind : List Entry) (e : Entry) (why : Why) → e.event ≡ event.Command (Stop why) → Run s (before ++ e ∷ behind)
    → (after s (before ++ e ∷ behind)).going ≡ Halted why
stops-behind s [] behind e why is run =
    ends-halted (next s e.event) behind why run.2
    (subst (λ (x : Event). (next s x).going ≡ Halted why) (sym is) refl)
stops-behind s (x ∷ before) behind e why is run = stops-behind (next s x.event) before behind e why is run.2

-- so the state tells it
pub tells-stop : (b : SeenBook) → Run b.base b.history → after b.base b.history ≡ b.state → TellsStop b
tells-stop b run state why has =
    let there : Run b.base (has.before ++ has.entry ∷ has.behind) = subst (Run b.base) has.history_is run in
    let halted = stops-behind b.base has.before has.behind has.entry why has.event_is there in
    let same : after b.base b.history ≡ after b.base (has.before ++ has.entry ∷ has.behind) = ap (after b.base) has.history_is in
    subst (λ (s : State). s.going ≡ Halted why) state
    (subst (λ (s : State). s.going ≡ Halted why) (sym same) halted)
