-- How a run ends that wasn't asked to, and for which causes it closes connections.
use Rattle.std.proofs.Common.{◌≡◌, ◌==◌, ◌+◌, ℕ, zero, suc, Bool, true, false, not, cond, ◌&&◌, ◌||◌, List, [], ◌∷◌, replicate, Option, None, Some, is_some, slice_get, refl, sym, ap, subst}
use Rattle.std.proofs.lemmas.Bool.{and_parts, both_ways, not-true, or_from, or_parts}
use Rattle.std.specs.List.{list_any}
use Rattle.std.specs.Option.{option_map_or}
use Rattle.mpm_base.specs.Cause.{cause_number}
use Rattle.mpm_base.specs.declared.conn.Cause.{Cause}
use Rattle.mpm_base.specs.declared.conn.Cause.TheVariants as cause
use Rattle.mpm_base.specs.declared.conn.ConnName.{ConnName}
use Rattle.mpm_base.specs.declared.conn.Tail.{Tail}
use Rattle.conn_machine.specs.declared.event.Commanded.{Commanded}
use Rattle.conn_machine.specs.declared.event.Commanded.TheVariants.{Graceful, Refused, GracefulStop, Stop}
use Rattle.conn_machine.specs.declared.event.Entry.{Entry}
use Rattle.conn_machine.specs.declared.event.Event.{Event}
use Rattle.conn_machine.specs.declared.event.Event.TheVariants as event
use Rattle.conn_machine.specs.declared.event.Why.{Why}
use Rattle.conn_machine.specs.declared.event.Why.TheVariants as why
use Rattle.conn_machine.specs.declared.row.Place.TheVariants.{Spent, Vacant}
use Rattle.conn_machine.specs.declared.row.Row.{Row}
use Rattle.conn_machine.specs.declared.state.Going.{Going}
use Rattle.conn_machine.specs.declared.state.Going.TheVariants.{Serving, Ending, Halted}
use Rattle.conn_machine.specs.declared.state.State.{State}
use Rattle.conn_machine.specs.Events.{is_close_for}
use Rattle.conn_machine.specs.Lists.{update}
use Rattle.conn_machine.specs.Rows.{is_held, is_lingering, is_live, is_working, lives_and}
use Rattle.conn_machine.specs.Runs.{Run, after}
use Rattle.conn_machine.specs.States.{is_halted, is_over, is_serving, is_signalled}
use Rattle.conn_machine.specs.Table.{answered_row, closed_row, end_fits, greatest_life, held_row, is_allowed, is_direct, linger_cause_fits, linger_tail_fits, lingering_row, next, parked_row, queued_row, served_row, stop_fits, taken_row}
use Rattle.board_book.specs.ClosedDown.{HasNoLive}
use Rattle.listener_round.specs.Commands.{is_graceful_stop}
use Rattle.rounds.proofs.FoundLemmas.{found-at, found-named, lives}

-- ## Graceful stops

-- the server isn't to end, and didn't stop as the time of that was over
abbrev pub NeverEnds : Going → Type 0
NeverEnds Serving = Unit {0}
NeverEnds (Ending until) = ⊥
NeverEnds (Halted why.Asked) = Unit {0}
NeverEnds (Halted why.Overdue) = ⊥
NeverEnds (Halted why.FrontEnded) = Unit {0}
NeverEnds (Halted why.FrontFailed) = Unit {0}
NeverEnds (Halted why.NoMemory) = Unit {0}

-- the time of such a server is never over
never-over : (moment : ℕ) (going : Going) → NeverEnds going → is_over moment going ≡ true → ⊥
never-over moment Serving never over = cc over
never-over moment (Ending until) never over = never
never-over moment (Halted reason) never over = cc over

-- it stays so behind a command that begins no graceful stop
command-never : (s : State) (c : Commanded) → is_allowed s (event.Command c) ≡ true → is_graceful_stop (event.Command c) ≡ false → NeverEnds s.going
    → NeverEnds (next s (event.Command c)).going
command-never s (Graceful shape) may none never = never
command-never s (Refused reason) may none never = never
command-never s (GracefulStop until) may none never = absurd (cc none)
command-never s (Stop why.Asked) may none never = tt
command-never s (Stop why.Overdue) may none never = never-over s.moment s.going never (and_parts (not (is_halted s.going)) _ may).1
command-never s (Stop why.FrontEnded) may none never = tt
command-never s (Stop why.FrontFailed) may none never = tt
command-never s (Stop why.NoMemory) may none never = tt

-- and behind each other event
event-never : (s : State) (e : Event) → is_allowed s e ≡ true → is_graceful_stop e ≡ false → NeverEnds s.going → NeverEnds (next s e).going
event-never s (event.Command c) may none never = command-never s c may none never
event-never s e may none never = never

-- so it is where a run begins no graceful stop
pub never-ends : (s : State) (history : List Entry) → Run s history → list_any (λ (e : Entry). is_graceful_stop e.event) history ≡ false
    → NeverEnds s.going → NeverEnds (after s history).going
never-ends s [] run none never = never
never-ends s (e ∷ history) run none never =
    let parts = or_parts (is_graceful_stop e.event) (list_any (λ (x : Entry). is_graceful_stop x.event) history) none in
    never-ends (next s e.event) history run.2 parts.1 (event-never s e.event run.0 parts.0 never)

-- ## A server that stopped

-- it takes no command
no-command : (stopped fits : Bool) → (not stopped && fits) ≡ true → stopped ≡ true → ⊥
no-command true fits may halted = cc may
no-command false fits may halted = cc halted

-- it stays as it stopped
stays-halted : (s : State) (e : Event) (why : Why) → is_allowed s e ≡ true → s.going ≡ Halted why → (next s e).going ≡ Halted why
stays-halted s (event.Command c) why may halted = absurd (no-command (is_halted s.going) _ may (ap is_halted halted))
stays-halted s e why may halted = halted

-- whatever follows
ends-halted : (s : State) (history : List Entry) (why : Why) → Run s history → s.going ≡ Halted why → (after s history).going ≡ Halted why
ends-halted s [] why run halted = halted
ends-halted s (e ∷ history) why run halted = ends-halted (next s e.event) history why run.2 (stays-halted s e.event why run.0 halted)

-- ## Rows that linger

-- a connection lingers for this
abbrev LingersFor : Option Cause → Type 0
LingersFor None = Unit {0}
LingersFor (Some cause.ClientDone) = ⊥
LingersFor (Some cause.LastSent) = Unit {0}
LingersFor (Some cause.KeepAliveLate) = Unit {0}
LingersFor (Some cause.ReadLate) = Unit {0}
LingersFor (Some cause.WriteLate) = Unit {0}
LingersFor (Some cause.Retiring) = Unit {0}
LingersFor (Some cause.LinkFailed) = ⊥
LingersFor (Some cause.Stopped) = ⊥
LingersFor (Some cause.NoMemory) = ⊥

-- so does each row, where it does
abbrev pub AllLinger : List Row → Type 0
AllLinger [] = Unit {0}
AllLinger (r ∷ rows) = LingersFor r.cause × AllLinger rows

-- so it is where rows never were used
pub unused-linger : (slots : ℕ) (r : Row) → r.cause ≡ None → AllLinger (replicate slots r)
unused-linger zero r none = tt
unused-linger (suc slots) r none = (subst LingersFor (sym none) tt, unused-linger slots r none)

-- the row of a slot does
linger-at : (rows : List Row) (slot : ℕ) (r : Row) → AllLinger rows → slice_get rows slot ≡ Some r → LingersFor r.cause
linger-at [] slot r all at = absurd (cc at)
linger-at (x ∷ rows) zero r all at = let same : x ≡ r = cc at in subst (λ (y : Row). LingersFor y.cause) same all.0
linger-at (x ∷ rows) (suc slot) r all at = linger-at rows slot r all.1 at

-- so it stays where one is changed that keeps it
linger-update : (rows : List Row) (slot : ℕ) (change : Row → Row) → AllLinger rows → ((r : Row) → LingersFor r.cause → LingersFor (change r).cause)
    → AllLinger (update rows slot change)
linger-update [] slot change all keeps = tt
linger-update (r ∷ rows) zero change all keeps = (keeps r all.0, all.1)
linger-update (r ∷ rows) (suc slot) change all keeps = (all.0, linger-update rows slot change all.1 keeps)

-- a cause for which a row may linger is one
fits-linger : (s : State) (why : Cause) (signalled : Bool) (r : Row) → linger_cause_fits s why signalled r ≡ true → LingersFor (Some why)
fits-linger s cause.ClientDone signalled r fits = absurd (cc fits)
fits-linger s cause.LastSent signalled r fits = tt
fits-linger s cause.KeepAliveLate signalled r fits = tt
fits-linger s cause.ReadLate signalled r fits = tt
fits-linger s cause.WriteLate signalled r fits = tt
fits-linger s cause.Retiring signalled r fits = tt
fits-linger s cause.LinkFailed signalled r fits = absurd (cc fits)
fits-linger s cause.Stopped signalled r fits = absurd (cc fits)
fits-linger s cause.NoMemory signalled r fits = absurd (cc fits)

closed-cause : (b : Bool) (r : Row) (P : Option Cause → Type 0) → P r.cause
    → P (cond b (record r { place = Spent; notes = [] }) (record r { life = r.life + 1; place = Vacant; notes = [] })).cause
closed-cause true r P here = here
closed-cause false r P here = here

-- each event keeps it
event-linger : (s : State) (e : Event) → is_allowed s e ≡ true → AllLinger s.rows → AllLinger (next s e).rows
event-linger s (event.Accept slot) may all = linger-update s.rows slot (taken_row s) all (λ r here. tt)
event-linger s (event.Park name kind) may all = linger-update s.rows name.slot (parked_row s kind) all (λ r here. here)
event-linger s (event.Hold name) may all = linger-update s.rows name.slot held_row all (λ r here. here)
event-linger s (event.Queue name) may all = linger-update s.rows name.slot queued_row all (λ r here. here)
event-linger s (event.Start name) may all = linger-update s.rows name.slot (served_row s) all (λ r here. here)
event-linger s (event.Answer name ask) may all = linger-update s.rows name.slot (answered_row s name.slot ask) all (λ r here. here)
event-linger s (event.Linger name reason) may all =
    let found = lives (λ r. not (is_lingering r) && linger_cause_fits s reason (is_signalled s name.slot) r) s.rows name may in
    let fits = (and_parts (not (is_lingering found.row)) _ found.passes).1 in
    linger-update s.rows name.slot (lingering_row s reason) all (λ r here. fits-linger s reason (is_signalled s name.slot) found.row fits)
event-linger s (event.Close name reason how) may all =
    linger-update s.rows name.slot closed_row all (λ r here. closed-cause (r.life == greatest_life) r LingersFor here)
event-linger s (event.Ready slot) may all = all
event-linger s (event.Tick m) may all = all
event-linger s (event.StartChild k) may all = all
event-linger s (event.Command (Graceful shape)) may all = all
event-linger s (event.Command (Refused reason)) may all = all
event-linger s (event.Command (GracefulStop until)) may all = all
event-linger s (event.Command (Stop reason)) may all = all
event-linger s (event.Retire k) may all = all

-- ## Closes as stopped

-- a row isn't live where none is
none-live-at : (rows : List Row) (slot : ℕ) (r : Row) → list_any is_live rows ≡ false → slice_get rows slot ≡ Some r → is_live r ≡ false
none-live-at [] slot r none at = absurd (cc at)
none-live-at (x ∷ rows) zero r none at =
    let same : x ≡ r = cc at in subst (λ (y : Row). is_live y ≡ false) same (or_parts (is_live x) (list_any is_live rows) none).0
none-live-at (x ∷ rows) (suc slot) r none at = none-live-at rows slot r (or_parts (is_live x) (list_any is_live rows) none).1 at

-- no name lives where no row does
none-lives : (test : Row → Bool) (rows : List Row) (name : ConnName) → list_any is_live rows ≡ false → lives_and test rows name ≡ true → ⊥
none-lives test rows name none found =
    let row = lives test rows name found in
    both_ways (is_live row.row) (none-live-at rows name.slot row.row none (found-at rows name row.row row.found)) (found-named rows name row.row row.found).0

-- what ends as stopped doesn't linger, and the server has stopped
stopped-by : (s : State) (how : Tail) (r : Row) (c : Option Cause) → LingersFor c
    → cond (is_some c) (option_map_or (λ x. cause_number x == cause_number cause.Stopped) c false && linger_tail_fits s how r) (is_direct how && is_halted s.going) ≡ true
    → is_halted s.going ≡ true
stopped-by s how r None here fits = (and_parts (is_direct how) (is_halted s.going) fits).1
stopped-by s how r (Some cause.ClientDone) here fits = absurd here
stopped-by s how r (Some cause.LastSent) here fits = absurd (cc fits)
stopped-by s how r (Some cause.KeepAliveLate) here fits = absurd (cc fits)
stopped-by s how r (Some cause.ReadLate) here fits = absurd (cc fits)
stopped-by s how r (Some cause.WriteLate) here fits = absurd (cc fits)
stopped-by s how r (Some cause.Retiring) here fits = absurd (cc fits)
stopped-by s how r (Some cause.LinkFailed) here fits = absurd here
stopped-by s how r (Some cause.Stopped) here fits = absurd here
stopped-by s how r (Some cause.NoMemory) here fits = absurd here

-- no row ends as stopped where none is live once the server has stopped
none-stopped : (s : State) (name : ConnName) (how : Tail) → is_allowed s (event.Close name cause.Stopped how) ≡ true → AllLinger s.rows
    → (is_halted s.going ≡ true → HasNoLive s) → ⊥
none-stopped s name how may all none =
    let found = lives (λ r. (is_held r.place || is_working r.place) && end_fits s cause.Stopped how r) s.rows name may in
    let fits = (and_parts (is_held found.row.place || is_working found.row.place) _ found.passes).1 in
    let here = linger-at s.rows name.slot found.row all (found-at s.rows name found.row found.found) in
    none-lives _ s.rows name (none (stopped-by s how found.row found.row.cause here fits)) may

-- so no event closes one so
event-closes : (s : State) (e : Event) → is_allowed s e ≡ true → AllLinger s.rows → (is_halted s.going ≡ true → HasNoLive s)
    → is_close_for cause.Stopped e ≡ false
event-closes s (event.Close name cause.Stopped how) may all none = absurd (none-stopped s name how may all none)
event-closes s (event.Close name reason how) may all none = refl
event-closes s e may all none = refl

-- a server that takes connections hasn't stopped
serving-halted : (going : Going) → is_serving going ≡ true → is_halted going ≡ true → ⊥
serving-halted Serving serving halted = cc halted
serving-halted (Ending until) serving halted = cc serving
serving-halted (Halted reason) serving halted = cc serving

-- a stop behind which nothing more came came where none was live
stop-none : (s : State) (reason : Why) (history : List Entry) → is_allowed s (event.Command (Stop reason)) ≡ true
    → Run (next s (event.Command (Stop reason))) history → (after (next s (event.Command (Stop reason))) history).going ≡ Halted why.FrontEnded
    → HasNoLive s
stop-none s reason history may run ended =
    let stays = ends-halted (next s (event.Command (Stop reason))) history reason run refl in
    let is : reason ≡ why.FrontEnded = cc (stays, ended) in
    let fits = (and_parts (not (is_halted s.going)) (stop_fits s reason) may).1 in
    not-true (list_any is_live s.rows) (subst (λ (w : Why). stop_fits s w ≡ true) is fits)

-- the first of several tests
first-of_three : (a b c : Bool) → (a && b && c) ≡ true → a ≡ true
first-of_three a b c all = (and_parts a b (and_parts (a && b) c all).0).0

first-of_four : (a b c d : Bool) → (a && b && c && d) ≡ true → a ≡ true
first-of_four a b c d all = first-of_three a b c (and_parts (a && b && c) d all).0

not-stopped : (stopped : Bool) → not stopped ≡ true → stopped ≡ true → ⊥
not-stopped true may halted = cc may
not-stopped false may halted = cc halted

-- where a server stopped because nothing more could come none is live from then on
module _ (s : State) (history : List Entry) (none : is_halted s.going ≡ true → HasNoLive s) where
  command-none : (c : Commanded) → is_allowed s (event.Command c) ≡ true → Run (next s (event.Command c)) history
      → (after (next s (event.Command c)) history).going ≡ Halted why.FrontEnded → is_halted (next s (event.Command c)).going ≡ true
      → HasNoLive (next s (event.Command c))
  command-none (Graceful shape) may run ended halted = absurd (no-command (is_halted s.going) _ may halted)
  command-none (Refused reason) may run ended halted = absurd (no-command (is_halted s.going) _ may halted)
  command-none (GracefulStop until) may run ended halted = absurd (cc halted)
  command-none (Stop reason) may run ended halted = stop-none s reason history may run ended

  event-none : (e : Event) → is_allowed s e ≡ true → Run (next s e) history → (after (next s e) history).going ≡ Halted why.FrontEnded
      → is_halted (next s e).going ≡ true → HasNoLive (next s e)
  event-none (event.Accept slot) may run ended halted = absurd (serving-halted s.going (first-of_three (is_serving s.going) _ _ may) halted)
  event-none (event.Park name kind) may run ended halted = absurd (no-command (is_halted s.going) _ may halted)
  event-none (event.Hold name) may run ended halted = absurd (none-lives _ s.rows name (none halted) may)
  event-none (event.Queue name) may run ended halted = absurd (not-stopped (is_halted s.going) (first-of_three (not (is_halted s.going)) _ _ may) halted)
  event-none (event.Start name) may run ended halted = absurd (none-lives _ s.rows name (none halted) may)
  event-none (event.Answer name ask) may run ended halted = absurd (no-command (is_halted s.going) _ may halted)
  event-none (event.Linger name reason) may run ended halted = absurd (none-lives _ s.rows name (none halted) may)
  event-none (event.Close name reason how) may run ended halted = absurd (none-lives _ s.rows name (none halted) may)
  event-none (event.Ready slot) may run ended halted = absurd (no-command (is_halted s.going) _ may halted)
  event-none (event.Tick m) may run ended halted = absurd (not-stopped (is_halted s.going) (first-of_four (not (is_halted s.going)) _ _ _ may) halted)
  event-none (event.StartChild k) may run ended halted = absurd (serving-halted s.going (first-of_three (is_serving s.going) _ _ may) halted)
  event-none (event.Command c) may run ended halted = command-none c may run ended halted
  event-none (event.Retire k) may run ended halted = none halted

-- so no connection ends as stopped in a run that ended so
pub stopped-none : (s : State) (history : List Entry) → Run s history → AllLinger s.rows → (after s history).going ≡ Halted why.FrontEnded
    → (is_halted s.going ≡ true → HasNoLive s) → list_any (λ (e : Entry). is_close_for cause.Stopped e.event) history ≡ false
stopped-none s [] run all ended none = refl
stopped-none s (e ∷ history) run all ended none =
    or_from (is_close_for cause.Stopped e.event) (list_any (λ (x : Entry). is_close_for cause.Stopped x.event) history)
    (event-closes s e.event run.0 all none)
    (stopped-none (next s e.event) history run.2 (event-linger s e.event run.0 all) ended (event-none s history none e.event run.0 run.2 ended))
