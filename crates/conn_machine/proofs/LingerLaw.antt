-- A connection that lingers does so until its deadline, for its cause, and neither moves.
use Rattle.std.proofs.Common.{◌≡◌, ◌⊎◌, inl, inr, ℕ, zero, suc, Bool, true, false, not, ◌&&◌, ◌==◌, List, [], ◌∷◌, Some, slice_get, refl, sym, ap, ◌∙◌, subst, arith}
use Rattle.std.specs.Prelude.{if◌then◌else◌}
use Rattle.std.proofs.lemmas.Bool.{and_parts, eqb-true, not-true}
use Rattle.mpm_base.specs.declared.conn.ConnName.{ConnName}
use Rattle.mpm_base.specs.declared.conn.Kind.{Kind}
use Rattle.mpm_base.specs.declared.conn.Kind.TheVariants.{Reading, KeepAlive, Writing, Linger, ShortLinger}
use Rattle.mpm_base.specs.declared.conn.Cause.{Cause}
use Rattle.conn_machine.specs.declared.row.Row.{Row}
use Rattle.conn_machine.specs.declared.event.Commanded.{Commanded}
use Rattle.conn_machine.specs.declared.event.Commanded.TheVariants.{Graceful, Refused, GracefulStop, Stop}
use Rattle.conn_machine.specs.declared.event.Event.{Event}
use Rattle.conn_machine.specs.declared.event.Event.TheVariants as event
use Rattle.conn_machine.specs.declared.event.Entry.{Entry}
use Rattle.conn_machine.specs.declared.state.State.{State}
use Rattle.conn_machine.specs.Lists.{update}
use Rattle.conn_machine.specs.Rows.{is_vacant, is_live, is_lingering, is_linger_kind, is_live_as, live_row}
use Rattle.conn_machine.specs.States.{is_halted, is_signalled}
use Rattle.conn_machine.specs.Table.{is_allowed, next, may_accept, taken_row, may_wait, may_park, parked_row, wait_until, held_row, queued_row, served_row, answered_row, may_linger, linger_cause_fits, lingering_row, greatest_life, closed_row, next_command}
use Rattle.conn_machine.specs.Runs.{Run, after}
use Rattle.conn_machine.specs.Sound.{KnowsItsKind, IsSound}
use Rattle.conn_machine.specs.Laws.{StaysLingering}
use Rattle.conn_machine.proofs.AllowedLemmas.{accept-row}
use Rattle.conn_machine.proofs.ChangeLaw.{Change, stays, goes_on, answered, taken, closed, spent, is_met, is_made}
use Rattle.conn_machine.proofs.NameLaw.{IsPast, past_stays, past_named, vacant_live}
use Rattle.conn_machine.proofs.NoteLaw.{named_where}
use Rattle.conn_machine.proofs.RowLemmas.{sound_row}
use Rattle.conn_machine.proofs.SoundLemmas.{keeps_sound}
use Rattle.conn_machine.proofs.WaitLemmas.{park_kind}

-- ## One event

-- the row, where it is live, lingers as that one does
abbrev pub StaysSo : Row → Row → Type 0
StaysSo r r' = is_live r' ≡ true → StaysLingering r r'

-- a row lingers as itself
lingers_same : (r : Row) → StaysLingering r r
lingers_same r = record { deadline = refl; cause = refl }

-- what one row of a list is changed into lingers as the row, where it is that one
so_updated : (rows : List Row) (i slot : ℕ) (r r' : Row) (change : Row → Row) → slice_get rows slot ≡ Some r
    → (slice_get rows i ≡ Some r → StaysSo r (change r)) → slice_get (update rows i change) slot ≡ Some r' → StaysSo r r'
so_updated [] i slot r r' change at may got = absurd (cc)
so_updated (x ∷ rows) zero zero r r' change at may got =
    let e : x ≡ r = cc in
    let e' : change x ≡ r' = cc in
    subst (λ (y : Row). StaysSo r y) (ap change (sym e) ∙ e') (may at)
so_updated (x ∷ rows) zero (suc slot) r r' change at may got =
    let e : r ≡ r' = cc in
    subst (λ (y : Row). StaysSo r y) e (λ live. lingers_same r)
so_updated (x ∷ rows) (suc i) zero r r' change at may got =
    let e : r ≡ r' = cc in
    subst (λ (y : Row). StaysSo r y) e (λ live. lingers_same r)
so_updated (x ∷ rows) (suc i) (suc slot) r r' change at may got = so_updated rows i slot r r' change at may got

-- a row that no event changed lingers as itself
so_kept : (rows : List Row) (slot : ℕ) (r r' : Row) → slice_get rows slot ≡ Some r → slice_get rows slot ≡ Some r' → StaysSo r r'
so_kept rows slot r r' at got =
    let e : r ≡ r' = cc in
    subst (λ (y : Row). StaysSo r y) e (λ live. lingers_same r)

-- a row that is taken was vacant
so_taken : (s : State) (i : ℕ) (r : Row) → may_accept s i ≡ true → is_live r ≡ true → slice_get s.rows i ≡ Some r
    → StaysSo r (taken_row s r)
so_taken s i r may live at =
    let (x, there, vacant) = accept-row s i may in
    let e : x ≡ r = cc in
    vacant_live r (subst (λ (y : Row). is_vacant y.place ≡ true) e vacant) live

-- a row that lingers waits until the deadline that it has
until_same : (s : State) (kind : Kind) (r : Row) → is_linger_kind kind ≡ true → wait_until s kind r ≡ r.deadline
until_same s Reading r lingers = absurd (cc)
until_same s KeepAlive r lingers = absurd (cc)
until_same s Writing r lingers = absurd (cc)
until_same s Linger r lingers = refl
until_same s ShortLinger r lingers = refl

-- so it does when it is parked again
so_parked : (s : State) (name : ConnName) (kind : Kind) (r : Row) → IsSound s → may_park s name kind ≡ true → is_live r ≡ true
    → is_lingering r ≡ true → slice_get s.rows name.slot ≡ Some r → StaysSo r (parked_row s kind r)
so_parked s name kind r sound may live lingers at live' =
    let met = is_met name (may_wait s.moment kind) s.rows r (and_parts (not (is_halted s.going)) _ may).1 at in
    let waits : KnowsItsKind kind (parked_row s kind r) = park_kind s kind r (sound_row s name.slot r sound at live) met.passes in
    record { deadline = until_same s kind r (waits.lingers ∙ lingers); cause = refl }

-- a row that lingers isn't led to linger again
so_lingering : (s : State) (name : ConnName) (why : Cause) (r : Row) → may_linger s name why ≡ true → is_lingering r ≡ true
    → slice_get s.rows name.slot ≡ Some r → StaysSo r (lingering_row s why r)
so_lingering s name why r may lingers at live' =
    let met = is_met name (λ x. not (is_lingering x) && linger_cause_fits s why (is_signalled s name.slot) x) s.rows r may at in
    let stays = not-true (is_lingering r) (and_parts (not (is_lingering r)) _ met.passes).0 in
    absurd (cc)

-- a row that is closed isn't live
so_closed : (r x y : Row) (test : Bool) → is_live x ≡ false → is_live y ≡ false → StaysSo r (if test then x else y)
so_closed r x y true first second live = absurd (cc)
so_closed r x y false first second live = absurd (cc)

-- a command leaves the rows
so_commanded : (s : State) (c : Commanded) (slot : ℕ) (r r' : Row) → slice_get s.rows slot ≡ Some r
    → slice_get (next_command s c).rows slot ≡ Some r' → StaysSo r r'
so_commanded s (Graceful shape) slot r r' at got = so_kept s.rows slot r r' at got
so_commanded s (Refused reason) slot r r' at got = so_kept s.rows slot r r' at got
so_commanded s (GracefulStop until) slot r r' at got = so_kept s.rows slot r r' at got
so_commanded s (Stop reason) slot r r' at got = so_kept s.rows slot r r' at got

-- a live row that lingers does so after an allowed event, where it is live then
so_next : (s : State) (e : Event) (slot : ℕ) (r r' : Row) → IsSound s → is_allowed s e ≡ true → is_live r ≡ true → is_lingering r ≡ true
    → slice_get s.rows slot ≡ Some r → slice_get (next s e).rows slot ≡ Some r' → StaysSo r r'
so_next s (event.Accept i) slot r r' sound may live lingers at got =
    so_updated s.rows i slot r r' (taken_row s) at (so_taken s i r may live) got
so_next s (event.Park name kind) slot r r' sound may live lingers at got =
    so_updated s.rows name.slot slot r r' (parked_row s kind) at (so_parked s name kind r sound may live lingers) got
so_next s (event.Hold name) slot r r' sound may live lingers at got =
    so_updated s.rows name.slot slot r r' held_row at (λ _ _. record { deadline = refl; cause = refl }) got
so_next s (event.Queue name) slot r r' sound may live lingers at got =
    so_updated s.rows name.slot slot r r' queued_row at (λ _ _. record { deadline = refl; cause = refl }) got
so_next s (event.Start name) slot r r' sound may live lingers at got =
    so_updated s.rows name.slot slot r r' (served_row s) at (λ _ _. record { deadline = refl; cause = refl }) got
so_next s (event.Answer name ask) slot r r' sound may live lingers at got =
    so_updated s.rows name.slot slot r r' (answered_row s name.slot ask) at (λ _ _. record { deadline = refl; cause = refl }) got
so_next s (event.Linger name why) slot r r' sound may live lingers at got =
    so_updated s.rows name.slot slot r r' (lingering_row s why) at (so_lingering s name why r may lingers) got
so_next s (event.Close name why how) slot r r' sound may live lingers at got =
    so_updated s.rows name.slot slot r r' closed_row at (λ _. so_closed r _ _ (r.life == greatest_life) refl refl) got
so_next s (event.Ready i) slot r r' sound may live lingers at got = so_kept s.rows slot r r' at got
so_next s (event.Tick m) slot r r' sound may live lingers at got = so_kept s.rows slot r r' at got
so_next s (event.StartChild k) slot r r' sound may live lingers at got = so_kept s.rows slot r r' at got
so_next s (event.Command c) slot r r' sound may live lingers at got = so_commanded s c slot r r' at got
so_next s (event.Retire k) slot r r' sound may live lingers at got = so_kept s.rows slot r r' at got

-- ## Runs

-- the row is the name's, and lingers as that one does
pub record IsStill (name : ConnName) (first r : Row) : Type 0 where
  pub live : is_live r ≡ true
  pub life : r.life ≡ name.life
  pub lingers : StaysLingering first r

-- the same of the row of the name's slot, unless it went past the name's life
abbrev pub IsStillIn : ConnName → Row → List Row → Type 0
IsStillIn name first rows = (r : Row) → slice_get rows name.slot ≡ Some r → IsStill name first r ⊎ IsPast name.life r

-- a row that lingers as another does lingers
still_lingers : (first r : Row) → is_lingering first ≡ true → StaysLingering first r → is_lingering r ≡ true
still_lingers first r lingers still = rw still.cause lingers

-- one that lingers as one does that lingers as a third does lingers so
lingers_further : (first r r' : Row) → StaysLingering first r → StaysLingering r r' → StaysLingering first r'
lingers_further first r r' before now = record { deadline = now.deadline ∙ before.deadline; cause = now.cause ∙ before.cause }

-- a change of a row that is still the name's keeps it so, or it goes past the name's life
still_by : (name : ConnName) (first r r' : Row) → Change r r' → StaysSo r r' → IsStill name first r
    → IsStill name first r' ⊎ IsPast name.life r'
still_by name first r r' (stays same) so still = inl (subst (λ (x : Row). IsStill name first x) (sym same) still)
still_by name first r r' (goes_on live live' same notes) so still =
    inl (record { live = live'; life = same ∙ still.life; lingers = lingers_further first r r' still.lingers (so live') })
still_by name first r r' (answered note live live' more same notes) so still =
    inl (record { live = live'; life = same ∙ still.life; lingers = lingers_further first r r' still.lingers (so live') })
still_by name first r r' (taken vacant live' same fresh) so still = vacant_live r vacant still.live
still_by name first r r' (closed live vacant up) so still =
    let same = still.life in
    inr (inl (omega arith))
still_by name first r r' (spent live over) so still = inr (inr over)

-- so does an event of a row that is still the name's or went past its life
still_or_past : (s : State) (e : Event) (name : ConnName) (first r r' : Row) → IsSound s → is_allowed s e ≡ true → is_lingering first ≡ true
    → slice_get s.rows name.slot ≡ Some r → slice_get (next s e).rows name.slot ≡ Some r' → Change r r'
    → IsStill name first r ⊎ IsPast name.life r → IsStill name first r' ⊎ IsPast name.life r'
still_or_past s e name first r r' sound may lingers at got change (inl still) =
    still_by name first r r' change
    (so_next s e name.slot r r' sound may still.live (still_lingers first r lingers still.lingers) at got) still
still_or_past s e name first r r' sound may lingers at got change (inr past) = inr (past_stays name.life r r' change past)

-- after every event the row of the slot is still the name's, or past its life
still_next : (s : State) (e : Event) (name : ConnName) (first : Row) → IsSound s → is_allowed s e ≡ true → is_lingering first ≡ true
    → IsStillIn name first s.rows → IsStillIn name first (next s e).rows
still_next s e name first sound may lingers still r' got =
    let made = is_made s e name.slot r' may got in
    still_or_past s e name first made.old r' sound may lingers made.at got made.change (still made.old made.at)

-- and after every run
still_after : (s : State) (history : List Entry) (name : ConnName) (first : Row) → IsSound s → Run s history → is_lingering first ≡ true
    → IsStillIn name first s.rows → IsStillIn name first (after s history).rows
still_after s [] name first sound run lingers still = still
still_after s (e ∷ history) name first sound run lingers still =
    still_after (next s e.event) history name first (keeps_sound s e.event sound run.0) run.2 lingers
    (still_next s e.event name first sound run.0 lingers still)

-- a row that is found by the name lingers as itself
still_first : (name : ConnName) (rows : List Row) (r : Row) → live_row rows name ≡ Some r → IsStillIn name r rows
still_first name rows r lives x at =
    let found = named_where name (slice_get rows name.slot) r lives in
    let there : slice_get rows name.slot ≡ Some r = found.0 in
    let e : r ≡ x = cc in
    let parts = and_parts (is_live r) (r.life == name.life) found.1 in
    let own : IsStill name r r = record { live = parts.0; life = eqb-true r.life name.life parts.1; lingers = lingers_same r } in
    inl (subst (λ (y : Row). IsStill name r y) e own)

-- a row that has the name, and is still the name's or past its life, is still the name's
still_named : (name : ConnName) (first r : Row) → is_live_as name r ≡ true → IsStill name first r ⊎ IsPast name.life r
    → StaysLingering first r
still_named name first r named (inl still) = still.lingers
still_named name first r named (inr past) = absurd (cc (past_named name r past))

-- a connection that lingers does so as long as it lives
pub lingers_on : (s : State) (history : List Entry) (name : ConnName) (r r' : Row) → IsSound s → Run s history
    → live_row s.rows name ≡ Some r → is_lingering r ≡ true → live_row (after s history).rows name ≡ Some r' → StaysLingering r r'
lingers_on s history name r r' sound run lives lingers lives' =
    let found = named_where name (slice_get (after s history).rows name.slot) r' lives' in
    still_named name r r' found.1
    (still_after s history name r sound run lingers (still_first name s.rows r lives) r' found.0)
