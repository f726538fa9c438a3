-- A name whose connection was closed is never live again: its slot goes past its life.
use Rattle.std.proofs.Common.{◌≡◌, ◌⊎◌, inl, inr, ◌<◌, ℕ, zero, suc, ◌+◌, Bool, true, false, not, ◌&&◌, ◌||◌, ◌==◌, List, [], ◌∷◌, ◌++◌, Option, Some, None, slice_get, refl, sym, ap, subst, arith}
use Rattle.std.specs.Prelude.{if◌then◌else◌}
use Rattle.std.specs.Option.{option_map_or}
use Rattle.std.proofs.lemmas.Bool.{and_left, and_right, ne_eqb}
use Rattle.mpm_base.specs.declared.conn.ConnName.{ConnName}
use Rattle.mpm_base.specs.declared.conn.Cause.{Cause}
use Rattle.mpm_base.specs.declared.conn.Tail.{Tail}
use Rattle.conn_machine.specs.declared.row.Place.{Place}
use Rattle.conn_machine.specs.declared.row.Place.TheVariants.{Vacant, Spent, Held, Parked, Queued, Working}
use Rattle.conn_machine.specs.declared.row.Row.{Row}
use Rattle.conn_machine.specs.declared.event.Event.{Event}
use Rattle.conn_machine.specs.declared.event.Event.TheVariants as event
use Rattle.conn_machine.specs.declared.event.Entry.{Entry}
use Rattle.conn_machine.specs.declared.state.State.{State}
use Rattle.conn_machine.specs.Lists.{update}
use Rattle.conn_machine.specs.Rows.{is_vacant, is_unused, is_held, is_working, is_live, is_live_as, row_where}
use Rattle.conn_machine.specs.Table.{is_allowed, next, greatest_life, closed_row, end_fits}
use Rattle.conn_machine.specs.Runs.{Run, after}
use Rattle.conn_machine.specs.Laws.{is_alive}
use Rattle.conn_machine.proofs.ChangeLaw.{Change, stays, goes_on, answered, taken, closed, spent, is_met, is_made}

-- the row's slot went past that life: it is in a later one, or is given no more
abbrev pub IsPast : ℕ → Row → Type 0
IsPast life r = (life < r.life) ⊎ (r.place ≡ Spent)

-- no row has that name, or ever will
abbrev pub IsGoneFrom : ConnName → List Row → Type 0
IsGoneFrom name rows = (r : Row) → slice_get rows name.slot ≡ Some r → IsPast name.life r

-- a live row isn't one that is given no more
spent_live : {P : Type 0} (r : Row) → r.place ≡ Spent → is_live r ≡ true → P
spent_live r over live = absurd (cc)

-- nor is a vacant one
spent_vacant : {P : Type 0} (r : Row) → r.place ≡ Spent → is_vacant r.place ≡ true → P
spent_vacant r over vacant = absurd (cc)

-- no connection is in a vacant place
vacant_unused : (place : Place) → is_vacant place ≡ true → is_unused place ≡ true
vacant_unused Vacant vacant = refl
vacant_unused Spent vacant = refl
vacant_unused Held vacant = vacant
vacant_unused (Parked kind) vacant = vacant
vacant_unused Queued vacant = vacant
vacant_unused (Working cell phase) vacant = vacant

-- a vacant row isn't live
pub vacant_live : {P : Type 0} (r : Row) → is_vacant r.place ≡ true → is_live r ≡ true → P
vacant_live r vacant live = absurd (cc (vacant_unused r.place vacant))

-- what went past a life stays past it
pub past_stays : (life : ℕ) (r r' : Row) → Change r r' → IsPast life r → IsPast life r'
past_stays life r r' (stays same) past = subst (λ (x : Row). IsPast life x) (sym same) past
past_stays life r r' (goes_on live live' same notes) (inl later) = inl (omega arith)
past_stays life r r' (goes_on live live' same notes) (inr over) = spent_live r over live
past_stays life r r' (answered note live live' more same notes) (inl later) = inl (omega arith)
past_stays life r r' (answered note live live' more same notes) (inr over) = spent_live r over live
past_stays life r r' (taken vacant live' same fresh) (inl later) = inl (omega arith)
past_stays life r r' (taken vacant live' same fresh) (inr over) = spent_vacant r over vacant
past_stays life r r' (closed live vacant up) (inl later) = inl (omega arith)
past_stays life r r' (closed live vacant up) (inr over) = spent_live r over live
past_stays life r r' (spent live over) past = inr over

-- a name that is gone is gone after every event
pub gone_next : (s : State) (e : Event) (name : ConnName) → is_allowed s e ≡ true → IsGoneFrom name s.rows → IsGoneFrom name (next s e).rows
gone_next s e name may gone r' at =
    let made = is_made s e name.slot r' may at in
    past_stays name.life made.old r' made.change (gone made.old made.at)

-- and after every run
gone_after : (s : State) (history : List Entry) (name : ConnName) → Run s history → IsGoneFrom name s.rows
    → IsGoneFrom name (after s history).rows
gone_after s [] name run gone = gone
gone_after s (e ∷ history) name run gone =
    gone_after (next s e.event) history name run.2 (gone_next s e.event name run.0 gone)

-- where both rows went past the life, the one that the test names did
past_either : (life : ℕ) (x y : Row) (test : Bool) → IsPast life x → IsPast life y → IsPast life (if test then x else y)
past_either life x y true first second = first
past_either life x y false first second = second

-- a row that is closed goes past its life
past_closed : (life : ℕ) (r : Row) → r.life ≡ life → IsPast life (closed_row r)
past_closed life r same =
    let up : life < r.life + 1 = omega arith in
    past_either life _ _ (r.life == greatest_life) (inr refl) (inl up)

-- after the rows of a slot were closed, each went past the life that they had
gone_update : (name : ConnName) (rows : List Row) (slot : ℕ) (r' : Row)
    → ((r : Row) → slice_get rows slot ≡ Some r → r.life ≡ name.life) → slice_get (update rows slot closed_row) slot ≡ Some r'
    → IsPast name.life r'
gone_update name [] slot r' same at = absurd (cc)
gone_update name (x ∷ rows) zero r' same at =
    let e : closed_row x ≡ r' = cc in
    subst (λ (y : Row). IsPast name.life y) e (past_closed name.life x (same x refl))
gone_update name (x ∷ rows) (suc slot) r' same at = gone_update name rows slot r' same at

-- a close takes the name away
pub gone_closed : (s : State) (name : ConnName) (why : Cause) (how : Tail) → is_allowed s (event.Close name why how) ≡ true
    → IsGoneFrom name (next s (event.Close name why how)).rows
gone_closed s name why how may r' at =
    gone_update name s.rows name.slot r'
    (λ r there. (is_met name (λ x. (is_held x.place || is_working x.place) && end_fits s why how x) s.rows r may there).life) at

-- a row that went past the life isn't the name's
pub past_named : (name : ConnName) (r : Row) → IsPast name.life r → is_live_as name r ≡ false
past_named name r (inl later) = and_right (is_live r) (r.life == name.life) (ne_eqb r.life name.life (λ e. omega arith))
past_named name r (inr over) = and_left (is_live r) (r.life == name.life) (ap (λ p. not (is_unused p)) over)

-- no live row is found by the name of a row that went past its life
gone_row : (name : ConnName) (o : Option Row) → ((r : Row) → o ≡ Some r → IsPast name.life r)
    → option_map_or (λ r. true) (row_where (is_live_as name) o) false ≡ false
gone_row name None gone = refl
gone_row name (Some r) gone = rw (past_named name r (gone r refl)) refl

-- a name that is gone isn't live
gone_dead : (s : State) (name : ConnName) → IsGoneFrom name s.rows → is_alive s name ≡ false
gone_dead s name gone = gone_row name (slice_get s.rows name.slot) gone

-- a connection that was closed is never live again
pub closed_dead : (s : State) (before rest : List Entry) (e : Entry) (name : ConnName) (why : Cause) (how : Tail)
    → Run s (before ++ e ∷ rest) → e.event ≡ event.Close name why how → is_alive (after s (before ++ e ∷ rest)) name ≡ false
closed_dead s [] rest e name why how run closes =
    let may : is_allowed s (event.Close name why how) ≡ true = subst (λ (x : Event). is_allowed s x ≡ true) closes run.0 in
    let gone : IsGoneFrom name (next s e.event).rows =
    subst (λ (x : Event). IsGoneFrom name (next s x).rows) (sym closes) (gone_closed s name why how may) in
    gone_dead (after (next s e.event) rest) name (gone_after (next s e.event) rest name run.2 gone)
closed_dead s (x ∷ before) rest e name why how run closes = closed_dead (next s x.event) before rest e name why how run.2 closes
