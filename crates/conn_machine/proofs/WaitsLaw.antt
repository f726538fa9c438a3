-- A row has what the history had its connection wait for.
use Rattle.std.proofs.Common.{◌≡◌, ◌≢◌, ◌⊎◌, inl, inr, ◌<◌, ℕ, zero, suc, Bool, true, false, not, ◌&&◌, ◌||◌, ◌==◌, List, [], ◌∷◌, ◌++◌, Option, Some, None, slice_get, replicate, refl, sym, ap, ◌∙◌, subst, append_assoc, append-nil, arith}
use Rattle.std.specs.Prelude.{if◌then◌else◌}
use Rattle.std.proofs.lemmas.Bool.{and_parts, and_from, and_left, eq-eqb, eqb-true, ne_eqb}
use Rattle.std.proofs.lemmas.List.Concat.{flat_map-cons}
use Rattle.mpm_base.specs.declared.conn.ConnName.{ConnName}
use Rattle.mpm_base.specs.declared.conn.Cause.{Cause}
use Rattle.mpm_base.specs.declared.conn.Kind.{Kind}
use Rattle.mpm_base.specs.declared.conn.Tail.{Tail}
use Rattle.mpm_base.specs.declared.shape.Shape.{Shape}
use Rattle.conn_machine.specs.declared.row.Row.{Row}
use Rattle.conn_machine.specs.declared.event.Commanded.{Commanded}
use Rattle.conn_machine.specs.declared.event.Commanded.TheVariants.{Graceful, Refused, GracefulStop, Stop}
use Rattle.conn_machine.specs.declared.event.Event.{Event}
use Rattle.conn_machine.specs.declared.event.Event.TheVariants as event
use Rattle.conn_machine.specs.declared.event.Entry.{Entry}
use Rattle.conn_machine.specs.declared.state.State.{State}
use Rattle.conn_machine.specs.Lists.{update}
use Rattle.conn_machine.specs.Rows.{is_vacant, is_held, is_working, is_live, is_live_as, live_row, lives_and}
use Rattle.conn_machine.specs.States.{is_halted, opening_state, unused_row}
use Rattle.conn_machine.specs.Table.{is_allowed, next, may_wait, taken_row, parked_row, held_row, queued_row, served_row, answered_row, lingering_row, greatest_life, closed_row, end_fits, next_command}
use Rattle.conn_machine.specs.Runs.{Run, after, is_name}
use Rattle.conn_machine.specs.Waits.{waits_in, waits_of}
use Rattle.conn_machine.proofs.AllowedLemmas.{accept-row}
use Rattle.conn_machine.proofs.ChangeLaw.{Change, stays, goes_on, answered, taken, closed, spent, is_made, is_met}
use Rattle.conn_machine.proofs.NameLaw.{IsGoneFrom, IsPast, gone_closed, gone_next, past_named, past_stays, vacant_live}
use Rattle.conn_machine.proofs.NoteLaw.{named_where}
use Rattle.conn_machine.proofs.OwnRows.{IsMetAt, met, unused_is}

-- ## A row after a change of one

-- the item of a place, after a change of the one of a place: the changed one in that place, and else the one that was there
updated_at : {X : Type 0} (xs : List X) (i j : ℕ) (x y : X) (change : X → X) → slice_get xs j ≡ Some x → slice_get (update xs i change) j ≡ Some y
    → ((i ≡ j) × (y ≡ change x)) ⊎ ((i ≢ j) × (y ≡ x))
updated_at [] i j x y change at got = absurd (cc)
updated_at (z ∷ xs) zero zero x y change at got =
    let e : z ≡ x = cc in
    let e' : change z ≡ y = cc in
    inl (refl, sym e' ∙ ap change e)
updated_at (z ∷ xs) zero (suc j) x y change at got =
    let e : y ≡ x = cc in
    inr (λ same. absurd (omega (arith, same)), e)
updated_at (z ∷ xs) (suc i) zero x y change at got =
    let e : y ≡ x = cc in
    inr (λ same. absurd (omega (arith, same)), e)
updated_at (z ∷ xs) (suc i) (suc j) x y change at got =
    elim (updated_at xs i j x y change at got) [
      | inl here ↦ inl (ap suc here.0, here.1)
      | inr off ↦ inr (λ same. off.0 (omega (arith, same)), off.1)
    ]

-- a change that leaves the waits of each row leaves those of the row in the slot
waits_kept : (rows : List Row) (i slot : ℕ) (r r' : Row) (change : Row → Row) → ((x : Row) → (change x).waits ≡ x.waits) → slice_get rows slot ≡ Some r
    → slice_get (update rows i change) slot ≡ Some r' → r'.waits ≡ r.waits ++ []
waits_kept rows i slot r r' change keeps at got =
    elim (updated_at rows i slot r r' change at got) [
      | inl here ↦ ap (λ (x : Row). x.waits) here.1 ∙ keeps r ∙ sym (append-nil r.waits)
      | inr off ↦ ap (λ (x : Row). x.waits) off.1 ∙ sym (append-nil r.waits)
    ]

-- so does no change at all
waits_same : (rows : List Row) (slot : ℕ) (r r' : Row) → slice_get rows slot ≡ Some r → slice_get rows slot ≡ Some r' → r'.waits ≡ r.waits ++ []
waits_same rows slot r r' at got =
    let e : r' ≡ r = cc in
    ap (λ (x : Row). x.waits) e ∙ sym (append-nil r.waits)

-- a closed row has them still
closed_waits : (r : Row) → (closed_row r).waits ≡ r.waits
closed_waits r = by (r.life == greatest_life) refl
  where
    by : (b : Bool) → (r.life == greatest_life) ≡ b → (closed_row r).waits ≡ r.waits
    by true is = rw is refl
    by false is = rw is refl

-- ## Names

-- names that are the same are found so
name_is : (name other : ConnName) → name.slot ≡ other.slot → name.life ≡ other.life → is_name name other ≡ true
name_is name other slot life =
    and_from (name.slot == other.slot) (name.life == other.life) (eq-eqb name.slot other.slot slot) (eq-eqb name.life other.life life)

-- names of different slots aren't
name_apart : (name other : ConnName) → (other.slot ≢ name.slot) → is_name name other ≡ false
name_apart name other differs =
    and_left (name.slot == other.slot) (name.life == other.life) (ne_eqb name.slot other.slot (λ e. differs (sym e)))

-- ## One event

-- a park of the row of a slot is one wait more of its connection
waits_parked : (s : State) (name other : ConnName) (kind : Kind) (r r' : Row) → lives_and (may_wait s.moment kind) s.rows other ≡ true
    → slice_get s.rows name.slot ≡ Some r → r.life ≡ name.life → slice_get (update s.rows other.slot (parked_row s kind)) name.slot ≡ Some r'
    → r'.waits ≡ r.waits ++ waits_in name (event.Park other kind)
waits_parked s name other kind r r' lives at life got =
    elim (updated_at s.rows other.slot name.slot r r' (parked_row s kind) at got) [
      | inl here ↦
          let there : slice_get s.rows other.slot ≡ Some r = ap (slice_get s.rows) here.0 ∙ at in
          let its = (is_met other (may_wait s.moment kind) s.rows r lives there).life in
          let is : is_name name other ≡ true = name_is name other (sym here.0) (sym life ∙ its) in
          rw is (ap (λ (x : Row). x.waits) here.1)
      | inr off ↦
          let apart : is_name name other ≡ false = name_apart name other off.0 in
          rw apart (ap (λ (x : Row). x.waits) off.1 ∙ sym (append-nil r.waits))
    ]

-- no connection is taken into the slot of one that lives
waits_untaken : (s : State) (i slot : ℕ) (r r' : Row) → is_allowed s (event.Accept i) ≡ true → slice_get s.rows slot ≡ Some r → is_live r ≡ true
    → slice_get (update s.rows i (taken_row s)) slot ≡ Some r' → r'.waits ≡ r.waits ++ []
waits_untaken s i slot r r' may at live got =
    elim (updated_at s.rows i slot r r' (taken_row s) at got) [
      | inl here ↦
          let (x, there, vacant) = accept-row s i may in
          let same : x ≡ r = cc (there, ap (slice_get s.rows) here.0, at) in
          vacant_live r (subst (λ (y : Row). is_vacant y.place ≡ true) same vacant) live
      | inr off ↦ ap (λ (x : Row). x.waits) off.1 ∙ sym (append-nil r.waits)
    ]

-- a command leaves them
waits_commanded : (s : State) (c : Commanded) (slot : ℕ) (r r' : Row) → slice_get s.rows slot ≡ Some r → slice_get (next_command s c).rows slot ≡ Some r'
    → r'.waits ≡ r.waits ++ []
waits_commanded s (Graceful shape) slot r r' at got = waits_same s.rows slot r r' at got
waits_commanded s (Refused reason) slot r r' at got = waits_same s.rows slot r r' at got
waits_commanded s (GracefulStop until) slot r r' at got = waits_same s.rows slot r r' at got
waits_commanded s (Stop reason) slot r r' at got = waits_same s.rows slot r r' at got

-- the row of a live connection has its waits behind an event, and that of the event
waits_next : (s : State) (e : Event) (name : ConnName) (r r' : Row) → is_allowed s e ≡ true → slice_get s.rows name.slot ≡ Some r → is_live r ≡ true
    → r.life ≡ name.life → slice_get (next s e).rows name.slot ≡ Some r' → r'.waits ≡ r.waits ++ waits_in name e
waits_next s (event.Accept i) name r r' may at live life got = waits_untaken s i name.slot r r' may at live got
waits_next s (event.Park other kind) name r r' may at live life got =
    waits_parked s name other kind r r' (and_parts (not (is_halted s.going)) (lives_and (may_wait s.moment kind) s.rows other) may).1 at life got
waits_next s (event.Hold other) name r r' may at live life got = waits_kept s.rows other.slot name.slot r r' held_row (λ x. refl) at got
waits_next s (event.Queue other) name r r' may at live life got = waits_kept s.rows other.slot name.slot r r' queued_row (λ x. refl) at got
waits_next s (event.Start other) name r r' may at live life got = waits_kept s.rows other.slot name.slot r r' (served_row s) (λ x. refl) at got
waits_next s (event.Answer other ask) name r r' may at live life got =
    waits_kept s.rows other.slot name.slot r r' (answered_row s other.slot ask) (λ x. refl) at got
waits_next s (event.Linger other why) name r r' may at live life got =
    waits_kept s.rows other.slot name.slot r r' (lingering_row s why) (λ x. refl) at got
waits_next s (event.Close other why how) name r r' may at live life got = waits_kept s.rows other.slot name.slot r r' closed_row closed_waits at got
waits_next s (event.Ready i) name r r' may at live life got = waits_same s.rows name.slot r r' at got
waits_next s (event.Tick m) name r r' may at live life got = waits_same s.rows name.slot r r' at got
waits_next s (event.StartChild k) name r r' may at live life got = waits_same s.rows name.slot r r' at got
waits_next s (event.Command c) name r r' may at live life got = waits_commanded s c name.slot r r' at got
waits_next s (event.Retire k) name r r' may at live life got = waits_same s.rows name.slot r r' at got

-- a connection that isn't live isn't parked
unparked : (s : State) (name other : ConnName) (kind : Kind) → lives_and (may_wait s.moment kind) s.rows other ≡ true
    → ((r : Row) → slice_get s.rows name.slot ≡ Some r → is_live_as name r ≡ false) → waits_in name (event.Park other kind) ≡ []
unparked s name other kind lives dead = by (is_name name other) refl
  where
    by : (b : Bool) → is_name name other ≡ b → waits_in name (event.Park other kind) ≡ []
    by false is = rw is refl
    by true is =
        let parts = and_parts (name.slot == other.slot) (name.life == other.life) is in
        let slot = eqb-true name.slot other.slot parts.0 in
        let m : IsMetAt (may_wait s.moment kind) s.rows other = met (may_wait s.moment kind) s.rows other lives in
        let its = is_met other (may_wait s.moment kind) s.rows m.row lives m.at in
        let at : slice_get s.rows name.slot ≡ Some m.row = ap (slice_get s.rows) slot ∙ m.at in
        let named : is_live_as name m.row ≡ true =
        and_from (is_live m.row) (m.row.life == name.life) its.live
        (eq-eqb m.row.life name.life (its.life ∙ sym (eqb-true name.life other.life parts.1))) in
        let none = dead m.row at in
        absurd (cc (named, none))

-- nor does any other event have it wait
unwaiting : (s : State) (e : Event) (name : ConnName) → is_allowed s e ≡ true
    → ((r : Row) → slice_get s.rows name.slot ≡ Some r → is_live_as name r ≡ false) → waits_in name e ≡ []
unwaiting s (event.Accept i) name may dead = refl
unwaiting s (event.Park other kind) name may dead =
    unparked s name other kind (and_parts (not (is_halted s.going)) (lives_and (may_wait s.moment kind) s.rows other) may).1 dead
unwaiting s (event.Hold other) name may dead = refl
unwaiting s (event.Queue other) name may dead = refl
unwaiting s (event.Start other) name may dead = refl
unwaiting s (event.Answer other ask) name may dead = refl
unwaiting s (event.Linger other why) name may dead = refl
unwaiting s (event.Close other why how) name may dead = refl
unwaiting s (event.Ready i) name may dead = refl
unwaiting s (event.Tick m) name may dead = refl
unwaiting s (event.StartChild k) name may dead = refl
unwaiting s (event.Command c) name may dead = refl
unwaiting s (event.Retire k) name may dead = refl

-- ## Runs

-- the slot didn't come to the name yet, and the name has no wait
record IsToCome (name : ConnName) (waits : List Kind) (r : Row) : Type 0 where
  pub none : waits ≡ []
  pub before : (r.life < name.life) ⊎ ((r.life ≡ name.life) × (is_vacant r.place ≡ true))

-- the row is that of the live connection of the name, and has these waits
record HasWaits (name : ConnName) (waits : List Kind) (r : Row) : Type 0 where
  pub live : is_live r ≡ true
  pub life : r.life ≡ name.life
  pub has : r.waits ≡ waits

-- one of these, or the slot went past the name
abbrev Waited : ConnName → List Kind → Row → Type 0
Waited name waits r = IsToCome name waits r ⊎ HasWaits name waits r ⊎ IsPast name.life r

-- the same of the row of the slot of the name
abbrev WaitedIn : ConnName → List Kind → List Row → Type 0
WaitedIn name waits rows = (r : Row) → slice_get rows name.slot ≡ Some r → Waited name waits r

-- a row of the slot that isn't the name's yet isn't live under it
to_come_dead : (name : ConnName) (waits : List Kind) (r : Row) → IsToCome name waits r → is_live_as name r ≡ false
to_come_dead name waits r to_come = by (is_live_as name r) refl
  where
    by : (b : Bool) → is_live_as name r ≡ b → b ≡ false
    by false is = refl
    by true is =
        let parts = and_parts (is_live r) (r.life == name.life) is in
        elim to_come.before [
          | inl earlier ↦ absurd (omega (arith, earlier, eqb-true r.life name.life parts.1))
          | inr its ↦ vacant_live r its.1 parts.0
        ]

-- a live row of the slot that isn't the name's yet is of an earlier life
to_come_earlier : (name : ConnName) (waits : List Kind) (r : Row) → IsToCome name waits r → is_live r ≡ true → r.life < name.life
to_come_earlier name waits r to_come live =
    elim to_come.before [
      | inl earlier ↦ earlier
      | inr its ↦ vacant_live r its.1 live
    ]

-- an event changes a row that isn't the name's yet
come_next : (name : ConnName) (waits : List Kind) (r r' : Row) → Change r r' → IsToCome name waits r → Waited name waits r'
come_next name waits r r' (stays same) to_come = subst (λ (x : Row). Waited name waits x) (sym same) (inl to_come)
come_next name waits r r' (goes_on live live' same notes) to_come =
    inl (record { none = to_come.none; before = inl (omega (arith, same, to_come_earlier name waits r to_come live)) })
come_next name waits r r' (answered note live live' more same notes) to_come =
    inl (record { none = to_come.none; before = inl (omega (arith, same, to_come_earlier name waits r to_come live)) })
come_next name waits r r' (taken vacant live' same fresh) to_come =
    elim to_come.before [
      | inl earlier ↦ inl (record { none = to_come.none; before = inl (omega (arith, same, earlier)) })
      | inr its ↦ inr (inl (record { live = live'; life = same ∙ its.0; has = fresh ∙ sym to_come.none }))
    ]
come_next name waits r r' (closed live vacant up) to_come =
    let earlier = to_come_earlier name waits r to_come live in
    by (r'.life == name.life) refl earlier
  where
    by : (b : Bool) → (r'.life == name.life) ≡ b → r.life < name.life → Waited name waits r'
    by true is earlier = inl (record { none = to_come.none; before = inr (eqb-true r'.life name.life is, vacant) })
    by false is earlier =
        let differs : r'.life ≢ name.life = λ e. absurd (cc (is, eq-eqb r'.life name.life e)) in
        inl (record { none = to_come.none; before = inl (omega (arith, up, earlier, differs)) })
come_next name waits r r' (spent live over) to_come = inr (inr (inr over))

-- and the row of the name, which has these waits then where it lives on
own_next : (name : ConnName) (waits waits' : List Kind) (r r' : Row) → Change r r' → HasWaits name waits r → r'.waits ≡ waits' → Waited name waits' r'
own_next name waits waits' r r' (stays same) own has =
    let live : is_live r' ≡ true = ap is_live same ∙ own.live in
    let life : r'.life ≡ name.life = ap (λ (x : Row). x.life) same ∙ own.life in
    inr (inl (record { live = live; life = life; has = has }))
own_next name waits waits' r r' (goes_on live live' same notes) own has = inr (inl (record { live = live'; life = same ∙ own.life; has = has }))
own_next name waits waits' r r' (answered note live live' more same notes) own has =
    inr (inl (record { live = live'; life = same ∙ own.life; has = has }))
own_next name waits waits' r r' (taken vacant live' same fresh) own has = vacant_live r vacant own.live
own_next name waits waits' r r' (closed live vacant up) own has =
    let later : name.life < r'.life = omega (arith, up, own.life) in
    inr (inr (inl later))
own_next name waits waits' r r' (spent live over) own has = inr (inr (inr over))

-- a row under the waits of the event too
waited_next : (s : State) (e : Event) (name : ConnName) (waits : List Kind) (r r' : Row) → is_allowed s e ≡ true → slice_get s.rows name.slot ≡ Some r
    → slice_get (next s e).rows name.slot ≡ Some r' → Change r r' → Waited name waits r → Waited name (waits ++ waits_in name e) r'
waited_next s e name waits r r' may at got change (inl to_come) =
    let none : waits_in name e ≡ [] =
    unwaiting s e name may (λ x there.
    let same : x ≡ r = cc (there, at) in
    ap (is_live_as name) same ∙ to_come_dead name waits r to_come) in
    let all : waits ++ waits_in name e ≡ waits = ap (λ (ws : List Kind). waits ++ ws) none ∙ append-nil waits in
    subst (λ (ws : List Kind). Waited name ws r') (sym all) (come_next name waits r r' change to_come)
waited_next s e name waits r r' may at got change (inr (inl own)) =
    own_next name waits (waits ++ waits_in name e) r r' change own
    (waits_next s e name r r' may at own.live own.life got ∙ ap (λ (ws : List Kind). ws ++ waits_in name e) own.has)
waited_next s e name waits r r' may at got change (inr (inr past)) = inr (inr (past_stays name.life r r' change past))

waited_in_next : (s : State) (e : Event) (name : ConnName) (waits : List Kind) → is_allowed s e ≡ true → WaitedIn name waits s.rows
    → WaitedIn name (waits ++ waits_in name e) (next s e).rows
waited_in_next s e name waits may waited r' got =
    let made = is_made s e name.slot r' may got in
    waited_next s e name waits made.old r' may made.at got made.change (waited made.old made.at)

-- so it is behind a run
waited_after : (s : State) (history : List Entry) (name : ConnName) (waits : List Kind) → Run s history → WaitedIn name waits s.rows
    → WaitedIn name (waits ++ waits_of name history) (after s history).rows
waited_after s [] name waits run waited = subst (λ (ws : List Kind). WaitedIn name ws s.rows) (sym (append-nil waits)) waited
waited_after s (e ∷ history) name waits run waited =
    let all : (waits ++ waits_in name e.event) ++ waits_of name history ≡ waits ++ waits_of name (e ∷ history) =
    append_assoc waits (waits_in name e.event) (waits_of name history)
    ∙ ap (λ (ws : List Kind). waits ++ ws) (sym (flat_map-cons (λ (x : Entry). waits_in name x.event) e history)) in
    subst (λ (ws : List Kind). WaitedIn name ws (after s (e ∷ history)).rows) all
    (waited_after (next s e.event) history name (waits ++ waits_in name e.event) run.2 (waited_in_next s e.event name waits run.0 waited))

-- where a server opens no slot came to any name but its first
waited_first : (slots : ℕ) (name : ConnName) → WaitedIn name [] (replicate slots unused_row)
waited_first slots name r at =
    let same : r ≡ unused_row = unused_is slots name.slot r at in
    by (0 == name.life) refl same
  where
    by : (b : Bool) → (0 == name.life) ≡ b → r ≡ unused_row → Waited name [] r
    by true is same =
        inl (record { none = refl; before = inr (ap (λ (x : Row). x.life) same ∙ eqb-true 0 name.life is, ap (λ (x : Row). is_vacant x.place) same) })
    by false is same =
        let differs : 0 ≢ name.life = λ e. absurd (cc (is, eq-eqb 0 name.life e)) in
        inl (record { none = refl; before = inl (omega (arith, ap (λ (x : Row). x.life) same, differs)) })

-- a row that lives under the name has the waits
waited_named : (name : ConnName) (waits : List Kind) (r : Row) → is_live_as name r ≡ true → Waited name waits r → r.waits ≡ waits
waited_named name waits r named (inl to_come) = let dead = to_come_dead name waits r to_come in absurd (cc (named, dead))
waited_named name waits r named (inr (inl own)) = own.has
waited_named name waits r named (inr (inr past)) = absurd (cc (past_named name r past))

-- the row of a live connection has what a run from the opening state had it wait for
pub rows_wait : (slots children : ℕ) (shape : Shape) (history : List Entry) (name : ConnName) (r : Row)
    → Run (opening_state slots children shape) history
    → live_row (after (opening_state slots children shape) history).rows name ≡ Some r → r.waits ≡ waits_of name history
rows_wait slots children shape history name r run lives =
    let s = opening_state slots children shape in
    let found = named_where name (slice_get (after s history).rows name.slot) r lives in
    waited_named name (waits_of name history) r found.1
    (waited_after s history name [] run (waited_first slots name) r found.0)

-- ## A connection that was closed

-- a name that is gone waits no more
gone_waits : (s : State) (history : List Entry) (name : ConnName) → Run s history → IsGoneFrom name s.rows → waits_of name history ≡ []
gone_waits s [] name run gone = refl
gone_waits s (e ∷ history) name run gone =
    let none : waits_in name e.event ≡ [] = unwaiting s e.event name run.0 (λ r at. past_named name r (gone r at)) in
    flat_map-cons (λ (x : Entry). waits_in name x.event) e history
    ∙ ap (λ (ws : List Kind). ws ++ waits_of name history) none
    ∙ gone_waits (next s e.event) history name run.2 (gone_next s e.event name run.0 gone)

-- so does one that was closed
pub closed_waits_no_more : (s : State) (before rest : List Entry) (e : Entry) (name : ConnName) (why : Cause) (how : Tail) → Run s (before ++ e ∷ rest)
    → e.event ≡ event.Close name why how → waits_of name rest ≡ []
closed_waits_no_more s [] rest e name why how run closes =
    let may : is_allowed s (event.Close name why how) ≡ true = subst (λ (x : Event). is_allowed s x ≡ true) closes run.0 in
    let gone : IsGoneFrom name (next s e.event).rows =
    subst (λ (x : Event). IsGoneFrom name (next s x).rows) (sym closes) (gone_closed s name why how may) in
    gone_waits (next s e.event) rest name run.2 gone
closed_waits_no_more s (x ∷ before) rest e name why how run closes = closed_waits_no_more (next s x.event) before rest e name why how run.2 closes
