-- Which pass has which row: the laws of histories whose entries are each one that its pass may make.
use Rattle.std.proofs.Common.{◌≡◌, ◌≢◌, ◌⊎◌, inl, inr, ⊎_elim, ℕ, zero, suc, ◌+◌, ◌==◌, Bool, true, false, true≢false, not, ◌&&◌, ◌||◌, List, [], ◌∷◌, ◌++◌, Option, Some, None, slice_get, eq-eqb, ne_eqb, refl, sym, ap, subst, ◌∙◌, append-nil, append_assoc, replicate, is_some, is_none}
use Rattle.std.specs.Prelude.{if◌then◌else◌}
use Rattle.std.specs.Option.{option_map_or}
use Rattle.std.proofs.lemmas.Bool.{and_parts, eqb-true}
use native.Mathlib.Decide.{ℕ_discrete}
use Rattle.mpm_base.specs.declared.conn.ConnName.{ConnName}
use Rattle.conn_machine.specs.declared.row.Phase.{Phase}
use Rattle.conn_machine.specs.declared.row.Place.{Place}
use Rattle.conn_machine.specs.declared.row.Place.TheVariants.{Vacant, Spent, Held, Parked, Queued, Working}
use Rattle.conn_machine.specs.declared.row.Row.{Row}
use Rattle.conn_machine.specs.declared.event.Commanded.{Commanded}
use Rattle.conn_machine.specs.declared.event.Commanded.TheVariants.{Graceful, Refused, GracefulStop, Stop}
use Rattle.conn_machine.specs.declared.event.Event.{Event}
use Rattle.conn_machine.specs.declared.event.Event.TheVariants as event
use Rattle.conn_machine.specs.declared.event.Reply.{Reply}
use Rattle.conn_machine.specs.declared.event.Entry.{Entry}
use Rattle.conn_machine.specs.declared.folded.Folded.{Folded}
use Rattle.conn_machine.specs.declared.state.State.{State}
use Rattle.conn_machine.specs.Lists.{update}
use Rattle.conn_machine.specs.Rows.{is_vacant, is_held, is_live, is_parked, is_queued, is_working, is_lingering, is_with_a_pass, in_phase, is_live_as, row_where, live_row, lives_and}
use Rattle.conn_machine.specs.States.{is_serving, is_halted, is_signalled, pick_child, unused_row}
use Rattle.conn_machine.specs.Table.{is_allowed, next, reply, may_accept, is_vacant_at, taken_row, life_at, may_wait, parked_row, may_be_held, held_row, may_be_queued, queued_row, served_row, answered_row, linger_cause_fits, lingering_row, closed_row, end_fits, greatest_life, next_command}
use Rattle.conn_machine.specs.Runs.{after, entries_of, first_row, has_after, has_row, may_make, row_from, IsNextOf}
use Rattle.conn_machine.proofs.RunLemmas.{after-snoc, entries_of-other}
use Rattle.conn_machine.proofs.UpdateLemmas.{get_changed}
use Rattle.conn_machine.specs.Made.{AreMade, AreMadeBehind, HasSeen, IsOpened}
use Rattle.conn_machine.proofs.HistoryLemmas.{entries_of-append, none_behind, row-own, row_by}

-- ## Rows in hand

-- the rows and who has which
pub record IsOwned (rows : List Row) (has : ℕ → Option ConnName) : Type 0 where
  pub there : (p : ℕ) (name : ConnName) → has p ≡ Some name → (r : Row) × (slice_get rows name.slot ≡ Some r) × (is_with_a_pass r.place ≡ true) × (r.life ≡ name.life)
  pub someone : (slot : ℕ) (r : Row) → slice_get rows slot ≡ Some r → is_with_a_pass r.place ≡ true → (p : ℕ) × (name : ConnName) × (has p ≡ Some name) × (name.slot ≡ slot)
  pub apart : (p q : ℕ) (a b : ConnName) → has p ≡ Some a → has q ≡ Some b → a.slot ≡ b.slot → p ≡ q

-- the pass had this row before, or the row was in no hand and the pass had none
abbrev pub HasOrFinds : ℕ → Row → Option ConnName → Type 0
HasOrFinds slot r had = ((is_with_a_pass r.place ≡ false) × (had ≡ None)) ⊎ ((name : ConnName) × (had ≡ Some name) × (name.slot ≡ slot))

-- the pass has this row now
abbrev pub Has : ℕ → Row → Option ConnName → Type 0
Has slot r has = (name : ConnName) × (has ≡ Some name) × (name.slot ≡ slot) × (is_with_a_pass r.place ≡ true) × (r.life ≡ name.life)

-- the pass has this row now, or it is in no hand and the pass has none
abbrev pub HasOrLeaves : ℕ → Row → Option ConnName → Type 0
HasOrLeaves slot r has = ((is_with_a_pass r.place ≡ false) × (has ≡ None)) ⊎ Has slot r has

-- one pass changed one row, which it had or found
pub record Touches (rows rows' : List Row) (had has : Option ConnName) : Type 0 where
  pub slot : ℕ
  pub old : Row
  pub new : Row
  pub old_at : slice_get rows slot ≡ Some old
  pub new_at : slice_get rows' slot ≡ Some new
  pub others : (j : ℕ) → j ≢ slot → slice_get rows' j ≡ slice_get rows j
  pub before : HasOrFinds slot old had
  pub after_is : HasOrLeaves slot new has

-- one pass changed one row, or none
abbrev pub Moves : List Row → List Row → Option ConnName → Option ConnName → Type 0
Moves rows rows' had has = ((rows' ≡ rows) × (has ≡ had)) ⊎ Touches rows rows' had has

pub some_is : {X : Type 0} (o : Option X) (a b : X) → o ≡ Some a → o ≡ Some b → a ≡ b
some_is None a b ea eb = absurd (cc)
some_is (Some x) a b ea eb = cc

pub none_some : {X P : Type 0} (o : Option X) (a : X) → o ≡ None → o ≡ Some a → P
none_some None a e e' = absurd (cc)
none_some (Some x) a e e' = absurd (cc)

pub off : {P : Type 0} {b : Bool} → b ≡ false → b ≡ true → P
off p q = absurd (true≢false (sym q ∙ p))

-- another pass's row is another one
elsewhere : (rows rows' : List Row) (has : ℕ → Option ConnName) (p : ℕ) (now : Option ConnName) → IsOwned rows has → (t : Touches rows rows' (has p) now)
    → (q : ℕ) (name : ConnName) → q ≢ p → has q ≡ Some name → name.slot ≢ t.slot
elsewhere rows rows' has p now owned t q name ne is same = ⊎_elim
    (λ (found : (is_with_a_pass t.old.place ≡ false) × (has p ≡ None)).
    let here = owned.there q name is in
    let row : here.0 ≡ t.old = some_is (slice_get rows t.slot) here.0 t.old (subst (λ i. slice_get rows i ≡ Some here.0) same here.1) t.old_at in
    off (ap (λ (r : Row). is_with_a_pass r.place) row ∙ found.0) here.2)
    (λ (had : (a : ConnName) × (has p ≡ Some a) × (a.slot ≡ t.slot)). ne (owned.apart q p name had.0 is had.1 (same ∙ sym had.2)))
    t.before

-- who has which row, where one pass has another now
abbrev pub SameBut : ℕ → (ℕ → Option ConnName) → (ℕ → Option ConnName) → Type 0
SameBut p has has' = (q : ℕ) → q ≢ p → has' q ≡ has q

touched : (rows rows' : List Row) (has has' : ℕ → Option ConnName) (p : ℕ) → IsOwned rows has → SameBut p has has'
    → Touches rows rows' (has p) (has' p) → IsOwned rows' has'
touched rows rows' has has' p owned same t = record {
  there = λ q name is. elim (ℕ_discrete q p) [
    | yes e ↦
        let now : has' p ≡ Some name = subst (λ k. has' k ≡ Some name) e is in
        ⊎_elim
        (λ (left : (is_with_a_pass t.new.place ≡ false) × (has' p ≡ None)). none_some (has' p) name left.1 now)
        (λ (got : Has t.slot t.new (has' p)).
        let a : got.0 ≡ name = some_is (has' p) got.0 name got.1 now in
        (t.new, subst (λ i. slice_get rows' i ≡ Some t.new) (sym got.2 ∙ ap (λ (n : ConnName). n.slot) a) t.new_at, got.3, got.4 ∙ ap (λ (n : ConnName). n.life) a))
        t.after_is
    | no ne ↦
        let was : has q ≡ Some name = sym (same q ne) ∙ is in
        let far = elsewhere rows rows' has p (has' p) owned t q name ne was in
        let here = owned.there q name was in
        (here.0, t.others name.slot far ∙ here.1, here.2, here.3)
  ];
  someone = λ slot r at taken. elim (ℕ_discrete slot t.slot) [
    | yes e ↦
        let row : r ≡ t.new = some_is (slice_get rows' t.slot) r t.new (subst (λ i. slice_get rows' i ≡ Some r) e at) t.new_at in
        ⊎_elim
        (λ (left : (is_with_a_pass t.new.place ≡ false) × (has' p ≡ None)). off (ap (λ (x : Row). is_with_a_pass x.place) row ∙ left.0) taken)
        (λ (got : Has t.slot t.new (has' p)). (p, got.0, got.1, got.2 ∙ sym e))
        t.after_is
    | no ne ↦
        let who = owned.someone slot r (sym (t.others slot ne) ∙ at) taken in
        elim (ℕ_discrete who.0 p) [
          | yes e ↦
              let had : has p ≡ Some who.1 = subst (λ k. has k ≡ Some who.1) e who.2 in
              ⊎_elim
              (λ (found : (is_with_a_pass t.old.place ≡ false) × (has p ≡ None)). none_some (has p) who.1 found.1 had)
              (λ (was : (a : ConnName) × (has p ≡ Some a) × (a.slot ≡ t.slot)).
              absurd (ne (sym who.3 ∙ ap (λ (n : ConnName). n.slot) (some_is (has p) who.1 was.0 had was.1) ∙ was.2)))
              t.before
          | no other ↦ (who.0, who.1, same who.0 other ∙ who.2, who.3)
        ]
  ];
  apart = λ q k a b ea eb slots. elim (ℕ_discrete q p) [
    | yes e ↦ elim (ℕ_discrete k p) [
      | yes e' ↦ e ∙ sym e'
      | no ne' ↦ absurd (clash q k a b e ne' ea eb slots)
    ]
    | no ne ↦ elim (ℕ_discrete k p) [
      | yes e' ↦ absurd (clash k q b a e' ne eb ea (sym slots))
      | no ne' ↦ owned.apart q k a b (sym (same q ne) ∙ ea) (sym (same k ne') ∙ eb) slots
    ]
  ];
}
  where
    clash : (q k : ℕ) (a b : ConnName) → q ≡ p → k ≢ p → has' q ≡ Some a → has' k ≡ Some b → a.slot ≡ b.slot → ⊥
    clash q k a b e ne ea eb slots =
        let now : has' p ≡ Some a = subst (λ i. has' i ≡ Some a) e ea in
        let was : has k ≡ Some b = sym (same k ne) ∙ eb in
        ⊎_elim
        (λ (left : (is_with_a_pass t.new.place ≡ false) × (has' p ≡ None)). none_some (has' p) a left.1 now)
        (λ (got : Has t.slot t.new (has' p)).
        elsewhere rows rows' has p (has' p) owned t k b ne was
        (sym slots ∙ ap (λ (n : ConnName). n.slot) (some_is (has' p) a got.0 now got.1) ∙ got.2))
        t.after_is

pub same_owned : (rows rows' : List Row) (has has' : ℕ → Option ConnName) → rows' ≡ rows → ((q : ℕ) → has' q ≡ has q) → IsOwned rows has → IsOwned rows' has'
same_owned rows rows' has has' same by owned = record {
  there = λ p name is. let h = owned.there p name (sym (by p) ∙ is) in (h.0, ap (λ l. slice_get l name.slot) same ∙ h.1, h.2, h.3);
  someone = λ slot r at taken. let h = owned.someone slot r (ap (λ l. slice_get l slot) (sym same) ∙ at) taken in (h.0, h.1, by h.0 ∙ h.2, h.3);
  apart = λ p q a b ea eb slots. owned.apart p q a b (sym (by p) ∙ ea) (sym (by q) ∙ eb) slots;
}

moved_owned : (rows rows' : List Row) (has has' : ℕ → Option ConnName) (p : ℕ) → IsOwned rows has → SameBut p has has'
    → Moves rows rows' (has p) (has' p) → IsOwned rows' has'
moved_owned rows rows' has has' p owned same (inl stays) = same_owned rows rows' has has' stays.0
    (λ q. elim (ℕ_discrete q p) [
      | yes e ↦ subst (λ k. has' k ≡ has k) (sym e) stays.1
      | no ne ↦ same q ne
    ])
    owned
moved_owned rows rows' has has' p owned same (inr t) = touched rows rows' has has' p owned same t

-- the row of another pass stays
moved_stays : (rows rows' : List Row) (has : ℕ → Option ConnName) (p : ℕ) (now : Option ConnName) → IsOwned rows has → Moves rows rows' (has p) now
    → (q : ℕ) (name : ConnName) → q ≢ p → has q ≡ Some name → slice_get rows' name.slot ≡ slice_get rows name.slot
moved_stays rows rows' has p now owned (inl stays) q name ne is = ap (λ l. slice_get l name.slot) stays.0
moved_stays rows rows' has p now owned (inr t) q name ne is = t.others name.slot (elsewhere rows rows' has p now owned t q name ne is)

-- ## What an event does

-- each other item stays
pub get_else : {X : Type 0} (change : X → X) (rows : List X) (i j : ℕ) → j ≢ i → slice_get (update rows i change) j ≡ slice_get rows j
get_else change [] i j ne = refl
get_else change (x ∷ rows) zero zero ne = absurd (ne refl)
get_else change (x ∷ rows) zero (suc j) ne = refl
get_else change (x ∷ rows) (suc i) zero ne = refl
get_else change (x ∷ rows) (suc i) (suc j) ne = get_else change rows i j (λ e. ne (ap suc e))

-- the row of a live connection, which passes a test
pub record IsMetAt (test : Row → Bool) (rows : List Row) (name : ConnName) : Type 0 where
  pub row : Row
  pub at : slice_get rows name.slot ≡ Some row
  pub live : live_row rows name ≡ Some row
  pub life : row.life ≡ name.life
  pub passes : test row ≡ true

pub met : (test : Row → Bool) (rows : List Row) (name : ConnName) → lives_and test rows name ≡ true → IsMetAt test rows name
met test rows name lives = by (slice_get rows name.slot) refl lives
  where
    named : (r : Row) (b : Bool) → is_live_as name r ≡ b → slice_get rows name.slot ≡ Some r
        → option_map_or test (if b then Some r else None) false ≡ true → IsMetAt test rows name
    named r true is at passes = record {
      row = r;
      at = at;
      live = ap (row_where (is_live_as name)) at ∙ ap (λ b. if b then Some r else None) is;
      life = eqb-true r.life name.life (and_parts (is_live r) (r.life == name.life) is).1;
      passes = passes;
    }
    named r false is at passes = absurd (cc)

    by : (o : Option Row) → slice_get rows name.slot ≡ o → option_map_or test (row_where (is_live_as name) o) false ≡ true → IsMetAt test rows name
    by None at passes = absurd (cc)
    by (Some r) at passes = named r (is_live_as name r) refl at passes

-- the pass has the connection
pub had_row : (had : Option ConnName) (name : ConnName) → has_row had name ≡ true → (a : ConnName) × (had ≡ Some a) × (a.slot ≡ name.slot)
had_row None name has = absurd (cc)
had_row (Some a) name has = (a, refl, sym (eqb-true name.slot a.slot (and_parts (name.slot == a.slot) (name.life == a.life) has).0))

-- under that name
pub had_life : (had : Option ConnName) (name a : ConnName) → has_row had name ≡ true → had ≡ Some a → name.life ≡ a.life
had_life None name a has is = absurd (cc)
had_life (Some b) name a has is =
    eqb-true name.life b.life (and_parts (name.slot == b.slot) (name.life == b.life) has).1 ∙ ap (λ (n : ConnName). n.life) (some_is (Some b) b a refl is)

no_row : (had : Option ConnName) → is_none had ≡ true → had ≡ None
no_row None none = refl
no_row (Some a) none = absurd (cc)

parked_free : (place : Place) → is_parked place ≡ true → is_with_a_pass place ≡ false
parked_free Vacant is = refl
parked_free Spent is = refl
parked_free Held is = absurd (cc)
parked_free (Parked kind) is = refl
parked_free Queued is = absurd (cc)
parked_free (Working cell phase) is = absurd (cc)

vacant_free : (place : Place) → is_vacant place ≡ true → is_with_a_pass place ≡ false
vacant_free Vacant is = refl
vacant_free Spent is = refl
vacant_free Held is = absurd (cc)
vacant_free (Parked kind) is = absurd (cc)
vacant_free Queued is = absurd (cc)
vacant_free (Working cell phase) is = absurd (cc)

working_hand : (phase : Phase) (place : Place) → is_working place ≡ true → is_with_a_pass (in_phase phase place) ≡ true
working_hand phase Vacant is = absurd (cc)
working_hand phase Spent is = absurd (cc)
working_hand phase Held is = absurd (cc)
working_hand phase (Parked kind) is = absurd (cc)
working_hand phase Queued is = absurd (cc)
working_hand phase (Working cell before) is = refl

closed_free : (r : Row) → is_with_a_pass (closed_row r).place ≡ false
closed_free r = by (r.life == greatest_life)
  where
    by : (b : Bool) → is_with_a_pass (if b then record r { place = Spent; notes = [] } else record r { life = r.life + 1; place = Vacant; notes = [] }).place ≡ false
    by true = refl
    by false = refl

-- the row of a slot is changed, which the pass had or found
changed : (rows : List Row) (slot : ℕ) (r : Row) (change : Row → Row) (had has : Option ConnName) → slice_get rows slot ≡ Some r
    → HasOrFinds slot r had → HasOrLeaves slot (change r) has → Moves rows (update rows slot change) had has
changed rows slot r change had has at before after_is = inr record {
  slot = slot;
  old = r;
  new = change r;
  old_at = at;
  new_at = get_changed rows slot r change at;
  others = λ j ne. get_else change rows slot j ne;
  before = before;
  after_is = after_is;
}

commanded_rows : (s : State) (c : Commanded) → (next_command s c).rows ≡ s.rows
commanded_rows s (Graceful shape) = refl
commanded_rows s (Refused reason) = refl
commanded_rows s (GracefulStop until) = refl
commanded_rows s (Stop reason) = refl

accept_moves : (s : State) (slot : ℕ) (had : Option ConnName) → may_accept s slot ≡ true → had ≡ None
    → Moves s.rows (update s.rows slot (taken_row s)) had (Some (record { slot = slot; life = life_at s.rows slot }))
accept_moves s slot had may none =
    let vacant = (and_parts (is_serving s.going) (is_vacant_at s slot) (and_parts (is_serving s.going && is_vacant_at s slot) (is_some (pick_child s)) may).0).1 in
    by (slice_get s.rows slot) refl vacant
  where
    by : (o : Option Row) → slice_get s.rows slot ≡ o → option_map_or (λ r. is_vacant r.place) o false ≡ true
        → Moves s.rows (update s.rows slot (taken_row s)) had (Some (record { slot = slot; life = life_at s.rows slot }))
    by None at vacant = absurd (cc)
    by (Some r) at vacant =
        changed s.rows slot r (taken_row s) had _ at (inl (vacant_free r.place vacant, none)) (inr (_, refl, refl, refl, ap (λ (x : Option Row). option_map_or (λ y. y.life) x 0) (sym at)))

-- an event that a pass may make changes the row that it has or finds
pub event_moves : (s : State) (p : ℕ) (had : Option ConnName) (e : Event) → is_allowed s e ≡ true → may_make p had e ≡ true
    → Moves s.rows (next s e).rows had (has_after had e (reply s e))
event_moves s p had (event.Accept slot) may role = accept_moves s slot had may (no_row had (and_parts (p == 0) (is_none had) role).1)
event_moves s p had (event.Park name kind) may role =
    let m = met (may_wait s.moment kind) s.rows name (and_parts (not (is_halted s.going)) _ may).1 in
    changed s.rows name.slot m.row (parked_row s kind) had _ m.at (inr (had_row had name role)) (inl (refl, refl))
event_moves s p had (event.Hold name) may role =
    let m = met (may_be_held s (is_signalled s name.slot)) s.rows name may in
    let parked = (and_parts (is_parked m.row.place) _ m.passes).0 in
    changed s.rows name.slot m.row held_row had _ m.at (inl (parked_free m.row.place parked, no_row had (and_parts (p == 0) (is_none had) role).1)) (inr (name, refl, refl, refl, m.life))
event_moves s p had (event.Queue name) may role =
    let m = met (may_be_queued s) s.rows name (and_parts (not (is_halted s.going) && is_signalled s name.slot) _ may).1 in
    let parked = (and_parts (is_parked m.row.place) (not (is_lingering m.row)) (and_parts (is_parked m.row.place && not (is_lingering m.row)) _ m.passes).0).0 in
    changed s.rows name.slot m.row queued_row had _ m.at (inl (parked_free m.row.place parked, no_row had role)) (inr (name, refl, refl, refl, m.life))
event_moves s p had (event.Start name) may role =
    let m = met (λ r. is_queued r.place) s.rows name may in
    let h = had_row had name role in
    changed s.rows name.slot m.row (served_row s) had _ m.at (inr h) (inr (h.0, h.1, h.2, refl, m.life ∙ had_life had name h.0 role h.1))
event_moves s p had (event.Answer name ask) may role =
    let m = met (λ r. is_working r.place && not r.last) s.rows name (and_parts (not (is_halted s.going)) _ may).1 in
    let h = had_row had name role in
    changed s.rows name.slot m.row (answered_row s name.slot ask) had _ m.at (inr h) (inr (h.0, h.1, h.2, working_hand _ m.row.place (and_parts (is_working m.row.place) (not m.row.last) m.passes).0, m.life ∙ had_life had name h.0 role h.1))
event_moves s p had (event.Linger name why) may role =
    let m = met (λ r. not (is_lingering r) && linger_cause_fits s why (is_signalled s name.slot) r) s.rows name may in
    changed s.rows name.slot m.row (lingering_row s why) had _ m.at (inr (had_row had name role)) (inl (refl, refl))
event_moves s p had (event.Close name why how) may role =
    let m = met (λ r. (is_held r.place || is_working r.place) && end_fits s why how r) s.rows name may in
    changed s.rows name.slot m.row closed_row had _ m.at (inr (had_row had name role)) (inl (closed_free m.row, refl))
event_moves s p had (event.Ready slot) may role = inl (refl, refl)
event_moves s p had (event.Tick m) may role = inl (refl, refl)
event_moves s p had (event.StartChild k) may role = inl (refl, refl)
event_moves s p had (event.Command c) may role = inl (commanded_rows s c, refl)
event_moves s p had (event.Retire k) may role = inl (refl, refl)

-- ## Through a history

-- the rows of each pass after a history
abbrev pub rows_from : Folded → List Entry → ℕ → Option ConnName
rows_from f history p = row_from f p history

-- an entry of the pass gives it its next row
pub row_own : (f : Folded) (p : ℕ) (history : List Entry) (e : Entry) → e.pass ≡ p
    → row_from f p (history ++ e ∷ []) ≡ has_after (row_from f p history) e.event e.reply
row_own f p history e own = row-own f p history e (eq-eqb e.pass p own)

-- an entry of another pass leaves it
pub row_other : (f : Folded) (p : ℕ) (history : List Entry) (e : Entry) → e.pass ≢ p → row_from f p (history ++ e ∷ []) ≡ row_from f p history
row_other f p history e other = row_by f p (history ++ e ∷ []) history (entries_of-other p history e (ne_eqb e.pass p other))

-- an entry that its pass may make changes the row that the pass has or finds
entry_moves : (start : State) (f : Folded) (p : ℕ) (before : List Entry) (e : Entry) → IsNextOf p start f before e
    → Moves (after start before).rows (after start (before ++ e ∷ [])).rows (row_from f p before) (row_from f p (before ++ e ∷ []))
entry_moves start f p before e is =
    let s = after start before in
    let had = row_from f p before in
    let m : Moves s.rows (next s e.event).rows had (has_after had e.event (reply s e.event)) =
    event_moves s p had e.event is.is_allowed is.role in
    let m' : Moves s.rows (next s e.event).rows had (row_from f p (before ++ e ∷ [])) =
    subst (λ o. Moves s.rows (next s e.event).rows had o)
    (ap (λ (r : Reply). has_after had e.event r) (sym is.replied) ∙ sym (row_own f p before e is.pass)) m in
    subst (λ (t : State). Moves s.rows t.rows had (row_from f p (before ++ e ∷ []))) (sym (after-snoc start before e)) m'

owned_snoc : (start : State) (f : Folded) (before : List Entry) (e : Entry) → IsNextOf e.pass start f before e
    → IsOwned (after start before).rows (rows_from f before) → IsOwned (after start (before ++ e ∷ [])).rows (rows_from f (before ++ e ∷ []))
owned_snoc start f before e is owned =
    moved_owned _ _ (rows_from f before) (rows_from f (before ++ e ∷ [])) e.pass owned
    (λ q ne. row_other f q before e (λ same. ne (sym same)))
    (entry_moves start f e.pass before e is)

owned_behind : (start : State) (f : Folded) (before history : List Entry) → IsOwned (after start before).rows (rows_from f before)
    → AreMadeBehind start f before history → IsOwned (after start (before ++ history)).rows (rows_from f (before ++ history))
owned_behind start f before [] owned made = subst (λ h. IsOwned (after start h).rows (rows_from f h)) (sym (append-nil before)) owned
owned_behind start f before (e ∷ history) owned made =
    subst (λ h. IsOwned (after start h).rows (rows_from f h)) (append_assoc before (e ∷ []) history)
    (owned_behind start f (before ++ e ∷ []) history (owned_snoc start f before e made.0 owned) made.1)

-- who has which row, after each history that passes made as they may
pub owned : (start : State) (f : Folded) (history : List Entry) → IsOwned start.rows (first_row f) → AreMade start f history
    → IsOwned (after start history).rows (rows_from f history)
owned start f history begun made = owned_behind start f [] history begun made

pub unused_is : (n slot : ℕ) (r : Row) → slice_get (replicate n unused_row) slot ≡ Some r → r ≡ unused_row
unused_is zero slot r at = absurd (cc)
unused_is (suc n) zero r at = cc
unused_is (suc n) (suc slot) r at = unused_is n slot r at

-- at the start no pass has a row
pub opened_owned : (start : State) (has : ℕ → Option ConnName) → IsOpened start → ((p : ℕ) → has p ≡ None) → IsOwned start.rows has
opened_owned start has o none = record {
  there = λ p name is. none_some (has p) name (none p) is;
  someone = λ slot r at taken. off (ap (λ (x : Row). is_with_a_pass x.place) (unused_is o.slots slot r (ap (λ (s : State). slice_get s.rows slot) (sym o.state) ∙ at))) taken;
  apart = λ p q a b ea eb slots. none_some (has p) a (none p) ea;
}

none_first : (p : ℕ) (e : Entry) (rest : List Entry) → entries_of p (e ∷ rest) ≡ [] → e.pass ≢ p
none_first p e rest none own =
    let mine : entries_of p (e ∷ []) ≡ e ∷ [] = rw (eq-eqb e.pass p own) refl in
    let all : entries_of p (e ∷ rest) ≡ e ∷ entries_of p rest = entries_of-append p (e ∷ []) rest ∙ ap (λ l. l ++ entries_of p rest) mine in
    absurd (cc (all, none))

stays_behind : (start : State) (f : Folded) (p : ℕ) (name : ConnName) (before rest : List Entry) → IsOwned (after start before).rows (rows_from f before)
    → AreMadeBehind start f before rest → entries_of p rest ≡ [] → row_from f p before ≡ Some name
    → slice_get (after start (before ++ rest)).rows name.slot ≡ slice_get (after start before).rows name.slot
stays_behind start f p name before [] own made none is = ap (λ h. slice_get (after start h).rows name.slot) (append-nil before)
stays_behind start f p name before (e ∷ rest) own made none is =
    let other = none_first p e rest none in
    let here : slice_get (after start (before ++ e ∷ [])).rows name.slot ≡ slice_get (after start before).rows name.slot =
    moved_stays _ _ (rows_from f before) e.pass _ own (entry_moves start f e.pass before e made.0) p name (λ same. other (sym same)) is in
    ap (λ h. slice_get (after start h).rows name.slot) (sym (append_assoc before (e ∷ []) rest))
    ∙ stays_behind start f p name (before ++ e ∷ []) rest (owned_snoc start f before e made.0 own) made.1
    (none_behind p (e ∷ []) rest none) (row_other f p before e other ∙ is)
    ∙ here

made_parts : (start : State) (f : Folded) (before a b : List Entry) → AreMadeBehind start f before (a ++ b)
    → AreMadeBehind start f before a × AreMadeBehind start f (before ++ a) b
made_parts start f before [] b made = (tt, subst (λ l. AreMadeBehind start f l b) (sym (append-nil before)) made)
made_parts start f before (e ∷ a) b made =
    let r = made_parts start f (before ++ e ∷ []) a b made.1 in
    ((made.0, r.0), subst (λ l. AreMadeBehind start f l b) (append_assoc before (e ∷ []) a) r.1)

-- the row of a pass stays while other passes go on
pub row_stays : (start : State) (f : Folded) (p : ℕ) (seen history : List Entry) (name : ConnName) → IsOwned start.rows (first_row f)
    → AreMade start f history → HasSeen p seen history → row_from f p seen ≡ Some name
    → slice_get (after start history).rows name.slot ≡ slice_get (after start seen).rows name.slot
row_stays start f p seen history name begun made behind is =
    let parts = made_parts start f [] seen behind.0 (subst (AreMade start f) behind.1 made) in
    ap (λ h. slice_get (after start h).rows name.slot) behind.1
    ∙ stays_behind start f p name seen behind.0 (owned start f seen begun parts.0) parts.1 behind.2 is
