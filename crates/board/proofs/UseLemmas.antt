-- How far the slots of a board are used, while one row and one slot change.
use Rattle.std.proofs.Common.{◌≡◌, ◌≢◌, ◌==◌, ℕ, zero, suc, ◌+◌, ◌<◌, Bool, true, false, not, ◌&&◌, ◌||◌, nat_lt, List, [], ◌∷◌, map, cond, count_by, replicate, Option, option_and_then, None, Some, OnSome, Result, Ok, Err, IsErr, IfOk, is_none, is_some, slice_get, refl, sym, ap, ◌∙◌, eqb-true, eq-eqb, arith}
use Rattle.std.proofs.Math.ListN.{set}
use Rattle.std.proofs.lemmas.Bool.{and_from, and_parts, le-ltb, lt-ltb, ltb-true}
use Rattle.std.proofs.lemmas.List.{map-set, set-get_or}
use Rattle.std.proofs.lemmas.Option.{get_or_from_slice_get, none-some, same_Some}
use Rattle.std.proofs.lemmas.List.Sums.{sum_by-cons}
use Rattle.mpm_base.specs.declared.conn.ConnName.{ConnName}
use Rattle.mpm_base.specs.declared.conn.Ask.{Ask}
use Rattle.mpm_base.specs.declared.conn.Cause.{Cause}
use Rattle.mpm_base.specs.declared.conn.Kind.{Kind}
use Rattle.mpm_base.specs.declared.conn.Tail.{Tail}
use Rattle.conn_machine.specs.declared.row.Place.{Place}
use Rattle.conn_machine.specs.declared.row.Place.TheVariants.{Vacant, Spent, Held, Parked, Queued, Working}
use Rattle.conn_machine.specs.declared.row.Row.{Row}
use Rattle.conn_machine.specs.declared.event.Event.TheVariants as event
use Rattle.conn_machine.specs.declared.state.State.{State}
use Rattle.conn_machine.specs.Lists.{update}
use Rattle.conn_machine.specs.Rows.{is_vacant, is_unused, is_held, is_queued, is_working, is_live, is_lingering, lives_and}
use Rattle.conn_machine.specs.States.{is_signalled, is_halted, is_serving, pick_child, unused_row}
use Rattle.conn_machine.specs.Table.{is_allowed, next, is_vacant_at, may_wait, may_be_held, may_be_queued, linger_cause_fits, taken_row, parked_row, held_row, queued_row, served_row, answered_row, lingering_row, closed_row, greatest_life, end_fits}
use Rattle.conn_slots.specs.Slots.{SeenSlots, Slot, next_name, most_lives, is_vacant_slot, vacant_count, unused_slot, item_in, item_of, HasItem, IsNextName, with_item, without_item}
use Rattle.conn_state.specs.Conn.{SeenConn}
use Rattle.board.specs.Board.{conn_at}
use Rattle.board.specs.Layout.{conn_in, conn_of_item, conns_in}
use Rattle.board.specs.SlotsInside.{SlotUse, use_of_slot, use_of_row, use_at, taken_in, AreUsedAlike}
use Rattle.board.proofs.BoardLemmas.{LivesAs, lives_as}
use Rattle.board.proofs.EventLemmas.{answer_phase, in_phase-unused, linger-lives, row_at, weight-true}
use Rattle.board.proofs.QueueLemmas.{get-map, map-same, map-update}

-- ## One item

-- where two lists are mapped alike, the first has an item where the second has one, and both are mapped alike
alike-at : {X Y U : Type 0} (f : X → U) (g : Y → U) (xs : List X) (ys : List Y) (i : ℕ) (y : Y) → map f xs ≡ map g ys
    → slice_get ys i ≡ Some y → (x : X) × (slice_get xs i ≡ Some x) × (f x ≡ g y)
alike-at f g [] [] i y alike at = absurd (cc)
alike-at f g [] (v ∷ ys) i y alike at = absurd (cc)
alike-at f g (x ∷ xs) [] i y alike at = absurd (cc)
alike-at f g (x ∷ xs) (v ∷ ys) zero y alike at =
    let e : v ≡ y = cc in
    let here : f x ≡ g v = cc in
    (x, refl, here ∙ ap g e)
alike-at f g (x ∷ xs) (v ∷ ys) (suc i) y alike at =
    let behind : map f xs ≡ map g ys = cc in
    alike-at f g xs ys i y behind at

-- they still are, where one item of each changed alike
alike-set : {X Y U : Type 0} (f : X → U) (g : Y → U) (xs : List X) (ys : List Y) (i : ℕ) (x : X) (y : Y) (change : Y → Y) → map f xs ≡ map g ys
    → slice_get ys i ≡ Some y → f x ≡ g (change y) → map f (set xs i x) ≡ map g (update ys i change)
alike-set {X} {Y} {U} f g xs ys i x y change alike at same =
    map-set f xs i x
    ∙ ap (λ (us : List U). set us i (f x)) alike
    ∙ ap (λ (u : U). set (map g ys) i u) same
    ∙ sym (map-update g ys i y change at)

-- where an item changes to one that is mapped alike, the list is
mapped-still : {X U : Type 0} (f : X → U) (xs : List X) (i : ℕ) (x : X) (change : X → X) → slice_get xs i ≡ Some x → f (change x) ≡ f x
    → map f (update xs i change) ≡ map f xs
mapped-still {X} {U} f xs i x change at same =
    map-update f xs i x change at
    ∙ ap (λ (u : U). set (map f xs) i u) same
    ∙ map-same f xs i x at

-- ## Rows

-- the slot of a live row is taken
live-use : (p : Place) (life : ℕ) → not (is_unused p) ≡ true → use_at p life ≡ taken_in life
live-use Vacant life live = absurd (cc)
live-use Spent life live = absurd (cc)
live-use Held life live = refl
live-use (Parked kind) life live = refl
live-use Queued life live = refl
live-use (Working cell phase) life live = refl

-- the slot of a vacant one is not
vacant-use : (p : Place) (life : ℕ) → is_vacant p ≡ true → use_at p life ≡ use_at Vacant life
vacant-use Vacant life vacant = refl
vacant-use p life vacant = absurd (cc)

-- so it is used as before where one live row follows another
rows_still : (rows : List Row) (slot : ℕ) (r : Row) (change : Row → Row) → slice_get rows slot ≡ Some r → is_live r ≡ true
    → is_live (change r) ≡ true → (change r).life ≡ r.life → map use_of_row (update rows slot change) ≡ map use_of_row rows
rows_still rows slot r change at live live' life =
    mapped-still use_of_row rows slot r change at
    (live-use (change r).place (change r).life live' ∙ ap taken_in life ∙ sym (live-use r.place r.life live))

-- ## What an event's row is

-- what may linger of a state
abbrev pub is_fit_to_linger : State → Cause → Bool → Row → Bool
is_fit_to_linger s why signalled r = not (is_lingering r) && linger_cause_fits s why signalled r

-- the row of a connection that waits lives
pub park-lives : (s : State) (name : ConnName) (kind : Kind) → is_allowed s (event.Park name kind) ≡ true
    → lives_and (may_wait s.moment kind) s.rows name ≡ true
park-lives s name kind may = (and_parts (not (is_halted s.going)) (lives_and (may_wait s.moment kind) s.rows name) may).1

-- so does that of one that is handed to the workers
pub queue-lives : (s : State) (name : ConnName) → is_allowed s (event.Queue name) ≡ true → lives_and (may_be_queued s) s.rows name ≡ true
queue-lives s name may = (and_parts (not (is_halted s.going) && is_signalled s name.slot) (lives_and (may_be_queued s) s.rows name) may).1

-- ## Events that leave each row as live as it was

-- a connection waits
pub park-used : (s : State) (name : ConnName) (kind : Kind) → is_allowed s (event.Park name kind) ≡ true
    → map use_of_row (next s (event.Park name kind)).rows ≡ map use_of_row s.rows
park-used s name kind may =
    let lives = lives_as s.rows name (may_wait s.moment kind) (park-lives s name kind may) in
    rows_still s.rows name.slot lives.row (parked_row s kind) lives.at lives.live refl refl

-- the listener takes one
pub hold-used : (s : State) (name : ConnName) → is_allowed s (event.Hold name) ≡ true
    → map use_of_row (next s (event.Hold name)).rows ≡ map use_of_row s.rows
hold-used s name may =
    let lives = lives_as s.rows name (may_be_held s (is_signalled s name.slot)) may in
    rows_still s.rows name.slot lives.row held_row lives.at lives.live refl refl

-- one is handed to the workers of its child
pub queue-used : (s : State) (name : ConnName) → is_allowed s (event.Queue name) ≡ true
    → map use_of_row (next s (event.Queue name)).rows ≡ map use_of_row s.rows
queue-used s name may =
    let lives = lives_as s.rows name (may_be_queued s) (queue-lives s name may) in
    rows_still s.rows name.slot lives.row queued_row lives.at lives.live refl refl

-- a worker begins to serve one
pub start-used : (s : State) (name : ConnName) → is_allowed s (event.Start name) ≡ true
    → map use_of_row (next s (event.Start name)).rows ≡ map use_of_row s.rows
start-used s name may =
    let lives = lives_as s.rows name (λ (r : Row). is_queued r.place) may in
    rows_still s.rows name.slot lives.row (served_row s) lives.at lives.live refl refl

-- a response is decided
pub answer-used : (s : State) (name : ConnName) (ask : Ask) → is_allowed s (event.Answer name ask) ≡ true
    → map use_of_row (next s (event.Answer name ask)).rows ≡ map use_of_row s.rows
answer-used s name ask may =
    let lives = lives_as s.rows name (λ (r : Row). is_working r.place && not r.last)
    (and_parts (not (is_halted s.going)) (lives_and (λ (r : Row). is_working r.place && not r.last) s.rows name) may).1 in
    let r = lives.row in
    rows_still s.rows name.slot r (answered_row s name.slot ask) lives.at lives.live
    (ap not (in_phase-unused (answer_phase s ask r) r.place) ∙ lives.live) refl

-- one lingers
pub linger-used : (s : State) (name : ConnName) (why : Cause) → is_allowed s (event.Linger name why) ≡ true
    → map use_of_row (next s (event.Linger name why)).rows ≡ map use_of_row s.rows
linger-used s name why may =
    let lives = linger-lives s name why may in
    rows_still s.rows name.slot lives.row (lingering_row s why) lives.at lives.live refl refl

-- a row that is used as a slot without an item, in a life that a slot has, is vacant
unused-vacant : (p : Place) (life : ℕ) (u : SlotUse) → use_at p life ≡ u → u.taken ≡ false → u.lasts ≡ true → is_vacant p ≡ true
unused-vacant Vacant life u is taken lasts = refl
unused-vacant Spent life u is taken lasts =
    let over : false ≡ u.lasts = ap (λ (v : SlotUse). v.lasts) is in
    absurd (cc)
unused-vacant Held life u is taken lasts =
    let has : true ≡ u.taken = ap (λ (v : SlotUse). v.taken) is in
    absurd (cc)
unused-vacant (Parked kind) life u is taken lasts =
    let has : true ≡ u.taken = ap (λ (v : SlotUse). v.taken) is in
    absurd (cc)
unused-vacant Queued life u is taken lasts =
    let has : true ≡ u.taken = ap (λ (v : SlotUse). v.taken) is in
    absurd (cc)
unused-vacant (Working cell phase) life u is taken lasts =
    let has : true ≡ u.taken = ap (λ (v : SlotUse). v.taken) is in
    absurd (cc)

-- how far a slot is used, once its connection of this life ended
abbrev ended_use : ℕ → SlotUse
ended_use life = record { life = life + 1; taken = false; lasts = nat_lt (life + 1) most_lives }

-- so far the closed row says, whether its life was the last or not
closed-use : (r : Row) (last : Bool) → (r.life == greatest_life) ≡ last → r.life < most_lives → use_of_row (closed_row r) ≡ ended_use r.life
closed-use r true is below =
    let life : r.life ≡ greatest_life = eqb-true r.life greatest_life is in
    let over : nat_lt (r.life + 1) most_lives ≡ false = le-ltb (r.life + 1) most_lives (omega (arith, life)) in
    rw is (ap (λ (b : Bool). (let u : SlotUse = record { life = r.life + 1; taken = false; lasts = b } in u)) (sym over))
closed-use r false is below =
    let differs : r.life ≢ greatest_life = (λ (e : r.life ≡ greatest_life). let eq : (r.life == greatest_life) ≡ true = eq-eqb r.life greatest_life e in cc) in
    let more : nat_lt (r.life + 1) most_lives ≡ true = lt-ltb (r.life + 1) most_lives (omega (arith, differs, below)) in
    rw is (ap (λ (b : Bool). (let u : SlotUse = record { life = r.life + 1; taken = false; lasts = b } in u)) (sym more))

-- ## Counts

-- what isn't some is none
no-item : {X : Type 0} (o : Option X) → is_some o ≡ false → is_none o ≡ true
no-item None none = refl
no-item (Some x) none = absurd (cc)

-- where none passes a test, no item does
none-passes : {X : Type 0} (test : X → Bool) (xs : List X) (i : ℕ) (x : X) → count_by test xs ≡ 0 → slice_get xs i ≡ Some x → test x ≡ false
none-passes test xs i x none at = none_by test xs i x (test x) none at refl
  where
    none_by : {X : Type 0} (test : X → Bool) (xs : List X) (i : ℕ) (x : X) (passes : Bool) → count_by test xs ≡ 0 → slice_get xs i ≡ Some x
        → test x ≡ passes → passes ≡ false
    none_by test xs i x false none at is = refl
    none_by test [] i x true none at is = absurd (cc)
    none_by {X} test (y ∷ xs) zero x true none at is =
        let e : y ≡ x = cc in
        let one = weight-true (test y) (ap test e ∙ is) in
        absurd (omega (arith, none, one, sum_by-cons (λ (z : X). cond (test z) 1 0) y xs))
    none_by {X} test (y ∷ xs) (suc i) x true none at is =
        none_by test xs i x true (omega (arith, none, sum_by-cons (λ (z : X). cond (test z) 1 0) y xs)) at is

-- ## The item of a live row

module _ {T : Type 0} where
  -- a slot with this item in a life, one that was never used in it, and one whose item was taken
  abbrev taken_by : ConnName → T → Slot T
  taken_by name x = record { life = name.life; item = Some x }

  abbrev unused_by : ConnName → Slot T
  unused_by name = record { life = name.life; item = None }

  abbrev emptied_by : ConnName → Slot T
  emptied_by name = record { life = name.life + 1; item = None }

  -- the first is taken
  taken-use : (name : ConnName) (x : T) → nat_lt name.life most_lives ≡ true → use_of_slot (taken_by name x) ≡ taken_in name.life
  taken-use name x lasts = ap (λ (b : Bool). (let u : SlotUse = record { life = name.life; taken = true; lasts = b } in u)) lasts

  -- a slot that is taken in a life has an item in it
  taken_item : (name : ConnName) (s : Slot T) (o : Option T) → s.item ≡ o → use_of_slot s ≡ taken_in name.life
      → (x : T) × (item_in name.life s ≡ Some x)
  taken_item name s None none used =
      let never : is_some s.item ≡ true = ap (λ (u : SlotUse). u.taken) used in
      let not : is_some s.item ≡ false = ap is_some none in
      absurd (cc (never, not))
  taken_item name s (Some x) some used =
      let life : s.life ≡ name.life = ap (λ (u : SlotUse). u.life) used in
      (x, rw (eq-eqb s.life name.life life) some)

  -- the slot of a live row
  pub record IsTakenSlot (slots : List (Slot T)) (name : ConnName) : Type 0 where
    pub slot : Slot T
    pub at : slice_get slots name.slot ≡ Some slot
    pub used : use_of_slot slot ≡ taken_in name.life

  -- a live row has its slot
  taken_slot : (slots : List (Slot T)) (rows : List Row) (name : ConnName) (test : Row → Bool) → AreUsedAlike slots rows → LivesAs rows name test
      → IsTakenSlot slots name
  taken_slot slots rows name test alike lives =
      let r = lives.row in
      let here = alike-at use_of_slot use_of_row slots rows name.slot r alike lives.at in
      record {
        slot = here.0;
        at = here.1;
        used = here.2 ∙ live-use r.place r.life lives.live ∙ ap taken_in lives.life;
      }

  -- the name of a live row has an item
  pub live-item : (slots : List (Slot T)) (rows : List Row) (name : ConnName) (test : Row → Bool) → AreUsedAlike slots rows
      → lives_and test rows name ≡ true → HasItem slots name
  live-item slots rows name test alike lives =
      let here = taken_slot slots rows name test alike (lives_as rows name test lives) in
      let item = taken_item name here.slot here.slot.item refl here.used in
      let found : item_of slots name ≡ Some item.0 = ap (option_and_then (item_in name.life)) here.at ∙ item.1 in
      ap is_some found

  -- so has that of a connection that may be closed
  pub close-live : (s : State) (slots : List (Slot T)) (name : ConnName) (why : Cause) (how : Tail) → is_allowed s (event.Close name why how) ≡ true
      → AreUsedAlike slots s.rows → HasItem slots name
  close-live s slots name why how may alike =
      live-item slots s.rows name (λ (r : Row). (is_held r.place || is_working r.place) && end_fits s why how r) alike may

  -- ## The slots, while one changes

  -- a slot is used as before where another item is written under a live name
  pub written-used : (slots : List (Slot T)) (rows : List Row) (name : ConnName) (x : T) (test : Row → Bool) → AreUsedAlike slots rows
      → lives_and test rows name ≡ true → AreUsedAlike (with_item slots name x) rows
  written-used slots rows name x test alike lives =
      let here = taken_slot slots rows name test alike (lives_as rows name test lives) in
      let life : here.slot.life ≡ name.life = ap (λ (u : SlotUse). u.life) here.used in
      let lasts : nat_lt here.slot.life most_lives ≡ true = ap (λ (u : SlotUse). u.lasts) here.used in
      let lasts' : nat_lt name.life most_lives ≡ true = ap (λ (n : ℕ). nat_lt n most_lives) (sym life) ∙ lasts in
      let same : use_of_slot (taken_by name x) ≡ use_of_slot here.slot = taken-use name x lasts' ∙ sym here.used in
      map-set use_of_slot slots name.slot (taken_by name x)
      ∙ ap (λ (u : SlotUse). set (map use_of_slot slots) name.slot u) same
      ∙ map-same use_of_slot slots name.slot here.slot here.at
      ∙ alike

  -- a connection is taken into the next slot
  pub accept-used : (s : State) (slots : List (Slot T)) (name : ConnName) (x : T) → is_allowed s (event.Accept name.slot) ≡ true
      → AreUsedAlike slots s.rows → IsNextName slots name → AreUsedAlike (with_item slots name x) (next s (event.Accept name.slot)).rows
  accept-used s slots name x may alike unused =
      let both = and_parts (is_serving s.going && is_vacant_at s name.slot) (is_some (pick_child s)) may in
      let vacant : is_vacant_at s name.slot ≡ true = (and_parts (is_serving s.going) (is_vacant_at s name.slot) both.0).1 in
      let found = row_at (λ (r : Row). is_vacant r.place) (slice_get s.rows name.slot) vacant in
      let r = found.0 in
      let here = alike-at use_of_slot use_of_row slots s.rows name.slot r alike found.1 in
      let slot_is : here.0 ≡ unused_by name = same_Some here.0 (unused_by name) (sym here.1 ∙ unused) in
      let used : use_of_slot (unused_by name) ≡ use_at Vacant r.life = ap use_of_slot (sym slot_is) ∙ here.2 ∙ vacant-use r.place r.life found.2 in
      let life : name.life ≡ r.life = ap (λ (u : SlotUse). u.life) used in
      let lasts : nat_lt name.life most_lives ≡ true = ap (λ (u : SlotUse). u.lasts) used in
      alike-set use_of_slot use_of_row slots s.rows name.slot (taken_by name x) r (taken_row s) alike found.1
      (taken-use name x lasts ∙ ap taken_in life)

  -- a connection ends
  pub close-used : (s : State) (slots : List (Slot T)) (name : ConnName) (why : Cause) (how : Tail) → is_allowed s (event.Close name why how) ≡ true
      → AreUsedAlike slots s.rows → AreUsedAlike (without_item slots name) (next s (event.Close name why how)).rows
  close-used s slots name why how may alike =
      let test : Row → Bool = λ (r : Row). (is_held r.place || is_working r.place) && end_fits s why how r in
      let lives = lives_as s.rows name test may in
      let r = lives.row in
      let here = taken_slot slots s.rows name test alike lives in
      let lasts : nat_lt here.slot.life most_lives ≡ true = ap (λ (u : SlotUse). u.lasts) here.used in
      let life : here.slot.life ≡ name.life = ap (λ (u : SlotUse). u.life) here.used in
      let below : r.life < most_lives = omega (arith, ltb-true here.slot.life most_lives lasts, life, lives.life) in
      alike-set use_of_slot use_of_row slots s.rows name.slot (emptied_by name) r closed_row alike lives.at
      (ap (λ (n : ℕ). ended_use n) (sym lives.life) ∙ sym (closed-use r (r.life == greatest_life) refl below))

  -- what putting an item into the next slot leaves of them
  pub put-slots : (old : SeenSlots T) (slots' : List (Slot T)) (name : ConnName) (x : T) (o : Result ConnName T) → next_name old ≡ Some name
      → vacant_count old.slots ≢ 0 → (IsErr o → vacant_count old.slots ≡ 0) → IfOk o (λ n. next_name old ≡ Some n)
      → IfOk o (λ n. slots' ≡ with_item old.slots n x) → slots' ≡ with_item old.slots name x
  put-slots old slots' name x (Ok n) next vacant full given stored =
      let same : n ≡ name = same_Some n name (sym given ∙ next) in
      stored ∙ ap (λ (m : ConnName). with_item old.slots m x) same
  put-slots old slots' name x (Err back) next vacant full given stored = absurd (vacant (full refl))

  -- what taking the item of a live name leaves of the slots
  pub left-slots : (slots slots' : List (Slot T)) (name : ConnName) (o : Option T) → HasItem slots name → o ≡ item_of slots name
      → OnSome o (slots' ≡ without_item slots name) → slots' ≡ without_item slots name
  left-slots slots slots' name None live is left =
      let never : is_some {T = T} None ≡ true = ap is_some is ∙ live in
      absurd (cc)
  left-slots slots slots' name (Some x) live is left = left

  -- ## Vacant slots

  -- the slot of the next name is vacant
  pub next-vacant : (s : State) (slots : List (Slot T)) (name : ConnName) → AreUsedAlike slots s.rows → IsNextName slots name
      → name.life < most_lives → is_vacant_at s name.slot ≡ true
  next-vacant s slots name alike unused below =
      let here = alike-at use_of_row use_of_slot s.rows slots name.slot (unused_by name) (sym alike) unused in
      let lasts : nat_lt name.life most_lives ≡ true = lt-ltb name.life most_lives below in
      rw here.1 (unused-vacant here.0.place here.0.life (use_of_slot (unused_by name)) here.2 refl lasts)

  -- a slot without a vacant row
  none_vacant-by : (s : State) (slots : List (Slot T)) (slot : ℕ) (o : Option Row) (vacant : Bool) → AreUsedAlike slots s.rows → vacant_count slots ≡ 0
      → slice_get s.rows slot ≡ o → is_vacant_at s slot ≡ vacant → vacant ≡ false
  none_vacant-by s slots slot o false alike none at is = refl
  none_vacant-by s slots slot None true alike none at is =
      let never : false ≡ true = rw at at is in
      absurd (cc)
  none_vacant-by s slots slot (Some r) true alike none at is =
      let vacant : is_vacant r.place ≡ true = rw at at is in
      let here = alike-at use_of_slot use_of_row slots s.rows slot r alike at in
      let used : use_of_slot here.0 ≡ use_at Vacant r.life = here.2 ∙ vacant-use r.place r.life vacant in
      let taken : is_some here.0.item ≡ false = ap (λ (u : SlotUse). u.taken) used in
      let lasts : nat_lt here.0.life most_lives ≡ true = ap (λ (u : SlotUse). u.lasts) used in
      let one : is_vacant_slot here.0 ≡ true = and_from (is_none here.0.item) (nat_lt here.0.life most_lives) (no-item here.0.item taken) lasts in
      let other : is_vacant_slot here.0 ≡ false = none-passes is_vacant_slot slots slot here.0 none here.1 in
      absurd (cc (one, other))

  -- where none of the slots is vacant no row is
  pub none-vacant : (s : State) (slots : List (Slot T)) → AreUsedAlike slots s.rows → vacant_count slots ≡ 0 → (slot : ℕ) → is_vacant_at s slot ≡ false
  none-vacant s slots alike none slot = none_vacant-by s slots slot (slice_get s.rows slot) (is_vacant_at s slot) alike none refl refl

-- at first no slot was used
pub first-used : (T : Type 0) (n : ℕ) → AreUsedAlike (unused_slot {T = T} n) (replicate n unused_row)
first-used T zero = refl
first-used T (suc n) = ap (λ (us : List SlotUse). use_of_row unused_row ∷ us) (first-used T n)

-- ## The connections of the slots

-- the connections, once the slot of a name has this item
pub conns-with : (slots : List (Slot (Option SeenConn))) (name : ConnName) (c : Option SeenConn)
    → conns_in (with_item slots name c) ≡ set (conns_in slots) name.slot c
conns-with slots name c = map-set conn_in slots name.slot (record { life = name.life; item = Some c })

-- they are as before, once a slot without one is taken
pub conns-put : (slots : List (Slot (Option SeenConn))) (name : ConnName) → IsNextName slots name → conns_in (with_item slots name None) ≡ conns_in slots
conns-put slots name unused =
    conns-with slots name None ∙ map-same conn_in slots name.slot (record { life = name.life; item = None }) unused

-- and once one is left that had none
pub conns-left : (slots : List (Slot (Option SeenConn))) (name : ConnName) → conn_at (conns_in slots) name.slot ≡ None
    → conns_in (without_item slots name) ≡ conns_in slots
conns-left slots name none =
    map-set conn_in slots name.slot (record { life = name.life + 1; item = None })
    ∙ ap (λ (c : Option SeenConn). set (conns_in slots) name.slot c) (sym none)
    ∙ set-get_or (conns_in slots) name.slot None

-- the connection of a slot
conn-of-slot : (slots : List (Slot (Option SeenConn))) (i : ℕ) (s : Slot (Option SeenConn)) → slice_get slots i ≡ Some s
    → conn_at (conns_in slots) i ≡ conn_in s
conn-of-slot slots i s at = get_or_from_slice_get (conns_in slots) i (conn_in s) None (get-map conn_in slots i s at)

-- the item of a slot in its life
item-of-slot : (name : ConnName) (s : Slot (Option SeenConn)) (c : Option SeenConn) (same : Bool) → (s.life == name.life) ≡ same
    → item_in name.life s ≡ Some c → conn_in s ≡ c
item-of-slot name s c true is item =
    let has : s.item ≡ Some c = rw is at item in
    ap conn_of_item has
item-of-slot name s c false is item =
    let never : None ≡ Some c = rw is at item in
    absurd (none-some c never)

-- the connection of a live name's slot, by what is there
item-of-found : (slots : List (Slot (Option SeenConn))) (name : ConnName) (c : Option SeenConn) (o : Option (Slot (Option SeenConn)))
    → slice_get slots name.slot ≡ o → item_of slots name ≡ Some c → conn_at (conns_in slots) name.slot ≡ c
item-of-found slots name c None at item =
    let never : None ≡ Some c = rw at at item in
    absurd (none-some c never)
item-of-found slots name c (Some s) at item =
    let here : item_in name.life s ≡ Some c = rw at at item in
    conn-of-slot slots name.slot s at ∙ item-of-slot name s c (s.life == name.life) refl here

-- the connection of a live name's slot is its item
pub conn-of-item : (slots : List (Slot (Option SeenConn))) (name : ConnName) (c : Option SeenConn) → item_of slots name ≡ Some c
    → conn_at (conns_in slots) name.slot ≡ c
conn-of-item slots name c item = item-of-found slots name c (slice_get slots name.slot) refl item

-- at first there are none
pub conns-first : (n : ℕ) → conns_in (unused_slot n) ≡ replicate n None
conns-first zero = refl
conns-first (suc n) = ap (λ (cs : List (Option SeenConn)). None ∷ cs) (conns-first n)
