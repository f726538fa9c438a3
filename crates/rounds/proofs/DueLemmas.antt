-- That no connection is served at its deadline: the service of one leaves each other one as it was, and none signalled behind it that waits.
use Rattle.std.proofs.Common.{◌≡◌, ◌≢◌, inl, inr, ◌⊎◌, ℕ, ◌<◌, zero, suc, Bool, true, false, not, ◌&&◌, ◌||◌, List, [], ◌∷◌, ◌++◌, nat_le, nat_lt, None, Some, slice_get, slice_set, slice_index_or, refl, sym, ap, subst, ◌∙◌, arith}
use Rattle.std.proofs.lemmas.Bool.{and_parts, cases_eq}
use Rattle.std.proofs.lemmas.Bool.Decides.{nat_tests}
use Rattle.std.specs.List.{list_any}
use Rattle.mpm_base.specs.declared.conn.Ask.{Ask}
use Rattle.mpm_base.specs.declared.conn.ConnName.{ConnName}
use Rattle.mpm_base.specs.declared.conn.Tail.TheVariants.{Direct}
use Rattle.conn_machine.specs.declared.child.Child.{Child}
use Rattle.conn_machine.specs.declared.event.Event.{Event}
use Rattle.conn_machine.specs.declared.event.Event.TheVariants as event
use Rattle.conn_machine.specs.declared.row.Row.{Row}
use Rattle.conn_machine.specs.declared.state.State.{State}
use Rattle.conn_machine.specs.Children.{is_empty}
use Rattle.conn_machine.specs.Lists.{update}
use Rattle.conn_machine.specs.Rows.{carried_count, is_lingering, is_parked, lives_and}
use Rattle.conn_machine.specs.Runs.{after}
use Rattle.conn_machine.specs.States.{child_of, is_overdue, is_signalled, is_at_its_end, is_staffed}
use Rattle.conn_machine.specs.Table.{lingering_row, may_be_queued, next}
use Rattle.board_book.specs.Book.{SeenBook}
use Rattle.board.specs.Board.{SeenBoard}
use Rattle.board_book.specs.Finds.{FindsRow, is_due}
use Rattle.worker_group.specs.declared.service.Exit.{Exit}
use Rattle.worker_group.specs.declared.service.Exit.TheVariants as exit
use Rattle.worker_group.specs.Acts.{Acts, ActsInSteps}
use Rattle.worker_group.specs.Service.{HasServed, answer_events, given_up_cause, left_events}
use Rattle.rounds.specs.ClosingInside.{state_by}
use Rattle.rounds.specs.PartsInside.{StaysTimely}
use Rattle.rounds.specs.TableInside.{NoneDueLate, NoneOverdue}
use Rattle.rounds.proofs.ClosingLemmas.{GoesOnFrom, acts-state}
use Rattle.rounds.proofs.FoundLemmas.{found-at, lives, passes-found}
use Rattle.rounds.proofs.PassLemmas.{service-acts}
use Rattle.rounds.proofs.TimelyLemmas.{ArePlain, not-at_end, plain-both, plain-children, plain-left, plain-timely, stays-timely}

-- ## Other connections

-- the law of the machine: a changed row leaves each other one
abbrev pub LeavesOthers : Type 0
LeavesOthers = (rows : List Row) (slot other : ℕ) (change : Row → Row) → other ≢ slot → slice_get (update rows slot change) other ≡ slice_get rows other

-- each other slot than this one has the row and the signal that it had, and it is the same moment
pub record KeepsOthers (slot : ℕ) (a b : State) : Type 0 where
  pub rows : (other : ℕ) → other ≢ slot → slice_get b.rows other ≡ slice_get a.rows other
  pub signals : (other : ℕ) → other ≢ slot → is_signalled b other ≡ is_signalled a other
  pub moment : b.moment ≡ a.moment

others-same : (slot : ℕ) (a : State) → KeepsOthers slot a a
others-same slot a = record { rows = λ other apart. refl; signals = λ other apart. refl; moment = refl }

pub others-more : (slot : ℕ) (a b c : State) → KeepsOthers slot a b → KeepsOthers slot b c → KeepsOthers slot a c
others-more slot a b c first second = record {
  rows = λ other apart. second.rows other apart ∙ first.rows other apart;
  signals = λ other apart. second.signals other apart ∙ first.signals other apart;
  moment = second.moment ∙ first.moment;
}

pub set-other : (signals : List Bool) (slot other : ℕ) (b : Bool) → other ≢ slot → slice_index_or (slice_set signals slot b) other false ≡ slice_index_or signals other false
set-other [] slot other b apart = refl
set-other (x ∷ signals) zero zero b apart = absurd (apart refl)
set-other (x ∷ signals) zero (suc other) b apart = refl
set-other (x ∷ signals) (suc slot) zero b apart = refl
set-other (x ∷ signals) (suc slot) (suc other) b apart = set-other signals slot other b (λ same. apart (ap (λ (n : ℕ). suc n) same))

pub set-false : (signals : List Bool) (slot : ℕ) → slice_index_or (slice_set signals slot false) slot false ≡ false
set-false [] slot = refl
set-false (x ∷ signals) zero = refl
set-false (x ∷ signals) (suc slot) = set-false signals slot

module _ (law : LeavesOthers) (s : State) (name : ConnName) where
  others-queue : KeepsOthers name.slot s (next s (event.Queue name))
  others-queue = record {
    rows = λ other apart. law s.rows name.slot other _ apart;
    signals = λ other apart. set-other s.signals name.slot other false apart;
    moment = refl;
  }

  others-start : KeepsOthers name.slot s (next s (event.Start name))
  others-start = record { rows = λ other apart. law s.rows name.slot other _ apart; signals = λ other apart. refl; moment = refl }

  others-answer : (ask : Ask) → KeepsOthers name.slot s (next s (event.Answer name ask))
  others-answer ask = record { rows = λ other apart. law s.rows name.slot other _ apart; signals = λ other apart. refl; moment = refl }

  others-park : (kind : _) → KeepsOthers name.slot s (next s (event.Park name kind))
  others-park kind = record { rows = λ other apart. law s.rows name.slot other _ apart; signals = λ other apart. refl; moment = refl }

  others-linger : (why : _) → KeepsOthers name.slot s (next s (event.Linger name why))
  others-linger why = record {
    rows = λ other apart. law s.rows name.slot other _ apart;
    signals = λ other apart. set-other s.signals name.slot other true apart;
    moment = refl;
  }

  others-close : (why : _) (how : _) → KeepsOthers name.slot s (next s (event.Close name why how))
  others-close why how = record {
    rows = λ other apart. law s.rows name.slot other _ apart;
    signals = λ other apart. set-other s.signals name.slot other false apart;
    moment = refl;
  }

-- ## The connection that was served

-- its slot isn't signalled, or its connection lingers
abbrev pub IsLeftQuiet : ℕ → State → Type 0
IsLeftQuiet slot s = (is_signalled s slot ≡ false) ⊎ ((r : Row) → slice_get s.rows slot ≡ Some r → is_lingering r ≡ true)

-- the responses leave it so
answered-others : LeavesOthers → (s : State) (name : ConnName) (asks : List Ask) → KeepsOthers name.slot s (state_by s (answer_events name asks))
answered-others law s name [] = others-same name.slot s
answered-others law s name (ask ∷ asks) =
    others-more name.slot s (next s (event.Answer name ask)) (state_by (next s (event.Answer name ask)) (answer_events name asks))
    (others-answer law s name ask) (answered-others law (next s (event.Answer name ask)) name asks)

answered-signals : (s : State) (name : ConnName) (asks : List Ask) → (state_by s (answer_events name asks)).signals ≡ s.signals
answered-signals s name [] = refl
answered-signals s name (ask ∷ asks) = answered-signals (next s (event.Answer name ask)) name asks

-- the law of the machine: a changed row stands where it stood
abbrev pub StandsThere : Type 0
StandsThere = (rows : List Row) (slot : ℕ) (r : Row) (change : Row → Row) → slice_get rows slot ≡ Some r → slice_get (update rows slot change) slot ≡ Some (change r)

changed-by : (rows : List Row) (slot : ℕ) (change : Row → Row) (r : Row) → slice_get (update rows slot change) slot ≡ Some r → (was : Row) × (r ≡ change was)
changed-by [] slot change r at = absurd (cc at)
changed-by (x ∷ rows) zero change r at = let same : change x ≡ r = cc at in (x, sym same)
changed-by (x ∷ rows) (suc slot) change r at = changed-by rows slot change r at

-- how it is left
pub left-others : LeavesOthers → (s : State) (name : ConnName) (way : Exit) → KeepsOthers name.slot s (state_by s (left_events way name))
left-others law s name (exit.Park kind) = others-park law s name kind
left-others law s name (exit.Linger why) = others-linger law s name why
left-others law s name (exit.Close why how) = others-close law s name why how
left-others law s name (exit.GiveUp fault) = others-close law s name (given_up_cause fault) Direct

pub left-quiet : (s : State) (name : ConnName) (way : Exit) → is_signalled s name.slot ≡ false → IsLeftQuiet name.slot (state_by s (left_events way name))
left-quiet s name (exit.Park kind) none = inl none
left-quiet s name (exit.Linger why) none =
    inr (λ r at.
    let was = changed-by s.rows name.slot (lingering_row s why) r at in
    ap is_lingering was.1)
left-quiet s name (exit.Close why how) none = inl (set-false s.signals name.slot)
left-quiet s name (exit.GiveUp fault) none = inl (set-false s.signals name.slot)

-- ## A service

-- what a service of the connection of that name leaves
pub record LeavesQuiet (name : ConnName) (a b : State) : Type 0 where
  pub others : KeepsOthers name.slot a b
  pub quiet : IsLeftQuiet name.slot b

state-both : (s : State) (es fs : List Event) → state_by s (es ++ fs) ≡ state_by (state_by s es) fs
state-both s [] fs = refl
state-both s (e ∷ es) fs = state-both (next s e) es fs

service-quiet : LeavesOthers → (s : State) (name : ConnName) (asks : List Ask) (way : Exit)
    → LeavesQuiet name s (state_by s (event.Queue name ∷ (event.Start name ∷ answer_events name asks) ++ left_events way name))
service-quiet law s name asks way =
    let queued = next s (event.Queue name) in
    let started = next queued (event.Start name) in
    let answered = state_by started (answer_events name asks) in
    let none : is_signalled answered name.slot ≡ false =
    ap (λ (signals : List Bool). slice_index_or signals name.slot false) (answered-signals started name asks) ∙ set-false s.signals name.slot in
    let whole : LeavesQuiet name s (state_by answered (left_events way name)) =
    record {
      others =
          others-more name.slot s answered (state_by answered (left_events way name))
          (others-more name.slot s started answered
          (others-more name.slot s queued started (others-queue law s name) (others-start law queued name)) (answered-others law started name asks))
          (left-others law answered name way);
      quiet = left-quiet answered name way none;
    } in
    subst (LeavesQuiet name s) (sym (state-both started (answer_events name asks) (left_events way name))) whole

-- so no other connection is due late that wasn't
pub due-by : (name : ConnName) (a b : State) → LeavesQuiet name a b → NoneDueLate a → NoneDueLate b
due-by name a b leaves soon slot r at signalled parked serves =
    elim (cases_eq slot name.slot) [
      | inl same ↦
          elim leaves.quiet [
            | inl none ↦ absurd (cc (signalled, ap (is_signalled b) same ∙ none))
            | inr lingers ↦ absurd (cc (lingers r (ap (slice_get b.rows) (sym same) ∙ at), serves))
          ]
      | inr apart ↦
          let was = soon slot r (sym (leaves.others.rows slot apart) ∙ at) (sym (leaves.others.signals slot apart) ∙ signalled) parked serves in
          subst (λ (m : ℕ). m < r.deadline) (sym leaves.others.moment) was
    ]

plain-answers : (name : ConnName) (asks : List Ask) → ArePlain (answer_events name asks)
plain-answers name [] = tt
plain-answers name (ask ∷ asks) = (refl, plain-answers name asks)

plain-service : (name : ConnName) (asks : List Ask) (way : Exit) → ArePlain ((event.Start name ∷ answer_events name asks) ++ left_events way name)
plain-service name asks way = (refl, plain-both (answer_events name asks) (left_events way name) (plain-answers name asks) (plain-left way name))

-- the connection was due
due-found : (s : State) (name : ConnName) → FindsRow (is_due s) s (Some name) → NoneDueLate s → lives_and (λ (r : Row). nat_lt s.moment r.deadline) s.rows name ≡ true
due-found s name found soon =
    let live = lives (is_due s name.slot) s.rows name found in
    let parts = and_parts (is_signalled s name.slot) (may_be_queued s live.row) live.passes in
    let free = nat_lt (carried_count s.rows live.row.child) (child_of s live.row).shape.threads in
    let waits = and_parts (is_parked live.row.place && not (is_lingering live.row)) free parts.1 in
    let serves = and_parts (is_parked live.row.place) (not (is_lingering live.row)) waits.0 in
    let later : s.moment < live.row.deadline =
    soon name.slot live.row (found-at s.rows name live.row live.found) parts.0 serves.0 (not-set (is_lingering live.row) serves.1) in
    passes-found (λ (r : Row). nat_lt s.moment r.deadline) s.rows name live.row live.found (grind (arith, nat_tests))
  where
    not-set : (b : Bool) → not b ≡ true → b ≡ false
    not-set true at = absurd (cc at)
    not-set false at = refl

-- what the service of a connection that was due leaves
pub record ServesInTime (a b : SeenBook) : Type 0 where
  pub timely : StaysTimely a b
  pub soon : NoneDueLate b.state
  pub staffed : is_staffed b.state ≡ true

pub serves-in_time : GoesOnFrom → ActsInSteps → LeavesOthers → (who : ℕ) (name : ConnName) (a b : SeenBoard) → HasServed who name a b
    → after a.book.base a.book.history ≡ a.book.state → after b.book.base b.book.history ≡ b.book.state → FindsRow (is_due a.book.state) a.book.state (Some name)
    → NoneDueLate a.book.state → is_staffed a.book.state ≡ true → ServesInTime a.book b.book
serves-in_time joins steps law who name a b served here there found soon staffed =
    let s = a.book.state in
    let rest : List Event = (event.Start name ∷ answer_events name served.asks) ++ left_events served.left.way name in
    let es : List Event = event.Queue name ∷ rest in
    let acts : Acts who es None a.book b.book =
    subst (λ (n : ConnName). Acts who (event.Queue name ∷ (event.Start name ∷ answer_events name served.asks) ++ left_events served.left.way n) None a.book b.book)
    served.named (service-acts steps who name a b served) in
    let state = acts-state joins who es None a.book b.book here there acts in
    let plain = plain-service name served.asks served.left.way in
    let before : is_at_its_end s ≡ false = not-at_end s staffed in
    record {
      timely =
          stays-timely who es None a.book b.book acts here (
            record { asked = due-found s name found soon; within = λ over. refl; before = before },
            plain-timely (next s (event.Queue name)) rest plain before,
          );
      soon = subst NoneDueLate (sym state) (due-by name s (state_by s es) (service-quiet law s name served.asks served.left.way) soon);
      staffed =
          ap is_staffed state
          ∙ ap (list_any (λ (c : Child). not (is_empty c.phase))) (plain-children (next s (event.Queue name)) rest plain) ∙ staffed;
    }

-- ## Where none is late

none-rows : (moment : ℕ) (rows : List Row) (slot : ℕ) (r : Row) → list_any (is_overdue moment) rows ≡ false → slice_get rows slot ≡ Some r → is_overdue moment r ≡ false
none-rows moment [] slot r none at = absurd (cc at)
none-rows moment (x ∷ rows) zero r none at =
    let same : x ≡ r = cc at in
    ap (is_overdue moment) (sym same) ∙ first-of (is_overdue moment x) (list_any (is_overdue moment) rows) none
  where
    first-of : (a b : Bool) → (a || b) ≡ false → a ≡ false
    first-of true b none = absurd (cc none)
    first-of false b none = refl
none-rows moment (x ∷ rows) (suc slot) r none at =
    none-rows moment rows slot r (rest-of (is_overdue moment x) (list_any (is_overdue moment) rows) none) at
  where
    rest-of : (a b : Bool) → (a || b) ≡ false → b ≡ false
    rest-of true b none = absurd (cc none)
    rest-of false b none = none

deadline-later : (moment : ℕ) (r : Row) → is_parked r.place ≡ true → is_overdue moment r ≡ false → moment < r.deadline
deadline-later moment r parked none = by (nat_le r.deadline moment) refl where
  by : (late : Bool) → nat_le r.deadline moment ≡ late → moment < r.deadline
  by true late = absurd (cc (rw (parked, late) at none))
  by false late = grind (arith, nat_tests)

-- none is due late
pub soon-none : (s : State) → NoneOverdue s → NoneDueLate s
soon-none s none slot r at signalled parked serves = deadline-later s.moment r parked (none-rows s.moment s.rows slot r none at)
