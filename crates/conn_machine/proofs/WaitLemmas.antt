-- A row that goes to wait, to the listener or to the workers, and one that goes to linger, is fair.
use Rattle.std.proofs.Common.{◌≡◌, ◌⊎◌, ◌==◌, ℕ, ◌+◌, ◌<◌, ◌≤◌, Bool, true, false, not, ◌&&◌, ◌||◌, nat_lt, nat_le, min, if◌then◌else◌, Option, None, Some, is_none, refl, sym, subst, ◌∙◌, inl, inr, arith}
use Rattle.std.proofs.Math.Nat.{min-le_left, min-le_right}
use Rattle.std.proofs.lemmas.Bool.{and_parts, or_cases, not-true, ltb-true, eqb-true}
use Rattle.mpm_base.specs.declared.conn.Kind.{Kind}
use Rattle.mpm_base.specs.declared.conn.Kind.TheVariants.{Reading, KeepAlive, Writing, Linger, ShortLinger}
use Rattle.mpm_base.specs.declared.conn.Cause.{Cause}
use Rattle.conn_machine.specs.declared.row.Row.{Row}
use Rattle.conn_machine.specs.declared.state.State.{State}
use Rattle.conn_machine.specs.Rows.{is_live, is_held, is_parked, is_working, is_from, is_lingering, is_linger_kind, has_note, carried_count}
use Rattle.conn_machine.specs.Children.{child_at, is_stopping}
use Rattle.conn_machine.specs.States.{child_of, is_halted, later}
use Rattle.mpm_base.specs.Moment.{greatest_moment}
use Rattle.mpm_base.specs.declared.shape.Shape.{Shape}
use Rattle.conn_machine.specs.Table.{began_at, may_wait, read_until, wait_until, linger_ms, parked_row, may_be_held, held_row, may_be_queued, queued_row, lingering_row}
use Rattle.conn_machine.specs.Sound.{KindFits, RequestFits, KnowsItsKind, IsInService, ExpectsMore, ExpectedMore, is_from_linger}
use Rattle.conn_machine.proofs.FairLemmas.{IsFair}
use Rattle.conn_machine.proofs.RowLemmas.{IsSoundRow, IsParkedFor, parked_for, served_by, held_kind, held_well, in_service, never, still_open}

-- ## What a waiting row says

-- a row that waits and doesn't linger waited for what leads to service
service_kind : (kind : Kind) (r : Row) → KnowsItsKind kind r → is_lingering r ≡ false → IsInService r
service_kind Reading r waits stays = record { stays = stays; from = rw waits.own refl }
service_kind KeepAlive r waits stays = record { stays = stays; from = rw waits.own refl }
service_kind Writing r waits stays = record { stays = stays; from = rw waits.own refl }
service_kind Linger r waits stays = absurd (cc)
service_kind ShortLinger r waits stays = absurd (cc)

-- what it waited for is a kind of lingering where the kind is
linger_kind_is : (kind : Kind) (r : Row) → r.from ≡ Some kind → is_from_linger r ≡ is_linger_kind kind
linger_kind_is Reading r own = rw own refl
linger_kind_is KeepAlive r own = rw own refl
linger_kind_is Writing r own = rw own refl
linger_kind_is Linger r own = rw own refl
linger_kind_is ShortLinger r own = rw own refl

-- a row with the same responses as another expects what that one expects
same_expected : (kind : Kind) (r r' : Row) → r'.last ≡ r.last → r'.notes ≡ r.notes → ExpectsMore kind r → ExpectsMore kind r'
same_expected Reading r r' last notes more = last ∙ more
same_expected KeepAlive r r' last notes more = record { undecided = last ∙ more.undecided; noted = rw notes more.noted }
same_expected Writing r r' last notes more = tt
same_expected Linger r r' last notes more = tt
same_expected ShortLinger r r' last notes more = tt

-- what a waiting row waits for
waits_for : (s : State) (r : Row) (p : IsParkedFor r.place) → IsSoundRow s r → KnowsItsKind p.kind r
waits_for s r p sound = subst (λ place. KindFits place r) p.place sound.kind

-- and what it expects
expects : (s : State) (r : Row) (p : IsParkedFor r.place) → IsSoundRow s r → ExpectsMore p.kind r
expects s r p sound = subst (λ place. RequestFits place r) p.place sound.request

-- ## Queue

-- a row of the child is of that number
own_child : (r : Row) (k : ℕ) → (r.child == k && true) ≡ true → r.child ≡ k
own_child r k is = eqb-true r.child k (and_parts (r.child == k) true is).0

-- what a row that may be queued has
queue_parts : (s : State) (r : Row) → may_be_queued s r ≡ true
    → (is_parked r.place ≡ true) × (is_lingering r ≡ false) × (carried_count s.rows r.child < (child_of s r).shape.threads)
queue_parts s r may =
    let room = and_parts (is_parked r.place && not (is_lingering r)) (nat_lt (carried_count s.rows r.child) (child_of s r).shape.threads) may in
    let stays = and_parts (is_parked r.place) (not (is_lingering r)) room.0 in
    (stays.0, not-true (is_lingering r) stays.1, ltb-true (carried_count s.rows r.child) (child_of s r).shape.threads room.1)

-- a queued row is fair
pub fair-queue : (s : State) (r : Row) → IsSoundRow s r → is_live r ≡ true → may_be_queued s r ≡ true → IsFair s r (queued_row r)
fair-queue s r sound live may =
    let parts = queue_parts s r may in
    let parked = parked_for r.place parts.0 in
    let waits = waits_for s r parked sound in
    let service = service_kind parked.kind r waits parts.1 in
    let more = same_expected parked.kind r (queued_row r) refl refl (expects s r parked sound) in
    record {
      carried = λ k is. inr (subst (λ j. carried_count s.rows j < (child_at s.children j).shape.threads) (own_child r k is) parts.2);
      admitted = λ k is. inl (still_open (r.child == k) (is_live r) (not (is_lingering r)) live is);
      cell = λ k c is. absurd (never (r.child == k) is);
      owner = λ _. record { exists = sound.owner.exists; there = sound.owner.there; generation = sound.owner.generation };
      below = λ _. tt;
      kind = λ _. record { stays = service.stays; from = service.from };
      request = λ _. subst (λ o. ExpectedMore o (queued_row r)) (sym waits.own) (λ _. more);
      notes = λ _. record { fewer = sound.notes.fewer; few = sound.notes.few; last = sound.notes.last };
      deadline = sound.deadline;
    }

-- ## Hold

-- a row that may be held waits
hold_place : (s : State) (signalled : Bool) (r : Row) → may_be_held s signalled r ≡ true → is_parked r.place ≡ true
hold_place s signalled r may =
    (and_parts (is_parked r.place)
    (nat_le r.deadline s.moment
    || (is_from KeepAlive r && is_stopping (child_of s r).phase && not signalled)
    || (is_lingering r && signalled)
    || is_halted s.going) may).0

-- a held row is fair
pub fair-hold : (s : State) (signalled : Bool) (r : Row) → IsSoundRow s r → is_live r ≡ true → may_be_held s signalled r ≡ true
    → IsFair s r (held_row r)
fair-hold s signalled r sound live may =
    let parked = parked_for r.place (hold_place s signalled r may) in
    let waits = waits_for s r parked sound in
    let more = same_expected parked.kind r (held_row r) refl refl (expects s r parked sound) in
    record {
      carried = λ k is. absurd (never (r.child == k) is);
      admitted = λ k is. inl (still_open (r.child == k) (is_live r) (not (is_lingering r)) live is);
      cell = λ k c is. absurd (never (r.child == k) is);
      owner = λ _. record { exists = sound.owner.exists; there = sound.owner.there; generation = sound.owner.generation };
      below = λ _. tt;
      kind = λ _. linger_kind_is parked.kind r waits.own ∙ waits.lingers;
      request = λ _. record {
        new = λ none. absurd (cc (none, waits.own));
        expected = subst (λ o. ExpectedMore o (held_row r)) (sym waits.own) (λ _. more);
      };
      notes = λ _. record { fewer = sound.notes.fewer; few = sound.notes.few; last = sound.notes.last };
      deadline = sound.deadline;
    }

-- ## Park

-- what isn't there is None
none_is : (o : Option Kind) → is_none o ≡ true → o ≡ None
none_is None is = refl
none_is (Some kind) is = absurd (cc)

-- the row goes on: it doesn't linger, and its last response isn't decided
record Continues (r : Row) : Type 0 where
  pub stays : is_lingering r ≡ false
  pub undecided : r.last ≡ false

-- so does a new one
new_continues : (s : State) (r : Row) → (is_held r.place && is_none r.from) ≡ true → IsSoundRow s r → Continues r
new_continues s r new sound =
    let parts = and_parts (is_held r.place) (is_none r.from) new in
    let none = none_is r.from parts.1 in
    let no_linger : is_from_linger r ≡ false = rw none refl in
    record { stays = sym (held_kind s r parts.0 sound) ∙ no_linger; undecided = (held_well s r parts.0 sound).new none }

-- and one that is served, and whose last response isn't decided
served_continues : (s : State) (r : Row) → (is_working r.place && not r.last) ≡ true → IsSoundRow s r → Continues r
served_continues s r served sound =
    let parts = and_parts (is_working r.place) (not r.last) served in
    record { stays = (in_service s r (served_by r.place parts.0) sound).stays; undecided = not-true r.last parts.1 }

-- a row that may wait for a request goes on
reading_continues : (s : State) (r : Row) → IsSoundRow s r
    → ((is_held r.place && is_none r.from) ≡ true) ⊎ ((is_working r.place && not r.last) ≡ true) → Continues r
reading_continues s r sound (inl new) = new_continues s r new sound
reading_continues s r sound (inr served) = served_continues s r served sound

-- so does one that may wait for a request
may_read : (s : State) (r : Row) → IsSoundRow s r → may_wait s.moment Reading r ≡ true → Continues r
may_read s r sound may =
    reading_continues s r sound (or_cases (is_held r.place && is_none r.from) (is_working r.place && not r.last) may)

-- a row that may wait for a further request goes on
may_keep : (s : State) (r : Row) → IsSoundRow s r → may_wait s.moment KeepAlive r ≡ true → Continues r
may_keep s r sound may = served_continues s r (and_parts (is_working r.place && not r.last) (has_note r) may).0 sound

-- the second of four
lingers_of : (a b c d : Bool) → (a && b && c && d) ≡ true → b ≡ true
lingers_of a true c d all = refl
lingers_of true false c d all = absurd (cc)
lingers_of false false c d all = absurd (cc)

-- the row waits for what it may wait for
pub park_kind : (s : State) (kind : Kind) (r : Row) → IsSoundRow s r → may_wait s.moment kind r ≡ true → KnowsItsKind kind (parked_row s kind r)
park_kind s Reading r sound may = record { own = refl; lingers = sym (may_read s r sound may).stays }
park_kind s KeepAlive r sound may = record { own = refl; lingers = sym (may_keep s r sound may).stays }
park_kind s Writing r sound may = record { own = refl; lingers = sym (in_service s r (served_by r.place may) sound).stays }
park_kind s Linger r sound may = record {
  own = refl;
  lingers = sym (lingers_of (is_held r.place) (is_lingering r) (is_from Linger r) (nat_lt s.moment r.deadline) may);
}
park_kind s ShortLinger r sound may = record {
  own = refl;
  lingers = sym (lingers_of (is_held r.place) (is_lingering r) (is_from ShortLinger r) (nat_lt s.moment r.deadline) may);
}

-- and expects what such a row expects
park_request : (s : State) (kind : Kind) (r : Row) → IsSoundRow s r → may_wait s.moment kind r ≡ true → ExpectsMore kind (parked_row s kind r)
park_request s Reading r sound may = (may_read s r sound may).undecided
park_request s KeepAlive r sound may = record {
  undecided = (may_keep s r sound may).undecided;
  noted = (and_parts (is_working r.place && not r.last) (has_note r) may).1;
}
park_request s Writing r sound may = tt
park_request s Linger r sound may = tt
park_request s ShortLinger r sound may = tt

-- the earlier of two moments is one, where the first is
least_in_range : (whole : Bool) (rest end : ℕ) → rest ≤ greatest_moment → (if whole then rest else min rest end) ≤ greatest_moment
least_in_range true rest end within = within
least_in_range false rest end within = omega (arith, min-le_left rest end, within)

-- the wait for a request is over at a moment
read_in_range : (moment : ℕ) (shape : Shape) (began : ℕ) → read_until moment shape began ≤ greatest_moment
read_in_range moment shape began =
    least_in_range (shape.whole_ms == 0) (later moment shape.read_ms) (later began shape.whole_ms) (min-le_right (moment + shape.read_ms) greatest_moment)

-- a wait is over at a moment
wait_in_range : (s : State) (kind : Kind) (r : Row) → r.deadline ≤ greatest_moment → wait_until s kind r ≤ greatest_moment
wait_in_range s Reading r within = read_in_range s.moment (child_of s r).shape (began_at s.moment r)
wait_in_range s KeepAlive r within = min-le_right (s.moment + (child_of s r).shape.keep_ms) greatest_moment
wait_in_range s Writing r within = min-le_right (s.moment + (child_of s r).shape.read_ms) greatest_moment
wait_in_range s Linger r within = within
wait_in_range s ShortLinger r within = within

-- a parked row is fair
pub fair-park : (s : State) (kind : Kind) (r : Row) → IsSoundRow s r → is_live r ≡ true → may_wait s.moment kind r ≡ true
    → IsFair s r (parked_row s kind r)
fair-park s kind r sound live may = record {
  carried = λ k is. absurd (never (r.child == k) is);
  admitted = λ k is. inl (still_open (r.child == k) (is_live r) (not (is_lingering r)) live is);
  cell = λ k c is. absurd (never (r.child == k) is);
  owner = λ _. record { exists = sound.owner.exists; there = sound.owner.there; generation = sound.owner.generation };
  below = λ _. tt;
  kind = λ _. park_kind s kind r sound may;
  request = λ _. park_request s kind r sound may;
  notes = λ _. record { fewer = sound.notes.fewer; few = sound.notes.few; last = sound.notes.last };
  deadline = wait_in_range s kind r sound.deadline;
}

-- ## Linger

-- it lingers by either kind
lingers_so : (short : Bool) → is_linger_kind (if short then ShortLinger else Linger) ≡ true
lingers_so true = refl
lingers_so false = refl

-- neither kind of lingering expects more
nothing_more : (short : Bool) (r : Row) → ExpectsMore (if short then ShortLinger else Linger) r
nothing_more true r = tt
nothing_more false r = tt

-- a lingering row is fair
pub fair-linger : (s : State) (why : Cause) (r : Row) → IsSoundRow s r → IsFair s r (lingering_row s why r)
fair-linger s why r sound = record {
  carried = λ k is. absurd (never (r.child == k) is);
  admitted = λ k is. absurd (never (r.child == k && true) is);
  cell = λ k c is. absurd (never (r.child == k) is);
  owner = λ _. record { exists = sound.owner.exists; there = sound.owner.there; generation = sound.owner.generation };
  below = λ _. tt;
  kind = λ _. record { own = refl; lingers = lingers_so r.short };
  request = λ _. nothing_more r.short (lingering_row s why r);
  notes = λ _. record { fewer = sound.notes.fewer; few = sound.notes.few; last = sound.notes.last };
  deadline = min-le_right (s.moment + linger_ms r) greatest_moment;
}
