-- A row whose worker begins to serve it or decides a response, and one whose connection is closed, is fair.
use Rattle.std.proofs.Common.{◌≡◌, ◌==◌, ℕ, ◌+◌, ◌<◌, ◌≤◌, Bool, true, false, not, ◌&&◌, ◌||◌, if◌then◌else◌, List, [], ◌∷◌, ◌++◌, length, count_by, None, Some, slice_get, refl, sym, ap, subst, inl, inr, length-append, arith}
use Rattle.std.proofs.lemmas.Bool.{and_parts, and_from, or_parts, not-true, eqb-true, eqb-false, eq-eqb}
use Rattle.std.proofs.lemmas.List.Sums.{fold-append}
use Rattle.mpm_base.specs.declared.conn.Ask.{Ask}
use Rattle.mpm_base.specs.declared.note.Note.{Note}
use Rattle.conn_machine.specs.declared.row.Place.{Place}
use Rattle.conn_machine.specs.declared.row.Place.TheVariants.{Vacant, Spent, Working}
use Rattle.conn_machine.specs.declared.row.Row.{Row}
use Rattle.conn_machine.specs.declared.state.State.{State}
use Rattle.conn_machine.specs.Rows.{is_live, is_queued, is_working, in_phase, is_lingering, is_served_in}
use Rattle.conn_machine.specs.Children.{is_running}
use Rattle.conn_machine.specs.States.{child_of}
use Rattle.mpm_base.specs.Moment.{greatest_moment}
use Rattle.conn_machine.specs.Table.{cell_for, served_row, is_last_for, phase_after, note_for, answered_row}
use Rattle.conn_machine.specs.Sound.{CellIsBelow, KindFits, IsInService, HasSoundNotes, IsSound}
use Rattle.conn_machine.proofs.FairLemmas.{IsFair}
use Rattle.conn_machine.proofs.CellLemmas.{free_cell, is_queued_in}
use Rattle.conn_machine.proofs.RowLemmas.{queued, IsSoundRow, IsServed, served_by, in_service, never, never_there, still_open}

-- ## Start

-- a row that would be served in a cell where none is, in none of the child
served_nowhere : (rows : List Row) (own k free c : ℕ) → (own == k && free == c) ≡ true → count_by (is_served_in own free) rows ≡ 0
    → count_by (is_served_in k c) rows ≡ 0
served_nowhere rows own k free c same none =
    let parts = and_parts (own == k) (free == c) same in
    subst (λ j. count_by (is_served_in j c) rows ≡ 0) (eqb-true own k parts.0)
    (subst (λ d. count_by (is_served_in own d) rows ≡ 0) (eqb-true free c parts.1) none)

-- a row that a worker begins to serve is fair
pub fair-start : (s : State) (slot : ℕ) (r : Row) → IsSound s → slice_get s.rows slot ≡ Some r → IsSoundRow s r → is_live r ≡ true
    → is_queued r.place ≡ true → IsFair s r (served_row s r)
fair-start s slot r all found sound live is =
    let place = queued r.place is in
    let own : is_queued_in r.child r ≡ true = and_from (r.child == r.child) (is_queued r.place) (eq-eqb r.child r.child refl) is in
    let free = free_cell s.rows r.child (child_of s r).shape.threads slot r found own (all.carried r.child) in
    let service : IsInService r = subst (λ p. KindFits p r) place sound.kind in
    record {
      carried = λ k carries. inl (rw place carries);
      admitted = λ k opens. inl (still_open (r.child == k) (is_live r) (not (is_lingering r)) live opens);
      cell = λ k c serves. inr (served_nowhere s.rows r.child k (cell_for s r) c serves free.free);
      owner = λ _. record { exists = sound.owner.exists; there = sound.owner.there; generation = sound.owner.generation };
      below = λ _. free.below;
      kind = λ _. record { stays = service.stays; from = service.from };
      request = λ _. tt;
      notes = λ _. record { fewer = sound.notes.fewer; few = sound.notes.few; last = sound.notes.last };
      deadline = sound.deadline;
    }

-- ## Answer

-- the row with a response noted, in that place
abbrev noted_row : Note → Bool → Place → Row → Row
noted_row note short place r =
    record r { place = place; began = None; mid = true; last = note.last; short = short; notes = r.notes ++ note ∷ [] }

-- the responses with one more, where it is the last one as soon as there may be no more
notes_more : (most : ℕ) (r : Row) (note : Note) (short : Bool) (place : Place) → HasSoundNotes most r → r.last ≡ false
    → (note.last ≡ false → length r.notes + 1 ≡ most → ⊥) → HasSoundNotes most (noted_row note short place r)
notes_more most r note short place before undecided room =
    let len : length (r.notes ++ note ∷ []) ≡ length r.notes + 1 = length-append r.notes (note ∷ []) in
    let fewer = before.fewer undecided in
    record {
      fewer = λ goes_on. omega (arith, room goes_on);
      few = omega arith;
      last = sym (fold-append (λ (said : Bool) (n : Note). n.last) false r.notes (note ∷ []));
    }

-- a row with a response noted is fair
fair_noted : (s : State) (r : Row) (note : Note) (short : Bool) (p : IsServed r.place) → IsSoundRow s r → is_live r ≡ true
    → r.last ≡ false → (note.last ≡ false → length r.notes + 1 ≡ (child_of s r).shape.most → ⊥)
    → IsFair s r (noted_row note short (Working p.cell (phase_after note.last)) r)
fair_noted s r note short p sound live undecided room =
    let service = in_service s r p sound in
    let below : p.cell < (child_of s r).shape.threads = subst (CellIsBelow (child_of s r).shape.threads) p.place sound.below in
    record {
      carried = λ k is. inl (rw p.place is);
      admitted = λ k is. inl (still_open (r.child == k) (is_live r) (not (is_lingering r)) live is);
      cell = λ k c is. inl (rw p.place is);
      owner = λ _. record { exists = sound.owner.exists; there = sound.owner.there; generation = sound.owner.generation };
      below = λ _. below;
      kind = λ _. record { stays = service.stays; from = service.from };
      request = λ _. tt;
      notes = λ _. notes_more (child_of s r).shape.most r note short (Working p.cell (phase_after note.last)) sound.notes undecided room;
      deadline = sound.deadline;
    }

-- the third of five tests
third_of : (a b c d e : Bool) → (a || b || c || d || e) ≡ false → c ≡ false
third_of a b c d e none = (or_parts (a || b) c (or_parts (a || b || c) d (or_parts (a || b || c || d) e none).0).0).1

-- a response that isn't the last leaves room for one
answer_room : (s : State) (ask : Ask) (r : Row) → is_last_for s ask r ≡ false → length r.notes + 1 ≡ (child_of s r).shape.most → ⊥
answer_room s ask r goes_on =
    eqb-false (length r.notes + 1) (child_of s r).shape.most
    (third_of ask.asked_close ask.refused (length r.notes + 1 == (child_of s r).shape.most) (not (child_of s r).shape.keep)
    (not (is_running (child_of s r).phase)) goes_on)

-- a row with a response decided is fair
pub fair-answer : (s : State) (slot : ℕ) (ask : Ask) (r : Row) → IsSoundRow s r → is_live r ≡ true → (is_working r.place && not r.last) ≡ true
    → IsFair s r (answered_row s slot ask r)
fair-answer s slot ask r sound live may =
    let parts = and_parts (is_working r.place) (not r.last) may in
    let p = served_by r.place parts.0 in
    let note = note_for s slot ask r in
    let place : in_phase (phase_after note.last) r.place ≡ Working p.cell (phase_after note.last) =
    ap (in_phase (phase_after note.last)) p.place in
    subst (λ q. IsFair s r (noted_row note ask.refused q r)) (sym place)
    (fair_noted s r note ask.refused p sound live (not-true r.last parts.1) (answer_room s ask r))

-- ## Close

-- the row that a connection leaves, where the slot is spent or not
abbrev pub left_row : Bool → Row → Row
left_row spent r =
    if spent
    then record r { place = Spent; notes = [] }
    else record r { life = r.life + 1; place = Vacant; notes = [] }

-- a row without a connection is fair
pub fair_left : (s : State) (r : Row) (spent : Bool) → r.deadline ≤ greatest_moment → IsFair s r (left_row spent r)
fair_left s r true within = record {
  carried = λ k is. absurd (never (r.child == k) is);
  admitted = λ k is. absurd (never_there (r.child == k) (not (is_lingering r)) is);
  cell = λ k c is. absurd (never (r.child == k) is);
  owner = λ live. absurd (cc);
  below = λ live. absurd (cc);
  kind = λ live. absurd (cc);
  request = λ live. absurd (cc);
  notes = λ live. absurd (cc);
  deadline = within;
}
fair_left s r false within = record {
  carried = λ k is. absurd (never (r.child == k) is);
  admitted = λ k is. absurd (never_there (r.child == k) (not (is_lingering r)) is);
  cell = λ k c is. absurd (never (r.child == k) is);
  owner = λ live. absurd (cc);
  below = λ live. absurd (cc);
  kind = λ live. absurd (cc);
  request = λ live. absurd (cc);
  notes = λ live. absurd (cc);
  deadline = within;
}

-- it keeps its arrival
pub left_arrival : (r : Row) (spent : Bool) → (left_row spent r).arrival ≡ r.arrival
left_arrival r true = refl
left_arrival r false = refl
