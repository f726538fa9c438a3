-- What a pass does, in steps, and what another pass keeps meanwhile.
use Rattle.std.proofs.Common.{◌≡◌, ◌≢◌, ℕ, true, false, List, [], ◌∷◌, ◌++◌, map, Option, ap, refl, sym, subst, ◌∙◌, append_assoc, append-nil, eq-eqb, ne_eqb}
use Rattle.std.proofs.lemmas.List.{map-append}
use Rattle.std.proofs.lemmas.List.Elements.{filter-append}
use Rattle.mpm_base.specs.declared.conn.ConnName.{ConnName}
use Rattle.conn_machine.specs.declared.event.Event.{Event}
use Rattle.conn_machine.specs.declared.event.Entry.{Entry}
use Rattle.conn_machine.specs.declared.folded.Folded.{Folded}
use Rattle.conn_machine.specs.declared.state.State.{State}
use Rattle.conn_machine.specs.Runs.{is_of_pass, entries_of, AreEntriesOf, Adds}
use Rattle.board_book.specs.Book.{SeenBook, book_with_entry, entry_of, row_in, AddsOnly}
use Rattle.board.specs.Board.{SeenBoard}
use Rattle.board.specs.Events.{with_recorded}
use Rattle.worker_group.specs.Acts.{Acts, events_of}

-- ## Events of a history

-- an entry of the pass adds its event
pub events-own : (who : ℕ) (history : List Entry) (e : Entry) → is_of_pass who e ≡ true
    → events_of who (history ++ e ∷ []) ≡ events_of who history ++ e.event ∷ []
events-own who history e own =
    let last : entries_of who (e ∷ []) ≡ e ∷ [] = rw own refl in
    ap (map (λ (x : Entry). x.event)) (filter-append (is_of_pass who) history (e ∷ []) ∙ ap (λ (es : List Entry). entries_of who history ++ es) last)
    ∙ map-append (λ (x : Entry). x.event) (entries_of who history) (e ∷ [])

-- the entries of one pass are none of another's
none-of_other : (p q : ℕ) (base : State) (f : Folded) (before added : List Entry) → AreEntriesOf p base f before added → q ≢ p → entries_of q added ≡ []
none-of_other p q base f before [] are differs = refl
none-of_other p q base f before (e ∷ added) are differs =
    let off : is_of_pass q e ≡ false = ne_eqb e.pass q (λ same. differs (sym same ∙ are.0.pass)) in
    rw off (none-of_other p q base f (before ++ e ∷ []) added are.1 differs)

-- the entries of a pass stay while another adds some
pub entries-others : (p q : ℕ) (base : State) (f : Folded) (old new : List Entry) → Adds p base f old new → q ≢ p → entries_of q new ≡ entries_of q old
entries-others p q base f old new adds differs =
    ap (entries_of q) adds.1 ∙ filter-append (is_of_pass q) old adds.0
    ∙ ap (λ (es : List Entry). entries_of q old ++ es) (none-of_other p q base f old adds.0 adds.2 differs)
    ∙ append-nil (entries_of q old)

-- ## Steps of a pass

-- a pass that does nothing has what it had
pub acts_none : (who : ℕ) (has : Option ConnName) (b : SeenBook) → row_in who b ≡ has → Acts who [] has b b
acts_none who has b row = record {
  base = refl;
  folded = refl;
  passes = refl;
  entries = ([], sym (append-nil b.history), tt);
  made = sym (append-nil (events_of who b.history));
  row = row;
}

-- so does one whose call left the book as it was
pub acts_same : (who : ℕ) (has : Option ConnName) (b b' : SeenBook) → b' ≡ b → row_in who b ≡ has → Acts who [] has b b'
acts_same who has b b' same row = subst (λ (v : SeenBook). Acts who [] has b v) (sym same) (acts_none who has b row)

-- a pass that recorded an event made that, and has what the row says
pub acts_one : (who : ℕ) (e : Event) (has : Option ConnName) (b b' : SeenBook) → b' ≡ book_with_entry who e b → AddsOnly who b b'
    → row_in who b' ≡ has → Acts who (e ∷ []) has b b'
acts_one who e has b b' is adds row = record {
  base = ap (λ (v : SeenBook). v.base) is;
  folded = ap (λ (v : SeenBook). v.folded) is;
  passes = ap (λ (v : SeenBook). v.passes) is;
  entries = adds;
  made =
      ap (λ (v : SeenBook). events_of who v.history) is
      ∙ events-own who b.history (entry_of who e b) (eq-eqb who who refl);
  row = row;
}

-- the same of a call of the board that records it, and changes nothing else of the book
pub acts_recorded : (who : ℕ) (e : Event) (has : Option ConnName) (b b' : SeenBoard) → b' ≡ with_recorded who e b
    → AddsOnly who b.book b'.book → row_in who b'.book ≡ has → Acts who (e ∷ []) has b.book b'.book
acts_recorded who e has b b' is adds row = acts_one who e has b.book b'.book (ap (λ (v : SeenBoard). v.book) is) adds row

-- the entries of a pass, and others behind them
are-both : (p : ℕ) (base : State) (f : Folded) (history a b : List Entry) → AreEntriesOf p base f history a → AreEntriesOf p base f (history ++ a) b
    → AreEntriesOf p base f history (a ++ b)
are-both p base f history [] b first second = subst (λ (h : List Entry). AreEntriesOf p base f h b) (append-nil history) second
are-both p base f history (e ∷ a) b first second = (
  first.0,
  are-both p base f (history ++ e ∷ []) a b first.1
      (subst (λ (h : List Entry). AreEntriesOf p base f h b) (sym (append_assoc history (e ∷ []) a)) second),
)

-- what was added in two steps was added
adds-more : (who : ℕ) (a b c : SeenBook) → b.base ≡ a.base → b.folded ≡ a.folded → AddsOnly who a b → AddsOnly who b c → AddsOnly who a c
adds-more who a b c base folded first second =
    let behind : AreEntriesOf who a.base a.folded (a.history ++ first.0) second.0 =
    subst (λ (h : List Entry). AreEntriesOf who a.base a.folded h second.0) first.1
    (subst (λ (f : Folded). AreEntriesOf who a.base f b.history second.0) folded
    (subst (λ (s : State). AreEntriesOf who s b.folded b.history second.0) base second.2)) in (
      first.0 ++ second.0,
      second.1 ∙ ap (λ (h : List Entry). h ++ second.0) first.1 ∙ append_assoc a.history first.0 second.0,
      are-both who a.base a.folded a.history first.0 second.0 first.2 behind,
    )

-- what a pass does in two steps, it does
pub acts_more : (who : ℕ) (es fs : List Event) (had has : Option ConnName) (a b c : SeenBook) → Acts who es had a b → Acts who fs has b c
    → Acts who (es ++ fs) has a c
acts_more who es fs had has a b c before behind = record {
  base = behind.base ∙ before.base;
  folded = behind.folded ∙ before.folded;
  passes = behind.passes ∙ before.passes;
  entries = adds-more who a b c before.base before.folded before.entries behind.entries;
  made =
      behind.made ∙ ap (λ (xs : List Event). xs ++ fs) before.made
      ∙ append_assoc (events_of who a.history) es fs;
  row = behind.row;
}

-- the events and the connection by other spellings
pub acts_as : (who : ℕ) (es fs : List Event) (had has : Option ConnName) (a b : SeenBook) → Acts who es had a b → es ≡ fs → had ≡ has
    → Acts who fs has a b
acts_as who es fs had has a b acts same_events same_row =
    subst (λ (xs : List Event). Acts who xs has a b) same_events (subst (λ (o : Option ConnName). Acts who es o a b) same_row acts)

-- ## Other passes

-- another pass has made what it had made
pub acts-entries_other : (who other : ℕ) (es : List Event) (has : Option ConnName) (a b : SeenBook) → Acts who es has a b → other ≢ who
    → entries_of other b.history ≡ entries_of other a.history
acts-entries_other who other es has a b acts differs = entries-others who other a.base a.folded a.history b.history acts.entries differs
