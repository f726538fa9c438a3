-- A kept history that is folded.
use Rattle.std.proofs.Common.{◌≡◌, ℕ, ◌≤◌, List, [], length, filter, refl, sym, ap, subst, ◌∙◌, arith}
use Rattle.conn_machine.specs.declared.event.Entry.{Entry}
use Rattle.conn_machine.specs.declared.folded.Edition.{Edition}
use Rattle.conn_machine.specs.declared.folded.Folded.{Folded}
use Rattle.conn_machine.specs.declared.state.State.{State}
use Rattle.conn_machine.specs.Folds.{CountsWithin, HasPlacesFor, HaveBegun, fold_of, is_in_use, lines_after}
use Rattle.conn_machine.specs.Generations.{GenerationsBeginInOrder}
use Rattle.conn_machine.specs.Passes.{EachHasItsOwn}
use Rattle.conn_machine.specs.Runs.{after, first_row}
use Rattle.board_book.specs.declared.ahead.Ahead.{Ahead}
use Rattle.board_book.specs.AheadInside.{IsAhead}
use Rattle.board_book.specs.Book.{SeenBook, folded_book}
use Rattle.board_book.specs.BookInside.{IsKept}
use Rattle.board_book.specs.EditionsInside.{HasEditions}
use Rattle.board_book.proofs.BookLemmas.{shown_book}
use Rattle.board_book.proofs.EditionLemmas.{editions_folded}

-- ## What a fold leaves

-- the record with these lines and editions
abbrev pub with_rest : Folded → List ℕ → List Edition → Folded
with_rest f lines editions = record f { lines = lines; editions = editions }

-- the record of numbers that go on doesn't go by the lines or the editions
ahead_with : (f : Folded) (history : List Entry) (ahead : Ahead) (lines : List ℕ) (editions : List Edition) → IsAhead f history ahead
    → IsAhead (with_rest f lines editions) history ahead
ahead_with f history ahead lines editions is = record {
  accepted = is.accepted;
  closed = is.closed;
  responses = is.responses;
  causes = is.causes;
  children = is.children;
  ticks = is.ticks;
  readies = is.readies;
  orders = is.orders;
  numbered = is.numbered;
  numbers = is.numbers;
  placed = is.placed;
  rows = is.rows;
  pages = is.pages;
}

-- nor does it go by them that a record counts within its entries
within_with : (f : Folded) (lines : List ℕ) (editions : List Edition) → CountsWithin f
    → CountsWithin (with_rest f lines editions)
within_with f lines editions within = record {
  accepted = within.accepted;
  closed = within.closed;
  responses = within.responses;
  causes = within.causes;
  children = within.children;
  ticks = within.ticks;
  readies = within.readies;
  orders = within.orders;
  ordinals = within.ordinals;
}

-- the record is the one that a fold makes, but for its lines and its editions
abbrev pub IsFoldedBut : List Entry → Folded → Folded → Type 0
IsFoldedBut history f g =
    (base : State) (ended : List (List ℕ)) → g ≡ record (fold_of base history ended f) { lines = f.lines; editions = f.editions }

-- the empty history is kept behind it, with any lines
pub kept_folded : (passes : ℕ) (base : State) (f : Folded) (history : List Entry) (s : State) (ahead ahead' : Ahead) (editions : List Edition) (room room' : ℕ) (lines : List ℕ) (g : Folded)
    → GenerationsBeginInOrder → IsKept passes base f history s ahead editions room → IsFoldedBut history f g → IsAhead g [] ahead' → room ≤ room'
    → HasPlacesFor passes (fold_of base history [] f) → CountsWithin (fold_of base history [] f)
    → EachHasItsOwn (after base history) (first_row (fold_of base history [] f)) → HaveBegun (after base history) (fold_of base history [] f)
    → IsKept passes s (with_rest g lines (filter (λ e. is_in_use s e.generation) editions)) [] s ahead' (filter (λ e. is_in_use s e.generation) editions) room'
kept_folded passes base f history s ahead ahead' editions room room' lines g law before is counted space places within own begun =
    let kept : List Edition = filter (λ e. is_in_use s e.generation) editions in
    let counted' : IsAhead (with_rest g lines kept) [] ahead' = ahead_with g [] ahead' lines kept counted in
    let folded_editions : (fold_of base history [] f).editions ≡ kept =
    ap (λ (es : List Edition). filter (λ e. is_in_use (after base history) e.generation) es) (sym before.has_editions.all)
    ∙ ap (λ (t : State). filter (λ e. is_in_use t e.generation) editions) before.state_is in
    let has : HasEditions s (with_rest (fold_of base history [] f) lines kept) [] kept =
    editions_folded law base f (with_rest (fold_of base history [] f) lines kept) history editions s before.has_editions before.state_is
    (λ place e at. rw before.state_is at (begun place e (rw folded_editions at))) refl in
    rw (is base []) (record {
      folded = record {
        places = record { ordinals = places.ordinals; rows = places.rows };
        within = within_with (fold_of base history [] f) lines kept within;
      };
      is_history = record { run = tt; order = λ p. refl };
      made = tt;
      few = λ p beyond. refl;
      own = rw before.state_is at own;
      state_is = refl;
      opened = before.sound;
      sound = before.sound;
      ahead_is = rw (is base []) at counted';
      has_editions = has;
      sized = before.sized;
      has_room = omega (arith, before.has_room, space);
      countable = omega (arith, before.countable);
    })

-- the book is the one that a fold leaves, where these are the lines that it has then, and the editions those of the generations in use
pub folded_is : (b : SeenBook) (passes : ℕ) (base : State) (f : Folded) (history : List Entry) (s : State) (ahead : Ahead) (editions : List Edition) (room : ℕ) (lines : List ℕ) (ended : List (List ℕ)) (g : Folded)
    → IsKept passes base f history s ahead editions room → IsFoldedBut history f g → shown_book base f history s ≡ b
    → length (fold_of base history ended f).ordinals ≡ length f.ordinals
    → lines ≡ lines_after ended b.folded.closed b.folded.lines
    → shown_book s (with_rest g lines (filter (λ e. is_in_use s e.generation) editions)) [] s ≡ folded_book ended b
folded_is b passes base f history s ahead editions room lines ended g before is seen as_many lines_are =
    let kept : List Edition = filter (λ e. is_in_use s e.generation) editions in
    let folded_editions : (fold_of base history ended f).editions ≡ kept =
    ap (λ (es : List Edition). filter (λ e. is_in_use (after base history) e.generation) es) (sym before.has_editions.all)
    ∙ ap (λ (t : State). filter (λ e. is_in_use t e.generation) editions) before.state_is in
    let lines_then : lines ≡ lines_after ended f.closed f.lines =
    subst (λ (v : SeenBook). lines ≡ lines_after ended v.folded.closed v.folded.lines) (sym seen) lines_are in
    let record_is : with_rest g lines kept ≡ fold_of base history ended f =
    rw (is base ended, lines_then) (ap (λ (es : List Edition). record (fold_of base history ended f) { editions = es }) (sym folded_editions)) in
    subst (λ (v : SeenBook). shown_book s (with_rest g lines kept) [] s ≡ folded_book ended v) seen
    (subst (λ (r : Folded). shown_book s r [] s ≡ folded_book ended (shown_book base f history s)) (sym record_is)
    (rw (before.state_is, as_many) refl))
