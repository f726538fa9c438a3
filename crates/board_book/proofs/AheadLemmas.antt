-- What a board keeps of its history, where that goes on by one entry, and where it is folded.
use Rattle.std.proofs.Common.{◌≡◌, ◌==◌, ℕ, ◌+◌, ◌<◌, ◌≤◌, ◌^◌, Bool, true, false, List, [], ◌∷◌, ◌++◌, length, map, get_or, Option, None, slice_index_or, refl, sym, ap, subst, ◌∙◌, length-append, eqb-true, eq-eqb, arith}
use Rattle.std.specs.Prelude.{slice_index, cond}
use Rattle.std.proofs.Math.ListN.{set, length-set}
use Rattle.std.proofs.Common.{get_or-set_same, get_or-set_other}
use Rattle.std.proofs.lemmas.List.{ext_get_or, get_or_default}
use Rattle.std.proofs.lemmas.List.Sums.{sum_by-append, count_by-le-length, length-filter}
use Rattle.mpm_base.specs.Cause.{cause_number}
use Rattle.mpm_base.specs.declared.conn.Cause.{Cause}
use Rattle.mpm_base.specs.declared.conn.Cause.TheVariants as cause
use Rattle.mpm_base.specs.declared.conn.ConnName.{ConnName}
use Rattle.conn_machine.specs.declared.event.Event.{Event}
use Rattle.conn_machine.specs.declared.event.Entry.{Entry}
use Rattle.conn_machine.specs.declared.folded.Folded.{Folded}
use Rattle.conn_machine.specs.declared.state.State.{State}
use Rattle.conn_machine.specs.Events.{causes, count_events, is_accept, is_answer, is_close, is_close_for, is_order, is_ready, is_start_child, is_tick}
use Rattle.conn_machine.specs.Folds.{CountsWithin, GoesOnFrom, HasPlacesFor, causes_after, fold_of}
use Rattle.conn_machine.specs.Runs.{asks_page, entries_of, first_row, has_after, is_of_pass, row_after, row_from}
use Rattle.board_book.specs.declared.ahead.Ahead.{Ahead}
use Rattle.board_book.specs.AheadInside.{AreInHand, AreNext, CountsEvent, CountsUpTo, IsAhead, with_one}

-- ## Numbers within that of all entries

-- what is read at a place that is there is so by every default
known : {X : Type 0} (xs : List X) (place : ℕ) (x d : X) → place < length xs → x ≡ get_or xs place x → x ≡ slice_index_or xs place d
known xs place x d below read = read ∙ get_or_default xs place x d below

-- a number that counts on from one that is within
count_within : (test : Event → Bool) (history : List Entry) (n entries : ℕ) → n ≤ entries → n + count_events test history ≤ entries + length history
count_within test history n entries within = let few = count_by-le-length (λ (x : Entry). test x.event) history in omega (arith, within, few)

-- no number is above that of all entries
pub counts_within : (f : Folded) (history : List Entry) (a : Ahead) → IsAhead f history a → CountsWithin f → CountsUpTo (f.entries + length history) a
counts_within f history a ahead within = record {
  accepted = rw ahead.accepted (count_within is_accept history f.accepted f.entries within.accepted);
  closed = rw ahead.closed (count_within is_close history f.closed f.entries within.closed);
  responses = rw ahead.responses (count_within is_answer history f.responses f.entries within.responses);
  causes = λ why. rw ahead.causes (each why);
  children = rw ahead.children (count_within is_start_child history f.children f.entries within.children);
  ticks = rw ahead.ticks (count_within is_tick history f.ticks f.entries within.ticks);
  readies = rw ahead.readies (count_within is_ready history f.readies f.entries within.readies);
  orders = rw ahead.orders (count_within is_order history f.orders f.entries within.orders);
  pages = let few = count_by-le-length (λ (x : Entry). asks_page x.event) history in omega (arith, few, ahead.pages);
}
  where
    each : (why : Cause) → slice_index (causes_after history f.causes) (cause_number why) ≤ f.entries + length history
    each cause.ClientDone = count_within (is_close_for cause.ClientDone) history _ f.entries (within.causes cause.ClientDone)
    each cause.LastSent = count_within (is_close_for cause.LastSent) history _ f.entries (within.causes cause.LastSent)
    each cause.KeepAliveLate = count_within (is_close_for cause.KeepAliveLate) history _ f.entries (within.causes cause.KeepAliveLate)
    each cause.ReadLate = count_within (is_close_for cause.ReadLate) history _ f.entries (within.causes cause.ReadLate)
    each cause.WriteLate = count_within (is_close_for cause.WriteLate) history _ f.entries (within.causes cause.WriteLate)
    each cause.Retiring = count_within (is_close_for cause.Retiring) history _ f.entries (within.causes cause.Retiring)
    each cause.LinkFailed = count_within (is_close_for cause.LinkFailed) history _ f.entries (within.causes cause.LinkFailed)
    each cause.Stopped = count_within (is_close_for cause.Stopped) history _ f.entries (within.causes cause.Stopped)
    each cause.NoMemory = count_within (is_close_for cause.NoMemory) history _ f.entries (within.causes cause.NoMemory)

-- so there is room for one more
pub room_for_one : (most : ℕ) (a : Ahead) → CountsUpTo most a → most ≤ 2 ^ 63 → CountsUpTo (2 ^ 63) a
room_for_one most a counts few = record {
  accepted = omega (arith, counts.accepted, few);
  closed = omega (arith, counts.closed, few);
  responses = omega (arith, counts.responses, few);
  causes = λ why. let up = counts.causes why in omega (arith, up, few);
  children = omega (arith, counts.children, few);
  ticks = omega (arith, counts.ticks, few);
  readies = omega (arith, counts.readies, few);
  orders = omega (arith, counts.orders, few);
  pages = omega (arith, counts.pages, few);
}

-- and the next number of a pass has room too
pub number_fits : (f : Folded) (history : List Entry) (e : Entry) (before counted : Ahead) (n : ℕ) → IsAhead f history before → CountsWithin f
    → e.pass < length f.ordinals → f.entries + length history < 2 ^ 63 → CountsEvent e.event before counted
    → n ≡ get_or counted.ordinals.items e.pass n → n < 2 ^ 63
number_fits f history e before counted n ahead within pass few counts read =
    let below : e.pass < length before.ordinals.items = omega (arith, pass, ahead.numbered) in
    let is = known before.ordinals.items e.pass n 0 below (rw counts.ordinals at read) in
    let next = ahead.numbers e.pass below in
    let had = within.ordinals e.pass in
    let long = length-filter (is_of_pass e.pass) history in
    let own = count_by-le-length (is_of_pass e.pass) history in
    omega (arith, is, next, had, long, own, few)

-- ## One more entry

-- what a history that goes on by an entry has of each pass: of the entry's own that is the last, and no other pass has it
pub record GoesOnBy (f : Folded) (history : List Entry) (e : Entry) : Type 0 where
  pub own : (p : ℕ) → is_of_pass p e ≡ true → entries_of p (history ++ e ∷ []) ≡ entries_of p history ++ e ∷ []
  pub other : (p : ℕ) → is_of_pass p e ≡ false → entries_of p (history ++ e ∷ []) ≡ entries_of p history
  pub row : (p : ℕ) → is_of_pass p e ≡ true → row_from f p (history ++ e ∷ []) ≡ has_after (row_from f p history) e.event e.reply

-- the pass of the entry counts one more, and the others stay
next_by : (f : Folded) (ordinals : List ℕ) (history : List Entry) (e : Entry) (n p : ℕ) (own : Bool) → (e.pass == p) ≡ own → GoesOnBy f history e
    → AreNext f ordinals history → n ≡ slice_index ordinals e.pass → e.pass < length ordinals → p < length ordinals
    → get_or (set ordinals e.pass (n + 1)) p 0 ≡ slice_index f.ordinals p + length (entries_of p (history ++ e ∷ []))
next_by f ordinals history e n p true own goes before number within below =
    let same : e.pass ≡ p = eqb-true e.pass p own in
    let was : slice_index ordinals p ≡ slice_index f.ordinals p + length (entries_of p history) = before p below in
    let had : n ≡ slice_index ordinals p = number ∙ ap (slice_index ordinals) same in
    let long : length (entries_of p (history ++ e ∷ [])) ≡ length (entries_of p history) + 1 =
    ap length (goes.own p own) ∙ length-append (entries_of p history) (e ∷ []) in
    subst (λ (q : ℕ). get_or (set ordinals q (n + 1)) p 0 ≡ n + 1) (sym same) (get_or-set_same ordinals p (n + 1) 0 below)
    ∙ omega (arith, was, had, long)
next_by f ordinals history e n p false other goes before number within below =
    let differs : (p ≡ e.pass → ⊥) = (λ (q : p ≡ e.pass). let eq : (e.pass == p) ≡ true = eq-eqb e.pass p (sym q) in cc) in
    rw (goes.other p other) (get_or-set_other ordinals e.pass p (n + 1) 0 differs ∙ before p below)

-- so the numbers stay known where an entry takes the next of its pass
next_more : (f : Folded) (ordinals : List ℕ) (history : List Entry) (e : Entry) (n : ℕ) → GoesOnBy f history e → AreNext f ordinals history
    → n ≡ slice_index ordinals e.pass → e.pass < length ordinals → AreNext f (set ordinals e.pass (n + 1)) (history ++ e ∷ [])
next_more f ordinals history e n goes before number within p below =
    next_by f ordinals history e n p (e.pass == p) refl goes before number within (omega (arith, length-set ordinals e.pass (n + 1)))

-- the pass of the entry has the connection that the entry leaves it, and the others stay
hand_by : (f : Folded) (rows : List (Option ConnName)) (history : List Entry) (e : Entry) (now : Option ConnName) (p : ℕ) (own : Bool)
    → (e.pass == p) ≡ own → GoesOnBy f history e → AreInHand f rows history
    → now ≡ has_after (slice_index_or rows e.pass None) e.event e.reply → e.pass < length rows → p < length rows
    → get_or (set rows e.pass now) p None ≡ row_from f p (history ++ e ∷ [])
hand_by f rows history e now p true own goes before left within below =
    let same : e.pass ≡ p = eqb-true e.pass p own in
    let has : now ≡ has_after (row_from f p history) e.event e.reply =
    left
    ∙ ap (λ (q : ℕ). has_after (slice_index_or rows q None) e.event e.reply) same
    ∙ ap (λ (had : Option ConnName). has_after had e.event e.reply) (before p below) in
    subst (λ (q : ℕ). get_or (set rows q now) p None ≡ now) (sym same) (get_or-set_same rows p now None below)
    ∙ has
    ∙ sym (goes.row p own)
hand_by f rows history e now p false other goes before left within below =
    let differs : (p ≡ e.pass → ⊥) = (λ (q : p ≡ e.pass). let eq : (e.pass == p) ≡ true = eq-eqb e.pass p (sym q) in cc) in
    get_or-set_other rows e.pass p now None differs
    ∙ before p below
    ∙ ap (row_after (first_row f p)) (sym (goes.other p other))

hand_more : (f : Folded) (rows : List (Option ConnName)) (history : List Entry) (e : Entry) (now : Option ConnName) → GoesOnBy f history e
    → AreInHand f rows history → now ≡ has_after (slice_index_or rows e.pass None) e.event e.reply → e.pass < length rows
    → AreInHand f (set rows e.pass now) (history ++ e ∷ [])
hand_more f rows history e now goes before left within p below =
    hand_by f rows history e now p (e.pass == p) refl goes before left within (omega (arith, length-set rows e.pass now))

-- the count of a history that goes on by one entry
count_more : (test : Event → Bool) (history : List Entry) (e : Entry) → with_one (test e.event) (count_events test history) ≡ count_events test (history ++ e ∷ [])
count_more test history e = by (test e.event) refl
  where
    more : count_events test (history ++ e ∷ []) ≡ count_events test history + (0 + cond (test e.event) 1 0)
    more = sum_by-append (λ (x : Entry). cond (test x.event) 1 0) history (e ∷ [])

    by : (passes : Bool) → test e.event ≡ passes → with_one passes (count_events test history) ≡ count_events test (history ++ e ∷ [])
    by true is = let one = rw is at more in omega (arith, one)
    by false is = let none = rw is at more in omega (arith, none)

-- a number that counts on from it
one_more : (n : ℕ) (test : Event → Bool) (history : List Entry) (e : Entry)
    → with_one (test e.event) (n + count_events test history) ≡ n + count_events test (history ++ e ∷ [])
one_more n test history e = by (test e.event) (count_events test history) ∙ ap (λ (m : ℕ). n + m) (count_more test history e)
  where
    by : (passes : Bool) (m : ℕ) → with_one passes (n + m) ≡ n + with_one passes m
    by true m = omega arith
    by false m = refl

-- the counts for each cause
causes_more : (history : List Entry) (e : Entry) (counts before : List ℕ) → before ≡ causes_after history counts
    → map (λ why. with_one (is_close_for why e.event) (slice_index before (cause_number why))) causes ≡ causes_after (history ++ e ∷ []) counts
causes_more history e counts before is =
    let zero = one_more (slice_index counts 0) (is_close_for cause.ClientDone) history e in
    let one = one_more (slice_index counts 1) (is_close_for cause.LastSent) history e in
    let two = one_more (slice_index counts 2) (is_close_for cause.KeepAliveLate) history e in
    let three = one_more (slice_index counts 3) (is_close_for cause.ReadLate) history e in
    let four = one_more (slice_index counts 4) (is_close_for cause.WriteLate) history e in
    let five = one_more (slice_index counts 5) (is_close_for cause.Retiring) history e in
    let six = one_more (slice_index counts 6) (is_close_for cause.LinkFailed) history e in
    let seven = one_more (slice_index counts 7) (is_close_for cause.Stopped) history e in
    let eight = one_more (slice_index counts 8) (is_close_for cause.NoMemory) history e in
    rw is cc

-- the numbers are those of a fold of the longer history, once the entry was counted, and its pass has its next number and its connection
pub ahead_more : (f : Folded) (history : List Entry) (e : Entry) (before counted a : Ahead) (n : ℕ) (had now : Option ConnName)
    → GoesOnBy f history e → IsAhead f history before → e.pass < length f.ordinals → HasPlacesFor (length f.ordinals) f
    → CountsEvent e.event before counted → a ≡ record counted { ordinals = a.ordinals; rows = a.rows }
    → n ≡ get_or counted.ordinals.items e.pass n → a.ordinals.items ≡ set counted.ordinals.items e.pass (n + 1)
    → had ≡ get_or counted.rows.items e.pass had → now ≡ has_after had e.event e.reply → a.rows.items ≡ set counted.rows.items e.pass now
    → IsAhead f (history ++ e ∷ []) a
ahead_more f history e before counted a n had now goes is pass places counts rest read wrote seen left put = record {
  accepted = ap (λ (x : Ahead). x.accepted) rest ∙ counts.accepted ∙ ap (with_one (is_accept e.event)) is.accepted ∙ one_more f.accepted is_accept history e;
  closed = ap (λ (x : Ahead). x.closed) rest ∙ counts.closed ∙ ap (with_one (is_close e.event)) is.closed ∙ one_more f.closed is_close history e;
  responses = ap (λ (x : Ahead). x.responses) rest ∙ counts.responses ∙ ap (with_one (is_answer e.event)) is.responses ∙ one_more f.responses is_answer history e;
  causes = ap (λ (x : Ahead). x.causes) rest ∙ counts.causes ∙ causes_more history e f.causes before.causes is.causes;
  children = ap (λ (x : Ahead). x.children) rest ∙ counts.children ∙ ap (with_one (is_start_child e.event)) is.children ∙ one_more f.children is_start_child history e;
  ticks = ap (λ (x : Ahead). x.ticks) rest ∙ counts.ticks ∙ ap (with_one (is_tick e.event)) is.ticks ∙ one_more f.ticks is_tick history e;
  readies = ap (λ (x : Ahead). x.readies) rest ∙ counts.readies ∙ ap (with_one (is_ready e.event)) is.readies ∙ one_more f.readies is_ready history e;
  orders = ap (λ (x : Ahead). x.orders) rest ∙ counts.orders ∙ ap (with_one (is_order e.event)) is.orders ∙ one_more f.orders is_order history e;
  numbered = ap length ordinals ∙ length-set before.ordinals.items e.pass (n + 1) ∙ is.numbered;
  numbers = rw ordinals (next_more f before.ordinals.items history e n goes is.numbers number numbered);
  placed = ap length rows ∙ length-set before.rows.items e.pass now ∙ is.placed;
  rows = rw rows (hand_more f before.rows.items history e now goes is.rows hand placed);
  pages = ap (λ (x : Ahead). x.pages) rest ∙ counts.pages ∙ ap (with_one (asks_page e.event)) is.pages ∙ count_more asks_page history e;
}
  where
    numbered : e.pass < length before.ordinals.items
    numbered = omega (arith, pass, is.numbered)

    placed : e.pass < length before.rows.items
    placed = omega (arith, pass, is.placed, places.rows)

    ordinals : a.ordinals.items ≡ set before.ordinals.items e.pass (n + 1)
    ordinals = rw counts.ordinals at wrote

    rows : a.rows.items ≡ set before.rows.items e.pass now
    rows = rw counts.rows at put

    number : n ≡ slice_index before.ordinals.items e.pass
    number = known before.ordinals.items e.pass n 0 numbered (rw counts.ordinals at read)

    hand : now ≡ has_after (slice_index_or before.rows.items e.pass None) e.event e.reply
    hand = left ∙ ap (λ (x : Option ConnName). has_after x e.event e.reply) (known before.rows.items e.pass had None placed (rw counts.rows at seen))

-- ## A fold

-- the numbers of the passes are those of the record that a fold makes
next_folded : (passes : ℕ) (f later : Folded) (history : List Entry) (ordinals : List ℕ) → HasPlacesFor passes later → length ordinals ≡ passes
    → ((p : ℕ) → GoesOnFrom p f history later) → AreNext f ordinals history → ordinals ≡ later.ordinals
next_folded passes f later history ordinals places long goes numbers =
    ext_get_or 0 ordinals later.ordinals (long ∙ sym places.ordinals) (λ p below. numbers p below ∙ sym (goes p).ordinal)

-- and so are their connections
hand_folded : (passes : ℕ) (f later : Folded) (history : List Entry) (rows : List (Option ConnName)) → HasPlacesFor passes later → length rows ≡ passes
    → ((p : ℕ) → GoesOnFrom p f history later) → AreInHand f rows history → rows ≡ later.rows
hand_folded passes f later history rows places long goes hands =
    ext_get_or None rows later.rows (long ∙ sym places.rows) (λ p below. hands p below ∙ sym (goes p).row)

-- the record that has these numbers, and its old lines and editions, is the one that a fold makes, but for those
pub folded_is : (f g : Folded) (history : List Entry) (a : Ahead) (base : State) (ended : List (List ℕ)) → IsAhead f history a
    → HasPlacesFor (length f.ordinals) f → HasPlacesFor (length f.ordinals) (fold_of base history ended f)
    → ((p : ℕ) → GoesOnFrom p f history (fold_of base history ended f))
    → g ≡ record { entries = f.entries + length history; accepted = a.accepted; closed = a.closed; responses = a.responses; causes = a.causes; children = a.children; lines = f.lines; ticks = a.ticks; readies = a.readies; orders = a.orders; editions = f.editions; ordinals = a.ordinals.items; rows = a.rows.items }
    → g ≡ record (fold_of base history ended f) { lines = f.lines; editions = f.editions }
folded_is f g history a base ended is places later goes has =
    let ordinals : a.ordinals.items ≡ (fold_of base history ended f).ordinals =
    next_folded (length f.ordinals) f (fold_of base history ended f) history a.ordinals.items later is.numbered goes is.numbers in
    let rows : a.rows.items ≡ (fold_of base history ended f).rows =
    hand_folded (length f.ordinals) f (fold_of base history ended f) history a.rows.items later (is.placed ∙ places.rows) goes is.rows in
    has ∙ rw (is.accepted, is.closed, is.responses, is.causes, is.children, is.ticks, is.readies, is.orders, ordinals, rows) refl
