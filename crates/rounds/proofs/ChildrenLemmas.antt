-- A server that opens starts its children in order of number, as many as its shape asks for.
use Rattle.std.proofs.Common.{◌≡◌, ◌≢◌, inl, inr, ℕ, zero, suc, ◌+◌, ◌<◌, ◌≤◌, Bool, true, false, ◌&&◌, cond, List, [], ◌∷◌, ◌++◌, length, count_by, map, nat_lt, replicate, Option, None, Some, slice_get, refl, sym, ap, subst, ◌∙◌, append-nil, arith}
use Rattle.std.proofs.lemmas.Bool.{cases_eq, cases_order}
use Rattle.std.proofs.lemmas.Bool.Decides.{nat_tests}
use Rattle.std.proofs.lemmas.List.{length-replicate, map-append}
use Rattle.std.proofs.lemmas.List.FromFn.{map-range_with_len_more}
use Rattle.std.specs.Option.{option_map_or}
use Rattle.std.specs.List.{find, range_with_len}
use Rattle.mpm_base.specs.declared.shape.Shape.{Shape}
use Rattle.conn_machine.specs.Children.{is_empty, is_running, no_child, running_count, started_child}
use Rattle.conn_machine.specs.Lists.{update}
use Rattle.conn_machine.specs.Runs.{after}
use Rattle.conn_machine.specs.States.{is_serving, opening_state}
use Rattle.conn_machine.specs.Table.{child_passes, next}
use Rattle.conn_machine.specs.declared.child.Child.{Child}
use Rattle.conn_machine.specs.declared.event.Entry.{Entry}
use Rattle.conn_machine.specs.declared.event.Event.{Event}
use Rattle.conn_machine.specs.declared.event.Event.TheVariants as event
use Rattle.conn_machine.specs.declared.folded.Folded.{Folded}
use Rattle.conn_machine.specs.declared.state.State.{State}
use Rattle.board_book.specs.Book.{SeenBook, entry_of}
use Rattle.board.specs.Board.{SeenBoard}
use Rattle.board.specs.Events.{with_recorded}
use Rattle.board_book.specs.Finds.{startable}
use Rattle.rounds.specs.TableInside.{IsOpening, asked_children}
use Rattle.board_book.specs.Started.{BeginsWithStarts, starts_of}
use Rattle.rounds.proofs.ListenLemmas.{child-by, count-cons, is-startable}

-- ## Searches

-- what a search among the n numbers from a on tells of the one that it found: it is one of these, and no earlier one passes
record IsFirst (p : ℕ → Bool) (a n k : ℕ) : Type 0 where
  pub within : k < a + n
  pub earlier : (j : ℕ) → a ≤ j → j < k → p j ≡ false

first-by : (p : ℕ → Bool) (a n k : ℕ) (b : Bool) → p a ≡ b → (find p (range_with_len (a + 1) n) ≡ Some k → IsFirst p (a + 1) n k)
    → cond b (Some a) (find p (range_with_len (a + 1) n)) ≡ Some k → IsFirst p a (suc n) k
first-by p a n k true is later found =
    let same : a ≡ k = cc in
    record { within = omega (arith, same); earlier = λ j from below. absurd (omega (arith, same, from, below)) }
first-by p a n k false is later found =
    let rest = later found in
    record {
      within = omega (arith, rest.within);
      earlier =
          λ j from below. elim (cases_eq j a) [
            | inl same ↦ ap p same ∙ is
            | inr other ↦ rest.earlier j (omega arith) below
          ];
    }

found-first : (p : ℕ → Bool) (a n k : ℕ) → find p (range_with_len a n) ≡ Some k → IsFirst p a n k
found-first p a zero k found = absurd (cc)
found-first p a (suc n) k found = first-by p a n k (p a) refl (found-first p (a + 1) n k) found

none-by : (p : ℕ → Bool) (a n : ℕ) (b : Bool) → p a ≡ b
    → (find p (range_with_len (a + 1) n) ≡ None → (j : ℕ) → a + 1 ≤ j → j < a + 1 + n → p j ≡ false)
    → cond b (Some a) (find p (range_with_len (a + 1) n)) ≡ None → (j : ℕ) → a ≤ j → j < a + suc n → p j ≡ false
none-by p a n true is later found j from below = absurd (cc)
none-by p a n false is later found j from below =
    elim (cases_eq j a) [
      | inl same ↦ ap p same ∙ is
      | inr other ↦ later found j (omega arith) (omega arith)
    ]

-- a search that finds nothing: none of them passes
found-none : (p : ℕ → Bool) (a n : ℕ) → find p (range_with_len a n) ≡ None → (j : ℕ) → a ≤ j → j < a + n → p j ≡ false
found-none p a zero found j from below = absurd (omega arith)
found-none p a (suc n) found j from below = none-by p a n (p a) refl (found-none p (a + 1) n) found j from below

-- ## One child more

-- one item more passes where the changed one didn't and does
count-more : {X : Type 0} (p : X → Bool) (xs : List X) (i : ℕ) (x : X) (change : X → X) → slice_get xs i ≡ Some x → p x ≡ false
    → p (change x) ≡ true → count_by p (update xs i change) ≡ count_by p xs + 1
count-more p [] i x change at before after = absurd (cc)
count-more p (z ∷ xs) zero x change at before after =
    let same : x ≡ z = cc in
    let before' : p z ≡ false = subst (λ y. p y ≡ false) same before in
    let after' : p (change z) ≡ true = subst (λ y. p (change y) ≡ true) same after in
    rw (count-cons p (change z) xs, count-cons p z xs, before', after') (omega arith)
count-more p (z ∷ xs) (suc i) x change at before after =
    rw (count-cons p z (update xs i change), count-cons p z xs) (omega (arith, count-more p xs i x change at before after))

-- the laws of the machine on a changed child: it stands where it stood, each other one stays, and there are as many
pub record ChildrenChange : Type 0 where
  pub there : (children : List Child) (k : ℕ) (c : Child) (change : Child → Child) → slice_get children k ≡ Some c → slice_get (update children k change) k ≡ Some (change c)
  pub others : (children : List Child) (k other : ℕ) (change : Child → Child) → other ≢ k → slice_get (update children k change) other ≡ slice_get children other
  pub as_many : (children : List Child) (k : ℕ) (change : Child → Child) → length (update children k change) ≡ length children

-- a child that is gone doesn't run
gone-rests : (c : Child) → is_empty c.phase ≡ true → is_running c.phase ≡ false
gone-rests c gone = by c.phase gone where
  by : (p : _) → is_empty p ≡ true → is_running p ≡ false
  by p gone = grind arith

-- ## In order

-- the first so many children were started, in order, and nothing else was done
pub record StartsInOrder (base : State) (b : SeenBook) : Type 0 where
  pub count : ℕ
  pub events : map (λ (e : Entry). e.event) b.history ≡ starts_of count
  pub few : count ≤ base.shape.target
  pub within : count ≤ length base.children
  pub serving : is_serving b.state.going ≡ true
  pub shape : b.state.shape ≡ base.shape
  pub many : length b.state.children ≡ length base.children
  pub running : running_count b.state.children ≡ count
  pub there : (k : ℕ) → k < count → child_passes (λ c. is_empty c.phase) b.state k ≡ false
  pub gone : (k : ℕ) → count ≤ k → k < length base.children → child_passes (λ c. is_empty c.phase) b.state k ≡ true

none-run : (n : ℕ) → running_count (replicate n no_child) ≡ 0
none-run zero = refl
none-run (suc n) = rw (count-cons (λ (c : Child). is_running c.phase) no_child (replicate n no_child)) (omega (arith, none-run n))

all-gone-at : (n k : ℕ) → k < n → option_map_or (λ (c : Child). is_empty c.phase) (slice_get (replicate n no_child) k) false ≡ true
all-gone-at zero k below = absurd (omega arith)
all-gone-at (suc n) zero below = refl
all-gone-at (suc n) (suc k) below = all-gone-at n k (omega arith)

opens-so : (slots children : ℕ) (shape : Shape) (folded : Folded) (passes : ℕ)
    → (let s = opening_state slots children shape in let b : SeenBook = record { base = s; folded = folded; history = []; state = s; passes = passes } in StartsInOrder s b)
opens-so slots children shape folded passes = record {
  count = 0;
  events = refl;
  few = omega arith;
  within = omega arith;
  serving = refl;
  shape = refl;
  many = refl;
  running = none-run children;
  there = λ k below. absurd (omega arith);
  gone = λ k from below. all-gone-at children k (omega (arith, below, length-replicate children no_child));
}

-- none was at first
pub opens-in-order : (b : SeenBook) → after b.base b.history ≡ b.state → IsOpening b → StartsInOrder b.base b
opens-in-order b state opening =
    let o = opening.opened in
    let here : b.state ≡ b.base = sym state ∙ ap (after b.base) opening.none in
    let opened : SeenBook = record { base = opening_state o.slots o.children o.shape; folded = b.folded; history = []; state = opening_state o.slots o.children o.shape; passes = b.passes } in
    let same : b ≡ opened =
    ap (λ (s : State). let x : SeenBook = record { base = b.base; folded = b.folded; history = b.history; state = s; passes = b.passes } in x) here
    ∙ ap (λ (h : List Entry). let x : SeenBook = record { base = b.base; folded = b.folded; history = h; state = b.base; passes = b.passes } in x) opening.none
    ∙ ap (λ (s : State). let x : SeenBook = record { base = s; folded = b.folded; history = []; state = s; passes = b.passes } in x) o.state in
    subst (λ (x : SeenBook). StartsInOrder x.base x) (sym same) (opens-so o.slots o.children o.shape b.folded b.passes)

found-in : (s : State) (may : Bool) (k : ℕ) (found : Option ℕ) → cond may found None ≡ Some k → found ≡ Some k
found-in s true k found is = is
found-in s false k found is = absurd (cc)

-- the child that may be started next is the one behind those that were
record IsNextOne (base : State) (s : State) (count k : ℕ) : Type 0 where
  pub same : k ≡ count
  pub within : k < length base.children

next-one : (base : State) (b : SeenBook) (k : ℕ) (o : StartsInOrder base b) → startable b.state ≡ Some k → IsNextOne base b.state o.count k
next-one base b k o found =
    let is = is-startable b.state k found in
    let first =
    found-first (child_passes (λ c. is_empty c.phase) b.state) 0 (length b.state.children) k
    (found-in b.state (is_serving b.state.going && nat_lt (running_count b.state.children) b.state.shape.target) k
    (find (child_passes (λ c. is_empty c.phase) b.state) (range_with_len 0 (length b.state.children))) found) in
    let within : k < length base.children = omega (arith, first.within, o.many) in
    record {
      same =
          elim (cases_order k o.count) [
            | inl same ↦ same
            | inr (inl below) ↦ let gone = is.empty in let there = o.there k below in absurd (cc (gone, there))
            | inr (inr above) ↦
                let gone = o.gone o.count (omega arith) (omega (arith, above, within)) in
                let there = first.earlier o.count (omega arith) above in
                absurd (cc (gone, there))
          ];
      within = within;
    }

-- the children behind those that were started, and before them, once one more was
changed-at : ChildrenChange → (test : Child → Bool) (s : State) (k : ℕ) (c : Child) (change : Child → Child) → slice_get s.children k ≡ Some c
    → child_passes test (record s { children = update s.children k change }) k ≡ test (change c)
changed-at law test s k c change at = ap (λ (o : Option Child). option_map_or test o false) (law.there s.children k c change at)

kept-at : ChildrenChange → (test : Child → Bool) (s : State) (k j : ℕ) (change : Child → Child) → j ≢ k
    → child_passes test (record s { children = update s.children k change }) j ≡ child_passes test s j
kept-at law test s k j change other = ap (λ (o : Option Child). option_map_or test o false) (law.others s.children k j change other)

started-then : ChildrenChange → (base : State) (b : SeenBook) (k : ℕ) (o : StartsInOrder base b) → startable b.state ≡ Some k
    → StartsInOrder base (record b { history = b.history ++ entry_of 0 (event.StartChild k) b ∷ []; state = next b.state (event.StartChild k) })
started-then law base b k o found =
    let is = is-startable b.state k found in
    let one = next-one base b k o found in
    let child = child-by (λ (c : Child). is_empty c.phase) b.state.children k (slice_get b.state.children k) refl is.empty in
    let change = started_child b.state.newest b.state.shape in
    record {
      count = o.count + 1;
      events =
          map-append (λ (e : Entry). e.event) b.history (entry_of 0 (event.StartChild k) b ∷ [])
          ∙ ap (λ (es : List Event). es ++ event.StartChild k ∷ []) o.events
          ∙ ap (λ (j : ℕ). starts_of o.count ++ event.StartChild j ∷ []) one.same
          ∙ sym (map-range_with_len_more event.StartChild 0 o.count o.count (omega arith));
      few = let less = is.few in let running = o.running in let shape = ap (λ (x : Shape). x.target) o.shape in grind (arith, nat_tests);
      within = omega (arith, one.within, one.same);
      serving = o.serving;
      shape = o.shape;
      many = law.as_many b.state.children k change ∙ o.many;
      running =
          count-more (λ (c : Child). is_running c.phase) b.state.children k child.child change child.at (gone-rests child.child child.passes) refl
          ∙ ap (λ (n : ℕ). n + 1) o.running;
      there =
          λ j below. elim (cases_order j k) [
            | inl same ↦
                ap (child_passes (λ (c : Child). is_empty c.phase) (next b.state (event.StartChild k))) same
                ∙ changed-at law (λ (c : Child). is_empty c.phase) b.state k child.child change child.at
            | inr (inl less) ↦
                kept-at law (λ (c : Child). is_empty c.phase) b.state k j change (λ same. omega (arith, same, less))
                ∙ o.there j (omega (arith, less, one.same))
            | inr (inr more) ↦ absurd (omega (arith, more, below, one.same))
          ];
      gone =
          λ j from below. kept-at law (λ (c : Child). is_empty c.phase) b.state k j change (λ same. omega (arith, same, from, one.same))
          ∙ o.gone j (omega (arith, from)) below;
    }

-- one more was started
pub starts-next : ChildrenChange → (base : State) (b b' : SeenBoard) (k : ℕ) → startable b.book.state ≡ Some k → b' ≡ with_recorded 0 (event.StartChild k) b
    → StartsInOrder base b.book → StartsInOrder base b'.book
starts-next law base b b' k found is o = subst (λ (x : SeenBoard). StartsInOrder base x.book) (sym is) (started-then law base b.book k o found)

-- where no child may be started any more all were that the shape asks for
count-all : (base : State) (b : SeenBook) (o : StartsInOrder base b) (few : Bool) → nat_lt (running_count b.state.children) b.state.shape.target ≡ few
    → cond (is_serving b.state.going && few) (find (child_passes (λ c. is_empty c.phase) b.state) (range_with_len 0 (length b.state.children))) None ≡ None
    → o.count ≡ asked_children base
count-all base b o false less none =
    let running = o.running in
    let shape = ap (λ (x : Shape). x.target) o.shape in
    let few = o.few in
    let within = o.within in
    let full : base.shape.target ≤ o.count = grind (arith, nat_tests) in
    omega arith
count-all base b o true less none =
    let search = ap (λ (serving : Bool). cond (serving && true) (find (child_passes (λ (c : Child). is_empty c.phase) b.state) (range_with_len 0 (length b.state.children))) None) (sym o.serving) ∙ none in
    let many = o.many in
    let few = o.few in
    let within = o.within in
    elim (cases_order o.count (length base.children)) [
      | inl same ↦ omega arith
      | inr (inl below) ↦
          let gone = o.gone o.count (omega arith) below in
          let there = found-none (child_passes (λ c. is_empty c.phase) b.state) 0 (length b.state.children) search o.count (omega arith) (omega arith) in
          absurd (cc (gone, there))
      | inr (inr above) ↦ omega arith
    ]

pub all-started : (base : State) (b : SeenBook) → StartsInOrder base b → startable b.state ≡ None → BeginsWithStarts (asked_children base) b.history
all-started base b o none =
    let all = count-all base b o (nat_lt (running_count b.state.children) b.state.shape.target) refl none in
    ([], o.events ∙ ap starts_of all ∙ sym (append-nil (starts_of (asked_children base))))
