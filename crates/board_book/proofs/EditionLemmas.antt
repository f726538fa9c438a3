-- The editions of generations: while a history goes on, and where it is folded.
use Rattle.std.proofs.Common.{◌≡◌, ◌==◌, inl, inr, ℕ, zero, suc, ◌+◌, ◌<◌, ◌≤◌, Bool, true, false, cond, List, [], ◌∷◌, ◌++◌, map, filter, replicate, Option, None, Some, slice_get, refl, sym, ap, subst, ◌∙◌, append_assoc, eq-eqb, eqb-true, ne_eqb, arith}
use Rattle.std.specs.List.{list_any, range_with_len}
use Rattle.std.specs.Option.{option_map}
use Rattle.std.proofs.lemmas.Bool.{cases_order}
use Rattle.std.proofs.lemmas.List.{append-nil}
use Rattle.std.proofs.lemmas.List.Sums.{sum_by-append}
use Rattle.mpm_base.specs.declared.shape.Shape.{Shape}
use Rattle.conn_machine.specs.declared.event.Commanded.TheVariants.{Graceful}
use Rattle.conn_machine.specs.declared.event.Entry.{Entry}
use Rattle.conn_machine.specs.declared.event.Event.{Event}
use Rattle.conn_machine.specs.declared.event.Event.TheVariants as event
use Rattle.conn_machine.specs.declared.folded.Edition.{Edition}
use Rattle.conn_machine.specs.declared.folded.Folded.{Folded}
use Rattle.conn_machine.specs.declared.state.State.{State}
use Rattle.conn_machine.specs.Events.{begins_generation, count_events, is_order}
use Rattle.conn_machine.specs.Children.{no_child}
use Rattle.conn_machine.specs.Folds.{HaveBegun, begun_editions, first_edition, fold_of, is_child_of, is_in_use, opening_record}
use Rattle.conn_machine.specs.Generations.{GenerationsBeginInOrder}
use Rattle.conn_machine.specs.Runs.{after}
use Rattle.conn_machine.specs.States.{opening_state}
use Rattle.conn_machine.specs.Table.{next}
use Rattle.board_book.specs.Book.{SeenBook, book_with_entry, entry_of, folded_book}
use Rattle.board_book.specs.Editions.{KeepsEditions, UsedHaveEditions, edition_among, edition_of, editions_in, orders_in}
use Rattle.board_book.specs.EditionsInside.{HasEditions, with_begun}

-- ## Lists of editions

-- what is found in a list is found in a longer one
among_more : (generation number : ℕ) (xs ys : List Edition) → edition_among generation xs ≡ Some number → edition_among generation (xs ++ ys) ≡ Some number
among_more generation number [] ys is = absurd (cc)
among_more generation number (x ∷ xs) ys is = by (x.generation == generation) refl (among_more generation number xs ys)
  where
    by : (found : Bool) → (x.generation == generation) ≡ found
        → (edition_among generation xs ≡ Some number → edition_among generation (xs ++ ys) ≡ Some number)
        → edition_among generation (x ∷ xs ++ ys) ≡ Some number
    by true found rest = rw found (rw found at is)
    by false found rest = rw found (rest (rw found at is))

-- what isn't found in the first part is looked for in the second
among_past : (generation : ℕ) (xs ys : List Edition) → edition_among generation xs ≡ None → edition_among generation (xs ++ ys) ≡ edition_among generation ys
among_past generation [] ys none = refl
among_past generation (x ∷ xs) ys none = by (x.generation == generation) refl (among_past generation xs ys)
  where
    by : (found : Bool) → (x.generation == generation) ≡ found
        → (edition_among generation xs ≡ None → edition_among generation (xs ++ ys) ≡ edition_among generation ys)
        → edition_among generation (x ∷ xs ++ ys) ≡ edition_among generation ys
    by true found rest = let some : Some x.edition ≡ None = rw found at none in absurd (cc)
    by false found rest = rw found (rest (rw found at none))

-- a generation that fails a test of generations isn't found among those that pass
among_failing : (test : ℕ → Bool) (generation : ℕ) (xs : List Edition) → test generation ≡ false → edition_among generation (filter (λ e. test e.generation) xs) ≡ None
among_failing test generation [] fails = refl
among_failing test generation (x ∷ xs) fails = by (test x.generation) refl (among_failing test generation xs fails)
  where
    by : (passes : Bool) → test x.generation ≡ passes → edition_among generation (filter (λ e. test e.generation) xs) ≡ None
        → edition_among generation (filter (λ e. test e.generation) (x ∷ xs)) ≡ None
    by true passes rest =
        let differs : (x.generation ≡ generation → ⊥) = (λ (same : x.generation ≡ generation). let both = ap test same in cc) in
        let other : (x.generation == generation) ≡ false = ne_eqb x.generation generation differs in
        rw (passes, other) rest
    by false passes rest = rw passes rest

-- what is found among those that pass a test of generations is found among all
among_passing : (test : ℕ → Bool) (generation number : ℕ) (xs : List Edition) → edition_among generation (filter (λ e. test e.generation) xs) ≡ Some number
    → edition_among generation xs ≡ Some number
among_passing test generation number [] is = is
among_passing test generation number (x ∷ xs) is = by (test x.generation) (x.generation == generation) refl refl (among_passing test generation number xs)
  where
    by : (passes found : Bool) → test x.generation ≡ passes → (x.generation == generation) ≡ found
        → (edition_among generation (filter (λ e. test e.generation) xs) ≡ Some number → edition_among generation xs ≡ Some number)
        → edition_among generation (x ∷ xs) ≡ Some number
    by true true passes found rest = rw found (rw (passes, found) at is)
    by true false passes found rest = rw found (rest (rw (passes, found) at is))
    by false true passes found rest =
        let same : x.generation ≡ generation = eqb-true x.generation generation found in
        let none : edition_among generation (filter (λ e. test e.generation) xs) ≡ None =
        among_failing test generation xs (subst (λ (g : ℕ). test g ≡ false) same passes) in
        let some : edition_among generation (filter (λ e. test e.generation) xs) ≡ Some number = rw passes at is in
        absurd (cc)
    by false false passes found rest = rw found (rest (rw passes at is))

-- a generation above all of them has none
among_below : (generation : ℕ) (xs : List Edition) → ((place : ℕ) (e : Edition) → slice_get xs place ≡ Some e → e.generation < generation)
    → edition_among generation xs ≡ None
among_below generation [] below = refl
among_below generation (x ∷ xs) below =
    let first = below 0 x refl in
    let other : (x.generation == generation) ≡ false = ne_eqb x.generation generation (λ same. absurd (omega (arith, same, first))) in
    rw other (among_below generation xs (λ place. below (suc place)))

-- those of generations that follow one another have none behind them, and none before them
among_range : (generation first many : ℕ) (xs : List Edition) → map (λ e. e.generation) xs ≡ range_with_len first many → first + many ≤ generation
    → edition_among generation xs ≡ None
among_range generation first many [] follow past = refl
among_range generation first zero (x ∷ xs) follow past = absurd (cc)
among_range generation first (suc many) (x ∷ xs) follow past =
    let here : x.generation ≡ first = cc in
    let rest : map (λ e. e.generation) xs ≡ range_with_len (first + 1) many = cc in
    let other : (x.generation == generation) ≡ false = ne_eqb x.generation generation (λ same. absurd (omega (arith, same, here, past))) in
    rw other (among_range generation (first + 1) many xs rest (omega (arith, past)))

among_before : (generation first many : ℕ) (xs : List Edition) → map (λ e. e.generation) xs ≡ range_with_len first many → generation < first
    → edition_among generation xs ≡ None
among_before generation first many [] follow before = refl
among_before generation first zero (x ∷ xs) follow before = absurd (cc)
among_before generation first (suc many) (x ∷ xs) follow before =
    let here : x.generation ≡ first = cc in
    let rest : map (λ e. e.generation) xs ≡ range_with_len (first + 1) many = cc in
    let other : (x.generation == generation) ≡ false = ne_eqb x.generation generation (λ same. absurd (omega (arith, same, here, before))) in
    rw other (among_before generation (first + 1) many xs rest (omega (arith, before)))

-- and have each of these
among_within : (generation first many : ℕ) (xs : List Edition) → map (λ e. e.generation) xs ≡ range_with_len first many → first ≤ generation
    → generation < first + many → (number : ℕ) × (edition_among generation xs ≡ Some number)
among_within generation first zero xs follow from below = absurd (omega (arith, from, below))
among_within generation first (suc many) [] follow from below = absurd (cc)
among_within generation first (suc many) (x ∷ xs) follow from below = by (x.generation == generation) refl (among_within generation (first + 1) many xs rest)
  where
    here : x.generation ≡ first
    here = cc

    rest : map (λ e. e.generation) xs ≡ range_with_len (first + 1) many
    rest = cc

    by : (found : Bool) → (x.generation == generation) ≡ found
        → (first + 1 ≤ generation → generation < first + 1 + many → (number : ℕ) × (edition_among generation xs ≡ Some number))
        → (number : ℕ) × (edition_among generation (x ∷ xs) ≡ Some number)
    by true found later = (x.edition, rw found refl)
    by false found later =
        let differs : (first ≡ generation → ⊥) = (λ (same : first ≡ generation). let eq = eq-eqb x.generation generation (here ∙ same) in cc) in
        let has = later (omega (arith, from, differs)) (omega (arith, below)) in
        (has.0, rw found has.1)

-- ## A history that goes on

-- the one edition that begins with an entry, where one does
begun_one : GenerationsBeginInOrder → (base : State) (orders : ℕ) (history : List Entry) (e : Entry)
    → begun_editions base.newest orders (history ++ e ∷ [])
    ≡ with_begun e.event ((after base history).newest + 1) (orders + count_events is_order history + 1) (begun_editions base.newest orders history)
begun_one law base orders history e = by (begins_generation e.event) refl
  where
    by : (begins : Bool) → begins_generation e.event ≡ begins → begun_editions base.newest orders (history ++ e ∷ [])
        ≡ with_begun e.event ((after base history).newest + 1) (orders + count_events is_order history + 1) (begun_editions base.newest orders history)
    by true begins = rw begins (rw begins at (law.one_more base history orders e))
    by false begins =
        let same : begun_editions base.newest orders (history ++ e ∷ []) ≡ begun_editions base.newest orders history =
        rw begins at (law.one_more base history orders e) in
        rw begins (same ∙ sym (append-nil (begun_editions base.newest orders history)))

-- the editions that begin in two histories, one behind the other, are those of the first, and those that begin in the second behind it
begun_joined : GenerationsBeginInOrder → (base : State) (orders : ℕ) (a b : List Entry)
    → begun_editions base.newest orders (a ++ b)
    ≡ begun_editions base.newest orders a ++ begun_editions (after base a).newest (orders + count_events is_order a) b
begun_joined law base orders a [] = ap (begun_editions base.newest orders) (append-nil a) ∙ sym (append-nil (begun_editions base.newest orders a))
begun_joined law base orders a (e ∷ b) =
    ap (begun_editions base.newest orders) (sym (append_assoc a (e ∷ []) b))
    ∙ begun_joined law base orders (a ++ e ∷ []) b
    ∙ ap (λ (es : List Edition). es ++ last) (begun_one law base orders a e)
    ∙ append_assoc (begun_editions base.newest orders a) one last
    ∙ ap (λ (es : List Edition). begun_editions base.newest orders a ++ es) (sym (first (begun_joined law between given (e ∷ []) b)))
  where
    between : State
    between = after base a

    given : ℕ
    given = orders + count_events is_order a

    one : List Edition
    one = with_begun e.event (between.newest + 1) (given + 1) []

    last : List Edition
    last = begun_editions (after base (a ++ e ∷ [])).newest (orders + count_events is_order (a ++ e ∷ [])) b

    none : given + count_events is_order [] + 1 ≡ given + 1
    none = omega arith

    newest : (after between (e ∷ [])).newest ≡ (after base (a ++ e ∷ [])).newest
    newest =
        let counted = sum_by-append (λ (x : Entry). cond (begins_generation x.event) 1 0) a (e ∷ []) in
        omega (arith, counted, law.newest between (e ∷ []), law.newest base a, law.newest base (a ++ e ∷ []))

    numbered : given + count_events is_order (e ∷ []) ≡ orders + count_events is_order (a ++ e ∷ [])
    numbered = let counted = sum_by-append (λ (x : Entry). cond (is_order x.event) 1 0) a (e ∷ []) in omega (arith, counted)

    first : begun_editions between.newest given (e ∷ b)
        ≡ begun_editions between.newest given (e ∷ []) ++ begun_editions (after between (e ∷ [])).newest (given + count_events is_order (e ∷ [])) b
        → begun_editions between.newest given (e ∷ b) ≡ one ++ last
    first both =
        both
        ∙ ap (λ (es : List Edition). es ++ begun_editions (after between (e ∷ [])).newest (given + count_events is_order (e ∷ [])) b)
        (begun_one law between given [] e ∙ ap (λ (n : ℕ). with_begun e.event (between.newest + 1) n []) none)
        ∙ ap (λ (n : ℕ). one ++ begun_editions n (given + count_events is_order (e ∷ [])) b) newest
        ∙ ap (λ (n : ℕ). one ++ begun_editions (after base (a ++ e ∷ [])).newest n b) numbered

-- so what is known of a generation stays known
joined_keeps : GenerationsBeginInOrder → (base : State) (f : Folded) (history more : List Entry) (generation number : ℕ)
    → edition_among generation (f.editions ++ begun_editions base.newest f.orders history) ≡ Some number
    → edition_among generation (f.editions ++ begun_editions base.newest f.orders (history ++ more)) ≡ Some number
joined_keeps law base f history more generation number is =
    let first = f.editions ++ begun_editions base.newest f.orders history in
    let rest = begun_editions (after base history).newest (f.orders + count_events is_order history) more in
    subst (λ (es : List Edition). edition_among generation es ≡ Some number)
    (append_assoc f.editions (begun_editions base.newest f.orders history) rest ∙ ap (λ (es : List Edition). f.editions ++ es) (sym (begun_joined law base f.orders history more)))
    (among_more generation number first rest is)

-- a book that goes on keeps its editions
pub keeps_on : GenerationsBeginInOrder → (old new : SeenBook) (more : List Entry) → new.base ≡ old.base → new.folded ≡ old.folded
    → new.history ≡ old.history ++ more → KeepsEditions old new
keeps_on law old new more base folded history generation number is =
    let behind = joined_keeps law old.base old.folded old.history more generation number is in
    let same : editions_in new ≡ old.folded.editions ++ begun_editions old.base.newest old.folded.orders (old.history ++ more) = rw (base, folded, history) refl in
    ap (edition_among generation) same ∙ behind

-- ## Generations that begin

-- the editions of a record and of the history behind it have no generation above the newest one
none_above : GenerationsBeginInOrder → (base : State) (f : Folded) (history : List Entry) (generation : ℕ) → HaveBegun base f
    → (after base history).newest < generation → edition_among generation (f.editions ++ begun_editions base.newest f.orders history) ≡ None
none_above law base f history generation begun above =
    let newest = law.newest base history in
    among_past generation f.editions (begun_editions base.newest f.orders history)
    (among_below generation f.editions (λ place e at. let up = begun place e at in omega (arith, up, newest, above)))
    ∙ among_range generation (base.newest + 1) (count_events begins_generation history) (begun_editions base.newest f.orders history)
    (law.begun base history f.orders) (omega (arith, newest, above))

-- the editions of a book that goes on by one entry
editions_one : GenerationsBeginInOrder → (b : SeenBook) (who : ℕ) (e : Event)
    → editions_in (book_with_entry who e b) ≡ with_begun e ((after b.base b.history).newest + 1) (orders_in b + 1) (editions_in b)
editions_one law b who e =
    let begun = begun_editions b.base.newest b.folded.orders b.history in
    let one : List Edition = with_begun e ((after b.base b.history).newest + 1) (orders_in b + 1) [] in
    ap (λ (es : List Edition). b.folded.editions ++ es) (begun_one law b.base b.folded.orders b.history (entry_of who e b))
    ∙ sym (append_assoc b.folded.editions begun one)

-- a new generation has the number of the order that began it
pub newest_edition : GenerationsBeginInOrder → (b : SeenBook) (who : ℕ) (shape : Shape) → HaveBegun b.base b.folded → after b.base b.history ≡ b.state
    → edition_of (book_with_entry who (event.Command (Graceful shape)) b) (b.state.newest + 1) ≡ Some (orders_in b + 1)
newest_edition law b who shape begun state_is =
    let top : ℕ = (after b.base b.history).newest in
    let e : Edition = record { generation = top + 1; edition = orders_in b + 1 } in
    let generation : b.state.newest + 1 ≡ top + 1 = ap (λ (s : State). s.newest + 1) (sym state_is) in
    let none = none_above law b.base b.folded b.history (top + 1) begun (omega arith) in
    let here : (top + 1 == top + 1) ≡ true = eq-eqb (top + 1) (top + 1) refl in
    let found : edition_among (top + 1) (e ∷ []) ≡ Some (orders_in b + 1) = rw here refl in
    ap (edition_of (book_with_entry who (event.Command (Graceful shape)) b)) generation
    ∙ ap (edition_among (top + 1)) (editions_one law b who (event.Command (Graceful shape)))
    ∙ among_past (top + 1) (editions_in b) (e ∷ []) none
    ∙ found

-- no other event changes what a generation has
pub other_editions : GenerationsBeginInOrder → (b : SeenBook) (who : ℕ) (e : Event) (generation : ℕ) → begins_generation e ≡ false
    → edition_of (book_with_entry who e b) generation ≡ edition_of b generation
other_editions law b who e generation other =
    let same : with_begun e ((after b.base b.history).newest + 1) (orders_in b + 1) (editions_in b) ≡ editions_in b =
    rw other (append-nil (editions_in b)) in
    ap (edition_among generation) (editions_one law b who e ∙ same)

-- ## Generations in use

-- each generation in use behind the history has an edition
used_after : GenerationsBeginInOrder → (base : State) (f : Folded) (history : List Entry) (editions : List Edition) → HasEditions base f history editions
    → (generation : ℕ) → is_in_use (after base history) generation ≡ true → (number : ℕ) × (edition_among generation (f.editions ++ begun_editions base.newest f.orders history) ≡ Some number)
used_after law base f history editions has generation used =
    elim (law.used base history generation used) [
      | inl before ↦ (let was = has.used generation before in (was.0, among_more generation was.0 f.editions (begun_editions base.newest f.orders history) was.1))
      | inr since ↦
          (let newest = law.newest base history in
          let none : edition_among generation f.editions ≡ None =
          among_below generation f.editions (λ place e at. let up = has.begun place e at in omega (arith, up, since.0)) in
          let new = among_within generation (base.newest + 1) (count_events begins_generation history) (begun_editions base.newest f.orders history)
          (law.begun base history f.orders) (omega (arith, since.0)) (omega (arith, since.1, newest)) in
          (new.0, among_past generation f.editions (begun_editions base.newest f.orders history) none ∙ new.1))
    ]

-- so it is in a book
pub used_in : GenerationsBeginInOrder → (b : SeenBook) (editions : List Edition) → HasEditions b.base b.folded b.history editions
    → after b.base b.history ≡ b.state → UsedHaveEditions b
used_in law b editions has state_is generation used =
    used_after law b.base b.folded b.history editions has generation (subst (λ (s : State). is_in_use s generation ≡ true) (sym state_is) used)

-- those that stay in use have the edition that they had
among_used : GenerationsBeginInOrder → (s : State) (generation : ℕ) (editions : List Edition) → is_in_use s generation ≡ true
    → edition_among generation (filter (λ e. is_in_use s e.generation) editions) ≡ edition_among generation editions
among_used law s generation editions used = ap (option_map (λ (e : Edition). e.edition)) (law.kept_in_use s generation editions used)

-- ## What is kept

-- an entry that begins a generation begins the next one
pub newest_by : GenerationsBeginInOrder → (s : State) (e : Entry) → begins_generation e.event ≡ true → (next s e.event).newest ≡ s.newest + 1
newest_by law s e begins = let rises : (next s e.event).newest ≡ s.newest + 1 = rw begins at (law.newest s (e ∷ [])) in rises

-- the editions of a history that goes on by an entry
pub editions_more : GenerationsBeginInOrder → (base : State) (f : Folded) (history : List Entry) (editions : List Edition) (e : Entry) (generation : ℕ)
    → HasEditions base f history editions → (begins_generation e.event ≡ true → generation ≡ (after base history).newest + 1)
    → HasEditions base f (history ++ e ∷ []) (with_begun e.event generation (f.orders + count_events is_order history + 1) editions)
editions_more law base f history editions e generation has numbered = record {
  all =
      let number : ℕ = f.orders + count_events is_order history + 1 in
      let begun = begun_editions base.newest f.orders history in
      let top : ℕ = (after base history).newest + 1 in
      same (begins_generation e.event) refl number
      ∙ ap (with_begun e.event top number) has.all
      ∙ append_assoc f.editions begun (with_begun e.event top number [])
      ∙ ap (λ (es : List Edition). f.editions ++ es) (sym (begun_one law base f.orders history e));
  begun = has.begun;
  used = has.used;
}
  where
    same : (begins : Bool) → begins_generation e.event ≡ begins → (number : ℕ)
        → with_begun e.event generation number editions ≡ with_begun e.event ((after base history).newest + 1) number editions
    same true begins number = ap (λ (g : ℕ). with_begun e.event g number editions) (numbered begins)
    same false begins number = rw begins refl

-- an event that begins no generation leaves them as they are
pub editions_same : GenerationsBeginInOrder → (base : State) (f : Folded) (history : List Entry) (editions : List Edition) (e : Entry)
    → HasEditions base f history editions → begins_generation e.event ≡ false → HasEditions base f (history ++ e ∷ []) editions
editions_same law base f history editions e has other =
    let same : with_begun e.event 0 (f.orders + count_events is_order history + 1) editions ≡ editions = rw other (append-nil editions) in
    subst (HasEditions base f (history ++ e ∷ [])) same
    (editions_more law base f history editions e 0 has (λ begins. absurd (cc)))

-- behind a fold the record has those of the generations in use, and so has the list
pub editions_folded : GenerationsBeginInOrder → (base : State) (f g : Folded) (history : List Entry) (editions : List Edition) (s : State)
    → HasEditions base f history editions → after base history ≡ s → HaveBegun s g → g.editions ≡ filter (λ e. is_in_use s e.generation) editions
    → HasEditions s g [] (filter (λ e. is_in_use s e.generation) editions)
editions_folded law base f g history editions s has state_is begun is = record {
  all = sym is ∙ sym (append-nil g.editions);
  begun = begun;
  used = λ generation used.
      let was = used_after law base f history editions has generation (subst (λ (t : State). is_in_use t generation ≡ true) (sym state_is) used) in (
        was.0,
        ap (edition_among generation) is
            ∙ among_used law s generation editions used
            ∙ ap (edition_among generation) has.all
            ∙ was.1,
      );
}

-- no child is there where a server opens
none_there : (generation children : ℕ) → list_any (is_child_of generation) (replicate children no_child) ≡ false
none_there generation zero = refl
none_there generation (suc children) = none_there generation children

-- where it opens it has the edition of the first generation
pub editions_first : (slots children passes : ℕ) (shape : Shape) → HaveBegun (opening_state slots children shape) (opening_record passes)
    → HasEditions (opening_state slots children shape) (opening_record passes) [] (first_edition ∷ [])
editions_first slots children passes shape begun = record {
  all = refl;
  begun = begun;
  used = λ generation used. by generation (generation == 0) refl used;
}
  where
    by : (generation : ℕ) (first : Bool) → (generation == 0) ≡ first → is_in_use (opening_state slots children shape) generation ≡ true
        → (number : ℕ) × (edition_among generation (first_edition ∷ []) ≡ Some number)
    by generation true first used =
        let is : generation ≡ 0 = eqb-true generation 0 first in
        (0, subst (λ (g : ℕ). edition_among g (first_edition ∷ []) ≡ Some 0) (sym is) refl)
    by generation false first used =
        let never : false ≡ true = rw (first, none_there generation children) at used in
        absurd (cc)

-- ## A fold

-- a fold leaves each generation in use its edition
pub folded_edition : GenerationsBeginInOrder → (b : SeenBook) (lines : List (List ℕ)) (generation : ℕ) → is_in_use (after b.base b.history) generation ≡ true
    → edition_of (folded_book lines b) generation ≡ edition_of b generation
folded_edition law b lines generation used =
    ap (edition_among generation) (append-nil (filter (λ e. is_in_use (after b.base b.history) e.generation) (editions_in b)))
    ∙ among_used law (after b.base b.history) generation (editions_in b) used

-- what has an edition behind a fold, and in what follows, has it behind all the entries
pub unfolded_keeps : GenerationsBeginInOrder → (later whole : SeenBook) (history : List Entry) (lines : List (List ℕ)) → HaveBegun whole.base whole.folded
    → later.base ≡ after whole.base history → later.folded ≡ fold_of whole.base history lines whole.folded → whole.history ≡ history ++ later.history
    → KeepsEditions later whole
unfolded_keeps law later whole history lines begun base folded history_is generation number is =
    ap (λ (es : List Edition). edition_among generation es) all ∙ by (edition_among generation kept) refl
  where
    s : State
    s = after whole.base history

    first : List Edition
    first = whole.folded.editions ++ begun_editions whole.base.newest whole.folded.orders history

    kept : List Edition
    kept = filter (λ e. is_in_use s e.generation) first

    rest : List Edition
    rest = begun_editions s.newest (whole.folded.orders + count_events is_order history) later.history

    all : editions_in whole ≡ first ++ rest
    all =
        ap (λ (h : List Entry). whole.folded.editions ++ begun_editions whole.base.newest whole.folded.orders h) history_is
        ∙ ap (λ (es : List Edition). whole.folded.editions ++ es) (begun_joined law whole.base whole.folded.orders history later.history)
        ∙ sym (append_assoc whole.folded.editions (begun_editions whole.base.newest whole.folded.orders history) rest)

    found : edition_among generation (kept ++ rest) ≡ Some number
    found = rw (base, folded) at is

    early : generation ≤ s.newest → edition_among generation rest ≡ Some number → edition_among generation first ≡ None
    early up in_rest =
        let none : edition_among generation rest ≡ None =
        among_before generation (s.newest + 1) (count_events begins_generation later.history) rest
        (law.begun s later.history (whole.folded.orders + count_events is_order history)) (omega (arith, up)) in
        absurd (cc)

    above : edition_among generation rest ≡ Some number → edition_among generation first ≡ None
    above in_rest =
        elim (cases_order generation s.newest) [
          | inl same ↦ early (omega (arith, same)) in_rest
          | inr (inl below) ↦ early (omega (arith, below)) in_rest
          | inr (inr past) ↦ none_above law whole.base whole.folded history generation begun past
        ]

    by : (o : Option ℕ) → edition_among generation kept ≡ o → edition_among generation (first ++ rest) ≡ Some number
    by None none =
        let later_on : edition_among generation rest ≡ Some number = sym (among_past generation kept rest none) ∙ found in
        among_past generation first rest (above later_on) ∙ later_on
    by (Some n) some =
        let same : Some n ≡ Some number = sym (among_more generation n kept rest some) ∙ found in
        let all_of : edition_among generation first ≡ Some n = among_passing (is_in_use s) generation n first some in
        among_more generation n first rest all_of ∙ same
