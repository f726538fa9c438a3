-- Two folds, one behind the other, are one.
use Rattle.std.proofs.Common.{◌≡◌, ◌≤◌, ℕ, zero, suc, ◌+◌, ◌-◌, Bool, List, [], ◌∷◌, ◌++◌, length, map, take, flat_map, replicate, Option, None, refl, sym, ap, subst, ◌∙◌, append_assoc, append-nil, length-append, arith}
use Rattle.std.specs.Prelude.{slice_index}
use Rattle.std.specs.List.{enumerate_from}
use Rattle.std.proofs.lemmas.Grind.{flat_map-append}
use Rattle.std.proofs.lemmas.List.Sums.{count_by-le-length, fold-append, length-filter, sum_by-append}
use Rattle.mpm_base.specs.Cause.{cause_number}
use Rattle.mpm_base.specs.declared.conn.Cause.{Cause}
use Rattle.mpm_base.specs.declared.conn.Cause.TheVariants as cause
use Rattle.mpm_base.specs.declared.conn.ConnName.{ConnName}
use Rattle.mpm_base.specs.declared.shape.Shape.{Shape}
use Rattle.conn_machine.specs.declared.event.Entry.{Entry}
use Rattle.conn_machine.specs.declared.event.Event.{Event}
use Rattle.conn_machine.specs.declared.folded.Edition.{Edition}
use Rattle.conn_machine.specs.declared.folded.Folded.{Folded}
use Rattle.conn_machine.specs.declared.state.State.{State}
use Rattle.conn_machine.specs.Events.{causes, count_events, is_accept, is_answer, is_close, is_close_for, is_order, is_ready, is_start_child, is_tick}
use Rattle.conn_machine.specs.Folds.{CountsWithin, GoesOnFrom, HasPlacesFor, HaveBegun, causes_after, fold_of, lines_after, opening_record}
use Rattle.conn_machine.specs.Made.{AreMade, AreMadeBehind, AreOfPasses}
use Rattle.conn_machine.specs.States.{opening_state}
use Rattle.conn_machine.specs.Runs.{after, entries_of, has_after, is_of_pass, row_after}
use Rattle.conn_machine.proofs.EditionLemmas.{editions_twice}
use Rattle.conn_machine.proofs.FoldLemmas.{goes_on, next_goes_on, none_numbered}
use Rattle.conn_machine.proofs.HistoryLemmas.{entries_of-append}

-- ## Numbers

-- a count that went on by one history, and then by another
count_twice : (test : Event → Bool) (a b : List Entry) (n : ℕ) → n + count_events test a + count_events test b ≡ n + count_events test (a ++ b)
count_twice test a b n = by (count_events test a) (count_events test b) (count_events test (a ++ b)) (sum_by-append _ a b)
  where
    by : (x y z : ℕ) → z ≡ x + y → n + x + y ≡ n + z
    by x y z e = omega arith

length_twice : {X : Type 0} (a b : List X) (n : ℕ) → n + length a + length b ≡ n + length (a ++ b)
length_twice a b n = let e = length-append a b in omega (arith, e)

map_same : {X Y : Type 0} (f g : X → Y) (xs : List X) → ((x : X) → f x ≡ g x) → map f xs ≡ map g xs
map_same f g [] same = refl
map_same f g (x ∷ xs) same = let one = same x in let rest = map_same f g xs same in cc

causes_twice : (a b : List Entry) (counts : List ℕ) → causes_after b (causes_after a counts) ≡ causes_after (a ++ b) counts
causes_twice a b counts =
    map_same (λ why. slice_index (causes_after a counts) (cause_number why) + count_events (is_close_for why) b)
    (λ why. slice_index counts (cause_number why) + count_events (is_close_for why) (a ++ b)) causes each
  where
    each : (why : Cause) → slice_index (causes_after a counts) (cause_number why) + count_events (is_close_for why) b
        ≡ slice_index counts (cause_number why) + count_events (is_close_for why) (a ++ b)
    each cause.ClientDone = count_twice (is_close_for cause.ClientDone) a b (slice_index counts 0)
    each cause.LastSent = count_twice (is_close_for cause.LastSent) a b (slice_index counts 1)
    each cause.KeepAliveLate = count_twice (is_close_for cause.KeepAliveLate) a b (slice_index counts 2)
    each cause.ReadLate = count_twice (is_close_for cause.ReadLate) a b (slice_index counts 3)
    each cause.WriteLate = count_twice (is_close_for cause.WriteLate) a b (slice_index counts 4)
    each cause.Retiring = count_twice (is_close_for cause.Retiring) a b (slice_index counts 5)
    each cause.LinkFailed = count_twice (is_close_for cause.LinkFailed) a b (slice_index counts 6)
    each cause.Stopped = count_twice (is_close_for cause.Stopped) a b (slice_index counts 7)
    each cause.NoMemory = count_twice (is_close_for cause.NoMemory) a b (slice_index counts 8)

-- ## Lines

-- the first so many of two lists
take_twice : {X : Type 0} (n : ℕ) (xs ys : List X) → take n (xs ++ ys) ≡ take n xs ++ take (n - length xs) ys
take_twice zero xs ys = let e : 0 - length xs ≡ 0 = omega arith in rw e refl
take_twice (suc n) [] ys = let e : suc n - 0 ≡ suc n = omega arith in rw e refl
take_twice (suc n) (x ∷ xs) ys =
    let e : suc n - length (x ∷ xs) ≡ n - length xs = omega arith in
    rw e (ap (λ l. x ∷ l) (take_twice n xs ys))

lines_twice : (ended ended' : List (List ℕ)) (closed closes : ℕ) (lines : List ℕ) → length ended ≡ closes
    → lines_after ended' (closed + closes) (lines_after ended closed lines) ≡ lines_after (ended ++ ended') closed lines
lines_twice ended ended' closed closes lines all =
    let left : 64 - (closed + closes) ≡ 64 - closed - length ended = omega (arith, all) in
    let first : List ℕ = flat_map (λ line. line) (take (64 - closed) ended) in
    append_assoc lines first (flat_map (λ line. line) (take (64 - (closed + closes)) ended'))
    ∙ ap (λ n. lines ++ (first ++ flat_map (λ line. line) (take n ended'))) left
    ∙ ap (λ l. lines ++ l) (sym (flat_map-append (λ line. line) (take (64 - closed) ended) (take (64 - closed - length ended) ended')))
    ∙ ap (λ l. lines ++ flat_map (λ line. line) l) (sym (take_twice (64 - closed) ended ended'))

-- ## Passes

ordinals_twice : (a b : List Entry) (first : ℕ) (ns : List ℕ)
    → map (λ p. p.1 + length (entries_of p.0 b)) (enumerate_from first (map (λ p. p.1 + length (entries_of p.0 a)) (enumerate_from first ns)))
    ≡ map (λ p. p.1 + length (entries_of p.0 (a ++ b))) (enumerate_from first ns)
ordinals_twice a b first [] = refl
ordinals_twice a b first (n ∷ ns) =
    let one : n + length (entries_of first a) + length (entries_of first b) ≡ n + length (entries_of first (a ++ b)) =
    length_twice (entries_of first a) (entries_of first b) n ∙ ap (λ (es : List Entry). n + length es) (sym (entries_of-append first a b)) in
    let rest = ordinals_twice a b (first + 1) ns in cc

rows_twice : (a b : List Entry) (first : ℕ) (rows : List (Option ConnName))
    → map (λ p. row_after p.1 (entries_of p.0 b)) (enumerate_from first (map (λ p. row_after p.1 (entries_of p.0 a)) (enumerate_from first rows)))
    ≡ map (λ p. row_after p.1 (entries_of p.0 (a ++ b))) (enumerate_from first rows)
rows_twice a b first [] = refl
rows_twice a b first (had ∷ rows) =
    let one : row_after (row_after had (entries_of first a)) (entries_of first b) ≡ row_after had (entries_of first (a ++ b)) =
    sym (fold-append (λ now e. has_after now e.event e.reply) had (entries_of first a) (entries_of first b))
    ∙ ap (row_after had) (sym (entries_of-append first a b)) in
    let rest = rows_twice a b (first + 1) rows in cc

-- ## The record

-- the record of these parts
abbrev record_of : ℕ → ℕ → ℕ → ℕ → List ℕ → ℕ → List ℕ → ℕ → ℕ → ℕ → List Edition → List ℕ → List (Option ConnName) → Folded
record_of e a c r ys k ls t d o es ns rs =
    record {
      entries = e;
      accepted = a;
      closed = c;
      responses = r;
      causes = ys;
      children = k;
      lines = ls;
      ticks = t;
      readies = d;
      orders = o;
      editions = es;
      ordinals = ns;
      rows = rs;
    }

-- records of equal parts are equal
same_record : (e e' a a' c c' r r' : ℕ) (ys ys' : List ℕ) (k k' : ℕ) (ls ls' : List ℕ) (t t' d d' o o' : ℕ) (es es' : List Edition)
    (ns ns' : List ℕ) (rs rs' : List (Option ConnName)) → e ≡ e' → a ≡ a' → c ≡ c' → r ≡ r' → ys ≡ ys' → k ≡ k' → ls ≡ ls' → t ≡ t'
    → d ≡ d' → o ≡ o' → es ≡ es' → ns ≡ ns' → rs ≡ rs'
    → record_of e a c r ys k ls t d o es ns rs ≡ record_of e' a' c' r' ys' k' ls' t' d' o' es' ns' rs'
same_record e e' a a' c c' r r' ys ys' k k' ls ls' t t' d d' o o' es es' ns ns' rs rs' h1 h2 h3 h4 h5 h6 h7 h8 h9 h10 h11 h12 h13 = cc

pub fold_twice : (base : State) (f : Folded) (a b : List Entry) (ended ended' : List (List ℕ)) → HaveBegun base f
    → length ended ≡ count_events is_close a
    → fold_of (after base a) b ended' (fold_of base a ended f) ≡ fold_of base (a ++ b) (ended ++ ended') f
fold_twice base f a b ended ended' begun all =
    same_record _ _ _ _ _ _ _ _ _ _ _ _ _ _ _ _ _ _ _ _ _ _ _ _ _ _
    (length_twice a b f.entries) (count_twice is_accept a b f.accepted) (count_twice is_close a b f.closed)
    (count_twice is_answer a b f.responses) (causes_twice a b f.causes) (count_twice is_start_child a b f.children)
    (lines_twice ended ended' f.closed (count_events is_close a) f.lines all) (count_twice is_tick a b f.ticks)
    (count_twice is_ready a b f.readies) (count_twice is_order a b f.orders) (editions_twice base f a b ended ended' begun)
    (ordinals_twice a b 0 f.ordinals) (rows_twice a b 0 f.rows)

-- ## What passes made

-- what is made behind a record that goes on from another one and a history is made behind both
made_on : (base : State) (f later : Folded) (a before b : List Entry) → ((p : ℕ) → GoesOnFrom p f a later)
    → AreMadeBehind (after base a) later before b → AreMadeBehind base f (a ++ before) b
made_on base f later a before [] goes made = tt
made_on base f later a before (e ∷ b) goes made = (
  (next_goes_on e.pass base f later a before e (goes e.pass)).1 made.0,
  subst (λ (l : List Entry). AreMadeBehind base f l b) (sym (append_assoc a before (e ∷ [])))
      (made_on base f later a (before ++ e ∷ []) b goes made.1),
)

-- so are two histories, one behind the other
made_joined : (base : State) (f : Folded) (before a b : List Entry) → AreMadeBehind base f before a → AreMadeBehind base f (before ++ a) b
    → AreMadeBehind base f before (a ++ b)
made_joined base f before [] b first second = subst (λ (l : List Entry). AreMadeBehind base f l b) (append-nil before) second
made_joined base f before (e ∷ a) b first second = (
  first.0,
  made_joined base f (before ++ e ∷ []) a b first.1
      (subst (λ (l : List Entry). AreMadeBehind base f l b) (sym (append_assoc before (e ∷ []) a)) second),
)

pub made_twice : (passes : ℕ) (base : State) (f : Folded) (a b : List Entry) (ended : List (List ℕ)) → HasPlacesFor passes f
    → AreOfPasses passes a → AreMade base f a → AreMade (after base a) (fold_of base a ended f) b → AreMade base f (a ++ b)
made_twice passes base f a b ended places few first second =
    made_joined base f [] a b first
    (subst (λ (l : List Entry). AreMadeBehind base f l b) (append-nil a)
    (made_on base f (fold_of base a ended f) a [] b (λ p. goes_on passes base f a ended p places few) second))

-- ## Counts within

count_within : (test : Event → Bool) (history : List Entry) (n most : ℕ) → n ≤ most → n + count_events test history ≤ most + length history
count_within test history n most within = let e = count_by-le-length (λ (x : Entry). test x.event) history in omega (arith, within, e)

-- the next number of a pass grows by no more than the history
ordinal_within : (history : List Entry) (ns : List ℕ) (first p : ℕ)
    → slice_index (map (λ q. q.1 + length (entries_of q.0 history)) (enumerate_from first ns)) p ≤ slice_index ns p + length history
ordinal_within history [] first p = omega arith
ordinal_within history (n ∷ ns) first zero =
    let long = length-filter (is_of_pass first) history in
    let few = count_by-le-length (is_of_pass first) history in
    omega (arith, long, few)
ordinal_within history (n ∷ ns) first (suc p) = ordinal_within history ns (first + 1) p

pub within_after : (base : State) (f : Folded) (history : List Entry) (ended : List (List ℕ)) → CountsWithin f
    → CountsWithin (fold_of base history ended f)
within_after base f history ended within = record {
  accepted = count_within is_accept history f.accepted f.entries within.accepted;
  closed = count_within is_close history f.closed f.entries within.closed;
  responses = count_within is_answer history f.responses f.entries within.responses;
  causes = each;
  children = count_within is_start_child history f.children f.entries within.children;
  ticks = count_within is_tick history f.ticks f.entries within.ticks;
  readies = count_within is_ready history f.readies f.entries within.readies;
  orders = count_within is_order history f.orders f.entries within.orders;
  ordinals = λ p. let grown = ordinal_within history f.ordinals 0 p in let had = within.ordinals p in omega (arith, grown, had);
}
  where
    each : (why : Cause) → slice_index (causes_after history f.causes) (cause_number why) ≤ f.entries + length history
    each cause.ClientDone = count_within (is_close_for cause.ClientDone) history _ f.entries (within.causes cause.ClientDone)
    each cause.LastSent = count_within (is_close_for cause.LastSent) history _ f.entries (within.causes cause.LastSent)
    each cause.KeepAliveLate = count_within (is_close_for cause.KeepAliveLate) history _ f.entries (within.causes cause.KeepAliveLate)
    each cause.ReadLate = count_within (is_close_for cause.ReadLate) history _ f.entries (within.causes cause.ReadLate)
    each cause.WriteLate = count_within (is_close_for cause.WriteLate) history _ f.entries (within.causes cause.WriteLate)
    each cause.Retiring = count_within (is_close_for cause.Retiring) history _ f.entries (within.causes cause.Retiring)
    each cause.LinkFailed = count_within (is_close_for cause.LinkFailed) history _ f.entries (within.causes cause.LinkFailed)
    each cause.Stopped = count_within (is_close_for cause.Stopped) history _ f.entries (within.causes cause.Stopped)
    each cause.NoMemory = count_within (is_close_for cause.NoMemory) history _ f.entries (within.causes cause.NoMemory)

-- ## A fold of nothing

none_renumbered : (n first : ℕ) → map (λ (q : ℕ × ℕ). q.1 + length (entries_of q.0 [])) (enumerate_from first (replicate n 0)) ≡ replicate n 0
none_renumbered zero first = refl
none_renumbered (suc n) first = ap (λ (ns : List ℕ). 0 ∷ ns) (none_renumbered n (first + 1))

none_placed : (n first : ℕ)
    → map (λ (q : ℕ × Option ConnName). row_after q.1 (entries_of q.0 [])) (enumerate_from first (replicate n None)) ≡ replicate n None
none_placed zero first = refl
none_placed (suc n) first = ap (λ (rows : List (Option ConnName)). None ∷ rows) (none_placed n (first + 1))

-- where a server opens it is the opening record
pub fold_nothing : (slots children passes : ℕ) (shape : Shape)
    → fold_of (opening_state slots children shape) [] [] (opening_record passes) ≡ opening_record passes
fold_nothing slots children passes shape =
    ap (λ (ns : List ℕ). record (fold_of (opening_state slots children shape) [] [] (opening_record passes)) { ordinals = ns }) (none_renumbered passes 0)
    ∙ ap (λ (rows : List (Option ConnName)). record (opening_record passes) { rows = rows }) (none_placed passes 0)

-- the record of a value that never folded counts nothing
pub within_first : (passes : ℕ) → CountsWithin (opening_record passes)
within_first passes =
    let nothing : (count : ℕ) → count ≡ 0 → count ≤ 0 = λ count is. omega arith in
    record {
      accepted = omega arith;
      closed = omega arith;
      responses = omega arith;
      causes = λ why. nothing (slice_index (replicate 9 0) (cause_number why)) (none_numbered 9 (cause_number why));
      children = omega arith;
      ticks = omega arith;
      readies = omega arith;
      orders = omega arith;
      ordinals = λ p. nothing (slice_index (replicate passes 0) p) (none_numbered passes p);
    }
