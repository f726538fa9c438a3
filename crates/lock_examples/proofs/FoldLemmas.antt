-- To fold some entries of the small value, and then some more, is to fold them all.
use Rattle.std.proofs.Common.{◌≡◌, ℕ, zero, suc, ◌+◌, Bool, List, [], ◌∷◌, ◌++◌, length, map, filter, Option, None, refl, sym, ap, subst, ◌∙◌, add-zero, length-append, arith}
use Rattle.std.specs.Prelude.{replicate, slice_index}
use Rattle.std.proofs.lemmas.List.Elements.{filter-append}
use Rattle.std.proofs.lemmas.List.Sums.{fold-append, sum_by-append}
use Rattle.std.specs.List.{enumerate_from}
use Rattle.mpm_base.specs.declared.conn.Cause.{Cause}
use Rattle.mpm_base.specs.declared.conn.Cause.TheVariants as cause
use Rattle.mpm_base.specs.Cause.{cause_number}
use Rattle.mpm_base.specs.declared.conn.ConnName.{ConnName}
use Rattle.conn_machine.specs.declared.event.Event.{Event}
use Rattle.conn_machine.specs.declared.event.Entry.{Entry}
use Rattle.conn_machine.specs.declared.folded.Edition.{Edition}
use Rattle.conn_machine.specs.declared.folded.Folded.{Folded}
use Rattle.conn_machine.specs.declared.state.State.{State}
use Rattle.conn_machine.specs.Events.{causes, count_events, is_accept, is_answer, is_close, is_close_for, is_order, is_ready, is_start_child, is_tick}
use Rattle.conn_machine.specs.Runs.{after, entries_of, has_after, row_after}
use Rattle.conn_machine.specs.Folds.{causes_after, first_edition, fold_of, is_in_use, opening_record}
use Rattle.lock_examples.specs.declared.stage.ToyStage.{ToyStage}
use Rattle.lock_examples.specs.declared.stage.ToyStage.TheVariants.{Starts, Takes, Signals, Serves}
use Rattle.lock_examples.specs.Toy.{entries_from, first_of, round_at, stage_at, step_entries, step_of, toy_record, toy_state}
use Rattle.lock_examples.proofs.EntryLemmas.{after_more, all_from, entries_of-append, more_of, newest_after}

-- ## Counts

-- a count that went on by one history, and then by another
twice : (test : Event → Bool) (a b : List Entry) (x : ℕ) → x + count_events test (a ++ b) ≡ x + count_events test a + count_events test b
twice test a b x = by (count_events test a) (count_events test b) (count_events test (a ++ b)) (sum_by-append _ a b)
  where
    by : (p q r : ℕ) → r ≡ p + q → x + r ≡ x + p + q
    by p q r e = omega arith

map_same : {X Y : Type 0} (f g : X → Y) (xs : List X) → ((x : X) → f x ≡ g x) → map f xs ≡ map g xs
map_same f g [] same = refl
map_same f g (x ∷ xs) same = let one = same x in let rest = map_same f g xs same in cc

causes_twice : (a b : List Entry) (counts : List ℕ) → causes_after (a ++ b) counts ≡ causes_after b (causes_after a counts)
causes_twice a b counts =
    map_same (λ why. slice_index counts (cause_number why) + count_events (is_close_for why) (a ++ b))
    (λ why. slice_index (causes_after a counts) (cause_number why) + count_events (is_close_for why) b) causes each
  where
    each : (why : Cause) → slice_index counts (cause_number why) + count_events (is_close_for why) (a ++ b)
        ≡ slice_index (causes_after a counts) (cause_number why) + count_events (is_close_for why) b
    each cause.ClientDone = twice (is_close_for cause.ClientDone) a b (slice_index counts 0)
    each cause.LastSent = twice (is_close_for cause.LastSent) a b (slice_index counts 1)
    each cause.KeepAliveLate = twice (is_close_for cause.KeepAliveLate) a b (slice_index counts 2)
    each cause.ReadLate = twice (is_close_for cause.ReadLate) a b (slice_index counts 3)
    each cause.WriteLate = twice (is_close_for cause.WriteLate) a b (slice_index counts 4)
    each cause.Retiring = twice (is_close_for cause.Retiring) a b (slice_index counts 5)
    each cause.LinkFailed = twice (is_close_for cause.LinkFailed) a b (slice_index counts 6)
    each cause.Stopped = twice (is_close_for cause.Stopped) a b (slice_index counts 7)
    each cause.NoMemory = twice (is_close_for cause.NoMemory) a b (slice_index counts 8)

number_twice : (a b : List Entry) (i x : ℕ) → x + length (entries_of i (a ++ b)) ≡ x + length (entries_of i a) + length (entries_of i b)
number_twice a b i x = by (length (entries_of i a)) (length (entries_of i b)) _ (ap length (entries_of-append i a b) ∙ length-append (entries_of i a) (entries_of i b))
  where
    by : (p q r : ℕ) → r ≡ p + q → x + r ≡ x + p + q
    by p q r e = omega arith

numbers_twice : (a b : List Entry) (i : ℕ) (xs : List ℕ) → map (λ p. p.1 + length (entries_of p.0 (a ++ b))) (enumerate_from i xs)
    ≡ map (λ p. p.1 + length (entries_of p.0 b)) (enumerate_from i (map (λ p. p.1 + length (entries_of p.0 a)) (enumerate_from i xs)))
numbers_twice a b i [] = refl
numbers_twice a b i (x ∷ xs) = let one = number_twice a b i x in let rest = numbers_twice a b (i + 1) xs in cc

rows_twice : (a b : List Entry) (i : ℕ) (xs : List (Option ConnName)) → map (λ p. row_after p.1 (entries_of p.0 (a ++ b))) (enumerate_from i xs)
    ≡ map (λ p. row_after p.1 (entries_of p.0 b)) (enumerate_from i (map (λ p. row_after p.1 (entries_of p.0 a)) (enumerate_from i xs)))
rows_twice a b i [] = refl
rows_twice a b i (x ∷ xs) =
    let one : row_after x (entries_of i (a ++ b)) ≡ row_after (row_after x (entries_of i a)) (entries_of i b) =
    ap (row_after x) (entries_of-append i a b) ∙ fold-append (λ had e. has_after had e.event e.reply) x (entries_of i a) (entries_of i b) in
    let rest = rows_twice a b (i + 1) xs in cc

-- ## Editions

none_of : (n : ℕ) → filter (λ e. is_order e.event) (step_of n) ≡ []
none_of n = by (stage_at n) (round_at n)
  where
    by : (s : ToyStage) (r : ℕ) → filter (λ (e : Entry). is_order e.event) (step_entries s r) ≡ []
    by Starts r = refl
    by Takes r = refl
    by Signals r = refl
    by Serves r = refl

none_ordered : (n m : ℕ) → filter (λ e. is_order e.event) (entries_from n m) ≡ []
none_ordered n zero = refl
none_ordered n (suc m) =
    filter-append (λ (e : Entry). is_order e.event) (entries_from n m) (step_of (n + m))
    ∙ ap (λ l. l ++ filter (λ (e : Entry). is_order e.event) (step_of (n + m))) (none_ordered n m) ∙ none_of (n + m)

none_ordered_of : (n : ℕ) → filter (λ e. is_order e.event) (first_of n) ≡ []
none_ordered_of n = ap (filter (λ (e : Entry). is_order e.event)) (sym (all_from n)) ∙ none_ordered 0 n

-- where no order was made, and the generation is the first, its edition stays alone
editions_stay : (s : State) (history : List Entry) (ended : List (List ℕ)) (f : Folded) → f.editions ≡ first_edition ∷ []
    → filter (λ e. is_order e.event) history ≡ [] → (after s history).newest ≡ 0
    → (fold_of s history ended f).editions ≡ first_edition ∷ []
editions_stay s history ended f had none newest = rw (none, had) (by (after s history) newest)
  where
    by : (t : State) → t.newest ≡ 0 → filter (λ e. is_in_use t e.generation) (first_edition ∷ []) ≡ first_edition ∷ []
    by t new = rw new refl

toy_editions : (n passes : ℕ) → (toy_record n passes).editions ≡ first_edition ∷ []
toy_editions n passes =
    editions_stay toy_state (first_of n) [] (opening_record passes) refl (none_ordered_of n) (newest_after n)

-- ## The record

abbrev record_of : ℕ → ℕ → ℕ → ℕ → List ℕ → ℕ → List ℕ → ℕ → ℕ → ℕ → List Edition → List ℕ → List (Option ConnName) → Folded
record_of e a c r ys k lines t d o es ns rs =
    record {
      entries = e;
      accepted = a;
      closed = c;
      responses = r;
      causes = ys;
      children = k;
      lines = lines;
      ticks = t;
      readies = d;
      orders = o;
      editions = es;
      ordinals = ns;
      rows = rs;
    }

same_record : (e e' a a' c c' r r' : ℕ) (ys ys' : List ℕ) (k k' : ℕ) (lines : List ℕ) (t t' d d' o o' : ℕ) (es es' : List Edition) (ns ns' : List ℕ)
    (rs rs' : List (Option ConnName))
    → e ≡ e' → a ≡ a' → c ≡ c' → r ≡ r' → ys ≡ ys' → k ≡ k' → t ≡ t' → d ≡ d' → o ≡ o' → es ≡ es' → ns ≡ ns' → rs ≡ rs'
    → record_of e a c r ys k lines t d o es ns rs ≡ record_of e' a' c' r' ys' k' lines t' d' o' es' ns' rs'
same_record e e' a a' c c' r r' ys ys' k k' lines t t' d d' o o' es es' ns ns' rs rs' h1 h2 h3 h4 h5 h6 h7 h8 h9 h10 h11 h12 = cc

fold_twice : (s : State) (a b : List Entry) (f : Folded)
    → (fold_of s (a ++ b) [] f).editions ≡ (fold_of (after s a) b [] (fold_of s a [] f)).editions
    → fold_of s (a ++ b) [] f ≡ record (fold_of (after s a) b [] (fold_of s a [] f)) { lines = (fold_of s (a ++ b) [] f).lines }
fold_twice s a b f editions =
    same_record _ _ _ _ _ _ _ _ _ _ _ _ _ _ _ _ _ _ _ _ _ _ _ _ _
    (by (length a) (length b) _ (length-append a b))
    (twice is_accept a b f.accepted) (twice is_close a b f.closed) (twice is_answer a b f.responses) (causes_twice a b f.causes)
    (twice is_start_child a b f.children) (twice is_tick a b f.ticks) (twice is_ready a b f.readies) (twice is_order a b f.orders)
    editions (numbers_twice a b 0 f.ordinals) (rows_twice a b 0 f.rows)
  where
    by : (p q r : ℕ) → r ≡ p + q → f.entries + r ≡ f.entries + p + q
    by p q r e = omega arith

-- the record of entries, and of more of them
pub record_more : (n m passes : ℕ) → toy_record (n + m) passes
    ≡ record (fold_of (after toy_state (first_of n)) (entries_from n m) [] (toy_record n passes)) { lines = (toy_record (n + m) passes).lines }
record_more n m passes =
    subst
    (λ l. fold_of toy_state l [] (opening_record passes)
    ≡ record (fold_of (after toy_state (first_of n)) (entries_from n m) [] (toy_record n passes)) { lines = (fold_of toy_state l [] (opening_record passes)).lines })
    (sym (more_of n m)) (fold_twice toy_state (first_of n) (entries_from n m) (opening_record passes) same)
  where
    newest : (after (after toy_state (first_of n)) (entries_from n m)).newest ≡ 0
    newest = ap (λ (s : State). s.newest) (after_more n m) ∙ newest_after (n + m)

    later : (fold_of (after toy_state (first_of n)) (entries_from n m) [] (toy_record n passes)).editions ≡ first_edition ∷ []
    later = editions_stay (after toy_state (first_of n)) (entries_from n m) [] (toy_record n passes) (toy_editions n passes) (none_ordered n m) newest

    same : (fold_of toy_state (first_of n ++ entries_from n m) [] (opening_record passes)).editions
        ≡ (fold_of (after toy_state (first_of n)) (entries_from n m) [] (toy_record n passes)).editions
    same =
        ap (λ l. (fold_of toy_state l [] (opening_record passes)).editions) (sym (more_of n m)) ∙ toy_editions (n + m) passes ∙ sym later

-- ## The opening record

none_more : (i : ℕ) (xs : List ℕ) → map (λ p. p.1 + length (entries_of p.0 [])) (enumerate_from i xs) ≡ xs
none_more i [] = refl
none_more i (x ∷ xs) = let one : x + 0 ≡ x = add-zero x in let rest = none_more (i + 1) xs in cc

no_more : (i : ℕ) (xs : List (Option ConnName)) → map (λ p. row_after p.1 (entries_of p.0 [])) (enumerate_from i xs) ≡ xs
no_more i [] = refl
no_more i (x ∷ xs) = ap (λ l. x ∷ l) (no_more (i + 1) xs)

-- a value that never folded has the opening record
pub record_opens : (passes : ℕ) → toy_record 0 passes ≡ opening_record passes
record_opens passes =
    ap (λ ns. record (toy_record 0 passes) { ordinals = ns }) (none_more 0 (replicate passes 0))
    ∙ ap (λ rs. record (opening_record passes) { rows = rs }) (no_more 0 (replicate passes None))
