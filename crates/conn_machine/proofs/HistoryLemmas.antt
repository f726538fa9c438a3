-- Histories that grow.
use Rattle.std.proofs.Common.{◌≡◌, ◌≢◌, ℕ, ◌+◌, ◌*◌, ◌<◌, true, false, cond, if◌then◌else◌, List, [], ◌∷◌, ◌++◌, length, count_by, refl, sym, ap, subst, ◌∙◌, append_assoc, append-nil, length-append, ne_eqb, arith}
use Rattle.std.proofs.lemmas.List.Elements.{filter-append}
use Rattle.std.proofs.lemmas.List.Sums.{fold-append, sum_by-append}
use Rattle.conn_machine.specs.declared.event.Entry.{Entry}
use Rattle.conn_machine.specs.declared.folded.Folded.{Folded}
use Rattle.conn_machine.specs.declared.state.State.{State}
use Rattle.conn_machine.specs.Runs.{after, asks_page, load, Adds, Run, IsHistory, IsInPassOrderFrom, is_of_pass, entries_of, first_row, has_after, row_after, row_from, IsNextOf, AreEntriesOf}
use Rattle.conn_machine.specs.Made.{AreMade, AreMadeBehind, AreOfPasses, HasSeen}
use Rattle.conn_machine.proofs.RunLemmas.{after-snoc, entries_of-own, order-snoc}

pub entries_of-append : (p : ℕ) (a b : List Entry) → entries_of p (a ++ b) ≡ entries_of p a ++ entries_of p b
entries_of-append p a b = filter-append (is_of_pass p) a b

pub seen_same : (p : ℕ) (seen history : List Entry) → HasSeen p seen history → entries_of p history ≡ entries_of p seen
seen_same p seen history f =
    ap (entries_of p) f.1 ∙ entries_of-append p seen f.0 ∙ ap (λ l. entries_of p seen ++ l) f.2 ∙ append-nil (entries_of p seen)

-- what a history without an entry of the pass has behind a first part has none either
pub none_behind : (p : ℕ) (seen rest : List Entry) → entries_of p (seen ++ rest) ≡ [] → entries_of p rest ≡ []
none_behind p seen rest none = last (entries_of p seen) (entries_of p rest) (sym (entries_of-append p seen rest) ∙ none)
  where
    last : (a b : List Entry) → a ++ b ≡ [] → b ≡ []
    last [] b e = e
    last (x ∷ a) b e = absurd (cc)

-- the connection of a pass is what its entries say
pub row_by : (f : Folded) (p : ℕ) (a b : List Entry) → entries_of p a ≡ entries_of p b → row_from f p a ≡ row_from f p b
row_by f p a b same = ap (row_after (first_row f p)) same

pub row_none : (f : Folded) (p : ℕ) (history : List Entry) → entries_of p history ≡ [] → row_from f p history ≡ first_row f p
row_none f p history none = row_by f p history [] none

-- entries of one pass are none of another's
pub others : (p q : ℕ) (start : State) (f : Folded) (before added : List Entry) → AreEntriesOf p start f before added → q ≢ p → entries_of q added ≡ []
others p q start f before [] are ne = refl
others p q start f before (e ∷ added) are ne =
    let off : is_of_pass q e ≡ false = ne_eqb e.pass q (λ same. ne (sym same ∙ are.0.pass)) in
    rw off (others p q start f (before ++ e ∷ []) added are.1 ne)

made_of : (p : ℕ) (start : State) (f : Folded) (before added : List Entry) → AreEntriesOf p start f before added → AreMadeBehind start f before added
made_of p start f before [] are = tt
made_of p start f before (e ∷ added) are =
    (subst (λ q. IsNextOf q start f before e) (sym are.0.pass) are.0, made_of p start f (before ++ e ∷ []) added are.1)

made_behind : (p : ℕ) (start : State) (f : Folded) (before history added : List Entry) → AreMadeBehind start f before history
    → AreEntriesOf p start f (before ++ history) added → AreMadeBehind start f before (history ++ added)
made_behind p start f before [] added made are =
    made_of p start f before added (subst (λ l. AreEntriesOf p start f l added) (append-nil before) are)
made_behind p start f before (e ∷ history) added made are =
    (made.0, made_behind p start f (before ++ e ∷ []) history added made.1 (subst (λ l. AreEntriesOf p start f l added) (sym (append_assoc before (e ∷ []) history)) are))

-- a history that goes on by entries of a pass is made as it was
pub made_more : (p : ℕ) (start : State) (f : Folded) (history added : List Entry) → AreMade start f history → AreEntriesOf p start f history added
    → AreMade start f (history ++ added)
made_more p start f history added made are = made_behind p start f [] history added made are

-- what is made is a run
run_behind : (start : State) (f : Folded) (before history : List Entry) → AreMadeBehind start f before history → Run (after start before) history
run_behind start f before [] made = tt
run_behind start f before (e ∷ history) made =
    (made.0.is_allowed, made.0.replied, subst (λ s. Run s history) (after-snoc start before e) (run_behind start f (before ++ e ∷ []) history made.1))

pub run_made : (start : State) (f : Folded) (history : List Entry) → AreMade start f history → Run start history
run_made start f history made = run_behind start f [] history made

-- and in the order of its passes
order_behind : (start : State) (f : Folded) (before history : List Entry) → IsInPassOrderFrom f before → AreMadeBehind start f before history
    → IsInPassOrderFrom f (before ++ history)
order_behind start f before [] order made = subst (IsInPassOrderFrom f) (sym (append-nil before)) order
order_behind start f before (e ∷ history) order made =
    subst (IsInPassOrderFrom f) (append_assoc before (e ∷ []) history)
    (order_behind start f (before ++ e ∷ []) history (order-snoc f before e order made.0.ordinal) made.1)

pub history_made : (start : State) (f : Folded) (history : List Entry) → AreMade start f history → IsHistory start f history
history_made start f history made = record {
  run = run_made start f history made;
  order = order_behind start f [] history (λ p. refl) made;
}

-- ## What passes add

-- nothing was added
pub adds_none : (p : ℕ) (base : State) (f : Folded) (history : List Entry) → Adds p base f history history
adds_none p base f history = ([], sym (append-nil history), tt)

-- one entry was, which the pass may make
pub adds_one : (p : ℕ) (base : State) (f : Folded) (history : List Entry) (e : Entry) → IsNextOf p base f history e → Adds p base f history (history ++ e ∷ [])
adds_one p base f history e is = (e ∷ [], refl, (is, tt))

-- the entries of both were
are_both : (p : ℕ) (base : State) (f : Folded) (history a b : List Entry) → AreEntriesOf p base f history a
    → AreEntriesOf p base f (history ++ a) b → AreEntriesOf p base f history (a ++ b)
are_both p base f history [] b first second = subst (λ (h : List Entry). AreEntriesOf p base f h b) (append-nil history) second
are_both p base f history (e ∷ a) b first second = (
  first.0,
  are_both p base f (history ++ e ∷ []) a b first.1
      (subst (λ (h : List Entry). AreEntriesOf p base f h b) (sym (append_assoc history (e ∷ []) a)) second),
)

-- what was added in two steps was added
pub adds_more : (p : ℕ) (base : State) (f : Folded) (a b c : List Entry) → Adds p base f a b → Adds p base f b c → Adds p base f a c
adds_more p base f a b c first second =
    let behind : AreEntriesOf p base f (a ++ first.0) second.0 =
    subst (λ (h : List Entry). AreEntriesOf p base f h second.0) first.1 second.2 in (
      first.0 ++ second.0,
      second.1 ∙ ap (λ (h : List Entry). h ++ second.0) first.1 ∙ append_assoc a first.0 second.0,
      are_both p base f a first.0 second.0 first.2 behind,
    )

-- so a history stays one that passes made
pub adds_made : (p : ℕ) (base : State) (f : Folded) (old new : List Entry) → AreMade base f old → Adds p base f old new → AreMade base f new
adds_made p base f old new made adds = subst (AreMade base f) (sym adds.1) (made_more p base f old adds.0 made adds.2)

pub made_snoc : (base : State) (f : Folded) (history : List Entry) (e : Entry) → AreMade base f history → IsNextOf e.pass base f history e
    → AreMade base f (history ++ e ∷ [])
made_snoc base f history e made is = made_more e.pass base f history (e ∷ []) made (is, tt)

-- the other passes have seen the history before
pub adds_seen : (p q : ℕ) (base : State) (f : Folded) (old new : List Entry) → Adds p base f old new → q ≢ p → HasSeen q old new
adds_seen p q base f old new adds ne = (adds.0, adds.1, others p q base f old adds.0 adds.2 ne)

-- and have the connection that they had
pub row-others : (p q : ℕ) (base : State) (f : Folded) (old new : List Entry) → Adds p base f old new → q ≢ p → row_from f q new ≡ row_from f q old
row-others p q base f old new adds ne = row_by f q new old (seen_same q old new (adds_seen p q base f old new adds ne))

-- so many passes stay all that made entries
pub adds_few : (passes p : ℕ) (base : State) (f : Folded) (old new : List Entry) → p < passes → AreOfPasses passes old → Adds p base f old new → AreOfPasses passes new
adds_few passes p base f old new below few adds q past =
    let ne : q ≢ p = (λ (same : q ≡ p). absurd (omega (arith, same, below, past))) in
    seen_same q old new (adds_seen p q base f old new adds ne) ∙ few q past

-- ## One entry more

-- the pass has what its last entry leaves it
pub row-own : (f : Folded) (p : ℕ) (history : List Entry) (e : Entry) → is_of_pass p e ≡ true
    → row_from f p (history ++ e ∷ []) ≡ has_after (row_from f p history) e.event e.reply
row-own f p history e own =
    ap (row_after (first_row f p)) (entries_of-own p history e own)
    ∙ fold-append (λ had x. has_after had x.event x.reply) (first_row f p) (entries_of p history) (e ∷ [])

-- the weight of the entry is added
pub load-snoc : (history : List Entry) (e : Entry) → load (history ++ e ∷ []) ≡ load history + 1 + 64 * (if asks_page e.event then 1 else 0)
load-snoc history e =
    let long : length (history ++ e ∷ []) ≡ length history + 1 = length-append history (e ∷ []) in
    let pages : count_by (λ x. asks_page x.event) (history ++ e ∷ []) ≡ count_by (λ x. asks_page x.event) history + (if asks_page e.event then 1 else 0) =
    omega (arith, sum_by-append (λ (x : Entry). cond (asks_page x.event) 1 0) history (e ∷ [])) in
    omega (arith, long, pages)
