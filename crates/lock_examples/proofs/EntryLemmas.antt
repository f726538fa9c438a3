-- The entries of the small value.
use Rattle.std.proofs.Common.{◌≡◌, ℕ, zero, suc, ◌+◌, ◌-◌, ◌*◌, ◌^◌, ◌≤◌, ◌<◌, true, List, [], ◌∷◌, ◌++◌, length, fold, Option, Some, None, refl, sym, ap, subst, ◌∙◌, add-zero, append_assoc, append-nil, length-append, arith}
use Rattle.std.specs.Prelude.{⊤, map, slice_index}
use Rattle.std.proofs.lemmas.List.Elements.{filter-append}
use Rattle.mpm_base.specs.declared.conn.ConnName.{ConnName}
use Rattle.mpm_base.specs.declared.conn.Kind.{Kind}
use Rattle.mpm_base.specs.declared.conn.Kind.TheVariants.{Reading}
use Rattle.conn_machine.specs.declared.event.Event.TheVariants as event
use Rattle.conn_machine.specs.declared.event.Entry.{Entry}
use Rattle.conn_machine.specs.declared.row.Row.{Row}
use Rattle.conn_machine.specs.declared.state.State.{State}
use Rattle.conn_machine.specs.Table.{is_allowed, next, reply}
use Rattle.conn_machine.specs.declared.folded.Folded.{Folded}
use Rattle.conn_machine.specs.Folds.{opening_record}
use Rattle.conn_machine.specs.Runs.{after, entries_of, has_after, is_of_pass, may_make, row_after, row_of, AreEntriesOf}
use Rattle.std.proofs.lemmas.Bool.{eq-eqb}
use Rattle.table_rule.specs.Histories.{ArePermitted}
use Rattle.lock_examples.proofs.PlaceLemmas.{each_first}
use Rattle.lock_examples.specs.declared.stage.ToyStage.{ToyStage}
use Rattle.lock_examples.specs.declared.stage.ToyStage.TheVariants.{Starts, Takes, Signals, Serves}
use Rattle.lock_examples.specs.Toy.{SeenToy, entries_from, first_of, maker, next_round, next_stage, round_at, stage_at, step_entries, step_of, toy_name, toy_state}

-- ## Lists

-- so many steps, and then so many more
pub more_from : (n m k : ℕ) → entries_from n (m + k) ≡ entries_from n m ++ entries_from (n + m) k
more_from n m zero = ap (entries_from n) (add-zero m) ∙ sym (append-nil (entries_from n m))
more_from n m (suc k) =
    let one : m + suc k ≡ suc (m + k) = omega arith in
    let at : n + (m + k) ≡ n + m + k = omega arith in
    ap (entries_from n) one
    ∙ ap (λ l. l ++ step_of (n + (m + k))) (more_from n m k)
    ∙ ap (λ i. (entries_from n m ++ entries_from (n + m) k) ++ step_of i) at
    ∙ append_assoc (entries_from n m) (entries_from (n + m) k) (step_of (n + m + k))

pub more_of : (n m : ℕ) → first_of (n + m) ≡ first_of n ++ entries_from n m
more_of n zero = ap first_of (add-zero n) ∙ sym (append-nil (first_of n))
more_of n (suc m) =
    let one : n + suc m ≡ suc (n + m) = omega arith in
    ap first_of one
    ∙ ap (λ l. l ++ step_of (n + m)) (more_of n m)
    ∙ append_assoc (first_of n) (entries_from n m) (step_of (n + m))

-- all steps from the first one on are the first ones
pub all_from : (n : ℕ) → entries_from 0 n ≡ first_of n
all_from n = let none : 0 + n ≡ n = omega arith in sym (more_of 0 n) ∙ ap first_of none

-- how many entries there are, folded and kept
pub all_in : (v : SeenToy) (n f l : ℕ) → f ≤ l → n ≡ length (first_of l) → v.folded ≡ f → v.count ≡ l - f
    → n ≡ 0 + length (first_of v.folded) + length (entries_from v.folded v.count)
all_in v n f l few is folded count =
    let whole : l ≡ v.folded + v.count = omega arith in
    by (length (first_of v.folded)) (length (entries_from v.folded v.count))
    (is ∙ ap (λ m. length (first_of m)) whole ∙ ap length (more_of v.folded v.count) ∙ length-append (first_of v.folded) (entries_from v.folded v.count))
  where
    by : (p q : ℕ) → n ≡ p + q → n ≡ 0 + p + q
    by p q e = omega arith

pub entries_of-append : (p : ℕ) (a b : List Entry) → entries_of p (a ++ b) ≡ entries_of p a ++ entries_of p b
entries_of-append p a b = filter-append (is_of_pass p) a b

entries_own : (p : ℕ) (history : List Entry) (e : Entry) → e.pass ≡ p → entries_of p (history ++ e ∷ []) ≡ entries_of p history ++ e ∷ []
entries_own p history e own =
    let last : entries_of p (e ∷ []) ≡ e ∷ [] = rw (eq-eqb e.pass p own) refl in
    entries_of-append p history (e ∷ []) ∙ ap (λ l. entries_of p history ++ l) last

pub count_append : (p : ℕ) (a b : List Entry) → length (entries_of p (a ++ b)) ≡ length (entries_of p a) + length (entries_of p b)
count_append p a b = ap length (entries_of-append p a b) ∙ length-append (entries_of p a) (entries_of p b)

pub after-append : (s : State) (a b : List Entry) → after s (a ++ b) ≡ after (after s a) b
after-append s [] b = refl
after-append s (e ∷ a) b = after-append (next s e.event) a b

pub are_append : (p : ℕ) (start : State) (f : Folded) (before a b : List Entry) → AreEntriesOf p start f before a
    → AreEntriesOf p start f (before ++ a) b → AreEntriesOf p start f before (a ++ b)
are_append p start f before [] b are more = subst (λ l. AreEntriesOf p start f l b) (append-nil before) more
are_append p start f before (e ∷ a) b are more =
    (are.0, are_append p start f (before ++ e ∷ []) a b are.1 (subst (λ l. AreEntriesOf p start f l b) (sym (append_assoc before (e ∷ []) a)) more))

pub permitted_append : (permit : Option ℕ) (credits : List ℕ) (s : State) (a b : List Entry) → ArePermitted permit credits s a
    → ArePermitted permit credits (after s a) b → ArePermitted permit credits s (a ++ b)
permitted_append permit credits s [] b are more = more
permitted_append permit credits s (e ∷ a) b are more = (are.0, permitted_append permit credits (next s e.event) a b are.1 more)

-- ## Where the steps lead

-- what the connection waited for, once it was served so often
abbrev waits_at : ℕ → List Kind
waits_at zero = Reading ∷ []
waits_at (suc r) = waits_at r ++ Reading ∷ []

-- the state in which the connection waited for that
abbrev with_waits : List Kind → State → State
with_waits ws s = record s { rows = map (λ (row : Row). record row { waits = ws }) s.rows }

-- the state before a step, once the connection was served so often
abbrev pub state_of : ToyStage → ℕ → State
state_of Starts r = toy_state
state_of Takes r = next toy_state (event.StartChild 0)
state_of Signals r =
    with_waits (waits_at r) (next (next (next toy_state (event.StartChild 0)) (event.Accept 0)) (event.Park toy_name Reading))
state_of Serves r =
    with_waits (waits_at r) (next (next (next (next toy_state (event.StartChild 0)) (event.Accept 0)) (event.Park toy_name Reading)) (event.Ready 0))

-- the state before the step of that number
abbrev pub state_at : ℕ → State
state_at n = state_of (stage_at n) (round_at n)

-- the connection was not served before it was taken
abbrev IsRound : ToyStage → ℕ → Type 0
IsRound Starts r = r ≡ 0
IsRound Takes r = r ≡ 0
IsRound Signals r = ⊤
IsRound Serves r = ⊤

rounds : (n : ℕ) → IsRound (stage_at n) (round_at n)
rounds zero = refl
rounds (suc n) = keep (stage_at n) (round_at n) (rounds n)
  where
    keep : (s : ToyStage) (r : ℕ) → IsRound s r → IsRound (next_stage s) (next_round s r)
    keep Starts r is = is
    keep Takes r is = tt
    keep Signals r is = tt
    keep Serves r is = tt

pub after_step : (s : ToyStage) (r : ℕ) → IsRound s r → after (state_of s r) (step_entries s r) ≡ state_of (next_stage s) (next_round s r)
after_step Starts r is = refl
after_step Takes r is = subst (λ i. after (state_of Takes i) (step_entries Takes i) ≡ state_of Signals i) (sym is) refl
after_step Signals r is = refl
after_step Serves r is =
    let one : suc r ≡ r + 1 = omega arith in
    ap (λ i. with_waits (waits_at i) (next (next (next toy_state (event.StartChild 0)) (event.Accept 0)) (event.Park toy_name Reading))) one

pub after_first : (n : ℕ) → after toy_state (first_of n) ≡ state_at n
after_first zero = refl
after_first (suc n) =
    after-append toy_state (first_of n) (step_of n) ∙ ap (λ s. after s (step_of n)) (after_first n) ∙ after_step (stage_at n) (round_at n) (rounds n)

after_from : (n k : ℕ) → after (state_at n) (entries_from n k) ≡ state_at (n + k)
after_from n zero = ap (λ i. state_at i) (sym (add-zero n))
after_from n (suc k) =
    let one : suc (n + k) ≡ n + suc k = omega arith in
    after-append (state_at n) (entries_from n k) (step_of (n + k)) ∙ ap (λ s. after s (step_of (n + k))) (after_from n k)
    ∙ after_step (stage_at (n + k)) (round_at (n + k)) (rounds (n + k)) ∙ ap (λ i. state_at i) one

-- the state after entries that were folded, and others behind them
pub after_more : (n m : ℕ) → after (after toy_state (first_of n)) (entries_from n m) ≡ after toy_state (first_of (n + m))
after_more n m = sym (after-append toy_state (first_of n) (entries_from n m)) ∙ ap (after toy_state) (sym (more_of n m))

pub newest_after : (n : ℕ) → (after toy_state (first_of n)).newest ≡ 0
newest_after n = ap (λ (s : State). s.newest) (after_first n) ∙ by (stage_at n) (round_at n)
  where
    by : (s : ToyStage) (r : ℕ) → (state_of s r).newest ≡ 0
    by Starts r = refl
    by Takes r = refl
    by Signals r = refl
    by Serves r = refl

-- ## How many entries they are

-- how many entries of pass 0 there are before a step
abbrev listed : ToyStage → ℕ → ℕ
listed Starts r = r
listed Takes r = r + 1
listed Signals r = r + 3
listed Serves r = r + 4

pub record AreCounted (l : List Entry) (s : ToyStage) (r : ℕ) : Type 0 where
  pub listener : length (entries_of 0 l) ≡ listed s r
  pub worker : length (entries_of 1 l) ≡ 3 * r

grow : (n x y z t : ℕ) → n ≡ x + y → x ≡ z → z + y ≡ t → n ≡ t
grow n x y z t e d c = omega arith

step_counted : (l : List Entry) (s : ToyStage) (r : ℕ) → AreCounted l s r → AreCounted (l ++ step_entries s r) (next_stage s) (next_round s r)
step_counted l Starts r c = record {
  listener = grow _ (length (entries_of 0 l)) 1 r (r + 1) (count_append 0 l (step_entries Starts r)) c.listener refl;
  worker = grow _ (length (entries_of 1 l)) 0 (3 * r) (3 * r) (count_append 1 l (step_entries Starts r)) c.worker (add-zero (3 * r));
}
step_counted l Takes r c =
    let sum : r + 1 + 2 ≡ r + 3 = omega arith in
    record {
      listener = grow _ (length (entries_of 0 l)) 2 (r + 1) (r + 3) (count_append 0 l (step_entries Takes r)) c.listener sum;
      worker = grow _ (length (entries_of 1 l)) 0 (3 * r) (3 * r) (count_append 1 l (step_entries Takes r)) c.worker (add-zero (3 * r));
    }
step_counted l Signals r c =
    let sum : r + 3 + 1 ≡ r + 4 = omega arith in
    record {
      listener = grow _ (length (entries_of 0 l)) 1 (r + 3) (r + 4) (count_append 0 l (step_entries Signals r)) c.listener sum;
      worker = grow _ (length (entries_of 1 l)) 0 (3 * r) (3 * r) (count_append 1 l (step_entries Signals r)) c.worker (add-zero (3 * r));
    }
step_counted l Serves r c =
    let sum : r + 4 + 0 ≡ r + 1 + 3 = omega arith in
    let three : 3 * r + 3 ≡ 3 * (r + 1) = omega arith in
    record {
      listener = grow _ (length (entries_of 0 l)) 0 (r + 4) (r + 1 + 3) (count_append 0 l (step_entries Serves r)) c.listener sum;
      worker = grow _ (length (entries_of 1 l)) 3 (3 * r) (3 * (r + 1)) (count_append 1 l (step_entries Serves r)) c.worker three;
    }

counted : (n : ℕ) → AreCounted (first_of n) (stage_at n) (round_at n)
counted zero = record { listener = refl; worker = refl }
counted (suc n) = step_counted (first_of n) (stage_at n) (round_at n) (counted n)

-- there are at least as many entries as steps, and three for each time that the connection was served
pub few : (n : ℕ) → (n ≤ length (first_of n)) × (3 * round_at n ≤ length (first_of n))
few zero = (omega arith, omega arith)
few (suc n) =
    let before = few n in
    let more = by (stage_at n) (round_at n) in
    let whole = length-append (first_of n) (step_of n) in
    (one (length (first_of n)) (length (step_of n)) _ whole before.0 more.0, three (length (first_of n)) (length (step_of n)) _ (round_at n) (next_round (stage_at n) (round_at n)) whole before.1 more.1)
  where
    by : (s : ToyStage) (r : ℕ) → (1 ≤ length (step_entries s r)) × (3 * next_round s r ≤ 3 * r + length (step_entries s r))
    by Starts r = (omega arith, omega arith)
    by Takes r = (omega arith, omega arith)
    by Signals r = (omega arith, omega arith)
    by Serves r = (omega arith, omega arith)

    one : (a b c : ℕ) → c ≡ a + b → n ≤ a → 1 ≤ b → suc n ≤ c
    one a b c e l m = omega arith

    three : (a b c r q : ℕ) → c ≡ a + b → 3 * r ≤ a → 3 * q ≤ 3 * r + b → 3 * q ≤ c
    three a b c r q e l m = omega arith

-- so where they fit in memory, these counts fit in words
pub counts_fit : (n r : ℕ) (l : List Entry) → l ≡ first_of n → r ≡ round_at n → length l < 2 ^ 63 → (n < 2 ^ 63) × (r ≤ 4611686018427387904)
counts_fit n r l is at short =
    let many = few n in
    by (length (first_of n)) (round_at n) many.0 many.1 at (subst (λ h. length h < 2 ^ 63) is short)
  where
    by : (m q : ℕ) → n ≤ m → 3 * q ≤ m → r ≡ q → m < 2 ^ 63 → (n < 2 ^ 63) × (r ≤ 4611686018427387904)
    by m q e d c b = (omega arith, omega arith)

-- ## What may be made

fold_snoc : {X A : Type 0} (f : A → X → A) (z : A) (xs : List X) (x : X) → fold f z (xs ++ x ∷ []) ≡ f (fold f z xs) x
fold_snoc f z [] x = refl
fold_snoc f z (y ∷ xs) x = fold_snoc f (f z y) xs x

row_own : (p : ℕ) (history : List Entry) (e : Entry) → e.pass ≡ p → row_of p (history ++ e ∷ []) ≡ has_after (row_of p history) e.event e.reply
row_own p history e own =
    ap (row_after None) (entries_own p history e own)
    ∙ fold_snoc (λ had x. has_after had x.event x.reply) None (entries_of p history) e

-- the pass may make these entries, where it made so many and has this connection
abbrev AreFine : ℕ → State → ℕ → Option ConnName → List Entry → Type 0
AreFine p s n row [] = ⊤
AreFine p s n row (e ∷ es) =
    (e.pass ≡ p) × (e.ordinal ≡ n) × (is_allowed s e.event ≡ true) × (e.reply ≡ reply s e.event)
    × (may_make p row e.event ≡ true) × AreFine p (next s e.event) (n + 1) (has_after row e.event e.reply) es

may_follow : (passes p : ℕ) (s : State) (n : ℕ) (row : Option ConnName) (start : State) (whole es : List Entry) → after start whole ≡ s
    → length (entries_of p whole) ≡ n → row_of p whole ≡ row → AreFine p s n row es → AreEntriesOf p start (opening_record passes) whole es
may_follow passes p s n row start whole [] state number had fine = tt
may_follow passes p s n row start whole (e ∷ es) state number had fine = (
  record {
    pass = fine.0;
    ordinal = (let first : slice_index (opening_record passes).ordinals p ≡ 0 = each_first passes p 0 in let last = fine.1 in omega (arith, first, last, number));
    is_allowed = ap (λ t. is_allowed t e.event) state ∙ fine.2;
    replied = fine.3 ∙ ap (λ t. reply t e.event) (sym state);
    role =
        ap (λ o. may_make p o e.event) (ap (λ o. row_after o (entries_of p whole)) (each_first passes p None) ∙ had) ∙ fine.4;
  },
  may_follow passes p (next s e.event) (n + 1) (has_after row e.event e.reply) start (whole ++ e ∷ []) es
      (after-append start whole (e ∷ []) ∙ ap (λ t. next t e.event) state)
      (ap length (entries_own p whole e fine.0) ∙ length-append (entries_of p whole) (e ∷ []) ∙ ap (λ m. m + 1) number)
      (row_own p whole e fine.0 ∙ ap (λ o. has_after o e.event e.reply) had) fine.5,
)

row_behind : (p : ℕ) (s : State) (n : ℕ) (row : Option ConnName) (whole es : List Entry) → row_of p whole ≡ row → AreFine p s n row es
    → row_of p (whole ++ es) ≡ row_after row es
row_behind p s n row whole [] had fine = ap (row_of p) (append-nil whole) ∙ had
row_behind p s n row whole (e ∷ es) had fine =
    ap (row_of p) (sym (append_assoc whole (e ∷ []) es))
    ∙ row_behind p (next s e.event) (n + 1) (has_after row e.event e.reply) (whole ++ e ∷ []) es
    (row_own p whole e fine.0 ∙ ap (λ o. has_after o e.event e.reply) had) fine.5

-- the number of the first entry of a step
abbrev first_number : ToyStage → ℕ → ℕ
first_number Starts r = r
first_number Takes r = r + 1
first_number Signals r = r + 3
first_number Serves r = 3 * r

own_number : (l : List Entry) (s : ToyStage) (r : ℕ) → AreCounted l s r → length (entries_of (maker s) l) ≡ first_number s r
own_number l Starts r c = c.listener
own_number l Takes r c = c.listener
own_number l Signals r c = c.listener
own_number l Serves r c = c.worker

-- with this connection the step may be made
abbrev pub FitsRow : ToyStage → Option ConnName → Type 0
FitsRow Starts row = row ≡ None
FitsRow Takes row = row ≡ None
FitsRow Signals row = ⊤
FitsRow Serves row = row ≡ None

fine_step : (s : ToyStage) (r : ℕ) (row : Option ConnName) → FitsRow s row → AreFine (maker s) (state_of s r) (first_number s r) row (step_entries s r)
fine_step Starts r row fits = (refl, refl, refl, refl, refl, tt)
fine_step Takes r row fits =
    let two : r + 2 ≡ r + 1 + 1 = omega arith in
    subst (λ o. AreFine 0 (state_of Takes r) (r + 1) o (step_entries Takes r)) (sym fits)
    (refl, refl, refl, refl, refl, (refl, two, refl, refl, refl, tt))
fine_step Signals r row fits = (refl, refl, refl, refl, refl, tt)
fine_step Serves r row fits =
    let two : 3 * r + 2 ≡ 3 * r + 1 + 1 = omega arith in
    subst (λ o. AreFine 1 (state_of Serves r) (3 * r) o (step_entries Serves r)) (sym fits)
    (refl, refl, refl, refl, refl, (refl, refl, refl, refl, refl, (refl, two, refl, refl, refl, tt)))

fits_next : (s : ToyStage) (r : ℕ) (row : Option ConnName) → FitsRow s row → maker s ≡ maker (next_stage s)
    → FitsRow (next_stage s) (row_after row (step_entries s r))
fits_next Starts r row fits same = fits
fits_next Takes r row fits same = tt
fits_next Signals r row fits same = absurd (omega arith)
fits_next Serves r row fits same = tt

-- the history stands where so many steps were made, as far as the pass needs to know
pub record IsAt (p n : ℕ) (start : State) (whole : List Entry) : Type 0 where
  pub state : after start whole ≡ state_at n
  pub number : length (entries_of p whole) ≡ length (entries_of p (first_of n))
  pub row : maker (stage_at n) ≡ p → FitsRow (stage_at n) (row_of p whole)

-- the step is fine for its pass
fine_at : (p n : ℕ) (start : State) (whole : List Entry) → IsAt p n start whole → maker (stage_at n) ≡ p
    → AreFine p (state_at n) (first_number (stage_at n) (round_at n)) (row_of p whole) (step_of n)
fine_at p n start whole at mine =
    subst (λ q. AreFine q (state_at n) (first_number (stage_at n) (round_at n)) (row_of p whole) (step_of n)) mine
    (fine_step (stage_at n) (round_at n) (row_of p whole) (at.row mine))

-- its pass may make it
may_step : (passes p n : ℕ) (start : State) (whole : List Entry) → IsAt p n start whole → maker (stage_at n) ≡ p
    → AreEntriesOf p start (opening_record passes) whole (step_of n)
may_step passes p n start whole at mine =
    may_follow passes p (state_at n) (first_number (stage_at n) (round_at n)) (row_of p whole) start whole (step_of n) at.state
    (at.number ∙ ap (λ q. length (entries_of q (first_of n))) (sym mine) ∙ own_number (first_of n) (stage_at n) (round_at n) (counted n))
    refl (fine_at p n start whole at mine)

step_at : (p n : ℕ) (start : State) (whole : List Entry) → IsAt p n start whole → maker (stage_at n) ≡ p → IsAt p (suc n) start (whole ++ step_of n)
step_at p n start whole at mine = record {
  state =
      after-append start whole (step_of n) ∙ ap (λ t. after t (step_of n)) at.state ∙ after_step (stage_at n) (round_at n) (rounds n);
  number =
      count_append p whole (step_of n) ∙ ap (λ m. m + length (entries_of p (step_of n))) at.number ∙ sym (count_append p (first_of n) (step_of n));
  row =
      λ more. subst (FitsRow (next_stage (stage_at n)))
      (sym (row_behind p (state_at n) (first_number (stage_at n) (round_at n)) (row_of p whole) whole (step_of n) refl (fine_at p n start whole at mine)))
      (fits_next (stage_at n) (round_at n) (row_of p whole) (at.row mine) (mine ∙ sym more));
}

-- so many steps from that one on are the pass's
abbrev pub AreStepsOf : ℕ → ℕ → ℕ → Type 0
AreStepsOf p n zero = ⊤
AreStepsOf p n (suc k) = AreStepsOf p n k × (maker (stage_at (n + k)) ≡ p)

-- so it may make them
pub are_more : (passes p n k : ℕ) (start : State) (whole : List Entry) → IsAt p n start whole → AreStepsOf p n k
    → AreEntriesOf p start (opening_record passes) whole (entries_from n k) × IsAt p (n + k) start (whole ++ entries_from n k)
are_more passes p n zero start whole at own =
    (tt, subst (λ i. IsAt p i start (whole ++ [])) (sym (add-zero n)) (subst (IsAt p n start) (sym (append-nil whole)) at))
are_more passes p n (suc k) start whole at own =
    let so_far = are_more passes p n k start whole at own.0 in
    let one : suc (n + k) ≡ n + suc k = omega arith in (
      are_append p start (opening_record passes) whole (entries_from n k) (step_of (n + k)) so_far.0 (may_step passes p (n + k) start (whole ++ entries_from n k) so_far.1 own.1),
      subst (IsAt p (n + suc k) start) (append_assoc whole (entries_from n k) (step_of (n + k)))
          (subst (λ i. IsAt p i start ((whole ++ entries_from n k) ++ step_of (n + k))) one (step_at p (n + k) start (whole ++ entries_from n k) so_far.1 own.1)),
    )

-- pass 1 has no connection behind a step of its own
pub none_behind : (n : ℕ) (start : State) (whole : List Entry) → IsAt 1 n start whole → maker (stage_at n) ≡ 1 → row_of 1 (whole ++ step_of n) ≡ None
none_behind n start whole at mine =
    row_behind 1 (state_at n) (first_number (stage_at n) (round_at n)) (row_of 1 whole) whole (step_of n) refl (fine_at 1 n start whole at mine)
    ∙ by (stage_at n) (round_at n) mine
  where
    by : (s : ToyStage) (r : ℕ) → maker s ≡ 1 → row_after (row_of 1 whole) (step_entries s r) ≡ None
    by Starts r is = absurd (omega arith)
    by Takes r is = absurd (omega arith)
    by Signals r is = absurd (omega arith)
    by Serves r is = refl

-- with this permit the step may be made
abbrev FitsPermit : ToyStage → Option ℕ → Type 0
FitsPermit Starts permit = ⊤
FitsPermit Takes permit = ⊤
FitsPermit Signals permit = ⊤
FitsPermit Serves permit = permit ≡ Some 0

permit_step : (s : ToyStage) (r : ℕ) (permit : Option ℕ) (credits : List ℕ) → FitsPermit s permit → ArePermitted permit credits (state_of s r) (step_entries s r)
permit_step Starts r permit credits fits = (tt, tt)
permit_step Takes r permit credits fits = (tt, (tt, tt))
permit_step Signals r permit credits fits = (tt, tt)
permit_step Serves r permit credits fits = ((_, refl, fits, refl), (tt, (tt, tt)))

fits_permit : (s : ToyStage) (p : ℕ) (permit : Option ℕ) → maker s ≡ p → (p ≡ 1 → permit ≡ Some 0) → FitsPermit s permit
fits_permit Starts p permit mine has = tt
fits_permit Takes p permit mine has = tt
fits_permit Signals p permit mine has = tt
fits_permit Serves p permit mine has = has (sym mine)

-- with a permit pass 1 may make its steps, and pass 0 without
pub permits_more : (p n k : ℕ) (permit : Option ℕ) (credits : List ℕ) → AreStepsOf p n k → (p ≡ 1 → permit ≡ Some 0)
    → ArePermitted permit credits (state_at n) (entries_from n k)
permits_more p n zero permit credits own has = tt
permits_more p n (suc k) permit credits own has =
    permitted_append permit credits (state_at n) (entries_from n k) (step_of (n + k)) (permits_more p n k permit credits own.0 has)
    (subst (λ s. ArePermitted permit credits s (step_of (n + k))) (sym (after_from n k))
    (permit_step (stage_at (n + k)) (round_at (n + k)) permit credits (fits_permit (stage_at (n + k)) p permit own.1 has)))
