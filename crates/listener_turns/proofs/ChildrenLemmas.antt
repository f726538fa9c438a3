-- Children that start, get their credit, or are let go of.
use Rattle.std.proofs.Common.{◌≡◌, ℕ, zero, suc, ◌+◌, ◌<◌, ◌≤◌, Bool, true, false, not, ◌&&◌, cond, List, [], ◌∷◌, ◌++◌, length, map, count_by, nat_lt, nat_le, Option, None, Some, slice_get, refl, sym, ap, subst, ◌∙◌, append-nil, arith}
use Rattle.std.proofs.lemmas.Bool.{and_parts}
use Rattle.std.proofs.lemmas.Bool.Decides.{nat_tests}
use Rattle.std.proofs.lemmas.List.{map-append}
use Rattle.std.proofs.lemmas.List.Sums.{sum_by-cons}
use Rattle.std.specs.List.{find, list_any, range_with_len}
use Rattle.std.specs.Option.{option_map_or}
use Rattle.std.specs.Prelude.{slice_index, slice_set}
use Rattle.atomic_table.specs.Table.{Me}
use Rattle.mpm_base.specs.Shape.{is_between, is_in_bounds}
use Rattle.mpm_base.specs.declared.shape.Shape.{Shape}
use Rattle.conn_machine.specs.declared.child.Child.{Child}
use Rattle.conn_machine.specs.declared.event.Entry.{Entry}
use Rattle.conn_machine.specs.declared.event.Event.TheVariants as event
use Rattle.conn_machine.specs.declared.state.State.{State}
use Rattle.conn_machine.specs.Children.{child_at, is_empty, is_stopping, retired_child, running_count, started_child}
use Rattle.conn_machine.specs.Lists.{update}
use Rattle.conn_machine.specs.Rows.{is_live_in}
use Rattle.conn_machine.specs.Folds.{opening_record}
use Rattle.conn_machine.specs.Made.{AreMade}
use Rattle.conn_machine.specs.Runs.{after, row_of}
use Rattle.conn_machine.specs.Sound.{IsSound}
use Rattle.conn_machine.specs.States.{is_serving}
use Rattle.conn_machine.specs.Table.{child_passes, is_allowed, may_retire, next}
use Rattle.table_rule.specs.declared.view.Past.{Past}
use Rattle.table_rule.specs.declared.view.Origin.{Origin}
use Rattle.table_rule.specs.declared.view.View.{View}
use Rattle.table_rule.specs.Histories.{threads_of}
use Rattle.table_rule.specs.Pasts.{MakesSteps}
use Rattle.table_rule.specs.Views.{credited_view}
use Rattle.board_lock.specs.Passes.{GaveBack, TookTurn}
use Rattle.idle_workers.specs.Found.{GivesCredit, MayCredit}
use Rattle.board.specs.Board.{SeenBoard}
use Rattle.board_book.specs.Book.{SeenBook}
use Rattle.board_book.specs.Finds.{startable}
use Rattle.board.specs.Ledger.{ledger_of}
use Rattle.board_turns.specs.GoesOnInside.{MadeEvent}
use Rattle.board_turns.specs.Rests.{TurnsRestOn}
use Rattle.board_turns.specs.Turns.{HadTurn, IsListener, state_found}
use Rattle.board_turns.proofs.FoundLemmas.{own_row, same_state}
use Rattle.board_turns.proofs.GoesOnLemmas.{free_then, same_seen}
use Rattle.board_turns.proofs.ThenLemmas.{left_by}
use Rattle.listener_turns.specs.Children.{AreStarted}
use Rattle.listener_turns.specs.Credits.{HadCreditTurn}
use Rattle.listener_turns.specs.PartsInside.{MadeEvents}
use Rattle.listener_turns.proofs.ManyLemmas.{had_all, made_as, more_made, none_made, one_made}

-- ## Counts

count_cons : {X : Type 0} (p : X → Bool) (x : X) (xs : List X) → count_by p (x ∷ xs) ≡ cond (p x) 1 0 + count_by p xs
count_cons p x xs = sum_by-cons (λ y. cond (p y) 1 0) x xs

-- one item less passes where the changed one did and doesn't
count_less : {X : Type 0} (p : X → Bool) (xs : List X) (i : ℕ) (x : X) (change : X → X) → slice_get xs i ≡ Some x → p x ≡ true
    → p (change x) ≡ false → count_by p (update xs i change) < count_by p xs
count_less p [] i x change at before after = absurd (cc)
count_less p (z ∷ xs) zero x change at before after =
    let same : x ≡ z = cc in
    let before' : p z ≡ true = subst (λ y. p y ≡ true) same before in
    let after' : p (change z) ≡ false = subst (λ y. p (change y) ≡ false) same after in
    rw (count_cons p (change z) xs, count_cons p z xs, before', after') (omega arith)
count_less p (z ∷ xs) (suc i) x change at before after =
    rw (count_cons p z (update xs i change), count_cons p z xs) (omega (arith, count_less p xs i x change at before after))

-- ## A child that may be started

found_by : (p : ℕ → Bool) (ks : List ℕ) (x k : ℕ) (b : Bool) → p x ≡ b → (find p ks ≡ Some k → p k ≡ true)
    → cond b (Some x) (find p ks) ≡ Some k → p k ≡ true
found_by p ks x k true at further found =
    let same : x ≡ k = cc in
    subst (λ (y : ℕ). p y ≡ true) same at
found_by p ks x k false at further found = further found

found_passes : (p : ℕ → Bool) (ks : List ℕ) (k : ℕ) → find p ks ≡ Some k → p k ≡ true
found_passes p [] k found = absurd (cc)
found_passes p (x ∷ ks) k found = found_by p ks x k (p x) refl (found_passes p ks k) found

-- what it has to be
record Startable (s : State) (k : ℕ) : Type 0 where
  pub serving : is_serving s.going ≡ true
  pub few : nat_lt (running_count s.children) s.shape.target ≡ true
  pub empty : child_passes (λ c. is_empty c.phase) s k ≡ true

startable_by : (s : State) (k : ℕ) (serving few : Bool) → is_serving s.going ≡ serving → nat_lt (running_count s.children) s.shape.target ≡ few
    → cond (serving && few) (find (child_passes (λ c. is_empty c.phase) s) (range_with_len 0 (length s.children))) None ≡ Some k → Startable s k
startable_by s k true true serves less found =
    record { serving = serves; few = less; empty = found_passes (child_passes (λ c. is_empty c.phase) s) (range_with_len 0 (length s.children)) k found }
startable_by s k true false serves less found = absurd (cc)
startable_by s k false few serves less found = absurd (cc)

is_startable : (s : State) (k : ℕ) → startable s ≡ Some k → Startable s k
is_startable s k found = startable_by s k (is_serving s.going) (nat_lt (running_count s.children) s.shape.target) refl refl found

-- fewer children should run than there may be
target_within : (shape : Shape) → is_in_bounds shape ≡ true → nat_le shape.target shape.children ≡ true
target_within shape bounds =
    let target = (and_parts _ (is_between 1 shape.children shape.target) (and_parts _ (nat_le shape.whole_ms 65535000) bounds).0).1 in
    (and_parts (nat_le 1 shape.target) (nat_le shape.target shape.children) target).1

less_within : (n target children : ℕ) → nat_lt n target ≡ true → nat_le target children ≡ true → nat_lt n children ≡ true
less_within n target children less within = grind (arith, nat_tests)

pub may_start_child : (s : State) (k : ℕ) → IsSound s → startable s ≡ Some k → is_allowed s (event.StartChild k) ≡ true
may_start_child s k sound found =
    let is = is_startable s k found in
    rw (is.serving, is.empty, less_within (running_count s.children) s.shape.target s.shape.children is.few (target_within s.shape sound.children.newest)) refl

-- the child of the number, which passes the test
record ChildAt (test : Child → Bool) (children : List Child) (k : ℕ) : Type 0 where
  pub child : Child
  pub at : slice_get children k ≡ Some child
  pub passes : test child ≡ true

child_by : (test : Child → Bool) (children : List Child) (k : ℕ) (o : Option Child) → slice_get children k ≡ o → option_map_or test o false ≡ true
    → ChildAt test children k
child_by test children k None at passes = absurd (cc)
child_by test children k (Some c) at passes = record { child = c; at = at; passes = passes }

-- one child less is gone
pub fewer_gone : (s t : State) (k : ℕ) → startable s ≡ Some k → t ≡ next s (event.StartChild k)
    → count_by (λ (c : Child). is_empty c.phase) t.children < count_by (λ (c : Child). is_empty c.phase) s.children
fewer_gone s t k found is =
    let child = child_by (λ (c : Child). is_empty c.phase) s.children k (slice_get s.children k) refl (is_startable s k found).empty in
    subst (λ (x : State). count_by (λ (c : Child). is_empty c.phase) x.children < count_by (λ (c : Child). is_empty c.phase) s.children) (sym is)
    (count_less (λ (c : Child). is_empty c.phase) s.children k child.child (started_child s.newest s.shape) child.at child.passes refl)

-- one child less stops
pub fewer_stopping : (s t : State) (k : ℕ) → may_retire s k ≡ true → t ≡ next s (event.Retire k)
    → count_by (λ (c : Child). is_stopping c.phase) t.children < count_by (λ (c : Child). is_stopping c.phase) s.children
fewer_stopping s t k may is =
    let child = child_by (λ (c : Child). is_stopping c.phase) s.children k (slice_get s.children k) refl
    (and_parts (child_passes (λ c. is_stopping c.phase) s k) (not (list_any (is_live_in k) s.rows)) may).0 in
    subst (λ (x : State). count_by (λ (c : Child). is_stopping c.phase) x.children < count_by (λ (c : Child). is_stopping c.phase) s.children) (sym is)
    (count_less (λ (c : Child). is_stopping c.phase) s.children k child.child retired_child child.at child.passes refl)

-- ## Children that were started, one behind the other

abbrev pub started_state : State → List ℕ → State
started_state s [] = s
started_state s (k ∷ children) = started_state (next s (event.StartChild k)) children

started_more : (s : State) (children : List ℕ) (k : ℕ) → AreStarted s children → startable (started_state s children) ≡ Some k
    → AreStarted s (children ++ k ∷ [])
started_more s [] k started found = (found, tt)
started_more s (x ∷ children) k started found = (started.0, started_more (next s (event.StartChild x)) children k started.1 found)

state_more : (s : State) (children : List ℕ) (k : ℕ) → started_state s (children ++ k ∷ []) ≡ next (started_state s children) (event.StartChild k)
state_more s [] k = refl
state_more s (x ∷ children) k = state_more (next s (event.StartChild x)) children k

pub record HasStarted (old now : SeenBoard) : Type 0 where
  pub children : List ℕ
  pub made : MadeEvents 0 (map event.StartChild children) old now
  pub started : AreStarted old.book.state children
  pub state : now.book.state ≡ started_state old.book.state children

pub starts_none : (b : SeenBoard) → HasStarted b b
starts_none b = record { children = []; made = none_made 0 b; started = tt; state = refl }

pub starts_more : (a b c : SeenBoard) (k : ℕ) → HasStarted a b → startable b.book.state ≡ Some k → MadeEvent 0 (event.StartChild k) b c → HasStarted a c
starts_more a b c k has found m = record {
  children = has.children ++ k ∷ [];
  made =
      made_as 0 (map event.StartChild has.children ++ event.StartChild k ∷ []) (map event.StartChild (has.children ++ k ∷ [])) a c
      (sym (map-append event.StartChild has.children (k ∷ [])))
      (more_made 0 (map event.StartChild has.children) (event.StartChild k ∷ []) a b c has.made (one_made 0 (event.StartChild k) b c m));
  started = started_more a.book.state has.children k has.started (ap startable (sym has.state) ∙ found);
  state = ap (λ (x : SeenBook). x.state) m.book ∙ ap (λ (s : State). next s (event.StartChild k)) has.state
      ∙ sym (state_more a.book.state has.children k);
}

-- behind the turn
pub started_turn : {K : Type 0} (v w u : Me (Option K) View) (old new : SeenBoard) (children : List ℕ) → TurnsRestOn → TookTurn v w (ledger_of old)
    → GaveBack w u (ledger_of new) → v.0.who.number ≡ 0 → MadeEvents 0 (map event.StartChild children) old new
    → after old.book.base old.book.history ≡ old.book.state → AreStarted old.book.state children
    → (ks : List ℕ) × (found : List Entry) × HadTurn found (map event.StartChild ks) v.0 u.0 × AreStarted (state_found v.0 found) ks
started_turn v w u old new children rests took gave number m state started = (
  children,
  w.0.seen,
  had_all v w u 0 (map event.StartChild children) old new rests took gave number m,
  subst (λ (s : State). AreStarted s children) (sym (same_state v w old rests took state)) started,
)

-- ## Children that were let go of

pub record HasRetired (old now : SeenBoard) : Type 0 where
  pub children : List ℕ
  pub made : MadeEvents 0 (map event.Retire children) old now

pub retires_none : (b : SeenBoard) → HasRetired b b
retires_none b = record { children = []; made = none_made 0 b }

pub retires_more : (a b c : SeenBoard) (k : ℕ) → HasRetired a b → MadeEvent 0 (event.Retire k) b c → HasRetired a c
retires_more a b c k has m = record {
  children = has.children ++ k ∷ [];
  made =
      made_as 0 (map event.Retire has.children ++ event.Retire k ∷ []) (map event.Retire (has.children ++ k ∷ [])) a c
      (sym (map-append event.Retire has.children (k ∷ [])))
      (more_made 0 (map event.Retire has.children) (event.Retire k ∷ []) a b c has.made (one_made 0 (event.Retire k) b c m));
}

-- ## The credit

-- a child has at most 64 workers
threads_by : (s : State) (k : ℕ) (gone : Bool) → IsSound s → is_empty (child_at s.children k).phase ≡ gone → threads_of s k ≤ 64
threads_by s k true sound gone =
    let none : threads_of s k ≡ 0 = (sound.children.gone k gone).none_works in
    omega (arith, none)
threads_by s k false sound there =
    let shape = (child_at s.children k).shape in
    let bounds = sound.children.shapes k there in
    let one = (and_parts _ (nat_le shape.whole_ms 65535000) bounds).0 in
    let two = (and_parts _ (is_between 1 shape.children shape.target) one).0 in
    let three = (and_parts _ (is_between 1 32 shape.children) two).0 in
    let four = (and_parts _ (is_between 1 65535 shape.most) three).0 in
    let five = (and_parts _ (is_between 1 65535000 shape.keep_ms) four).0 in
    let six = (and_parts _ (is_between 1000 65535000 shape.read_ms) five).0 in
    let seven = (and_parts (is_between 1 64 shape.threads) (is_between 1 10000 shape.factor) six).0 in
    let most = (and_parts (nat_le 1 shape.threads) (nat_le shape.threads 64) seven).1 in
    grind (arith, nat_tests, most)

pub may_credit : {K : Type 0} (v w : Me (Option K) View) (b : SeenBoard) (child threads : ℕ) → TurnsRestOn → TookTurn v w (ledger_of b)
    → after b.book.base b.book.history ≡ b.book.state → IsSound b.book.state → IsListener v → slice_index v.0.credits child ≡ 0
    → threads ≡ threads_of b.book.state child → MayCredit w.0 child threads
may_credit v w b child threads rests took state sound is none count = record {
  number = ap (λ (q : View). q.who.number) took.view ∙ is.number;
  none = ap (λ (q : View). slice_index q.credits child) took.view ∙ none;
  few = subst (λ n. n ≤ 64) (sym count) (threads_by b.book.state child (is_empty (child_at b.book.state.children child).phase) sound refl);
  there = count
      ∙ sym (ap (λ (s : State). threads_of s child)
      (ap (λ (q : View). after q.origin.state w.0.seen) took.view ∙ same_state v w b rests took state));
}

module _ {K : Type 0} (v w x u : Me (Option K) View) (b : SeenBoard) (child threads : ℕ) (took : TookTurn v w (ledger_of b)) (credited : GivesCredit child threads w.0 x.0) (gave : GaveBack x u (ledger_of b)) where
  is : x.0 ≡ record (credited_view child threads w.0) { past = x.0.past }
  is = credited.1.0

  seen : u.0.seen ≡ w.0.seen
  seen =
      let has = ap (λ (q : View). q.turn) is ∙ ap (λ (q : View). q.turn) took.view in
      same_seen x u (ledger_of b) has gave.ends ∙ ap (λ (q : View). q.seen) is

  pub credited_listener : IsListener v → IsListener u
  credited_listener listener =
      let number : x.0.who.number ≡ 0 = ap (λ (q : View). q.who.number) is ∙ ap (λ (q : View). q.who.number) took.view ∙ listener.number in
      let origin : u.0.origin ≡ v.0.origin =
      ap (λ (q : View). q.origin) gave.view ∙ ap (λ (q : View). q.origin) is ∙ ap (λ (q : View). q.origin) took.view in
      record {
        turnless = free_then x u (ledger_of b) gave;
        number = ap (λ (q : View). q.who.number) gave.view ∙ number;
        made = subst (λ (o : Origin). AreMade o.state (opening_record o.passes) u.0.seen) (sym origin)
            (subst (AreMade v.0.origin.state (opening_record v.0.origin.passes)) (sym seen) took.is_found.made);
        row_is = ap (λ (q : View). q.row) gave.view ∙ ap (λ p. row_of p u.0.seen) number;
      }

  pub credited_row : TurnsRestOn → u.0.row ≡ v.0.row
  credited_row rests =
      ap (λ (q : View). q.row) gave.view
      ∙ ap (λ (q : View). row_of q.who.number u.0.seen) is ∙ ap (λ (q : View). row_of q.who.number u.0.seen) took.view
      ∙ ap (row_of v.0.who.number) seen
      ∙ own_row v w b rests took

  pub credited_turn : TurnsRestOn → after b.book.base b.book.history ≡ b.book.state → threads ≡ threads_of b.book.state child
      → (found : List Entry) × HadCreditTurn found child threads v.0 u.0
  credited_turn rests state count =
      let f = took.is_found in
      let before : w.0.past ≡ v.0.past = ap (λ (q : View). q.past) took.view in
      let behind : u.0.past ≡ x.0.past = ap (λ (q : View). q.past) gave.view in (
        w.0.seen,
        record {
          others = f.seen;
          made = f.made;
          few = f.few;
          seen = seen;
          count = count ∙ ap (λ (s : State). threads_of s child) (sym (same_state v w b rests took state));
          word = credited.0;
          step = subst (λ (p : Past). MakesSteps ((child + 2, credited.0, credited.0 + threads) ∷ []) p u.0.past) before
              (subst (MakesSteps ((child + 2, credited.0, credited.0 + threads) ∷ []) w.0.past) (sym behind) credited.1.1);
          credits = ap (λ (q : View). q.credits) gave.view ∙ ap (λ (q : View). q.credits) is
              ∙ ap (λ (q : View). slice_set q.credits child threads) took.view;
          origin = ap (λ (q : View). q.origin) gave.view ∙ ap (λ (q : View). q.origin) is ∙ ap (λ (q : View). q.origin) took.view;
          who = ap (λ (q : View). q.who) gave.view ∙ ap (λ (q : View). q.who) is ∙ ap (λ (q : View). q.who) took.view;
          hand = ap (λ (q : View). q.hand) gave.view ∙ ap (λ (q : View). q.hand) is ∙ ap (λ (q : View). q.hand) took.view;
          turn = ap (λ (q : View). q.turn) gave.view;
          left = left_by v.0 x.0 u.0 (ledger_of b) (ledger_of b) w.0.seen [] f (ap (λ (q : View). q.who.number) is ∙ ap (λ (q : View). q.who.number) took.view)
              (ap (λ (q : View). q.left) is ∙ ap (λ (q : View). q.left) took.view) gave.is_left refl (sym (append-nil b.book.history))
              (seen ∙ sym (append-nil w.0.seen));
        },
      )
