-- That some child isn't gone, behind those that are started; and what is left of a state where only children are moved and commands done.
use Rattle.std.proofs.Common.{◌≡◌, ℕ, ◌+◌, ◌<◌, zero, suc, Bool, true, false, not, ◌&&◌, ◌||◌, cond, List, [], ◌∷◌, ◌++◌, length, map, find, nat_le, nat_lt, Option, None, Some, slice_get, slice_index_or, refl, sym, ap, subst, ◌∙◌, arith}
use Rattle.std.proofs.lemmas.Bool.{and_parts}
use Rattle.std.proofs.lemmas.Bool.Decides.{nat_tests}
use Rattle.std.proofs.lemmas.List.{length-map}
use Rattle.std.specs.List.{list_any, range_with_len}
use Rattle.std.specs.Option.{option_map_or}
use Rattle.mpm_base.specs.Shape.{is_between, is_in_bounds}
use Rattle.mpm_base.specs.declared.shape.Shape.{Shape}
use Rattle.conn_machine.specs.declared.child.Child.{Child}
use Rattle.conn_machine.specs.declared.child.ChildPhase.{ChildPhase}
use Rattle.conn_machine.specs.declared.child.ChildPhase.TheVariants.{Empty, Running, Stopping}
use Rattle.conn_machine.specs.declared.event.Commanded.{Commanded}
use Rattle.conn_machine.specs.declared.event.Commanded.TheVariants.{Graceful, Refused, GracefulStop, Stop}
use Rattle.conn_machine.specs.declared.event.Event.{Event}
use Rattle.conn_machine.specs.declared.event.Event.TheVariants as event
use Rattle.conn_machine.specs.declared.state.State.{State}
use Rattle.conn_machine.specs.Children.{is_empty, is_running, running_count, started_child, stopped_child}
use Rattle.conn_machine.specs.Lists.{update}
use Rattle.conn_machine.specs.Runs.{after}
use Rattle.conn_machine.specs.States.{is_halted, is_serving, is_at_its_end, is_staffed}
use Rattle.conn_machine.specs.Table.{child_passes, next}
use Rattle.board_book.specs.Book.{SeenBook}
use Rattle.board_book.specs.Finds.{startable}
use Rattle.worker_group.specs.Acts.{Acts, ActsInSteps}
use Rattle.rounds.specs.ClosingInside.{state_by}
use Rattle.rounds.specs.PartsInside.{RetiresSome, StartsSome}
use Rattle.rounds.specs.TableInside.{NoneDueLate}
use Rattle.rounds.proofs.ClosingLemmas.{GoesOnFrom, acts-state}
use Rattle.rounds.proofs.ListenLemmas.{count-cons}
use Rattle.rounds.proofs.TimelyLemmas.{not-at_end, not-at_end_halted, not-at_end_serving}

-- ## Children

abbrev pub is_there : Child → Bool
is_there c = not (is_empty c.phase)

-- where one isn't gone there is one
pub some-children : (children : List Child) → list_any is_there children ≡ true → 0 < length children
some-children [] some = absurd (cc some)
some-children (c ∷ children) some = omega arith

-- a change of one leaves how many there are
pub length-updated : (children : List Child) (k : ℕ) (change : Child → Child) → length (update children k change) ≡ length children
length-updated [] k change = refl
length-updated (c ∷ children) zero change = refl
length-updated (c ∷ children) (suc k) change = ap (λ (n : ℕ). suc n) (length-updated children k change)

-- and so does it of those that aren't gone where the changed one isn't
any-updated : (children : List Child) (k : ℕ) (change : Child → Child) → ((c : Child) → is_there (change c) ≡ true) → list_any is_there children ≡ true
    → list_any is_there (update children k change) ≡ true
any-updated [] k change there some = some
any-updated (c ∷ children) zero change there some = rw (there c) refl
any-updated (c ∷ children) (suc k) change there some = by (is_there c) refl (any-updated children k change there) where
  by : (b : Bool) → is_there c ≡ b → (list_any is_there children ≡ true → list_any is_there (update children k change) ≡ true)
      → (is_there c || list_any is_there (update children k change)) ≡ true
  by true is more = rw is refl
  by false is more =
      let rest : list_any is_there children ≡ true = sym (ap (λ (x : Bool). x || list_any is_there children) is) ∙ some in
      ap (λ (x : Bool). x || list_any is_there (update children k change)) is ∙ more rest

pub staffed-start : (s : State) (k : ℕ) → is_staffed s ≡ true → is_staffed (next s (event.StartChild k)) ≡ true
staffed-start s k staffed = any-updated s.children k (started_child s.newest s.shape) (λ c. refl) staffed

-- ## Where none is to be started

gone-child : (phase : ChildPhase) → not (is_empty phase) ≡ false → is_running phase ≡ false
gone-child Empty gone = refl
gone-child Running gone = absurd (cc gone)
gone-child Stopping gone = absurd (cc gone)

-- none runs where each is gone
none-run : (children : List Child) → list_any is_there children ≡ false → running_count children ≡ 0
none-run [] gone = refl
none-run (c ∷ children) gone = by (is_there c) refl (none-run children) where
  by : (b : Bool) → is_there c ≡ b → (list_any is_there children ≡ false → running_count children ≡ 0) → running_count (c ∷ children) ≡ 0
  by true is more = absurd (cc (sym (ap (λ (x : Bool). x || list_any is_there children) is) ∙ gone))
  by false is more =
      let rest : list_any is_there children ≡ false = sym (ap (λ (x : Bool). x || list_any is_there children) is) ∙ gone in
      count-cons (λ (x : Child). is_running x.phase) c children ∙ rw (gone-child c.phase is) (omega (arith, more rest))

-- the first child is gone
first-gone : (c : Child) (children : List Child) → list_any is_there (c ∷ children) ≡ false → is_empty c.phase ≡ true
first-gone c children gone = by (is_empty c.phase) refl where
  by : (b : Bool) → is_empty c.phase ≡ b → is_empty c.phase ≡ true
  by true is = is
  by false is = absurd (cc (sym (ap (λ (x : Bool). not x || list_any is_there children) is) ∙ gone))

-- at least one child should run
target-some : (shape : Shape) → is_in_bounds shape ≡ true → 0 < shape.target
target-some shape bounds =
    let target = (and_parts _ (is_between 1 shape.children shape.target) (and_parts _ (nat_le shape.whole_ms 65535000) bounds).0).1 in
    let low : nat_le 1 shape.target ≡ true = (and_parts (nat_le 1 shape.target) (nat_le shape.target shape.children) target).0 in
    grind (arith, nat_tests)

-- what a search finds at once
find-here : (test : ℕ → Bool) (k : ℕ) (ks : List ℕ) → test k ≡ true → find test (k ∷ ks) ≡ Some k
find-here test k ks is = rw is refl

startable-of : (serving few : Bool) (found : Option ℕ) (k : ℕ) → serving ≡ true → few ≡ true → found ≡ Some k → cond (serving && few) found None ≡ Some k
startable-of true true found k serves less is = is
startable-of true false found k serves less is = absurd (cc less)
startable-of false few found k serves less is = absurd (cc serves)

found-first : (s : State) (c : Child) (children : List Child) → s.children ≡ c ∷ children → is_empty c.phase ≡ true
    → find (child_passes (λ x. is_empty x.phase) s) (range_with_len 0 (length s.children)) ≡ Some 0
found-first s c children is empty =
    let first : child_passes (λ x. is_empty x.phase) s 0 ≡ true =
    ap (λ (xs : List Child). option_map_or (λ (x : Child). is_empty x.phase) (slice_get xs 0) false) is ∙ empty in
    ap (λ (xs : List Child). find (child_passes (λ x. is_empty x.phase) s) (range_with_len 0 (length xs))) is
    ∙ find-here (child_passes (λ x. is_empty x.phase) s) 0 (range_with_len (0 + 1) (length children)) first

-- where each child is gone, and the server takes connections, the first one is to be started
first-needed : (s : State) (children : List Child) → s.children ≡ children → 0 < length children → is_serving s.going ≡ true → is_in_bounds s.shape ≡ true
    → list_any is_there children ≡ false → startable s ≡ Some 0
first-needed s [] is some serves bounds gone = absurd (omega (arith, some))
first-needed s (c ∷ children) is some serves bounds gone =
    let none : running_count s.children ≡ 0 = ap (λ (xs : List Child). running_count xs) is ∙ none-run (c ∷ children) gone in
    let fewer : nat_lt (running_count s.children) s.shape.target ≡ true =
    ap (λ (n : ℕ). nat_lt n s.shape.target) none ∙ below-target s.shape.target (target-some s.shape bounds) in
    startable-of (is_serving s.going) (nat_lt (running_count s.children) s.shape.target) _ 0 serves fewer
    (found-first s c children is (first-gone c children gone))
  where
    below-target : (n : ℕ) → 0 < n → nat_lt 0 n ≡ true
    below-target n more = grind (arith, nat_tests)

-- so where none is to be started some child isn't gone
pub staffed-started : (s : State) → is_serving s.going ≡ true → startable s ≡ None → is_in_bounds s.shape ≡ true → 0 < length s.children → is_staffed s ≡ true
staffed-started s serves none bounds some = by (is_staffed s) refl where
  by : (b : Bool) → is_staffed s ≡ b → is_staffed s ≡ true
  by true is = is
  by false is = absurd (cc (sym (first-needed s s.children refl some serves bounds is) ∙ none))

-- whether the server takes connections or doesn't, while it goes on
unserving-staffed : (serves halted staffed : Bool) → serves ≡ false → halted ≡ false → (not serves && not halted && not staffed) ≡ false → staffed ≡ true
unserving-staffed true halted staffed none up before = absurd (cc none)
unserving-staffed false true staffed none up before = absurd (cc up)
unserving-staffed false false true none up before = refl
unserving-staffed false false false none up before = absurd (cc before)

pub staffed-behind : (a b : State) → b.going ≡ a.going → is_halted a.going ≡ false → (is_staffed a ≡ true → is_staffed b ≡ true) → is_at_its_end a ≡ false
    → startable b ≡ None → is_in_bounds b.shape ≡ true → 0 < length b.children → is_staffed b ≡ true
staffed-behind a b going up keeps before none bounds some = by (is_serving a.going) refl where
  by : (serves : Bool) → is_serving a.going ≡ serves → is_staffed b ≡ true
  by true serves = staffed-started b (ap is_serving going ∙ serves) none bounds some
  by false serves = keeps (unserving-staffed (is_serving a.going) (is_halted a.going) (is_staffed a) serves up before)

-- and no graceful stop comes to its end meanwhile
pub before-behind : (a b : State) → b.going ≡ a.going → (is_staffed a ≡ true → is_staffed b ≡ true) → is_at_its_end a ≡ false → is_at_its_end b ≡ false
before-behind a b going keeps before = by (is_serving a.going) (is_halted a.going) refl refl where
  by : (serves halted : Bool) → is_serving a.going ≡ serves → is_halted a.going ≡ halted → is_at_its_end b ≡ false
  by true halted serves up = not-at_end_serving b (ap is_serving going ∙ serves)
  by false true serves up = not-at_end_halted b (ap is_halted going ∙ up)
  by false false serves up = not-at_end b (keeps (unserving-staffed (is_serving a.going) (is_halted a.going) (is_staffed a) serves up before))

-- ## What children that are moved, and commands, leave

-- the rows, the signals and the moment are as they were, and there are as many children
pub record KeepsRows (a b : State) : Type 0 where
  pub rows : b.rows ≡ a.rows
  pub signals : b.signals ≡ a.signals
  pub moment : b.moment ≡ a.moment
  pub children : length b.children ≡ length a.children

pub rows-same : (s : State) → KeepsRows s s
rows-same s = record { rows = refl; signals = refl; moment = refl; children = refl }

pub rows-more : (a b c : State) → KeepsRows a b → KeepsRows b c → KeepsRows a c
rows-more a b c first second = record {
  rows = second.rows ∙ first.rows;
  signals = second.signals ∙ first.signals;
  moment = second.moment ∙ first.moment;
  children = second.children ∙ first.children;
}

rows-command : (s : State) (c : Commanded) → KeepsRows s (next s (event.Command c))
rows-command s (Graceful shape) = record { rows = refl; signals = refl; moment = refl; children = length-map s.children stopped_child }
rows-command s (Refused reason) = rows-same s
rows-command s (GracefulStop until) = record { rows = refl; signals = refl; moment = refl; children = length-map s.children stopped_child }
rows-command s (Stop reason) = record { rows = refl; signals = refl; moment = refl; children = length-map s.children stopped_child }

pub rows-commands : (s : State) (cs : List Commanded) → KeepsRows s (state_by s (map event.Command cs))
rows-commands s [] = rows-same s
rows-commands s (c ∷ cs) =
    rows-more s (next s (event.Command c)) (state_by (next s (event.Command c)) (map event.Command cs)) (rows-command s c)
    (rows-commands (next s (event.Command c)) cs)

rows-retires : (s : State) (ks : List ℕ) → KeepsRows s (state_by s (map event.Retire ks))
rows-retires s [] = rows-same s
rows-retires s (k ∷ ks) =
    rows-more s (next s (event.Retire k)) (state_by (next s (event.Retire k)) (map event.Retire ks))
    (record { rows = refl; signals = refl; moment = refl; children = length-updated s.children k _ }) (rows-retires (next s (event.Retire k)) ks)

rows-starts : (s : State) (ks : List ℕ) → KeepsRows s (state_by s (map event.StartChild ks))
rows-starts s [] = rows-same s
rows-starts s (k ∷ ks) =
    rows-more s (next s (event.StartChild k)) (state_by (next s (event.StartChild k)) (map event.StartChild ks))
    (record { rows = refl; signals = refl; moment = refl; children = length-updated s.children k _ }) (rows-starts (next s (event.StartChild k)) ks)

state-all : (s : State) (es fs : List Event) → state_by s (es ++ fs) ≡ state_by (state_by s es) fs
state-all s [] fs = refl
state-all s (e ∷ es) fs = state-all (next s e) es fs

-- commands were done, then children let go of, and others started
pub rows-moved : GoesOnFrom → ActsInSteps → (cs : List Commanded) (a b c d : SeenBook) → Acts 0 (map event.Command cs) None a b → RetiresSome b c
    → StartsSome c d → after a.base a.history ≡ a.state → after d.base d.history ≡ d.state → KeepsRows a.state d.state
rows-moved law steps cs a b c d does retires starts here there =
    let s = a.state in
    let orders : List Event = map event.Command cs in
    let ends : List Event = map event.Retire retires.children in
    let begins : List Event = map event.StartChild starts.children in
    let acts : Acts 0 ((orders ++ ends) ++ begins) None a d =
    steps.more 0 (orders ++ ends) begins None None a c d (steps.more 0 orders ends None None a b c does retires.acts) starts.acts in
    let behind = state_by s orders in
    let whole : KeepsRows s (state_by (state_by behind ends) begins) =
    rows-more s behind (state_by (state_by behind ends) begins) (rows-commands s cs)
    (rows-more behind (state_by behind ends) (state_by (state_by behind ends) begins) (rows-retires behind retires.children)
    (rows-starts (state_by behind ends) starts.children)) in
    let is : d.state ≡ state_by (state_by behind ends) begins =
    acts-state law 0 _ None a d here there acts ∙ state-all s (orders ++ ends) begins
    ∙ ap (λ (x : State). state_by x begins) (state-all s orders ends) in
    subst (KeepsRows s) (sym is) whole

-- so no connection is due late that wasn't
pub due-kept : (a b : State) → KeepsRows a b → NoneDueLate a → NoneDueLate b
due-kept a b keeps soon slot r at signalled parked serves =
    let was : a.moment < r.deadline =
    soon slot r (ap (λ (rows : List _). slice_get rows slot) (sym keeps.rows) ∙ at)
    (ap (λ (signals : List Bool). slice_index_or signals slot false) (sym keeps.signals) ∙ signalled) parked serves in
    subst (λ (m : ℕ). m < r.deadline) (sym keeps.moment) was

-- and there is a child where some wasn't gone
pub children-kept : (a b : State) → KeepsRows a b → is_staffed a ≡ true → 0 < length b.children
children-kept a b keeps staffed = subst (λ (n : ℕ). 0 < n) (sym keeps.children) (some-children a.children staffed)
