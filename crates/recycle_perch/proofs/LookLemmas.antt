-- A step at a place, the steps of one call, and looks at one place more.
use Rattle.std.proofs.Common.{◌≡◌, ◌≢◌, ◌⊎◌, inl, inr, ⊎_elim, ℕ, zero, suc, ◌+◌, ◌-◌, ◌<◌, ◌≤◌, List, [], ◌∷◌, ◌++◌, length, map, get_or, set, Option, Some, None, Result, Ok, Err, MatchOption, MatchResult, refl, sym, ap, ◌∙◌, subst, arith}
use Rattle.std.specs.Prelude.{slice_get}
use Rattle.std.proofs.lemmas.List.{get_or-map, length-map}
use Rattle.std.proofs.lemmas.Option.{same_Some, slice_get_within}
use native.Mathlib.Decide.{ℕ_discrete}
use Rattle.atomic_table.specs.declared.ruled.Mark.{Mark}
use Rattle.recycle_perch.specs.declared.looks.Looks.{Looks}
use Rattle.recycle_perch.specs.declared.place.RestPlace.{RestPlace}
use Rattle.table_rule.specs.declared.trail.Step.{Step}
use Rattle.recycle_perch.specs.Looking.{AllLookAt, AreInOrder, CameBack, FoundNone, LookAt, MayHaveTried, WasLaidDown, WasTaken, steps_of, with_step_at, word_names_of}
use Rattle.recycle_perch.specs.LookingInside.{TakenBetween, TriedBetween}
use Rattle.recycle_perch.specs.Words.{deeds, laid_none, laid_one, took_none, took_one}

-- ## A step at a place

-- the mark at a place has one step more
pub step_at : (marks : List (Mark (List Step))) (i : ℕ) (m w : Mark (List Step)) (step : ℕ × ℕ) → m ≡ get_or marks i m
    → deeds w.view ≡ deeds m.view ++ step ∷ [] → map (λ mark. deeds mark.view) (set marks i w) ≡ with_step_at i step (map (λ mark. deeds mark.view) marks)
step_at [] i m w step at now = refl
step_at (x ∷ marks) zero m w step at now =
    ap (λ steps. steps ∷ map (λ (mark : Mark (List Step)). deeds mark.view) marks) (now ∙ ap (λ (mark : Mark (List Step)). deeds mark.view ++ step ∷ []) at)
step_at (x ∷ marks) (suc i) m w step at now = ap (λ all. deeds x.view ∷ all) (step_at marks i m w step at now)

-- it is of the same word
pub words_at : (marks : List (Mark (List Step))) (i : ℕ) (m w : Mark (List Step)) → m ≡ get_or marks i m → w.perch ≡ m.perch
    → map (λ mark. mark.perch) (set marks i w) ≡ map (λ mark. mark.perch) marks
words_at [] i m w at same = refl
words_at (x ∷ marks) zero m w at same =
    ap (λ word. word ∷ map (λ (mark : Mark (List Step)). mark.perch) marks) (same ∙ ap (λ (mark : Mark (List Step)). mark.perch) at)
words_at (x ∷ marks) (suc i) m w at same = ap (λ all. x.perch ∷ all) (words_at marks i m w at same)

-- lists of which the images are the same are of the same length
pub same_length : {X Y : Type 0} (f : X → ℕ) (g : Y → ℕ) (xs : List X) (ys : List Y) → map f xs ≡ map g ys → length xs ≡ length ys
same_length f g xs ys same = sym (length-map xs f) ∙ (ap length same ∙ length-map ys g)

-- and at each place the images are the same
pub same_at : {X Y : Type 0} (f : X → ℕ) (g : Y → ℕ) (xs : List X) (ys : List Y) (i : ℕ) (x : X) (y : Y) → map f xs ≡ map g ys
    → i < length ys → x ≡ get_or xs i x → y ≡ get_or ys i y → f x ≡ g y
same_at f g xs ys i x y same within at_x at_y =
    let long = same_length f g xs ys same in
    ap f at_x ∙ (sym (get_or-map f xs i x 0 (omega arith)) ∙ (ap (λ all. get_or all i 0) same ∙ (get_or-map g ys i y 0 within ∙ ap g (sym at_y))))

-- the image at a place
pub image_at : {X : Type 0} (f : X → ℕ) (xs : List X) (i : ℕ) (x : X) → i < length xs → x ≡ get_or xs i x → get_or (map f xs) i 0 ≡ f x
image_at f xs i x within at = get_or-map f xs i x 0 within ∙ ap f (sym at)

-- ## One step at a place

-- there one step more is known
step_here : (all : List (List (ℕ × ℕ))) (i : ℕ) (step : ℕ × ℕ) (known : List (ℕ × ℕ)) → slice_get all i ≡ Some known
    → slice_get (with_step_at i step all) i ≡ Some (known ++ step ∷ [])
step_here [] i step known at = absurd (cc)
step_here (x ∷ xs) zero step known at = ap (λ (l : List (ℕ × ℕ)). Some (l ++ step ∷ [])) (same_Some x known at)
step_here (x ∷ xs) (suc i) step known at = step_here xs i step known at

-- and elsewhere what was known
step_else : (all : List (List (ℕ × ℕ))) (i j : ℕ) (step : ℕ × ℕ) → j ≢ i → slice_get (with_step_at i step all) j ≡ slice_get all j
step_else [] i j step ne = refl
step_else (x ∷ xs) zero zero step ne = absurd (ne refl)
step_else (x ∷ xs) zero (suc j) step ne = refl
step_else (x ∷ xs) (suc i) zero step ne = refl
step_else (x ∷ xs) (suc i) (suc j) step ne = step_else xs i j step (λ e. ne (ap suc e))

step_long : (all : List (List (ℕ × ℕ))) (i : ℕ) (step : ℕ × ℕ) → length (with_step_at i step all) ≡ length all
step_long [] i step = refl
step_long (x ∷ xs) zero step = refl
step_long (x ∷ xs) (suc i) step = ap suc (step_long xs i step)

-- no step where there is no place
pub step_beyond : (all : List (List (ℕ × ℕ))) (i : ℕ) (step : ℕ × ℕ) → length all ≤ i → with_step_at i step all ≡ all
step_beyond [] i step le = refl
step_beyond (x ∷ xs) zero step le = absurd (omega arith)
step_beyond (x ∷ xs) (suc i) step le = ap (λ l. x ∷ l) (step_beyond xs i step (omega arith))

-- ## What a call found

-- a place was looked at
pub looked : {C : Type 0} (o : Option C) (marks : List (Mark (List Step))) (i : ℕ) (m w : Mark (List Step)) → m ≡ get_or marks i m
    → MatchOption o (deeds w.view ≡ deeds m.view ++ took_none ∷ []) (λ _. deeds w.view ≡ deeds m.view ++ took_one ∷ [])
    → MatchOption o (map (λ mark. deeds mark.view) (set marks i w) ≡ with_step_at i took_none (map (λ mark. deeds mark.view) marks))
    (λ _. map (λ mark. deeds mark.view) (set marks i w) ≡ with_step_at i took_one (map (λ mark. deeds mark.view) marks))
looked None marks i m w at told = step_at marks i m w took_none at told
looked (Some x) marks i m w at told = step_at marks i m w took_one at told

-- a carrier was tried to be laid down
pub tried : {C E : Type 0} (r : Result C E) (marks : List (Mark (List Step))) (i : ℕ) (m w : Mark (List Step)) → m ≡ get_or marks i m
    → MatchResult r (λ _. deeds w.view ≡ deeds m.view ++ laid_one ∷ []) (λ _. deeds w.view ≡ deeds m.view ++ laid_none ∷ [])
    → MatchResult r (λ _. map (λ mark. deeds mark.view) (set marks i w) ≡ with_step_at i laid_one (map (λ mark. deeds mark.view) marks))
    (λ _. map (λ mark. deeds mark.view) (set marks i w) ≡ with_step_at i laid_none (map (λ mark. deeds mark.view) marks))
tried (Ok x) marks i m w at told = step_at marks i m w laid_one at told
tried (Err x) marks i m w at told = step_at marks i m w laid_none at told

-- ## The places that were tried

below_or : (a b : ℕ) → (a < b) ⊎ (b ≤ a)
below_or zero zero = inr (omega arith)
below_or zero (suc b) = inl (omega arith)
below_or (suc a) zero = inr (omega arith)
below_or (suc a) (suc b) = ⊎_elim (λ (l : a < b). inl (omega arith)) (λ (g : b ≤ a). inr (omega arith)) (below_or a b)

-- none yet
pub tried_none : (from : ℕ) (before : List (List (ℕ × ℕ))) → TriedBetween from from before before
tried_none from before = record {
  long = refl;
  tried = λ place known le lt at. absurd (omega arith);
  untried = λ place known out at. at;
}

-- one place more
pub tried_more : (from i : ℕ) (before now after : List (List (ℕ × ℕ))) → from ≤ i → TriedBetween from i before now
    → after ≡ with_step_at i took_none now → TriedBetween from (i + 1) before after
tried_more from i before now after le so_far is = record {
  long = ap length is ∙ step_long now i took_none ∙ so_far.long;
  tried = λ place known low high at. elim (ℕ_discrete place i) [
    | yes e ↦
        subst (λ k. slice_get after k ≡ Some (known ++ took_none ∷ [])) (sym e)
        (ap (λ l. slice_get l i) is ∙ step_here now i took_none known
        (so_far.untried i known (inr (let z : i ≤ i = omega arith in z)) (subst (λ k. slice_get before k ≡ Some known) e at)))
    | no ne ↦ ap (λ l. slice_get l place) is ∙ step_else now i place took_none ne ∙ so_far.tried place known low (omega (arith, high, ne)) at
  ];
  untried = λ place known out at.
      let ne : place ≢ i = λ e. ⊎_elim (λ (l : place < from). omega (arith, l, e, le)) (λ (g : i + 1 ≤ place). omega (arith, g, e)) out in
      ap (λ l. slice_get l place) is ∙ step_else now i place took_none ne
      ∙ so_far.untried place known (⊎_elim (λ (l : place < from). inl l) (λ (g : i + 1 ≤ place). inr (omega (arith, g))) out) at;
}

-- the place at which one was found
pub taken_at : (from to i carrier : ℕ) (before now after : List (List (ℕ × ℕ))) → from ≤ i → i < to → carrier ≡ i + 1 → TriedBetween from i before now
    → after ≡ with_step_at i took_one now → TakenBetween from to carrier before after
taken_at from to i carrier before now after le lt its so_far is =
    let here : i ≡ carrier - 1 = omega (arith, its) in
    record {
      some = omega (arith, its, le);
      within = omega (arith, its, lt);
      now = now;
      so_far = subst (λ k. TriedBetween from k before now) here so_far;
      last = is ∙ ap (λ k. with_step_at k took_one now) here;
    }

-- a place that may have been tried
may_have : (from to : ℕ) (before after : List (List (ℕ × ℕ))) → TriedBetween from to before after → (place : ℕ) → MayHaveTried before after place
may_have from to before after t place known at =
    ⊎_elim (λ (l : place < from). inl (t.untried place known (inl l) at))
    (λ (low : from ≤ place). ⊎_elim
    (λ (high : place < to). inr (t.tried place known low high at))
    (λ (g : to ≤ place). inl (t.untried place known (inr g) at))
    (below_or place to))
    (below_or place from)

-- all were tried, in two goes
pub all_tried : (first places : ℕ) (before now after : List (List (ℕ × ℕ))) → length before ≡ places → TriedBetween first places before now
    → TriedBetween 0 first now after → FoundNone before after
all_tried first places before now after long one two = record {
  long = two.long ∙ one.long;
  each = λ place known at.
      let within : place < places = omega (arith, slice_get_within before place known at, long) in
      ⊎_elim
      (λ (l : place < first). two.tried place known (omega arith) l (one.untried place known (inl l) at))
      (λ (g : first ≤ place). two.untried place (known ++ took_none ∷ []) (inr g) (one.tried place known g within at))
      (below_or place first);
}

-- one was found in the first go
pub taken_first : (first places carrier : ℕ) (before after : List (List (ℕ × ℕ))) → length before ≡ places → TakenBetween first places carrier before after
    → WasTaken carrier before after
taken_first first places carrier before after long t = record {
  long = ap length t.last ∙ step_long t.now (carrier - 1) took_one ∙ t.so_far.long;
  some = (let s = t.some in omega arith);
  within = (let w = t.within in omega (arith, long));
  there = λ known at.
      ap (λ l. slice_get l (carrier - 1)) t.last
      ∙ step_here t.now (carrier - 1) took_one known (t.so_far.untried (carrier - 1) known (inr (let z : carrier - 1 ≤ carrier - 1 = omega arith in z)) at);
  others = λ place ne known at.
      let same : slice_get after place ≡ slice_get t.now place = ap (λ l. slice_get l place) t.last ∙ step_else t.now (carrier - 1) place took_one ne in
      ⊎_elim (λ e. inl (same ∙ e)) (λ e. inr (same ∙ e)) (may_have first (carrier - 1) before t.now t.so_far place known at);
}

-- or in the second
pub taken_then : (first places carrier : ℕ) (before now after : List (List (ℕ × ℕ))) → length before ≡ places → first ≤ places → TriedBetween first places before now
    → TakenBetween 0 first carrier now after → WasTaken carrier before after
taken_then first places carrier before now after long le one t = record {
  long = ap length t.last ∙ step_long t.now (carrier - 1) took_one ∙ t.so_far.long ∙ one.long;
  some = (let s = t.some in omega arith);
  within = (let w = t.within in omega (arith, long, le));
  there = λ known at.
      let some = t.some in
      let within = t.within in
      ap (λ l. slice_get l (carrier - 1)) t.last
      ∙ step_here t.now (carrier - 1) took_one known
      (t.so_far.untried (carrier - 1) known (inr (let z : carrier - 1 ≤ carrier - 1 = omega arith in z))
      (one.untried (carrier - 1) known (inl (let z : carrier - 1 < first = omega arith in z)) at));
  others = λ place ne known at.
      let same : slice_get after place ≡ slice_get t.now place = ap (λ l. slice_get l place) t.last ∙ step_else t.now (carrier - 1) place took_one ne in
      let high = t.within in
      ⊎_elim
      (λ (l : place < first). ⊎_elim (λ e. inl (same ∙ e)) (λ e. inr (same ∙ e))
      (may_have 0 (carrier - 1) now t.now t.so_far place known (one.untried place known (inl l) at)))
      (λ (g : first ≤ place). ⊎_elim
      (λ e. inl (same ∙ t.so_far.untried place known (inr (let z : carrier - 1 ≤ place = omega (arith, g, high) in z)) e))
      (λ e. inr (same ∙ t.so_far.untried place (known ++ took_none ∷ []) (inr (let z : carrier - 1 ≤ place = omega (arith, g, high) in z)) e))
      (may_have first places before now one place known at))
      (below_or place first);
}

-- what came of both goes
pub taken_all : {C : Type 0} (o : Option C) (number : C → ℕ) (first places : ℕ) (before now after : List (List (ℕ × ℕ))) → length before ≡ places → first ≤ places
    → TriedBetween first places before now → MatchOption o (TriedBetween 0 first now after) (λ c. TakenBetween 0 first (number c) now after)
    → MatchOption o (FoundNone before after) (λ c. WasTaken (number c) before after)
taken_all None number first places before now after long le one two = all_tried first places before now after long one two
taken_all (Some x) number first places before now after long le one two = taken_then first places (number x) before now after long le one two

-- what came of a step at the place of a carrier
pub laid_down : {C E : Type 0} (r : Result C E) (carrier i : ℕ) (before after : List (List (ℕ × ℕ))) → i ≡ carrier - 1 → carrier ≤ length before
    → MatchResult r (λ _. after ≡ with_step_at i laid_one before) (λ _. after ≡ with_step_at i laid_none before)
    → MatchResult r (λ _. WasLaidDown carrier before after) (λ _. CameBack carrier before after)
laid_down (Ok x) carrier i before after its within told = record { within = within; steps = told ∙ ap (λ k. with_step_at k laid_one before) its }
laid_down (Err x) carrier i before after its within told = told ∙ ap (λ k. with_step_at k laid_none before) its

-- there are as many lists of steps as places
pub steps_long : {K : Type 0} (places : List (RestPlace K)) (looks : Looks) → map (λ (m : Mark (List Step)). m.perch) looks.marks.items ≡ word_names_of places
    → length (steps_of looks) ≡ length places
steps_long places looks words =
    length-map looks.marks.items (λ (m : Mark (List Step)). deeds m.view)
    ∙ same_length (λ (m : Mark (List Step)). m.perch) (λ place. place.perch.name) looks.marks.items places words

-- ## Elements of changed lists

-- an element of a list of which one was changed
pub set_has : {X : Type 0} (xs : List X) (i : ℕ) (y : X) (k : ℕ) (x : X) → slice_get (set xs i y) k ≡ Some x
    → ((k ≡ i) × (y ≡ x)) ⊎ ((k ≢ i) × (slice_get xs k ≡ Some x))
set_has [] i y k x at = absurd (cc)
set_has (z ∷ xs) zero y zero x at = inl (refl, same_Some y x at)
set_has (z ∷ xs) zero y (suc k) x at = inr (λ (e : suc k ≡ zero). omega arith, at)
set_has (z ∷ xs) (suc i) y zero x at = inr (λ (e : zero ≡ suc i). omega arith, at)
set_has (z ∷ xs) (suc i) y (suc k) x at = ⊎_elim
    (λ (there : (k ≡ i) × (y ≡ x)). inl (ap suc there.0, there.1))
    (λ (other : (k ≢ i) × (slice_get xs k ≡ Some x)). inr (λ (e : suc k ≡ suc i). other.0 (omega arith), other.1))
    (set_has xs i y k x at)

-- an element of a list with one more
pub more_has : {X : Type 0} (xs : List X) (y : X) (k : ℕ) (x : X) → slice_get (xs ++ y ∷ []) k ≡ Some x
    → (slice_get xs k ≡ Some x) ⊎ ((k ≡ length xs) × (y ≡ x))
more_has [] y zero x at = inr (refl, same_Some y x at)
more_has [] y (suc k) x at = absurd (cc)
more_has (z ∷ xs) y zero x at = inl at
more_has (z ∷ xs) y (suc k) x at = ⊎_elim
    (λ (before : slice_get xs k ≡ Some x). inl before)
    (λ (last : (k ≡ length xs) × (y ≡ x)). inr (ap suc last.0, last.1))
    (more_has xs y k x at)

-- ## Places in order

-- one place more, for the next number
pub in_order_more : {K : Type 0} (places : List (RestPlace K)) (place : RestPlace K) → AreInOrder places → place.number ≡ length places + 1
    → AreInOrder (places ++ place ∷ [])
in_order_more {K} places place are its i other at = ⊎_elim
    (λ (before : slice_get places i ≡ Some other). are i other before)
    (λ (last : (i ≡ length places) × (place ≡ other)). ap (λ (q : RestPlace K). q.number) (sym last.1) ∙ its ∙ ap (λ n. n + 1) (sym last.0))
    (more_has places place i other at)

-- ## Looks at one place more

-- so many of them are at these words
abbrev pub FirstLookAt : ℕ → List ℕ → ℕ → List Looks → Type 0
FirstLookAt i names most all = (k : ℕ) (looks : Looks) → slice_get all k ≡ Some looks → k < i → LookAt names most looks

-- the others are at these
abbrev pub OthersLookAt : ℕ → List ℕ → ℕ → List Looks → Type 0
OthersLookAt i names most all = (k : ℕ) (looks : Looks) → slice_get all k ≡ Some looks → i ≤ k → LookAt names most looks

-- one more is at the first words
pub first_more : (i : ℕ) (names : List ℕ) (most : ℕ) (all : List Looks) (y : Looks) → FirstLookAt i names most all → LookAt names most y
    → FirstLookAt (i + 1) names most (set all i y)
first_more i names most all y first mine = λ k looks at below. ⊎_elim
    (λ (there : (k ≡ i) × (y ≡ looks)). subst (LookAt names most) there.1 mine)
    (λ (other : (k ≢ i) × (slice_get all k ≡ Some looks)). first k looks other.1 (omega (arith, below, other.0)))
    (set_has all i y k looks at)

-- the others are one fewer
pub others_less : (i : ℕ) (names : List ℕ) (most : ℕ) (all : List Looks) (y : Looks) → OthersLookAt i names most all
    → OthersLookAt (i + 1) names most (set all i y)
others_less i names most all y others = λ k looks at above. ⊎_elim
    (λ (there : (k ≡ i) × (y ≡ looks)). absurd (omega (arith, there.0, above)))
    (λ (other : (k ≢ i) × (slice_get all k ≡ Some looks)). others k looks other.1 (omega (arith, above)))
    (set_has all i y k looks at)

-- one more is at the words of all
pub all_more : (names : List ℕ) (most : ℕ) (all more : List Looks) (y : Looks) → more ≡ all ++ y ∷ [] → AllLookAt names most all
    → LookAt names most y → AllLookAt names most more
all_more names most all more y is old mine = λ k looks at. ⊎_elim
    (λ (before : slice_get all k ≡ Some looks). old k looks before)
    (λ (last : (k ≡ length all) × (y ≡ looks)). subst (LookAt names most) last.1 mine)
    (more_has all y k looks (ap (λ l. slice_get l k) (sym is) ∙ at))
