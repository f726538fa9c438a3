-- The clients that stand where a signal may be due, and the links that were found closed.
use Rattle.std.proofs.Common.{◌≡◌, ◌≢◌, ℕ, zero, suc, ◌+◌, ◌-◌, ◌<◌, ◌≤◌, ◌⊎◌, inl, inr, Bool, true, false, List, [], ◌∷◌, ◌++◌, length, get_or, set, drop, map, append-nil, Option, None, ap, subst, sym, refl, ◌∙◌, length-set, arith}
use Rattle.std.proofs.lemmas.List.{get_or-set_other, get_or-set_same, get_or_default, set-get_or}
use Rattle.mpm_base.specs.declared.conn.ConnName.{ConnName}
use Rattle.script_front.specs.DuePlacesInside.{AllLook, AreMarked, AreUnmarked, Covers, TakesLowest}
use Rattle.script_front.specs.declared.due_places.DuePlaces.{DuePlaces}
use Rattle.script_front.specs.ScriptFront.{no_name_yet}
use Rattle.script_front.specs.Signals.{Gives, LooksAt, SeenClient, idle, new_client}
use Rattle.script_front.proofs.SignalLemmas.{GivesOn, GivesOne, gives-done, gives-start, gives-step}

-- a place is this one or another
pub same-place : (k place : ℕ) → (k ≡ place) ⊎ (k ≢ place)
same-place zero zero = inl refl
same-place zero (suc place) = inr (λ e. absurd (omega (arith, e)))
same-place (suc k) zero = inr (λ e. absurd (omega (arith, e)))
same-place (suc k) (suc place) = elim (same-place k place) [ inl is ↦ inl (ap suc is) | inr off ↦ inr (λ e. off (omega (arith, e))) ]

-- ## Clients at marked places

-- the client at one place changed, and its mark and its name with it
covers-set : (marks marks' : List Bool) (clients : List SeenClient) (watched watched' : List (Option ConnName)) (place : ℕ) (x : SeenClient)
    → Covers marks clients watched → place < length clients → ((k : ℕ) → k ≢ place → get_or marks' k false ≡ get_or marks k false)
    → ((k : ℕ) → k ≢ place → get_or watched' k None ≡ get_or watched k None)
    → (get_or marks' place false ≡ false → (get_or watched' place None ≡ None) ⊎ (x.due ≡ false)) → Covers marks' (set clients place x) watched'
covers-set marks marks' clients watched watched' place x was l marked named here k client to clear = go (same-place k place)
  where
    go : (k ≡ place) ⊎ (k ≢ place) → (get_or watched' k None ≡ None) ⊎ ((get_or (set clients place x) k client).due ≡ false)
    go (inl is) = rw (is, get_or-set_same clients place x client l) (here (rw is at clear))
    go (inr off) = rw (named k off, get_or-set_other clients place k x client off) (was k client (omega (arith, to, length-set clients place x)) (sym (marked k off) ∙ clear))

-- it is marked
pub covers-marked : (marks : List Bool) (clients : List SeenClient) (watched : List (Option ConnName)) (place : ℕ) (x : SeenClient)
    → Covers marks clients watched → place < length marks → place < length clients → Covers (set marks place true) (set clients place x) watched
covers-marked marks clients watched place x was m l =
    covers-set marks (set marks place true) clients watched watched place x was l (λ k off. get_or-set_other marks place k true false off) (λ k off. refl)
    (λ clear. absurd (let wrong : true ≡ false = sym (get_or-set_same marks place true false m) ∙ clear in cc wrong))

-- so it is where its link is watched
pub covers-watched : (marks : List Bool) (clients : List SeenClient) (watched : List (Option ConnName)) (place : ℕ) (x : SeenClient) (name : Option ConnName)
    → Covers marks clients watched → place < length marks → place < length clients → Covers (set marks place true) (set clients place x) (set watched place name)
covers-watched marks clients watched place x name was m l =
    covers-set marks (set marks place true) clients watched (set watched place name) place x was l (λ k off. get_or-set_other marks place k true false off)
    (λ k off. get_or-set_other watched place k name None off) (λ clear. absurd (let wrong : true ≡ false = sym (get_or-set_same marks place true false m) ∙ clear in cc wrong))

-- its mark was taken
pub covers-cleared : (marks : List Bool) (clients : List SeenClient) (watched : List (Option ConnName)) (place : ℕ) (x : SeenClient)
    → Covers marks clients watched → place < length clients → (get_or watched place None ≡ None) ⊎ (x.due ≡ false) → Covers (set marks place false) (set clients place x) watched
covers-cleared marks clients watched place x was l here =
    covers-set marks (set marks place false) clients watched watched place x was l (λ k off. get_or-set_other marks place k false false off) (λ k off. refl) (λ clear. here)

-- no link is watched yet
pub covers-new : (marks : List Bool) (clients : List SeenClient) (all : List (List ℕ)) → Covers marks clients (map no_name_yet all)
covers-new marks clients all k client to clear = inl (none all k)
  where
    none : (all : List (List ℕ)) (k : ℕ) → get_or (map no_name_yet all) k None ≡ None
    none [] k = refl
    none (name ∷ all) zero = refl
    none (name ∷ all) (suc k) = none all k

-- the front only looked at links
pub covers-looks : (marks : List Bool) (clients found : List SeenClient) (watched : List (Option ConnName)) → AllLook clients found → Covers marks clients watched
    → Covers marks found watched
covers-looks marks clients found watched all was k client to clear =
    let l : k < length clients = omega (arith, to, all.each) in
    let same : (get_or found k client).due ≡ (get_or clients k client).due = ap (λ (c : SeenClient). c.due) (all.looks k client l).found_is in
    rw same (was k client l clear)

-- ## The signals of a wait, over places that aren't marked

-- nothing was looked at
unseen : (x : SeenClient) → LooksAt x x
unseen x = record { found_is = refl; once = λ e. e }

-- one place
gives-past : (marks : List Bool) (clients now : List SeenClient) (ns : List (Option ConnName)) (i : ℕ) (ready : List ℕ) → GivesOn clients now ns i ready → Covers marks now ns
    → i < length now → i < length ns → get_or marks i false ≡ false → GivesOn clients now ns (i + 1) ready
gives-past marks clients now ns i ready on covers l k clear =
    let first : SeenClient = new_client [] in
    let x : SeenClient = get_or now i first in
    let still : (get_or ns i None ≡ None) ⊎ (x.due ≡ false) = covers i first l clear in
    let one : GivesOne (drop (i + 1) clients) (drop (i + 1) ns) ready x (get_or ns i None) x [] = λ later slots gives. idle (unseen x) still (rw (append-nil ready) at gives) in
    let step : GivesOn clients (set now i x) ns (i + 1) (ready ++ []) = gives-step clients now ns i ready [] x x (get_or ns i None) on l k (get_or_default now i first x l) refl one in
    rw (set-get_or now i first, append-nil ready) at step

-- so many of them
gives-some : (marks : List Bool) (clients now : List SeenClient) (ns : List (Option ConnName)) (i n : ℕ) (ready : List ℕ) → GivesOn clients now ns i ready → Covers marks now ns
    → length now ≡ length ns → i + n ≤ length now → AreUnmarked marks i (i + n) → GivesOn clients now ns (i + n) ready
gives-some marks clients now ns i zero ready on covers each l none = subst (λ j. GivesOn clients now ns j ready) (omega arith) on
gives-some marks clients now ns i (suc n) ready on covers each l none =
    let one = gives-past marks clients now ns i ready on covers (omega (arith, l)) (omega (arith, l, each)) (none i (omega arith) (omega arith)) in
    let all = gives-some marks clients now ns (i + 1) n ready one covers each (omega (arith, l)) (λ k from to. none k (omega (arith, from)) (omega (arith, to))) in
    subst (λ j. GivesOn clients now ns j ready) (omega arith) all

-- up to a place
pub gives-over : (marks : List Bool) (clients now : List SeenClient) (ns : List (Option ConnName)) (i to : ℕ) (ready : List ℕ) → GivesOn clients now ns i ready → Covers marks now ns
    → length now ≡ length ns → i ≤ to → to ≤ length now → AreUnmarked marks i to → GivesOn clients now ns to ready
gives-over marks clients now ns i to ready on covers each l m none =
    let e : i + (to - i) ≡ to = omega (arith, l) in
    subst (λ j. GivesOn clients now ns j ready) e
    (gives-some marks clients now ns i (to - i) ready on covers each (omega (arith, l, m)) (λ k from before. none k from (omega (arith, before, l))))

-- up to the lowest place that may be marked all is given as it should be, and what isn't marked there and behind isn't due
pub record GivesDue (clients now : List SeenClient) (ns : List (Option ConnName)) (due : DuePlaces) (ready : List ℕ) : Type 0 where
  pub gives : GivesOn clients now ns due.low ready
  pub each : length due.marks.items ≡ length clients
  pub marked : AreMarked due
  pub covers : Covers due.marks.items now ns

pub due-start : (clients : List SeenClient) (ns : List (Option ConnName)) (due : DuePlaces) (ready : List ℕ) → length clients ≡ length ns → length due.marks.items ≡ length clients
    → AreMarked due → Covers due.marks.items clients ns → ready ≡ [] → GivesDue clients clients ns due ready
due-start clients ns due ready size each marked covers none = record {
  gives = gives-over due.marks.items clients clients ns 0 due.low ready (gives-start clients ns ready none) covers size (omega arith) (omega (arith, marked.low_within, each)) (λ k from to. marked.below k to);
  each = each;
  marked = marked;
  covers = covers;
}

module _ (clients now : List SeenClient) (ns : List (Option ConnName)) (old : DuePlaces) (ready : List ℕ) (on : GivesDue clients now ns old ready) (same : length now ≡ length clients) (size : length clients ≡ length ns) where
  -- up to the place of which the mark was taken
  pub due-here : (new : DuePlaces) (place : ℕ) → TakesLowest place old new → GivesOn clients now ns place ready
  due-here new place takes =
      gives-over old.marks.items clients now ns old.low place ready on.gives on.covers (same ∙ size) takes.from (omega (arith, takes.within, on.each, same)) takes.unmarked

  -- what was done there was done
  pub due-step : (new : DuePlaces) (place : ℕ) (x : SeenClient) (ready' : List ℕ) → TakesLowest place old new → AreMarked new → (get_or ns place None ≡ None) ⊎ (x.due ≡ false)
      → GivesOn clients (set now place x) ns (place + 1) ready' → GivesDue clients (set now place x) ns new ready'
  due-step new place x ready' takes marked here step = record {
    gives = subst (λ i. GivesOn clients (set now place x) ns i ready') (omega (arith, takes.low_is)) step;
    each = ap length takes.marks_are ∙ length-set old.marks.items place false ∙ on.each;
    marked = marked;
    covers = rw takes.marks_are (covers-cleared old.marks.items now ns place x on.covers (omega (arith, takes.within, on.each, same)) here);
  }

  -- no place is marked
  pub due-end : AreUnmarked old.marks.items 0 (length old.marks.items) → Gives 256 clients ns now ready
  due-end none =
      let all = gives-over old.marks.items clients now ns old.low (length now) ready on.gives on.covers (same ∙ size) (omega (arith, on.marked.low_within, on.each, same)) (omega arith) (λ k from to. none k (omega arith) (omega (arith, to, on.each, same))) in
      gives-done clients now ns (length now) ready all (omega arith) (omega (arith, same)) (omega (arith, same, size))
