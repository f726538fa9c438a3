-- How many connections the front handed out, and what was made of them.
use Rattle.std.proofs.Common.{◌≡◌, ◌⊎◌, inl, inr, ◌+◌, ◌-◌, ℕ, List, [], ◌∷◌, ◌++◌, replicate, Option, None, Some, option_map, refl, sym, ap, subst, ◌∙◌, append-nil, append_assoc, arith}
use Rattle.std.proofs.lemmas.List.{replicate-append-replicate}
use Rattle.mpm_base.specs.Count.{next_count}
use Rattle.mpm_base.specs.Front.{FrontTold, TellsOn, after_accept, after_turning_away, after_watch}
use Rattle.mpm_base.specs.Link.{LinkTold}
use Rattle.mpm_base.specs.declared.conn.ConnName.{ConnName}
use Rattle.mpm_base.specs.declared.front.Arrival.{Arrival}
use Rattle.mpm_base.specs.declared.front.Arrival.TheVariants as arrival
use Rattle.std.specs.Prelude.{Bool, true}
use Rattle.board_book.specs.Book.{SeenBook}
use Rattle.listener_round.specs.Pace.{Brought, brought, taken}
use Rattle.listener_round.specs.ShareInside.{HandsMany, MakesOneAtMost, TakesAllButOne, TakesHanded}

-- ## Of a front

pub counts-same : (told : Option FrontTold) → TellsOn (HandsMany 0) told told
counts-same None = refl
counts-same (Some t) = (t, refl, λ few. omega arith)

counts-mapped : (many : ℕ) (told told' : Option FrontTold) (change : FrontTold → FrontTold) → ((t : FrontTold) → HandsMany many t (change t))
    → told' ≡ option_map change told → TellsOn (HandsMany many) told told'
counts-mapped many None told' change counts is = is
counts-mapped many (Some t) told' change counts is = (change t, is, counts t)

-- one behind the other
pub counts-both : (m n : ℕ) (told told' told'' : Option FrontTold) → TellsOn (HandsMany m) told told' → TellsOn (HandsMany n) told' told''
    → TellsOn (HandsMany (m + n)) told told''
counts-both m n None told' told'' first second = subst (λ (o : Option FrontTold). TellsOn (HandsMany n) o told'') first second
counts-both m n (Some t) told' told'' first second =
    let mid = first.0 in
    let there : TellsOn (HandsMany n) (Some mid) told'' = subst (λ (o : Option FrontTold). TellsOn (HandsMany n) o told'') first.1 second in (
      there.0,
      there.1,
      λ few.
          let later : mid.accepted + n ≡ (there.0).accepted = there.2 few in
          let sooner : t.accepted + m ≡ mid.accepted = first.2 (omega (arith, later, few)) in
          omega (arith, sooner, later),
    )

-- a link was handed out
one-more : (t : FrontTold) → HandsMany 1 t (record t { accepted = next_count t.accepted })
one-more t few = omega (arith, few)

pub counts-link : {L : Type 0} (link : L) (told told' : Option FrontTold) → told' ≡ option_map (after_accept (arrival.Some link)) told
    → TellsOn (HandsMany 1) told told'
counts-link link told told' is = counts-mapped 1 told told' (after_accept (arrival.Some link)) (λ t. one-more t) is

-- none was
pub counts-none : {L : Type 0} (answer : Arrival L) (told told' : Option FrontTold) → (answer ≡ arrival.None) ⊎ (answer ≡ arrival.Failed)
    → told' ≡ option_map (after_accept answer) told → TellsOn (HandsMany 0) told told'
counts-none answer told told' (inl none) is =
    counts-mapped 0 told told' (λ (t : FrontTold). t) (λ t few. omega arith)
    (is ∙ ap (λ (a : Arrival _). option_map (after_accept a) told) none)
counts-none answer told told' (inr failed) is =
    counts-mapped 0 told told' (λ (t : FrontTold). record t { failed = true }) (λ t few. omega arith)
    (is ∙ ap (λ (a : Arrival _). option_map (after_accept a) told) failed)

watch-counts : (name : ConnName) (answer : Bool) (link : Option LinkTold) (t : FrontTold) → HandsMany 0 t (after_watch name answer link t)
watch-counts name answer None t few = omega arith
watch-counts name answer (Some l) t few = omega arith

pub counts-watch : (name : ConnName) (answer : Bool) (link : Option LinkTold) (told told' : Option FrontTold)
    → told' ≡ option_map (after_watch name answer link) told → TellsOn (HandsMany 0) told told'
counts-watch name answer link told told' is = counts-mapped 0 told told' (after_watch name answer link) (watch-counts name answer link) is

turned-counts : (link : Option LinkTold) (t : FrontTold) → HandsMany 0 t (after_turning_away link t)
turned-counts None t few = omega arith
turned-counts (Some l) t few = omega arith

pub counts-turned : (link : Option LinkTold) (told told' : Option FrontTold) → told' ≡ option_map (after_turning_away link) told
    → TellsOn (HandsMany 0) told told'
counts-turned link told told' is = counts-mapped 0 told told' (after_turning_away link) (turned-counts link) is

-- ## And of the history

pub handed-start : (told : Option FrontTold) (b : SeenBook) → TakesHanded 0 told told b b
handed-start told b = record { handed = 0; counted = counts-same told; made = refl }

-- nothing was handed out behind it
pub handed-still : (missing : ℕ) (told told' told'' : Option FrontTold) (a b : SeenBook) → TakesHanded missing told told' a b
    → TellsOn (HandsMany 0) told' told'' → TakesHanded missing told told'' a b
handed-still missing told told' told'' a b takes still =
    let same : takes.handed + 0 ≡ takes.handed = omega arith in
    record {
      handed = takes.handed;
      counted = subst (λ (n : ℕ). TellsOn (HandsMany n) told told'') same (counts-both takes.handed 0 told told' told'' takes.counted still);
      made = takes.made;
    }

-- what so many more make
brought-more : (h many missing : ℕ) (a b c : SeenBook) → many + missing ≡ 1 → brought b.history ++ [] ≡ brought a.history ++ replicate h taken
    → brought c.history ≡ brought b.history ++ replicate many taken
    → brought c.history ++ replicate missing taken ≡ brought a.history ++ replicate (h + 1) taken
brought-more h many missing a b c one before more =
    ap (λ (xs : List Brought). xs ++ replicate missing taken) more
    ∙ append_assoc (brought b.history) (replicate many taken) (replicate missing taken)
    ∙ ap (λ (xs : List Brought). brought b.history ++ xs) (replicate-append-replicate many missing taken)
    ∙ ap (λ (n : ℕ). brought b.history ++ replicate n taken) one
    ∙ ap (λ (xs : List Brought). xs ++ replicate 1 taken) (sym (append-nil (brought b.history)) ∙ before)
    ∙ append_assoc (brought a.history) (replicate h taken) (replicate 1 taken)
    ∙ ap (λ (xs : List Brought). brought a.history ++ xs) (replicate-append-replicate h 1 taken)

-- one link more was handed out, and its connection taken
pub handed-more : (told told' told'' new : Option FrontTold) (a b c : SeenBook) → TakesHanded 0 told told' a b → TellsOn (HandsMany 1) told' told''
    → TellsOn (HandsMany 0) told'' new → brought c.history ≡ brought b.history ++ taken ∷ [] → TakesHanded 0 told new a c
handed-more told told' told'' new a b c takes one still made =
    let same : takes.handed + 1 + 0 ≡ takes.handed + 1 = omega arith in
    record {
      handed = takes.handed + 1;
      counted =
          subst (λ (n : ℕ). TellsOn (HandsMany n) told new) same
          (counts-both (takes.handed + 1) 0 told told'' new (counts-both takes.handed 1 told told' told'' takes.counted one) still);
      made = brought-more takes.handed 1 0 a b c refl takes.made made;
    }

-- or it couldn't be, or was given up
pub handed-cut : (told told' told'' new : Option FrontTold) (a b c : SeenBook) → TakesHanded 0 told told' a b → TellsOn (HandsMany 1) told' told''
    → TellsOn (HandsMany 0) told'' new → MakesOneAtMost b c → TakesAllButOne told new a c
handed-cut told told' told'' new a b c takes one still makes =
    let same : takes.handed + 1 + 0 ≡ takes.handed + 1 = omega arith in
    let left : makes.many + (1 - makes.many) ≡ 1 = omega (arith, makes.one) in
    record {
      missing = 1 - makes.many;
      one = omega arith;
      takes =
          record {
            handed = takes.handed + 1;
            counted =
                subst (λ (n : ℕ). TellsOn (HandsMany n) told new) same
                (counts-both (takes.handed + 1) 0 told told'' new (counts-both takes.handed 1 told told' told'' takes.counted one) still);
            made = brought-more takes.handed makes.many (1 - makes.many) a b c left takes.made makes.made;
          };
    }

-- where all were taken
pub handed-all : (told told' : Option FrontTold) (a b : SeenBook) → TakesHanded 0 told told' a b → TakesAllButOne told told' a b
handed-all told told' a b takes = record { missing = 0; one = omega arith; takes = takes }
