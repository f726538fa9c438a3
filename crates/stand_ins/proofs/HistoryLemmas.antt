-- What a further step leaves of a history, and what a store that goes through its editions tells.
use Rattle.std.proofs.Common.{◌≡◌, suc, ◌+◌, ◌<◌, Bool, true, false, cond, List, [], ◌∷◌, ◌++◌, length, refl, sym, ap, ◌∙◌, append_assoc, arith}
use Rattle.std.specs.List.{fold}
use Rattle.std.proofs.lemmas.List.{append-nil, length-append}
use Rattle.std.proofs.lemmas.List.Sums.{fold-append}
use Rattle.mpm_base.specs.Store.{StoreTold, after_renew}
use Rattle.mpm_base.specs.declared.store.File.{File}
use Rattle.stand_ins.specs.History.{SeenHistory}
use Rattle.stand_ins.specs.HistoryInside.{after_step, ended, ended_by, is_end, seen_history, told_by}
use Rattle.stand_ins.specs.PlainStore.{with_edition}
use Rattle.stand_ins.specs.declared.history.Step.{Step}

-- ## A further step

-- an edition ends with it or not
pub ended-push : (files : List File) (steps : List Step) (s : Step)
    → ended files (steps ++ s ∷ []) ≡ ended files steps ++ ended_by s (after_step (fold after_step files steps) s)
ended-push files [] s = append-nil (ended_by s (after_step files s))
ended-push files (first ∷ steps) s =
    ap (λ editions. ended_by first (after_step files first) ++ editions) (ended-push (after_step files first) steps s)
    ∙ sym (append_assoc (ended_by first (after_step files first)) (ended (after_step files first) steps) (ended_by s (after_step (fold after_step files (first ∷ steps)) s)))

pub ended-more : (files : List File) (steps : List Step) (s : Step) → is_end s ≡ true
    → ended files (steps ++ s ∷ []) ≡ ended files steps ++ after_step (fold after_step files steps) s ∷ []
ended-more files steps s is =
    ended-push files steps s ∙ ap (λ (b : Bool). ended files steps ++ cond b (after_step (fold after_step files steps) s ∷ []) []) is

pub ended-kept : (files : List File) (steps : List Step) (s : Step) → is_end s ≡ false → ended files (steps ++ s ∷ []) ≡ ended files steps
ended-kept files steps s not =
    ended-push files steps s
    ∙ ap (λ (b : Bool). ended files steps ++ cond b (after_step (fold after_step files steps) s ∷ []) []) not
    ∙ append-nil (ended files steps)

-- a change leaves the editions that ended
pub history-change : (steps : List Step) (s : Step) → is_end s ≡ false
    → seen_history (steps ++ s ∷ []) ≡ record (seen_history steps) { files = after_step (fold after_step [] steps) s }
history-change steps s not =
    ap (λ past. let seen : SeenHistory = record { past = past; files = fold after_step [] (steps ++ s ∷ []) } in seen) (ended-kept [] steps s not)
    ∙ ap (λ files. let seen : SeenHistory = record { past = ended [] steps; files = files } in seen) (fold-append after_step [] steps (s ∷ []))

-- and an end leaves the files
pub history-end : (steps : List Step) (s : Step) → is_end s ≡ true → after_step (fold after_step [] steps) s ≡ fold after_step [] steps
    → seen_history (steps ++ s ∷ []) ≡ record (seen_history steps) { past = ended [] steps ++ fold after_step [] steps ∷ [] }
history-end steps s is same =
    ap (λ past. let seen : SeenHistory = record { past = past; files = fold after_step [] (steps ++ s ∷ []) } in seen)
    (ended-more [] steps s is ∙ ap (λ files. ended [] steps ++ files ∷ []) same)
    ∙ ap (λ files. let seen : SeenHistory = record { past = ended [] steps ++ fold after_step [] steps ∷ []; files = files } in seen)
    (fold-append after_step [] steps (s ∷ []) ∙ same)

-- as many editions as before, or one more
pub count-kept : (files : List File) (steps : List Step) (s : Step) → is_end s ≡ false → length (ended files (steps ++ s ∷ [])) ≡ length (ended files steps)
count-kept files steps s not = ap length (ended-kept files steps s not)

pub count-more : (files : List File) (steps : List Step) (s : Step) → is_end s ≡ true → length (ended files (steps ++ s ∷ [])) ≡ length (ended files steps) + 1
count-more files steps s is =
    ap length (ended-more files steps s is) ∙ length-append (ended files steps) (after_step (fold after_step files steps) s ∷ [])

-- where an edition is still to end there is a step
pub some-step : (files : List File) (steps : List Step) → 0 < length (ended files steps) → 0 < length steps
some-step files [] some = some
some-step files (s ∷ steps) some = omega arith

-- the first of the steps is passed, or an edition ends with it
pub ended-passed : (files : List File) (s : Step) (steps all : List Step) → all ≡ s ∷ steps → is_end s ≡ false → ended (after_step files s) steps ≡ ended files all
ended-passed files s steps all is not =
    ap (λ (b : Bool). cond b (after_step files s ∷ []) [] ++ ended (after_step files s) steps) (sym not) ∙ ap (ended files) (sym is)

pub ended-here : (files : List File) (s : Step) (steps all : List Step) → all ≡ s ∷ steps → is_end s ≡ true
    → after_step files s ∷ ended (after_step files s) steps ≡ ended files all
ended-here files s steps all is last =
    ap (λ (b : Bool). cond b (after_step files s ∷ []) [] ++ ended (after_step files s) steps) (sym last) ∙ ap (ended files) (sym is)

-- ## A store that goes through editions

-- as many end whatever the files are before
pub same-count : (files other : List File) (steps : List Step) → length (ended files steps) ≡ length (ended other steps)
same-count files other [] = refl
same-count files other (s ∷ steps) = by_step (is_end s) (same-count (after_step files s) (after_step other s) steps)
  where
    by_step : (end : Bool) → length (ended (after_step files s) steps) ≡ length (ended (after_step other s) steps)
        → length (cond end (after_step files s ∷ []) [] ++ ended (after_step files s) steps) ≡ length (cond end (after_step other s ∷ []) [] ++ ended (after_step other s) steps)
    by_step true rest = ap suc rest
    by_step false rest = rest

none-left : {X : Type 0} (xs : List X) → length xs ≡ 0 → xs ≡ []
none-left [] none = refl
none-left (x ∷ xs) none = absurd (omega arith)

-- at the next one of those that come by steps
pub next-told : (files files' : List File) (steps steps' : List Step) (others : List (List File))
    → files' ∷ ended files' steps' ≡ ended files steps → told_by files' steps' others ≡ after_renew (told_by files steps others)
next-told files files' steps steps' others is =
    ap (λ editions. after_renew (let told : StoreTold = record { files = files; later = editions ++ others } in told)) is

-- at the next one of the others, where no further one comes by steps
pub other-told : (files next : List File) (steps : List Step) (others : List (List File)) → 0 ≡ length (ended files steps)
    → told_by next [] others ≡ after_renew (told_by files steps (next ∷ others))
other-told files next steps others none =
    ap (λ editions. after_renew (let told : StoreTold = record { files = files; later = editions ++ (next ∷ others) } in told)) (sym (none-left (ended files steps) (sym none)))

-- and at the last one it stays
pub last-told : (files : List File) (steps : List Step) → 0 ≡ length (ended files steps) → told_by files steps [] ≡ after_renew (told_by files steps [])
last-told files steps none =
    let empty : ended files steps ≡ [] = none-left (ended files steps) (sym none) in
    ap (λ editions. let told : StoreTold = record { files = files; later = editions ++ [] } in told) empty
    ∙ ap (λ editions. after_renew (let told : StoreTold = record { files = files; later = editions ++ [] } in told)) (sym empty)

-- one more behind all others
pub later-told : (files : List File) (steps : List Step) (others : List (List File)) (edition : List File)
    → told_by files steps (others ++ edition ∷ []) ≡ with_edition edition (told_by files steps others)
later-told files steps others edition =
    ap (λ later. let told : StoreTold = record { files = files; later = later } in told) (sym (append_assoc (ended files steps) others (edition ∷ [])))
