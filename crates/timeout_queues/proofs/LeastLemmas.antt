-- The least of some numbers, and of the deadlines of what is parked.
use Rattle.std.proofs.Common.{◌≡◌, ◌≢◌, ℕ, ◌<◌, ◌≤◌, min, Bool, true, false, cond, List, [], ◌∷◌, map, filter, Option, Some, None, nat_le, fold, refl, ap, ◌∙◌, arith}
use Rattle.std.specs.Option.{option_map_or, IfSome}
use Rattle.std.proofs.lemmas.Bool.{lt-leb, leb-false}
use Rattle.std.proofs.lemmas.Option.{same_Some}
use Rattle.std.specs.List.{reduce}
use Rattle.timeout_queues.specs.Waiting.{ParkedName}

-- the least of some numbers, one by one
abbrev pub least_of : List ℕ → Option ℕ
least_of [] = None
least_of (n ∷ ns) = Some (option_map_or (min n) (least_of ns) n)

-- the least of two numbers and of another, where there is one
least-three : (n m : ℕ) (o : Option ℕ) → min n (option_map_or (min m) o m) ≡ option_map_or (min (min n m)) o (min n m)
least-three n m None = refl
least-three n m (Some k) = omega arith

-- the least of a number and others
least-fold : (n : ℕ) (ns : List ℕ) → option_map_or (min n) (least_of ns) n ≡ fold min n ns
least-fold n [] = refl
least-fold n (m ∷ ns) = least-three n m (least_of ns) ∙ least-fold (min n m) ns

-- they are the same least
pub least_reduce : (ns : List ℕ) → least_of ns ≡ reduce min ns
least_reduce [] = refl
least_reduce (n ∷ ns) = ap Some (least-fold n ns)

abbrev deadlines : List ParkedName → List ℕ
deadlines ps = map (λ (p : ParkedName). p.deadline) ps

abbrev late : ℕ → List ParkedName → List ParkedName
late now ps = filter (λ (p : ParkedName). nat_le p.deadline now) ps

-- nothing is late where the least deadline, if there is one, is after the moment
none_late : (now : ℕ) (ps : List ParkedName) → IfSome (least_of (deadlines ps)) (λ d. now < d) → late now ps ≡ []
none_late now [] above = refl
none_late now (p ∷ ps) above =
    let both = parts (least_of (deadlines ps)) above in
    let later : nat_le p.deadline now ≡ false = lt-leb p.deadline now both.0 in
    rw later (none_late now ps both.1)
  where
    parts : (o : Option ℕ) → now < option_map_or (min p.deadline) o p.deadline → (now < p.deadline) × IfSome o (λ d. now < d)
    parts None h = (h, tt)
    parts (Some m) h = (omega arith, omega arith)

pub none_late_at : (now : ℕ) (ps : List ParkedName) (o : Option ℕ) → reduce min (deadlines ps) ≡ o → IfSome o (λ d. now < d) → late now ps ≡ []
none_late_at now ps o e above = none_late now ps (rw (least_reduce (deadlines ps) ∙ e) above)

-- something is late where the least deadline is at or before the moment
some_late_of : (now : ℕ) (ps : List ParkedName) (d : ℕ) → least_of (deadlines ps) ≡ Some d → d ≤ now → late now ps ≢ []
some_late_of now [] d e below none = absurd (cc)
some_late_of now (p ∷ ps) d e below none =
    on (nat_le p.deadline now) refl none (least_of (deadlines ps)) refl (same_Some _ d e) (some_late_of now ps)
  where
    on : (b : Bool) → nat_le p.deadline now ≡ b → cond b (p ∷ late now ps) (late now ps) ≡ [] →
        (o : Option ℕ) → least_of (deadlines ps) ≡ o → option_map_or (min p.deadline) o p.deadline ≡ d →
        ((m : ℕ) → least_of (deadlines ps) ≡ Some m → m ≤ now → late now ps ≢ []) → ⊥
    on true t n o l m again = absurd (cc)
    on false t n None l m again = let after = leb-false p.deadline now t in omega arith
    on false t n (Some k) l m again = let after = leb-false p.deadline now t in again k l (omega arith) n

pub some_late : (now : ℕ) (ps : List ParkedName) (d : ℕ) → reduce min (deadlines ps) ≡ Some d → d ≤ now → late now ps ≢ []
some_late now ps d e = some_late_of now ps d (least_reduce (deadlines ps) ∙ e)
