-- Several reads of a link are one.
use Rattle.std.proofs.Common.{◌≡◌, ◌==◌, ℕ, ◌+◌, ◌≤◌, Bool, true, false, List, [], ◌++◌, take, drop, length, Option, Some, None, option_map, IfSome, if◌then◌else◌, refl, sym, ap, subst, ◌∙◌, arith, append_assoc, length-append}
use Rattle.std.proofs.Math.Seq.{take-add}
use Rattle.std.proofs.lemmas.List.{drop-drop, append-nil, length-take-le}
use Rattle.mpm_base.specs.Count.{NeverFalls, RisesWhere}
use Rattle.mpm_base.specs.Link.{LinkTold, GivesNext, with_received}
use Rattle.mpm_base.specs.declared.link.Got.TheVariants as got

-- ## Counts

-- a count that never falls, and then rises where the test holds, rises there
pub rises-after : (test : Bool) (old mid new : ℕ) → NeverFalls old mid → RisesWhere test mid new → RisesWhere test old new
rises-after true old mid new first later = (omega (arith, first, later.0), λ below. grind (arith, first, later.0, later.1, below))
rises-after false old mid new first later = omega (arith, first, later)

-- ## Reading

-- bytes before the half-close, received in two steps
before-twice : (open_still : Bool) (before first second : List ℕ)
    → (if open_still then (if open_still then before ++ first else before) ++ second else (if open_still then before ++ first else before))
    ≡ (if open_still then before ++ (first ++ second) else before)
before-twice true before first second = append_assoc before first second
before-twice false before first second = refl

-- bytes received in two steps were received
received-twice : (a b : ℕ) (t : LinkTold) → with_received b (with_received a t) ≡ with_received (a + b) t
received-twice a b t =
    let joined : take a t.coming ++ take b (drop a t.coming) ≡ take (a + b) t.coming = sym (take-add a b t.coming) in
    λ i. record {
      received = (append_assoc t.received (take a t.coming) (take b (drop a t.coming)) ∙ ap (λ xs. t.received ++ xs) joined) i;
      before_shut = (before-twice (t.shuts == 0) t.before_shut (take a t.coming) (take b (drop a t.coming))
          ∙ ap (λ xs. if t.shuts == 0 then t.before_shut ++ xs else t.before_shut) joined) i;
      coming = drop-drop b a t.coming i;
      sent = t.sent;
      shuts = t.shuts;
      closes = t.closes;
      rank = t.rank;
    }

-- the same of a link that may tell
told-received_twice : (a b : ℕ) (told : Option LinkTold) → option_map (with_received b) (option_map (with_received a) told) ≡ option_map (with_received (a + b)) told
told-received_twice a b None = refl
told-received_twice a b (Some t) = ap Some (received-twice a b t)

-- what is given in two steps comes next
gives-twice : (told : Option LinkTold) (a b : List ℕ) → IfSome told (λ t. a ≡ take (length a) t.coming)
    → IfSome (option_map (with_received (length a)) told) (λ t. b ≡ take (length b) t.coming)
    → IfSome told (λ t. a ++ b ≡ take (length (a ++ b)) t.coming)
gives-twice None a b first second = tt
gives-twice (Some t) a b first second =
    rw (length-append a b, take-add (length a) (length b) t.coming)
    (ap (λ xs. xs ++ b) first ∙ ap (λ xs. take (length a) t.coming ++ xs) second)

-- nothing is received
received-none : (t : LinkTold) → t ≡ with_received 0 t
received-none t = λ i. record {
  received = sym (append-nil t.received) i;
  before_shut = before-none (t.shuts == 0) t.before_shut i;
  coming = t.coming;
  sent = t.sent;
  shuts = t.shuts;
  closes = t.closes;
  rank = t.rank;
}
  where
    -- no byte came before the half-close
    before-none : (open_still : Bool) (before : List ℕ) → before ≡ (if open_still then before ++ [] else before)
    before-none true before = sym (append-nil before)
    before-none false before = refl

-- the same of a link that may tell
pub told-received_none : (told : Option LinkTold) → told ≡ option_map (with_received 0) told
told-received_none None = refl
told-received_none (Some t) = ap Some (received-none t)

-- no byte comes next
pub gives-none : (told : Option LinkTold) → IfSome told (λ t. [] ≡ take (length {A = ℕ} []) t.coming)
gives-none None = tt
gives-none (Some t) = refl

module _ (told told1 told2 : Option LinkTold) where
  -- two receipts are one
  pub told-joined : (a b : List ℕ) → told1 ≡ option_map (with_received (length a)) told → told2 ≡ option_map (with_received (length b)) told1
      → told2 ≡ option_map (with_received (length (a ++ b))) told
  told-joined a b first second =
      second ∙ ap (λ o. option_map (with_received (length b)) o) first ∙ told-received_twice (length a) (length b) told
      ∙ ap (λ n. option_map (with_received n) told) (sym (length-append a b))

  -- what both gave comes next
  pub gives-joined : (a b : List ℕ) → told1 ≡ option_map (with_received (length a)) told → IfSome told (λ t. a ≡ take (length a) t.coming)
      → IfSome told1 (λ t. b ≡ take (length b) t.coming) → IfSome told (λ t. a ++ b ≡ take (length (a ++ b)) t.coming)
  gives-joined a b is first second =
      gives-twice told a b first (subst (λ o. IfSome o (λ t. b ≡ take (length b) t.coming)) is second)

-- what a read gave comes next
pub gives-taken : (told : Option LinkTold) (count : ℕ) (buffer : List ℕ) → count ≤ length buffer → IfSome told (GivesNext (got.Got count) buffer)
    → IfSome told (λ t. take count buffer ≡ take (length (take count buffer)) t.coming)
gives-taken None count buffer fits gives = tt
gives-taken (Some t) count buffer fits gives = rw (length-take-le count buffer fits) gives.1
