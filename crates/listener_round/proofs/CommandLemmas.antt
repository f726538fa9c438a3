-- Command lines that are read, and what they say.
use Rattle.std.proofs.Common.{◌≡◌, ◌≢◌, ◌⊎◌, ◌<◌, ◌≤◌, inl, inr, ℕ, zero, suc, true, List, [], ◌∷◌, ◌++◌, length, take, slice_get, Option, None, Some, option_map, IfSome, sym, ap, subst, ◌∙◌, arith}
use Rattle.std.proofs.lemmas.Bool.{cases_order}
use Rattle.mpm_base.specs.Count.{greatest_count, next_count}
use Rattle.mpm_base.specs.Front.{FrontTold, GivesLine, TellsOn, after_command}
use Rattle.listener_round.specs.Commands.{NoneStops, lines_read, stop_line}
use Rattle.listener_round.specs.FrontInside.{HasNoneToHeed, HasOneToHeed, HasReadAll, OnlyTakes}

-- ## Lists

-- the item at a place is behind those before it
pub take-next : {X : Type 0} (xs : List X) (i : ℕ) (x : X) → slice_get xs i ≡ Some x → take (suc i) xs ≡ take i xs ++ x ∷ []
take-next [] i x at = absurd (cc at)
take-next (y ∷ xs) zero x at =
    let same : y ≡ x = cc at in
    ap (λ (z : _). z ∷ []) same
take-next (y ∷ xs) (suc i) x at = ap (λ (zs : List _). y ∷ zs) (take-next xs i x at)

get-within : {X : Type 0} (xs : List X) (i : ℕ) (x : X) → slice_get xs i ≡ Some x → i < length xs
get-within [] i x at = absurd (cc at)
get-within (y ∷ xs) zero x at = omega arith
get-within (y ∷ xs) (suc i) x at = let h : i < length xs = get-within xs i x at in omega arith

none-both : (xs ys : List (List ℕ)) → NoneStops xs → NoneStops ys → NoneStops (xs ++ ys)
none-both [] ys first second = second
none-both (x ∷ xs) ys first second = (first.0, none-both xs ys first.1 second)

none-fewer : (xs : List (List ℕ)) (n m : ℕ) → n ≤ m → NoneStops (take m xs) → NoneStops (take n xs)
none-fewer [] zero m within none = tt
none-fewer [] (suc n) m within none = tt
none-fewer (x ∷ xs) zero m within none = tt
none-fewer (x ∷ xs) (suc n) zero within none = absurd (omega (arith, within))
none-fewer (x ∷ xs) (suc n) (suc m) within none = (none.0, none-fewer xs n m (omega (arith, within)) none.1)

-- a number is below another, or isn't
below-or-not : (n m : ℕ) → (n < m) ⊎ (m ≤ n)
below-or-not n m = elim (cases_order n m) [
  | inl same ↦ inr (omega (arith, same))
  | inr (inl lower) ↦ inl lower
  | inr (inr higher) ↦ inr (omega (arith, higher))
]

-- ## Other steps leave what was read

-- the lines and how many were read are the same
same-read : (t t' : FrontTold) → t'.lines ≡ t.lines → t'.read ≡ t.read → HasNoneToHeed t → HasNoneToHeed t'
same-read t t' lines read heeded = record {
  none = subst NoneStops (sym (ap (λ (n : ℕ). take n t'.lines) read ∙ ap (take t.read) lines)) heeded.none;
  came = omega (arith, read, ap length lines, heeded.came);
}

-- after takes
pub heeded-takes : (told told' : Option FrontTold) → TellsOn OnlyTakes told told' → IfSome told HasNoneToHeed → IfSome told' HasNoneToHeed
heeded-takes None told' takes heeded = subst (λ (o : Option FrontTold). IfSome o HasNoneToHeed) (sym takes) tt
heeded-takes (Some t) told' takes heeded =
    subst (λ (o : Option FrontTold). IfSome o HasNoneToHeed) (sym takes.1)
    (same-read t takes.0 (ap (λ (x : FrontTold). x.lines) takes.2.rest) (ap (λ (x : FrontTold). x.read) takes.2.rest) heeded)

-- all was read then too
pub all-read : (told told' : Option FrontTold) → TellsOn OnlyTakes told told' → HasReadAll told → HasReadAll told'
all-read None told' takes read = subst HasReadAll (sym takes) tt
all-read (Some t) told' takes read =
    subst HasReadAll (sym takes.1)
    (ap (λ (x : FrontTold). x.read) takes.2.rest ∙ read ∙ sym (ap (λ (x : FrontTold). length x.lines) takes.2.rest))

-- ## A line that is read

pub line-read : (t : FrontTold) (line : List ℕ) → slice_get t.lines t.read ≡ Some line → t.read < greatest_count
    → lines_read (after_command true t) ≡ lines_read t ++ line ∷ []
line-read t line at few =
    ap (λ (n : ℕ). take n t.lines) (next-few t.read few) ∙ take-next t.lines t.read line at where
      next-few : (n : ℕ) → n < greatest_count → next_count n ≡ suc n
      next-few n few = omega (arith, few)

-- one that doesn't stop the server
dropped-line : (t : FrontTold) (line : List ℕ) → slice_get t.lines t.read ≡ Some line → line ≢ stop_line → HasNoneToHeed t
    → HasNoneToHeed (after_command true t)
dropped-line t line at other heeded = elim (below-or-not t.read greatest_count) [
  | inl few ↦ record {
    none = subst NoneStops (sym (line-read t line at few)) (none-both (lines_read t) (line ∷ []) heeded.none (other, tt));
    came = let within = get-within t.lines t.read line at in omega (arith, few, within);
  }
  | inr many ↦ record {
    none = none-fewer t.lines (next_count t.read) t.read (omega (arith, many)) heeded.none;
    came = let within = get-within t.lines t.read line at in omega (arith, many, within);
  }
]

-- one that stops it
stopping-line : (t : FrontTold) (line : List ℕ) → slice_get t.lines t.read ≡ Some line → line ≡ stop_line → HasNoneToHeed t
    → HasOneToHeed (after_command true t)
stopping-line t line at is heeded few = record {
  before = lines_read t;
  lines_are = line-read t line at (omega (arith, few)) ∙ ap (λ (l : List ℕ). lines_read t ++ l ∷ []) is;
  none = heeded.none;
}

-- the same of a front that may tell
pub heeded-line : (told told' : Option FrontTold) (line : List ℕ) → told' ≡ option_map (after_command true) told → IfSome told (GivesLine (Some line))
    → line ≢ stop_line → IfSome told HasNoneToHeed → IfSome told' HasNoneToHeed
heeded-line None told' line is gives other heeded = subst (λ (o : Option FrontTold). IfSome o HasNoneToHeed) (sym is) tt
heeded-line (Some t) told' line is gives other heeded =
    subst (λ (o : Option FrontTold). IfSome o HasNoneToHeed) (sym is) (dropped-line t line gives other heeded)

pub stopped-line : (told told' : Option FrontTold) (line : List ℕ) → told' ≡ option_map (after_command true) told → IfSome told (GivesLine (Some line))
    → line ≡ stop_line → IfSome told HasNoneToHeed → IfSome told' HasOneToHeed
stopped-line None told' line is gives stops heeded = subst (λ (o : Option FrontTold). IfSome o HasOneToHeed) (sym is) tt
stopped-line (Some t) told' line is gives stops heeded =
    subst (λ (o : Option FrontTold). IfSome o HasOneToHeed) (sym is) (stopping-line t line gives stops heeded)
