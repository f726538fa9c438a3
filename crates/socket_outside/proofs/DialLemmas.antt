-- What is read of an answer, piece by piece.
use Rattle.std.proofs.Common.{◌≡◌, ℕ, ◌+◌, ◌-◌, min, ◌≤◌, ◌<◌, List, ◌++◌, length, take, Option, sym, ap, ◌∙◌, ◌⊎◌, inl, inr, length-append, length-take-le, take-take, take_all, arith}
use Rattle.std.proofs.lemmas.Bool.{cases_lt}
use Rattle.std.proofs.lemmas.List.{take-append-le}
use Rattle.std.proofs.Math.Seq.{take-append-add}
use Rattle.std.proofs.KnownBytes.{Consumes-trans}
use Rattle.socket_outside.specs.Dialling.{ReadsOn, ReadsOut}

-- what stands behind the first bytes of a list, as far as there are so many
by_length : (n : ℕ) (xs ys : List ℕ) → ((n < length xs) ⊎ (length xs ≤ n)) → take n (take n xs ++ ys) ≡ take n (xs ++ ys)
by_length n xs ys (inr few) = ap (λ l. take n (l ++ ys)) (take_all n xs few)
by_length n xs ys (inl more) =
    take-append-le n (take n xs) ys (omega (arith, length-take-le n xs (omega (arith, more))))
    ∙ take-take n n xs (omega arith) ∙ sym (take-append-le n xs ys (omega (arith, more)))

pub take-behind : (n : ℕ) (xs ys : List ℕ) → take n (take n xs ++ ys) ≡ take n (xs ++ ys)
take-behind n xs ys = by_length n xs ys (cases_lt n (length xs))

-- what is read behind all that was read before is of all that was read
pub reads_further : (a b c : Option (List ℕ)) (answer answer' : List ℕ) → ReadsOut a b answer → ReadsOn b c answer answer' → ReadsOut a c answer'
reads_further a b c answer answer' h k = (
  h.0 ++ k.0,
  Consumes-trans a b c h.0 k.0 h.1 k.1,
  k.2 ∙ ap (λ l. take 512 (l ++ k.0)) h.2 ∙ take-behind 512 h.0 k.0,
)

-- as many bytes behind the others as there is room for are the first of them all
by_room : (n k : ℕ) (xs ys : List ℕ) → length xs ≤ n → k ≡ min (length ys) (n - length xs) → ((n - length xs < length ys) ⊎ (length ys ≤ n - length xs))
    → xs ++ take k ys ≡ take n (xs ++ ys)
by_room n k xs ys few is (inr fits) =
    ap (λ l. xs ++ l) (take_all k ys (omega (arith, is, fits))) ∙ sym (take_all n (xs ++ ys) (omega (arith, few, fits, length-append xs ys)))
by_room n k xs ys few is (inl more) =
    let all : length xs + k ≡ n = omega (arith, few, is, more) in
    sym (take-append-add xs ys k) ∙ ap (λ m. take m (xs ++ ys)) all

pub fills_room : (n k : ℕ) (xs ys : List ℕ) → length xs ≤ n → k ≡ min (length ys) (n - length xs) → xs ++ take k ys ≡ take n (xs ++ ys)
fills_room n k xs ys few is = by_room n k xs ys few is (cases_lt (n - length xs) (length ys))
