-- Where the bytes of a body are cut doesn't matter to what the answers say of them.
use Rattle.std.proofs.Common.{◌≡◌, ℕ, suc, ◌+◌, ◌≤◌, List, [], ◌∷◌, ◌++◌, length, take, drop, sym, ap, ◌∙◌, subst, arith, append_assoc, length-append, length-drop}
use Rattle.std.proofs.lemmas.List.{append-nil, take-append-drop, length-take-le}
use Rattle.std.proofs.Math.Seq.{take-append_seam, drop-append-add}
use Rattle.std.specs.List.{concat}
use Rattle.http_read.specs.declared.request.BodyKind.{BodyKind}
use Rattle.http_read.specs.declared.body.BodyAnswer.{BodyAnswer}
use Rattle.http_read.specs.declared.body.BodyAnswer.TheVariants.{Took, Done, Bad}
use Rattle.http_read.specs.declared.body.BodyPlace.{BodyPlace}
use Rattle.http_read.specs.declared.body.BodyPlace.TheVariants.{Ended, Broken}
use Rattle.http_read.specs.BodyForm.{IsBody, IsBodyFront, BreaksBody, BodyForm, WholeBody, BodyFront, BrokenBody, HasForm}
use Rattle.http_read.specs.BodyPlaces.{StandsAt, begun_len}
use Rattle.http_read.specs.BodyAnswers.{CountsBytes, AnswersBody, AnswersPieces, answer_behind}
use Rattle.http_read.proofs.FormLemmas.{same_forms, broken_more}

-- the bytes behind the taken ones, and those that follow
both_pieces : (past bytes more : List ℕ) (n : ℕ) → (past ++ take n bytes) ++ (drop n bytes ++ more) ≡ past ++ (bytes ++ more)
both_pieces past bytes more n =
    append_assoc past (take n bytes) (drop n bytes ++ more)
    ∙ ap (λ xs. past ++ xs) (sym (append_assoc (take n bytes) (drop n bytes) more) ∙ ap (λ xs. xs ++ more) (take-append-drop n bytes))

-- the next call gets what the last one left first
pub next_stands : (of : BodyKind) (past bytes more : List ℕ) (n : ℕ) (place : BodyPlace) → n + begun_len place ≡ length bytes
    → StandsAt of (past ++ bytes) place → StandsAt of ((past ++ take n bytes) ++ take (begun_len place) (drop n bytes ++ more)) place
next_stands of past bytes more n place counts stands =
    let len : length (drop n bytes) ≡ begun_len place = omega (arith, length-drop n bytes, counts) in
    let line : take (begun_len place) (drop n bytes ++ more) ≡ drop n bytes =
    ap (λ k. take k (drop n bytes ++ more)) (sym len) ∙ take-append_seam (drop n bytes) more in
    let all : (past ++ take n bytes) ++ take (begun_len place) (drop n bytes ++ more) ≡ past ++ bytes =
    ap (λ xs. (past ++ take n bytes) ++ xs) line ∙ append_assoc past (take n bytes) (drop n bytes) ∙ ap (λ xs. past ++ xs) (take-append-drop n bytes) in
    subst (λ xs. StandsAt of xs place) (sym all) stands

drop_both : (bytes more : List ℕ) (n m : ℕ) → n ≤ length bytes → drop (n + m) (bytes ++ more) ≡ drop m (drop n bytes ++ more)
drop_both bytes more n m within =
    let split : bytes ++ more ≡ take n bytes ++ (drop n bytes ++ more) =
    ap (λ xs. xs ++ more) (sym (take-append-drop n bytes)) ∙ append_assoc (take n bytes) (drop n bytes) more in
    let len : n + m ≡ length (take n bytes) + m = omega (arith, length-take-le n bytes within) in
    ap (λ k. drop k (bytes ++ more)) len ∙ ap (λ xs. drop (length (take n bytes) + m) xs) split ∙ drop-append-add (take n bytes) (drop n bytes ++ more) m

take_both : (past bytes more : List ℕ) (n m : ℕ) → n ≤ length bytes
    → (past ++ take n bytes) ++ take m (drop n bytes ++ more) ≡ past ++ take (n + m) (bytes ++ more)
take_both past bytes more n m within =
    append_assoc past (take n bytes) (take m (drop n bytes ++ more))
    ∙ ap (λ xs. past ++ xs) (sym (take_over (take n bytes) (drop n bytes ++ more) m)
    ∙ ap (λ k. take (k + m) (take n bytes ++ (drop n bytes ++ more))) (length-take-le n bytes within)
    ∙ ap (λ xs. take (n + m) xs) (sym (append_assoc (take n bytes) (drop n bytes) more) ∙ ap (λ xs. xs ++ more) (take-append-drop n bytes)))
  where
    take_over : (xs ys : List ℕ) (k : ℕ) → take (length xs + k) (xs ++ ys) ≡ xs ++ take k ys
    take_over [] ys k = ap (λ n. take n ys) (omega arith)
    take_over (x ∷ xs) ys k =
        let more_by_one : length (x ∷ xs) + k ≡ suc (length xs + k) = omega arith in
        ap (λ n. take n (x ∷ xs ++ ys)) more_by_one ∙ ap (λ zs. x ∷ zs) (take_over xs ys k)

-- what the second answer says of the second piece it says of both
both_answer : (of : BodyKind) (past bytes more : List ℕ) (n : ℕ) (answer : BodyAnswer) (new : BodyPlace) → n ≤ length bytes
    → AnswersBody of (past ++ take n bytes) (drop n bytes ++ more) answer new
    → AnswersBody of past (bytes ++ more) (answer_behind n answer) new
both_answer of past bytes more n (Took m) new within h = record {
  front = subst (IsBodyFront of (past ++ (bytes ++ more))) (sym (drop_both bytes more n m within))
      (subst (λ xs. IsBodyFront of xs (drop m (drop n bytes ++ more))) (both_pieces past bytes more n) h.front);
  stands = subst (λ xs. StandsAt of xs new) (both_pieces past bytes more n) h.stands;
}
both_answer of past bytes more n (Done m) new within h = subst (IsBody of) (take_both past bytes more n m within) h
both_answer of past bytes more n (Bad code) new within h = subst (λ xs. BreaksBody of xs code) (both_pieces past bytes more n) h

-- and how it counts
both_count : (bytes more : List ℕ) (n : ℕ) (answer : BodyAnswer) (new : BodyPlace) → n ≤ length bytes
    → CountsBytes (length (drop n bytes ++ more)) answer new → CountsBytes (length (bytes ++ more)) (answer_behind n answer) new
both_count bytes more n (Took m) new within h = omega (arith, length-append bytes more, length-append (drop n bytes) more, length-drop n bytes)
both_count bytes more n (Done m) new within h = omega (arith, length-append bytes more, length-append (drop n bytes) more, length-drop n bytes)
both_count bytes more n (Bad code) new within h = tt

-- both together
both : (of : BodyKind) (past bytes more : List ℕ) (n : ℕ) (place : BodyPlace) (last : BodyAnswer) (new : BodyPlace) → CountsBytes (length bytes) (Took n) place
    → CountsBytes (length (drop n bytes ++ more)) last new × AnswersBody of (past ++ take n bytes) (drop n bytes ++ more) last new
    → CountsBytes (length (bytes ++ more)) (answer_behind n last) new × AnswersBody of past (bytes ++ more) (answer_behind n last) new
both of past bytes more n place last new counts (count, answer) = (
  both_count bytes more n last new (omega (arith, counts)) count,
  both_answer of past bytes more n last new (omega (arith, counts)) answer,
)

-- pieces are answered as all of their bytes at once
pub pieces_answer : (of : BodyKind) (past bytes : List ℕ) (pieces : List (List ℕ)) (answer : BodyAnswer) (new : BodyPlace)
    → AnswersPieces of past bytes pieces answer new
    → CountsBytes (length (bytes ++ concat pieces)) answer new × AnswersBody of past (bytes ++ concat pieces) answer new
pieces_answer of past bytes [] answer new h =
    let P : List ℕ → Type 0 = λ xs. CountsBytes (length xs) answer new × AnswersBody of past xs answer new in
    subst P (sym (append-nil bytes)) h
pieces_answer of past bytes (piece ∷ pieces) answer new (n, place, last, counts, front, further, is) =
    let rest = concat pieces in
    let P : List ℕ → Type 0 = λ xs. CountsBytes (length xs) last new × AnswersBody of (past ++ take n bytes) xs last new in
    let Q : BodyAnswer → Type 0 = λ a. CountsBytes (length (bytes ++ (piece ++ rest))) a new × AnswersBody of past (bytes ++ (piece ++ rest)) a new in
    let all = pieces_answer of (past ++ take n bytes) (drop n bytes ++ piece) pieces last new further in
    subst Q (sym is) (both of past bytes (piece ++ rest) n place last new counts (subst P (append_assoc (drop n bytes) piece rest) all))

-- ---- one answer

begins_by : (of : BodyKind) (past bytes : List ℕ) (n : ℕ) → n ≤ length bytes → IsBody of (past ++ take n bytes)
    → HasForm of (past ++ bytes) (WholeBody (length past + n))
begins_by of past bytes n within body =
    let whole : past ++ bytes ≡ (past ++ take n bytes) ++ drop n bytes =
    ap (λ xs. past ++ xs) (sym (take-append-drop n bytes)) ∙ sym (append_assoc past (take n bytes) (drop n bytes)) in
    let len : length (past ++ take n bytes) ≡ length past + n = omega (arith, length-append past (take n bytes), length-take-le n bytes within) in
    let front : take (length past + n) (past ++ bytes) ≡ past ++ take n bytes =
    ap (λ k. take k (past ++ bytes)) (sym len) ∙ ap (λ xs. take (length (past ++ take n bytes)) xs) whole ∙ take-append_seam (past ++ take n bytes) (drop n bytes) in
    record { within = omega (arith, length-append past bytes); body = subst (IsBody of) (sym front) body }

-- the form that an answer gives the bytes
abbrev form_of_answer : List ℕ → List ℕ → BodyAnswer → BodyForm
form_of_answer past bytes (Took n) = BodyFront (drop n bytes)
form_of_answer past bytes (Done n) = WholeBody (length past + n)
form_of_answer past bytes (Bad code) = BrokenBody code

has_answer : (of : BodyKind) (past bytes : List ℕ) (a : BodyAnswer) (p : BodyPlace) → CountsBytes (length bytes) a p → AnswersBody of past bytes a p
    → HasForm of (past ++ bytes) (form_of_answer past bytes a)
has_answer of past bytes (Took n) p counts h = h.front
has_answer of past bytes (Done n) p counts h = begins_by of past bytes n counts h
has_answer of past bytes (Bad code) p counts h = h

same_by_form : (past bytes : List ℕ) (a b : BodyAnswer) (p q : BodyPlace) → CountsBytes (length bytes) a p → CountsBytes (length bytes) b q
    → form_of_answer past bytes a ≡ form_of_answer past bytes b → a ≡ b
same_by_form past bytes (Took n) (Took m) p q x y e =
    let lines : drop n bytes ≡ drop m bytes = cc in
    let counts : n ≡ m = omega (arith, ap length lines, length-drop n bytes, length-drop m bytes, x, y) in
    ap Took counts
same_by_form past bytes (Took n) (Done m) p q x y e = cc
same_by_form past bytes (Took n) (Bad code) p q x y e = cc
same_by_form past bytes (Done n) (Took m) p q x y e = cc
same_by_form past bytes (Done n) (Done m) p q x y e =
    let lens : length past + n ≡ length past + m = cc in
    let counts : n ≡ m = omega (arith, lens) in
    ap Done counts
same_by_form past bytes (Done n) (Bad code) p q x y e = cc
same_by_form past bytes (Bad code) (Took m) p q x y e = cc
same_by_form past bytes (Bad code) (Done m) p q x y e = cc
same_by_form past bytes (Bad code) (Bad other) p q x y e = let codes : code ≡ other = cc in ap Bad codes

-- bytes have one answer
pub same_body_answers : (of : BodyKind) (past bytes : List ℕ) (a b : BodyAnswer) (p q : BodyPlace) → CountsBytes (length bytes) a p → AnswersBody of past bytes a p
    → CountsBytes (length bytes) b q → AnswersBody of past bytes b q → a ≡ b
same_body_answers of past bytes a b p q x h y k =
    same_by_form past bytes a b p q x y
    (same_forms of (past ++ bytes) (form_of_answer past bytes a) (form_of_answer past bytes b) (has_answer of past bytes a p x h) (has_answer of past bytes b q y k))

-- ---- behind the end, and behind a break

pub ends_again : (place : BodyPlace) → place ≡ Ended → (of : BodyKind) (past bytes : List ℕ) → StandsAt of (past ++ take (begun_len place) bytes) place → IsBody of (past ++ take 0 bytes)
ends_again place is of past bytes = subst (λ p. StandsAt of (past ++ take (begun_len p) bytes) p) is

pub breaks_again : (place : BodyPlace) (code : ℕ) → place ≡ Broken code → (of : BodyKind) (past bytes : List ℕ) → StandsAt of (past ++ take (begun_len place) bytes) place → BreaksBody of (past ++ bytes) code
breaks_again place code is of past bytes stands =
    let broken : BreaksBody of (past ++ []) code = subst (λ p. StandsAt of (past ++ take (begun_len p) bytes) p) is stands in
    subst (λ xs. BreaksBody of (xs ++ bytes) code) (append-nil past) (broken_more of (past ++ []) bytes code broken)
