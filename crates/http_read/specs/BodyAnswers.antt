-- What the reader of bodies answers.
use Rattle.std.specs.Prelude.{◌≡◌, ℕ, ◌+◌, ◌≤◌, List, [], ◌∷◌, ◌++◌, length, take, drop, ⊤}
use Rattle.http_read.specs.declared.request.BodyKind.{BodyKind}
use Rattle.http_read.specs.declared.body.BodyAnswer.{BodyAnswer}
use Rattle.http_read.specs.declared.body.BodyAnswer.TheVariants.{Took, Done, Bad}
use Rattle.http_read.specs.declared.body.BodyPlace.{BodyPlace}
use Rattle.http_read.specs.BodyForm.{IsBody, IsBodyFront, BreaksBody}
use Rattle.http_read.specs.BodyPlaces.{StandsAt, begun_len}

-- how the answer counts of so many bytes: what a Took leaves is the line that isn't whole, with which the next bytes begin
abbrev pub CountsBytes : ℕ → BodyAnswer → BodyPlace → Type 0
CountsBytes len (Took n) new = n + begun_len new ≡ len
CountsBytes len (Done n) new = n ≤ len
CountsBytes len (Bad code) new = ⊤

-- the body goes on: n more bytes are taken, which are all but a line that isn't whole
pub record BodyGoesOn (of : BodyKind) (past bytes : List ℕ) (n : ℕ) (new : BodyPlace) : Type 0 where
  pub front : IsBodyFront of (past ++ bytes) (drop n bytes)
  pub stands : StandsAt of (past ++ bytes) new

-- the answer to bytes of a body of that kind, where the bytes in `past` were taken before, and the new place
abbrev pub AnswersBody : BodyKind → List ℕ → List ℕ → BodyAnswer → BodyPlace → Type 0
AnswersBody of past bytes (Took n) new = BodyGoesOn of past bytes n new
AnswersBody of past bytes (Done n) new = IsBody of (past ++ take n bytes)
AnswersBody of past bytes (Bad code) new = BreaksBody of (past ++ bytes) code

-- the answer, where n bytes were taken before
abbrev pub answer_behind : ℕ → BodyAnswer → BodyAnswer
answer_behind n (Took m) = Took (n + m)
answer_behind n (Done m) = Done (n + m)
answer_behind n (Bad code) = Bad code

-- the last answer and the last place, where a reader gets bytes and then the pieces, each behind what it has left, and counts all that it takes
abbrev pub AnswersPieces : BodyKind → List ℕ → List ℕ → List (List ℕ) → BodyAnswer → BodyPlace → Type 0
AnswersPieces of past bytes [] answer new = CountsBytes (length bytes) answer new × AnswersBody of past bytes answer new
AnswersPieces of past bytes (piece ∷ pieces) answer new =
    (n : ℕ) × (place : BodyPlace) × (last : BodyAnswer) × CountsBytes (length bytes) (Took n) place × AnswersBody of past bytes (Took n) place
    × AnswersPieces of (past ++ take n bytes) (drop n bytes ++ piece) pieces last new × (answer ≡ answer_behind n last)
