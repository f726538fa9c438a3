-- What the senders of command lines were answered, in numbers.
-- Why it is so stands in docs/DECISIONS.md: 111, What a front counts of answers.
use Rattle.std.specs.Prelude.{ℕ, Bool, List, codes, length, take, bytes_eq}
use Rattle.mpm_base.specs.Count.{CountsWhere, RisesByOne}
use Rattle.mpm_base.specs.declared.given_answers.GivenAnswers.{GivenAnswers}

-- how many bytes an answer has at most
abbrev pub most_answer : ℕ
most_answer = 512

-- what an answer begins with that says that a restart was refused
abbrev pub refusal_head : List ℕ
refusal_head = codes "refused: "

-- the answer says that a restart was refused
abbrev pub says_refused : List ℕ → Bool
says_refused text = bytes_eq (take (length refusal_head) text) refusal_head

-- the answer was counted, and whether it says that a restart was refused
pub record CountsAnswer (text : List ℕ) (old new : GivenAnswers) : Type 0 where
  pub all : RisesByOne old.all new.all
  pub refused : CountsWhere (says_refused text) old.refused new.refused

-- no answer was given yet
abbrev pub no_answers : GivenAnswers
no_answers = record { all = 0; refused = 0 }
