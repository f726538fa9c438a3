-- The front to which nothing comes.
use Rattle.std.specs.Prelude.{ℕ, None}
use Rattle.mpm_base.specs.Front.{FrontSeen}
use Rattle.mpm_base.specs.GivenWords.{no_words}
use Rattle.mpm_base.specs.declared.given_answers.GivenAnswers.{GivenAnswers}

-- what is seen of it, with so many calls that failed and so many answers that were given: it tells nothing
abbrev pub shut_front_seen : ℕ → GivenAnswers → FrontSeen
shut_front_seen faults given = record {
  script = None;
  told = None;
  counts = record { faults = faults; accept_faults = 0; ends = 0; wakes = 0; commands = 0; words = no_words; answers = given; handed = 0 };
}
