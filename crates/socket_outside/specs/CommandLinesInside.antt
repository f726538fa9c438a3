-- What single reads of a control connection come to.
use Rattle.std.specs.Prelude.{◌≡◌, ◌≢◌, ℕ, ◌+◌, true, List, [], ◌∷◌, length, Option, MatchOption}
use Rattle.std.specs.List.{list_all}
use Rattle.mpm_base.specs.declared.link.Got.{Got}
use Rattle.socket_links.specs.Answers.{count_of_got}
use Rattle.socket_outside.specs.CommandLines.{AnswersMore, IsHeard, IsHeardBy, gave_bytes}
use Rattle.socket_outside.specs.declared.command_lines.Heard.{Heard}
use Rattle.socket_outside.specs.declared.command_lines.Heard.TheVariants as heard

-- what is heard by one read behind some bytes, or nothing yet where it gave bytes and all so far ask for more
pub record HearsOnce (told told' : Option (List Got)) (before bytes : List ℕ) (what : Option Heard) : Type 0 where
  pub last : Got
  pub answers : AnswersMore told told' (last ∷ [])
  pub count : length bytes ≡ length before + count_of_got last
  pub decides : MatchOption what
      ((gave_bytes last ≡ true) × IsHeard bytes heard.More) (IsHeardBy last bytes)

-- what reads answered that each gave bytes, and if there was one, all bytes so far ask for more
pub record HasHeard (told told' : Option (List Got)) (bytes : List ℕ) : Type 0 where
  pub earlier : List Got
  pub answers : AnswersMore told told' earlier
  pub gave : list_all gave_bytes earlier ≡ true
  pub asks : earlier ≢ [] → IsHeard bytes heard.More
