-- What the bytes that came on a control connection so far are: a command line, no line, or neither yet.
use Rattle.std.specs.Prelude.{◌≡◌, ◌≢◌, ◌==◌, ℕ, ◌<◌, ◌≤◌, Bool, true, false, List, ◌∷◌, [], ◌++◌, length, take, position, Option, None, Some, MatchOption, IsUtf8, ⊤}
use Rattle.std.specs.List.{list_all}
use Rattle.std.specs.Io.KnownBytes.{Consumes}
use Rattle.mpm_base.specs.declared.link.Got.{Got}
use Rattle.mpm_base.specs.declared.link.Got.TheVariants as got
use Rattle.socket_links.specs.Answers.{count_of_got}
use Rattle.socket_outside.specs.declared.command_lines.Heard.{Heard}
use Rattle.socket_outside.specs.declared.command_lines.Heard.TheVariants as heard

-- the byte ends a line
abbrev pub is_feed : ℕ → Bool
is_feed byte = byte == 10

-- how many bytes stand before the first line feed, where there is one
abbrev pub feed_in : List ℕ → Option ℕ
feed_in bytes = position is_feed bytes

-- the bytes before a line feed are a line where they are text, and else none
abbrev pub IsLineOrNone : List ℕ → Heard → Type 0
IsLineOrNone bytes heard.More = ⊥
IsLineOrNone bytes (heard.Line line) = line ≡ bytes
IsLineOrNone bytes heard.Nothing = ¬ IsUtf8 bytes

-- more is to come while there is no line feed in fewer than 33 bytes; a line is the text before the first line feed; 33 bytes
-- without one are no line, nor is what is no text
abbrev pub IsHeard : List ℕ → Heard → Type 0
IsHeard bytes heard.More = (feed_in bytes ≡ None) × (length bytes < 33)
IsHeard bytes (heard.Line line) =
    MatchOption (feed_in bytes) ⊥ (λ n. IsLineOrNone (take n bytes) (heard.Line line))
IsHeard bytes heard.Nothing =
    MatchOption (feed_in bytes) (33 ≤ length bytes) (λ n. IsLineOrNone (take n bytes) heard.Nothing)

-- the read gave bytes
abbrev pub gave_bytes : Got → Bool
gave_bytes (got.Got n) = true
gave_bytes got.End = false
gave_bytes got.NotReady = false
gave_bytes got.Failed = false

-- what is heard where the last read answered this: no line at the end or behind a failure, and else what the bytes are; and where it
-- gave bytes no more are to come
abbrev pub IsHeardBy : Got → List ℕ → Heard → Type 0
IsHeardBy (got.Got n) bytes what = IsHeard bytes what × (what ≢ heard.More)
IsHeardBy got.NotReady bytes what = IsHeard bytes what
IsHeardBy got.End bytes what = what ≡ heard.Nothing
IsHeardBy got.Failed bytes what = what ≡ heard.Nothing

-- one that tells what each read of it answered has answered just these more
abbrev pub AnswersMore : Option (List Got) → Option (List Got) → List Got → Type 0
AnswersMore None told' answers = ⊤
AnswersMore (Some told) None answers = ⊥
AnswersMore (Some told) (Some told') answers = told' ≡ told ++ answers

-- what is heard by reads that gave bytes, and a last one, which decides; where it isn't the first, what had come before it still
-- asked for more
pub record HearsBy (told told' : Option (List Got)) (bytes : List ℕ) (what : Heard) : Type 0 where
  pub earlier : List Got
  pub last : Got
  pub before : List ℕ
  pub came : List ℕ
  pub answers : AnswersMore told told' (earlier ++ last ∷ [])
  pub gave : list_all gave_bytes earlier ≡ true
  pub behind : bytes ≡ before ++ came
  pub count : length came ≡ count_of_got last
  pub asks : earlier ≢ [] → IsHeard before heard.More
  pub decides : IsHeardBy last bytes what

-- behind the bytes that had come stand just those that the reader gave, where it tells what it has left
abbrev pub HearsOn : List ℕ → List ℕ → Option (List ℕ) → Option (List ℕ) → Type 0
HearsOn old new left left' = (came : List ℕ) × (new ≡ old ++ came) × Consumes left left' came
