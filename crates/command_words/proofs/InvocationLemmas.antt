-- The command of the program, and what a parse of it finds.
use Rattle.std.proofs.Common.{◌≡◌, ◌≢◌, ◌∙◌, Result, Ok, Err, inl, inr, ℕ, ◌+◌, List, [], ◌∷◌, ◌++◌, map, take, Bor, Option, Some, None, option_map, slice_get, refl, sym, ap, subst, true, false}
use Rattle.std.specs.Prelude.{IsErrAnd, MatchResult}
use Rattle.std.specs.Option.{option_eq, option_map_or}
use Rattle.std.specs.Str.{bytes_eq}
use Rattle.std.proofs.lemmas.List.{map-append, take_more}
use Rattle.std.proofs.lemmas.Option.{get_or_from_slice_get, slice_get_within}
use Rattle.clap.specs.Words.{App, HasKind, IsAmong, Row, fault_of, is_simple, is_simple_and_free, kind_of, matches_of}
use Rattle.clap.specs.declared.error.Error.{Error}
use Rattle.clap.specs.declared.error.kind.ErrorKind.TheVariants as kind
use Rattle.clap.proofs.OnLiterals.{clap_on_literals}
use Rattle.command_words.specs.Invocations.{Parses, command}

-- ## What clap says of the command

simple : is_simple command ≡ true
unfolding command clap_on_literals
simple = refl

pub simple_and_free : is_simple_and_free command ≡ true
unfolding command clap_on_literals
simple_and_free = refl

-- a parse of the command finds the matches of a simple one
pub found : (a : App) (words : List (List ℕ)) (rows : List Row) (Sub : Type 0) → a ≡ command
    → (is_simple a ≡ true → (rows ≡ matches_of a words) × Sub) → rows ≡ matches_of command words
found a words rows Sub is finds = (subst (λ (b : App). is_simple b ≡ true → (rows ≡ matches_of b words) × Sub) is finds simple).0

-- an error of a parse that has one of its faults, or is for want of memory, as `?` hands it on
pub faulty : {T : Type 0} (words : List (List ℕ)) (r : Result T Error) (e : Error) → HasKind (fault_of command words) e
    → IsErrAnd r (λ x. x ≡ e)
    → MatchResult r (λ _. Parses words) (λ x. kind_of x ≢ kind.OutOfMemory → ¬ (Parses words))
unfolding Parses
faulty words (Ok x) e has same = absurd same
faulty words (Err x) e has same = λ other parses. elim has [
  | inl memory ↦ other (ap kind_of same ∙ memory)
  | inr among ↦ subst (IsAmong (kind_of e)) parses among
]

-- ## The texts

-- one more word
pub one-more : (words : List (List ℕ)) (place : ℕ) (texts : List (Bor (List ℕ))) (word : Bor (List ℕ)) → map (λ t. t.now) texts ≡ take place words
    → slice_get words place ≡ Some word.now → map (λ t. t.now) (texts ++ word ∷ []) ≡ take (place + 1) words
one-more words place texts word before here =
    map-append (λ (t : Bor (List ℕ)). t.now) texts (word ∷ []) ∙ ap (λ (xs : List (List ℕ)). xs ++ word.now ∷ []) before
    ∙ ap (λ (x : List ℕ). take place words ++ x ∷ []) (sym (get_or_from_slice_get words place word.now [] here))
    ∙ sym (take_more words place [] (slice_get_within words place word.now here))

-- a flag is there where its value is that text
pub flag : (o : Option (Bor (List ℕ))) (there : Bor (List ℕ))
    → option_eq (λ a b. bytes_eq a.now b.now) o (Some there) ≡ option_map_or (λ value. bytes_eq value there.now) (option_map (λ t. t.now) o) false
flag None there = refl
flag (Some x) there = refl
