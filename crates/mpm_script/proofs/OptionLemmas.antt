-- What is said of the value of an option, or of its absence, from what is said of both.
use Rattle.std.proofs.Common.{Option, None, Some, IfSome, IfNone, MatchOption}

pub some_from_match : {X : Type 0} (o : Option X) (P : Type 0) (Q R : X → Type 0) → ((x : X) → Q x → R x) → MatchOption o P Q → IfSome o R
some_from_match None P Q R f h = tt
some_from_match (Some x) P Q R f h = f x h

pub none_from_match : {X : Type 0} (o : Option X) (P R : Type 0) (Q : X → Type 0) → (P → R) → MatchOption o P Q → IfNone o R
none_from_match None P R Q f h = f h
none_from_match (Some x) P R Q f h = tt
