-- What a clock was asked, and answered.
use Rattle.std.specs.Prelude.{◌≡◌, ℕ, List, map, Option, option_map, IfSome}
use Rattle.mpm_base.specs.Clock.{asked_at}
use Rattle.mpm_base.specs.Front.{FrontTold, WaitTold, moments_of}

-- the waits of a front, where it tells
abbrev pub waits_of : Option FrontTold → Option (List WaitTold)
waits_of told = option_map (λ t. t.waits) told

-- a clock that tells was told the moments that the waits of a front that tells gave, in order, and no others
abbrev pub IsInTime : Option (List WaitTold) → Option (List (ℕ × ℕ)) → Type 0
IsInTime waits calls = IfSome waits (λ waits. IfSome calls (λ calls. map asked_at calls ≡ moments_of waits))

-- what the calls of a clock answered
abbrev pub answers_of : List (ℕ × ℕ) → List ℕ
answers_of calls = map (λ call. call.1) calls
