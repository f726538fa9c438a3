-- Command lines that were read, over a wait and at the end of the turns.
use Rattle.std.proofs.Common.{◌≡◌, ◌≤◌, ℕ, Bool, false, List, [], ◌∷◌, ◌++◌, length, take, Option, None, Some, option_map, IfSome, Result, Ok, Err, sym, ap, subst, ◌∙◌, arith}
use Rattle.std.proofs.lemmas.List.{take-append-le}
use Rattle.mpm_base.specs.Front.{FrontTold, GoesForward, TellsOn, hushed_front}
use Rattle.mpm_base.specs.declared.front.Woke.{Woke}
use Rattle.conn_machine.specs.declared.event.Why.TheVariants as why
use Rattle.conn_machine.specs.declared.state.Going.{Going}
use Rattle.conn_machine.specs.declared.state.Going.TheVariants.{Serving, Ending, Halted}
use Rattle.conn_machine.specs.States.{is_halted}
use Rattle.board_book.specs.declared.faults.BoardFault.{BoardFault}
use Rattle.rounds.specs.declared.ends.End.{End}
use Rattle.rounds.specs.declared.ends.End.TheVariants as end
use Rattle.listener_round.specs.Commands.{HeedsLines, NoneStops, lines_read}
use Rattle.rounds.specs.EndsInside.{HaltsAs}
use Rattle.listener_round.specs.FrontInside.{HasNoneToHeed, HasOneToHeed}
use Rattle.listener.specs.ListenInside.{HeedsUntil}

-- ## Other steps leave what was read

wait-read : (until : Option ℕ) (quiet : Bool) (answer : Woke) (ready : List ℕ) (t t' : FrontTold) → GoesForward until quiet answer ready t t'
    → HasNoneToHeed t → HasNoneToHeed t'
wait-read until quiet answer ready t t' forward heeded = record {
  none =
      subst NoneStops
      (sym (ap (λ (n : ℕ). take n t'.lines) forward.read ∙ ap (take t.read) forward.lines ∙ take-append-le t.read t.lines forward.come heeded.came)) heeded.none;
  came = omega (arith, forward.read, ap length forward.lines, length-both t.lines forward.come, heeded.came);
} where
  length-both : (xs ys : List (List ℕ)) → length xs ≤ length (xs ++ ys)
  length-both [] ys = omega arith
  length-both (x ∷ xs) ys = let h = length-both xs ys in omega arith

-- after a wait
pub heeded-wait : (until : Option ℕ) (quiet : Bool) (answer : Woke) (ready : List ℕ) (told told' : Option FrontTold)
    → TellsOn (GoesForward until quiet answer ready) told told' → IfSome told HasNoneToHeed → IfSome told' HasNoneToHeed
heeded-wait until quiet answer ready None told' tells heeded = subst (λ (o : Option FrontTold). IfSome o HasNoneToHeed) (sym tells) tt
heeded-wait until quiet answer ready (Some t) told' tells heeded =
    subst (λ (o : Option FrontTold). IfSome o HasNoneToHeed) (sym tells.1) (wait-read until quiet answer ready t tells.0 tells.2 heeded)

-- ## The end

-- no line stops a server that goes on
heeds-up : (going : Going) (t : FrontTold) → is_halted going ≡ false → NoneStops (lines_read t) → HeedsLines going t
heeds-up Serving t up none = none
heeds-up (Ending until) t up none = none
heeds-up (Halted reason) t up none = absurd (cc up)

-- what was read is as the server stopped
heeds-as : (turns : Result End BoardFault) (old going : Going) (t : FrontTold) → is_halted old ≡ false → HaltsAs turns old going → HeedsUntil turns t
    → HeedsLines going t
heeds-as (Ok end.Ended) old going t up halts heeds = subst (λ (g : Going). HeedsLines g t) (sym halts) heeds.none
heeds-as (Ok end.Asked) old going t up halts heeds = subst (λ (g : Going). HeedsLines g t) (sym halts) heeds
heeds-as (Ok end.Failed) old going t up halts heeds = subst (λ (g : Going). HeedsLines g t) (sym halts) heeds.none
heeds-as (Ok end.Overdue) old going t up halts heeds = subst (λ (g : Going). HeedsLines g t) (sym halts) heeds.none
heeds-as (Ok end.Gone) old going t up halts heeds = subst (λ (g : Going). HeedsLines g t) (sym halts) (heeds-up old t up heeds.none)
heeds-as (Err fault) old going t up halts heeds = subst (λ (g : Going). HeedsLines g t) (sym halts) heeds.none

-- and stays so once listening was stopped
pub heeds-hushed : (turns : Result End BoardFault) (told told' : Option FrontTold) (old going : Going) → told' ≡ option_map hushed_front told
    → is_halted old ≡ false → HaltsAs turns old going → IfSome told (HeedsUntil turns) → IfSome told' (HeedsLines going)
heeds-hushed turns None told' old going is up halts heeds = subst (λ (o : Option FrontTold). IfSome o (HeedsLines going)) (sym is) tt
heeds-hushed turns (Some t) told' old going is up halts heeds =
    subst (λ (o : Option FrontTold). IfSome o (HeedsLines going)) (sym is) (hushed-heeds going t (heeds-as turns old going t up halts heeds)) where
      hushed-heeds : (g : Going) (u : FrontTold) → HeedsLines g u → HeedsLines g (hushed_front u)
      hushed-heeds (Halted why.Asked) u h = λ few. record { before = (h few).before; lines_are = (h few).lines_are; none = (h few).none }
      hushed-heeds g u h = h

-- what was read is as the turns end
pub heeds-of : (turns : Result End BoardFault) (P : FrontTold → Type 0) (told : Option FrontTold) → ((t : FrontTold) → P t → HeedsUntil turns t)
    → IfSome told P → IfSome told (HeedsUntil turns)
heeds-of turns P None weaker heeds = tt
heeds-of turns P (Some t) weaker heeds = weaker t heeds

-- turns that were broken off heeded none
pub heeds-none : (fault : BoardFault) (told : Option FrontTold) → IfSome told HasNoneToHeed → IfSome told (HeedsUntil (Err fault))
heeds-none fault told heeded = heeds-of (Err fault) HasNoneToHeed told (λ t h. h) heeded

-- so did those behind which nothing more could come
pub heeds-ended : (told : Option FrontTold) → IfSome told HasNoneToHeed → IfSome told (HeedsUntil (Ok end.Ended))
heeds-ended told heeded = heeds-of (Ok end.Ended) HasNoneToHeed told (λ t h. h) heeded

-- and those of a front that failed
pub heeds-failed : (told : Option FrontTold) → IfSome told HasNoneToHeed → IfSome told (HeedsUntil (Ok end.Failed))
heeds-failed told heeded = heeds-of (Ok end.Failed) HasNoneToHeed told (λ t h. h) heeded

-- and those behind which a graceful stop was out of time, or at its end
pub heeds-overdue : (told : Option FrontTold) → IfSome told HasNoneToHeed → IfSome told (HeedsUntil (Ok end.Overdue))
heeds-overdue told heeded = heeds-of (Ok end.Overdue) HasNoneToHeed told (λ t h. h) heeded

pub heeds-gone : (told : Option FrontTold) → IfSome told HasNoneToHeed → IfSome told (HeedsUntil (Ok end.Gone))
heeds-gone told heeded = heeds-of (Ok end.Gone) HasNoneToHeed told (λ t h. h) heeded

-- those that were asked to stop heeded the last
pub heeds-asked : (told : Option FrontTold) → IfSome told HasOneToHeed → IfSome told (HeedsUntil (Ok end.Asked))
heeds-asked told heeded = heeds-of (Ok end.Asked) HasOneToHeed told (λ t h. h) heeded
