-- What stands in an output behind what stood there before.
use Rattle.std.proofs.Common.{◌≡◌, ◌<◌, ◌≤◌, ◌+◌, ℕ, Bool, true, false, ◌&&◌, List, [], ◌++◌, length, Option, None, Some, option_map, IfSome, IsSomeAnd, refl, sym, ap, subst, ◌∙◌, append-nil, append_assoc, length-append, arith}
use Rattle.mpm_base.specs.Count.{NeverFalls}
use Rattle.mpm_base.specs.Sink.{SinkSeen}
use Rattle.run_report.specs.EndingsInside.{WritesAll}
use Rattle.run_report.specs.Written.{LacksText, LeavesUnwritten}
use Rattle.run_report.proofs.CountLemmas.{rises-before, rises-behind}
use Rattle.listener_round.specs.HeardInside.{WritesOn}

-- ## Two texts

-- both were written whole
told-both : (o p q : Option (List ℕ)) (first second : List ℕ) → p ≡ option_map (λ written. written ++ first) o
    → q ≡ option_map (λ written. written ++ second) p → q ≡ option_map (λ written. written ++ (first ++ second)) o
told-both None p q first second one two = two ∙ ap (option_map (λ (written : List ℕ). written ++ second)) one
told-both (Some w) p q first second one two =
    two ∙ ap (option_map (λ (written : List ℕ). written ++ second)) one ∙ ap (λ (x : List ℕ). Some x) (append_assoc w first second)

short-joined : (w : List ℕ) (q : Option (List ℕ)) (first second : List ℕ) → IsSomeAnd q (λ w'. length w' < length (w ++ first) + length second)
    → IsSomeAnd q (λ w'. length w' < length w + length (first ++ second))
short-joined w None first second short = short
short-joined w (Some w') first second short = omega (arith, short, length-append w first, length-append first second)

-- some of the second is missing
lacks-second : (o p q : Option (List ℕ)) (first second : List ℕ) → p ≡ option_map (λ written. written ++ first) o → LacksText p q second
    → LacksText o q (first ++ second)
lacks-second None p q first second one lacks = tt
lacks-second (Some w) p q first second one lacks =
    short-joined w q first second (subst (λ (x : Option (List ℕ)). LacksText x q second) one lacks)

-- the output took no more than the text
abbrev GrowsWithin : Option (List ℕ) → Option (List ℕ) → List ℕ → Type 0
GrowsWithin o q text = IfSome o (λ w. IsSomeAnd q (λ w'. length w' ≤ length w + length text))

grows-whole : (o q : Option (List ℕ)) (text : List ℕ) → q ≡ option_map (λ written. written ++ text) o → GrowsWithin o q text
grows-whole None q text whole = tt
grows-whole (Some w) q text whole =
    subst (λ (x : Option (List ℕ)). IsSomeAnd x (λ w'. length w' ≤ length w + length text)) (sym whole) (omega (arith, length-append w text))

grows-lacking : (o q : Option (List ℕ)) (text : List ℕ) → LacksText o q text → GrowsWithin o q text
grows-lacking None q text lacks = tt
grows-lacking (Some w) None text lacks = lacks
grows-lacking (Some w) (Some w') text lacks = omega (arith, lacks)

-- some of the first is missing
lacks-first : (o p q : Option (List ℕ)) (first second : List ℕ) → LacksText o p first → GrowsWithin p q second → LacksText o q (first ++ second)
lacks-first None p q first second lacks within = tt
lacks-first (Some w) None q first second lacks within = absurd lacks
lacks-first (Some w) (Some v) None first second lacks within = within
lacks-first (Some w) (Some v) (Some u) first second lacks within = omega (arith, lacks, within, length-append first second)

-- how much it grew by a text that was written whole or not
grows-by : (old new : SinkSeen) (text : List ℕ) (whole : Bool) → WritesAll old new text whole → GrowsWithin old.told new.told text
grows-by old new text true all = grows-whole old.told new.told text all
grows-by old new text false all = grows-lacking old.told new.told text all.lacks

-- one behind the other
writes-both : (old mid new : SinkSeen) (first second : List ℕ) (written whole : Bool) → NeverFalls old.faults mid.faults → NeverFalls mid.faults new.faults
    → WritesAll old mid first written → WritesAll mid new second whole → WritesAll old new (first ++ second) (written && whole)
writes-both old mid new first second true true faults further one two = told-both old.told mid.told new.told first second one two
writes-both old mid new first second true false faults further one two = record {
  failed = rises-behind old.faults mid.faults new.faults faults two.failed;
  lacks = lacks-second old.told mid.told new.told first second one two.lacks;
}
writes-both old mid new first second false whole faults further one two = record {
  failed = rises-before old.faults mid.faults new.faults one.failed further;
  lacks = lacks-first old.told mid.told new.told first second one.lacks (grows-by mid new second whole two);
}

-- ## Behind whatever stands there

pub writes-text : (old new : SinkSeen) (text : List ℕ) (written whole : Bool) → NeverFalls old.faults new.faults → WritesAll old new text whole
    → WritesOn text old written new (written && whole)
writes-text old new text written whole faults all = record {
  faults = faults;
  behind = λ sink before first was. writes-both sink old new before text written whole first faults was all;
}

pub writes-none : (out : SinkSeen) (written : Bool) → WritesOn [] out written out written
writes-none out written = record {
  faults = omega arith;
  behind =
      λ sink before first was. subst (λ (text : List ℕ). WritesAll sink out text written) (sym (append-nil before)) was;
}

pub writes-more : (a b c : SinkSeen) (u v w : Bool) (first second : List ℕ) → WritesOn first a u b v → WritesOn second b v c w
    → WritesOn (first ++ second) a u c w
writes-more a b c u v w first second one two = record {
  faults = omega (arith, one.faults, two.faults);
  behind =
      λ sink before faults was.
      subst (λ (text : List ℕ). WritesAll sink c text w) (append_assoc before first second)
      (two.behind sink (before ++ first) (omega (arith, faults, one.faults)) (one.behind sink before faults was));
}
