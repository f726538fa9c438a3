-- What a run leaves of its output.
use Rattle.std.proofs.Common.{◌≡◌, ℕ, ◌+◌, ◌-◌, ◌<◌, List, [], ◌++◌, length, take, drop, length-append, length-take-le, Option, Some, None, option_map, sym, ap, subst, ◌∙◌, arith}
use Rattle.std.proofs.Math.Seq.{take-add, take-length}
use Rattle.std.proofs.lemmas.List.{append_assoc, length-drop}
use Rattle.mpm_base.specs.Count.{NeverFalls, RisesWhere}
use Rattle.mpm_base.specs.Sink.{Puts, SinkSeen, put_bytes, put_failed}
use Rattle.mpm_base.specs.declared.sink.Put.{Put}
use Rattle.mpm_base.specs.declared.sink.Put.TheVariants as put
use Rattle.run_report.specs.Written.{LacksText, LeavesUnwritten}
use Rattle.run_report.proofs.CountLemmas.{rises-behind}

-- one more piece is written
told_grows : (bytes : List ℕ) (from count : ℕ) (o p q : Option (List ℕ)) → p ≡ option_map (λ written. written ++ take from bytes) o
    → q ≡ option_map (λ written. written ++ take count (drop from bytes)) p → q ≡ option_map (λ written. written ++ take (from + count) bytes) o
told_grows bytes from count None p q first more =
    more ∙ ap (λ (x : Option (List ℕ)). option_map (λ (written : List ℕ). written ++ take count (drop from bytes)) x) first
told_grows bytes from count (Some w) p q first more =
    more ∙ ap (λ (x : Option (List ℕ)). option_map (λ (written : List ℕ). written ++ take count (drop from bytes)) x) first
    ∙ ap (λ (x : List ℕ). Some x) (append_assoc w (take from bytes) (take count (drop from bytes)))
    ∙ ap (λ (x : List ℕ). Some (w ++ x)) (sym (take-add from count bytes))

-- one more piece was taken from the bytes that are left
pub told_puts : (bytes : List ℕ) (from count : ℕ) (o : Option (List ℕ)) (mid new : SinkSeen) (answer : Put)
    → mid.told ≡ option_map (λ written. written ++ take from bytes) o
    → Puts mid new answer (take (length bytes - from) (drop from bytes))
    → answer ≡ put.Put count
    → new.told ≡ option_map (λ written. written ++ take (from + count) bytes) o
told_puts bytes from count o mid new answer first puts put_is =
    let left : take (length bytes - from) (drop from bytes) ≡ drop from bytes =
    ap (λ (n : ℕ). take n (drop from bytes)) (sym (length-drop from bytes)) ∙ take-length (drop from bytes) in
    told_grows bytes from count o mid.told new.told first
    (puts.told_is
    ∙ ap (λ (x : Put). option_map (λ (written : List ℕ). written ++ put_bytes x (take (length bytes - from) (drop from bytes))) mid.told) put_is
    ∙ ap (λ (x : List ℕ). option_map (λ (written : List ℕ). written ++ take count x) mid.told) left)

-- ## A write that failed

-- where no more than a front of the bytes was written some of them are lacking
lacks-rest : (bytes : List ℕ) (from : ℕ) (o p q : Option (List ℕ)) → from < length bytes → p ≡ option_map (λ written. written ++ take from bytes) o
    → q ≡ option_map (λ written. written ++ []) p → LacksText o q bytes
lacks-rest bytes from None p q less first none = tt
lacks-rest bytes from (Some w) p q less first none =
    let fits : length (take from bytes) ≡ from = length-take-le from bytes (omega (arith, less)) in
    subst (λ (x : Option (List ℕ)). LacksText (Some w) x bytes)
    (sym (none ∙ ap (λ (x : Option (List ℕ)). option_map (λ (written : List ℕ). written ++ []) x) first))
    (omega (arith, less, fits, length-append w (take from bytes), length-append (w ++ take from bytes) []))

-- a write failed while bytes were left
pub failed-write : (bytes : List ℕ) (from : ℕ) (old mid new : SinkSeen) (piece : List ℕ) (answer : Put) → from < length bytes
    → mid.told ≡ option_map (λ written. written ++ take from bytes) old.told → NeverFalls old.faults mid.faults → Puts mid new answer piece
    → answer ≡ put.Failed → LeavesUnwritten old new bytes
failed-write bytes from old mid new piece answer less first faults puts failed = record {
  failed = rises-behind old.faults mid.faults new.faults faults (subst (λ (x : Put). RisesWhere (put_failed x) mid.faults new.faults) failed puts.count);
  lacks =
      lacks-rest bytes from old.told mid.told new.told less first
      (puts.told_is ∙ ap (λ (x : Put). option_map (λ (written : List ℕ). written ++ put_bytes x piece) mid.told) failed);
}
