use Rattle.std.proofs.Common.{length, sym, subst, arith}
use Rattle.std.proofs.lemmas.Bool.{eqb-true, eqb-false}
use Rattle.std.proofs.lemmas.List.{nil_from_length}
use Rattle.mpm_script.proofs.EscapeLemmas.{Reads, reads_more, reads_all, reads_stuck}
use Rattle.mpm_script.proofs.escapes.spelled.Goals as goal

pub returns-in_default : goal.returns-in_default
returns-in_default c =
    let some = eqb-false (length c.bytes.rest.now) 0 (sym c.bytes-test.ensures) in
    reads_stuck c.args.text.now c.bytes.bytes c.bytes.rest.now c.bytes.invariant (omega (arith, some))
    c.in_default.ensures.none

pub bytes-preserved : goal.bytes-preserved
bytes-preserved c =
    subst (λ bytes. Reads c.args.text.now bytes c.in-Some.behind.now) (sym c.in_ok-add.ensures.ok)
    (reads_more c.args.text.now c.bytes.bytes c.bytes.rest.now c.in-Some.byte c.in-Some.behind.now c.bytes.invariant
    c.in-Some.ensures.some)

pub returns : goal.returns
returns c =
    let none = nil_from_length c.bytes.rest.now (eqb-true _ 0 (sym c.bytes-test.ensures)) in
    reads_all c.args.text.now c.bytes.bytes (subst (Reads c.args.text.now c.bytes.bytes) none c.bytes.invariant)
