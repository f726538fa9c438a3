-- Waits of a front of a script that fail.
use Rattle.std.proofs.Common.{◌≡◌, ℕ, Bool, List, [], append-nil, Option, None, subst, sym, refl, arith}
use Rattle.std.specs.Prelude.{IfSome}
use Rattle.mpm_base.specs.Front.{FrontTold, GoesForward, IsPatient, WaitTold, progress_of}
use Rattle.script_front.specs.FailingFront.{after_failed_wait}
use Rattle.script_front.specs.ScriptFront.{IsOfScript, SeenFront, woken_waits}
use Rattle.mpm_base.specs.declared.front.Woke.TheVariants as woke
use Rattle.script_front.proofs.PlayedLemmas.{arrived-within}
use Rattle.script_front.proofs.WaitLemmas.{woken-more}

-- a wait that failed is what a front that tells may do
pub forward-failed : (old new : SeenFront) (until : Option ℕ) (quiet : Bool) → IsOfScript old → new ≡ after_failed_wait until quiet old
    → GoesForward until quiet woke.Failed [] old.told new.told
forward-failed old new until quiet was is =
    let told : FrontTold = (after_failed_wait until quiet old).told in
    let patient : IfSome old.told.comings (λ comings. IsPatient comings until quiet woke.Failed None old.told told) =
    subst (λ (o : Option (List ℕ)). IfSome o (λ comings. IsPatient comings until quiet woke.Failed None old.told told)) (sym was.comings) refl in
    rw is (record {
      clients = refl;
      arrived = omega arith;
      within = rw (was.arrived, was.clients) (arrived-within old.script old.happened);
      accepted = refl;
      watches = refl;
      turned_away = refl;
      come = [];
      lines = sym (append-nil old.told.lines);
      read = refl;
      answers_stay = refl;
      bound = refl;
      dialled = refl;
      hushed = refl;
      left = omega arith;
      moment = omega arith;
      comings = refl;
      failed = refl;
      answers = tt;
      passed = None;
      patient = patient;
      waits = refl;
    })

-- and gave no moment
pub failed-wakes : (old new : SeenFront) (until : Option ℕ) (quiet : Bool) → new ≡ after_failed_wait until quiet old
    → woken_waits new.told.waits ≡ woken_waits old.told.waits
failed-wakes old new until quiet is =
    let wait : WaitTold = record { began = progress_of old.told; until = until; quiet = quiet; slots = []; answer = woke.Failed; passed = None } in
    subst (λ (f : SeenFront). woken_waits f.told.waits ≡ woken_waits old.told.waits) (sym is) (woken-more old.told.waits wait)
