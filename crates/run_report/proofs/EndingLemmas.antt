-- How a run ends: with which exit status, and what was written.
use Rattle.std.proofs.Common.{◌≡◌, ◌⊎◌, ◌+◌, ◌<◌, ◌≤◌, ◌++◌, inl, inr, ℕ, Bool, true, false, List, length, length-append, Option, None, Some, option_map, IfSome, IsSomeAnd, ◌&&◌, refl, sym, ap, subst, ◌∙◌, arith}
use Rattle.std.proofs.lemmas.Bool.Decides.{nat_tests}
use Rattle.std.proofs.lemmas.List.{append_assoc}
use Rattle.mpm_base.specs.Count.{NeverFalls}
use Rattle.mpm_base.specs.Sink.{SinkSeen}
use Rattle.conn_machine.specs.declared.event.Why.TheVariants as why
use Rattle.conn_machine.specs.declared.state.Going.{Going}
use Rattle.conn_machine.specs.declared.state.Going.TheVariants.{Halted}
use Rattle.board.specs.Board.{SeenBoard}
use Rattle.run_report.specs.Written.{LacksText, LeavesUnwritten, WritesText}
use Rattle.run_report.specs.EndingsInside.{IsEnd, EndsReport, IsExitStatusOf, IsStoppedStatus, LacksInRun, LacksReport, ReportsAs, WritesAll, status_of_writes}
use Rattle.run_report.specs.Endings.{EndsAs, EndsLacking, IsGoodEnd, MayEndWith}
use Rattle.run_report.specs.Report.{board_report}
use Rattle.run_report.proofs.CountLemmas.{rises-before, rises-behind}

-- ## With which exit status

-- so it is for one that is the same
pub may-end : (going going' : Going) (status : ℕ) → going ≡ going' → MayEndWith going status → MayEndWith going' status
may-end going going' status is may = subst (λ (g : Going). MayEndWith g status) is may

-- with these it stopped because nothing more could come, or because it was asked to, or ended gracefully
pub good-end : (going : Going) (status : ℕ) → IsEnd going → MayEndWith going status → (status ≡ 0) ⊎ (status ≡ 5) → IsGoodEnd going
good-end going status (inl ended) may good = inl ended
good-end going status (inr (inl asked)) may good = inr (inl asked)
good-end going status (inr (inr (inl failed))) may good = absurd (omega (arith, may-end going _ status failed may, good))
good-end going status (inr (inr (inr (inl no_memory)))) may good = absurd (omega (arith, may-end going _ status no_memory may, good))
good-end going status (inr (inr (inr (inr gracefully)))) may good = inr (inr gracefully)

-- with this one for a wait that failed
failed-end : (going : Going) (status : ℕ) → IsEnd going → MayEndWith going status → status ≡ 4 → going ≡ Halted why.FrontFailed
failed-end going status (inl ended) may four = absurd (omega (arith, may-end going _ status ended may, four))
failed-end going status (inr (inl asked)) may four = absurd (omega (arith, may-end going _ status asked may, four))
failed-end going status (inr (inr (inl failed))) may four = failed
failed-end going status (inr (inr (inr (inl no_memory)))) may four = absurd (omega (arith, may-end going _ status no_memory may, four))
failed-end going status (inr (inr (inr (inr (inl ending))))) may four = absurd (omega (arith, may-end going _ status ending.1 may, four))
failed-end going status (inr (inr (inr (inr (inr overdue))))) may four = absurd (omega (arith, may-end going _ status overdue may, four))

-- the status before the report is 6 only where the server stopped for want of memory
six-lacks : (going : Going) (status : ℕ) → IsEnd going → IsExitStatusOf going status → status ≡ 6 → going ≡ Halted why.NoMemory
six-lacks going status (inl ended) is six = absurd (omega (arith, subst (λ (g : Going). IsExitStatusOf g status) ended is, six))
six-lacks going status (inr (inl asked)) is six = absurd (omega (arith, subst (λ (g : Going). IsExitStatusOf g status) asked is, six))
six-lacks going status (inr (inr (inl failed))) is six = absurd (omega (arith, subst (λ (g : Going). IsExitStatusOf g status) failed is, six))
six-lacks going status (inr (inr (inr (inl no_memory)))) is six = no_memory
six-lacks going status (inr (inr (inr (inr (inl ending))))) is six =
    absurd (omega (arith, subst (λ (g : Going). IsExitStatusOf g status) ending.1 is, six))
six-lacks going status (inr (inr (inr (inr (inr overdue))))) is six =
    absurd (omega (arith, subst (λ (g : Going). IsExitStatusOf g status) overdue is, six))

-- so the report was written behind that, or memory lacked for it
pub lacks-in-run : (old new : SinkSeen) (b : SeenBoard) (status : ℕ) → IsEnd b.book.state.going → IsExitStatusOf b.book.state.going status
    → LacksReport old new (board_report b) status → LacksInRun old new b
lacks-in-run old new b status end is (inl wrote) = inl (six-lacks b.book.state.going status end is wrote.0, wrote.1)
lacks-in-run old new b status end is (inr same) = inr same

-- ## What was written

-- one text was written, and then another one
told-both : (o p q : Option (List ℕ)) (first second : List ℕ) → p ≡ option_map (λ written. written ++ first) o
    → q ≡ option_map (λ written. written ++ second) p → q ≡ option_map (λ written. written ++ (first ++ second)) o
told-both None p q first second one two = two ∙ ap (option_map (λ (written : List ℕ). written ++ second)) one
told-both (Some w) p q first second one two =
    two ∙ ap (option_map (λ (written : List ℕ). written ++ second)) one ∙ ap (λ (x : List ℕ). Some x) (append_assoc w first second)

-- what is too short for a text behind another one is too short for both
short-joined : (w : List ℕ) (q : Option (List ℕ)) (first second : List ℕ) → IsSomeAnd q (λ w'. length w' < length (w ++ first) + length second)
    → IsSomeAnd q (λ w'. length w' < length w + length (first ++ second))
short-joined w None first second short = short
short-joined w (Some w') first second short = omega (arith, short, length-append w first, length-append first second)

-- an output that lacks some of one text lacks some of it behind another one that was written
lacks-behind : (o p q : Option (List ℕ)) (first second : List ℕ) → p ≡ option_map (λ written. written ++ first) o → LacksText p q second
    → LacksText o q (first ++ second)
lacks-behind None p q first second one lacks = tt
lacks-behind (Some w) p q first second one lacks =
    short-joined w q first second (subst (λ (x : Option (List ℕ)). LacksText x q second) one lacks)

-- the output took no more than the text
abbrev GrowsWithin : Option (List ℕ) → Option (List ℕ) → List ℕ → Type 0
GrowsWithin o q text = IfSome o (λ w. IsSomeAnd q (λ w'. length w' ≤ length w + length text))

-- it took no more where it took the text
within-whole : (o q : Option (List ℕ)) (text : List ℕ) → q ≡ option_map (λ written. written ++ text) o → GrowsWithin o q text
within-whole None q text whole = tt
within-whole (Some w) q text whole =
    subst (λ (x : Option (List ℕ)). IsSomeAnd x (λ w'. length w' ≤ length w + length text)) (sym whole) (omega (arith, length-append w text))

-- nor where it lacks some of it
within-lacking : (o q : Option (List ℕ)) (text : List ℕ) → LacksText o q text → GrowsWithin o q text
within-lacking None q text lacks = tt
within-lacking (Some w) None text lacks = lacks
within-lacking (Some w) (Some w') text lacks = omega (arith, lacks)

-- an output that lacks some of one text lacks some of it and of what follows it
lacks-before : (o p q : Option (List ℕ)) (first second : List ℕ) → LacksText o p first → GrowsWithin p q second → LacksText o q (first ++ second)
lacks-before None p q first second lacks within = tt
lacks-before (Some w) None q first second lacks within = absurd lacks
lacks-before (Some w) (Some v) None first second lacks within = within
lacks-before (Some w) (Some v) (Some u) first second lacks within = omega (arith, lacks, within, length-append first second)

-- the warnings, where they were written, and the report
pub report-well : (old mid new : SinkSeen) (first second : List ℕ) (written : Bool) (status : ℕ) → WritesAll old mid first written
    → EndsReport mid new second written status → status ≡ 0 → new.told ≡ option_map (λ before. before ++ (first ++ second)) old.told
report-well old mid new first second true status warned report zero =
    told-both old.told mid.told new.told first second warned (report.well zero).1
report-well old mid new first second false status warned report zero = absurd (cc (report.well zero).0)

-- a write of the warnings or of the report failed, and they were not written whole
pub report-unwritten : (old mid new : SinkSeen) (first second : List ℕ) (written : Bool) (status : ℕ) → WritesAll old mid first written
    → NeverFalls old.faults mid.faults → EndsReport mid new second written status → status ≡ 5 → LeavesUnwritten old new (first ++ second)
report-unwritten old mid new first second true status warned faults report five =
    elim (report.failed five) [
      | inl unwritten ↦ record {
        failed = rises-behind old.faults mid.faults new.faults faults unwritten.failed;
        lacks = lacks-behind old.told mid.told new.told first second warned unwritten.lacks;
      }
      | inr unwarned ↦ absurd (cc unwarned.0)
    ]
report-unwritten old mid new first second false status warned faults report five = record {
  failed = rises-before old.faults mid.faults new.faults warned.failed report.faults;
  lacks =
      lacks-before old.told mid.told new.told first second warned.lacks
      (elim (report.failed five) [
        | inl unwritten ↦ within-lacking mid.told new.told second unwritten.lacks
        | inr unwarned ↦ within-whole mid.told new.told second unwarned.1
      ]);
}

-- both were written whole, or a write failed
both-whole : (old mid new : SinkSeen) (first second : List ℕ) → mid.told ≡ option_map (λ written. written ++ first) old.told
    → NeverFalls old.faults mid.faults → WritesText mid new second → WritesText old new (first ++ second)
both-whole old mid new first second warned faults writes = record {
  faults = omega (arith, faults, writes.faults);
  whole =
      elim writes.whole [
        | inl whole ↦ inl (told-both old.told mid.told new.told first second warned whole)
        | inr failed ↦ inr (rises-behind old.faults mid.faults new.faults faults failed)
      ];
}

-- what was written of the one text, or a write failed, and then all of the other was, or a write failed
text-behind : (old mid new : SinkSeen) (first second : List ℕ) (written : Bool) → WritesAll old mid first written → NeverFalls old.faults mid.faults
    → WritesText mid new second → WritesText old new (first ++ second)
text-behind old mid new first second true warned faults writes = both-whole old mid new first second warned faults writes
text-behind old mid new first second false warned faults writes = record {
  faults = omega (arith, faults, writes.faults);
  whole = inr (rises-before old.faults mid.faults new.faults warned.failed writes.faults);
}

pub report-text : (old mid new : SinkSeen) (first second : List ℕ) (written : Bool) (status : ℕ) → WritesAll old mid first written
    → NeverFalls old.faults mid.faults → EndsReport mid new second written status → status ≡ 4 → WritesText old new (first ++ second)
report-text old mid new first second written status warned faults report is =
    text-behind old mid new first second written warned faults (report.writes is)

-- a text was written, or a write failed
writes-text : (old new : SinkSeen) (text : List ℕ) (whole : Bool) → WritesAll old new text whole → NeverFalls old.faults new.faults → WritesText old new text
writes-text old new text true all faults = record { faults = faults; whole = inl all }
writes-text old new text false all faults = record { faults = faults; whole = inr all.failed }

-- with exit status 6
ends-lacking : (old mid new : SinkSeen) (warnings : List ℕ) (b : SeenBoard) (written : Bool) → WritesAll old mid warnings written
    → NeverFalls old.faults mid.faults → LacksInRun mid new b → EndsLacking old new warnings b
ends-lacking old mid new warnings b written warned faults (inl stopped) =
    inl (stopped.0, text-behind old mid new warnings (board_report b) written warned faults stopped.1)
ends-lacking old mid new warnings b written warned faults (inr same) =
    inr (subst (λ (s : SinkSeen). WritesText old s warnings) (sym same) (writes-text old mid warnings written warned faults))

-- how a run ends with its exit status, whose warnings were written or not, and then its report
pub ends-as : (old mid new : SinkSeen) (warnings : List ℕ) (b : SeenBoard) (written : Bool) (status : ℕ) → WritesAll old mid warnings written
    → NeverFalls old.faults mid.faults → IsEnd b.book.state.going → MayEndWith b.book.state.going status → EndsReport mid new (board_report b) written status
    → (status ≡ 6 → LacksInRun mid new b) → EndsAs old new warnings b status
ends-as old mid new warnings b written status warned faults end may report lacking = record {
  may = may;
  well = λ zero. record {
    going = good-end b.book.state.going status end may (inl zero);
    report = report-well old mid new warnings (board_report b) written status warned report zero;
  };
  failed = λ four. record {
    going = failed-end b.book.state.going status end may four;
    text = report-text old mid new warnings (board_report b) written status warned faults report four;
  };
  unwritten = λ five. record {
    going = good-end b.book.state.going status end may (inr five);
    unwritten = report-unwritten old mid new warnings (board_report b) written status warned faults report five;
  };
  lacking = λ six. ends-lacking old mid new warnings b written warned faults (lacking six);
}

-- ## The report

-- all was written
report-whole : (old new : SinkSeen) (text : List ℕ) (status : ℕ) → IsStoppedStatus status → WritesAll old new text true
    → NeverFalls old.faults new.faults → EndsReport old new text true status
report-whole old new text status stopped all faults = record {
  faults = faults;
  well = λ zero. (refl, all);
  failed = λ five. absurd (omega (arith, stopped, five));
  writes = λ is. record { faults = faults; whole = inl all };
}

-- the report was, and the warnings were not
report-unwarned : (old new : SinkSeen) (text : List ℕ) (status : ℕ) → WritesAll old new text true → NeverFalls old.faults new.faults
    → (status ≡ 0 → ⊥) → EndsReport old new text false status
report-unwarned old new text status all faults other = record {
  faults = faults;
  well = λ zero. absurd (other zero);
  failed = λ five. inr (refl, all);
  writes = λ is. record { faults = faults; whole = inl all };
}

-- a write of the report failed
report-failed : (old new : SinkSeen) (text : List ℕ) (written : Bool) (status : ℕ) → WritesAll old new text false
    → NeverFalls old.faults new.faults → (status ≡ 0 → ⊥) → EndsReport old new text written status
report-failed old new text written status all faults other = record {
  faults = faults;
  well = λ zero. absurd (other zero);
  failed = λ five. inl all;
  writes = λ is. record { faults = faults; whole = inr all.failed };
}

-- where a write failed the status isn't 0
not-zero : (status : ℕ) → status_of_writes false status ≡ 0 → ⊥
not-zero status zero = grind (arith, nat_tests, zero)

-- what was written of the report, by the exit status
pub report-of : (old new : SinkSeen) (text : List ℕ) (whole written : Bool) (status : ℕ) → IsStoppedStatus status → WritesAll old new text whole
    → NeverFalls old.faults new.faults → EndsReport old new text written (status_of_writes (whole && written) status)
report-of old new text true true status stopped all faults = report-whole old new text status stopped all faults
report-of old new text true false status stopped all faults = report-unwarned old new text (status_of_writes false status) all faults (not-zero status)
report-of old new text false written status stopped all faults = report-failed old new text written (status_of_writes false status) all faults (not-zero status)

reports-as : (all : Bool) (status : ℕ) → IsStoppedStatus status → ReportsAs status (status_of_writes all status)
reports-as true status stopped = inl refl
reports-as false status (inl zero) = inr (inl (zero, subst (λ (n : ℕ). status_of_writes false n ≡ 5) (sym zero) refl))
reports-as false status (inr (inl four)) = inl (subst (λ (n : ℕ). status_of_writes false n ≡ n) (sym four) refl)
reports-as false status (inr (inr six)) = inl (subst (λ (n : ℕ). status_of_writes false n ≡ n) (sym six) refl)

-- and what becomes of the status
pub reports-status : (all : Bool) (status status' : ℕ) → IsStoppedStatus status → status' ≡ status_of_writes all status → ReportsAs status status'
reports-status all status status' stopped is = subst (ReportsAs status) (sym is) (reports-as all status stopped)

-- writes make no status 6
of-six : (all : Bool) (status : ℕ) → status_of_writes all status ≡ 6 → status ≡ 6
of-six true status six = six
of-six false status six = grind (arith, nat_tests, six)

-- so it was written behind one
pub lacks-report : (old new : SinkSeen) (text : List ℕ) (whole written : Bool) (status status' : ℕ) → WritesAll old new text whole
    → NeverFalls old.faults new.faults → status' ≡ status_of_writes (whole && written) status → status' ≡ 6 → LacksReport old new text status
lacks-report old new text whole written status status' all faults is six =
    inl (of-six (whole && written) status (sym is ∙ six), writes-text old new text whole all faults)
