-- With which exit status a run ends that opened.
use Rattle.std.proofs.Common.{◌≡◌, ◌⊎◌, inl, inr, ℕ, List, Option, None, Some, IfSome, refl}
use Rattle.conn_machine.specs.declared.event.Why.TheVariants as why
use Rattle.conn_machine.specs.declared.state.Going.{Going}
use Rattle.conn_machine.specs.declared.state.Going.TheVariants.{Ending, Halted, Serving}
use Rattle.board.specs.Board.{SeenBoard}
use Rattle.run_report.specs.Endings.{EndsAs, IsGoodEnd, MayEndWith, run_text}
use Rattle.run_report.proofs.EndingLemmas.{may-end}
use Rattle.script_run.specs.Played.{HasPlayed, texts_of_play}
use Rattle.server_run.specs.Ends.{HasRunServer, texts_of_server}
use Rattle.run_laws.specs.Exact.{EndsExactly}
use Rattle.run_laws.specs.Outcomes.{IsOutcome, SeenOutcome}
use Rattle.run_laws.proofs.WayLemmas.{holds-of}
use Rattle.run_laws.proofs.FileLemmas.{written-whole}

-- ## A run that opened

-- the exit statuses of a good end
good-status : (going : Going) (status : ℕ) → IsGoodEnd going → MayEndWith going status → (status ≡ 0) ⊎ (status ≡ 5) ⊎ (status ≡ 6)
good-status going status (inl ended) may = may-end going _ status ended may
good-status going status (inr (inl asked)) may = may-end going _ status asked may
good-status going status (inr (inr (inl ending))) may = may-end going _ status ending.1 may
good-status going status (inr (inr (inr overdue))) may = may-end going _ status overdue may

-- those of each end
any-status : (going : Going) (status : ℕ) → MayEndWith going status → (status ≡ 0) ⊎ (status ≡ 4) ⊎ (status ≡ 5) ⊎ (status ≡ 6)
any-status Serving status may = absurd may
any-status (Ending until) status may = elim may [ inl zero ↦ inl zero | inr other ↦ inr (inr other) ]
any-status (Halted why.Asked) status may = elim may [ inl zero ↦ inl zero | inr other ↦ inr (inr other) ]
any-status (Halted why.Overdue) status may = elim may [ inl zero ↦ inl zero | inr other ↦ inr (inr other) ]
any-status (Halted why.FrontEnded) status may = elim may [ inl zero ↦ inl zero | inr other ↦ inr (inr other) ]
any-status (Halted why.FrontFailed) status may = elim may [ inl four ↦ inr (inl four) | inr six ↦ inr (inr (inr six)) ]
any-status (Halted why.NoMemory) status may = inr (inr (inr may))

pub ends-exactly : (o : SeenOutcome) (texts : List ℕ) (b : SeenBoard) → EndsAs o.call.sink o.call.sink' texts b o.status → EndsExactly o texts b
ends-exactly o texts b ends = record {
  well = λ zero. ((ends.well zero).going, (ends.well zero).report);
  unwritten = λ five. ((ends.unwritten five).going, (ends.unwritten five).unwritten);
  failed = λ four. (ends.failed four).going;
  comes_well =
      λ good written. elim (good-status b.book.state.going o.status good ends.may) [
        | inl zero ↦ inl zero
        | inr other ↦ elim other [
          | inl five ↦ absurd (written-whole o.call.sink o.call.sink' (run_text texts b) written (ends.unwritten five).unwritten)
          | inr six ↦ inr six
        ]
      ];
  comes_unwritten =
      λ good lacks. elim (good-status b.book.state.going o.status good ends.may) [
        | inl zero ↦ absurd (lacks (ends.well zero).report)
        | inr other ↦ other
      ];
  comes_failed = λ failed. may-end b.book.state.going _ o.status failed ends.may;
  comes_lacking = λ lacks. may-end b.book.state.going _ o.status lacks ends.may;
  no_other = any-status b.book.state.going o.status ends.may;
}

-- what holds of the value of an option that may have one
from-some : {X : Type 0} {P : X → Type 0} (o : Option X) → ((x : X) → o ≡ Some x → P x) → IfSome o P
from-some None holds = tt
from-some (Some x) holds = holds x refl

pub played-exactly : (o : SeenOutcome) → IsOutcome o
    → IfSome o.scripted
    (λ s. (run : HasPlayed o.call s.config s.board s.front s.clock s.store o.status) × EndsExactly o (texts_of_play run) s.board)
played-exactly o is =
    from-some o.scripted
    (λ s some. let run = holds-of _ o.scripted s some is.leaves.kept in (run, ends-exactly o (texts_of_play run) s.board run.ends))

pub served-exactly : (o : SeenOutcome) → IsOutcome o
    → IfSome o.board (λ b. (run : HasRunServer o.call o.front o.front' o.clock' o.status b) × EndsExactly o (texts_of_server run) b)
served-exactly o is =
    from-some o.board
    (λ b some. let run = holds-of _ o.board b some is.leaves.server in (run, ends-exactly o (texts_of_server run) b run.ends))
