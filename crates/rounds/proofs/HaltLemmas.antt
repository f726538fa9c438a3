-- That the server may be stopped for what ended the listener's turns, and how it stops.
use Rattle.std.proofs.Common.{◌≡◌, ℕ, true, false, [], ◌∷◌, Option, None, Some, Result, Ok, refl, sym, ap, subst, ◌∙◌, Err}
use Rattle.conn_machine.specs.declared.event.Commanded.TheVariants.{Stop}
use Rattle.conn_machine.specs.declared.event.Event.TheVariants as event
use Rattle.conn_machine.specs.declared.event.Why.{Why}
use Rattle.conn_machine.specs.declared.event.Why.TheVariants as why
use Rattle.conn_machine.specs.declared.state.Going.{Going}
use Rattle.conn_machine.specs.declared.state.Going.TheVariants.{Serving, Ending, Halted}
use Rattle.conn_machine.specs.Table.{may_command}
use Rattle.conn_machine.specs.States.{is_halted, is_over}
use Rattle.board_book.specs.declared.faults.BoardFault.{BoardFault}
use Rattle.board.specs.Board.{SeenBoard}
use Rattle.board_book.specs.Book.{SeenBook, row_in, AddsOnly}
use Rattle.board.specs.Events.{with_recorded}
use Rattle.worker_group.specs.Acts.{Acts, ActsInSteps}
use Rattle.rounds.specs.declared.ends.End.{End}
use Rattle.rounds.specs.declared.ends.End.TheVariants as end
use Rattle.rounds.specs.EndsInside.{HaltsAs, HaltsFor, MustHalt, why_of, is_at_end}
use Rattle.rounds.specs.PartsInside.{halt_events, halts_for}
use Rattle.rounds.proofs.ActLemmas.{acts-added, acts-spelled}

-- a server whose time is over has not stopped
pub over-up : (moment : ℕ) (going : Going) → is_over moment going ≡ true → is_halted going ≡ false
over-up moment Serving over = absurd (cc)
over-up moment (Ending until) over = refl
over-up moment (Halted reason) over = absurd (cc)

may-stop : (e : End) (reason : Why) (b : SeenBook) → why_of e ≡ Some reason → MustHalt (Ok e) b → may_command b.state (Stop reason) ≡ true
may-stop end.Ended reason b is must =
    let same : reason ≡ why.FrontEnded = cc in
    subst (λ (w : Why). may_command b.state (Stop w) ≡ true) (sym same) (rw (must.0, must.1) refl)
may-stop end.Asked reason b is must =
    let same : reason ≡ why.Asked = cc in
    subst (λ (w : Why). may_command b.state (Stop w) ≡ true) (sym same) (rw must refl)
may-stop end.Failed reason b is must =
    let same : reason ≡ why.FrontFailed = cc in
    subst (λ (w : Why). may_command b.state (Stop w) ≡ true) (sym same) (rw must refl)
may-stop end.Overdue reason b is must =
    let same : reason ≡ why.Overdue = cc in
    subst (λ (w : Why). may_command b.state (Stop w) ≡ true) (sym same) (rw (over-up b.state.moment b.state.going must, must) refl)
may-stop end.Gone reason b is must = absurd (cc)

-- the command may be made
pub may-halt : (turns : Result End BoardFault) (e : End) (reason : Why) (b : SeenBook) → turns ≡ Ok e → why_of e ≡ Some reason → MustHalt turns b
    → may_command b.state (Stop reason) ≡ true
may-halt turns e reason b is reason_is must =
    may-stop e reason b reason_is (subst (λ (t : Result End BoardFault). MustHalt t b) is must)

events-of : (turns : Result End BoardFault) (e : End) (o : Option Why) → turns ≡ Ok e → why_of e ≡ o → halts_for o ≡ halt_events turns
events-of turns e o is reason_is = ap halts_for (sym reason_is) ∙ ap halt_events (sym is)

-- and the server stops by it
pub acts-stopped : ActsInSteps → (turns : Result End BoardFault) (e : End) (reason : Why) (b b' : SeenBoard) → turns ≡ Ok e → why_of e ≡ Some reason
    → row_in 0 b.book ≡ None → b' ≡ with_recorded 0 (event.Command (Stop reason)) b → AddsOnly 0 b.book b'.book
    → row_in 0 b'.book ≡ row_in 0 b.book → Acts 0 (halt_events turns) None b.book b'.book
acts-stopped steps turns e reason b b' is reason_is free new_is adds row =
    acts-spelled (event.Command (Stop reason) ∷ []) (halt_events turns) b.book b'.book
    (acts-added steps (event.Command (Stop reason)) None b b' new_is adds (row ∙ free)) (events-of turns e (Some reason) is reason_is)

-- where it isn't to be stopped nothing is done
pub acts-unstopped : ActsInSteps → (turns : Result End BoardFault) (e : End) (b : SeenBook) → turns ≡ Ok e → why_of e ≡ None → row_in 0 b ≡ None
    → Acts 0 (halt_events turns) None b b
acts-unstopped steps turns e b is none free = acts-spelled [] (halt_events turns) b b (steps.none 0 None b free) (events-of turns e None is none)

-- how the server goes on then
pub halts-as : (turns : Result End BoardFault) (e : End) (o : Option Why) (old new : Going) → turns ≡ Ok e → why_of e ≡ o → HaltsFor o old new
    → HaltsAs turns old new
halts-as turns e o old new is reason_is halts =
    subst (λ (t : Result End BoardFault). HaltsAs t old new) (sym is) (subst (λ (x : Option Why). HaltsFor x old new) (sym reason_is) halts)

-- ## Why the server stopped

-- a server that stopped so has stopped, but behind a graceful stop that is at its end
pub has-halted : (turns : Result End BoardFault) (old new : Going) → is_at_end turns ≡ false → HaltsAs turns old new → is_halted new ≡ true
has-halted (Ok end.Ended) old new other halts = ap is_halted halts
has-halted (Ok end.Asked) old new other halts = ap is_halted halts
has-halted (Ok end.Failed) old new other halts = ap is_halted halts
has-halted (Ok end.Overdue) old new other halts = ap is_halted halts
has-halted (Ok end.Gone) old new other halts = absurd (cc other)
has-halted (Err fault) old new other halts = ap is_halted halts
