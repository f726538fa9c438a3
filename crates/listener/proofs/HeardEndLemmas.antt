-- The lines of a run in the end, once its server was stopped: the last one too, answered or not.
use Rattle.std.proofs.Common.{◌≡◌, ◌⊎◌, inl, inr, ℕ, Bool, false, cond, List, [], ◌∷◌, ◌++◌, length, map, slice_get, Option, None, Some, IfSome, IsSome, refl, sym, ap, subst, ◌∙◌, append-nil}
use Rattle.mpm_base.specs.Front.{Commands, FrontSeen}
use Rattle.mpm_base.specs.Sink.{SinkSeen}
use Rattle.conn_machine.specs.declared.event.Entry.{Entry}
use Rattle.conn_machine.specs.declared.state.Going.{Going}
use Rattle.conn_machine.specs.declared.state.State.{State}
use Rattle.conn_machine.specs.Runs.{after}
use Rattle.conn_machine.specs.Shown.{totals_of}
use Rattle.command_answers.specs.Answers.{open_line}
use Rattle.worker_group.specs.Acts.{events_of}
use Rattle.board_book.specs.ClosedDown.{IsBrokenOff}
use Rattle.listener_round.specs.FirstNumbers.{opened_by}
use Rattle.listener_round.specs.Generations.{Opening}
use Rattle.listener_round.specs.Heard.{AreAnswered, AreCounted, AreToldBy, Heard, NoneIsLeft, asks_for_state, open_lines}
use Rattle.listener_round.specs.HeardInside.{AllAnswered, HasHeard, HasHeardAll, KeepsHeard, Unanswered, WritesOn, with_last}
use Rattle.listener_round.specs.LineAnswers.{IsAnswerTo}
use Rattle.listener_round.specs.Pace.{Share}
use Rattle.listener_round.specs.declared.run_numbers.RunNumbers.{RunNumbers}
use Rattle.listener_round.proofs.HeardLemmas.{answered-later}
use Rattle.listener_round.proofs.HeardLineLemmas.{IsHeardOn, answered-line, counted-line, has-kept, told-on}
use Rattle.listener_round.proofs.OpenLemmas.{open-later, open-snoc, state_text}
use Rattle.listener_round.proofs.PlacedLemmas.{within-answered}

-- ## What is left of each

-- of a line that was the last one, behind which the server was stopped: what became of the front since it was read; what it is answered by the
-- entries that came then; and that it was, unless memory lacked
pub record LeavesOne (going : Going) (more : List Entry) (u : Unanswered) (front front' : FrontSeen) : Type 0 where
  pub on : (mid : FrontSeen) → Commands mid front (Some u.line) → IsHeardOn u.line u.answer mid front'
  pub answer : (o : Opening) (orders : ℕ) (s : State) → IfSome u.answer (IsAnswerTo o orders s (slice_get (events_of 0 more) 0) u.line)
  pub each : IsSome u.answer ⊎ IsBrokenOff going
  pub quiet : asks_for_state u.line ≡ false

-- the same where there is none
abbrev pub LeavesLast : Going → List Entry → Option Unanswered → FrontSeen → FrontSeen → Type 0
LeavesLast going more None front front' = KeepsHeard front front'
LeavesLast going more (Some u) front front' = LeavesOne going more u front front'

-- what is said of these lines then
pub record LinesLeft (o : Opening) (n : RunNumbers) (history : List Entry) (going : Going) (front : FrontSeen) (out : SinkSeen) (written : Bool)
    (out' : SinkSeen) (written' : Bool) (heard : List Heard) : Type 0 where
  pub answered : AreAnswered o (opened_by n) history 0 0 heard
  pub each : NoneIsLeft going heard
  pub told : IfSome front.told (AreToldBy heard)
  pub counted : AreCounted heard o.front.counts front.counts
  pub writes : WritesOn (open_lines (opened_by n) history heard) out written out' written'

-- ## All of them

none-left : (going : Going) (heard : List Heard) → AllAnswered heard → NoneIsLeft going heard
none-left going [] all = tt
none-left going (h ∷ []) all = inl all.0
none-left going (h ∷ g ∷ heard) all = (all.0, none-left going (g ∷ heard) all.1)

last-left : (going : Going) (heard : List Heard) (h : Heard) → AllAnswered heard → IsSome h.answer ⊎ IsBrokenOff going → NoneIsLeft going (heard ++ h ∷ [])
last-left going [] h all is = is
last-left going (g ∷ []) h all is = (all.0, is)
last-left going (g ∷ f ∷ heard) h all is = (all.0, last-left going (f ∷ heard) h all.1 is)

pub lines-left : (o : Opening) (n : RunNumbers) (history more : List Entry) (moves : ℕ) (shares : List Share) (last : Option Unanswered) (going : Going)
    (front front' : FrontSeen) (out : SinkSeen) (written : Bool) (out' : SinkSeen) (written' : Bool) → LeavesLast going more last front front'
    → (all : HasHeardAll o n history moves shares last front out written out' written')
    → LinesLeft o n (history ++ more) going front' out written out' written' (with_last last (length history) all.heard)
lines-left o n history more moves shares None going front front' out written out' written' left all =
    let first = opened_by n in
    let has : HasHeard o first history o.front front' all.heard =
    has-kept o first history o.front front front' all.heard left
    (subst (λ (x : FrontSeen). HasHeard o first history o.front x all.heard) (sym all.gave) all.has) in
    let within = within-answered o first history 0 0 all.heard all.has.answered in
    record {
      answered = answered-later o first history more 0 0 all.heard all.has.answered;
      each = none-left going all.heard all.has.each;
      told = has.told;
      counted = has.counted;
      writes = subst (λ (xs : List ℕ). WritesOn xs out written out' written') (sym (open-later first history more all.heard within)) all.writes;
    }
lines-left o n history more moves shares (Some u) going front front' out written out' written' left all =
    let first = opened_by n in
    let h : Heard = record { line = u.line; made = length history; answer = u.answer } in
    let on = left.on all.mid all.gave in
    let within = within-answered o first history 0 0 all.heard all.has.answered in
    let text : open_lines first (history ++ more) (all.heard ++ h ∷ []) ≡ open_lines first history all.heard =
    open-snoc first history more all.heard u.line u.answer within
    ∙ ap (λ (b : Bool). open_lines first history all.heard ++ cond b (open_line (totals_of (after first history))) []) left.quiet
    ∙ append-nil (open_lines first history all.heard) in
    record {
      answered =
          answered-line o first history more all.heard u.line u.answer all.has.answered all.has.orders (left.answer o _ (after first history));
      each = last-left going all.heard h all.has.each left.each;
      told = told-on all.heard h all.mid.told front'.told on.told all.has.told all.has.read;
      counted = counted-line all.heard h o.front.counts all.mid.counts front'.counts on.words on.answers all.has.counted;
      writes = subst (λ (xs : List ℕ). WritesOn xs out written out' written') (sym text) all.writes;
    }
