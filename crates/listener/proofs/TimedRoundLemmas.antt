-- A round in which nothing was done but that time passed.
use Rattle.std.proofs.Common.{◌≡◌, ℕ, List, [], ◌++◌, None, sym, ap, ◌∙◌, append-nil}
use Rattle.conn_machine.specs.declared.event.Event.{Event}
use Rattle.board_book.specs.Book.{SeenBook}
use Rattle.worker_group.specs.Acts.{Acts}
use Rattle.rounds.specs.PartsInside.{PassesTime, time_events}
use Rattle.listener_round.specs.RoundInside.{Round, round_events}
use Rattle.board_book.specs.Moments.{ticks_to}
use Rattle.rounds.proofs.ActLemmas.{acts-spelled}

-- such a round
abbrev pub timed_round : (to : ℕ) (a b : SeenBook) → PassesTime to a b → Round
timed_round to a b passes = record {
  early = passes.early;
  ticks = ticks_to a.state.moment to;
  late = passes.late;
  signals = [];
  departures = record { retiring = []; cut = []; drained = [] };
  orders = [];
  retired = [];
  starts = [];
  takes = [];
}

-- it did that
pub timed-acts : (to : ℕ) (a b : SeenBook) (passes : PassesTime to a b) → Acts 0 (round_events (timed_round to a b passes)) None a b
timed-acts to a b passes =
    let time = time_events passes.early (ticks_to a.state.moment to) passes.late in
    let one : time ++ [] ≡ time = append-nil time in
    acts-spelled time (round_events (timed_round to a b passes)) a b passes.acts
    (sym (ap (λ (es : List Event). ((((es ++ []) ++ []) ++ []) ++ []) ++ []) one
    ∙ ap (λ (es : List Event). (((es ++ []) ++ []) ++ []) ++ []) one
    ∙ ap (λ (es : List Event). ((es ++ []) ++ []) ++ []) one
    ∙ ap (λ (es : List Event). (es ++ []) ++ []) one
    ∙ ap (λ (es : List Event). es ++ []) one
    ∙ one))
