-- A turn whose history was folded at its end, or wasn't.
use Rattle.std.proofs.Common.{ℕ, Option, ◌∙◌, ap, sym, subst}
use Rattle.conn_machine.specs.declared.state.State.{State}
use Rattle.conn_state.specs.Known.{KnownOutside}
use Rattle.board.specs.Board.{SeenBoard}
use Rattle.board_book.specs.Finds.{next_deadline_of}
use Rattle.worker_group.specs.Service.{IsUp}
use Rattle.rounds.specs.declared.ends.Rest.{Rest}
use Rattle.listener.specs.FoldsInside.{ListensOn}
use Rattle.listener.specs.ListenInside.{IsAtStart}
use Rattle.listener_round.specs.FrontInside.{IsInStep, TookAll}
use Rattle.board_book.specs.AtRest.{IsAtRest}
use Rattle.rounds.specs.TableInside.{StandsInTime}
use Rattle.listener_round.specs.StandingInside.{IsOpenedBy, KnowsLater}
use Rattle.listener.specs.TurnsInside.{SeenListener}
use Rattle.listener.proofs.OverLemmas.{IsBeforeTurn}
use Rattle.listener.proofs.PaceLemmas.{GoesAbreast, HasPatience, Rests}
use Rattle.listener.proofs.TurnLemmas.{HasKept, IsBetween}
use Rattle.listener.proofs.WholeLemmas.{WholeFrom, timely-begun, whole-folded}

module _ (known : Option KnownOutside) (a : SeenListener) (b : SeenBoard) (listens : ListensOn known a.board b) where
  kept-folded : (first : SeenListener) → HasKept first a → HasKept first (record a { board = b })
  kept-folded first kept = record {
    timely = λ began. listens.timely (kept.timely began);
    passes = listens.passes ∙ kept.passes;
    free = listens.free kept.free;
    up = subst (λ (s : State). IsUp s.going) (sym listens.state) kept.up;
    follows = kept.follows;
    contacts = kept.contacts;
    time = kept.time;
    config = kept.config;
  }

  between-folded : (first : SeenListener) → IsBetween known first a → IsBetween known first (record a { board = b })
  between-folded first before = record {
    kept = kept-folded first before.kept;
    in_time = subst StandsInTime (sym listens.state) before.in_time;
    step = subst (IsInStep a.front.told) (sym listens.state) before.step;
    knows = subst (λ (orders : ℕ). KnowsLater known orders a.config.name.now a.config.config.now a.store.told) (sym listens.orders) before.knows;
    serves = listens.edition a.edition.limits a.edition.site.value before.serves;
  }

  -- what the run did of all its entries
  all-folded : (first : SeenListener) → HasKept first a → (IsAtStart first.front.told first.board.book → HasPatience a) → WholeFrom known first a
      → WholeFrom known first (record a { board = b })
  all-folded first kept patient whole o n opened begun =
      whole-folded known o n first a b listens (subst (λ (c : _). IsOpenedBy c o) (sym kept.config) opened) (timely-begun known o n first a begun kept.timely)
      (λ none. patient (begun.first none)) (whole o n opened begun)

  rests-folded : (rest : Rest) → Rests rest a → Rests rest (record a { board = b })
  rests-folded rest rests = record {
    until = rests.until ∙ ap next_deadline_of (sym listens.state);
    at_rest = subst IsAtRest (sym listens.state) rests.at_rest;
    took = subst (TookAll a.front.told) (sym listens.state) rests.took;
    read = rests.read;
  }

  pace-folded : (rest : Rest) → GoesAbreast rest a → GoesAbreast rest (record a { board = b })
  pace-folded rest pace = record {
    abreast = λ steady. ap (λ (s : State). s.moment) listens.state ∙ pace.abreast steady;
    patient = listens.patient a.front.told a.calls pace.patient;
    rested = λ quiet. rests-folded rest (pace.rested quiet);
  }

  -- what holds before the next turn holds also then
  pub turn-folded : (first : SeenListener) (rest : Rest) → IsBeforeTurn known first rest a → IsBeforeTurn known first rest (record a { board = b })
  turn-folded first rest before = record {
    between = between-folded first before.between;
    whole = all-folded first before.between.kept (λ start. (before.paced start).patient) before.whole;
    clock = before.clock;
    heeded = before.heeded;
    paced = λ start. pace-folded rest (before.paced start);
  }
