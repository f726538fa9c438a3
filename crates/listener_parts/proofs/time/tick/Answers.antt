use Rattle.std.proofs.Common.{false, true, [], ◌∷◌, None, refl, ◌∙◌}
use Rattle.conn_machine.specs.declared.event.Event.TheVariants as event
use Rattle.board_turns.specs.Books.{state_of}
use Rattle.listener_parts.specs.Letting.{IsLateWay}
use Rattle.listener_parts.proofs.AloneLemmas.{alone_more, alone_same, turn_alone}
use Rattle.listener_parts.proofs.DidLemmas.{did_turn, turn_by}
use Rattle.listener_parts.proofs.LettingLemmas.{lets_end, lets_join, lets_none, on_err}
use Rattle.listener_parts.proofs.RestLemmas.{ticks_at_once, ticks_not}
use Rattle.listener_parts.proofs.RoundLemmas.{alone_as, alone_before, alone_moment, tick_behind, ticks}
use Rattle.listener_parts.proofs.time.tick.Goals as goal

pub loop-init : goal.loop-init
loop-init g c = record {
  own = refl;
  listener = c.requires.listener;
  gone = lets_none IsLateWay c.args.pass.now.seat.me.0 c.requires.none;
  credits = refl;
  rest = alone_same _;
  first = λ rested. refl;
}

-- ## Time didn't pass

pub let_go_late-requires-clause-none : goal.let_go_late-requires-clause-none
let_go_late-requires-clause-none g c = c.pass_time.ensures.row ∙ c.loop.invariant.gone.did.row

pub loop-preserved : goal.loop-preserved
loop-preserved g c =
    let none = turn_by false (event.Tick c.args.moment ∷ []) _ _ _ c.if-branch.false c.in_ok-pass_time.ensures.turn in
    record {
      own = c.let_go_late.ensures.own ∙ c.pass_time.ensures.own ∙ c.loop.invariant.own;
      listener = c.let_go_late.ensures.listener;
      gone =
          lets_join IsLateWay _ _ _
          (lets_end IsLateWay _ _ _ c.loop.invariant.gone (did_turn [] None _ _ none (c.pass_time.ensures.row ∙ c.loop.invariant.gone.did.row)))
          c.let_go_late.ensures.gone;
      credits = c.let_go_late.ensures.credits ∙ none.1.stays.credits ∙ c.loop.invariant.credits;
      rest =
          alone_more _ _ _ c.loop.invariant.rest
          (alone_more _ _ _
          (turn_alone c.others_leave_the_rest_to_the_listener.ensures c.turns_rest_on_these.ensures [] _ _ c.loop.invariant.listener.number tt none) c.let_go_late.ensures.rest);
      first = λ rested.
          absurd (ticks_not c.quiet_tables_are_the_listeners.ensures c.turns_rest_on_these.ensures c.args.moment _ _ _ c.loop.invariant.listener.number rested
          (c.loop.invariant.first rested) none (c.in_ok-pass_time.ensures.stays c.if-branch.false));
    }

-- ## Time passed

pub returns-then-branch-clause-ticks : goal.returns-then-branch-clause-ticks
returns-then-branch-clause-ticks g c =
    ticks c.args.moment _ _ _ c.loop.invariant.gone (turn_by true (event.Tick c.args.moment ∷ []) _ _ _ c.if-branch.true c.in_ok-pass_time.ensures.turn)
    (c.pass_time.ensures.row ∙ c.loop.invariant.gone.did.row)

pub returns-then-branch-clause-at_once : goal.returns-then-branch-clause-at_once
returns-then-branch-clause-at_once g c rested =
    ticks_at_once c.quiet_tables_are_the_listeners.ensures c.args.moment _ _ _ c.loop.invariant.listener.number rested (c.loop.invariant.first rested)
    (turn_by true (event.Tick c.args.moment ∷ []) _ _ _ c.if-branch.true c.in_ok-pass_time.ensures.turn)

pub returns-then-branch-clause-no_row : goal.returns-then-branch-clause-no_row
returns-then-branch-clause-no_row g c = c.pass_time.ensures.row ∙ c.loop.invariant.gone.did.row

pub returns-then-branch-clause-credits : goal.returns-then-branch-clause-credits
returns-then-branch-clause-credits g c = c.in_ok-pass_time.ensures.turn.1.stays.credits ∙ c.loop.invariant.credits

pub returns-then-branch-clause-moment : goal.returns-then-branch-clause-moment
returns-then-branch-clause-moment g c =
    (tick_behind c.others_leave_the_rest_to_the_listener.ensures c.turns_rest_on_these.ensures c.args.moment _ _ c.loop.invariant.listener.number
    (turn_by true (event.Tick c.args.moment ∷ []) _ _ _ c.if-branch.true c.in_ok-pass_time.ensures.turn)).stands.moment

pub returns-then-branch-clause-rest : goal.returns-then-branch-clause-rest
returns-then-branch-clause-rest g c =
    alone_as (state_of c.args.pass.now.seat.me.0) (state_of c.pass_time.new.pass.seat.me.0) c.args.moment
    (alone_before _ _ _ c.args.moment c.loop.invariant.rest
    (tick_behind c.others_leave_the_rest_to_the_listener.ensures c.turns_rest_on_these.ensures c.args.moment _ _ c.loop.invariant.listener.number
    (turn_by true (event.Tick c.args.moment ∷ []) _ _ _ c.if-branch.true c.in_ok-pass_time.ensures.turn)))

-- ## It was refused

pub returns-in_err-pass_time-clause-refused : goal.returns-in_err-pass_time-clause-refused
returns-in_err-pass_time-clause-refused g c =
    on_err c.from_residual.result _ (lets_end IsLateWay _ _ _ c.loop.invariant.gone
    (did_turn [] None _ _ c.in_err-pass_time.ensures.err (c.pass_time.ensures.row ∙ c.loop.invariant.gone.did.row)))

pub returns-in_err-pass_time-clause-no_row : goal.returns-in_err-pass_time-clause-no_row
returns-in_err-pass_time-clause-no_row g c = c.pass_time.ensures.row ∙ c.loop.invariant.gone.did.row

pub returns-in_err-pass_time-clause-credits : goal.returns-in_err-pass_time-clause-credits
returns-in_err-pass_time-clause-credits g c = c.in_err-pass_time.ensures.err.1.stays.credits ∙ c.loop.invariant.credits

pub returns-in_err-pass_time-clause-stays : goal.returns-in_err-pass_time-clause-stays
returns-in_err-pass_time-clause-stays g c =
    on_err c.from_residual.result _ (alone_more _ _ _ c.loop.invariant.rest
    (turn_alone c.others_leave_the_rest_to_the_listener.ensures c.turns_rest_on_these.ensures [] _ _ c.loop.invariant.listener.number tt c.in_err-pass_time.ensures.err))

pub returns-in_err-pass_time-clause-rest : goal.returns-in_err-pass_time-clause-rest
returns-in_err-pass_time-clause-rest g c =
    alone_moment _ _
    (alone_more _ _ _ c.loop.invariant.rest
    (turn_alone c.others_leave_the_rest_to_the_listener.ensures c.turns_rest_on_these.ensures [] _ _ c.loop.invariant.listener.number tt c.in_err-pass_time.ensures.err))
