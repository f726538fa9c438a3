use Rattle.std.proofs.Common.{ℕ, [], ◌∷◌, refl, subst, ◌∙◌}
use Rattle.conn_machine.specs.declared.event.Event.TheVariants as event
use Rattle.board_turns.proofs.TurnLemmas.{more_turns, no_turn, one_turn}
use Rattle.listener_turns.specs.Holds.{HasTaken}
use Rattle.listener_parts.proofs.AloneLemmas.{alone_more, alone_same, turn_alone}
use Rattle.listener_parts.proofs.LettingLemmas.{if_err, none_of, some_of}
use Rattle.listener_parts.proofs.NewLemmas.{accepts_behind, alone_accepted, alone_then_accepted}
use Rattle.listener_parts.proofs.taking.accept_one.Goals as goal

pub loop-init : goal.loop-init
loop-init g c = record {
  own = refl;
  listener = c.requires.listener;
  none = c.requires.none;
  turns = no_turn c.args.pass.now.seat.me.0;
  rest = alone_same _;
}

pub try_accept-requires-clause-none : goal.try_accept-requires-clause-none
try_accept-requires-clause-none g c = c.loop.invariant.none

-- ## None was taken in the turn

pub loop-preserved : goal.loop-preserved
loop-preserved g c =
    let none = none_of _ _ c.in_ok-taken.ensures.none c.in_default.is in
    record {
      own = c.try_accept.ensures.own ∙ c.loop.invariant.own;
      listener = c.try_accept.ensures.listener;
      none = none_of _ _ c.in_ok-taken.ensures.none_row c.in_default.is;
      turns = more_turns [] [] _ _ _ c.loop.invariant.turns (one_turn [] _ _ none);
      rest =
          alone_more _ _ _ c.loop.invariant.rest
          (turn_alone c.others_leave_the_rest_to_the_listener.ensures c.turns_rest_on_these.ensures [] _ _ c.loop.invariant.listener.number tt none);
    }

-- ## One was

pub returns-in-Some-2-clause-took : goal.returns-in-Some-2-clause-took
returns-in-Some-2-clause-took g c =
    more_turns [] (event.Accept c.in-Some-2.taken.name.slot ∷ []) _ _ _ c.loop.invariant.turns (one_turn _ _ _ (some_of _ _ c.in_ok-taken.ensures.took _ c.in-Some-2.is))

pub returns-in-Some-2-clause-taken : goal.returns-in-Some-2-clause-taken
returns-in-Some-2-clause-taken g c =
    let t = c.in-Some-2.taken in
    subst (λ (n : ℕ). HasTaken c.try_accept.new.pass.seat.me.0 t.name t.child t.generation n) c.loop.invariant.rest.stands.accepted (some_of _ _ c.in_ok-taken.ensures.taken _ c.in-Some-2.is)

pub returns-in-Some-2-clause-credits : goal.returns-in-Some-2-clause-credits
returns-in-Some-2-clause-credits g c = (some_of _ _ c.in_ok-taken.ensures.took _ c.in-Some-2.is).1.stays.credits ∙ c.loop.invariant.turns.credits

pub returns-in-Some-2-clause-rest : goal.returns-in-Some-2-clause-rest
returns-in-Some-2-clause-rest g c =
    alone_then_accepted _ _ _ c.loop.invariant.rest
    (accepts_behind c.others_leave_the_rest_to_the_listener.ensures c.turns_rest_on_these.ensures c.in-Some-2.taken.name.slot _ _
    c.loop.invariant.listener.number (some_of _ _ c.in_ok-taken.ensures.took _ c.in-Some-2.is))

-- ## It was refused

pub returns-in_err-taken-clause-err : goal.returns-in_err-taken-clause-err
returns-in_err-taken-clause-err g c = if_err c.from_residual.result _ (more_turns [] [] _ _ _ c.loop.invariant.turns (one_turn [] _ _ c.in_err-taken.ensures.err))

pub returns-in_err-taken-clause-stays : goal.returns-in_err-taken-clause-stays
returns-in_err-taken-clause-stays g c =
    if_err c.from_residual.result _ (alone_more _ _ _ c.loop.invariant.rest
    (turn_alone c.others_leave_the_rest_to_the_listener.ensures c.turns_rest_on_these.ensures [] _ _ c.loop.invariant.listener.number tt c.in_err-taken.ensures.err))

pub returns-in_err-taken-clause-credits : goal.returns-in_err-taken-clause-credits
returns-in_err-taken-clause-credits g c = c.in_err-taken.ensures.err.1.stays.credits ∙ c.loop.invariant.turns.credits

pub returns-in_err-taken-clause-rest : goal.returns-in_err-taken-clause-rest
returns-in_err-taken-clause-rest g c =
    alone_accepted _ _
    (alone_more _ _ _ c.loop.invariant.rest
    (turn_alone c.others_leave_the_rest_to_the_listener.ensures c.turns_rest_on_these.ensures [] _ _ c.loop.invariant.listener.number tt c.in_err-taken.ensures.err))
