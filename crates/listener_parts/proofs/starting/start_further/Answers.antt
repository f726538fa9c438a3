use Rattle.std.proofs.Common.{[], ◌∷◌, None, refl, ◌∙◌}
use Rattle.conn_machine.specs.declared.event.Event.TheVariants as event
use Rattle.listener_parts.proofs.AloneLemmas.{one_stands, stands_more, stands_same, turn_stands}
use Rattle.listener_parts.proofs.DidLemmas.{did_nothing, did_turn}
use Rattle.listener_parts.proofs.LettingLemmas.{none_of, some_of}
use Rattle.listener_parts.proofs.RoundLemmas.{credits_stay, each_end, each_more, each_none}
use Rattle.listener_parts.proofs.starting.start_further.Goals as goal

pub loop-init : goal.loop-init
loop-init g c = record {
  own = refl;
  listener = c.requires.listener;
  starts = each_none _ (did_nothing c.args.pass.now.seat.me.0 None c.requires.none);
  rest = stands_same _;
  credits = c.requires.credits;
}

-- ## One more started

pub credit_started-requires-clause-none : goal.credit_started-requires-clause-none
credit_started-requires-clause-none g c = c.start_child.ensures.row ∙ c.loop.invariant.starts.did.row

pub credit_started-requires-clause-credits : goal.credit_started-requires-clause-credits
credit_started-requires-clause-credits g c = credits_stay c.loop.credits _ _ (some_of _ _ c.in_ok-child.ensures.some _ c.in-Some-2.is).1.stays.credits c.loop.invariant.credits

pub loop-preserved : goal.loop-preserved
loop-preserved g c =
    let some = (some_of _ _ c.in_ok-child.ensures.some _ c.in-Some-2.is) in
    record {
      own = c.credit_started.ensures.own ∙ c.start_child.ensures.own ∙ c.loop.invariant.own;
      listener = c.credit_started.ensures.listener;
      starts =
          each_more _ _ _ _ c.in-Some-2.child some.0 c.loop.invariant.starts some.1 some.2 (c.start_child.ensures.row ∙ c.loop.invariant.starts.did.row)
          c.credit_started.ensures.did;
      rest =
          stands_more _ _ _ c.loop.invariant.rest
          (stands_more _ _ _
          (turn_stands c.others_leave_the_rest_to_the_listener.ensures c.turns_rest_on_these.ensures (event.StartChild c.in-Some-2.child ∷ []) _ _
          c.loop.invariant.listener.number (one_stands c.in-Some-2.child) (some.0, some.1)) c.credit_started.ensures.rest.stands);
      credits = c.credit_started.ensures.credits;
    }

-- ## None is to be started

pub returns-in_default-clause-starts : goal.returns-in_default-clause-starts
returns-in_default-clause-starts g c =
    each_end _ _ _ c.loop.invariant.starts
    (did_turn [] None _ _ (none_of _ _ c.in_ok-child.ensures.none c.in_default.is).0 (c.start_child.ensures.row ∙ c.loop.invariant.starts.did.row))

pub returns-in_default-clause-rest : goal.returns-in_default-clause-rest
returns-in_default-clause-rest g c =
    stands_more _ _ _ c.loop.invariant.rest
    (turn_stands c.others_leave_the_rest_to_the_listener.ensures c.turns_rest_on_these.ensures [] _ _ c.loop.invariant.listener.number tt (none_of _ _ c.in_ok-child.ensures.none c.in_default.is).0)

pub returns-in_default-clause-credits : goal.returns-in_default-clause-credits
returns-in_default-clause-credits g c = credits_stay c.loop.credits _ _ (none_of _ _ c.in_ok-child.ensures.none c.in_default.is).0.1.stays.credits c.loop.invariant.credits

pub returns-in_default-clause-all : goal.returns-in_default-clause-all
returns-in_default-clause-all g c = (none_of _ _ c.in_ok-child.ensures.none c.in_default.is).1

-- ## It was refused

pub returns-in_err-child-clause-starts : goal.returns-in_err-child-clause-starts
returns-in_err-child-clause-starts g c =
    each_end _ _ _ c.loop.invariant.starts (did_turn [] None _ _ c.in_err-child.ensures.err (c.start_child.ensures.row ∙ c.loop.invariant.starts.did.row))

pub returns-in_err-child-clause-rest : goal.returns-in_err-child-clause-rest
returns-in_err-child-clause-rest g c =
    stands_more _ _ _ c.loop.invariant.rest
    (turn_stands c.others_leave_the_rest_to_the_listener.ensures c.turns_rest_on_these.ensures [] _ _ c.loop.invariant.listener.number tt c.in_err-child.ensures.err)

pub returns-in_err-child-clause-credits : goal.returns-in_err-child-clause-credits
returns-in_err-child-clause-credits g c = credits_stay c.loop.credits _ _ c.in_err-child.ensures.err.1.stays.credits c.loop.invariant.credits
