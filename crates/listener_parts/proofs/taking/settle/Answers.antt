use Rattle.std.proofs.Common.{[], ◌∷◌, sym, subst, ◌∙◌}
use Rattle.mpm_base.specs.declared.conn.Cause.{Cause}
use Rattle.mpm_base.specs.declared.conn.Cause.TheVariants as cause_of
use Rattle.mpm_base.specs.declared.conn.ConnName.{ConnName}
use Rattle.mpm_base.specs.declared.conn.Kind.TheVariants.{Reading}
use Rattle.mpm_base.specs.declared.conn.Tail.TheVariants.{Direct}
use Rattle.conn_machine.specs.declared.event.Event.TheVariants as event
use Rattle.conn_state.specs.Conn.{SeenConn}
use Rattle.worker_group.specs.declared.service.Exit.TheVariants as exit
use Rattle.worker_group.specs.InHand.{IsClosable}
use Rattle.worker_group.specs.Service.{given_up_cause}
use Rattle.board_turns.specs.Books.{state_of}
use Rattle.board_turns.specs.Turns.{HadATurn}
use Rattle.listener_parts.proofs.AloneLemmas.{left_alone, turn_alone}
use Rattle.listener_parts.proofs.HeldLemmas.{hand_stays}
use Rattle.listener_parts.proofs.LettingLemmas.{refused_closed}
use Rattle.listener_parts.proofs.NewLemmas.{closes_new, gives_up_new, halted_by, hand_new, holds_new, taken_of, waits_new}
use Rattle.listener_parts.proofs.taking.settle.Goals as goal

-- ## Its watch failed

pub close-requires-clause-hand : goal.close-requires-clause-hand
close-requires-clause-hand g c = c.requires.listener.turnless.hand

pub close-requires-clause-holds : goal.close-requires-clause-holds
close-requires-clause-holds g c =
    let j = taken_of g.N.Known.known _ c.args.taken.name c.args.taken.child c.args.taken.generation c.args.conn c.requires.taken c.requires.is_new c.requires.serves in
    holds_new g.N.Known.known c.args.pass.now.seat.me _ _ _ _ c.args.conn c.requires.listener j

pub close-requires-clause-may : goal.close-requires-clause-may
close-requires-clause-may g c =
    let j = taken_of g.N.Known.known _ c.args.taken.name c.args.taken.child c.args.taken.generation c.args.conn c.requires.taken c.requires.is_new c.requires.serves in
    closes_new c.waits_are_backed_by_calls.ensures g.N.Known.known _ _ _ _ _ c.args.conn j (c.requires.failed c.if-not-watched.true)

pub returns-then-not-watched-clause-left : goal.returns-then-not-watched-clause-left
returns-then-not-watched-clause-left g c =
    rw c.if-not-watched.true
    (subst (λ (n : ConnName). HadATurn (event.Close n cause_of.LinkFailed Direct ∷ []) c.args.pass.now.seat.me.0 c.close.new.pass.seat.me.0) c.requires.is_new.name_is
    c.close.ensures.turn)

pub returns-then-not-watched-clause-credits : goal.returns-then-not-watched-clause-credits
returns-then-not-watched-clause-credits g c = c.close.ensures.turn.1.stays.credits

pub returns-then-not-watched-clause-rest : goal.returns-then-not-watched-clause-rest
returns-then-not-watched-clause-rest g c =
    turn_alone c.others_leave_the_rest_to_the_listener.ensures c.turns_rest_on_these.ensures _ _ _ c.requires.listener.number
    (left_alone (exit.Close cause_of.LinkFailed Direct) c.args.conn.name) c.close.ensures.turn

-- ## It waits

pub park-requires-clause-hand : goal.park-requires-clause-hand
park-requires-clause-hand g c = c.requires.listener.turnless.hand

pub park-requires-clause-holds : goal.park-requires-clause-holds
park-requires-clause-holds g c =
    let j = taken_of g.N.Known.known _ c.args.taken.name c.args.taken.child c.args.taken.generation c.args.conn c.requires.taken c.requires.is_new c.requires.serves in
    holds_new g.N.Known.known c.args.pass.now.seat.me _ _ _ _ c.args.conn c.requires.listener j

pub park-requires-clause-may : goal.park-requires-clause-may
park-requires-clause-may g c =
    let j = taken_of g.N.Known.known _ c.args.taken.name c.args.taken.child c.args.taken.generation c.args.conn c.requires.taken c.requires.is_new c.requires.serves in
    waits_new c.waits_are_backed_by_calls.ensures g.N.Known.known _ _ _ _ _ c.args.conn j c.show.ensures.conn

pub returns-in-Ok-clause-left : goal.returns-in-Ok-clause-left
returns-in-Ok-clause-left g c =
    rw c.if-not-watched.false
    (subst (λ (n : ConnName). HadATurn (event.Park n Reading ∷ []) c.args.pass.now.seat.me.0 c.park.new.pass.seat.me.0) c.requires.is_new.name_is c.in-Ok.ensures.turn)

pub returns-in-Ok-clause-credits : goal.returns-in-Ok-clause-credits
returns-in-Ok-clause-credits g c = c.in-Ok.ensures.turn.1.stays.credits

pub returns-in-Ok-clause-rest : goal.returns-in-Ok-clause-rest
returns-in-Ok-clause-rest g c =
    turn_alone c.others_leave_the_rest_to_the_listener.ensures c.turns_rest_on_these.ensures _ _ _ c.requires.listener.number
    (left_alone (exit.Park Reading) c.args.conn.name) c.in-Ok.ensures.turn

-- ## Its wait was refused

pub close-requires-in-Err-clause-hand : goal.close-requires-in-Err-clause-hand
close-requires-in-Err-clause-hand g c = c.park.ensures.listener.turnless.hand

pub close-requires-in-Err-clause-holds : goal.close-requires-in-Err-clause-holds
close-requires-in-Err-clause-holds g c = c.in-Err.ensures.held

pub close-requires-in-Err-clause-may : goal.close-requires-in-Err-clause-may
close-requires-in-Err-clause-may g c =
    let s = state_of c.args.pass.now.seat.me.0 in
    let t = state_of c.park.new.pass.seat.me.0 in
    let j = taken_of g.N.Known.known _ c.args.taken.name c.args.taken.child c.args.taken.generation c.args.conn c.requires.taken c.requires.is_new c.requires.serves in
    let hand = hand_stays s t c.args.conn c.in-Err.ensures.stays (hand_new c.waits_are_backed_by_calls.ensures g.N.Known.known _ _ _ _ _ c.args.conn j) in
    let may = gives_up_new t c.in-Err.fault c.args.conn hand (halted_by c.in-Err.fault c.park.new.pass.seat.me.0 c.in-Err.ensures.why) in
    subst (λ (x : SeenConn). IsClosable t c.given_up_cause.result Direct x) (sym c.in-Err.ensures.back)
    (subst (λ (why : Cause). IsClosable t why Direct c.args.conn) (sym c.given_up_cause.ensures) may)

pub returns-in-Err-clause-refused : goal.returns-in-Err-clause-refused
returns-in-Err-clause-refused g c = record {
  between = c.park.new.pass.seat.me.0;
  tried = c.in-Err.ensures.err;
  why = c.in-Err.ensures.why;
  made = subst (λ (n : ConnName). HadATurn (event.Close n (given_up_cause c.in-Err.fault) Direct ∷ []) c.park.new.pass.seat.me.0 c.close-in-Err.new.pass.seat.me.0) c.requires.is_new.name_is
      (subst (λ (why : Cause). HadATurn (event.Close c.args.conn.name why Direct ∷ []) c.park.new.pass.seat.me.0 c.close-in-Err.new.pass.seat.me.0) c.given_up_cause.ensures
      (subst (λ (x : SeenConn). HadATurn (event.Close x.name c.given_up_cause.result Direct ∷ []) c.park.new.pass.seat.me.0 c.close-in-Err.new.pass.seat.me.0)
      c.in-Err.ensures.back c.close-in-Err.ensures.turn));
}

pub returns-in-Err-clause-waited : goal.returns-in-Err-clause-waited
returns-in-Err-clause-waited g c = c.if-not-watched.false

pub returns-in-Err-clause-credits : goal.returns-in-Err-clause-credits
returns-in-Err-clause-credits g c = c.close-in-Err.ensures.turn.1.stays.credits ∙ c.in-Err.ensures.err.1.stays.credits

pub returns-in-Err-clause-rest : goal.returns-in-Err-clause-rest
returns-in-Err-clause-rest g c =
    refused_closed c.others_leave_the_rest_to_the_listener.ensures c.turns_rest_on_these.ensures _ _ _ _ _ _ c.requires.listener.number c.in-Err.ensures.err c.close-in-Err.ensures.turn
