use Rattle.std.proofs.Common.{[], ◌∷◌, sym, subst}
use Rattle.mpm_base.specs.declared.conn.Tail.{Tail}
use Rattle.conn_machine.specs.declared.event.Event.TheVariants as event
use Rattle.conn_state.specs.Conn.{SeenConn}
use Rattle.board_turns.specs.Books.{state_of}
use Rattle.board_turns.specs.Turns.{HadATurn}
use Rattle.worker_group.specs.InHand.{IsClosable}
use Rattle.listener_parts.proofs.HeldLemmas.{gives_up_lingering, lingering_stays}
use Rattle.listener_parts.proofs.LingeringLemmas.{may_linger_on}
use Rattle.listener_parts.proofs.NewLemmas.{halted_by}
use Rattle.listener_parts.proofs.draining.linger_on.Goals as goal

pub park-requires-clause-may : goal.park-requires-clause-may
park-requires-clause-may g c =
    may_linger_on (state_of c.args.pass.now.seat.me.0) c.args.kind c.args.cause c.args.conn c.requires.lingers c.requires.kind c.requires.waits c.show.ensures.conn
    c.requires.backed c.requires.allowed

pub close-requires-clause-hand : goal.close-requires-clause-hand
close-requires-clause-hand g c = c.park.ensures.listener.turnless.hand

pub close-requires-clause-holds : goal.close-requires-clause-holds
close-requires-clause-holds g c = c.in-Err.ensures.held

pub close-requires-clause-may : goal.close-requires-clause-may
close-requires-clause-may g c =
    let s = state_of c.args.pass.now.seat.me.0 in
    let t = state_of c.park.new.pass.seat.me.0 in
    let lingers = lingering_stays s t c.args.cause c.args.conn c.in-Err.ensures.stays c.requires.lingers in
    let may = gives_up_lingering t c.args.cause c.in-Err.fault c.args.conn lingers (halted_by c.in-Err.fault c.park.new.pass.seat.me.0 c.in-Err.ensures.why) in
    subst (λ (x : SeenConn). IsClosable t c.args.cause c.given_up_tail.result x) (sym c.in-Err.ensures.back)
    (subst (λ (how : Tail). IsClosable t c.args.cause how c.args.conn) (sym c.given_up_tail.ensures) may)

pub returns-in-Err-clause-refused : goal.returns-in-Err-clause-refused
returns-in-Err-clause-refused g c = record {
  between = c.park.new.pass.seat.me.0;
  tried = c.in-Err.ensures.err;
  why = c.in-Err.ensures.why;
  made = subst (λ (how : Tail). HadATurn (event.Close c.args.conn.name c.args.cause how ∷ []) c.park.new.pass.seat.me.0 c.close.new.pass.seat.me.0)
      c.given_up_tail.ensures
      (subst (λ (x : SeenConn). HadATurn (event.Close x.name c.args.cause c.given_up_tail.result ∷ []) c.park.new.pass.seat.me.0 c.close.new.pass.seat.me.0)
      c.in-Err.ensures.back c.close.ensures.turn);
}
