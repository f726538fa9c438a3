use Rattle.std.proofs.Common.{[], ◌∷◌, inl, inr, refl, subst}
use Rattle.mpm_base.specs.declared.conn.Cause.TheVariants as cause_of
use Rattle.mpm_base.specs.declared.conn.ConnName.{ConnName}
use Rattle.mpm_base.specs.declared.conn.Tail.TheVariants.{Direct}
use Rattle.conn_machine.specs.declared.event.Event.TheVariants as event
use Rattle.conn_state.specs.Turns.{ShutsOn}
use Rattle.worker_group.specs.declared.service.Exit.TheVariants as exit
use Rattle.worker_group.proofs.LingerLemmas.{shut-failed, shut-lingers}
use Rattle.board_turns.specs.Books.{state_of}
use Rattle.board_turns.specs.Turns.{HadATurn}
use Rattle.listener_parts.proofs.HeldLemmas.{holds_shut}
use Rattle.listener_parts.proofs.letting.linger_for.Goals as goal

pub shut-requires-clause-usable : goal.shut-requires-clause-usable
shut-requires-clause-usable g c = c.requires.shows.usable

pub linger-requires-clause-holds : goal.linger-requires-clause-holds
linger-requires-clause-holds g c = holds_shut g.N.Known.known _ c.args.conn c.shut.new.self _ c.shut.ensures c.requires.holds

pub linger-requires-clause-may : goal.linger-requires-clause-may
linger-requires-clause-may g c =
    shut-lingers (state_of c.args.pass.now.seat.me.0) c.args.cause c.args.conn c.shut.new.self c.requires.in_hand c.requires.allowed c.requires.shows
    (subst (ShutsOn c.args.conn c.shut.new.self) c.if-shut.true c.shut.ensures)

pub close-requires-clause-holds : goal.close-requires-clause-holds
close-requires-clause-holds g c = holds_shut g.N.Known.known _ c.args.conn c.shut.new.self _ c.shut.ensures c.requires.holds

pub close-requires-clause-may : goal.close-requires-clause-may
close-requires-clause-may g c =
    shut-failed (state_of c.args.pass.now.seat.me.0) c.args.conn c.shut.new.self c.requires.in_hand
    (subst (ShutsOn c.args.conn c.shut.new.self) c.if-shut.false c.shut.ensures)

pub returns-then-shut-clause-left : goal.returns-then-shut-clause-left
returns-then-shut-clause-left g c = (
  exit.Linger c.args.cause,
  inl refl,
  subst (λ (n : ConnName). HadATurn (event.Linger n c.args.cause ∷ []) c.args.pass.now.seat.me.0 c.linger.new.pass.seat.me.0) c.shut.ensures.name c.linger.ensures.turn,
)

pub returns-else-shut-clause-left : goal.returns-else-shut-clause-left
returns-else-shut-clause-left g c = (
  exit.Close cause_of.LinkFailed Direct,
  inr refl,
  subst (λ (n : ConnName). HadATurn (event.Close n cause_of.LinkFailed Direct ∷ []) c.args.pass.now.seat.me.0 c.close.new.pass.seat.me.0) c.shut.ensures.name
      c.close.ensures.turn,
)
