use Rattle.std.proofs.Common.{◌≡◌, true, ap, refl, subst, ◌∙◌}
use Rattle.mpm_base.specs.declared.conn.Kind.TheVariants.{Linger, ShortLinger}
use Rattle.conn_state.specs.declared.turn.LingerTurn.{LingerTurn}
use Rattle.conn_state.specs.Conn.{lingers}
use Rattle.conn_state.specs.Turns.{LingersOn, after_linger}
use Rattle.board_tests.proofs.DrivenLemmas.{backs_drop}
use Rattle.board_tests.proofs.hand.linger_turn.Goals as goal

pub returns-in-NotReady-clause-leaves : goal.returns-in-NotReady-clause-leaves
returns-in-NotReady-clause-leaves c =
    let drops = c.linger_turn-left.ensures in
    let shows = c.lingering_connections_keep_their_cause.ensures.linger_turn _ _ _ _ drops c.requires.way.shows in (
      record {
        waits = shows.usable;
        way = record {
          half_closed = ap lingers drops.linger ∙ ap (λ (a : LingerTurn). lingers (after_linger a)) c.in-NotReady.is;
          shows = shows;
        };
        is_conn = c.show.ensures.conn;
      },
      drops.linger ∙ ap after_linger c.in-NotReady.is,
      backs_drop c.waits_are_backed_by_calls.ensures c.args.board.now.book.state c.args.conn.now c.linger_turn-left.new.self Linger refl
          c.requires.fits (subst (λ (a : LingerTurn). LingersOn c.args.conn.now c.linger_turn-left.new.self a) c.in-NotReady.is drops),
    )

pub returns-in-NotReady-2-clause-leaves : goal.returns-in-NotReady-2-clause-leaves
returns-in-NotReady-2-clause-leaves c =
    let drops = c.linger_turn-left.ensures in
    let shows = c.lingering_connections_keep_their_cause.ensures.linger_turn _ _ _ _ drops c.requires.way.shows in (
      record {
        waits = shows.usable;
        way = record {
          half_closed = ap lingers drops.linger ∙ ap (λ (a : LingerTurn). lingers (after_linger a)) c.in-NotReady-2.is;
          shows = shows;
        };
        is_conn = c.show.ensures.conn;
      },
      drops.linger ∙ ap after_linger c.in-NotReady-2.is,
      backs_drop c.waits_are_backed_by_calls.ensures c.args.board.now.book.state c.args.conn.now c.linger_turn-left.new.self ShortLinger refl
          c.requires.fits (subst (λ (a : LingerTurn). LingersOn c.args.conn.now c.linger_turn-left.new.self a) c.in-NotReady-2.is drops),
    )
