use Rattle.std.proofs.Common.{inr, refl, sym, subst, ◌∙◌}
use Rattle.mpm_base.specs.declared.conn.Kind.TheVariants.{KeepAlive, Reading}
use Rattle.conn_state.specs.declared.turn.ReadTurn.{ReadTurn}
use Rattle.conn_state.specs.Turns.{ReadsOn}
use Rattle.board_tests.proofs.DrivenLemmas.{backs_read}
use Rattle.board_tests.proofs.hand.read.Goals as goal

pub returns-in-More-clause-leaves : goal.returns-in-More-clause-leaves
returns-in-More-clause-leaves c =
    let reads = subst (λ (a : ReadTurn). ReadsOn c.args.conn.now c.read_turn-found.new.self a) c.in-More.is c.read_turn-found.ensures.reads in (
      record {
        waits = record { turn = reads.turn; none_kept = sym c.rest_empty.ensures.kept ∙ c.if-rest_empty.true };
        way = reads.linger ∙ c.requires.open;
        is_conn = c.show.ensures.conn;
      },
      tt,
      backs_read c.waits_are_backed_by_calls.ensures c.args.board.now.book.state c.args.conn.now c.read_turn-found.new.self KeepAlive refl
          c.requires.fits reads,
    )

pub returns-in-More-2-clause-leaves : goal.returns-in-More-2-clause-leaves
returns-in-More-2-clause-leaves c =
    let reads = subst (λ (a : ReadTurn). ReadsOn c.args.conn.now c.read_turn-found.new.self a) c.in-More-2.is c.read_turn-found.ensures.reads in (
      record { waits = inr reads.turn; way = reads.linger ∙ c.requires.open; is_conn = c.show.ensures.conn },
      tt,
      backs_read c.waits_are_backed_by_calls.ensures c.args.board.now.book.state c.args.conn.now c.read_turn-found.new.self Reading refl
          c.requires.fits reads,
    )
