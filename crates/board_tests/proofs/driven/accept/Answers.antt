use Rattle.std.proofs.Common.{◌≡◌, Option, ap, subst, sym, ◌∙◌}
use Rattle.mpm_base.specs.declared.conn.ConnName.{ConnName}
use Rattle.conn_machine.specs.declared.state.State.{State}
use Rattle.conn_machine.specs.Rows.{live_row}
use Rattle.board.specs.Board.{SeenBoard}
use Rattle.board_tests.proofs.DrivenLemmas.{backed_first, backs_first, no_items, unwaited}
use Rattle.board_tests.proofs.driven.accept.Goals as goal

pub park-requires-clause-fits : goal.park-requires-clause-fits
park-requires-clause-fits c =
    let found = ap (λ (s : State). live_row s.rows c.in-Ok.taken.name) (sym c.state.ensures) ∙ sym c.in_ok-row.ensures.is in
    let none =
    unwaited c.taken_connections_start_afresh.ensures 0 _ c.accept.new.self.book c.in-Ok.taken.name c.in_ok-row.row.now c.show.ensures.state
    c.show-2.ensures.run (ap (λ (b : SeenBoard). b.book) c.in-Ok.ensures.ok.new_is) found in
    let new = c.in_ok-conn.ensures in
    record {
      row = c.in_ok-row.row.now;
      found = ap (λ (n : ConnName). live_row c.accept.new.self.book.state.rows n) new.named ∙ found;
      fits = record {
        child = new.child;
        generation = new.generation;
        notes = new.unanswered ∙ sym (no_items c.in_ok-row.row.now.notes (cc (c.is_empty.ensures)));
        rank = new.rank;
        backed = backed_first c.waits_are_backed_by_calls.ensures c.in_ok-conn.conn c.in_ok-row.row.now none;
      };
    }

pub park-requires-clause-backed : goal.park-requires-clause-backed
park-requires-clause-backed c =
    let found = ap (λ (s : State). live_row s.rows c.in-Ok.taken.name) (sym c.state.ensures) ∙ sym c.in_ok-row.ensures.is in
    let none =
    unwaited c.taken_connections_start_afresh.ensures 0 _ c.accept.new.self.book c.in-Ok.taken.name c.in_ok-row.row.now c.show.ensures.state
    c.show-2.ensures.run (ap (λ (b : SeenBoard). b.book) c.in-Ok.ensures.ok.new_is) found in
    backs_first c.waits_are_backed_by_calls.ensures c.accept.new.self.book.state c.in_ok-conn.conn c.in_ok-row.row.now
    (ap (λ (n : ConnName). live_row c.accept.new.self.book.state.rows n) c.in_ok-conn.ensures.named ∙ found) none
