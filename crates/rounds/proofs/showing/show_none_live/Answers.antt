use Rattle.std.proofs.Common.{ℕ, subst}
use Rattle.conn_machine.specs.Passes.{HasNoneInHand}
use Rattle.conn_machine.specs.Runs.{after}
use Rattle.board_book.specs.Book.{row_in}
use Rattle.rounds.proofs.PassLemmas.{none-left}
use Rattle.rounds.proofs.showing.show_none_live.Goals as goal

pub returns : goal.returns
returns g c none parked =
    let b = c.args.board.now.book in
    none-left b.state
    (subst HasNoneInHand c.show.ensures.state
    (c.each_pass_has_its_own_connection.ensures.nobody (after b.base b.history) (λ (who : ℕ). row_in who b)
    (c.each_pass_has_its_own_connection.ensures.made b.base b.folded b.history c.show.ensures.own c.show.ensures.made) none))
    parked
