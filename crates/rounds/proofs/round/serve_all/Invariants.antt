use Rattle.std.proofs.Common.{◌≡◌, true}
use Rattle.conn_machine.specs.Passes.{asking_count}
use Rattle.conn_machine.specs.Runs.{after}
use Rattle.board_book.specs.AtRest.{NoneDue}
use Rattle.rounds.specs.PartsInside.{ServesSome, StaysTimely}
use Rattle.rounds.specs.TableInside.{NoneDueLate}
use Rattle.conn_machine.specs.States.{is_staffed}
use Rattle.rounds.proofs.round.serve_all.Given as goal

-- the pass that serves did something, nothing where no connection was due, and has no connection
abbrev pub invariant-loop-name : goal.invariant-loop-name
invariant-loop-name g l =
    record {
      serves : ServesSome l.fn.board l.board;
      still : NoneDue l.fn.board.book.state → NoneDue l.board.book.state;
      state : after l.board.book.base l.board.book.history ≡ l.board.book.state;
      timely : StaysTimely l.fn.board.book l.board.book;
      soon : NoneDueLate l.board.book.state;
      staffed : is_staffed l.board.book.state ≡ true;
    }

-- how many slots ask for service
abbrev pub decreases-loop-name : goal.decreases-loop-name
decreases-loop-name g l = asking_count l.board.book.state
