-- What a worker does with one connection: which events it adds, turn by turn, and how it leaves the connection.
use Rattle.std.specs.Prelude.{◌≡◌, ◌⊎◌, List, ◌∷◌, ◌++◌}
use Rattle.mpm_base.specs.declared.conn.Ask.{Ask}
use Rattle.mpm_base.specs.declared.conn.Kind.{Kind}
use Rattle.conn_machine.specs.declared.event.Event.TheVariants as event
use Rattle.conn_state.specs.Conn.{SeenConn}
use Rattle.table_rule.specs.declared.view.View.{View}
use Rattle.board_book.specs.declared.faults.BoardFault.{BoardFault}
use Rattle.worker_group.specs.declared.service.Exit.{Exit}
use Rattle.worker_group.specs.declared.service.Exit.TheVariants as exit
use Rattle.worker_group.specs.Service.{ExitsAfter, IsMadeSince, answer_events, left_events}
use Rattle.board_turns.specs.Turns.{HadTurns}

-- the connection was left so that was to be left in that way; one whose wait was refused was given up
abbrev pub WasLeft : Exit → Exit → Type 0
WasLeft way out =
    (out ≡ way)
    ⊎ ((kind : Kind) × (fault : BoardFault) × (way ≡ exit.Park kind) × (out ≡ exit.GiveUp fault))

-- in some turns responses were decided for what the connection was asked; it is the one that it was, and since then its last turn was
-- made
pub record Conversed (asks : List Ask) (old new : View) (c c' : SeenConn) : Type 0 where
  pub name : c'.name ≡ c.name
  pub child : c'.child ≡ c.child
  pub turns : HadTurns (answer_events c.name asks) old new
  pub turned : IsMadeSince c'.turn c.counts c'.counts

-- the pass began to serve the connection, decided the responses to what it was asked, and left it so, in this order and by turns that
-- made nothing else: as its last turn says, which was made since it was taken up
pub record HasServed (out : Exit) (c : SeenConn) (old new : View) : Type 0 where
  pub asks : List Ask
  pub served : SeenConn
  pub named : served.name ≡ c.name
  pub turned : IsMadeSince served.turn c.counts served.counts
  pub way : Exit
  pub exits : ExitsAfter served.turn served way
  pub left : WasLeft way out
  pub turns : HadTurns
      (event.Start c.name ∷ answer_events c.name asks ++ left_events out c.name) old new
