-- A connection that the listener has just taken.
use Rattle.std.specs.Prelude.{◌≡◌, ℕ, [], None}
use Rattle.mpm_base.specs.declared.conn.ConnName.{ConnName}
use Rattle.conn_state.specs.declared.turn.LastLinger.TheVariants as linger
use Rattle.conn_state.specs.declared.turn.LastTurn.TheVariants as turn
use Rattle.conn_state.specs.Conn.{SeenConn}

-- the connection is a new one of that name, child and generation, whose link tells nothing: nothing was read, answered or written yet
pub record IsNew (name : ConnName) (child generation : ℕ) (c : SeenConn) : Type 0 where
  pub name_is : c.name ≡ name
  pub child_is : c.child ≡ child
  pub generation_is : c.generation ≡ generation
  pub told : c.told ≡ None
  pub notes : c.notes ≡ []
  pub turn : c.turn ≡ turn.New
  pub linger : c.linger ≡ linger.Open
