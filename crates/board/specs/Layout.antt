-- How a board keeps its connections.
use Rattle.std.specs.Prelude.{List, map, Option, None, Some}
use Rattle.conn_slots.specs.Slots.{Slot}
use Rattle.conn_state.specs.Conn.{SeenConn}

-- the connection of an item: a slot that is taken has none while its connection is in hand
abbrev pub conn_of_item : Option (Option SeenConn) → Option SeenConn
conn_of_item None = None
conn_of_item (Some conn) = conn

-- the connection that a slot has
abbrev pub conn_in : Slot (Option SeenConn) → Option SeenConn
conn_in s = conn_of_item s.item

-- the connections that slots have
abbrev pub conns_in : List (Slot (Option SeenConn)) → List (Option SeenConn)
conns_in slots = map conn_in slots
