use Rattle.std.proofs.Common.{◌≡◌, ℕ, ◌+◌, ◌≤◌, true, List, length}
use Rattle.conn_state.specs.CallsInside.{ReadsSoFar}
use Rattle.conn_state.specs.Rest.{is_in_head}
use Rattle.conn_state.specs.Reader.{StandsFor, IsAnswerable, AsksInNeed}
use Rattle.conn_state.specs.ReaderInside.{HasCome}
use Rattle.conn_state.proofs.ReaderLemmas.{behind_head}
use Rattle.conn_state.proofs.reader.RequestReader.read_turn.Given as goal

-- bytes came so far, at least one in each turn of the loop but for the one that accepted the head, and none where an item was there
abbrev pub invariant-loop : goal.invariant-loop
invariant-loop g l = record {
  come : HasCome (g.L.Link.seen l.fn.link) (g.L.Link.seen l.link) l.fn.self l.self;
  each : l.counter ≤ length come.got + behind_head l.self.stage;
  few : length come.got ≤ 1102733751094;
  asks : (rest : List ℕ) → StandsFor l.fn.self rest → AsksInNeed l.fn.self rest come.got;
  calls : ReadsSoFar (g.L.Link.calls l.fn.link) (g.L.Link.calls l.link) (length l.fn.self.unread) (length l.fn.self.unread + length come.got);
  head : is_in_head l.self.stage ≡ true → is_in_head l.fn.self.stage ≡ true;
  still : (rest : List ℕ) → StandsFor l.fn.self rest → IsAnswerable l.fn.self rest → g.L.Link.seen l.link ≡ g.L.Link.seen l.fn.link;
}
