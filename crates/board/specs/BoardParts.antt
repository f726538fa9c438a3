-- What is seen of the parts of a board.
use Rattle.board.specs.declared.board.Parts.{Parts}
use Rattle.board.specs.Board.{SeenBoard}
use Rattle.board.specs.Layout.{conns_in}

-- the board that consists of these parts
abbrev pub seen_board : {L : Type 0} → Parts L → SeenBoard
seen_board p = record { book = p.book; conns = conns_in p.conns.slots; ended = p.ended.items }
