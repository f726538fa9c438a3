-- How a worker may leave the connection that it serves.
use Rattle.std.specs.Prelude.{◌<◌, length, ⊤}
use Rattle.mpm_base.specs.declared.conn.Kind.{Kind}
use Rattle.mpm_base.specs.declared.conn.Kind.TheVariants.{Reading, KeepAlive, Writing, Linger, ShortLinger}
use Rattle.conn_state.specs.Conn.{SeenConn}
use Rattle.board.specs.Backed.{BacksWait}
use Rattle.board_book.specs.Book.{SeenBook}
use Rattle.board_book.specs.Faults.{IsRefusedFor}
use Rattle.board.specs.Fits.{WaitsAs}
use Rattle.worker_group.specs.declared.service.Exit.{Exit}
use Rattle.worker_group.specs.declared.service.Exit.TheVariants as exit
use Rattle.worker_group.specs.InHand.{IsClosable}
use Rattle.worker_group.specs.InHandInside.{IsLingerable, IsServed}

-- a connection that is served may wait for this: it doesn't linger, and one that is kept alive has a response
abbrev pub MayWaitFor : Kind → SeenConn → Type 0
MayWaitFor Reading c = ⊤
MayWaitFor KeepAlive c = 0 < length c.notes
MayWaitFor Writing c = ⊤
MayWaitFor Linger c = ⊥
MayWaitFor ShortLinger c = ⊥

-- the worker may leave the connection so
abbrev pub MayLeave : SeenBook → SeenConn → Exit → Type 0
MayLeave b c (exit.Park kind) = IsServed b.state c × WaitsAs kind c × MayWaitFor kind c × BacksWait kind b.state c
MayLeave b c (exit.Linger why) = IsLingerable b.state why c
MayLeave b c (exit.Close why how) = IsClosable b.state why how c
MayLeave b c (exit.GiveUp fault) = IsServed b.state c × IsRefusedFor fault b
