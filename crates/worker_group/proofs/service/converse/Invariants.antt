use Rattle.std.proofs.Common.{◌≡◌, List, Some}
use Rattle.mpm_base.specs.declared.conn.Ask.{Ask}
use Rattle.board.specs.Editions.{IsOfGeneration}
use Rattle.worker_group.specs.Acts.{Acts}
use Rattle.worker_group.specs.InHandInside.{IsServed, sends_left}
use Rattle.worker_group.specs.Service.{NoneFalls, answer_events}
use Rattle.worker_group.proofs.service.converse.Given as goal

-- the connection is served on, by the edition of its generation, responses were decided, and no count of its link fell
abbrev pub invariant-loop-exit : goal.invariant-loop-exit
invariant-loop-exit g l =
    record {
      name : l.conn.name ≡ l.fn.conn.name;
      served : IsServed l.board.book.state l.conn;
      edition : IsOfGeneration g.N.Known.known l.board.book l.conn.generation l.conn.reader.limits l.conn.site;
      acts : (asks : List Ask) × Acts l.fn.who (answer_events l.fn.conn.name asks) (Some l.fn.conn.name) l.fn.board.book l.board.book;
      counts : NoneFalls l.fn.conn.counts l.conn.counts;
    }

-- how many more times something may become pending
abbrev pub decreases-loop-exit : goal.decreases-loop-exit
decreases-loop-exit g l = sends_left l.board.book.state l.conn
