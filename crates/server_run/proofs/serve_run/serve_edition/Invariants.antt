use Rattle.std.proofs.Common.{Some}
use Rattle.listener_round.specs.OrdersInside.{known_outside, opening_by}
use Rattle.server_run.proofs.serve_run.serve_edition.Given as goal

-- the type knows what the front tells of its clients, where it tells, and what the editions of the store are
abbrev pub ghosts-run_server : goal.ghosts-run_server
ghosts-run_server g a = record {
  known = Some (known_outside (opening_by a.config a.edition (g.D.Store.seen a.store.now) (g.F.Front.seen a.front.now)));
}
