use Rattle.std.proofs.Common.{Some}
use Rattle.mpm_base.specs.Store.{telling_store}
use Rattle.script_front.specs.ScriptFront.{front_seen}
use Rattle.listener_round.specs.OrdersInside.{known_outside, opening_by}
use Rattle.script_run.proofs.playing.serve_script.Given as goal

-- the type knows what the front tells of its clients, and what the editions of the store are
abbrev pub ghosts-run_server : goal.ghosts-run_server
ghosts-run_server g a = record {
  known = Some (known_outside (opening_by a.config a.edition (telling_store a.store.now.told a.store.now.counts) (front_seen a.front.now)));
}
