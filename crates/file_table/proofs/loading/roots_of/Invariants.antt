-- The roots so far and those of the hosts that are left are the roots of all.
use Rattle.std.proofs.Common.{◌≡◌, drop, map, IsUtf8}
use Rattle.std.specs.List.{All}
use Rattle.file_table.specs.Site.{roots_of, with_roots}
use Rattle.file_table.proofs.loading.roots_of.Given as goal

abbrev pub invariant-loop-host : goal.invariant-loop-host
invariant-loop-host l =
    (with_roots (map (λ root. root.now) l.roots.items) (drop l.host-index l.hosts) ≡ roots_of l.hosts) × All (λ root. IsUtf8 root.now) l.roots.items
