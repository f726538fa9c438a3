use Rattle.std.proofs.Common.{map, take}
use Rattle.file_table.specs.LoadInside.{IsReadingRoots, StoreStays}
use Rattle.file_table.proofs.loading.read_roots.Given as goal

abbrev pub invariant-loop-root : goal.invariant-loop-root
invariant-loop-root g l = record {
  store : StoreStays (g.D.Store.seen l.initial.store) (g.D.Store.seen l.store);
  read : IsReadingRoots (g.D.Store.seen l.initial.store).told (take l.root-index (map (λ root. root.now) l.roots)) l.files.items l.parts.items l.sum;
}
