use Rattle.std.proofs.Common.{map, take}
use Rattle.file_table.specs.LoadInside.{HasReadFiles, StoreStays}
use Rattle.file_table.proofs.reading.read_files.Given as goal

abbrev pub invariant-loop-name : goal.invariant-loop-name
invariant-loop-name g l = record {
  store : StoreStays (g.D.Store.seen l.initial.store) (g.D.Store.seen l.store);
  read : HasReadFiles l.root (g.D.Store.seen l.initial.store).told (take l.name-index (map (λ name. name.now) l.names)) l.before l.files.items l.sum;
}
