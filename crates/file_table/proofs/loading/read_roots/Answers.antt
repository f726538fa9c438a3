use Rattle.std.proofs.Common.{[], map, sym, subst, ◌∙◌, arith}
use Rattle.std.proofs.lemmas.List.{get_or-map, length-map, take_all}
use Rattle.file_table.specs.LoadInside.{IsReadingRoots}
use Rattle.file_table.proofs.RootLemmas.{all_read, next_read, not_loaded}
use Rattle.file_table.proofs.loading.read_roots.Goals as goal

pub returns-in-Err-clause-refused : goal.returns-in-Err-clause-refused
returns-in-Err-clause-refused g c =
    not_loaded (map (λ r. r.now) c.args.roots.now) c.loop-root.root-index _ (rw length-map c.loop-root-test.true)
    (sym (get_or-map (λ r. r.now) c.args.roots.now c.loop-root.root-index _ [] c.loop-root-test.true))
    (g.D.Store.seen c.args.store.now).told (g.D.Store.seen c.loop-root.store).told c.loop-root.files.items c.loop-root.parts.items c.loop-root.sum c.in-Err.fault
    c.loop-root.invariant.store.told c.loop-root.invariant.read c.in-Err.ensures.refused

pub loop-root-preserved : goal.loop-root-preserved
loop-root-preserved g c = record {
  store = record {
    told = c.in-Ok.ensures.store.told ∙ c.loop-root.invariant.store.told;
    faults = omega (arith, c.in-Ok.ensures.store.faults, c.loop-root.invariant.store.faults);
    refusals = omega (arith, c.in-Ok.ensures.store.refusals, c.loop-root.invariant.store.refusals);
  };
  read =
      next_read (g.D.Store.seen c.args.store.now).told (g.D.Store.seen c.loop-root.store).told (map (λ r. r.now) c.args.roots.now) c.loop-root.root-index _
      c.loop-root.files.items _ c.loop-root.parts.items _ c.loop-root.sum c.in-Ok.sum (rw length-map c.loop-root-test.true)
      (sym (get_or-map (λ r. r.now) c.args.roots.now c.loop-root.root-index _ [] c.loop-root-test.true))
      c.loop-root.invariant.store.told c.loop-root.invariant.read c.in-Ok.ensures.added;
}

pub returns-clause-read : goal.returns-clause-read
returns-clause-read g c =
    let roots = map (λ r. r.now) c.args.roots.now in
    let whole = take_all c.loop-root.root-index roots (rw length-map (omega (arith, c.loop-root-test.false))) in
    all_read (g.D.Store.seen c.args.store.now).told roots c.loop-root.files.items c.loop-root.parts.items c.loop-root.sum
    (subst (λ l. IsReadingRoots (g.D.Store.seen c.args.store.now).told l c.loop-root.files.items c.loop-root.parts.items c.loop-root.sum) whole c.loop-root.invariant.read)
