use Rattle.std.proofs.Common.{◌≡◌, [], true, is_ok, map, refl, sym, ◌∙◌, arith}
use Rattle.std.proofs.lemmas.List.{get_or-map, length-map}
use Rattle.file_table.proofs.LoadLemmas.{nothing_read, one_more_read, none_read}
use Rattle.file_table.proofs.reading.read_files.Goals as goal

pub loop-name-init : goal.loop-name-init
loop-name-init g c = record {
  store = record { told = refl; faults = omega arith; refusals = omega arith };
  read = rw c.new-files.ensures.items (nothing_read c.args.root.now (g.D.Store.seen c.args.store.now).told c.args.before c.requires.bounded);
}

pub loop-name-preserved : goal.loop-name-preserved
loop-name-preserved g c =
    let ok : is_ok c.push.result ≡ true = c.if-is_err.ensures.negation in
    record {
      store = record {
        told = c.in-Ok.ensures.store.told ∙ c.loop-name.invariant.store.told;
        faults = omega (arith, c.in-Ok.ensures.store.faults, c.loop-name.invariant.store.faults);
        refusals = omega (arith, c.in-Ok.ensures.store.refusals, c.loop-name.invariant.store.refusals);
      };
      read =
          rw (c.push.ensures.items, ok, c.bytes.ensures)
          (one_more_read c.args.root.now (map (λ name. name.now) c.args.names.now) c.args.before c.loop-name.name-index _ (rw length-map c.loop-name-test.true)
          (sym (get_or-map (λ name. name.now) c.args.names.now c.loop-name.name-index _ [] c.loop-name-test.true))
          (g.D.Store.seen c.args.store.now).told (g.D.Store.seen c.loop-name.store).told c.loop-name.files.items c.loop-name.sum c.in-Ok.file c.loop-name.invariant.store.told c.loop-name.invariant.read
          c.in-Ok.ensures.file.0 c.in-Ok.ensures.file.1 c.in-Ok.ensures.known);
    }

pub returns-in-Err-clause-known : goal.returns-in-Err-clause-known
returns-in-Err-clause-known g c =
    none_read c.args.root.now (map (λ name. name.now) c.args.names.now) c.args.before c.loop-name.name-index _ (rw length-map c.loop-name-test.true)
    (sym (get_or-map (λ name. name.now) c.args.names.now c.loop-name.name-index _ [] c.loop-name-test.true))
    (g.D.Store.seen c.args.store.now).told (g.D.Store.seen c.loop-name.store).told c.loop-name.files.items c.loop-name.sum c.in-Err.fault c.loop-name.invariant.store.told c.loop-name.invariant.read
    (c.requires.under c.loop-name.name-index _ c.loop-name-test.true) c.in-Err.ensures.known
