use Rattle.std.proofs.lemmas.Result.{IfOk-weaker}
use Rattle.file_table.proofs.LoadLemmas.{read_of_listed}
use Rattle.file_table.proofs.reading.read_root.Goals as goal

pub returns-clause-read : goal.returns-clause-read
returns-clause-read g c = IfOk-weaker c.read_listed.result _ _ (λ read h. h c.args.count c.in-Ok.ensures.names.0) c.read_listed.ensures.read

pub returns-clause-known : goal.returns-clause-known
returns-clause-known g c =
    read_of_listed (λ read. read.0.items) c.read_listed.result (g.D.Store.seen c.args.store.now).told (g.D.Store.seen c.list_names.new.store).told c.args.root.now c.args.count c.args.before c.in-Ok.names
    c.in-Ok.ensures.store.told c.in-Ok.ensures.names.0 c.in-Ok.ensures.known c.read_listed.ensures.known
