use Rattle.std.proofs.Common.{map}
use Rattle.file_table.proofs.RootLemmas.{are_hosts}
use Rattle.file_table.proofs.loading.site_of.Goals as goal

pub of-requires-2-clause-hosts : goal.of-requires-2-clause-hosts
of-requires-2-clause-hosts c =
    are_hosts c.args.order.now.hosts (map (λ r. r.now) c.args.roots.now) c.args.parts.now c.in_ok-names.names c.in_ok-hosts.hosts.items c.args.files.items
    c.requires.some c.requires.most c.requires.few c.requires.parts c.in_ok-names.ensures c.in_ok-hosts.ensures
