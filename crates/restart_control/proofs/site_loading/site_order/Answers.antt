-- The hosts of a configuration can be loaded.
use Rattle.std.proofs.Common.{subst, sym}
use Rattle.std.proofs.lemmas.Result.{IfOk-weaker}
use Rattle.file_table.specs.Site.{IsLoadable}
use Rattle.restart_control.proofs.HostLemmas.{loadable}
use Rattle.restart_control.proofs.site_loading.site_order.Goals as goal

pub returns-clause-loadable : goal.returns-clause-loadable
returns-clause-loadable c =
    IfOk-weaker c.order_of.result _ _ (λ order is. subst IsLoadable (sym is) (loadable c.args.config.now c.show.ensures.hosts_are)) c.order_of.ensures
