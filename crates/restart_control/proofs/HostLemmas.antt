-- What is wanted of the hosts of a configuration can be loaded.
use Rattle.std.proofs.Common.{◌≡◌, length, map, IsUtf8, arith}
use Rattle.std.proofs.lemmas.List.{length-map}
use Rattle.std.proofs.lemmas.List.Elements.{All-map, All-weaker}
use Rattle.file_table.specs.Site.{IsLoadable}
use Rattle.file_table.specs.declared.site_order.HostOrder.{HostOrder}
use Rattle.mpm_config.specs.Config.{AreHostConfs, Configuration}
use Rattle.mpm_config.specs.declared.host_conf.HostConf.{HostConf}
use Rattle.restart_control.specs.Reload.{host_order, order_of}

pub loadable : (c : Configuration) → AreHostConfs c.hosts → IsLoadable (order_of c)
loadable c are =
    let many : length (map host_order c.hosts) ≡ length c.hosts = length-map c.hosts host_order in
    record {
      some = omega (arith, many, are.some);
      most = omega (arith, many, are.most);
      roots = All-map (λ (host : HostOrder). IsUtf8 host.root) host_order c.hosts
          (All-weaker (λ (h : HostConf). IsUtf8 h.root × IsUtf8 h.index) (λ (h : HostConf). IsUtf8 h.root) (λ h text. text.0) c.hosts are.texts);
    }
