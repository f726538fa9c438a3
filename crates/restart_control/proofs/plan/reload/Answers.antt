use Rattle.std.proofs.Common.{sym, subst}
use Rattle.mpm_config.specs.Config.{Configuration}
use Rattle.restart_control.specs.Reload.{HasCause}
use Rattle.restart_control.specs.ReloadInside.{fault_for}
use Rattle.restart_control.specs.declared.reload_fault.ReloadFault.{ReloadFault}
use Rattle.restart_control.proofs.ReloadLemmas.{no_plan}
use Rattle.restart_control.proofs.plan.reload.Goals as goal

pub returns-in-Err-load_behind-clause-answer : goal.returns-in-Err-load_behind-clause-answer
returns-in-Err-load_behind-clause-answer g c =
    let seen = g.D.Store.seen in
    subst (λ (fault : ReloadFault). HasCause (seen c.load_behind.new.store).told c.args.name.now c.args.old.now (seen c.args.store.now).counts (seen c.load_behind.new.store).counts fault)
    (sym c.fault_for.ensures)
    (subst (λ (config : Configuration). HasCause (seen c.load_behind.new.store).told c.args.name.now c.args.old.now (seen c.args.store.now).counts
    (seen c.load_behind.new.store).counts (fault_for c.in-Err-load_behind.fault config.root)) (sym c.config.view_is)
    (no_plan c.args.name.now c.args.old.now c.carry_limits.new.new (record { config = c.in-Ok.config; warnings = c.in-Ok.field-0-1 }) (seen c.args.store.now) (seen c.renew.new.self) (seen c.read_named.new.store) (seen c.load_behind.new.store)
    c.in-Err-load_behind.fault c.renew.ensures c.in-Ok.ensures.store c.in-Ok.ensures.read c.carry_limits.ensures c.in-Err-load_behind.ensures.leaves c.in-Err-load_behind.ensures.site))
