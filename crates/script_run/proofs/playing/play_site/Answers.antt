use Rattle.std.proofs.Common.{Result, Err, subst}
use Rattle.mpm_base.specs.Store.{StoreTold}
use Rattle.file_table.specs.declared.load_fault.LoadFault.{LoadFault}
use Rattle.file_table.specs.Load.{MayLoad}
use Rattle.file_table.specs.Site.{SeenSite}
use Rattle.restart_control.specs.Reload.{order_of}
use Rattle.script_run.proofs.ScriptLemmas.{refuses-site}
use Rattle.script_run.proofs.playing.play_site.Goals as goal

pub returns-in-Err-clause-site_refused : goal.returns-in-Err-clause-site_refused
returns-in-Err-clause-site_refused g c nine =
    let answer : Result SeenSite LoadFault = Err c.in-Err.fault in
    refuses-site _ _ c.args.script c.args.config c.refuse_unloaded.result.shown c.in-Err.fault
    (subst (λ (t : StoreTold). MayLoad (order_of c.args.config) t.files answer) c.requires.store c.in-Err.ensures.site)
    (c.refuse_unloaded.ensures.refused nine)
