use Rattle.std.proofs.Common.{ℕ, List, None, sym, subst}
use Rattle.file_table.specs.declared.load_fault.LoadFault.{LoadFault}
use Rattle.run_opening.specs.RefusalsInside.{RefusesRun}
use Rattle.script_run.specs.ScriptsInside.{RefusesLoad}
use Rattle.run_report.specs.Texts.{site_refused}
use Rattle.script_run.proofs.playing.refuse_unloaded.Goals as goal

pub returns-in-TooMany-clause-refused : goal.returns-in-TooMany-clause-refused
returns-in-TooMany-clause-refused g c nine =
    let old = g.K.Sink.seen c.args.out.now in
    let new = g.K.Sink.seen c.refuse_site.new.out in
    let root = c.as_slice.ensures in
    subst (λ (e : LoadFault). RefusesLoad old new c.args.config.now e c.refuse_site.result.shown) (sym c.in-TooMany.is)
    (subst (λ (name : List ℕ). RefusesRun old new None (site_refused name) c.refuse_site.result.shown) root (c.refuse_site.ensures.refused nine))

pub returns-in-TooLarge-clause-refused : goal.returns-in-TooLarge-clause-refused
returns-in-TooLarge-clause-refused g c nine =
    let old = g.K.Sink.seen c.args.out.now in
    let new = g.K.Sink.seen c.refuse_site-in-TooLarge.new.out in
    subst (λ (e : LoadFault). RefusesLoad old new c.args.config.now e c.refuse_site-in-TooLarge.result.shown) (sym c.in-TooLarge.is)
    (subst (λ (name : List ℕ). RefusesRun old new None (site_refused name) c.refuse_site-in-TooLarge.result.shown) c.as_slice-in-TooLarge.ensures
    (c.refuse_site-in-TooLarge.ensures.refused nine))
