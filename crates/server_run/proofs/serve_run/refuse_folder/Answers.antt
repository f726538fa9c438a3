use Rattle.std.proofs.Common.{◌≡◌, ℕ, List, None, ap, sym, subst, ◌∙◌, arith}
use Rattle.mpm_config.specs.Config.{Configuration}
use Rattle.file_table.specs.declared.load_fault.LoadFault.{LoadFault}
use Rattle.run_opening.specs.RefusalsInside.{RefusesRun}
use Rattle.server_run.specs.EndsInside.{RefusesFolder}
use Rattle.run_report.specs.Texts.{site_refused, store_fault}
use Rattle.server_run.proofs.serve_run.refuse_folder.Goals as goal

pub returns-in-StoreFault-clause-refused : goal.returns-in-StoreFault-clause-refused
returns-in-StoreFault-clause-refused g c is =
    let old = g.K.Sink.seen c.args.out.now in
    let new = g.K.Sink.seen c.refuse_unread.new.out in
    let three : c.refuse_unread.result.status ≡ 3 = omega (arith, is, c.refuse_unread.ensures.known) in
    let root = c.as_slice.ensures ∙ ap (λ (x : Configuration). x.root) c.config.view_is in
    subst (λ (e : LoadFault). RefusesFolder old new c.args.config.now e c.refuse_unread.result.status c.refuse_unread.result.shown) (sym c.in-StoreFault.is)
    (three, subst (λ (name : List ℕ). RefusesRun old new None (store_fault name) c.refuse_unread.result.shown) root (c.refuse_unread.ensures.refused three))

pub returns-in-TooMany-clause-refused : goal.returns-in-TooMany-clause-refused
returns-in-TooMany-clause-refused g c is =
    let old = g.K.Sink.seen c.args.out.now in
    let new = g.K.Sink.seen c.refuse_site.new.out in
    let nine : c.refuse_site.result.status ≡ 9 = omega (arith, is, c.refuse_site.ensures.known) in
    let root = c.as_slice-in-TooMany.ensures in
    subst (λ (e : LoadFault). RefusesFolder old new c.args.config.now e c.refuse_site.result.status c.refuse_site.result.shown) (sym c.in-TooMany.is)
    (nine, subst (λ (name : List ℕ). RefusesRun old new None (site_refused name) c.refuse_site.result.shown) root (c.refuse_site.ensures.refused nine))

pub returns-in-TooLarge-clause-refused : goal.returns-in-TooLarge-clause-refused
returns-in-TooLarge-clause-refused g c is =
    let old = g.K.Sink.seen c.args.out.now in
    let new = g.K.Sink.seen c.refuse_site-in-TooLarge.new.out in
    let nine : c.refuse_site-in-TooLarge.result.status ≡ 9 = omega (arith, is, c.refuse_site-in-TooLarge.ensures.known) in
    subst (λ (e : LoadFault). RefusesFolder old new c.args.config.now e c.refuse_site-in-TooLarge.result.status c.refuse_site-in-TooLarge.result.shown) (sym c.in-TooLarge.is) (
      nine,
      subst (λ (name : List ℕ). RefusesRun old new None (site_refused name) c.refuse_site-in-TooLarge.result.shown) c.as_slice-in-TooLarge.ensures
          (c.refuse_site-in-TooLarge.ensures.refused nine),
    )
