-- Where a text is no line of each word of the site, it is no line of the site.
use Rattle.std.proofs.Common.{ℕ, List, sym, ◌∙◌}
use Rattle.std.proofs.lemmas.Bool.{both_ways}
use Rattle.std.proofs.lemmas.Bool.Decides.{Decides-eqb}
use Rattle.std.proofs.lemmas.Slice.Eq.{slice_eq-Decides}
use Rattle.mpm_script.specs.ScriptLine.{IsSiteLine}
use Rattle.mpm_base.specs.declared.script_line.SiteLine.{SiteLine}
use Rattle.mpm_base.specs.declared.script_line.SiteLine.TheVariants as site
use Rattle.mpm_script.proofs.line_reader.site_line.Goals as goal

no_site : (text : List ℕ)
    → ¬ (IsSiteLine text site.Clear)
    → ((name : List ℕ) → ¬ (IsSiteLine text (site.Unfile name)))
    → ((bytes : List ℕ) → ¬ (IsSiteLine text (site.Conf bytes)))
    → ((name bytes : List ℕ) → ¬ (IsSiteLine text (site.File name bytes)))
    → (site : SiteLine) → ¬ (IsSiteLine text site)
no_site text clear unfile conf file (site.Conf bytes) h = conf bytes h
no_site text clear unfile conf file site.Clear h = clear h
no_site text clear unfile conf file (site.File name bytes) h = file name bytes h
no_site text clear unfile conf file (site.Unfile name) h = unfile name h

pub returns-in-None : goal.returns-in-None
returns-in-None c =
    let tells = slice_eq-Decides Decides-eqb c.args.text.now c.as_slice.result.now c.eq.result c.eq.ensures in
    no_site c.args.text.now (λ h. both_ways c.eq.result c.if-eq.false (tells.1 (h ∙ sym c.as_slice.ensures))) c.in_default.ensures.none
    (rw c.in_default-2.is at c.in_ok-bytes.ensures) (rw c.in-None.is at c.in_ok-name.ensures)
