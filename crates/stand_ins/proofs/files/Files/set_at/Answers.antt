use Rattle.std.proofs.Common.{◌≡◌, ap, ◌∙◌}
use Rattle.std.proofs.lemmas.Result.{on_ok_weaker}
use Rattle.mpm_base.specs.Store.{content_of}
use Rattle.stand_ins.specs.Files.{with_file}
use Rattle.stand_ins.specs.FilesInside.{SeenEntry}
use Rattle.stand_ins.proofs.LookupLemmas.{content_of_set, content_of_other}
use Rattle.stand_ins.proofs.files.Files.set_at.Goals as goal

pub returns-clause-found : goal.returns-clause-found
returns-clause-found c =
    let files = c.self.inside.shelf.files in
    on_ok_weaker c.set.result (λ e.
    let is : c.set.new.self.files ≡ with_file c.in_ok-entry.entry.name c.in_ok-entry.entry.content files = e in
    ap (content_of c.args.name.now) (is ∙ ap (λ (f : SeenEntry). with_file f.name f.content files) c.in_ok-entry.ensures)
    ∙ content_of_set c.args.name.now (record { bytes = c.args.bytes.now; second = c.args.second }) files) c.set.ensures.ok

pub returns-clause-others : goal.returns-clause-others
returns-clause-others c =
    let files = c.self.inside.shelf.files in
    on_ok_weaker c.set.result (λ e other ne.
    let is : c.set.new.self.files ≡ with_file c.in_ok-entry.entry.name c.in_ok-entry.entry.content files = e in
    rw (← c.self.view_is)
    (ap (content_of other) (is ∙ ap (λ (f : SeenEntry). with_file f.name f.content files) c.in_ok-entry.ensures)
    ∙ content_of_other other c.args.name.now (record { bytes = c.args.bytes.now; second = c.args.second }) files ne)) c.set.ensures.ok
