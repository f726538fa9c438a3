use Rattle.std.proofs.Common.{◌≡◌, ap, ◌∙◌}
use Rattle.std.proofs.lemmas.Result.{on_ok_weaker}
use Rattle.stand_ins.specs.Files.{with_file}
use Rattle.stand_ins.specs.History.{SeenHistory}
use Rattle.script_front.specs.Editions.{conf_name}
use Rattle.script_front.proofs.DraftLemmas.{conf-set, conf-stays}
use Rattle.script_front.proofs.draft.settle.Goals as goal

pub returns-then-not-changed-clause-ok : goal.returns-then-not-changed-clause-ok
returns-then-not-changed-clause-ok c =
    let h = c.args.history.now in
    ap (λ files. let history : SeenHistory = record h { files = files } in history) (conf-stays h.files c.args.conf.now c.args.changed c.requires c.if-not-changed.true)

pub returns-clause-ok : goal.returns-clause-ok
returns-clause-ok c =
    let h = c.args.history.now in
    on_ok_weaker c.set.result (λ e.
    let at_zero : c.of.result ≡ 0 = c.of.ensures in
    let is : c.set.new.self ≡ record h { files = with_file conf_name (record { bytes = c.args.conf.now; second = 0 }) h.files } =
    e ∙ ap (λ s. let history : SeenHistory = record h { files = with_file conf_name (record { bytes = c.args.conf.now; second = s }) h.files } in history) at_zero in
    is ∙ ap (λ files. let history : SeenHistory = record h { files = files } in history) (conf-set h.files c.args.conf.now c.args.changed c.requires)) c.set.ensures.ok
