use Rattle.std.proofs.Common.{refl, sym, ap, ◌∙◌}
use Rattle.conn_state.specs.Reader.{SeenReader}
use Rattle.conn_state.specs.Rest.{is_whole}
use Rattle.conn_state.proofs.ReaderLemmas.{leave-kept}
use Rattle.conn_state.proofs.reader.RequestReader.leave_item.Goals as goal

pub returns-in-Refused : goal.returns-in-Refused
returns-in-Refused c =
    let is = sym (ap (λ (r : SeenReader). r.stage) c.self.view_is) ∙ c.in-Refused.is in
    record { limits = refl; leaves = leave-kept c.args.self.now _ is refl; untold = λ e. ap is_whole is; none = λ e. refl }
