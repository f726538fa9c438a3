use Rattle.std.proofs.Common.{◌∷◌, [], ◌++◌, sym, ap, ◌∙◌}
use Rattle.mpm_script.specs.Clients.{made_by}
use Rattle.mpm_script.specs.Script.{moment_from}
use Rattle.mpm_script.proofs.AgreementLemmas.{moment_push, names_push}
use Rattle.mpm_script.proofs.read_lines.ReadLines.add.Goals as goal

pub returns-clause-read : goal.returns-clause-read
returns-clause-read c = rw c.in_ok-add.ensures.ok (record {
  names = c.in_ok-add_name.ensures.ok ∙ ap (λ xs. xs ++ made_by c.args.line) c.requires.names ∙ sym (names_push c.args.self.now.script c.args.line);
  moment = c.moment_after-self.ensures ∙ ap (λ m. moment_from m (c.args.line ∷ [])) c.requires.moment ∙ sym (moment_push 0 c.args.self.now.script c.args.line);
})
