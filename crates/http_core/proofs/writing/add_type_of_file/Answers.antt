use Rattle.std.proofs.Common.{◌≡◌, ℕ, List, ◌++◌, OnOk, codes, subst}
use Rattle.http_core.specs.Reply.{head_line_of}
use Rattle.http_core.proofs.WritingLemmas.{type_there}
use Rattle.http_core.proofs.writing.add_type_of_file.Goals as goal

pub returns : goal.returns
returns c =
    subst (λ (t : List ℕ). OnOk c.add_line.result (c.add_line.new.head ≡ c.args.head.now ++ head_line_of (codes "Content-Type: " ++ t)))
    (type_there c.args.site.now _ _ c.content_type.ensures) c.add_line.ensures
