use Rattle.std.proofs.Common.{◌≡◌, ◌∷◌, [], ◌++◌, nat_lt, false, List, ℕ, length, eqb, sym, ap, ◌∙◌, arith}
use Rattle.std.specs.List.{starts_with}
use Rattle.std.proofs.lemmas.Bool.Decides.{nat_tests}
use Rattle.mpm_base.specs.declared.store.File.{File}
use Rattle.file_table.proofs.OrderLemmas.{front_tells, no_front}
use Rattle.file_table.proofs.search.has_files_under.Goals as goal

pub returns-then-place-files : goal.returns-then-place-files
returns-then-place-files c =
    let file = c.index-files-place.result in
    let key = c.args.name.now ++ 47 ∷ [] in
    front_tells (λ (f : File). f.name) c.args.files.now c.requires key c.count_before-place.result file (c.count_before-place.ensures c.requires) c.begins_with.result (omega arith)
    (c.begins_with.ensures ∙ ap (λ (n : List ℕ). starts_with eqb n key) (c.name.ensures ∙ ap (λ (f : File). f.name) c.index-files-place.is))

pub returns-else-place-files : goal.returns-else-place-files
returns-else-place-files c =
    let none : nat_lt c.count_before-place.result (length c.args.files.now) ≡ false = grind (arith, nat_tests) in
    none ∙ sym (no_front (λ (f : File). f.name) c.args.files.now c.requires (c.args.name.now ++ 47 ∷ []) c.count_before-place.result (record { name = []; bytes = []; second = 0 }) (c.count_before-place.ensures c.requires) (λ l. absurd (omega (arith, l))))
