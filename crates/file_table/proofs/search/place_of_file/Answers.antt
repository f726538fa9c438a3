use Rattle.std.proofs.Common.{◌≡◌, ◌≢◌, [], ◌++◌, get_or, sym, ap, ◌∙◌, arith}
use Rattle.std.proofs.lemmas.Bool.{false≢true}
use Rattle.std.proofs.lemmas.Slice.Eq.{bytes_eq-Decides}
use Rattle.mpm_base.specs.declared.store.File.{File}
use Rattle.file_table.proofs.OrderLemmas.{place_here, no_place}
use Rattle.file_table.proofs.search.place_of_file.Goals as goal
use Rattle.file_table.proofs.search.place_of_file.Goals.{else-place-files-via-then-place-files+else-is_made_of, else-place-files-via-else-place-files}

pub returns-then-is_made_of : goal.returns-then-is_made_of
returns-then-is_made_of c =
    let file = c.index-files-place.result in
    let key = c.args.front.now ++ c.args.back.now in
    let same : (get_or c.args.files.now c.count_before-place.result file).name ≡ key = ap (λ (f : File). f.name) (sym c.index-files-place.is) ∙ sym c.name.ensures ∙ (bytes_eq-Decides _ key).0 (sym c.if-is_made_of.ensures) in
    sym (place_here (λ (f : File). f.name) c.args.files.now c.requires key c.count_before-place.result file (c.count_before-place.ensures c.requires) (omega arith) same)

pub returns-else-place-files : goal.returns-else-place-files
returns-else-place-files c =
    let key = c.args.front.now ++ c.args.back.now in
    elim c.else-place-files.branch [
      | else-place-files-via-then-place-files+else-is_made_of w ↦
          let file = w.index-files-place.result in
          let other : (get_or c.args.files.now c.count_before-place.result file).name ≢ key = λ e. false≢true (sym w.if-is_made_of.false ∙ w.is_made_of.ensures ∙ (bytes_eq-Decides _ key).1 (w.name.ensures ∙ ap (λ (f : File). f.name) w.index-files-place.is ∙ e)) in
          sym (no_place (λ (f : File). f.name) c.args.files.now c.requires key c.count_before-place.result file (c.count_before-place.ensures c.requires) (λ l e. other e))
      | else-place-files-via-else-place-files w ↦
          sym (no_place (λ (f : File). f.name) c.args.files.now c.requires key c.count_before-place.result (record { name = []; bytes = []; second = 0 }) (c.count_before-place.ensures c.requires) (λ l. absurd (omega (arith, l))))
    ]
