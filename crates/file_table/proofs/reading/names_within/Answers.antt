use Rattle.std.proofs.Common.{sym, ◌∙◌}
use Rattle.std.proofs.lemmas.List.{map_push}
use Rattle.mpm_base.specs.Store.{lies_under}
use Rattle.file_table.proofs.LoadLemmas.{one_kept, one_left}
use Rattle.file_table.proofs.reading.names_within.Goals as goal
use Rattle.file_table.proofs.reading.names_within.Goals.{then-begins_with+in_ok-push, else-begins_with}

pub loop-place-preserved : goal.loop-place-preserved
loop-place-preserved c =
    let under = lies_under c.args.root.now in
    elim c.if-begins_with.branch [
      | then-begins_with+in_ok-push w ↦
          rw (w.within-is, w.in_ok-push.ensures.items, map_push)
          (one_kept under c.args.names.now c.loop-place.place c.name_at-name.result.now _ c.name_at-name.ensures (sym c.begins_with.ensures ∙ w.if-begins_with.true) c.loop-place.invariant)
      | else-begins_with w ↦
          rw w.within-is
          (one_left under c.args.names.now c.loop-place.place c.name_at-name.result.now _ c.name_at-name.ensures (sym c.begins_with.ensures ∙ w.if-begins_with.false) c.loop-place.invariant)
    ]
