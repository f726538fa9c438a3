use Rattle.std.proofs.Common.{drop, length, ap, ◌∙◌, arith, is_le, nat_cmp}
use Rattle.std.specs.Cmp.Lexicographic.{slice_cmp}
use Rattle.std.specs.Ordering.{is_lt, ordering_then}
use Rattle.file_table.proofs.OrderLemmas.{compare_parts, compare_short}
use Rattle.file_table.proofs.search.goes_before.Goals as goal

pub returns-then-name-front : goal.returns-then-name-front
returns-then-name-front c =
    rw (compare_short c.args.name.now c.args.front.now c.args.back.now (omega arith)) (c.is_le.ensures ∙ ap is_le c.cmp.ensures)

pub returns-in-Less : goal.returns-in-Less
returns-in-Less c =
    let back = slice_cmp nat_cmp (drop (length c.args.front.now) c.args.name.now) c.args.back.now in
    rw (compare_parts c.args.name.now c.args.front.now c.args.back.now (omega arith))
    (ap (λ o. is_lt (ordering_then o back)) (c.in-Less.ensures ∙ ap (λ n. slice_cmp nat_cmp n c.args.front.now) c.split_at.ensures.front))

pub returns-in-Equal : goal.returns-in-Equal
returns-in-Equal c =
    let back = slice_cmp nat_cmp (drop (length c.args.front.now) c.args.name.now) c.args.back.now in
    rw (compare_parts c.args.name.now c.args.front.now c.args.back.now (omega arith))
    (c.is_lt.ensures ∙ ap is_lt (c.cmp-in-Equal.ensures ∙ ap (λ n. slice_cmp nat_cmp n c.args.back.now) c.split_at.ensures.back)
    ∙ ap (λ o. is_lt (ordering_then o back)) (c.in-Equal.ensures ∙ ap (λ n. slice_cmp nat_cmp n c.args.front.now) c.split_at.ensures.front))

pub returns-in-Greater : goal.returns-in-Greater
returns-in-Greater c =
    let back = slice_cmp nat_cmp (drop (length c.args.front.now) c.args.name.now) c.args.back.now in
    rw (compare_parts c.args.name.now c.args.front.now c.args.back.now (omega arith))
    (ap (λ o. is_lt (ordering_then o back)) (c.in-Greater.ensures ∙ ap (λ n. slice_cmp nat_cmp n c.args.front.now) c.split_at.ensures.front))
