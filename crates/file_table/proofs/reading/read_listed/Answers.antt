use Rattle.std.proofs.Common.{◌≡◌, true, map, IsUtf8, ap, ◌∙◌, arith, nat_cmp}
use Rattle.std.specs.Cmp.Lexicographic.{slice_cmp}
use Rattle.file_table.specs.Site.{name_within}
use Rattle.mpm_base.specs.Store.{lies_under}
use Rattle.file_table.proofs.LoadLemmas.{all_unmapped, sorted_mapped, in_order_within, few_files, sorted_under, sorted_texts, listed_under, listed_not}
use Rattle.file_table.proofs.reading.read_listed.Goals as goal

pub read_files-requires-clause-utf8 : goal.read_files-requires-clause-utf8
read_files-requires-clause-utf8 g c =
    rw c.as_slice.ensures.value
    (all_unmapped (λ n. n.now) IsUtf8 c.in_ok-sorted.sorted.items (sorted_texts c.args.root.now c.args.names.now _ c.in_ok-sorted.ensures.names c.requires.utf8))

pub read_files-requires-clause-under : goal.read_files-requires-clause-under
read_files-requires-clause-under g c =
    rw c.as_slice.ensures.value
    (all_unmapped (λ n. n.now) (λ n. lies_under c.args.root.now n ≡ true) c.in_ok-sorted.sorted.items (sorted_under c.args.root.now c.args.names.now _ c.in_ok-sorted.ensures.names))

pub returns-in-Ok-clause-read : goal.returns-in-Ok-clause-read
returns-in-Ok-clause-read g c = λ count few.
    let names = map (λ n. n.now) c.in_ok-sorted.sorted.items in
    let named = c.in-Ok.ensures.names ∙ ap (λ l. map (name_within c.args.root.now) (map (λ n. n.now) l)) c.as_slice.ensures.value in
    record {
      in_order = in_order_within c.args.root.now names c.in-Ok.read.0.items named (sorted_under c.args.root.now c.args.names.now _ c.in_ok-sorted.ensures.names)
          (sorted_mapped (λ n. n.now) (slice_cmp nat_cmp) c.in_ok-sorted.sorted.items c.in_ok-sorted.ensures.in_order);
      few = omega (arith, few, few_files (lies_under c.args.root.now) c.args.root.now c.args.names.now names c.in-Ok.read.0.items c.in_ok-sorted.ensures.names named);
      counted = c.in-Ok.ensures.counted;
    }

pub returns-in-Ok-clause-known : goal.returns-in-Ok-clause-known
returns-in-Ok-clause-known g c =
    let names = map (λ n. n.now) c.in_ok-sorted.sorted.items in
    let named = c.in-Ok.ensures.names ∙ ap (λ l. map (name_within c.args.root.now) (map (λ n. n.now) l)) c.as_slice.ensures.value in
    listed_under c.args.root.now c.args.names.now names c.in_ok-sorted.ensures.names (g.D.Store.seen c.args.store.now).told c.in-Ok.read.0.items
    (in_order_within c.args.root.now names c.in-Ok.read.0.items named (sorted_under c.args.root.now c.args.names.now _ c.in_ok-sorted.ensures.names)
    (sorted_mapped (λ n. n.now) (slice_cmp nat_cmp) c.in_ok-sorted.sorted.items c.in_ok-sorted.ensures.in_order))
    (rw (← c.as_slice.ensures.value) c.in-Ok.ensures.known)

pub returns-clause-known : goal.returns-clause-known
returns-clause-known g c =
    listed_not c.args.root.now c.args.names.now (map (λ n. n.now) c.in_ok-sorted.sorted.items) c.in_ok-sorted.ensures.names (g.D.Store.seen c.args.store.now).told
    c.args.before c.in-Err.fault (sorted_mapped (λ n. n.now) (slice_cmp nat_cmp) c.in_ok-sorted.sorted.items c.in_ok-sorted.ensures.in_order)
    (rw (← c.as_slice.ensures.value) c.in-Err.ensures.known)
