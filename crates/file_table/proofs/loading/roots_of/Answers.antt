-- A root that is there isn't added again.
use Rattle.std.proofs.Common.{◌≡◌, ◌<◌, get_or, length, map, IsUtf8, sym, ap, subst, ◌∙◌}
use Rattle.std.specs.List.{list_any}
use Rattle.std.specs.Str.{bytes_eq}
use Rattle.std.proofs.lemmas.List.{map_push}
use Rattle.std.proofs.lemmas.List.Elements.{All-push}
use Rattle.file_table.proofs.RootLemmas.{any_mapped, root_new, root_text, root_there}
use Rattle.file_table.proofs.loading.roots_of.Goals as goal
use Rattle.file_table.proofs.loading.roots_of.Goals.{then-not-has_root+in_ok-push, else-not-has_root}

pub loop-host-preserved : goal.loop-host-preserved
loop-host-preserved c =
    let root = c.as_slice-root.result.now in
    let items = c.loop-host.roots.items in
    let i = c.loop-host.host-index in
    let host = c.host-item.result in
    let same = c.as_slice-host-items.ensures in
    let within : i < length c.args.hosts.now = subst (λ l. i < length l) same c.loop-host-test.true in
    let is : host ≡ get_or c.args.hosts.now i host = subst (λ l. host ≡ get_or l i host) same c.host-item.is in
    let test = sym (any_mapped (λ r. r.now) (bytes_eq root) items) ∙ ap (λ l. list_any (λ r. bytes_eq root r.now) l) (sym c.as_slice.ensures.value) ∙ sym c.has_root.ensures in
    elim c.if-not-has_root.branch [
      | then-not-has_root+in_ok-push w ↦
          rw (w.roots-is, w.in_ok-push.ensures.items) (
            rw map_push
                (root_new (map (λ r. r.now) items) c.args.hosts.now i host root within is c.as_slice-root.ensures
                (test ∙ w.if-not-has_root.true) ∙ c.loop-host.invariant.0),
            All-push (λ r. IsUtf8 r.now) items _ c.loop-host.invariant.1
                (root_text (map (λ r. r.now) items) c.args.hosts.now i host root within is c.as_slice-root.ensures c.requires),
          )
      | else-not-has_root w ↦
          rw w.roots-is (
            root_there (map (λ r. r.now) items) c.args.hosts.now i host root within is c.as_slice-root.ensures
                (test ∙ w.if-not-has_root.false) ∙ c.loop-host.invariant.0,
            c.loop-host.invariant.1,
          )
    ]
