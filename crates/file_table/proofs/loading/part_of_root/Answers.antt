use Rattle.std.proofs.Common.{map, sym, ◌∙◌, arith}
use Rattle.std.specs.Str.{bytes_eq}
use Rattle.file_table.proofs.RootLemmas.{part_none, part_past, part_there, position_mapped}
use Rattle.file_table.proofs.loading.part_of_root.Goals as goal

pub returns-in-Some : goal.returns-in-Some
returns-in-Some c =
    part_there (map (λ r. r.now) c.args.roots.now) c.args.parts.now c.args.root.now c.in-Some.place
    (sym (position_mapped (λ r. r.now) (bytes_eq c.args.root.now) c.args.roots.now) ∙ sym c.place_of_root.ensures ∙ c.in-Some.is)

pub returns-in_default : goal.returns-in_default
returns-in_default c =
    part_past (map (λ r. r.now) c.args.roots.now) c.args.parts.now c.args.root.now c.in-Some.place (omega (arith, c.if-place-parts.false))
    (sym (position_mapped (λ r. r.now) (bytes_eq c.args.root.now) c.args.roots.now) ∙ sym c.place_of_root.ensures ∙ c.in-Some.is)

pub returns-in_default-2 : goal.returns-in_default-2
returns-in_default-2 c =
    part_none (map (λ r. r.now) c.args.roots.now) c.args.parts.now c.args.root.now
    (sym (position_mapped (λ r. r.now) (bytes_eq c.args.root.now) c.args.roots.now) ∙ sym c.place_of_root.ensures ∙ c.in_default.is)
