use Rattle.std.proofs.Common.{◌≡◌, ◌∷◌, [], ◌++◌, true, map, List, ℕ, sym, ap, ◌∙◌, refl, arith, rules, tests}
use Rattle.std.specs.List.{filter}
use Rattle.std.proofs.lemmas.Bool.Decides.{nat_tests}
use Rattle.std.proofs.lemmas.List.{map_push}
use Rattle.std.proofs.lemmas.List.Elements.{filter-append}
use Rattle.std.proofs.lemmas.Iterator.Consumers.{YieldsList-end}
use Rattle.std.proofs.lemmas.Iterator.Splits.{YieldsList-from_slice_split}
use Rattle.file_table.specs.Path.{is_filled, is_slash, name_of_segments}
use Rattle.file_table.specs.PathInside.{further_name}
use Rattle.file_table.proofs.PathLemmas.{all_segments, further_segment}
use Rattle.file_table.proofs.path.name_of_segments.Goals as goal

-- one more segment
more : (parts : List (List ℕ)) (part name name' : List ℕ) → is_filled part ≡ true → name ≡ name_of_segments (filter is_filled parts)
    → name' ≡ further_name name part → name' ≡ name_of_segments (filter is_filled (parts ++ part ∷ []))
more parts part name name' filled e e' =
    let kept : filter is_filled (part ∷ []) ≡ part ∷ [] = rw filled refl in
    let whole : filter is_filled (parts ++ part ∷ []) ≡ filter is_filled parts ++ part ∷ [] =
    filter-append is_filled parts (part ∷ []) ∙ ap (λ xs. filter is_filled parts ++ xs) kept in
    e' ∙ ap (λ n. further_name n part) e ∙ sym (further_segment (filter is_filled parts) part (all_segments parts)) ∙ ap name_of_segments (sym whole)

pub loop-part-preserved-in-Continue-1 : goal.loop-part-preserved-in-Continue-1
loop-part-preserved-in-Continue-1 c =
    rw map_push (more (map (λ x. x.now) c.loop-part.yielded) c.in-Some.part.now _ _ (grind (arith, nat_tests)) c.loop-part.invariant c.in_ok-add_segment.ensures)

pub returns : goal.returns
returns c =
    let all = YieldsList-end (YieldsList-from_slice_split {s = c.into_iter-part-iterator.result} _ is_slash c.args.path.now (rw c.into_iter-part-iterator.ensures.into_iter_gives c.split-part-items.ensures.rest) (rw c.into_iter-part-iterator.ensures.into_iter_gives c.split-part-items.ensures.done) (rw c.into_iter-part-iterator.ensures.into_iter_gives c.split-part-items.ensures.closure) (λ x b q k. search (rules, tests)))
    c.loop-part.yielded _ c.loop-part.yielded_by _ _ c.in-None.is c.next.ensures.steps in
    c.loop-part.invariant ∙ ap (λ parts. name_of_segments (filter is_filled parts)) all.0
