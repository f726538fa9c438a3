use Rattle.std.proofs.Common.{◌≡◌, length, map, Some, sym, ap, ◌∙◌, arith}
use Rattle.std.specs.List.{position_or_len}
use Rattle.std.proofs.lemmas.List.{length-map}
use Rattle.media_types.specs.MediaType.{extension_of, is_pair_of, pairs_of}
use Rattle.media_types.specs.PairsInside.{pair_sent}
use Rattle.media_types.specs.Places.{place_of_extension, place_of_name}
use Rattle.media_types.proofs.PairLemmas.{sent_place}
use Rattle.media_types.proofs.type_table.TypeTable.place_of.Goals as goal

pub returns-in-Some : goal.returns-in-Some
unfolding place_of_name
returns-in-Some c =
    let types = c.self.inside.types in
    let extension = c.in-Some.extension.now in
    let ends : extension_of c.args.name.now ≡ Some extension = sym c.in-Some.ensures in
    c.place_of_pair.ensures
    ∙ ap (position_or_len (is_pair_of extension)) (c.deref.ensures.value ∙ c.self.invariant)
    ∙ sent_place extension types.charset (pairs_of types)
    ∙ sym (ap (place_of_extension (pairs_of types)) ends)
    ∙ ap (λ t. place_of_extension (pairs_of t) (extension_of c.args.name.now)) c.self.view_is

pub returns-in-None : goal.returns-in-None
unfolding place_of_name
returns-in-None c =
    let types = c.self.inside.types in
    let many : c.len.result ≡ length c.self.inside.pairs.items = omega arith in
    many
    ∙ ap length c.self.invariant
    ∙ length-map (pairs_of types) (pair_sent types.charset)
    ∙ sym (ap (place_of_extension (pairs_of types)) (sym c.in-None.ensures))
    ∙ ap (λ t. place_of_extension (pairs_of t) (extension_of c.args.name.now)) c.self.view_is
