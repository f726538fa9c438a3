use Rattle.std.proofs.Common.{◌≡◌, ◌<◌, ◌≤◌, length, sym, ap, ◌∙◌, arith}
use Rattle.media_types.specs.MediaType.{type_of_name}
use Rattle.media_types.specs.Places.{place_of_name}
use Rattle.media_types.specs.declared.types.TypePair.{TypePair}
use Rattle.media_types.proofs.PairLemmas.{type_missing, type_there}
use Rattle.media_types.proofs.type_table.TypeTable.type_at.Goals as goal

pub returns-then-place-len : goal.returns-then-place-len
returns-then-place-len c name is =
    let types = c.self.inside.types in
    let pairs = c.self.inside.pairs.items in
    let within : c.args.place < length pairs = omega arith in
    c.as_slice.ensures
    ∙ ap (λ (p : TypePair). p.media) c.index.ensures
    ∙ type_there types pairs name c.args.place c.index.result.now c.self.invariant (is ∙ ap (λ t. place_of_name t name) (sym c.self.view_is)) within
    ∙ ap (λ t. type_of_name t name) c.self.view_is

pub returns-else-place-len : goal.returns-else-place-len
returns-else-place-len c name is =
    let types = c.self.inside.types in
    let pairs = c.self.inside.pairs.items in
    let past : length pairs ≤ c.args.place = omega arith in
    type_missing types pairs name c.args.place c.self.invariant (is ∙ ap (λ t. place_of_name t name) (sym c.self.view_is)) past
    ∙ ap (λ t. type_of_name t name) c.self.view_is
