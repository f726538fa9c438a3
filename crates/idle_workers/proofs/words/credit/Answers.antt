use Rattle.std.proofs.Common.{◌≡◌, rules, Option, Some, None, refl}
use Rattle.std.specs.Prelude.{IsSome}
use Rattle.idle_workers.proofs.words.credit.Goals as goal

some_of : {X : Type 0} (o : Option X) → IsSome o → (x : X) × (o ≡ Some x)
some_of None is = absurd (cc)
some_of (Some x) is = (x, refl)

pub fetch_add-requires : goal.fetch_add-requires
fetch_add-requires g c =
    let turn = some_of c.args.pass.now.seat.me.0.turn c.requires.turn in
    let may = c.requires.may in
    (c.requires.own, search rules, c.child_is_credited.ensures _ turn.0 _ _ c.args.child c.args.threads _ c.requires.child c.args.pass.now.up may.number turn.1 may.none may.few may.there)
