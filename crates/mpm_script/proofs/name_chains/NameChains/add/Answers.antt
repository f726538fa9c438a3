use Rattle.std.proofs.Common.{◌≡◌, ◌∷◌, ◌++◌, [], length, refl, ◌∙◌, arith}
use Rattle.mpm_script.proofs.NameChainLemmas.{chained-more}
use Rattle.mpm_script.proofs.name_chains.NameChains.add.Goals as goal

pub invariant_of-self-in-Ok : goal.invariant_of-self-in-Ok
invariant_of-self-in-Ok c =
    let names = c.self.inside.names.items in
    let earlier = c.self.inside.earlier.items in
    let name = c.args.name.now in
    let size : c.len-place.result ≡ length names = omega (arith, c.len-place.ensures) in
    let named : c.push.new.self.items ≡ names ++ name ∷ [] = c.in-Ok.ensures.items ∙ rw (c.in_ok-reserve.ensures.items, c.in_ok-text.ensures) refl in
    let placed : c.push-in-Ok.new.self.items ≡ earlier ++ c.in_ok-earlier.earlier ∷ [] = c.in-Ok-push.ensures.items ∙ rw c.in_ok-reserve-2.ensures.items refl in
    rw (named, placed)
    (chained-more c.self.inside.last c.insert.new.self earlier names name c.in_ok-key.key c.len-place.result c.in_ok-earlier.earlier c.in_ok-key.ensures.items size c.self.invariant c.in_ok-earlier.ensures.old c.in_ok-earlier.ensures.updates)
