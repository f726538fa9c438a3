use Rattle.std.proofs.Common.{◌≡◌, ℕ, ◌≤◌, List, ◌++◌, take, drop, length, sym, ap, ◌∙◌, append_assoc}
use Rattle.std.proofs.lemmas.List.{take-append-le, take-append-drop}
use Rattle.stand_ins.specs.PlainLink.{SeenLink}
use Rattle.stand_ins.proofs.script_link.write_pair_by.Goals as goal

-- a front of the one piece and some of the other is one of both pieces
front-same : (first second : List ℕ) (n count : ℕ) → count ≤ length (first ++ take n second) → take count (first ++ take n second) ≡ take count (first ++ second)
front-same first second n count fits =
    sym (take-append-le count (first ++ take n second) (drop n second) fits)
    ∙ ap (take count) (append_assoc first (take n second) (drop n second) ∙ ap (λ xs. first ++ xs) (take-append-drop n second))

pub returns-in-Put-clause-told : goal.returns-in-Put-clause-told
returns-in-Put-clause-told c =
    let told = c.args.inner.now.told in
    ap (λ (l : SeenLink). l.told) c.in-Put.ensures.state
    ∙ ap (λ xs. record told { sent = told.sent ++ xs }) (front-same c.args.first.now c.args.second.now _ c.in-Put.count c.in-Put.ensures.link.fits.0)
