-- A name of another mark isn't the same.
use Rattle.std.proofs.Common.{◌≡◌, ◌≢◌, [], ℕ, List, ap, get_or, length, subst, sym, ◌<◌, ◌∙◌}
use Rattle.std.proofs.lemmas.Bool.{ne_eqb}
use Rattle.name_hosts.specs.MarkInside.{mark}
use Rattle.name_hosts.proofs.MarkLemmas.{mark_at, other_mark}
use Rattle.name_hosts.proofs.host_names.HostNames.is_at.Goals as goal

pub returns-else-index-marked : goal.returns-else-index-marked
returns-else-index-marked c =
    let names : List (List ℕ) = c.self.inside.names in
    let name : List ℕ = get_or c.args.self.now c.args.place [] in
    let within : c.args.place < length names =
    subst (λ (l : List (List ℕ)). c.args.place < length l) (sym c.self.view_is) c.requires.there in
    let marked : c.index.result.now ≡ mark name =
    c.index.ensures ∙ mark_at names c.self.inside.marks.items c.args.place c.index.result.now [] c.self.invariant within
    ∙ ap (λ (l : List (List ℕ)). mark (get_or l c.args.place [])) c.self.view_is in
    let other : mark c.args.host.now ≢ mark name = λ e. c.if-index-marked.false (marked ∙ sym e ∙ sym c.requires.marked) in
    ne_eqb c.index.result.now c.args.marked c.if-index-marked.false ∙ sym (other_mark c.args.host.now name other)
