-- That a connection stays of its generation, and the newest generation keeps its edition, while the history goes on.
use Rattle.std.proofs.Common.{◌≡◌, ℕ, List, Option, sym, subst}
use Rattle.mpm_base.specs.Store.{StoreTold}
use Rattle.mpm_base.specs.declared.conn.ConnName.{ConnName}
use Rattle.http_read.specs.declared.request.Limits.{Limits}
use Rattle.file_table.specs.Site.{SeenSite}
use Rattle.conn_machine.specs.declared.event.Event.{Event}
use Rattle.conn_state.specs.Known.{KnownOutside}
use Rattle.board_book.specs.Book.{SeenBook}
use Rattle.board.specs.Editions.{GenerationsKeepTheirEditions, IsOfGeneration}
use Rattle.worker_group.specs.Acts.{Acts}
use Rattle.listener_round.specs.OrdersInside.{KnowsComing, ServesNewest}
use Rattle.listener_round.specs.StandingInside.{KnowsLater}
use Rattle.listener_round.specs.declared.edition.LoadedEdition.{LoadedEdition}
use Rattle.listener_round.specs.declared.edition.NamedConfig.{NamedConfig}
use Rattle.listener_round.proofs.CommandlessLemmas.{AreCommandless, orders-kept}

-- ## While a history goes on

-- what a pass did leaves a connection of its generation
pub edition-acts : GenerationsKeepTheirEditions → (known : Option KnownOutside) (who : ℕ) (es : List Event) (has : Option ConnName) (a b : SeenBook)
    (generation : ℕ) (limits : Limits) (site : SeenSite) → Acts who es has a b → IsOfGeneration known a generation limits site
    → IsOfGeneration known b generation limits site
edition-acts law known who es has a b generation limits site acts is =
    law.goes_on known a b acts.entries.0 generation limits site is acts.base acts.folded acts.entries.1

-- and the newest generation its edition, where none began
pub newest-acts : GenerationsKeepTheirEditions → (known : Option KnownOutside) (who : ℕ) (es : List Event) (has : Option ConnName) (a b : SeenBook) (e : LoadedEdition)
    → Acts who es has a b → b.state.newest ≡ a.state.newest → ServesNewest known a e → ServesNewest known b e
newest-acts law known who es has a b e acts newest serves =
    subst (λ (generation : ℕ). IsOfGeneration known b generation e.limits e.site.value) (sym newest)
    (edition-acts law known who es has a b a.state.newest e.limits e.site.value acts serves)

-- what is known of the editions to come stays so where nothing was ordered
pub coming-acts : (known : Option KnownOutside) (who : ℕ) (es : List Event) (has : Option ConnName) (a b : SeenBook) (c : NamedConfig) (told : Option StoreTold)
    → Acts who es has a b → AreCommandless es → KnowsComing known a c told → KnowsComing known b c told
coming-acts known who es has a b c told acts none knows =
    subst (λ (orders : ℕ). KnowsLater known orders c.name.now c.config.now told) (sym (orders-kept who es has a b acts none)) knows
