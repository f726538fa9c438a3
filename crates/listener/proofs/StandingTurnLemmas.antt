-- How the run of a listener stands from turn to turn.
use Rattle.std.proofs.Common.{◌≡◌, ℕ, List, Option, refl, sym, ap, subst}
use Rattle.mpm_base.specs.Store.{StoreSeen}
use Rattle.mpm_base.specs.declared.conn.ConnName.{ConnName}
use Rattle.conn_machine.specs.declared.event.Event.{Event}
use Rattle.conn_machine.specs.States.{is_serving}
use Rattle.conn_state.specs.Known.{KnownOutside}
use Rattle.board.specs.Board.{SeenBoard}
use Rattle.worker_group.specs.Acts.{Acts}
use Rattle.listener_round.specs.declared.edition.LoadedEdition.{LoadedEdition}
use Rattle.listener_round.specs.declared.edition.NamedConfig.{NamedConfig}
use Rattle.listener.specs.declared.listen.Pause.{Pause}
use Rattle.rounds.specs.declared.ends.Rest.{Rest}
use Rattle.board_book.specs.Timely.{AreTimely}
use Rattle.listener_round.specs.StandingInside.{StandsOn, StandsSo, standing}
use Rattle.listener.specs.TurnsInside.{SeenListener, stands_at}
use Rattle.listener_round.proofs.CommandlessLemmas.{AreCommandless, commandless-added}
use Rattle.listener_round.proofs.StandingLemmas.{acts-stand, lines-waited, same-lines, stands-more, stands-past}
use Rattle.listener.proofs.WaitLemmas.{HasWaited}

-- how the run stands then, where it stood so
abbrev pub StandsStep : Option KnownOutside → ℕ → ℕ → SeenListener → SeenListener → Type 0
StandsStep known spare owed a b = StandsOn known a.config spare owed (stands_at a) (stands_at b)

-- a pass did something, but no command
pub stands-acted : (known : Option KnownOutside) (who : ℕ) (es : List Event) (has : Option ConnName) (a : SeenListener) (b : SeenBoard)
    → Acts who es has a.board.book b.book → AreCommandless es → b.book.state.going ≡ a.board.book.state.going
    → StandsStep known 0 0 a (record a { board = b })
stands-acted known who es has a b acts none going =
    acts-stand known a.config who es has (stands_at a) (stands_at (record a { board = b })) acts (commandless-added who es has a.board.book b.book acts none)
    (record { passes = acts.passes; serving = ap is_serving going; stop = refl; store = refl; front = same-lines a.front })

-- the front waited
pub stands-waited : (rest : Rest) (pause : Pause) (known : Option KnownOutside) (a w : SeenListener) → HasWaited rest pause a w → StandsStep known 0 0 a w
stands-waited rest pause known a w waited o n past opened timely stood =
    let there : SeenListener = record a { front = w.front } in
    let stands : StandsSo known o n past 0 0 (stands_at there) =
    stands-past known o n past past 0 0 (stands_at a) (stands_at there) stood stood.folded stood.past_is stood.outside
    (record { ordered = λ before. before; newest = refl; given = refl; ending = refl; orders = refl; refusals = refl })
    (record {
      passes = refl;
      serving = refl;
      stop = refl;
      store = refl;
      front = lines-waited rest.until rest.quiet pause.woke w.ready a.front w.front waited.waits;
    }) in
    subst (λ (b : SeenBoard). StandsSo known o n past 0 0 (standing w.edition.stop_ms w.store w.front b.book)) (sym waited.board)
    (subst (λ (e : LoadedEdition). StandsSo known o n past 0 0 (standing e.stop_ms w.store w.front a.board.book)) (sym waited.edition)
    (subst (λ (s : StoreSeen). StandsSo known o n past 0 0 (standing a.edition.stop_ms s w.front a.board.book)) (sym waited.store) stands))

-- a round behind a wait
pub stands-then : (rest : Rest) (pause : Pause) (known : Option KnownOutside) (spare owed : ℕ) (a w b : SeenListener) → HasWaited rest pause a w
    → StandsStep known spare owed w b → StandsStep known spare owed a b
stands-then rest pause known spare owed a w b waited stands =
    stands-more known a.config spare owed (stands_at a) (stands_at w) (stands_at b) (stands-waited rest pause known a w waited)
    (λ before. subst (λ (x : SeenBoard). AreTimely x.book.base x.book.history) (sym waited.board) before)
    (subst (λ (c : NamedConfig). StandsOn known c spare owed (stands_at w) (stands_at b)) waited.config stands)
