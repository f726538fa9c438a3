-- That each link that the table took stays watched where the service goes on, where the listener waits, and where the server goes down.
use Rattle.std.proofs.Common.{◌≡◌, ◌≢◌, ◌==◌, ℕ, Bool, true, List, [], ◌∷◌, ◌++◌, Option, None, Some, option_map, is_none, Result, Ok, Err, IfSome, refl, sym, ap, subst, ◌∙◌, eqb-true}
use Rattle.std.proofs.lemmas.Bool.{and_parts}
use Rattle.std.specs.List.{flat_map}
use Rattle.mpm_base.specs.Front.{AnswerTold, FrontTold, GoesForward, TellsOn}
use Rattle.mpm_base.specs.declared.conn.ConnName.{ConnName}
use Rattle.mpm_base.specs.declared.front.Woke.{Woke}
use Rattle.conn_machine.specs.declared.event.Entry.{Entry}
use Rattle.conn_machine.specs.declared.event.Event.{Event}
use Rattle.conn_machine.specs.declared.event.Event.TheVariants as event
use Rattle.conn_machine.specs.declared.event.Why.{Why}
use Rattle.conn_machine.specs.declared.folded.Folded.{Folded}
use Rattle.conn_machine.specs.declared.state.State.{State}
use Rattle.conn_machine.specs.Runs.{AreEntriesOf, may_make}
use Rattle.board_book.specs.declared.faults.BoardFault.{BoardFault}
use Rattle.board_book.specs.Book.{SeenBook}
use Rattle.worker_group.specs.Acts.{Acts}
use Rattle.listener_round.specs.FrontInside.{StaysWatching, WatchesAll}
use Rattle.rounds.specs.EndsInside.{why_of}
use Rattle.rounds.specs.declared.ends.End.{End}
use Rattle.rounds.specs.ClosingInside.{IsHaltedWay, LetsGo}
use Rattle.rounds.specs.PartsInside.{RetiresSome, halt_events, halts_for}
use Rattle.rounds.proofs.AddedLemmas.{events_in}
use Rattle.listener.proofs.FrontCallLemmas.{left_front}
use Rattle.listener_round.proofs.NobodyLemmas.{accepts_in, TakesNone, none-retires, unnamed, TakesNobody, nobody-more, nobody-acts, nobody-gone}
use Rattle.listener_round.proofs.WatchLemmas.{watches-still, watched-mapped}

-- ## Names

serves-none : (p : ℕ) (had : Option ConnName) (e : Event) → p ≢ 0 → may_make p had e ≡ true → accepts_in e ≡ []
serves-none p had (event.Accept slot) other may = absurd (other (eqb-true p 0 (and_parts (p == 0) (is_none had) may).0))
serves-none p had (event.Park name kind) other may = refl
serves-none p had (event.Hold name) other may = refl
serves-none p had (event.Queue name) other may = refl
serves-none p had (event.Start name) other may = refl
serves-none p had (event.Answer name ask) other may = refl
serves-none p had (event.Linger name cause) other may = refl
serves-none p had (event.Close name cause tail) other may = refl
serves-none p had (event.Ready slot) other may = refl
serves-none p had (event.Tick m) other may = refl
serves-none p had (event.StartChild k) other may = refl
serves-none p had (event.Command c) other may = refl
serves-none p had (event.Retire k) other may = refl

serves-added : (p : ℕ) (base : State) (f : Folded) (before added : List Entry) → p ≢ 0 → AreEntriesOf p base f before added → TakesNone (events_in added)
serves-added p base f before [] other are = refl
serves-added p base f before (e ∷ added) other are =
    ap (λ (xs : List ℕ). xs ++ flat_map accepts_in (events_in added)) (serves-none p _ e.event other are.0.role)
    ∙ serves-added p base f (before ++ e ∷ []) added other are.1

-- and where another pass than the listener added what it did
pub nobody-served : (who : ℕ) (es : List Event) (has : Option ConnName) (a b : SeenBook) → who ≢ 0 → Acts who es has a b → TakesNobody a b
nobody-served who es has a b other acts = record {
  folded = acts.folded;
  more = acts.entries.0;
  history = acts.entries.1;
  none = unnamed acts.entries.0 (serves-added who a.base a.folded a.history acts.entries.0 other acts.entries.2);
}

-- ## Watches

pub watched-left : (more : List AnswerTold) (told told' : Option FrontTold) (b : SeenBook) → told' ≡ option_map (left_front more) told
    → StaysWatching told told' b b
watched-left more told told' b is = watched-mapped told told' (left_front more) b (λ t. refl) is

-- a wait
pub watched-wait : (until : Option ℕ) (quiet : Bool) (answer : Woke) (ready : List ℕ) (told told' : Option FrontTold) (b : SeenBook)
    → TellsOn (GoesForward until quiet answer ready) told told' → StaysWatching told told' b b
watched-wait until quiet answer ready None told' b tells past all =
    subst (λ (o : Option FrontTold). IfSome o (WatchesAll b.state (past ++ b.history))) (sym tells) tt
watched-wait until quiet answer ready (Some t) told' b tells past all =
    subst (λ (o : Option FrontTold). IfSome o (WatchesAll b.state (past ++ b.history))) (sym tells.1)
    (watches-still t tells.0 b.state (past ++ b.history) tells.2.watches all)

-- ## The stop

none-halting : (o : Option Why) → TakesNone (halts_for o)
none-halting None = refl
none-halting (Some why) = refl

none-halts : (turns : Result End BoardFault) → TakesNone (halt_events turns)
none-halts (Ok end) = none-halting (why_of end)
none-halts (Err fault) = refl

-- the server was stopped, each connection that waited closed, and each child let go of
pub nobody-down : (turns : Result End BoardFault) (a b c d : SeenBook) → Acts 0 (halt_events turns) None a b → LetsGo IsHaltedWay b c
    → RetiresSome c d → TakesNobody a d
nobody-down turns a b c d halts closes retires =
    nobody-more a b d (nobody-acts 0 _ None a b halts (none-halts turns))
    (nobody-more b c d (nobody-gone IsHaltedWay b c closes) (nobody-acts 0 _ None c d retires.acts (none-retires retires.children)))
