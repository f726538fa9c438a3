-- The entries that a pass added: their events, and what a pass that serves makes none of.
use Rattle.std.proofs.Common.{◌≡◌, ℕ, true, List, [], ◌∷◌, ◌++◌, map, refl, sym, ap, ◌∙◌, eq-eqb}
use Rattle.std.proofs.lemmas.List.{append_cancel_left, map-append}
use Rattle.std.proofs.lemmas.List.Elements.{filter-append}
use Rattle.conn_machine.specs.declared.event.Entry.{Entry}
use Rattle.conn_machine.specs.declared.event.Event.{Event}
use Rattle.conn_machine.specs.declared.folded.Folded.{Folded}
use Rattle.conn_machine.specs.declared.state.State.{State}
use Rattle.conn_machine.specs.Runs.{AreEntriesOf, entries_of, is_of_pass}
use Rattle.board_book.specs.Book.{SeenBook}
use Rattle.worker_group.specs.Acts.{Acts, events_of}

-- the events of the entries
abbrev pub events_in : List Entry → List Event
events_in entries = map (λ e. e.event) entries

-- each entry that a pass added is its own
pub added-own : (p : ℕ) (base : State) (f : Folded) (before added : List Entry) → AreEntriesOf p base f before added → entries_of p added ≡ added
added-own p base f before [] are = refl
added-own p base f before (e ∷ added) are =
    let own : is_of_pass p e ≡ true = eq-eqb e.pass p are.0.pass in
    rw own (ap (λ (xs : List Entry). e ∷ xs) (added-own p base f (before ++ e ∷ []) added are.1))

-- so what was added are entries of the events of the pass
pub added-events : (who : ℕ) (es : List Event) (has : _) (a b : SeenBook) (acts : Acts who es has a b) → events_in acts.entries.0 ≡ es
added-events who es has a b acts =
    let added = acts.entries.0 in
    let whole : events_of who b.history ≡ events_of who a.history ++ events_in added =
    ap (events_of who) acts.entries.1
    ∙ ap events_in (filter-append (is_of_pass who) a.history added)
    ∙ map-append (λ (e : Entry). e.event) (entries_of who a.history) (entries_of who added)
    ∙ ap (λ (xs : List Entry). events_of who a.history ++ events_in xs) (added-own who a.base a.folded a.history added acts.entries.2) in
    append_cancel_left (events_of who a.history) (events_in added) es (sym whole ∙ acts.made)
