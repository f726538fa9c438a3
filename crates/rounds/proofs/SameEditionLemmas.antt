-- That a connection is still of its generation where what it is served by is spelled otherwise, and which generation takes it.
use Rattle.std.proofs.Common.{◌≡◌, ℕ, List, [], ◌∷◌, ◌++◌, Option, refl, sym, subst, ◌∙◌}
use Rattle.mpm_base.specs.declared.conn.ConnName.{ConnName}
use Rattle.conn_machine.specs.declared.event.Entry.{Entry}
use Rattle.conn_machine.specs.declared.event.Event.TheVariants as event
use Rattle.conn_machine.specs.declared.event.Reply.TheVariants.{Took}
use Rattle.conn_machine.specs.declared.state.State.{State}
use Rattle.conn_machine.specs.Laws.{IsTakenFor}
use Rattle.conn_machine.specs.Runs.{Run, after}
use Rattle.conn_machine.specs.Table.{taken_reply}
use Rattle.conn_state.specs.Known.{KnownOutside}
use Rattle.board_book.specs.Book.{SeenBook, book_with_entry, entry_of}
use Rattle.board.specs.Editions.{IsOfGeneration}
use Rattle.board.specs.Events.{IsTaken}

-- ## While a history goes on

-- so does another spelling of what it is served by
pub edition-same : (known : Option KnownOutside) (b : SeenBook) (generation generation' : ℕ) (limits limits' : _) (site site' : _)
    → generation' ≡ generation → limits' ≡ limits → site' ≡ site → IsOfGeneration known b generation limits site
    → IsOfGeneration known b generation' limits' site'
edition-same known b generation generation' limits limits' site site' same_generation same_limits same_site is =
    subst (λ (x : ℕ). IsOfGeneration known b x limits' site') (sym same_generation)
    (subst (λ (x : _). IsOfGeneration known b generation x site') (sym same_limits)
    (subst (IsOfGeneration known b generation limits) (sym same_site) is))

-- ## A connection that is taken

-- the law of the machine: it is for the chosen child, which is of the newest generation
abbrev pub IsTakenForChosen : Type 0
IsTakenForChosen =
    (s : State) (before rest : List Entry) (e : Entry) (slot : ℕ) → Run s (before ++ e ∷ rest) → e.event ≡ event.Accept slot
    → IsTakenFor (after s before) slot e.reply

took-newest : (s : State) (name : ConnName) (child generation : ℕ) → IsTaken s name child generation → IsTakenFor s name.slot (taken_reply s name.slot)
    → generation ≡ s.newest
took-newest s name child generation taken chosen =
    let same : Took name child generation ≡ Took chosen.name chosen.child s.newest = taken ∙ chosen.replied in
    cc

-- so it is of the newest generation
pub newest-taken : IsTakenForChosen → (who : ℕ) (name : ConnName) (child generation : ℕ) (b b' : SeenBook) → after b.base b.history ≡ b.state
    → Run b'.base b'.history → b' ≡ book_with_entry who (event.Accept name.slot) b → IsTaken b.state name child generation
    → generation ≡ b.state.newest
newest-taken law who name child generation b b' state run is taken =
    let here = subst (λ (x : SeenBook). Run x.base x.history) is run in
    took-newest b.state name child generation taken
    (subst (λ (s : State). IsTakenFor s name.slot (taken_reply b.state name.slot)) state
    (law b.base b.history [] (entry_of who (event.Accept name.slot) b) name.slot here refl))
