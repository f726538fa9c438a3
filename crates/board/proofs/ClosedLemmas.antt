-- The connections that ended in two histories, one behind the other, and the board whose history goes on by one entry, or is folded.
use Rattle.std.proofs.Common.{◌≡◌, ℕ, ◌+◌, ◌≤◌, cond, List, [], ◌∷◌, ◌++◌, length, map, replicate, Option, None, refl, sym, ap, subst, ◌∙◌, length-append, arith}
use Rattle.std.proofs.lemmas.List.{append-nil}
use Rattle.std.proofs.lemmas.List.Sums.{sum_by-cons}
use Rattle.conn_machine.specs.declared.event.Commanded.{Commanded}
use Rattle.conn_machine.specs.declared.event.Commanded.TheVariants.{Graceful, Refused, GracefulStop, Stop}
use Rattle.conn_machine.specs.declared.event.Event.{Event}
use Rattle.conn_machine.specs.declared.event.Event.TheVariants as event
use Rattle.conn_machine.specs.declared.event.Entry.{Entry}
use Rattle.conn_machine.specs.declared.row.Row.{Row}
use Rattle.conn_machine.specs.declared.state.State.{State}
use Rattle.conn_machine.specs.Events.{count_events, is_close}
use Rattle.conn_machine.specs.States.{unused_row}
use Rattle.conn_machine.specs.Table.{next}
use Rattle.conn_machine.specs.Runs.{after}
use Rattle.conn_machine.specs.Sound.{IsSound}
use Rattle.timeout_queues.specs.Waiting.{ParkedName}
use Rattle.conn_slots.specs.Slots.{Slot, unused_slot}
use Rattle.conn_state.specs.Conn.{SeenConn}
use Rattle.conn_state.specs.Answered.{SeenEnded, IsEnded}
use Rattle.conn_state.specs.Known.{KnownOutside, IsOfClient}
use Rattle.board_book.specs.Book.{SeenBook, entry_of, book_with_entry}
use Rattle.board_book.specs.Editions.{KeepsEditions}
use Rattle.board.specs.Editions.{GenerationsKeepTheirEditions, IsOfGeneration}
use Rattle.board.specs.Fits.{IsClosing}
use Rattle.board.specs.Board.{SeenBoard, AreClosed, AreEnded, ClosesFirst, WaitOfOutside, folded_board}
use Rattle.board.specs.BoardInside.{IsBoard}
use Rattle.board.specs.Layout.{conns_in}
use Rattle.board.specs.ReportLine.{line_of}
use Rattle.board.specs.SlotsInside.{AreUsedAlike}
use Rattle.board.proofs.BoardLemmas.{AreThere}
use Rattle.board.proofs.EventLemmas.{opening-there}
use Rattle.board.proofs.ClientLemmas.{clients_first, clients_folded, clients_stay, ended_clients, ended_stay, ended_unknown}
use Rattle.board.proofs.UseLemmas.{conns-first, first-used}

-- ## Two histories

-- what an event closes, where others come behind those that came later
closes_more : (s : State) (e : Event) (P Q : List SeenEnded → Type 0) (last : List SeenEnded)
    → ((others : List SeenEnded) → P others → Q (others ++ last)) → (ended : List SeenEnded) → ClosesFirst s e P ended → ClosesFirst s e Q (ended ++ last)
closes_more s (event.Close name why how) P Q last more [] closes = absurd closes
closes_more s (event.Close name why how) P Q last more (x ∷ ended) closes = (closes.0, more ended closes.1)
closes_more s e P Q last more ended closes = more ended closes

-- what two histories close, one behind the other, both together close
pub closed_joined : (s : State) (history more : List Entry) (ended others : List SeenEnded) → AreClosed s history ended
    → AreClosed (after s history) more others → AreClosed s (history ++ more) (ended ++ others)
closed_joined s [] more ended others closed closes = subst (λ (xs : List SeenEnded). AreClosed s more (xs ++ others)) (sym closed) closes
closed_joined s (x ∷ history) more ended others closed closes =
    closes_more s x.event (AreClosed (next s x.event) history) (AreClosed (next s x.event) (history ++ more)) others
    (λ first closed'. closed_joined (next s x.event) history more first others closed' closes) ended closed

-- each ended connection shows what one shows, where those of both lists do
pub ended_joined : (ended others : List SeenEnded) → AreEnded ended → AreEnded others → AreEnded (ended ++ others)
ended_joined [] others are more = more
ended_joined (x ∷ ended) others are more = (are.0, ended_joined ended others are.1 more)

-- ## How many there are

-- an event that closes a connection counts one
closes_count : (s : State) (e : Event) (Others : List SeenEnded → Type 0) (ended : List SeenEnded) (n : ℕ) → ClosesFirst s e Others ended
    → ((more : List SeenEnded) → Others more → length more ≡ n) → length ended ≡ cond (is_close e) 1 0 + n
closes_count s (event.Close name why how) Others [] n closes rest = absurd closes
closes_count s (event.Close name why how) Others (e ∷ ended) n closes rest = omega (arith, rest ended closes.1)
closes_count s (event.Accept slot) Others ended n closes rest = omega (arith, rest ended closes)
closes_count s (event.Park name kind) Others ended n closes rest = omega (arith, rest ended closes)
closes_count s (event.Hold name) Others ended n closes rest = omega (arith, rest ended closes)
closes_count s (event.Queue name) Others ended n closes rest = omega (arith, rest ended closes)
closes_count s (event.Start name) Others ended n closes rest = omega (arith, rest ended closes)
closes_count s (event.Answer name ask) Others ended n closes rest = omega (arith, rest ended closes)
closes_count s (event.Linger name cause) Others ended n closes rest = omega (arith, rest ended closes)
closes_count s (event.Ready slot) Others ended n closes rest = omega (arith, rest ended closes)
closes_count s (event.Tick m) Others ended n closes rest = omega (arith, rest ended closes)
closes_count s (event.StartChild k) Others ended n closes rest = omega (arith, rest ended closes)
closes_count s (event.Command c) Others ended n closes rest = omega (arith, rest ended closes)
closes_count s (event.Retire k) Others ended n closes rest = omega (arith, rest ended closes)

-- as many connections ended as were closed
pub closed_count : (s : State) (history : List Entry) (ended : List SeenEnded) → AreClosed s history ended
    → length ended ≡ count_events is_close history
closed_count s [] ended closed = ap length closed
closed_count s (x ∷ history) ended closed =
    closes_count s x.event (AreClosed (next s x.event) history) ended (count_events is_close history) closed
    (λ more closes. closed_count (next s x.event) history more closes)
    ∙ sym (sum_by-cons (λ (e : Entry). cond (is_close e.event) 1 0) x history)

-- ## The board

-- a board goes on by an event that closes nothing
pub board_on : (known : Option KnownOutside) (book : SeenBook) (slots slots' : List (Slot (Option SeenConn))) (conns' : List (Option SeenConn)) (ended : List SeenEnded) (queues queues' : List (Option ParkedName)) (room room' who : ℕ) (e : Event)
    → IsBoard known (record { book = book; conns = conns_in slots; ended = ended }) slots queues room → KeepsEditions book (book_with_entry who e book)
    → ((s : State) → ClosesFirst s e (λ others. others ≡ []) [])
    → AreThere (next book.state e).rows conns' queues' (length ended) room' → WaitOfOutside known book conns'
    → conns_in slots' ≡ conns' → AreUsedAlike slots' (next book.state e).rows
    → IsBoard known (record { book = book_with_entry who e book; conns = conns_in slots'; ended = ended }) slots' queues' room'
board_on known book slots slots' conns' ended queues queues' room room' who e is keeps closes there clients same used =
    subst (λ (cs : List (Option SeenConn)). IsBoard known (record { book = book_with_entry who e book; conns = cs; ended = ended }) slots' queues' room') (sym same)
    (record {
      agrees = record {
        waiting = there.waiting;
        closed = subst (AreClosed book.base (book.history ++ entry_of who e book ∷ [])) (append-nil ended)
            (closed_joined book.base book.history (entry_of who e book ∷ []) ended [] is.agrees.closed (closes (after book.base book.history)));
        answered = is.agrees.answered;
      };
      outside = record {
        conns = clients_stay known book (book_with_entry who e book) conns' keeps clients;
        ended = ended_stay known book (book_with_entry who e book) ended keeps is.outside.ended;
      };
      used = used;
      queued = there.queued;
      has_room = there.has_room;
    })

-- a board goes on by an event that closes a connection, which is the last that ended
pub board_closed : (known : Option KnownOutside) (book : SeenBook) (slots slots' : List (Slot (Option SeenConn))) (ended : List SeenEnded) (x : SeenEnded) (queues : List (Option ParkedName)) (room room' who : ℕ)
    → IsBoard known (record { book = book; conns = conns_in slots; ended = ended }) slots queues room → KeepsEditions book (book_with_entry who (event.Close x.name x.cause x.tail) book) → after book.base book.history ≡ book.state
    → IsClosing book.state x.name x.cause x.tail x → IsEnded x → IsOfClient known x.told → IsOfGeneration known book x.generation x.limits x.site
    → AreThere (next book.state (event.Close x.name x.cause x.tail)).rows (conns_in slots) queues (length ended + 1) room'
    → conns_in slots' ≡ conns_in slots → AreUsedAlike slots' (next book.state (event.Close x.name x.cause x.tail)).rows
    → IsBoard known (record { book = book_with_entry who (event.Close x.name x.cause x.tail) book; conns = conns_in slots'; ended = ended ++ x ∷ [] }) slots' queues room'
board_closed known book slots slots' ended x queues room room' who is keeps state_is closing shown client edition there same used =
    let e = event.Close x.name x.cause x.tail in
    let len : length (ended ++ x ∷ []) ≡ length ended + 1 = length-append ended (x ∷ []) in
    subst (λ (cs : List (Option SeenConn)). IsBoard known (record { book = book_with_entry who e book; conns = cs; ended = ended ++ x ∷ [] }) slots' queues room') (sym same)
    (record {
      agrees = record {
        waiting = there.waiting;
        closed = closed_joined book.base book.history (entry_of who e book ∷ []) ended (x ∷ []) is.agrees.closed
            (subst (λ (s : State). IsClosing s x.name x.cause x.tail x) (sym state_is) closing, refl);
        answered = ended_joined ended (x ∷ []) is.agrees.answered (shown, tt);
      };
      outside = record {
        conns = clients_stay known book (book_with_entry who e book) (conns_in slots) keeps is.outside.conns;
        ended = ended_stay known book (book_with_entry who e book) (ended ++ x ∷ []) keeps
            (ended_clients known book ended (x ∷ []) is.outside.ended (record { client = client; edition = edition }, tt));
      };
      used = used;
      queued = there.queued;
      has_room = omega (arith, len, there.has_room);
    })

-- a board goes on by an event that changes no row
pub board_same : (known : Option KnownOutside) (book : SeenBook) (slots : List (Slot (Option SeenConn))) (ended : List SeenEnded) (queues : List (Option ParkedName)) (room who : ℕ) (e : Event)
    → IsBoard known (record { book = book; conns = conns_in slots; ended = ended }) slots queues room → KeepsEditions book (book_with_entry who e book)
    → ((s : State) → ClosesFirst s e (λ others. others ≡ []) []) → (next book.state e).rows ≡ book.state.rows
    → IsBoard known (record { book = book_with_entry who e book; conns = conns_in slots; ended = ended }) slots queues room
board_same known book slots ended queues room who e is keeps closes same =
    board_on known book slots slots (conns_in slots) ended queues queues room room who e is keeps closes
    (subst (λ (rows : List Row). AreThere rows (conns_in slots) queues (length ended) room) (sym same)
    (record { waiting = is.agrees.waiting; queued = is.queued; has_room = is.has_room })) is.outside.conns refl
    (subst (λ (rows : List Row). AreUsedAlike slots rows) (sym same) is.used)

-- a command changes no row
pub command_rows : (s : State) (c : Commanded) → (next s (event.Command c)).rows ≡ s.rows
command_rows s (Graceful shape) = refl
command_rows s (Refused reason) = refl
command_rows s (GracefulStop until) = refl
command_rows s (Stop why) = refl

-- a board begins without connections, in a state without any
pub board_first : (known : Option KnownOutside) (book : SeenBook) (slots : List (Slot (Option SeenConn))) (ended : List SeenEnded) (queues : List (Option ParkedName)) (n room : ℕ)
    → book.history ≡ [] → book.state.rows ≡ replicate n unused_row → slots ≡ unused_slot n → ended ≡ []
    → queues ≡ replicate n None → IsBoard known (record { book = book; conns = conns_in slots; ended = ended }) slots queues room
board_first known book slots ended queues n room history_is rows_is slots_is ended_is queues_is =
    let none : conns_in slots ≡ replicate n None = ap conns_in slots_is ∙ conns-first n in
    let there : AreThere book.state.rows (replicate n None) queues 0 room = rw (rows_is, queues_is) (opening-there n room) in
    let used : AreUsedAlike slots book.state.rows = rw (rows_is, slots_is) (first-used (Option SeenConn) n) in
    subst (λ (cs : List (Option SeenConn)). IsBoard known (record { book = book; conns = cs; ended = ended }) slots queues room) (sym none)
    (rw ended_is
    (record {
      agrees = record { waiting = there.waiting; closed = rw history_is refl; answered = tt };
      outside = record { conns = clients_first known book n; ended = tt };
      used = used;
      queued = there.queued;
      has_room = there.has_room;
    }))

-- a board is one too of a type that knows nothing
pub board_forgotten : (known : Option KnownOutside) (b : SeenBoard) (slots : List (Slot (Option SeenConn))) (queues : List (Option ParkedName)) (room : ℕ)
    → IsBoard known b slots queues room → IsBoard None b slots queues room
board_forgotten known b slots queues room is = record {
  agrees = is.agrees;
  outside = record { conns = λ slot c has. record { client = tt; edition = tt }; ended = ended_unknown b.book b.ended };
  used = is.used;
  queued = is.queued;
  has_room = is.has_room;
}

-- a board is one too after a fold, which keeps the connections, and of those that ended none
pub board_folded : (known : Option KnownOutside) (b : SeenBoard) (slots : List (Slot (Option SeenConn))) (queues : List (Option ParkedName)) (room room' : ℕ)
    → GenerationsKeepTheirEditions → IsSound b.book.state → after b.book.base b.book.history ≡ b.book.state
    → room ≤ room' → IsBoard known b slots queues room → IsBoard known (folded_board b) slots queues room'
board_folded known b slots queues room room' law sound state_is more is = record {
  agrees = record { waiting = is.agrees.waiting; closed = refl; answered = tt };
  outside = record { conns = clients_folded law known b.book (map line_of b.ended) b.conns sound state_is is.agrees.waiting is.outside.conns; ended = tt };
  used = is.used;
  queued = is.queued;
  has_room = omega (arith, more, is.has_room);
}

-- more room was taken for those that end
pub board_roomier : (known : Option KnownOutside) (b : SeenBoard) (ended : List SeenEnded) (slots : List (Slot (Option SeenConn))) (queues : List (Option ParkedName)) (room room' : ℕ)
    → ended ≡ b.ended → room ≤ room' → IsBoard known b slots queues room → IsBoard known (record b { ended = ended }) slots queues room'
board_roomier known b ended slots queues room room' same more is =
    subst (λ (es : List SeenEnded). IsBoard known (record b { ended = es }) slots queues room') (sym same) (record {
      agrees = is.agrees;
      outside = is.outside;
      used = is.used;
      queued = is.queued;
      has_room = omega (arith, more, is.has_room);
    })
