-- What a board shows of its run.
use Rattle.std.proofs.Common.{◌≡◌, ℕ, ◌≤◌, ◌+◌, ◌<◌, min, Bool, true, false, ◌||◌, cond, List, [], ◌∷◌, ◌++◌, length, map, count_by, Option, None, Some, IfSome, refl, sym, ap, subst, ◌∙◌, arith, ◌⊎◌, inl, inr}
use Rattle.std.proofs.lemmas.Bool.{cases_order}
use Rattle.std.proofs.lemmas.List.{append-nil}
use Rattle.std.proofs.lemmas.List.Sums.{sum_by-cons}
use Rattle.std.specs.List.{list_any}
use Rattle.mpm_base.specs.Count.{greatest_count}
use Rattle.mpm_base.specs.Front.{client_at}
use Rattle.mpm_base.specs.Link.{LinkTold}
use Rattle.conn_machine.specs.declared.row.Row.{Row}
use Rattle.conn_machine.specs.declared.event.Entry.{Entry}
use Rattle.conn_machine.specs.declared.folded.Folded.{Folded}
use Rattle.conn_machine.specs.declared.state.State.{State}
use Rattle.conn_machine.specs.Rows.{is_live}
use Rattle.conn_machine.specs.Runs.{Run, after, first_row, IsInPassOrderFrom}
use Rattle.conn_machine.specs.Made.{AreMade, AreOfPasses}
use Rattle.conn_machine.specs.Passes.{EachHasItsOwn}
use Rattle.conn_machine.specs.Sound.{IsSound}
use Rattle.conn_machine.specs.Events.{count_events, is_accept, is_close}
use Rattle.conn_machine.specs.Laws.{StaysSound}
use Rattle.conn_state.specs.Answered.{SeenEnded, IsAnswered, IsEnded}
use Rattle.conn_state.specs.Known.{KnownOutside, TellsFrom}
use Rattle.board_book.specs.Book.{SeenBook, folded_book}
use Rattle.board.specs.Board.{SeenBoard, Agrees, AreEnded, EndedOfOutside}
use Rattle.board.specs.Ranks.{AllTell, has_rank}
use Rattle.board.specs.ReportLine.{line_of}
use Rattle.listener_round.specs.Links.{EndsEachOnce, EndsLinks}
use Rattle.listener.specs.Tells.{Receives, AllReceive}
use Rattle.listener_round.specs.Commands.{TellsStop}
use Rattle.listener_round.specs.FirstNumbers.{opened_by}
use Rattle.listener_round.specs.declared.run_numbers.RunNumbers.{RunNumbers}
use Rattle.listener.specs.Listen.{HasClosedAll, IsRunFrom}
use Rattle.listener_round.specs.Folded.{HasFolded, whole_book}
use Rattle.board_book.specs.ClosedDown.{HasNoLive, IsClosedDown}
use Rattle.listener_round.specs.FrontInside.{clients_known}
use Rattle.board_book.specs.Timely.{AreTimely}
use Rattle.listener.specs.Served.{all_ended}

-- ## The history

-- the history of a board is a run from the state before it, each state of which is sound
pub run-from : (n : RunNumbers) (b : SeenBoard) → AreOfPasses n.passes b.book.history → AreTimely b.book.base b.book.history
    → ((s : State) (history : List Entry) → IsSound s → Run s history → StaysSound s history)
    → Run b.book.base b.book.history → IsInPassOrderFrom b.book.folded b.book.history → AreMade b.book.base b.book.folded b.book.history
    → EachHasItsOwn b.book.base (first_row b.book.folded) → after b.book.base b.book.history ≡ b.book.state → IsSound b.book.base
    → TellsStop b.book → Agrees b → IsRunFrom n b
run-from n b few timely law run order made own state sound stop agrees = record {
  run = run;
  order = order;
  made = made;
  own = own;
  few = few;
  timely = timely;
  state = state;
  stays_sound = law b.book.base b.book.history sound run;
  stop = stop;
  agrees = agrees;
}

-- ## The connections that were taken

none-cons : (r : Row) (rows : List Row) (live : Bool) → is_live r ≡ live → (live || list_any is_live rows) ≡ false
    → (list_any is_live rows ≡ false → count_by is_live rows ≡ 0) → count_by is_live (r ∷ rows) ≡ 0
none-cons r rows true is none rest = absurd (cc)
none-cons r rows false is none rest =
    sum_by-cons (λ (x : Row). cond (is_live x) 1 0) r rows ∙ rw is (omega (arith, rest none))

-- no row is counted where none is live
none-counted : (rows : List Row) → list_any is_live rows ≡ false → count_by is_live rows ≡ 0
none-counted [] none = refl
none-counted (r ∷ rows) none = none-cons r rows (is_live r) refl none (none-counted rows)

-- where no connection is live each that was taken ended, those that were folded among both
pub closed-all : (n : RunNumbers) (b : SeenBoard) (whole : HasFolded n (folded_book (map line_of b.ended) b.book))
    → count_events is_accept whole.entries ≡ count_events is_close whole.entries + count_by is_live (after (opened_by n) whole.entries).rows
    → length b.ended ≡ count_events is_close b.book.history → after b.book.base b.book.history ≡ b.book.state
    → IsClosedDown b.book.state → HasClosedAll b
closed-all n b whole closed_or_live many state down =
    let accepted : b.book.folded.accepted + count_events is_accept b.book.history ≡ 0 + count_events is_accept whole.entries =
    ap (λ (f : Folded). f.accepted) whole.record_is in
    let closed : b.book.folded.closed + count_events is_close b.book.history ≡ 0 + count_events is_close whole.entries =
    ap (λ (f : Folded). f.closed) whole.record_is in
    let none = none-counted (after (opened_by n) whole.entries).rows (subst HasNoLive (sym state ∙ whole.base_is) down.live) in
    record { down = down; ended = omega (arith, closed_or_live, accepted, closed, none, many) }

-- ## What ended connections received

-- all that the client sends came
all-came : (sent : List ℕ) (t : LinkTold) → t.received ++ t.coming ≡ sent → t.coming ≡ [] → t.received ≡ sent
all-came sent t offered none = sym (append-nil t.received) ∙ ap (λ (xs : List ℕ). t.received ++ xs) (sym none) ∙ offered

-- a connection that ended received a front of what its client sends, and all of it where the client had done
receives : (clients : List (List ℕ)) (e : SeenEnded) → TellsFrom clients e.told → IsEnded e → Receives clients e
receives clients e tells ended =
    let answered : IsAnswered e.cause e.tail e.site e.limits e.notes tells.t = subst (λ (o : Option LinkTold). IfSome o (IsAnswered e.cause e.tail e.site e.limits e.notes)) tells.told_is ended.answered in
    record {
      t = tells.t;
      told_is = tells.told_is;
      known = tells.known;
      front = (tells.t.coming, sym tells.offered);
      whole = λ done. all-came (client_at clients tells.t.rank) tells.t tells.offered (answered.answers.received done).came;
    }

-- the client of an ended connection, where the type knows the clients
client-of : (known : Option (List (List ℕ))) (clients : List (List ℕ)) (told : Option LinkTold) → known ≡ Some clients
    → IfSome known (λ all. TellsFrom all told) → TellsFrom clients told
client-of known clients told is client = subst (λ (o : Option (List (List ℕ))). IfSome o (λ all. TellsFrom all told)) is client

-- so did each
pub all-receive : (k : KnownOutside) (clients : List (List ℕ)) (book : SeenBook) (ended : List SeenEnded) → k.clients ≡ Some clients → AreEnded ended
    → EndedOfOutside (Some k) book ended → AllReceive clients ended
all-receive k clients book [] is are ends = tt
all-receive k clients book (e ∷ ended) is are ends =
    (receives clients e (client-of k.clients clients e.told is ends.0.client) are.0, all-receive k clients book ended is are.1 ends.1)

-- ## The links of ended connections

-- each is that of a client, and tells, where the type knows the clients
all-tell : (k : KnownOutside) (clients : List (List ℕ)) (book : SeenBook) (ended : List SeenEnded) → k.clients ≡ Some clients
    → EndedOfOutside (Some k) book ended → AllTell ended
all-tell k clients book [] is ends = tt
all-tell k clients book (e ∷ ended) is ends =
    let tells = client-of k.clients clients e.told is ends.0.client in
    ((tells.t, tells.told_is), all-tell k clients book ended is ends.1)

pub known-tell : (known : Option KnownOutside) (clients : List (List ℕ)) (book : SeenBook) (ended : List SeenEnded) → clients_known known ≡ Some clients
    → EndedOfOutside known book ended → AllTell ended
known-tell None clients book ended is ends = absurd (cc is)
known-tell (Some k) clients book ended is ends = all-tell k clients book ended is ends

-- those of both lists do
tell-both : (ended ended' : List SeenEnded) → AllTell ended → AllTell ended' → AllTell (ended ++ ended')
tell-both [] ended' first second = second
tell-both (e ∷ ended) ended' first second = (first.0, tell-both ended ended' first.1 second)

pub known-receive : (known : Option KnownOutside) (clients : List (List ℕ)) (book : SeenBook) (ended : List SeenEnded) → clients_known known ≡ Some clients
    → AreEnded ended → EndedOfOutside known book ended → AllReceive clients ended
known-receive None clients book ended is are ends = absurd (cc is)
known-receive (Some k) clients book ended is are ends = all-receive k clients book ended is are ends

-- what is 1 below a bound and 0 from there on is 1 at most
at-most-one : (number bound count : ℕ) → (number < bound → count ≡ 1) → (bound ≤ number → count ≡ 0) → count ≤ 1
at-most-one number bound count below above = by (cases_order number bound) where
  by : (number ≡ bound) ⊎ ((number < bound) ⊎ (bound < number)) → count ≤ 1
  by (inl same) = omega (arith, above (omega (arith, same)))
  by (inr (inl lower)) = omega (arith, below lower)
  by (inr (inr higher)) = omega (arith, above (omega (arith, higher)))

-- where no connection is live their links are, each once, links that the table took, and as many
pub ends-links : (known : Option KnownOutside) (clients : List (List ℕ)) (n : RunNumbers) (b : SeenBoard) (before : HasFolded n b.book)
    → EndedOfOutside known (whole_book n before.entries) before.ended → clients_known known ≡ Some clients
    → (whole : HasFolded n (folded_book (map line_of b.ended) b.book)) → whole.ended ≡ all_ended n b before
    → ((number : ℕ) → AllTell whole.ended → list_any is_live (after (opened_by n) whole.entries).rows ≡ false
    → (after (opened_by n) whole.entries).accepted < greatest_count → number < (after (opened_by n) whole.entries).accepted
    → count_by (has_rank number) whole.ended ≡ 1)
    → ((number : ℕ) → AllTell whole.ended → (after (opened_by n) whole.entries).accepted < greatest_count
    → (after (opened_by n) whole.entries).accepted ≤ number → count_by (has_rank number) whole.ended ≡ 0)
    → (after (opened_by n) whole.entries).accepted ≡ min (count_events is_accept whole.entries) greatest_count
    → length whole.ended ≡ count_events is_close whole.entries
    → count_events is_accept whole.entries ≡ count_events is_close whole.entries + count_by is_live (after (opened_by n) whole.entries).rows
    → after b.book.base b.book.history ≡ b.book.state → EndedOfOutside known b.book b.ended → IsClosedDown b.book.state
    → EndsLinks b.book.state (all_ended n b before)
ends-links known clients n b before folded knows whole ended_is once no_other counted many closed_or_live state outside down few =
    let tell : AllTell whole.ended =
    subst AllTell (sym ended_is)
    (tell-both before.ended b.ended (known-tell known clients (whole_book n before.entries) before.ended knows folded)
    (known-tell known clients b.book b.ended knows outside)) in
    let same : b.book.state ≡ after (opened_by n) whole.entries = sym state ∙ whole.base_is in
    let accepted : b.book.state.accepted ≡ (after (opened_by n) whole.entries).accepted = ap (λ (s : State). s.accepted) same in
    let few' : (after (opened_by n) whole.entries).accepted < greatest_count = omega (arith, few, accepted) in
    let live : list_any is_live (after (opened_by n) whole.entries).rows ≡ false = subst HasNoLive same down.live in
    let none = none-counted (after (opened_by n) whole.entries).rows live in
    let above : (number : ℕ) → b.book.state.accepted ≤ number → count_by (has_rank number) whole.ended ≡ 0 =
    λ number beyond. no_other number tell few' (omega (arith, beyond, accepted)) in
    let one : (number : ℕ) → number < b.book.state.accepted → count_by (has_rank number) whole.ended ≡ 1 =
    λ number below. once number tell live few' (omega (arith, below, accepted)) in
    let all : EndsEachOnce b.book.state whole.ended =
    record {
      tell = tell;
      once = λ number. at-most-one number b.book.state.accepted (count_by (has_rank number) whole.ended) (one number) (above number);
      taken = above;
      as_many = omega (arith, many, closed_or_live, none, counted, few', accepted);
    } in
    subst (EndsEachOnce b.book.state) ended_is all

-- what those received that were folded, and those that are kept
receive-both : (clients : List (List ℕ)) (ended ended' : List SeenEnded) → AllReceive clients ended → AllReceive clients ended'
    → AllReceive clients (ended ++ ended')
receive-both clients [] ended' first second = second
receive-both clients (e ∷ ended) ended' first second = (first.0, receive-both clients ended ended' first.1 second)

pub all-received : (known : Option KnownOutside) (clients : List (List ℕ)) (n : RunNumbers) (b : SeenBoard) (before : HasFolded n b.book)
    → EndedOfOutside known (whole_book n before.entries) before.ended → clients_known known ≡ Some clients → AreEnded b.ended
    → EndedOfOutside known b.book b.ended → AllReceive clients (all_ended n b before)
all-received known clients n b before folded knows are outside =
    receive-both clients before.ended b.ended
    (known-receive known clients (whole_book n before.entries) before.ended knows before.answered folded)
    (known-receive known clients b.book b.ended knows are outside)
