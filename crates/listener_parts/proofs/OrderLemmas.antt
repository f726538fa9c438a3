-- What an order makes of what pass 0 has seen.
use Rattle.std.proofs.Common.{◌≡◌, ℕ, zero, suc, ◌+◌, ◌==◌, Bool, true, false, List, [], ◌∷◌, ◌++◌, map, cond, zero-add, refl, sym, ap, subst, ◌∙◌, append-nil, append_assoc, if◌then◌else◌, arith}
use Rattle.std.proofs.lemmas.List.Elements.{filter-append}
use Rattle.std.proofs.lemmas.List.Sums.{sum_by-append, sum_by-cons}
use Rattle.std.specs.Prelude.{filter, fold, Option, None, Some, Result, OnOk, IfErr, slice_index, length, ⊤}
use Rattle.std.specs.declared.result.Result.TheVariants.{Ok, Err}
use Rattle.conn_machine.specs.declared.event.Commanded.{Commanded}
use Rattle.conn_machine.specs.declared.event.Commanded.TheVariants.{Graceful, GracefulStop, Refused, Stop}
use Rattle.conn_machine.specs.declared.event.Entry.{Entry}
use Rattle.conn_machine.specs.declared.event.Event.{Event}
use Rattle.conn_machine.specs.declared.event.Event.TheVariants as event
use Rattle.conn_machine.specs.declared.event.Reply.{Reply}
use Rattle.conn_machine.specs.declared.folded.Folded.{Folded}
use Rattle.conn_machine.specs.declared.state.State.{State}
use Rattle.conn_machine.specs.BetweenTurns.{OthersLeaveTheRestToTheListener}
use Rattle.conn_machine.specs.Events.{count_events, is_listeners, is_order}
use Rattle.conn_machine.specs.Folds.{opening_record}
use Rattle.conn_machine.specs.Frames.{OwnEventsTellTheFrame, OwnEventsTellWhatWasTaken, frame_command, frame_of}
use Rattle.conn_machine.specs.Made.{AreMade, AreMadeBehind, HasSeen}
use Rattle.conn_machine.specs.Runs.{AreEntriesOf, after, entries_of}
use Rattle.conn_machine.specs.Table.{next, reply}
use Rattle.table_rule.specs.declared.view.Origin.{Origin}
use Rattle.table_rule.specs.declared.view.View.{View}
use Rattle.board_book.specs.Book.{SeenBook, book_with_entry, entry_of}
use Rattle.board_book.specs.Editions.{edition_of, orders_in}
use Rattle.board.specs.Editions.{GenerationsKeepTheirEditions}
use Rattle.board_turns.specs.Books.{book_of, state_of, whole_book}
use Rattle.board_turns.specs.Rests.{TurnsRestOn}
use Rattle.board_turns.specs.Turns.{HadATurn, HadTurn, state_found}
use Rattle.listener_parts.specs.Did.{LeavesAlone}
use Rattle.listener_parts.specs.Orders.{BeginsEdition, DoesNoOrder, DoesOrder, orders_behind}
use Rattle.listener_parts.proofs.AloneLemmas.{others_alone, turn_alone}
use Rattle.listener_parts.proofs.DidLemmas.{did_turn}

-- ## How many orders there were

-- what isn't of the listener's kinds is no order
not_order : (e : Event) → is_listeners e ≡ false → is_order e ≡ false
not_order (event.Accept slot) none = refl
not_order (event.Park name kind) none = refl
not_order (event.Hold name) none = refl
not_order (event.Queue name) none = refl
not_order (event.Start name) none = refl
not_order (event.Answer name ask) none = refl
not_order (event.Linger name why) none = refl
not_order (event.Close name why how) none = refl
not_order (event.Ready slot) none = refl
not_order (event.Tick m) none = refl
not_order (event.StartChild k) none = refl
not_order (event.Command c) none = absurd (cc)
not_order (event.Retire k) none = refl

abbrev own_kinds : List Entry → List Entry
own_kinds history = filter (λ (e : Entry). is_listeners e.event) history

count_more : (e : Entry) (history : List Entry) → count_events is_order (e ∷ history) ≡ cond (is_order e.event) 1 0 + count_events is_order history
count_more e history = sum_by-cons (λ (x : Entry). cond (is_order x.event) 1 0) e history

orders_cons : (e : Entry) (history : List Entry) (kind : Bool) → is_listeners e.event ≡ kind → count_events is_order history ≡ count_events is_order (own_kinds history)
    → count_events is_order (e ∷ history) ≡ count_events is_order (own_kinds (e ∷ history))
orders_cons e history true is rest =
    rw is
    (count_more e history ∙ ap (λ (n : ℕ). cond (is_order e.event) 1 0 + n) rest ∙ sym (count_more e (own_kinds history)))
orders_cons e history false is rest =
    let none : cond (is_order e.event) 1 0 ≡ 0 = ap (λ (b : Bool). cond b 1 0) (not_order e.event is) in
    rw is (count_more e history ∙ ap (λ (n : ℕ). n + count_events is_order history) none ∙ zero-add (count_events is_order history) ∙ rest)

orders_kinds : (history : List Entry) → count_events is_order history ≡ count_events is_order (own_kinds history)
orders_kinds [] = refl
orders_kinds (e ∷ history) = orders_cons e history (is_listeners e.event) refl (orders_kinds history)

-- they are as many where the listener's entries are the same
orders_same : OwnEventsTellWhatWasTaken → (base : State) (f : Folded) (a b : List Entry) → AreMade base f a → AreMade base f b → entries_of 0 a ≡ entries_of 0 b
    → count_events is_order a ≡ count_events is_order b
orders_same law base f a b made made' same =
    orders_kinds a ∙ ap (count_events is_order) (law.kinds base f a made ∙ ap own_kinds same ∙ sym (law.kinds base f b made')) ∙ sym (orders_kinds b)

-- the first of a history was made so too
pub made_front : (base : State) (f : Folded) (before a b : List Entry) → AreMadeBehind base f before (a ++ b) → AreMadeBehind base f before a
made_front base f before [] b made = tt
made_front base f before (e ∷ a) b made = (made.0, made_front base f (before ++ e ∷ []) a b made.1)

own_seen : (v : View) (history : List Entry) → v.who.number ≡ 0 → HasSeen v.who.number v.seen history → entries_of 0 history ≡ entries_of 0 v.seen
own_seen v history number seen =
    ap (entries_of 0) seen.1 ∙ filter-append (λ (e : Entry). e.pass == 0) v.seen seen.0
    ∙ ap (λ l. entries_of 0 v.seen ++ l) (subst (λ (p : ℕ). entries_of p seen.0 ≡ []) number seen.2) ∙ append-nil (entries_of 0 v.seen)

-- so they are where others went on
orders_found : OwnEventsTellWhatWasTaken → (v : View) (history : List Entry) → v.who.number ≡ 0
    → AreMade v.origin.state (opening_record v.origin.passes) history → HasSeen v.who.number v.seen history
    → orders_in (whole_book v.origin history) ≡ orders_in (book_of v)
orders_found law v history number made seen =
    let front : AreMade v.origin.state (opening_record v.origin.passes) v.seen =
    made_front v.origin.state (opening_record v.origin.passes) [] v.seen seen.0
    (subst (AreMade v.origin.state (opening_record v.origin.passes)) seen.1 made) in
    ap (λ (n : ℕ). (opening_record v.origin.passes).orders + n)
    (orders_same law v.origin.state (opening_record v.origin.passes) history v.seen made front (own_seen v history number seen))

-- ## The book behind an order

one_entry : (added : List Entry) (e : Event) → map (λ (x : Entry). x.event) added ≡ e ∷ [] → (x : Entry) × (added ≡ x ∷ []) × (x.event ≡ e)
one_entry [] e is = absurd (cc)
one_entry (x ∷ []) e is = (x, refl, cc)
one_entry (x ∷ y ∷ added) e is = absurd (cc)

same_entry : (x y : Entry) → x.pass ≡ y.pass → x.ordinal ≡ y.ordinal → x.event ≡ y.event → x.reply ≡ y.reply → x ≡ y
same_entry x y p o d r =
    ap (λ (n : ℕ). record x { pass = n }) p ∙ ap (λ (n : ℕ). record x { pass = y.pass; ordinal = n }) o
    ∙ ap (λ (h : Event). record x { pass = y.pass; ordinal = y.ordinal; event = h }) d
    ∙ ap (λ (a : Reply). record { pass = y.pass; ordinal = y.ordinal; event = y.event; reply = a }) r

-- the entry of the turn is the one that the pass makes of the event in the book that the turn found
pub entry_is : (found : List Entry) (e : Event) (old new : View) → old.who.number ≡ 0 → (t : HadTurn found (e ∷ []) old new)
    → t.added ≡ entry_of 0 e (whole_book old.origin found) ∷ []
entry_is found e old new number t =
    let one = one_entry t.added e t.events_are in
    let made = (subst (AreEntriesOf old.who.number old.origin.state (opening_record old.origin.passes) found) one.1 t.entries).0 in
    let b = whole_book old.origin found in
    let same : one.0 ≡ entry_of 0 one.0.event b =
    same_entry one.0 (entry_of 0 one.0.event b) (made.pass ∙ number)
    (made.ordinal ∙ ap (λ (p : ℕ). slice_index (opening_record old.origin.passes).ordinals p + length (entries_of p found)) number) refl made.replied in
    one.1 ∙ ap (λ (x : Entry). x ∷ []) (same ∙ ap (λ (h : Event). entry_of 0 h b) one.2)

-- so the book behind it is the one with that entry
book_then : TurnsRestOn → (found : List Entry) (e : Event) (old new : View) → old.who.number ≡ 0 → HadTurn found (e ∷ []) old new
    → book_of new ≡ book_with_entry 0 e (whole_book old.origin found)
book_then rests found e old new number t =
    let x = entry_of 0 e (whole_book old.origin found) in
    let seen : new.seen ≡ found ++ x ∷ [] = t.seen ∙ ap (λ l. found ++ l) (entry_is found e old new number t) in
    ap (λ (o : Origin). whole_book o new.seen) t.stays.origin ∙ ap (whole_book old.origin) seen
    ∙ ap (λ (s : State). record (whole_book old.origin (found ++ x ∷ [])) { state = s }) (rests.step old.origin.state found x)

-- ## An order

count_one : (order : Commanded) (x : Entry) (b : Bool) → is_order (event.Command order) ≡ b → x.event ≡ event.Command order → (n : ℕ)
    → n + count_events is_order (x ∷ []) ≡ orders_behind order n
count_one order x true here is n = rw (is, here) refl
count_one order x false here is n = rw (is, here) (omega arith)

orders_more : (order : Commanded) (history : List Entry) (x : Entry) → x.event ≡ event.Command order → (first : ℕ)
    → first + count_events is_order (history ++ x ∷ []) ≡ orders_behind order (first + count_events is_order history)
orders_more order history x is first =
    let both : count_events is_order (history ++ x ∷ []) ≡ count_events is_order history + count_events is_order (x ∷ []) =
    sum_by-append (λ (e : Entry). cond (is_order e.event) 1 0) history (x ∷ []) in
    let one = count_one order x (is_order (event.Command order)) refl is (first + count_events is_order history) in
    let sum : first + count_events is_order (history ++ x ∷ []) ≡ first + count_events is_order history + count_events is_order (x ∷ []) = omega (arith, both) in
    sum ∙ one

edition_by : GenerationsKeepTheirEditions → TurnsRestOn → OthersLeaveTheRestToTheListener → OwnEventsTellWhatWasTaken → (order : Commanded) (found : List Entry) (old new : View)
    → old.who.number ≡ 0 → HadTurn found (event.Command order ∷ []) old new → BeginsEdition order old new
edition_by law rests others kinds (Graceful shape) found old new number t =
    let newest : (state_found old found).newest ≡ (state_of old).newest = (others_alone others old found number t.made t.others).stands.newest in
    let count : orders_in (whole_book old.origin found) ≡ orders_in (book_of old) = orders_found kinds old found number t.made t.others in
    let here : edition_of (book_with_entry 0 (event.Command (Graceful shape)) (whole_book old.origin found)) ((state_found old found).newest + 1)
    ≡ Some (orders_in (whole_book old.origin found) + 1) =
    law.newest (whole_book old.origin found) 0 shape (rests.begun old.origin.state old.origin.passes) refl in
    ap (λ (n : ℕ). edition_of (book_of new) (n + 1)) (sym newest)
    ∙ ap (λ (b : SeenBook). edition_of b ((state_found old found).newest + 1)) (book_then rests found (event.Command (Graceful shape)) old new number t)
    ∙ here ∙ ap (λ (n : ℕ). Some (n + 1)) count
edition_by law rests others kinds (Refused reason) found old new number t = tt
edition_by law rests others kinds (GracefulStop until) found old new number t = tt
edition_by law rests others kinds (Stop reason) found old new number t = tt

does_order : GenerationsKeepTheirEditions → TurnsRestOn → OthersLeaveTheRestToTheListener → OwnEventsTellTheFrame → OwnEventsTellWhatWasTaken → (order : Commanded)
    (found : List Entry) (old new : View) → old.who.number ≡ 0 → new.row ≡ None → HadTurn found (event.Command order ∷ []) old new → DoesOrder order old new
does_order law rests others frame kinds order found old new number row t =
    let e = event.Command order in
    let alone = others_alone others old found number t.made t.others in
    let book = book_then rests found e old new number t in
    let before : frame_of (state_found old found) ≡ frame_of (state_of old) =
    rw (alone.stands.moment, alone.stands.accepted, alone.stands.newest, alone.stands.shape, alone.stands.going, alone.children) refl in
    record {
      did = did_turn (e ∷ []) None old new (found, t) row;
      frame =
          ap (λ (b : SeenBook). frame_of b.state) book ∙ frame.step (state_found old found) e ∙ ap (λ f. frame_command f order) before;
      orders =
          ap orders_in book
          ∙ orders_more order found (entry_of 0 e (whole_book old.origin found)) refl (opening_record old.origin.passes).orders
          ∙ ap (orders_behind order) (orders_found kinds old found number t.made t.others);
      edition = edition_by law rests others kinds order found old new number t;
    }

pub order_done : {T E : Type 0} → GenerationsKeepTheirEditions → TurnsRestOn → OthersLeaveTheRestToTheListener → OwnEventsTellTheFrame → OwnEventsTellWhatWasTaken
    → (order : Commanded) (old new : View) (r : Result T E) → old.who.number ≡ 0 → new.row ≡ None
    → OnOk r (HadATurn (event.Command order ∷ []) old new) → OnOk r (DoesOrder order old new)
order_done law rests others frame kinds order old new (Ok x) number row turn = does_order law rests others frame kinds order turn.0 old new number row turn.1
order_done law rests others frame kinds order old new (Err e) number row turn = tt

none_order : TurnsRestOn → OthersLeaveTheRestToTheListener → OwnEventsTellWhatWasTaken → (old new : View) → old.who.number ≡ 0 → new.row ≡ None
    → HadATurn [] old new → DoesNoOrder old new
none_order rests others kinds old new number row (found, t) =
    let none : t.added ≡ [] = nothing t.added t.events_are in
    let seen : new.seen ≡ found = t.seen ∙ ap (λ l. found ++ l) none ∙ append-nil found in
    record {
      did = did_turn [] None old new (found, t) row;
      rest = turn_alone others rests [] old new number tt (found, t);
      orders =
          ap (λ (o : Origin). orders_in (whole_book o new.seen)) t.stays.origin ∙ ap (λ l. orders_in (whole_book old.origin l)) seen
          ∙ orders_found kinds old found number t.made t.others;
    }
  where
    nothing : (added : List Entry) → map (λ (x : Entry). x.event) added ≡ [] → added ≡ []
    nothing [] is = refl
    nothing (x ∷ added) is = absurd (cc)

pub order_refused : {T E : Type 0} → TurnsRestOn → OthersLeaveTheRestToTheListener → OwnEventsTellWhatWasTaken → (old new : View) (r : Result T E)
    → old.who.number ≡ 0 → new.row ≡ None → IfErr r (λ e. HadATurn [] old new) → IfErr r (λ e. DoesNoOrder old new)
order_refused rests others kinds old new (Ok x) number row turn = tt
order_refused rests others kinds old new (Err e) number row turn = none_order rests others kinds old new number row turn

-- its credits are the same
pub order_credits : {T E : Type 0} (order : Commanded) (old new : View) (r : Result T E) → OnOk r (HadATurn (event.Command order ∷ []) old new)
    → IfErr r (λ e. HadATurn [] old new) → new.credits ≡ old.credits
order_credits order old new (Ok x) turn err = turn.1.stays.credits
order_credits order old new (Err e) turn err = err.1.stays.credits
