-- What a turn was, and some turns, one behind the other.
use Rattle.std.proofs.Common.{◌≡◌, ℕ, ◌<◌, true, List, [], ◌∷◌, ◌++◌, map, Option, refl, sym, ap, subst, ◌∙◌, append-nil, append_assoc, eq-eqb}
use Rattle.std.proofs.lemmas.List.{map-append}
use Rattle.std.proofs.lemmas.List.Elements.{filter-append}
use Rattle.std.specs.Prelude.{Result, IfErr, OnErr, OnOk}
use Rattle.std.specs.declared.result.Result.TheVariants.{Ok, Err}
use Rattle.atomic_table.specs.Table.{Me}
use Rattle.conn_machine.specs.declared.event.Entry.{Entry}
use Rattle.conn_machine.specs.declared.event.Event.{Event}
use Rattle.conn_machine.specs.declared.folded.Folded.{Folded}
use Rattle.conn_machine.specs.declared.state.State.{State}
use Rattle.conn_machine.specs.Folds.{opening_record}
use Rattle.conn_machine.specs.Runs.{AreEntriesOf, after, entries_of, is_of_pass, own_events}
use Rattle.conn_machine.specs.States.{is_halted}
use Rattle.table_rule.specs.declared.view.View.{View}
use Rattle.table_rule.specs.declared.view.Who.{Who}
use Rattle.board_lock.specs.Passes.{GaveBack, TookTurn}
use Rattle.mpm_base.specs.declared.conn.Ask.{Ask}
use Rattle.mpm_base.specs.declared.conn.Cause.{Cause}
use Rattle.mpm_base.specs.declared.conn.ConnName.{ConnName}
use Rattle.mpm_base.specs.declared.conn.Tail.TheVariants.{Direct}
use Rattle.mpm_base.specs.declared.note.Note.{Note}
use Rattle.conn_machine.specs.declared.event.Event.TheVariants as event
use Rattle.conn_machine.specs.Table.{cell_at}
use Rattle.conn_state.specs.declared.turn.LastTurn.TheVariants as last_turn
use Rattle.conn_state.specs.Answered.{IsEndOf, SeenEnded}
use Rattle.conn_state.specs.Conn.{SeenConn}
use Rattle.conn_state.specs.Turns.{TakesNote}
use Rattle.board_book.specs.declared.faults.BoardFault.{BoardFault}
use Rattle.board_book.specs.declared.faults.BoardFault.TheVariants as fault
use Rattle.board.specs.Board.{SeenBoard}
use Rattle.board_book.specs.Book.{AddsOnly, SeenBook}
use Rattle.board_book.specs.Decided.{IsDecided}
use Rattle.board.specs.Events.{IsAdded}
use Rattle.board_book.specs.Faults.{IsRefusedFor}
use Rattle.board.specs.Ledger.{ledger_of}
use Rattle.board_turns.specs.Books.{book_of}
use Rattle.board_turns.specs.Carries.{LackedResponse, TookResponse, WasRefused}
use Rattle.board_turns.specs.GoesOnInside.{MadeEvent}
use Rattle.board_turns.specs.Rests.{TurnsRestOn}
use Rattle.board_turns.specs.Turns.{HadATurn, HadTurn, HadTurns, state_found}
use Rattle.board_turns.proofs.FoundLemmas.{same_state}
use Rattle.board_turns.proofs.GoesOnLemmas.{made_added, only_entry, seen_then}
use Rattle.board_turns.proofs.ThenLemmas.{kept_more, kept_same, left_kept, nothing_seen, nothing_state, stays_as}

-- ## One turn

-- in which the pass made an event
pub had_one : {K : Type 0} (v w u : Me (Option K) View) (who : ℕ) (e : Event) (old new : SeenBoard) → TurnsRestOn → TookTurn v w (ledger_of old)
    → GaveBack w u (ledger_of new) → v.0.who.number ≡ who → MadeEvent who e old new → HadTurn w.0.seen (e ∷ []) v.0 u.0
had_one v w u who e old new rests took gave number m =
    let f = took.is_found in
    let whole = rests.entries v.0.origin f.left (ledger_of old) w.0.seen m.adds.0 who f.parts (subst (λ n. n < v.0.origin.passes) number f.number) m.adds.2 in
    record {
      others = f.seen;
      made = f.made;
      few = f.few;
      added = m.adds.0;
      entries = subst (λ p. AreEntriesOf p v.0.origin.state (opening_record v.0.origin.passes) w.0.seen m.adds.0) (sym number) whole;
      events_are = ap (map (λ (x : Entry). x.event)) (only_entry who e old new m);
      seen = seen_then v w u who e old new took gave m ∙ ap (λ l. w.0.seen ++ l) (sym (only_entry who e old new m));
      stays = stays_as v w u (ledger_of old) (ledger_of new) took gave;
      left = left_kept v w u (ledger_of old) (ledger_of new) m.adds.0 took gave (ap (λ (b : SeenBook). b.folded) m.book) m.adds.1 (seen_then v w u who e old new took gave m ∙ ap (λ l. w.0.seen ++ l) (sym (only_entry who e old new m)));
    }

-- by the event's other name
pub had_event : {K : Type 0} (v w u : Me (Option K) View) (who : ℕ) (e d : Event) (old new : SeenBoard) → TurnsRestOn → TookTurn v w (ledger_of old)
    → GaveBack w u (ledger_of new) → v.0.who.number ≡ who → MadeEvent who e old new → e ≡ d → HadATurn (d ∷ []) v.0 u.0
had_event v w u who e d old new rests took gave number m same =
    subst (λ x. HadATurn (x ∷ []) v.0 u.0) same (w.0.seen, had_one v w u who e old new rests took gave number m)

-- in which it made none
pub had_none : {K : Type 0} (v w u : Me (Option K) View) (b : SeenBoard) → TookTurn v w (ledger_of b) → GaveBack w u (ledger_of b)
    → HadTurn w.0.seen [] v.0 u.0
had_none v w u b took gave =
    let f = took.is_found in record {
      others = f.seen;
      made = f.made;
      few = f.few;
      added = [];
      entries = tt;
      events_are = refl;
      seen = nothing_seen v w u b took gave ∙ sym (append-nil w.0.seen);
      stays = stays_as v w u (ledger_of b) (ledger_of b) took gave;
      left = left_kept v w u (ledger_of b) (ledger_of b) [] took gave refl (sym (append-nil b.book.history)) (nothing_seen v w u b took gave ∙ sym (append-nil w.0.seen));
    }

-- by the board that was left, which is the one that was found
pub had_none_as : {K : Type 0} (v w u : Me (Option K) View) (old new : SeenBoard) → TookTurn v w (ledger_of old) → GaveBack w u (ledger_of new)
    → new ≡ old → HadTurn w.0.seen [] v.0 u.0
had_none_as v w u old new took gave same = had_none v w u old took (subst (λ (b : SeenBoard). GaveBack w u (ledger_of b)) same gave)

-- ## A refusal

-- why a call is refused is seen in the state alone
refused_by : (f : BoardFault) (a b : SeenBook) → a.state ≡ b.state → IsRefusedFor f a → IsRefusedFor f b
refused_by fault.Halted a b same why = ap (λ (s : State). is_halted s.going) (sym same) ∙ why
refused_by fault.NoMemory a b same why = record { going = ap (λ (s : State). is_halted s.going) (sym same) ∙ why.going }

-- so it is by what the pass has seen then
pub refused_then : {K : Type 0} (v w u : Me (Option K) View) (old new : SeenBoard) (f : BoardFault) → TurnsRestOn → TookTurn v w (ledger_of old)
    → GaveBack w u (ledger_of new) → new ≡ old → after old.book.base old.book.history ≡ old.book.state → IsRefusedFor f old.book → IsRefusedFor f (book_of u.0)
refused_then v w u old new f rests took gave same state why =
    refused_by f old.book (book_of u.0)
    (sym (nothing_state v w u old rests took (subst (λ (b : SeenBoard). GaveBack w u (ledger_of b)) same gave) state)) why

-- ## By what each call of the board tells

-- the cell of a connection that was started
pub started_cell : {K : Type 0} (v w u : Me (Option K) View) (who : ℕ) (old new : SeenBoard) (called name : ConnName) (cell : ℕ) → TurnsRestOn → TookTurn v w (ledger_of old)
    → GaveBack w u (ledger_of new) → v.0.who.number ≡ who → name ≡ called → MadeEvent who (event.Start name) old new
    → after old.book.base old.book.history ≡ old.book.state → cell ≡ cell_at old.book.state name.slot
    → (found : List Entry) × HadTurn found (event.Start called ∷ []) v.0 u.0 × (cell ≡ cell_at (state_found v.0 found) called.slot)
started_cell v w u who old new called name cell rests took gave number named m state is = (
  w.0.seen,
  subst (λ n. HadTurn w.0.seen (event.Start n ∷ []) v.0 u.0) named (had_one v w u who (event.Start name) old new rests took gave number m),
  is ∙ ap (λ n. cell_at old.book.state n.slot) named ∙ ap (λ s. cell_at s called.slot) (sym (same_state v w old rests took state)),
)

-- a response that was decided and taken
pub took_response : {K : Type 0} (v w u : Me (Option K) View) (who : ℕ) (old new : SeenBoard) (c c' : SeenConn) (name : ConnName) (ask : Ask) (note : Note) → TurnsRestOn
    → TookTurn v w (ledger_of old) → GaveBack w u (ledger_of new) → v.0.who.number ≡ who → name ≡ c.name → MadeEvent who (event.Answer name ask) old new
    → after old.book.base old.book.history ≡ old.book.state → IsDecided old.book.state name ask note → TakesNote note c c' → TookResponse ask v.0 u.0 c c'
took_response v w u who old new c c' name ask note rests took gave number named m state decided takes = record {
  found = w.0.seen;
  note = note;
  turn = subst (λ n. HadTurn w.0.seen (event.Answer n ask ∷ []) v.0 u.0) named (had_one v w u who (event.Answer name ask) old new rests took gave number m);
  decided = subst (λ s. IsDecided s c.name ask note) (sym (same_state v w old rests took state)) (subst (λ n. IsDecided old.book.state n ask note) named decided);
  takes = takes;
}

-- one for which memory lacked
pub lacked_response : {K : Type 0} (v w u : Me (Option K) View) (who : ℕ) (old new : SeenBoard) (c c' : SeenConn) (name : ConnName) (ask : Ask) → TurnsRestOn
    → TookTurn v w (ledger_of old) → GaveBack w u (ledger_of new) → v.0.who.number ≡ who → name ≡ c.name → MadeEvent who (event.Answer name ask) old new
    → c' ≡ record c { turn = last_turn.NoMemory } → LackedResponse ask v.0 u.0 c c'
lacked_response v w u who old new c c' name ask rests took gave number named m stands = record {
  turn = had_event v w u who (event.Answer name ask) (event.Answer c.name ask) old new rests took gave number m (ap (λ n. event.Answer n ask) named);
  stands = stands;
}

-- one that the board refused to decide
pub was_refused : {K : Type 0} (v w u : Me (Option K) View) (old new : SeenBoard) (c : SeenConn) (f : BoardFault) → TurnsRestOn → TookTurn v w (ledger_of old)
    → GaveBack w u (ledger_of new) → new ≡ old → after old.book.base old.book.history ≡ old.book.state → IsRefusedFor f old.book → WasRefused f v.0 u.0 c c
was_refused v w u old new c f rests took gave same state why = record {
  turn = (w.0.seen, had_none_as v w u old new took gave same);
  why = refused_then v w u old new f rests took gave same state why;
  stands = refl;
}

-- a call that may be refused, and hands back what it was given then
pub parked_turn : {K T E : Type 0} (v w u : Me (Option K) View) (who : ℕ) (old new : SeenBoard) (e : Event) (cs : List (Option SeenConn)) (r : Result T E) → TurnsRestOn
    → TookTurn v w (ledger_of old) → GaveBack w u (ledger_of new) → v.0.who.number ≡ who → OnOk r (IsAdded who e old (record new { conns = cs }))
    → AddsOnly who old.book new.book → OnOk r (HadATurn (e ∷ []) v.0 u.0)
parked_turn v w u who old new e cs (Ok x) rests took gave number ok adds =
    (w.0.seen, had_one v w u who e old new rests took gave number (made_added who e old new cs ok adds))
parked_turn v w u who old new e cs (Err x) rests took gave number ok adds = tt

pub unparked_turn : {K T : Type 0} (v w u : Me (Option K) View) (old new : SeenBoard) (r : Result T (BoardFault × SeenConn)) → TookTurn v w (ledger_of old)
    → GaveBack w u (ledger_of new) → OnErr r (new ≡ old) → IfErr r (λ e. HadATurn [] v.0 u.0)
unparked_turn v w u old new (Ok x) took gave err = tt
unparked_turn v w u old new (Err x) took gave err = (w.0.seen, had_none_as v w u old new took gave err)

pub unparked_why : {K T : Type 0} (v w u : Me (Option K) View) (old new : SeenBoard) (r : Result T (BoardFault × SeenConn)) → TurnsRestOn → TookTurn v w (ledger_of old)
    → GaveBack w u (ledger_of new) → OnErr r (new ≡ old) → after old.book.base old.book.history ≡ old.book.state → IfErr r (λ e. IsRefusedFor e.0 old.book)
    → IfErr r (λ e. IsRefusedFor e.0 (book_of u.0))
unparked_why v w u old new (Ok x) rests took gave err state why = tt
unparked_why v w u old new (Err x) rests took gave err state why = refused_then v w u old new x.0 rests took gave err state why

-- what ended is the connection that was closed so
pub closed_as : (c : SeenConn) (why : Cause) (e : SeenEnded) → IsEndOf c why Direct e → event.Close e.name e.cause e.tail ≡ event.Close c.name why Direct
closed_as c why e ends = rw (ends.name, ends.cause, ends.tail) refl

-- ## Some turns

-- what a pass adds is its own
all_own : (p : ℕ) (base : State) (f : Folded) (history added : List Entry) → AreEntriesOf p base f history added → entries_of p added ≡ added
all_own p base f history [] are = refl
all_own p base f history (e ∷ added) are =
    let is : is_of_pass p e ≡ true = eq-eqb e.pass p are.0.pass in
    rw is (ap (λ l. e ∷ l) (all_own p base f (history ++ e ∷ []) added are.1))

own_more : (p : ℕ) (a b : List Entry) → own_events p (a ++ b) ≡ own_events p a ++ own_events p b
own_more p a b = ap (map (λ (e : Entry). e.event)) (filter-append (is_of_pass p) a b) ∙ map-append (λ (e : Entry). e.event) (entries_of p a) (entries_of p b)

-- one turn
pub one_turn : (events : List Event) (old new : View) → HadATurn events old new → HadTurns events old new
one_turn events old new (found, t) =
    let p = old.who.number in
    let none : own_events p found ≡ own_events p old.seen =
    ap (own_events p) t.others.1 ∙ own_more p old.seen t.others.0 ∙ ap (λ l. own_events p old.seen ++ map (λ (e : Entry). e.event) l) t.others.2
    ∙ append-nil (own_events p old.seen) in
    let own : own_events p t.added ≡ events =
    ap (map (λ (e : Entry). e.event)) (all_own p old.origin.state (opening_record old.origin.passes) found t.added t.entries) ∙ t.events_are in
    record {
      goes_on = (t.others.0 ++ t.added, t.seen ∙ ap (λ l. l ++ t.added) t.others.1 ∙ append_assoc old.seen t.others.0 t.added);
      made = ap (own_events p) t.seen ∙ own_more p found t.added ∙ ap (λ l. l ++ own_events p t.added) none ∙ ap (λ l. own_events p old.seen ++ l) own;
      origin = t.stays.origin;
      who = t.stays.who;
      hand = t.stays.hand;
      past = t.stays.past;
      credits = t.stays.credits;
      left = t.left;
    }

-- none
pub no_turn : (v : View) → HadTurns [] v v
no_turn v = record {
  goes_on = ([], sym (append-nil v.seen));
  made = sym (append-nil (own_events v.who.number v.seen));
  origin = refl;
  who = refl;
  hand = refl;
  past = refl;
  credits = refl;
  left = kept_same v;
}

-- some turns, and then some more
pub more_turns : (first second : List Event) (a b c : View) → HadTurns first a b → HadTurns second b c → HadTurns (first ++ second) a c
more_turns first second a b c before behind =
    let p = a.who.number in
    let same : b.who.number ≡ p = ap (λ (w : Who). w.number) before.who in
    let made : own_events p c.seen ≡ own_events p b.seen ++ second = subst (λ q. own_events q c.seen ≡ own_events q b.seen ++ second) same behind.made in
    record {
      goes_on = (
        before.goes_on.0 ++ behind.goes_on.0,
        behind.goes_on.1 ∙ ap (λ l. l ++ behind.goes_on.0) before.goes_on.1 ∙ append_assoc a.seen before.goes_on.0 behind.goes_on.0,
      );
      made = made ∙ ap (λ l. l ++ second) before.made ∙ append_assoc (own_events p a.seen) first second;
      origin = behind.origin ∙ before.origin;
      who = behind.who ∙ before.who;
      hand = behind.hand ∙ before.hand;
      past = behind.past ∙ before.past;
      credits = behind.credits ∙ before.credits;
      left = kept_more a b c before.left behind.left;
    }
