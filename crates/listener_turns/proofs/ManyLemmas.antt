-- A turn in which many events were made.
use Rattle.std.proofs.Common.{◌≡◌, inl, ℕ, zero, suc, ◌<◌, ◌≤◌, Bool, true, false, List, [], ◌∷◌, ◌++◌, filter, map, length, nat_lt, take, Option, None, refl, sym, ap, subst, ◌∙◌, append-nil, append_assoc, arith}
use Rattle.std.proofs.lemmas.Bool.Decides.{nat_tests}
use Rattle.std.proofs.lemmas.List.{map-append}
use Rattle.std.proofs.lemmas.List.Elements.{filter-append}
use Rattle.std.proofs.lemmas.List.Sums.{fold-append}
use Rattle.std.specs.Prelude.{Result, OnErr, OnOk, slice_index}
use Rattle.std.specs.declared.result.Result.TheVariants.{Ok, Err}
use Rattle.atomic_table.specs.Table.{Me}
use Rattle.mpm_base.specs.declared.conn.ConnName.{ConnName}
use Rattle.conn_machine.specs.declared.event.Entry.{Entry}
use Rattle.conn_machine.specs.declared.event.Event.{Event}
use Rattle.conn_machine.specs.declared.event.Event.TheVariants as event
use Rattle.conn_machine.specs.declared.event.Reply.{Reply}
use Rattle.conn_machine.specs.declared.folded.Folded.{Folded}
use Rattle.conn_machine.specs.declared.state.State.{State}
use Rattle.conn_machine.specs.Folds.{opening_record}
use Rattle.conn_machine.specs.Runs.{AreEntriesOf, after, entries_of, has_after, is_of_pass, row_after, row_of}
use Rattle.conn_machine.specs.Table.{next}
use Rattle.table_rule.specs.declared.view.Origin.{Origin}
use Rattle.table_rule.specs.declared.view.View.{View}
use Rattle.table_rule.specs.Histories.{ArePermitted, IsPermitted}
use Rattle.table_rule.specs.Ledgers.{MayGiveBack}
use Rattle.board_lock.specs.Passes.{GaveBack, TookTurn}
use Rattle.board_book.specs.declared.faults.BoardFault.{BoardFault}
use Rattle.board_book.specs.declared.faults.BoardFault.TheVariants as fault
use Rattle.board.specs.Board.{SeenBoard}
use Rattle.board_book.specs.Book.{SeenBook}
use Rattle.board_book.specs.Faults.{IsRefusedFor}
use Rattle.board.specs.Ledger.{ledger_of}
use Rattle.board.specs.ReportLine.{line_of}
use Rattle.board_turns.specs.Books.{book_of, state_of}
use Rattle.board_turns.specs.GoesOnInside.{MadeEvent}
use Rattle.board_turns.specs.Rests.{TurnsRestOn}
use Rattle.board_turns.specs.Turns.{HadATurn, HadTurn}
use Rattle.board_turns.proofs.FoundLemmas.{own_row, same_state}
use Rattle.board_turns.proofs.GoesOnLemmas.{ended_by, only_entry}
use Rattle.board_turns.proofs.ThenLemmas.{left_kept, stays_as}
use Rattle.listener_turns.specs.PartsInside.{MadeEvents}
use Rattle.listener_turns.specs.Signals.{SignalsAll, ready_events}

-- ## With the board in hand

-- the pass made none
pub none_made : (who : ℕ) (b : SeenBoard) → MadeEvents who [] b b
none_made who b = record {
  base = refl;
  folded = refl;
  passes = refl;
  ended = ([], sym (append-nil b.ended));
  adds = ([], sym (append-nil b.book.history), tt);
  events_are = refl;
}

-- one
pub one_made : (who : ℕ) (e : Event) (a b : SeenBoard) → MadeEvent who e a b → MadeEvents who (e ∷ []) a b
one_made who e a b m = record {
  base = ap (λ (x : SeenBook). x.base) m.book;
  folded = ap (λ (x : SeenBook). x.folded) m.book;
  passes = ap (λ (x : SeenBook). x.passes) m.book;
  ended = m.ended;
  adds = m.adds;
  events_are = ap (map (λ (x : Entry). x.event)) (only_entry who e a b m);
}

-- some, and then some more
entries_more : (p : ℕ) (base : State) (f : Folded) (h a b : List Entry) → AreEntriesOf p base f h a → AreEntriesOf p base f (h ++ a) b
    → AreEntriesOf p base f h (a ++ b)
entries_more p base f h [] b first rest = subst (λ l. AreEntriesOf p base f l b) (append-nil h) rest
entries_more p base f h (x ∷ a) b first rest = (
  first.0,
  entries_more p base f (h ++ x ∷ []) a b first.1 (subst (λ l. AreEntriesOf p base f l b) (sym (append_assoc h (x ∷ []) a)) rest),
)

pub more_made : (who : ℕ) (xs ys : List Event) (a b c : SeenBoard) → MadeEvents who xs a b → MadeEvents who ys b c → MadeEvents who (xs ++ ys) a c
more_made who xs ys a b c m more =
    let here : AreEntriesOf who a.book.base a.book.folded (a.book.history ++ m.adds.0) more.adds.0 =
    subst (λ h. AreEntriesOf who a.book.base a.book.folded h more.adds.0) m.adds.1
    (subst (λ f. AreEntriesOf who a.book.base f b.book.history more.adds.0) m.folded
    (subst (λ s. AreEntriesOf who s b.book.folded b.book.history more.adds.0) m.base more.adds.2)) in
    record {
      base = more.base ∙ m.base;
      folded = more.folded ∙ m.folded;
      passes = more.passes ∙ m.passes;
      ended = (
        m.ended.0 ++ more.ended.0,
        more.ended.1 ∙ ap (λ l. l ++ more.ended.0) m.ended.1 ∙ append_assoc a.ended m.ended.0 more.ended.0,
      );
      adds = (
        m.adds.0 ++ more.adds.0,
        more.adds.1 ∙ ap (λ l. l ++ more.adds.0) m.adds.1 ∙ append_assoc a.book.history m.adds.0 more.adds.0,
        entries_more who a.book.base a.book.folded a.book.history m.adds.0 more.adds.0 m.adds.2 here,
      );
      events_are = map-append (λ (x : Entry). x.event) m.adds.0 more.adds.0
          ∙ ap (λ l. l ++ map (λ (x : Entry). x.event) more.adds.0) m.events_are
          ∙ ap (λ l. xs ++ l) more.events_are;
    }

-- by another spelling of the events
pub made_as : (who : ℕ) (xs ys : List Event) (a b : SeenBoard) → xs ≡ ys → MadeEvents who xs a b → MadeEvents who ys a b
made_as who xs ys a b same m = subst (λ es. MadeEvents who es a b) same m

-- ## What needs no permit, and leaves the pass what it has

-- a pass with these credits may make the event, whatever its permit, and has the connection that it had behind it
pub record IsQuiet (credits : List ℕ) (e : Event) : Type 0 where
  pub permitted : (permit : Option ℕ) (s : State) → IsPermitted permit credits s e
  pub keeps : (had : Option ConnName) (answer : Reply) → has_after had e answer ≡ had

abbrev pub AreQuiet : List ℕ → List Event → Type 0
AreQuiet credits [] = Unit {0}
AreQuiet credits (e ∷ events) = IsQuiet credits e × AreQuiet credits events

pub quiet_ready : (credits slots : List ℕ) → AreQuiet credits (map event.Ready slots)
quiet_ready credits [] = tt
quiet_ready credits (slot ∷ slots) = (record { permitted = λ permit s. tt; keeps = λ had answer. refl }, quiet_ready credits slots)

pub quiet_start : (credits children : List ℕ) → AreQuiet credits (map event.StartChild children)
quiet_start credits [] = tt
quiet_start credits (k ∷ children) = (record { permitted = λ permit s. tt; keeps = λ had answer. refl }, quiet_start credits children)

pub quiet_retire : (credits children : List ℕ) → ((k : ℕ) → slice_index credits k ≡ 0) → AreQuiet credits (map event.Retire children)
quiet_retire credits [] none = tt
quiet_retire credits (k ∷ children) none = (record { permitted = λ permit s. none k; keeps = λ had answer. refl }, quiet_retire credits children none)

permitted_entries : (permit : Option ℕ) (credits : List ℕ) (s : State) (entries : List Entry) → AreQuiet credits (map (λ (e : Entry). e.event) entries)
    → ArePermitted permit credits s entries
permitted_entries permit credits s [] quiet = tt
permitted_entries permit credits s (e ∷ entries) quiet =
    (quiet.0.permitted permit s, permitted_entries permit credits (next s e.event) entries quiet.1)

kept_by : (p : ℕ) (had : Option ConnName) (e : Entry) (entries : List Entry) (b : Bool) → is_of_pass p e ≡ b
    → ((h : Option ConnName) (answer : Reply) → has_after h e.event answer ≡ h) → ((h : Option ConnName) → row_after h (entries_of p entries) ≡ h)
    → row_after had (entries_of p (e ∷ entries)) ≡ had
kept_by p had e entries true is keeps rest = rw is (rest (has_after had e.event e.reply) ∙ keeps had e.reply)
kept_by p had e entries false is keeps rest = rw is (rest had)

kept_rows : (credits : List ℕ) (p : ℕ) (had : Option ConnName) (entries : List Entry) → AreQuiet credits (map (λ (e : Entry). e.event) entries)
    → row_after had (entries_of p entries) ≡ had
kept_rows credits p had [] quiet = refl
kept_rows credits p had (e ∷ entries) quiet =
    kept_by p had e entries (is_of_pass p e) refl quiet.0.keeps (λ h. kept_rows credits p h entries quiet.1)

row_of_more : (p : ℕ) (a b : List Entry) → row_of p (a ++ b) ≡ row_after (row_of p a) (entries_of p b)
row_of_more p a b =
    ap (row_after None) (filter-append (is_of_pass p) a b)
    ∙ fold-append (λ (now : Option ConnName) (e : Entry). has_after now e.event e.reply) None (entries_of p a) (entries_of p b)

-- ## The turn

-- it may be given back
pub may_leave_all : {K : Type 0} (v w : Me (Option K) View) (who : ℕ) (events : List Event) (old new : SeenBoard) → TurnsRestOn → TookTurn v w (ledger_of old)
    → v.0.who.number ≡ who → MadeEvents who events old new → AreQuiet v.0.credits events → MayGiveBack w.0 (ledger_of new)
may_leave_all v w who events old new rests took number m quiet =
    let f = took.is_found in
    let whole =
    rests.entries v.0.origin f.left (ledger_of old) w.0.seen m.adds.0 who f.parts (subst (λ n. n < v.0.origin.passes) number f.number) m.adds.2 in
    let has : AreQuiet w.0.credits (map (λ (e : Entry). e.event) m.adds.0) =
    subst (λ (cs : List ℕ). AreQuiet cs (map (λ (e : Entry). e.event) m.adds.0)) (sym (ap (λ (q : View). q.credits) took.view))
    (subst (AreQuiet v.0.credits) (sym m.events_are) quiet) in (
      ledger_of old,
      ap (λ (u : View). u.turn) took.view,
      record {
        added = m.adds.0;
        change = inl record {
          base = m.base;
          record_is = m.folded;
          history = m.adds.1;
          texts = (map line_of m.ended.0, ap (map line_of) m.ended.1 ∙ map-append line_of old.ended m.ended.0);
        };
        passes = m.passes;
        entries = subst (λ (u : View). AreEntriesOf u.who.number u.origin.state (opening_record u.origin.passes) w.0.seen m.adds.0) (sym took.view)
            (subst (λ p. AreEntriesOf p v.0.origin.state (opening_record v.0.origin.passes) w.0.seen m.adds.0) (sym number) whole);
        permitted = permitted_entries w.0.hand.permit w.0.credits (after w.0.origin.state w.0.seen) m.adds.0 has;
      },
    )

module _ {K : Type 0} (v w u : Me (Option K) View) (who : ℕ) (events : List Event) (old new : SeenBoard) (rests : TurnsRestOn) (took : TookTurn v w (ledger_of old)) (gave : GaveBack w u (ledger_of new)) (number : v.0.who.number ≡ who) (m : MadeEvents who events old new) where
  -- what its pass has seen then
  seen_all : u.0.seen ≡ w.0.seen ++ m.adds.0
  seen_all = ended_by w.0 u.0.seen (ledger_of old) (ledger_of new) m.adds.0 gave.ends (ap (λ (q : View). q.turn) took.view) m.folded m.adds.1

  pub had_all : HadTurn w.0.seen events v.0 u.0
  had_all =
      let f = took.is_found in
      let whole = rests.entries v.0.origin f.left (ledger_of old) w.0.seen m.adds.0 who f.parts (subst (λ n. n < v.0.origin.passes) number f.number) m.adds.2 in
      record {
        others = f.seen;
        made = f.made;
        few = f.few;
        added = m.adds.0;
        entries = subst (λ p. AreEntriesOf p v.0.origin.state (opening_record v.0.origin.passes) w.0.seen m.adds.0) (sym number) whole;
        events_are = m.events_are;
        seen = seen_all;
        stays = stays_as v w u (ledger_of old) (ledger_of new) took gave;
        left = left_kept v w u (ledger_of old) (ledger_of new) m.adds.0 took gave m.folded m.adds.1 seen_all;
      }

  -- the state behind all of that is that of the board
  pub state_left : after old.book.base old.book.history ≡ old.book.state → after new.book.base new.book.history ≡ new.book.state → state_of u.0 ≡ new.book.state
  state_left before behind =
      ap (λ (o : Origin). after o.state u.0.seen) (stays_as v w u (ledger_of old) (ledger_of new) took gave).origin
      ∙ ap (after v.0.origin.state) seen_all
      ∙ rests.joins v.0.origin.state w.0.seen m.adds.0
      ∙ ap (λ s. after s m.adds.0) (same_state v w old rests took before ∙ sym before)
      ∙ sym (rests.joins old.book.base old.book.history m.adds.0)
      ∙ ap (after old.book.base) (sym m.adds.1)
      ∙ ap (λ s. after s new.book.history) (sym m.base)
      ∙ behind

  -- the pass has the connection that it had
  pub row_all : AreQuiet v.0.credits events → u.0.row ≡ v.0.row
  row_all quiet =
      let p = v.0.who.number in
      (stays_as v w u (ledger_of old) (ledger_of new) took gave).row
      ∙ ap (row_of p) seen_all
      ∙ row_of_more p w.0.seen m.adds.0
      ∙ kept_rows v.0.credits p (row_of p w.0.seen) m.adds.0 (subst (AreQuiet v.0.credits) (sym m.events_are) quiet)
      ∙ own_row v w old rests took

-- why a call is refused is seen in the state alone
refused_by : (f : BoardFault) (a b : SeenBook) → a.state ≡ b.state → IsRefusedFor f a → IsRefusedFor f b
refused_by fault.Halted a b same why = rw (sym same) why
refused_by fault.NoMemory a b same why = record { going = rw (sym same) why.going }

pub refused_left : (v : View) (b : SeenBook) (f : BoardFault) → state_of v ≡ b.state → IsRefusedFor f b → IsRefusedFor f (book_of v)
refused_left v b f same why = refused_by f b (book_of v) (sym same) why

-- ## Signals

ready_more : (count : ℕ) (xs ys : List ℕ) → ready_events count (xs ++ ys) ≡ ready_events count xs ++ ready_events count ys
ready_more count xs ys =
    ap (map event.Ready) (filter-append (λ slot. nat_lt slot count) xs ys)
    ∙ map-append event.Ready (filter (λ slot. nat_lt slot count) xs) (filter (λ slot. nat_lt slot count) ys)

-- those so far, and one more
pub signals_more : (count count' slot : ℕ) (slots : List ℕ) (a b c : SeenBoard) → count' ≡ count → MadeEvents 0 (ready_events count slots) a b
    → MadeEvents 0 (ready_events count' (slot ∷ [])) b c → MadeEvents 0 (ready_events count (slots ++ slot ∷ [])) a c
signals_more count count' slot slots a b c same before one =
    made_as 0 (ready_events count slots ++ ready_events count (slot ∷ [])) (ready_events count (slots ++ slot ∷ [])) a c (sym (ready_more count slots (slot ∷ [])))
    (more_made 0 (ready_events count slots) (ready_events count (slot ∷ [])) a b c before
    (subst (λ n. MadeEvents 0 (ready_events n (slot ∷ [])) b c) same one))

-- whether the table has a slot
pub is_beyond : (len count slot : ℕ) → len ≡ count → len ≤ slot → nat_lt slot count ≡ false
is_beyond len count slot same beyond = grind (arith, nat_tests)

pub is_within : (len count slot : ℕ) → len ≡ count → slot < len → nat_lt slot count ≡ true
is_within len count slot same within = grind (arith, nat_tests)

-- a slot that the table has
pub signals_one : (count slot : ℕ) (a b : SeenBoard) → nat_lt slot count ≡ true → MadeEvent 0 (event.Ready slot) a b
    → MadeEvents 0 (ready_events count (slot ∷ [])) a b
signals_one count slot a b there m =
    made_as 0 (event.Ready slot ∷ []) (ready_events count (slot ∷ [])) a b (rw there refl) (one_made 0 (event.Ready slot) a b m)

-- and one that it doesn't have
pub signals_none : (count slot : ℕ) (a : SeenBoard) → nat_lt slot count ≡ false → MadeEvents 0 (ready_events count (slot ∷ [])) a a
signals_none count slot a none = made_as 0 [] (ready_events count (slot ∷ [])) a a (rw none refl) (none_made 0 a)

-- as many of a list as it has are all
pub take_whole : {X : Type 0} (n : ℕ) (xs : List X) → length xs ≤ n → take n xs ≡ xs
take_whole zero [] enough = refl
take_whole (suc n) [] enough = refl
take_whole zero (x ∷ xs) enough = absurd (omega (arith, enough))
take_whole (suc n) (x ∷ xs) enough = ap (λ l. x ∷ l) (take_whole n xs (omega (arith, enough)))

pub on_err : {T E P : Type 0} (r : Result T E) → P → OnErr r P
on_err (Ok x) p = tt
on_err (Err x) p = p

-- all of some slots were signalled, or the first of them
pub record HasSignalled (count : ℕ) (old new : SeenBoard) : Type 0 where
  pub slots : List ℕ
  pub made : MadeEvents 0 (ready_events count slots) old new

pub has_signalled : {T E : Type 0} (r : Result T E) (count : ℕ) (slots : List ℕ) (a b : SeenBoard) → OnOk r (MadeEvents 0 (ready_events count slots) a b)
    → OnErr r ((first : List ℕ) × (slot : ℕ) × (rest : List ℕ) × (slots ≡ first ++ slot ∷ rest) × MadeEvents 0 (ready_events count first) a b)
    → HasSignalled count a b
has_signalled (Ok x) count slots a b ok err = record { slots = slots; made = ok }
has_signalled (Err x) count slots a b ok err = record { slots = err.0; made = err.4 }

-- behind the turn
pub quiet_signals : (credits : List ℕ) (count : ℕ) (slots : List ℕ) → AreQuiet credits (ready_events count slots)
quiet_signals credits count slots = quiet_ready credits (filter (λ slot. nat_lt slot count) slots)

pub signals_left : {K : Type 0} (v w u : Me (Option K) View) (slots : List ℕ) (old new : SeenBoard) → TurnsRestOn → TookTurn v w (ledger_of old)
    → GaveBack w u (ledger_of new) → v.0.who.number ≡ 0 → (m : MadeEvents 0 (ready_events (length old.book.state.rows) slots) old new)
    → after old.book.base old.book.history ≡ old.book.state → after new.book.base new.book.history ≡ new.book.state
    → new.book.state.rows ≡ old.book.state.rows → SignalsAll slots v.0 u.0
signals_left v w u slots old new rests took gave number m before behind rows =
    let events = ready_events (length old.book.state.rows) slots in
    let state = state_left v w u 0 events old new rests took gave number m before behind in
    let count : length old.book.state.rows ≡ length (state_of u.0).rows = sym (ap (λ (s : State). length s.rows) state ∙ ap length rows) in
    subst (λ n. HadATurn (ready_events n slots) v.0 u.0) count (w.0.seen, had_all v w u 0 events old new rests took gave number m)
