-- A connection that waited and is taken up, and what the listener knows of it then.
use Rattle.std.proofs.Common.{◌≡◌, ℕ, zero, suc, Bool, true, false, not, ◌&&◌, ◌||◌, List, [], ◌∷◌, nat_le, Option, None, Some, slice_set, slice_index_or, is_some, refl, sym, ap, subst, ◌∙◌}
use Rattle.std.proofs.lemmas.Bool.{and_parts}
use Rattle.std.specs.Option.{option_and_then}
use Rattle.std.specs.Prelude.{Result, IfErr, OnErr, OnOk}
use Rattle.std.specs.declared.result.Result.TheVariants.{Ok, Err}
use Rattle.atomic_table.specs.Table.{Me}
use Rattle.mpm_base.specs.declared.conn.Cause.{Cause}
use Rattle.mpm_base.specs.declared.conn.ConnName.{ConnName}
use Rattle.mpm_base.specs.declared.conn.Kind.{Kind}
use Rattle.mpm_base.specs.declared.conn.Kind.TheVariants.{KeepAlive}
use Rattle.conn_machine.specs.declared.event.Event.TheVariants as event
use Rattle.conn_machine.specs.declared.row.Place.{Place}
use Rattle.conn_machine.specs.declared.row.Place.TheVariants.{Vacant, Spent, Held, Parked, Queued, Working}
use Rattle.conn_machine.specs.declared.row.Row.{Row}
use Rattle.conn_machine.specs.declared.state.State.{State}
use Rattle.conn_machine.specs.Children.{is_stopping}
use Rattle.conn_machine.specs.Rows.{is_from, is_lingering, is_parked, live_row, lives_and}
use Rattle.conn_machine.specs.Runs.{after}
use Rattle.conn_machine.specs.Sound.{IsSound, KindFits, KnowsItsKind}
use Rattle.conn_machine.specs.States.{child_of, is_halted, is_signalled}
use Rattle.conn_machine.specs.Table.{held_row, is_allowed, may_be_held, next, signal_after_hold}
use Rattle.conn_state.specs.Conn.{SeenConn}
use Rattle.conn_state.specs.Known.{KnownOutside}
use Rattle.table_rule.specs.declared.view.View.{View}
use Rattle.table_rule.specs.declared.view.Who.{Who}
use Rattle.board_lock.specs.Passes.{GaveBack, TookTurn}
use Rattle.board_book.specs.declared.faults.BoardFault.{BoardFault}
use Rattle.board.specs.Board.{SeenBoard}
use Rattle.board_book.specs.Book.{AddsOnly, SeenBook}
use Rattle.board.specs.Editions.{IsOfGeneration}
use Rattle.board.specs.Events.{IsAdded}
use Rattle.board_book.specs.Finds.{FindsRow, cause_of, kind_of, waits_for}
use Rattle.board.specs.Fits.{Fits, IsSettled, IsSettledFrom, IsTakenUp}
use Rattle.board.specs.Ledger.{ledger_of}
use Rattle.worker_group.proofs.AnswerLemmas.{live_row-update}
use Rattle.worker_group.proofs.ServeLemmas.{alive, test-at}
use Rattle.worker_group.proofs.StartLemmas.{lives}
use Rattle.board_turns.specs.Books.{state_of}
use Rattle.board_turns.specs.GoesOnInside.{MadeEvent}
use Rattle.board_turns.specs.Rests.{TurnsRestOn}
use Rattle.board_turns.specs.Turns.{HadTurn}
use Rattle.board_turns.proofs.FoundLemmas.{same_live, same_state}
use Rattle.board_turns.proofs.GoesOnLemmas.{made_added}
use Rattle.board_turns.proofs.ThenLemmas.{edition_then, nothing_state, row_then, state_then, stays_as}
use Rattle.board_turns.proofs.TurnLemmas.{had_one}
use Rattle.listener_turns.specs.declared.held.Due.{Due}
use Rattle.listener_turns.specs.declared.held.Due.TheVariants as due
use Rattle.listener_turns.specs.Holds.{Holds, HoldsFor, TookUpFor, is_held_for, is_taken_for}
use Rattle.listener_turns.specs.PartsInside.{TookUpRow}
use Rattle.listener_turns.proofs.ListenerLemmas.{and_true, holds_still, not_set, parts_four, parts_three}

-- ## What it is taken up for

first_of : (a b c d : Bool) → a ≡ true → (a || b || c || d) ≡ true
first_of true b c d one = refl
first_of false b c d one = absurd (cc)

second_of : (a b c d : Bool) → b ≡ true → (a || b || c || d) ≡ true
second_of true b c d one = refl
second_of false true c d one = refl
second_of false false c d one = absurd (cc)

third_of : (a b c d : Bool) → c ≡ true → (a || b || c || d) ≡ true
third_of true b c d one = refl
third_of false true c d one = refl
third_of false false true d one = refl
third_of false false false d one = absurd (cc)

fourth_of : (a b c d : Bool) → d ≡ true → (a || b || c || d) ≡ true
fourth_of true b c d one = refl
fourth_of false true c d one = refl
fourth_of false false true d one = refl
fourth_of false false false true one = refl
fourth_of false false false false one = absurd (cc)

-- such a row waits
parked_for : (why : Due) (s : State) (slot : ℕ) (r : Row) → is_taken_for why s slot r ≡ true → is_parked r.place ≡ true
parked_for due.Late s slot r is = (and_parts (is_parked r.place) (nat_le r.deadline s.moment) is).0
parked_for due.Retiring s slot r is =
    (parts_four (is_parked r.place) (is_from KeepAlive r) (is_stopping (child_of s r).phase) (not (is_signalled s slot)) is).0
parked_for due.Lingering s slot r is = (parts_three (is_parked r.place) (is_lingering r) (is_signalled s slot) is).0
parked_for due.Halted s slot r is = is

-- the first to the last test by which a row may be held
abbrev late_test : State → Row → Bool
late_test s r = nat_le r.deadline s.moment

abbrev retiring_test : State → ℕ → Row → Bool
retiring_test s slot r = is_from KeepAlive r && is_stopping (child_of s r).phase && not (is_signalled s slot)

abbrev lingering_test : State → ℕ → Row → Bool
lingering_test s slot r = is_lingering r && is_signalled s slot

tests_for : (why : Due) (s : State) (slot : ℕ) (r : Row) → is_taken_for why s slot r ≡ true → (why ≡ due.Halted → is_halted s.going ≡ true)
    → (late_test s r || retiring_test s slot r || lingering_test s slot r || is_halted s.going) ≡ true
tests_for due.Late s slot r is halted =
    first_of (late_test s r) (retiring_test s slot r) (lingering_test s slot r) (is_halted s.going)
    (and_parts (is_parked r.place) (nat_le r.deadline s.moment) is).1
tests_for due.Retiring s slot r is halted =
    let parts = parts_four (is_parked r.place) (is_from KeepAlive r) (is_stopping (child_of s r).phase) (not (is_signalled s slot)) is in
    second_of (late_test s r) (retiring_test s slot r) (lingering_test s slot r) (is_halted s.going)
    (and_true (is_from KeepAlive r && is_stopping (child_of s r).phase) (not (is_signalled s slot))
    (and_true (is_from KeepAlive r) (is_stopping (child_of s r).phase) parts.1 parts.2) parts.3)
tests_for due.Lingering s slot r is halted =
    let parts = parts_three (is_parked r.place) (is_lingering r) (is_signalled s slot) is in
    third_of (late_test s r) (retiring_test s slot r) (lingering_test s slot r) (is_halted s.going)
    (and_true (is_lingering r) (is_signalled s slot) parts.1 parts.2)
tests_for due.Halted s slot r is halted =
    fourth_of (late_test s r) (retiring_test s slot r) (lingering_test s slot r) (is_halted s.going) (halted refl)

held_for : (why : Due) (s : State) (slot : ℕ) (r : Row) → is_taken_for why s slot r ≡ true → (why ≡ due.Halted → is_halted s.going ≡ true)
    → may_be_held s (is_signalled s slot) r ≡ true
held_for why s slot r is halted =
    and_true (is_parked r.place) (late_test s r || retiring_test s slot r || lingering_test s slot r || is_halted s.going) (parked_for why s slot r is)
    (tests_for why s slot r is halted)

-- the connection that was found waits
pub found_waits : (why : Due) (s : State) (name : ConnName) → FindsRow (is_taken_for why s) s (Some name)
    → lives_and (λ r. is_parked r.place) s.rows name ≡ true
found_waits why s name found =
    let is = lives (is_taken_for why s name.slot) s.rows name found in
    test-at s.rows name is.row (λ r. is_parked r.place) is.found ∙ parked_for why s name.slot is.row is.passes

-- and may be held
pub found_may : (why : Due) (s : State) (name : ConnName) → (why ≡ due.Halted → is_halted s.going ≡ true) → FindsRow (is_taken_for why s) s (Some name)
    → is_allowed s (event.Hold name) ≡ true
found_may why s name halted found =
    let is = lives (is_taken_for why s name.slot) s.rows name found in
    test-at s.rows name is.row (may_be_held s (is_signalled s name.slot)) is.found ∙ held_for why s name.slot is.row is.passes halted

-- ## What lasts of that

cleared : (signals : List Bool) (slot : ℕ) → slice_index_or (slice_set signals slot false) slot false ≡ false
cleared [] slot = refl
cleared (x ∷ signals) zero = refl
cleared (x ∷ signals) (suc slot) = cleared signals slot

-- a hold signals nothing
stays_unsignalled : (s : State) (name : ConnName) → is_signalled s name.slot ≡ false → is_signalled (next s (event.Hold name)) name.slot ≡ false
stays_unsignalled s name none =
    let goes : signal_after_hold s name.slot ≡ false = rw none refl in
    subst (λ (b : Bool). slice_index_or (slice_set s.signals name.slot b) name.slot false ≡ false) (sym goes) (cleared s.signals name.slot)

lasts_for : (why : Due) (s : State) (name : ConnName) (was : Row) → is_taken_for why s name.slot was ≡ true → (why ≡ due.Halted → is_halted s.going ≡ true)
    → is_held_for why (next s (event.Hold name)) name.slot (held_row was) ≡ true
lasts_for due.Late s name was is halted = (and_parts (is_parked was.place) (nat_le was.deadline s.moment) is).1
lasts_for due.Retiring s name was is halted =
    let parts =
    parts_four (is_parked was.place) (is_from KeepAlive was) (is_stopping (child_of s was).phase) (not (is_signalled s name.slot)) is in
    let quiet = stays_unsignalled s name (not_set (is_signalled s name.slot) parts.3) in
    and_true (is_from KeepAlive was && is_stopping (child_of s was).phase) (not (is_signalled (next s (event.Hold name)) name.slot))
    (and_true (is_from KeepAlive was) (is_stopping (child_of s was).phase) parts.1 parts.2) (ap not quiet)
lasts_for due.Lingering s name was is halted = (parts_three (is_parked was.place) (is_lingering was) (is_signalled s name.slot) is).1
lasts_for due.Halted s name was is halted = halted refl

-- ## With the board in hand

-- it waits in that place
parked_by : (p : Place) (kind : Kind) → kind_of p ≡ Some kind → p ≡ Parked kind
parked_by Vacant kind is = absurd (cc)
parked_by Spent kind is = absurd (cc)
parked_by Held kind is = absurd (cc)
parked_by (Parked other) kind is =
    let same : other ≡ kind = cc in
    ap Parked same
parked_by Queued kind is = absurd (cc)
parked_by (Working cell phase) kind is = absurd (cc)

waited_for : (s : State) (name : ConnName) (was : Row) (kind : Kind) → IsSound s → live_row s.rows name ≡ Some was → waits_for s name ≡ Some kind
    → KnowsItsKind kind was
waited_for s name was kind sound found is =
    let lives = alive s.rows name was found in
    let at : kind_of was.place ≡ Some kind = sym (ap (λ (o : Option Row). option_and_then (λ (r : Row). kind_of r.place) o) found) ∙ is in
    subst (λ (p : Place). KindFits p was) (parked_by was.place kind at) (sound.kinds name.slot was lives.at lives.live)

settled_as : (kind : Kind) (o : Option Kind) (why lingered : Option Cause) (c : SeenConn) → o ≡ Some kind → why ≡ lingered → IsSettledFrom o why c
    → IsSettled kind lingered c
settled_as kind o why lingered c is same settled =
    subst (λ (x : Option Cause). IsSettled kind x c) same (subst (λ (x : Option Kind). IsSettledFrom x why c) is settled)

-- one that waits has a kind
pub kind_there : (s : State) (name : ConnName) → lives_and (λ r. is_parked r.place) s.rows name ≡ true → waits_for s name ≡ None → ⊥
kind_there s name waits none =
    let is = lives (λ r. is_parked r.place) s.rows name waits in
    none_kind is.row.place is.passes (sym (ap (λ (o : Option Row). option_and_then (λ (r : Row). kind_of r.place) o) is.found) ∙ none)
  where
    none_kind : (p : Place) → is_parked p ≡ true → kind_of p ≡ None → ⊥
    none_kind Vacant parked none = absurd (cc)
    none_kind Spent parked none = absurd (cc)
    none_kind Held parked none = absurd (cc)
    none_kind (Parked kind) parked none = absurd (cc)
    none_kind Queued parked none = absurd (cc)
    none_kind (Working cell phase) parked none = absurd (cc)

pub took_up : (s t : State) (name : ConnName) (c : SeenConn) (kind : Kind) (lingered : Option Cause) (late : Bool) → IsSound s → t ≡ next s (event.Hold name)
    → lives_and (λ r. is_parked r.place) s.rows name ≡ true → Some kind ≡ waits_for s name → lingered ≡ cause_of s name
    → late ≡ lives_and (λ r. nat_le r.deadline s.moment) s.rows name → c.name ≡ name → IsTakenUp t c → TookUpRow s t name c kind lingered late
took_up s t name c kind lingered late sound is waits kind_is cause_is late_is named taken =
    let live = lives (λ r. is_parked r.place) s.rows name waits in
    let was = live.row in
    let alive_at = alive s.rows name was live.found in
    let now : live_row t.rows name ≡ Some (held_row was) =
    ap (λ (x : State). live_row x.rows name) is ∙ live_row-update s.rows name was held_row alive_at.at alive_at.life in
    let here : live_row t.rows name ≡ Some taken.row = subst (λ n. live_row t.rows n ≡ Some taken.row) named taken.found in
    let same : taken.row ≡ held_row was = cc (here, now) in
    let knows = waited_for s name was kind sound live.found (sym kind_is) in
    let cause : was.cause ≡ lingered = sym (cause_is ∙ ap (λ (o : Option Row). option_and_then (λ (r : Row). r.cause) o) live.found) in record {
      was = was;
      found = live.found;
      now = subst (λ n. live_row t.rows n ≡ Some (held_row was)) (sym named) now;
      kind_is = knows.own;
      cause_is = cause;
      lingers = knows.lingers ∙ ap (λ (o : Option Cause). is_some o) cause;
      late_is = late_is ∙ test-at s.rows name was (λ r. nat_le r.deadline s.moment) live.found;
      fits = subst (Fits c) same taken.fits;
      settled = settled_as kind was.from was.cause lingered c knows.own cause
          (subst (λ (r : Row). IsSettledFrom r.from r.cause c) same taken.settled);
    }

-- ## Behind the turn

-- the event, and what the connection was due for in the state that the turn found
pub took_up_for : {K : Type 0} (v w u : Me (Option K) View) (why : Due) (name : ConnName) (c : SeenConn) (old new : SeenBoard) → TurnsRestOn
    → TookTurn v w (ledger_of old) → GaveBack w u (ledger_of new) → v.0.who.number ≡ 0 → MadeEvent 0 (event.Hold name) old new
    → after old.book.base old.book.history ≡ old.book.state → FindsRow (is_taken_for why old.book.state) old.book.state (Some name) → c.name ≡ name
    → TookUpFor why c.name v.0 u.0
took_up_for v w u why name c old new rests took gave number m state finds named =
    let turn = subst (λ (n : ConnName). HadTurn w.0.seen (event.Hold n ∷ []) v.0 u.0) (sym named) (had_one v w u 0 (event.Hold name) old new rests took gave number m) in
    let here : lives_and (is_taken_for why old.book.state c.name.slot) old.book.state.rows c.name ≡ true =
    subst (λ (n : ConnName). lives_and (is_taken_for why old.book.state n.slot) old.book.state.rows n ≡ true) (sym named) finds in (
      w.0.seen,
      turn,
      subst (λ (s : State). lives_and (is_taken_for why s c.name.slot) s.rows c.name ≡ true) (sym (same_state v w old rests took state)) here,
    )

pub holds_for : {K : Type 0} (known : Option KnownOutside) (v w u : Me (Option K) View) (why : Due) (name : ConnName) (c : SeenConn) (kind : Kind) (lingered : Option Cause)
    (late : Bool) (old new : SeenBoard) → TurnsRestOn → TookTurn v w (ledger_of old) → GaveBack w u (ledger_of new) → v.0.who.number ≡ 0
    → MadeEvent 0 (event.Hold name) old new → after old.book.base old.book.history ≡ old.book.state → IsSound new.book.state
    → (why ≡ due.Halted → is_halted old.book.state.going ≡ true) → FindsRow (is_taken_for why old.book.state) old.book.state (Some name) → c.name ≡ name
    → TookUpRow old.book.state new.book.state name c kind lingered late → IsOfGeneration known new.book c.generation c.reader.limits c.site
    → HoldsFor why known u.0 c kind lingered late
holds_for known v w u why name c kind lingered late old new rests took gave number m state sound halted finds named t edition =
    let stays = stays_as v w u (ledger_of old) (ledger_of new) took gave in
    let behind = state_then v w u 0 (event.Hold name) old new rests took gave number m state in
    let is_next : new.book.state ≡ next old.book.state (event.Hold name) = ap (λ (b : SeenBook). b.state) m.book in
    let live = lives (is_taken_for why old.book.state name.slot) old.book.state.rows name finds in
    let same : live.row ≡ t.was = cc (live.found, t.found) in
    let was_due : is_taken_for why old.book.state name.slot t.was ≡ true =
    subst (λ (r : Row). is_taken_for why old.book.state name.slot r ≡ true) same live.passes in
    let lasts = lasts_for why old.book.state name t.was was_due halted in record {
      holds = record {
        turn = stays.turn;
        number = ap (λ (p : Who). p.number) stays.who ∙ number;
        row = row_then v w u 0 (event.Hold name) old new rests took gave number m ∙ ap (λ (n : ConnName). Some n) (sym named);
        edition = edition_then v w u 0 (event.Hold name) old new rests took gave number m known c.generation c.reader.limits c.site edition;
        sound = subst IsSound (sym behind) sound;
      };
      row = held_row t.was;
      found = ap (λ (s : State). live_row s.rows c.name) behind ∙ t.now;
      held = refl;
      is_due = ap (λ (s : State). is_held_for why s c.name.slot (held_row t.was)) (behind ∙ is_next)
          ∙ ap (λ (n : ConnName). is_held_for why (next old.book.state (event.Hold name)) n.slot (held_row t.was)) named ∙ lasts;
      kind_is = t.kind_is;
      cause_is = t.cause_is;
      lingers = t.lingers;
      late_is = t.late_is ∙ ap (λ (s : State). nat_le t.was.deadline s.moment) (sym (behind ∙ is_next));
      fits = t.fits;
      settled = t.settled;
    }

-- ## A wait

-- it leaves the pass none
pub parks_none : {K T E : Type 0} (v w u : Me (Option K) View) (old new : SeenBoard) (c : SeenConn) (kind : Kind) (r : Result T E) → TurnsRestOn
    → TookTurn v w (ledger_of old) → GaveBack w u (ledger_of new) → v.0.who.number ≡ 0
    → OnOk r (IsAdded 0 (event.Park c.name kind) old (record new { conns = old.conns })) → AddsOnly 0 old.book new.book → OnOk r (u.0.row ≡ None)
parks_none v w u old new c kind (Ok x) rests took gave number ok adds =
    row_then v w u 0 (event.Park c.name kind) old new rests took gave number (made_added 0 (event.Park c.name kind) old new old.conns ok adds)
parks_none v w u old new c kind (Err e) rests took gave number ok adds = tt

-- one that is refused is held still
pub parks_held : {K T : Type 0} (known : Option KnownOutside) (v w u : Me (Option K) View) (old new : SeenBoard) (c : SeenConn) (r : Result T (BoardFault × SeenConn))
    → TurnsRestOn → TookTurn v w (ledger_of old) → GaveBack w u (ledger_of new) → OnErr r (new ≡ old) → IfErr r (λ e. e.1 ≡ c)
    → after old.book.base old.book.history ≡ old.book.state → IsSound old.book.state → Holds known v.0 c → IfErr r (λ e. Holds known u.0 e.1)
parks_held known v w u old new c (Ok x) rests took gave err back state sound holds = tt
parks_held known v w u old new c (Err e) rests took gave err back state sound holds =
    subst (Holds known u.0) (sym back) (holds_still known v w u old new c rests took gave err state sound holds)

-- and its row stands as it stood
pub parks_stays : {K T : Type 0} (known : Option KnownOutside) (v w u : Me (Option K) View) (old new : SeenBoard) (c : SeenConn) (r : Result T (BoardFault × SeenConn))
    → TurnsRestOn → TookTurn v w (ledger_of old) → GaveBack w u (ledger_of new) → OnErr r (new ≡ old) → after old.book.base old.book.history ≡ old.book.state
    → Holds known v.0 c → OnErr r (live_row (state_of u.0).rows c.name ≡ live_row (state_of v.0).rows c.name)
parks_stays known v w u old new c (Ok x) rests took gave err state holds = tt
parks_stays known v w u old new c (Err e) rests took gave err state holds =
    ap (λ (s : State). live_row s.rows c.name)
    (nothing_state v w u old rests took (subst (λ (b : SeenBoard). GaveBack w u (ledger_of b)) err gave) state)
    ∙ same_live v w old c.name rests took state holds.row
