-- What a pass knows once it gave its turn back.
use Rattle.std.proofs.Common.{◌≡◌, ◌≢◌, inl, inr, ℕ, ◌<◌, true, List, [], ◌∷◌, ◌++◌, Option, Some, None, refl, sym, ap, subst, ◌∙◌, append-nil, append_assoc, eq-eqb}
use Rattle.std.proofs.lemmas.List.{append_cancel_right}
use native.Mathlib.Decide.{ℕ_discrete}
use Rattle.atomic_table.specs.Table.{Me}
use Rattle.mpm_base.specs.declared.conn.Cause.{Cause}
use Rattle.mpm_base.specs.declared.conn.ConnName.{ConnName}
use Rattle.mpm_base.specs.declared.conn.Kind.{Kind}
use Rattle.mpm_base.specs.declared.conn.Kind.TheVariants.{Reading, KeepAlive, Writing, Linger, ShortLinger}
use Rattle.http_read.specs.declared.request.Limits.{Limits}
use Rattle.file_table.specs.Site.{SeenSite}
use Rattle.conn_machine.specs.declared.event.Entry.{Entry}
use Rattle.conn_machine.specs.declared.event.Event.{Event}
use Rattle.conn_machine.specs.declared.event.Event.TheVariants as event
use Rattle.conn_machine.specs.declared.kept.Ledger.{Ledger}
use Rattle.conn_machine.specs.declared.row.Row.{Row}
use Rattle.conn_machine.specs.declared.state.State.{State}
use Rattle.conn_machine.specs.Folds.{opening_record}
use Rattle.conn_machine.specs.Made.{AreMade}
use Rattle.conn_machine.specs.Rows.{is_queued, is_working, live_row, lives_and}
use Rattle.conn_machine.specs.Runs.{after, has_after, row_of}
use Rattle.conn_machine.specs.Sound.{IsSound}
use Rattle.conn_machine.specs.Table.{next, queued_row, served_row}
use Rattle.conn_state.specs.declared.turn.LastLinger.TheVariants as linger
use Rattle.conn_state.specs.Conn.{SeenConn, is_usable}
use Rattle.conn_state.specs.Known.{KnownOutside}
use Rattle.table_rule.specs.declared.view.LastLeft.{LastLeft}
use Rattle.table_rule.specs.declared.view.Origin.{Origin}
use Rattle.table_rule.specs.declared.view.View.{View}
use Rattle.table_rule.specs.declared.view.Who.{Who}
use Rattle.table_rule.specs.Ledgers.{IsLastLeft}
use Rattle.table_rule.specs.Views.{IsFound}
use Rattle.board_lock.specs.Passes.{GaveBack, TookTurn}
use Rattle.board.specs.Board.{SeenBoard}
use Rattle.board_book.specs.Book.{SeenBook, entry_of}
use Rattle.board.specs.Editions.{IsOfGeneration}
use Rattle.board.specs.Fits.{IsSettledFrom, IsTakenUp, WaitsAs}
use Rattle.board.specs.Ledger.{ledger_of}
use Rattle.board.specs.WholeEditions.{with_more}
use Rattle.worker_group.specs.InHandInside.{IsServed}
use Rattle.worker_group.proofs.AnswerLemmas.{live_row-update}
use Rattle.worker_group.proofs.ServeLemmas.{alive, test-at}
use Rattle.worker_group.proofs.StartLemmas.{lives}
use Rattle.board_turns.specs.Books.{book_of, state_of, whole_book}
use Rattle.board_turns.specs.Carries.{Carries, HasPermitOnly, IsCarried, Serves}
use Rattle.board_turns.specs.GoesOnInside.{MadeEvent}
use Rattle.board_turns.specs.Turns.{IsListener, KeepsLeft, StaysAs}
use Rattle.board_turns.specs.Rests.{TurnsRestOn}
use Rattle.board_turns.proofs.FoundLemmas.{left_of, own_row, same_live, same_state}
use Rattle.board_turns.proofs.GoesOnLemmas.{free_then, same_seen, seen_then}
use Rattle.board_turns.proofs.MadeLemmas.{made_adds}

-- ## Of each turn

-- what a turn leaves as it was
pub stays_as : {K : Type 0} (v w u : Me (Option K) View) (found left : Ledger) → TookTurn v w found → GaveBack w u left → StaysAs v.0 u.0
stays_as v w u found left took gave = record {
  origin = ap (λ (q : View). q.origin) gave.view ∙ ap (λ (q : View). q.origin) took.view;
  who = ap (λ (q : View). q.who) gave.view ∙ ap (λ (q : View). q.who) took.view;
  hand = ap (λ (q : View). q.hand) gave.view ∙ ap (λ (q : View). q.hand) took.view;
  past = ap (λ (q : View). q.past) gave.view ∙ ap (λ (q : View). q.past) took.view;
  credits = ap (λ (q : View). q.credits) gave.view ∙ ap (λ (q : View). q.credits) took.view;
  turn = ap (λ (q : View). q.turn) gave.view;
  row = ap (λ (q : View). q.row) gave.view ∙ ap (λ (q : View). row_of q.who.number u.0.seen) took.view;
}

pub kept_same : (v : View) → KeepsLeft v v
kept_same v = record { entries = refl; folded = refl }

pub kept_more : (a b c : View) → KeepsLeft a b → KeepsLeft b c → KeepsLeft a c
kept_more a b c before behind = record { entries = behind.entries ∙ before.entries; folded = behind.folded ∙ before.folded }

-- where a turn leaves a value that was not folded, what is folded is as it was
pub left_by : (v x u : View) (found left : Ledger) (history added : List Entry) → IsFound v found history → x.who.number ≡ v.who.number → x.left ≡ v.left
    → IsLastLeft x left u.seen u.left → left.folded ≡ found.folded → left.history ≡ found.history ++ added → u.seen ≡ history ++ added → KeepsLeft v u
left_by v x u found left history added f who was is_left record_is more seen =
    elim (ℕ_discrete v.who.number 0) [
      | yes own ↦
          let before : f.left ≡ v.left = f.own own in
          let parts = (is_left.own (who ∙ own)).0 in
          let whole : u.left.entries ++ left.history ≡ f.left.entries ++ left.history =
          sym parts.whole_is ∙ seen ∙ ap (λ l. l ++ added) f.parts.whole_is ∙ append_assoc f.left.entries found.history added
          ∙ ap (λ l. f.left.entries ++ l) (sym more) in
          record {
            entries = append_cancel_right u.left.entries f.left.entries left.history whole ∙ ap (λ (l : LastLeft). l.entries) before;
            folded = sym parts.record_is ∙ record_is ∙ f.parts.record_is ∙ ap (λ (l : LastLeft). l.folded) before;
          }
      | no other ↦
          let same : u.left ≡ v.left = is_left.other (λ z. other (sym who ∙ z)) ∙ was in
          record { entries = ap (λ (l : LastLeft). l.entries) same; folded = ap (λ (l : LastLeft). l.folded) same }
    ]

pub left_kept : {K : Type 0} (v w u : Me (Option K) View) (found left : Ledger) (added : List Entry) → TookTurn v w found → GaveBack w u left
    → left.folded ≡ found.folded → left.history ≡ found.history ++ added → u.0.seen ≡ w.0.seen ++ added → KeepsLeft v.0 u.0
left_kept v w u found left added took gave record_is more seen =
    left_by v.0 w.0 u.0 found left w.0.seen added took.is_found (ap (λ (q : View). q.who.number) took.view) (ap (λ (q : View). q.left) took.view) gave.is_left
    record_is more seen

-- each entry that the pass has seen then was made by its pass
pub made_then : {K : Type 0} (v w u : Me (Option K) View) (found left : Ledger) → TookTurn v w found → GaveBack w u left
    → AreMade u.0.origin.state (opening_record u.0.origin.passes) u.0.seen
made_then v w u found left took gave =
    let took_in : w.0.origin ≡ v.0.origin = ap (λ (q : View). q.origin) took.view in
    let gave_in : u.0.origin ≡ w.0.origin = ap (λ (q : View). q.origin) gave.view in
    subst (λ (o : Origin). AreMade o.state (opening_record o.passes) u.0.seen) (sym gave_in)
    (made_adds w.0.who.number w.0.origin.state (opening_record w.0.origin.passes) w.0.seen u.0.seen
    (subst (λ (o : Origin). AreMade o.state (opening_record o.passes) w.0.seen) (sym took_in) took.is_found.made) gave.adds)

-- pass 0 stays pass 0
pub listens_then : {K : Type 0} (v w u : Me (Option K) View) (found left : Ledger) → TookTurn v w found → GaveBack w u left → v.0.who.number ≡ 0 → IsListener u
listens_then v w u found left took gave number =
    let stays = stays_as v w u found left took gave in
    record {
      turnless = free_then w u left gave;
      number = ap (λ (p : Who). p.number) stays.who ∙ number;
      made = made_then v w u found left took gave;
      row_is = stays.row ∙ ap (λ p. row_of p u.0.seen) number;
    }

pub listener_then : {K : Type 0} (v w u : Me (Option K) View) (found left : Ledger) → TookTurn v w found → GaveBack w u left → IsListener v → IsListener u
listener_then v w u found left took gave is = listens_then v w u found left took gave is.number

-- ## Of a turn in which nothing was done

-- the pass has seen what the turn found
pub nothing_seen : {K : Type 0} (v w u : Me (Option K) View) (b : SeenBoard) → TookTurn v w (ledger_of b) → GaveBack w u (ledger_of b) → u.0.seen ≡ w.0.seen
nothing_seen v w u b took gave = same_seen w u (ledger_of b) (ap (λ (q : View). q.turn) took.view) gave.ends

-- and has the connection that it had
pub nothing_row : {K : Type 0} (v w u : Me (Option K) View) (b : SeenBoard) → TurnsRestOn → TookTurn v w (ledger_of b) → GaveBack w u (ledger_of b) → u.0.row ≡ v.0.row
nothing_row v w u b rests took gave =
    (stays_as v w u (ledger_of b) (ledger_of b) took gave).row ∙ ap (row_of v.0.who.number) (nothing_seen v w u b took gave) ∙ own_row v w b rests took

-- the state is the board's
pub nothing_state : {K : Type 0} (v w u : Me (Option K) View) (b : SeenBoard) → TurnsRestOn → TookTurn v w (ledger_of b) → GaveBack w u (ledger_of b)
    → after b.book.base b.book.history ≡ b.book.state → state_of u.0 ≡ b.book.state
nothing_state v w u b rests took gave state =
    ap (λ (o : Origin). after o.state u.0.seen) (stays_as v w u (ledger_of b) (ledger_of b) took gave).origin
    ∙ ap (after v.0.origin.state) (nothing_seen v w u b took gave) ∙ same_state v w b rests took state

-- by the board that was left, which is the one that was found
pub nothing_row_as : {K : Type 0} (v w u : Me (Option K) View) (old new : SeenBoard) → TurnsRestOn → TookTurn v w (ledger_of old) → GaveBack w u (ledger_of new) → new ≡ old
    → u.0.row ≡ v.0.row
nothing_row_as v w u old new rests took gave same =
    nothing_row v w u old rests took (subst (λ (b : SeenBoard). GaveBack w u (ledger_of b)) same gave)

-- ## Of a turn in which one event was made

module _ {K : Type 0} (v w u : Me (Option K) View) (who : ℕ) (e : Event) (old new : SeenBoard) (rests : TurnsRestOn) (took : TookTurn v w (ledger_of old)) (gave : GaveBack w u (ledger_of new)) (number : v.0.who.number ≡ who) (m : MadeEvent who e old new) where
  -- the connection that it leaves the pass
  pub row_then : u.0.row ≡ has_after v.0.row e (entry_of who e old.book).reply
  row_then =
      let p = v.0.who.number in
      (stays_as v w u (ledger_of old) (ledger_of new) took gave).row ∙ ap (row_of p) (seen_then v w u who e old new took gave m)
      ∙ sym (rests.opens v.0.origin.passes p (w.0.seen ++ entry_of who e old.book ∷ []))
      ∙ rests.goes_on (opening_record v.0.origin.passes) p w.0.seen (entry_of who e old.book) (eq-eqb who p (sym number))
      ∙ ap (λ had. has_after had e (entry_of who e old.book).reply) (rests.opens v.0.origin.passes p w.0.seen ∙ own_row v w old rests took)

  -- the state behind it
  pub state_then : after old.book.base old.book.history ≡ old.book.state → state_of u.0 ≡ new.book.state
  state_then state =
      ap (λ (o : Origin). after o.state u.0.seen) (stays_as v w u (ledger_of old) (ledger_of new) took gave).origin
      ∙ ap (after v.0.origin.state) (seen_then v w u who e old new took gave m)
      ∙ rests.step v.0.origin.state w.0.seen (entry_of who e old.book)
      ∙ ap (λ s. next s e) (same_state v w old rests took state)
      ∙ sym (ap (λ (b : SeenBook). b.state) m.book)

  -- what was of its generation still is
  pub edition_on : (known : Option KnownOutside) (generation : ℕ) (limits : Limits) (site : SeenSite) → IsOfGeneration known (book_of v.0) generation limits site
      → IsOfGeneration known (book_of u.0) generation limits site
  edition_on known generation limits site is =
      let f = took.is_found in
      let origin = (stays_as v w u (ledger_of old) (ledger_of new) took gave).origin in
      rests.editions.goes_on known (book_of v.0) (book_of u.0) (f.seen.0 ++ entry_of who e old.book ∷ []) generation limits site is
      (ap (λ (o : Origin). o.state) origin) (ap (λ (o : Origin). opening_record o.passes) origin)
      (seen_then v w u who e old new took gave m ∙ ap (λ l. l ++ entry_of who e old.book ∷ []) f.seen.1
      ∙ append_assoc v.0.seen f.seen.0 (entry_of who e old.book ∷ []))

  -- what is of its generation in the board is so in all that the pass has seen
  pub edition_then : (known : Option KnownOutside) (generation : ℕ) (limits : Limits) (site : SeenSite) → IsOfGeneration known new.book generation limits site
      → IsOfGeneration known (book_of u.0) generation limits site
  edition_then known generation limits site is =
      let more = entry_of who e old.book ∷ [] in
      let whole = whole_book v.0.origin w.0.seen in
      let left = rests.whole.goes_on whole old.book more (left_of v w old rests took) in
      let here = rests.editions.goes_on known new.book (with_more more old.book) [] generation limits site is
      (sym (ap (λ (b : SeenBook). b.base) m.book)) (sym (ap (λ (b : SeenBook). b.folded) m.book))
      (sym (ap (λ (b : SeenBook). b.history ++ []) m.book ∙ append-nil (old.book.history ++ more))) in
      let there = rests.whole.in_whole known (with_more more whole) (with_more more old.book) generation limits site left here in
      let origin = (stays_as v w u (ledger_of old) (ledger_of new) took gave).origin in
      rests.editions.goes_on known (with_more more whole) (book_of u.0) [] generation limits site there
      (ap (λ (o : Origin). o.state) origin) (ap (λ (o : Origin). opening_record o.passes) origin)
      (seen_then v w u who e old new took gave m ∙ sym (append-nil (w.0.seen ++ more)))

  -- a pass that carried a connection of this child carries it still, where the event leaves it that
  pub carries_then : (known : Option KnownOutside) (c : SeenConn) → after old.book.base old.book.history ≡ old.book.state → IsSound new.book.state
      → has_after v.0.row e (entry_of who e old.book).reply ≡ v.0.row → Carries known v.0 c → Carries known u.0 c
  carries_then known c state sound keeps carries =
      let stays = stays_as v w u (ledger_of old) (ledger_of new) took gave in record {
        turn = stays.turn;
        number = λ z. carries.number (sym (ap (λ (p : Who). p.number) stays.who) ∙ z);
        few = carries.few;
        hand = stays.hand ∙ carries.hand;
        row = row_then ∙ keeps ∙ carries.row;
        edition = edition_on known c.generation c.reader.limits c.site carries.edition;
        sound = subst IsSound (sym (state_then state)) sound;
      }

  -- and one that it leaves none has its permit alone
  pub left_then : (child : ℕ) → v.0.who.number ≢ 0 → v.0.hand ≡ record { permit = Some child; trying = None } → has_after v.0.row e (entry_of who e old.book).reply ≡ None
      → HasPermitOnly child u.0
  left_then child other hand leaves =
      let stays = stays_as v w u (ledger_of old) (ledger_of new) took gave in record {
        turn = stays.turn;
        number = λ z. other (sym (ap (λ (p : Who). p.number) stays.who) ∙ z);
        hand = stays.hand ∙ hand;
        row = row_then ∙ leaves;
      }

-- a pass whose turn did nothing has what it had
pub carries_still : {K : Type 0} (known : Option KnownOutside) (v w u : Me (Option K) View) (b : SeenBoard) (c : SeenConn) → TurnsRestOn → TookTurn v w (ledger_of b)
    → GaveBack w u (ledger_of b) → after b.book.base b.book.history ≡ b.book.state → IsSound b.book.state → Carries known v.0 c → Carries known u.0 c
carries_still known v w u b c rests took gave state sound carries =
    let stays = stays_as v w u (ledger_of b) (ledger_of b) took gave in
    let f = took.is_found in record {
      turn = stays.turn;
      number = λ z. carries.number (sym (ap (λ (p : Who). p.number) stays.who) ∙ z);
      few = carries.few;
      hand = stays.hand ∙ carries.hand;
      row = nothing_row v w u b rests took gave ∙ carries.row;
      edition = rests.editions.goes_on known (book_of v.0) (book_of u.0) f.seen.0 c.generation c.reader.limits c.site carries.edition
          (ap (λ (o : Origin). o.state) stays.origin) (ap (λ (o : Origin). opening_record o.passes) stays.origin)
          (nothing_seen v w u b took gave ∙ f.seen.1);
      sound = subst IsSound (sym (nothing_state v w u b rests took gave state)) sound;
    }

pub permit_still : {K : Type 0} (v w u : Me (Option K) View) (b : SeenBoard) (child : ℕ) → TurnsRestOn → TookTurn v w (ledger_of b) → GaveBack w u (ledger_of b)
    → HasPermitOnly child v.0 → HasPermitOnly child u.0
permit_still v w u b child rests took gave has =
    let stays = stays_as v w u (ledger_of b) (ledger_of b) took gave in record {
      turn = stays.turn;
      number = λ z. has.number (sym (ap (λ (p : Who). p.number) stays.who) ∙ z);
      hand = stays.hand ∙ has.hand;
      row = nothing_row v w u b rests took gave ∙ has.row;
    }

-- by the board that was left, which is the one that was found
pub permit_left : {K : Type 0} (v w u : Me (Option K) View) (old new : SeenBoard) (child : ℕ) → TurnsRestOn → TookTurn v w (ledger_of old) → GaveBack w u (ledger_of new)
    → new ≡ old → HasPermitOnly child v.0 → HasPermitOnly child u.0
permit_left v w u old new child rests took gave same has =
    permit_still v w u old child rests took (subst (λ (b : SeenBoard). GaveBack w u (ledger_of b)) same gave) has

-- ## A connection that was queued

-- its row is on its way to a worker
queued_found : (s : State) (name : ConnName) (row : Row) → live_row s.rows name ≡ Some row → live_row (next s (event.Queue name)).rows name ≡ Some (queued_row row)
queued_found s name row found =
    let is = alive s.rows name row found in
    live_row-update s.rows name row queued_row is.at is.life

pub carried_then : {K : Type 0} (known : Option KnownOutside) (v w u : Me (Option K) View) (who child : ℕ) (old new : SeenBoard) (c : SeenConn) (name : ConnName) (row : Row)
    → TurnsRestOn → TookTurn v w (ledger_of old) → GaveBack w u (ledger_of new) → v.0.who.number ≡ who → child < 32 → HasPermitOnly child v.0
    → MadeEvent who (event.Queue name) old new → after old.book.base old.book.history ≡ old.book.state → IsSound new.book.state
    → live_row old.book.state.rows name ≡ Some row → row.child ≡ child → c.name ≡ name → IsTakenUp new.book.state c → c.linger ≡ linger.Open
    → IsOfGeneration known new.book c.generation c.reader.limits c.site → IsCarried known u.0 c × (c.child ≡ child)
carried_then known v w u who child old new c name row rests took gave number few has m state sound found of_child named taken opened edition =
    let stays = stays_as v w u (ledger_of old) (ledger_of new) took gave in
    let behind = state_then v w u who (event.Queue name) old new rests took gave number m state in
    let now : live_row new.book.state.rows name ≡ Some (queued_row row) =
    ap (λ (b : SeenBook). live_row b.state.rows name) m.book ∙ queued_found old.book.state name row found in
    let here : live_row new.book.state.rows name ≡ Some taken.row = subst (λ n. live_row new.book.state.rows n ≡ Some taken.row) named taken.found in
    let same : taken.row ≡ queued_row row = cc (here, now) in
    let its_child : c.child ≡ child = taken.fits.child ∙ ap (λ (r : Row). r.child) same ∙ of_child in
    let by_name : (n : ConnName) → n ≡ name → live_row new.book.state.rows n ≡ Some (queued_row row) =
    λ n is. subst (λ q. live_row new.book.state.rows q ≡ Some (queued_row row)) (sym is) now in (
      record {
        carries = record {
          turn = stays.turn;
          number = λ z. has.number (sym (ap (λ (p : Who). p.number) stays.who) ∙ z);
          few = subst (λ k. k < 32) (sym its_child) few;
          hand = stays.hand ∙ has.hand ∙ ap (λ k. record { permit = Some k; trying = None }) (sym its_child);
          row = row_then v w u who (event.Queue name) old new rests took gave number m ∙ ap Some (sym named);
          edition = edition_then v w u who (event.Queue name) old new rests took gave number m known c.generation c.reader.limits c.site edition;
          sound = subst IsSound (sym behind) sound;
        };
        queued = ap (λ (s : State). lives_and (λ r. is_queued r.place) s.rows c.name) behind
            ∙ test-at new.book.state.rows c.name (queued_row row) (λ r. is_queued r.place) (by_name c.name named);
        taken = subst (λ s. IsTakenUp s c) (sym behind) taken;
        stays_open = opened;
      },
      its_child,
    )

-- ## A connection that was started

-- its row is served
started_found : (s : State) (name : ConnName) (row : Row) → live_row s.rows name ≡ Some row → live_row (next s (event.Start name)).rows name ≡ Some (served_row s row)
started_found s name row found =
    let is = alive s.rows name row found in
    live_row-update s.rows name row (served_row s) is.at is.life

-- a connection that waits may be read and written on
waits_usable : (kind : Kind) (c : SeenConn) → WaitsAs kind c → is_usable c.turn ≡ true
waits_usable Reading c (inl new) = ap is_usable new
waits_usable Reading c (inr more) = ap is_usable more
waits_usable KeepAlive c waits = ap is_usable waits.turn
waits_usable Writing c waits = ap is_usable waits
waits_usable Linger c waits = waits
waits_usable ShortLinger c waits = waits

-- and so may one that did until it was taken up
settled_usable : (from : Option Kind) (why : Option Cause) (c : SeenConn) → IsSettledFrom from why c → is_usable c.turn ≡ true
settled_usable None why c settled = absurd settled
settled_usable (Some kind) why c settled = waits_usable kind c settled.waits

served_start : (s t : State) (c : SeenConn) (name : ConnName) (row : Row) → t ≡ next s (event.Start name) → name ≡ c.name → live_row s.rows name ≡ Some row → IsTakenUp t c
    → c.linger ≡ linger.Open → IsServed t c
served_start s t c name row is named found taken opened =
    let now : live_row t.rows name ≡ Some (served_row s row) = ap (λ (x : State). live_row x.rows name) is ∙ started_found s name row found in
    let here : live_row t.rows name ≡ Some taken.row = subst (λ n. live_row t.rows n ≡ Some taken.row) (sym named) taken.found in
    let same : taken.row ≡ served_row s row = cc (here, now) in record {
      row = taken.row;
      found = taken.found;
      working = ap (λ (r : Row). is_working r.place) same;
      fits = taken.fits;
      usable = settled_usable taken.row.from taken.row.cause c taken.settled;
      open_side = opened;
    }

pub started_then : {K : Type 0} (known : Option KnownOutside) (v w u : Me (Option K) View) (who : ℕ) (old new : SeenBoard) (c : SeenConn) (name : ConnName) → TurnsRestOn
    → TookTurn v w (ledger_of old) → GaveBack w u (ledger_of new) → v.0.who.number ≡ who → name ≡ c.name → MadeEvent who (event.Start name) old new
    → after old.book.base old.book.history ≡ old.book.state → IsSound new.book.state → IsTakenUp new.book.state c → IsCarried known v.0 c → Serves known u.0 c
started_then known v w u who old new c name rests took gave number named m state sound taken carried =
    let q = lives (λ r. is_queued r.place) (state_of v.0).rows c.name carried.queued in
    let found : live_row old.book.state.rows name ≡ Some q.row =
    ap (live_row old.book.state.rows) named ∙ same_live v w old c.name rests took state carried.carries.row ∙ q.found in
    let behind = state_then v w u who (event.Start name) old new rests took gave number m state in record {
      carries = carries_then v w u who (event.Start name) old new rests took gave number m known c state sound refl carried.carries;
      served = subst (λ s. IsServed s c) (sym behind)
          (served_start old.book.state new.book.state c name q.row (ap (λ (b : SeenBook). b.state) m.book) named found taken carried.stays_open);
    }

-- a connection that is on its way to a worker is so in the board, and was taken up
pub taken_here : {K : Type 0} (known : Option KnownOutside) (v w : Me (Option K) View) (b : SeenBoard) (c : SeenConn) → TurnsRestOn → TookTurn v w (ledger_of b)
    → after b.book.base b.book.history ≡ b.book.state → IsCarried known v.0 c → IsTakenUp b.book.state c
taken_here known v w b c rests took state carried = record {
  row = carried.taken.row;
  found = same_live v w b c.name rests took state carried.carries.row ∙ carried.taken.found;
  fits = carried.taken.fits;
  settled = carried.taken.settled;
}

pub queued_here : {K : Type 0} (known : Option KnownOutside) (v w : Me (Option K) View) (b : SeenBoard) (c : SeenConn) → TurnsRestOn → TookTurn v w (ledger_of b)
    → after b.book.base b.book.history ≡ b.book.state → IsCarried known v.0 c → lives_and (λ r. is_queued r.place) b.book.state.rows c.name ≡ true
queued_here known v w b c rests took state carried =
    let q = lives (λ r. is_queued r.place) (state_of v.0).rows c.name carried.queued in
    test-at b.book.state.rows c.name q.row (λ r. is_queued r.place) (same_live v w b c.name rests took state carried.carries.row ∙ q.found) ∙ q.passes
