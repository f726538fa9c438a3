-- What is taken of the machine: some of its laws, as they are handed on to lemmas, and what its definitions say at once.
use Rattle.std.proofs.Common.{◌≡◌, ◌≢◌, ℕ, zero, suc, ◌==◌, Bool, true, false, true≢false, List, [], ◌∷◌, ◌++◌, Option, Some, None, slice_get, eq-eqb, refl, sym, ap, ◌∙◌, append-nil, append_assoc}
use Rattle.std.specs.Prelude.{if◌then◌else◌}
use Rattle.std.specs.Option.{option_map_or}
use Rattle.std.proofs.lemmas.Bool.{and_parts, eqb-true}
use Rattle.std.proofs.lemmas.List.Elements.{filter-append}
use Rattle.std.proofs.lemmas.List.Sums.{fold-append}
use Rattle.mpm_base.specs.declared.conn.ConnName.{ConnName}
use Rattle.mpm_base.specs.declared.shape.Shape.{Shape}
use Rattle.conn_machine.specs.declared.row.Row.{Row}
use Rattle.conn_machine.specs.declared.event.Event.{Event}
use Rattle.conn_machine.specs.declared.event.Entry.{Entry}
use Rattle.conn_machine.specs.declared.state.State.{State}
use Rattle.conn_machine.specs.Lists.{update}
use Rattle.conn_machine.specs.Rows.{is_live_as, is_with_a_pass, live_row, lives_and, row_where}
use Rattle.mpm_base.specs.Shape.{is_in_bounds}
use Rattle.conn_machine.specs.States.{opening_state}
use Rattle.conn_machine.specs.Table.{is_allowed, next}
use Rattle.conn_machine.specs.declared.folded.Folded.{Folded}
use Rattle.conn_machine.specs.Folds.{opening_record}
use Rattle.conn_machine.specs.Passes.{EachHasItsOwn}
use Rattle.conn_machine.specs.Runs.{Adds, Run, after, entries_of, first_row, has_after, has_row, is_of_pass, row_after, row_from, row_of}
use Rattle.conn_machine.specs.Made.{AreMade, HasSeen, IsOpened}
use Rattle.conn_machine.specs.Sound.{IsSound}
use Rattle.conn_machine.specs.Laws.{StaysSound}
use Rattle.table_rule.proofs.RecordLemmas.{BeginsBegun, TwiceIsOnce}

-- ## Laws

-- behind nothing a pass has what its entries give it
abbrev pub RowsBegin : Type 0
RowsBegin = (passes p : ℕ) (history : List Entry) → row_from (opening_record passes) p history ≡ row_of p history

-- each connection that somebody holds or has is some pass's
abbrev pub SomeoneHas : Type 0
SomeoneHas =
    (start : State) (passes : ℕ) (history : List Entry) (slot : ℕ) (r : Row) → IsOpened start → AreMade start (opening_record passes) history
    → slice_get (after start history).rows slot ≡ Some r → is_with_a_pass r.place ≡ true
    → (p : ℕ) × (name : ConnName) × (row_of p history ≡ Some name) × (name.slot ≡ slot) × (live_row (after start history).rows name ≡ Some r)

-- while others go on, the row of a pass stays
abbrev pub RowsStay : Type 0
RowsStay =
    (start : State) (passes p : ℕ) (seen history : List Entry) (name : ConnName) → IsOpened start → AreMade start (opening_record passes) history
    → HasSeen p seen history → row_of p seen ≡ Some name → slice_get (after start history).rows name.slot ≡ slice_get (after start seen).rows name.slot

-- each pass has its own connection at the opening, and behind what passes made from there on
pub record EachKeepsItsOwn : Type 0 where
  pub opened : (s : State) (passes : ℕ) → IsOpened s → EachHasItsOwn s (first_row (opening_record passes))
  pub made : (base : State) (f : Folded) (history : List Entry) → EachHasItsOwn base (first_row f) → AreMade base f history → EachHasItsOwn (after base history) (λ p. row_from f p history)
  pub row : RowsBegin

-- so somebody has each connection that is with a pass
pub someone_has : EachKeepsItsOwn → SomeoneHas
someone_has laws start passes history slot r opened made at hand =
    let f = opening_record passes in
    let who = (laws.made start f history (laws.opened start passes opened) made).someone slot r at hand in
    (who.0, who.1, sym (laws.row passes who.0 history) ∙ who.2, who.3, who.4)

-- and the row of a pass stays while others go on
pub rows_stay : EachKeepsItsOwn
    → ((base : State) (f : Folded) (p : ℕ) (seen history : List Entry) (name : ConnName) → EachHasItsOwn base (first_row f) → AreMade base f history → HasSeen p seen history
    → row_from f p seen ≡ Some name → slice_get (after base history).rows name.slot ≡ slice_get (after base seen).rows name.slot)
    → RowsStay
rows_stay laws stay start passes p seen history name opened made has is =
    stay start (opening_record passes) p seen history name (laws.opened start passes opened) made has (laws.row passes p seen ∙ is)

-- what a history that goes on by entries of a pass keeps
pub record KeepsGoing : Type 0 where
  pub opening : (slots children : ℕ) (shape : Shape) → is_in_bounds shape ≡ true → IsSound (opening_state slots children shape)
  pub step : (s : State) (e : Event) → IsSound s → is_allowed s e ≡ true → IsSound (next s e)
  pub run : (s : State) (history : List Entry) → IsSound s → Run s history → StaysSound s history
  pub runs : (base : State) (f : Folded) (history : List Entry) → AreMade base f history → Run base history
  pub made : (p : ℕ) (base : State) (f : Folded) (old new : List Entry) → AreMade base f old → Adds p base f old new → AreMade base f new
  pub seen : (p q : ℕ) (base : State) (f : Folded) (old new : List Entry) → Adds p base f old new → q ≢ p → HasSeen q old new
  pub row : RowsBegin
  pub stays : RowsStay
  pub twice : TwiceIsOnce
  pub begun : BeginsBegun

-- ## What may be there

pub some_is : {X : Type 0} (o : Option X) (a b : X) → o ≡ Some a → o ≡ Some b → a ≡ b
some_is None a b ea eb = absurd (cc)
some_is (Some x) a b ea eb = cc

pub none_some : {X P : Type 0} (o : Option X) (a : X) → o ≡ None → o ≡ Some a → P
none_some None a e e' = absurd (cc)
none_some (Some x) a e e' = absurd (cc)

pub off : {P : Type 0} {b : Bool} → b ≡ false → b ≡ true → P
off p q = absurd (true≢false (sym q ∙ p))

-- ## Rows

-- the changed row stands in its slot
pub get_changed : (rows : List Row) (slot : ℕ) (r : Row) (change : Row → Row) → slice_get rows slot ≡ Some r → slice_get (update rows slot change) slot ≡ Some (change r)
get_changed [] slot r change at = absurd (cc)
get_changed (x ∷ rows) zero r change at =
    let same : x ≡ r = cc in
    ap (λ (y : Row). Some (change y)) same
get_changed (x ∷ rows) (suc slot) r change at = get_changed rows slot r change at

-- a row that lives under the name and passes the test
pub record IsMetAt (test : Row → Bool) (rows : List Row) (name : ConnName) : Type 0 where
  pub row : Row
  pub at : slice_get rows name.slot ≡ Some row
  pub live : live_row rows name ≡ Some row
  pub passes : test row ≡ true

pub met : (test : Row → Bool) (rows : List Row) (name : ConnName) → lives_and test rows name ≡ true → IsMetAt test rows name
met test rows name lives = by (slice_get rows name.slot) refl lives
  where
    named : (r : Row) (b : Bool) → is_live_as name r ≡ b → slice_get rows name.slot ≡ Some r
        → option_map_or test (if b then Some r else None) false ≡ true → IsMetAt test rows name
    named r true is at passes = record {
      row = r;
      at = at;
      live = ap (row_where (is_live_as name)) at ∙ ap (λ b. if b then Some r else None) is;
      passes = passes;
    }
    named r false is at passes = absurd (cc)

    by : (o : Option Row) → slice_get rows name.slot ≡ o → option_map_or test (row_where (is_live_as name) o) false ≡ true → IsMetAt test rows name
    by None at passes = absurd (cc)
    by (Some r) at passes = named r (is_live_as name r) refl at passes

-- the pass has the connection
pub had_row : (had : Option ConnName) (name : ConnName) → has_row had name ≡ true → (a : ConnName) × (had ≡ Some a) × (a.slot ≡ name.slot)
had_row None name has = absurd (cc)
had_row (Some a) name has = (a, refl, sym (eqb-true name.slot a.slot (and_parts (name.slot == a.slot) (name.life == a.life) has).0))

-- ## Histories

pub after-append : (s : State) (a b : List Entry) → after s (a ++ b) ≡ after (after s a) b
after-append s [] b = refl
after-append s (e ∷ a) b = after-append (next s e.event) a b

pub after-snoc : (s : State) (history : List Entry) (e : Entry) → after s (history ++ e ∷ []) ≡ next (after s history) e.event
after-snoc s history e = after-append s history (e ∷ [])

pub entries_of-append : (p : ℕ) (a b : List Entry) → entries_of p (a ++ b) ≡ entries_of p a ++ entries_of p b
entries_of-append p a b = filter-append (is_of_pass p) a b

-- the connection of a pass is what its entries say
pub row_by : (p : ℕ) (a b : List Entry) → entries_of p a ≡ entries_of p b → row_of p a ≡ row_of p b
row_by p a b same = ap (row_after None) same

pub row_none : (p : ℕ) (history : List Entry) → entries_of p history ≡ [] → row_of p history ≡ None
row_none p history none = row_by p history [] none

-- what a pass has behind two lists of its entries
pub row_more : (had : Option ConnName) (a b : List Entry) → row_after had (a ++ b) ≡ row_after (row_after had a) b
row_more had a b = fold-append (λ had x. has_after had x.event x.reply) had a b

pub row_own : (f : Folded) (p : ℕ) (history : List Entry) (e : Entry) → e.pass ≡ p
    → row_from f p (history ++ e ∷ []) ≡ has_after (row_from f p history) e.event e.reply
row_own f p history e own =
    let last : entries_of p (e ∷ []) ≡ e ∷ [] = rw (eq-eqb e.pass p own) refl in
    let mine : entries_of p (history ++ e ∷ []) ≡ entries_of p history ++ e ∷ [] =
    entries_of-append p history (e ∷ []) ∙ ap (λ l. entries_of p history ++ l) last in
    ap (row_after (first_row f p)) mine ∙ row_more (first_row f p) (entries_of p history) (e ∷ [])

-- ## What a pass has seen

pub seen_whole : (p : ℕ) (history : List Entry) → HasSeen p history history
seen_whole p history = ([], sym (append-nil history), refl)

-- and has still seen when others went on
pub seen_on : (p : ℕ) (seen history whole : List Entry) → HasSeen p seen history → HasSeen p history whole → HasSeen p seen whole
seen_on p seen history whole f g = (
  f.0 ++ g.0,
  g.1 ∙ ap (λ l. l ++ g.0) f.1 ∙ append_assoc seen f.0 g.0,
  entries_of-append p f.0 g.0 ∙ ap (λ l. l ++ entries_of p g.0) f.2 ∙ g.2,
)

pub seen_same : (p : ℕ) (seen history : List Entry) → HasSeen p seen history → entries_of p history ≡ entries_of p seen
seen_same p seen history f =
    ap (entries_of p) f.1 ∙ entries_of-append p seen f.0 ∙ ap (λ l. entries_of p seen ++ l) f.2 ∙ append-nil (entries_of p seen)

-- what a history without an entry of the pass has behind a first part has none either
pub none_behind : (p : ℕ) (seen rest : List Entry) → entries_of p (seen ++ rest) ≡ [] → entries_of p rest ≡ []
none_behind p seen rest none = last (entries_of p seen) (entries_of p rest) (sym (entries_of-append p seen rest) ∙ none)
  where
    last : (a b : List Entry) → a ++ b ≡ [] → b ≡ []
    last [] b e = e
    last (x ∷ a) b e = absurd (cc)
