-- What a part did, put together turn by turn.
use Rattle.std.proofs.Common.{◌≡◌, ℕ, Bool, true, false, List, [], ◌++◌, map, if◌then◌else◌, Option, None, refl, sym, ap, subst, ◌∙◌, append-nil, append_assoc}
use Rattle.std.proofs.lemmas.List.{map-append}
use Rattle.std.proofs.lemmas.List.Elements.{filter-append}
use Rattle.atomic_table.specs.Table.{Me}
use Rattle.mpm_base.specs.declared.conn.ConnName.{ConnName}
use Rattle.http_read.specs.declared.request.Limits.{Limits}
use Rattle.file_table.specs.Site.{SeenSite}
use Rattle.conn_machine.specs.declared.event.Entry.{Entry}
use Rattle.conn_machine.specs.declared.event.Event.{Event}
use Rattle.conn_machine.specs.Folds.{opening_record}
use Rattle.conn_machine.specs.Made.{AreMade, HasSeen}
use Rattle.conn_machine.specs.Runs.{entries_of, is_of_pass, own_events, row_of}
use Rattle.conn_state.specs.Known.{KnownOutside}
use Rattle.table_rule.specs.declared.view.LastLeft.{LastLeft}
use Rattle.table_rule.specs.declared.view.Origin.{Origin}
use Rattle.table_rule.specs.declared.view.View.{View}
use Rattle.table_rule.specs.declared.view.Who.{Who}
use Rattle.table_rule.specs.Steps.{uncredited_view}
use Rattle.idle_workers.specs.Found.{TakesCreditBack}
use Rattle.board.specs.Editions.{GenerationsKeepTheirEditions, IsOfGeneration}
use Rattle.board_turns.specs.Books.{book_of}
use Rattle.board_turns.specs.Turns.{HadATurn, HadTurns, IsListener}
use Rattle.board_turns.proofs.ThenLemmas.{kept_more}
use Rattle.board_turns.proofs.TurnLemmas.{more_turns, no_turn, one_turn}
use Rattle.listener_turns.specs.Credits.{HadCreditTurn}
use Rattle.listener_turns.specs.Looks.{LooksIdle}
use Rattle.listener_parts.specs.Did.{Did}

-- ## Turns

pub did_turns : (events : List Event) (has : Option ConnName) (old new : View) → HadTurns events old new → new.row ≡ has → Did events has old new
did_turns events has old new t row = record {
  goes_on = t.goes_on;
  made = t.made;
  origin = t.origin;
  who = t.who;
  hand = t.hand;
  row = row;
  left = t.left;
}

pub did_turn : (events : List Event) (has : Option ConnName) (old new : View) → HadATurn events old new → new.row ≡ has → Did events has old new
did_turn events has old new t row = did_turns events has old new (one_turn events old new t) row

pub did_nothing : (v : View) (has : Option ConnName) → v.row ≡ has → Did [] has v v
did_nothing v has row = did_turns [] has v v (no_turn v) row

-- a turn that may have made the events or not, where it is known whether it did
abbrev pub made_by : Bool → List Event → List Event
made_by done events = if done then events else []

pub turn_by : (done : Bool) (events : List Event) (answer : Bool) (old new : View) → answer ≡ done → HadATurn (if answer then events else []) old new
    → HadATurn (made_by done events) old new
turn_by done events answer old new is turn = subst (λ (b : Bool). HadATurn (if b then events else []) old new) is turn

-- one turn behind another
pub two_turns : (first second : List Event) (a b c : View) → HadATurn first a b → HadATurn second b c → HadTurns (first ++ second) a c
two_turns first second a b c before behind =
    more_turns first second a b c (one_turn first a b before) (one_turn second b c behind)

-- a part behind another
pub did_more : (first second : List Event) (had has : Option ConnName) (a b c : View) → Did first had a b → Did second has b c → Did (first ++ second) has a c
did_more first second had has a b c before behind =
    let p = a.who.number in
    let same : b.who.number ≡ p = ap (λ (w : Who). w.number) before.who in
    let made : own_events p c.seen ≡ own_events p b.seen ++ second = subst (λ q. own_events q c.seen ≡ own_events q b.seen ++ second) same behind.made in
    record {
      goes_on = (
        before.goes_on.0 ++ behind.goes_on.0,
        behind.goes_on.1 ∙ ap (λ l. l ++ behind.goes_on.0) before.goes_on.1 ∙ append_assoc a.seen before.goes_on.0 behind.goes_on.0,
      );
      made = made ∙ ap (λ l. l ++ second) before.made ∙ append_assoc (own_events p a.seen) first second;
      origin = behind.origin ∙ before.origin;
      who = behind.who ∙ before.who;
      hand = behind.hand ∙ before.hand;
      row = behind.row;
      left = kept_more a b c before.left behind.left;
    }

-- nothing behind a part, or before one
pub did_no_more : (events : List Event) (had has : Option ConnName) (a b c : View) → Did events had a b → Did [] has b c → Did events has a c
did_no_more events had has a b c before behind =
    subst (λ es. Did es has a c) (append-nil events) (did_more events [] had has a b c before behind)

pub did_then : (events : List Event) (had has : Option ConnName) (a b c : View) → Did [] had a b → Did events has b c → Did events has a c
did_then events had has a b c before behind = did_more [] events had has a b c before behind

-- by another spelling of the events
pub did_as : (xs ys : List Event) (has : Option ConnName) (a b : View) → xs ≡ ys → Did xs has a b → Did ys has a b
did_as xs ys has a b same did = subst (λ es. Did es has a b) same did

-- ## Steps on idle words

own_more : (p : ℕ) (a b : List Entry) → own_events p (a ++ b) ≡ own_events p a ++ own_events p b
own_more p a b = ap (map (λ (e : Entry). e.event)) (filter-append (is_of_pass p) a b) ∙ map-append (λ (e : Entry). e.event) (entries_of p a) (entries_of p b)

-- others' entries are none of the pass
pub own_seen : (p : ℕ) (seen history : List Entry) → HasSeen p seen history → own_events p history ≡ own_events p seen ++ []
own_seen p seen history others =
    ap (own_events p) others.1 ∙ own_more p seen others.0 ∙ ap (λ l. own_events p seen ++ map (λ (e : Entry). e.event) l) others.2

-- a look at one
pub did_look : (child threads : ℕ) (old new : View) (idle : Bool) → LooksIdle child threads old idle new → old.row ≡ None → Did [] None old new
did_look child threads old new idle looks none =
    let f = looks.looked in
    record {
      goes_on = (f.seen.0, f.seen.1);
      made = own_seen old.who.number old.seen new.seen f.seen;
      origin = ap (λ (q : View). q.origin) f.looked.0;
      who = ap (λ (q : View). q.who) f.looked.0;
      hand = ap (λ (q : View). q.hand) f.looked.0;
      row = ap (λ (q : View). q.row) f.looked.0 ∙ none;
      left = record { entries = ap (λ (q : View). q.left.entries) f.looked.0; folded = ap (λ (q : View). q.left.folded) f.looked.0 };
    }

-- a credit that is given, in its turn
pub did_credit : (found : List Entry) (child threads : ℕ) (old new : View) → HadCreditTurn found child threads old new → new.row ≡ None → Did [] None old new
did_credit found child threads old new t none = record {
  goes_on = (t.others.0, t.seen ∙ t.others.1);
  made = ap (own_events old.who.number) t.seen ∙ own_seen old.who.number old.seen found t.others;
  origin = t.origin;
  who = t.who;
  hand = t.hand;
  row = none;
  left = t.left;
}

-- what a credit that is taken back leaves of a view, or one that isn't
pub record KeepsAllBut (old new : View) : Type 0 where
  pub origin : new.origin ≡ old.origin
  pub who : new.who ≡ old.who
  pub seen : new.seen ≡ old.seen
  pub turn : new.turn ≡ old.turn
  pub row : new.row ≡ old.row
  pub hand : new.hand ≡ old.hand
  pub left : new.left ≡ old.left

keeps_all : (done : Bool) (k : ℕ) (v : View) → KeepsAllBut v (uncredited_view done k v)
keeps_all true k v = record { origin = refl; who = refl; seen = refl; turn = refl; row = refl; hand = refl; left = refl }
keeps_all false k v = record { origin = refl; who = refl; seen = refl; turn = refl; row = refl; hand = refl; left = refl }

pub keeps_uncredited : (child threads : ℕ) (old new : View) (done : Bool) → TakesCreditBack child threads old done new → KeepsAllBut old new
keeps_uncredited child threads old new done takes =
    let keeps = keeps_all done child old in
    record {
      origin = ap (λ (q : View). q.origin) takes.tried.0 ∙ keeps.origin;
      who = ap (λ (q : View). q.who) takes.tried.0 ∙ keeps.who;
      seen = ap (λ (q : View). q.seen) takes.tried.0 ∙ keeps.seen;
      turn = ap (λ (q : View). q.turn) takes.tried.0 ∙ keeps.turn;
      row = ap (λ (q : View). q.row) takes.tried.0 ∙ keeps.row;
      hand = ap (λ (q : View). q.hand) takes.tried.0 ∙ keeps.hand;
      left = ap (λ (q : View). q.left) takes.tried.0 ∙ keeps.left;
    }

pub did_uncredit : (child threads : ℕ) (old new : View) (done : Bool) → TakesCreditBack child threads old done new → old.row ≡ None → Did [] None old new
did_uncredit child threads old new done takes none =
    let keeps = keeps_uncredited child threads old new done takes in
    record {
      goes_on = ([], keeps.seen ∙ sym (append-nil old.seen));
      made = ap (own_events old.who.number) keeps.seen ∙ sym (append-nil (own_events old.who.number old.seen));
      origin = keeps.origin;
      who = keeps.who;
      hand = keeps.hand;
      row = keeps.row ∙ none;
      left = record { entries = ap (λ (l : LastLeft). l.entries) keeps.left; folded = ap (λ (l : LastLeft). l.folded) keeps.left };
    }

-- ## Editions

-- what was of its generation still is
pub edition_on : GenerationsKeepTheirEditions → (known : Option KnownOutside) (events : List Event) (has : Option ConnName) (old new : View) (generation : ℕ)
    (limits : Limits) (site : SeenSite) → Did events has old new → IsOfGeneration known (book_of old) generation limits site
    → IsOfGeneration known (book_of new) generation limits site
edition_on law known events has old new generation limits site did is =
    law.goes_on known (book_of old) (book_of new) did.goes_on.0 generation limits site is (ap (λ (o : Origin). o.state) did.origin)
    (ap (λ (o : Origin). opening_record o.passes) did.origin) did.goes_on.1

-- ## The listener

-- pass 0 stays pass 0 where its credit is taken back
pub listener_uncredited : {S : Type 0} (child threads : ℕ) (old new : Me S View) (done : Bool) → new.1 ≡ old.1 → TakesCreditBack child threads old.0 done new.0
    → IsListener old → IsListener new
listener_uncredited child threads old new done hand takes is =
    let keeps = keeps_uncredited child threads old.0 new.0 done takes in
    record {
      turnless = record { hand = hand ∙ is.turnless.hand; turn = keeps.turn ∙ is.turnless.turn };
      number = ap (λ (w : Who). w.number) keeps.who ∙ is.number;
      made =
          subst (λ (o : Origin). AreMade o.state (opening_record o.passes) new.0.seen) (sym keeps.origin)
          (subst (AreMade old.0.origin.state (opening_record old.0.origin.passes)) (sym keeps.seen) is.made);
      row_is = keeps.row ∙ is.row_is ∙ ap (row_of 0) (sym keeps.seen);
    }
