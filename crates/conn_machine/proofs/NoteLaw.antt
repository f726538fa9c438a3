-- The responses of a live connection only grow, and none comes after the last.
use Rattle.std.proofs.Common.{◌≡◌, ◌⊎◌, inl, inr, Bool, true, false, ◌==◌, List, [], ◌∷◌, ◌++◌, Option, Some, None, slice_get, refl, sym, ap, ◌∙◌, subst, append_assoc, append-nil, arith}
use Rattle.std.specs.Prelude.{fold, if◌then◌else◌}
use Rattle.std.proofs.lemmas.Grind.{fold-append}
use Rattle.std.proofs.lemmas.Bool.{and_parts, eqb-true}
use Rattle.mpm_base.specs.declared.conn.ConnName.{ConnName}
use Rattle.mpm_base.specs.declared.note.Note.{Note}
use Rattle.conn_machine.specs.declared.row.Row.{Row}
use Rattle.conn_machine.specs.declared.event.Event.{Event}
use Rattle.conn_machine.specs.declared.event.Entry.{Entry}
use Rattle.conn_machine.specs.declared.state.State.{State}
use Rattle.conn_machine.specs.Rows.{is_live, is_live_as, row_where, live_row}
use Rattle.conn_machine.specs.Table.{is_allowed, next}
use Rattle.conn_machine.specs.Runs.{Run, after}
use Rattle.mpm_base.specs.Notes.{says_last}
use Rattle.conn_machine.specs.Sound.{IsSound}
use Rattle.conn_machine.specs.Laws.{NotesMayFollow, OnlyGrows}
use Rattle.conn_machine.proofs.ChangeLaw.{Change, stays, goes_on, answered, taken, closed, spent, is_made}
use Rattle.conn_machine.proofs.NameLaw.{IsPast, past_stays, past_named, vacant_live}
use Rattle.conn_machine.proofs.SoundLemmas.{keeps_sound}

-- the row is the name's, and its responses are the old ones and perhaps more
pub record IsGrown (name : ConnName) (old : List Note) (r : Row) : Type 0 where
  pub live : is_live r ≡ true
  pub life : r.life ≡ name.life
  pub grows : OnlyGrows old r.notes

-- the same of the row of the name's slot, unless it went past the name's life
abbrev pub IsGrownIn : ConnName → List Note → List Row → Type 0
IsGrownIn name old rows = (r : Row) → slice_get rows name.slot ≡ Some r → IsGrown name old r ⊎ IsPast name.life r

-- responses are themselves and no more
grows_none : (notes : List Note) → OnlyGrows notes notes
grows_none notes = record { more = []; grown = sym (append-nil notes); follows = tt }

-- one more note may follow those that may, where the last of them isn't the last response
follows_more : (last : Bool) (more : List Note) (note : Note) → NotesMayFollow last more
    → fold (λ (before : Bool) (n : Note). n.last) last more ≡ false → NotesMayFollow last (more ++ note ∷ [])
follows_more true [] note follows undecided = absurd (cc)
follows_more false [] note follows undecided = tt
follows_more true (n ∷ more) note follows undecided = absurd follows
follows_more false (n ∷ more) note follows undecided = follows_more n.last more note follows undecided

-- responses that have no last one may grow by one
grows_more : (old now : List Note) (note : Note) → OnlyGrows old now → says_last now ≡ false → OnlyGrows old (now ++ note ∷ [])
grows_more old now note grows undecided =
    let undone : says_last (old ++ grows.more) ≡ false = subst (λ (notes : List Note). says_last notes ≡ false) grows.grown undecided in
    record {
      more = grows.more ++ note ∷ [];
      grown = ap (λ (notes : List Note). notes ++ note ∷ []) grows.grown ∙ append_assoc old grows.more (note ∷ []);
      follows = follows_more (says_last old) grows.more note grows.follows
          (sym (fold-append (λ (before : Bool) (n : Note). n.last) false old grows.more) ∙ undone);
    }

-- a change of a row that is the name's keeps it so, or it goes past the name's life
grown_by : (name : ConnName) (old : List Note) (r r' : Row) → Change r r' → r.last ≡ says_last r.notes → IsGrown name old r
    → IsGrown name old r' ⊎ IsPast name.life r'
grown_by name old r r' (stays same) last grown = inl (subst (λ (x : Row). IsGrown name old x) (sym same) grown)
grown_by name old r r' (goes_on live live' same notes) last grown =
    inl (record { live = live'; life = same ∙ grown.life; grows = subst (OnlyGrows old) (sym notes) grown.grows })
grown_by name old r r' (answered note live live' more same notes) last grown =
    let undecided : says_last r.notes ≡ false = sym last ∙ more in
    inl (record {
      live = live';
      life = same ∙ grown.life;
      grows = subst (OnlyGrows old) (sym notes) (grows_more old r.notes note grown.grows undecided);
    })
grown_by name old r r' (taken vacant live' same fresh) last grown = vacant_live r vacant grown.live
grown_by name old r r' (closed live vacant up) last grown =
    let same = grown.life in
    inr (inl (omega arith))
grown_by name old r r' (spent live over) last grown = inr (inr over)

-- so does a change of a row that is the name's or went past its life
grown_or_past : (name : ConnName) (old : List Note) (r r' : Row) → Change r r' → (is_live r ≡ true → r.last ≡ says_last r.notes)
    → IsGrown name old r ⊎ IsPast name.life r → IsGrown name old r' ⊎ IsPast name.life r'
grown_or_past name old r r' change last (inl grown) = grown_by name old r r' change (last grown.live) grown
grown_or_past name old r r' change last (inr past) = inr (past_stays name.life r r' change past)

-- an event keeps the row of the slot the name's, or gone past its life
grown_next : (s : State) (e : Event) (name : ConnName) (old : List Note) → IsSound s → is_allowed s e ≡ true → IsGrownIn name old s.rows
    → IsGrownIn name old (next s e).rows
grown_next s e name old sound may grown r' at =
    let made = is_made s e name.slot r' may at in
    grown_or_past name old made.old r' made.change (λ live. (sound.notes name.slot made.old made.at live).last) (grown made.old made.at)

-- and so does every run
grown_after : (s : State) (history : List Entry) (name : ConnName) (old : List Note) → IsSound s → Run s history
    → IsGrownIn name old s.rows → IsGrownIn name old (after s history).rows
grown_after s [] name old sound run grown = grown
grown_after s (e ∷ history) name old sound run grown =
    grown_after (next s e.event) history name old (keeps_sound s e.event sound run.0) run.2
    (grown_next s e.event name old sound run.0 grown)

-- the same where the row is there, by whether it has the name
named_if : (name : ConnName) (x r : Row) (named : Bool) → is_live_as name x ≡ named → (if named then Some x else None) ≡ Some r
    → (Some x ≡ Some r) × (is_live_as name r ≡ true)
named_if name x r true is at =
    let e : x ≡ r = cc in
    (at, subst (λ (y : Row). is_live_as name y ≡ true) e is)
named_if name x r false is at = absurd (cc)

-- the row that is found by its name is there, and has the name
pub named_where : (name : ConnName) (o : Option Row) (r : Row) → row_where (is_live_as name) o ≡ Some r → (o ≡ Some r) × (is_live_as name r ≡ true)
named_where name None r at = absurd (cc)
named_where name (Some x) r at = named_if name x r (is_live_as name x) refl at

-- a row that is found by the name has its own responses
grown_first : (name : ConnName) (rows : List Row) (r : Row) → live_row rows name ≡ Some r → IsGrownIn name r.notes rows
grown_first name rows r lives x at =
    let found = named_where name (slice_get rows name.slot) r lives in
    let there : slice_get rows name.slot ≡ Some r = found.0 in
    let e : r ≡ x = cc in
    let parts = and_parts (is_live r) (r.life == name.life) found.1 in
    let own : IsGrown name r.notes r = record { live = parts.0; life = eqb-true r.life name.life parts.1; grows = grows_none r.notes } in
    inl (subst (λ (y : Row). IsGrown name r.notes y) e own)

-- a row that has the name, and is the name's or past its life, is the name's
grown_named : (name : ConnName) (old : List Note) (r : Row) → is_live_as name r ≡ true → IsGrown name old r ⊎ IsPast name.life r
    → OnlyGrows old r.notes
grown_named name old r named (inl grown) = grown.grows
grown_named name old r named (inr past) = absurd (cc (past_named name r past))

-- the responses of a connection that lives on only grow
pub responses_grow : (s : State) (history : List Entry) (name : ConnName) (r r' : Row) → IsSound s → Run s history
    → live_row s.rows name ≡ Some r → live_row (after s history).rows name ≡ Some r' → OnlyGrows r.notes r'.notes
responses_grow s history name r r' sound run lives lives' =
    let found = named_where name (slice_get (after s history).rows name.slot) r' lives' in
    grown_named name r.notes r' found.1
    (grown_after s history name r.notes sound run (grown_first name s.rows r lives) r' found.0)
