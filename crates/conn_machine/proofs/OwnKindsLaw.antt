-- What the listener alone makes, and the names of connections that it took, by its own entries.
use Rattle.std.proofs.Common.{◌≡◌, ◌≢◌, ◌==◌, ℕ, Bool, true, false, true≢false, List, [], ◌∷◌, ◌++◌, Option, None, Some, refl, sym, ap, subst, ◌∙◌, is_none}
use Rattle.std.proofs.lemmas.Bool.{and_parts, eqb-true}
use Rattle.std.specs.Prelude.{filter}
use Rattle.mpm_base.specs.declared.conn.ConnName.{ConnName}
use Rattle.conn_machine.specs.declared.event.Entry.{Entry}
use Rattle.conn_machine.specs.declared.event.Event.{Event}
use Rattle.conn_machine.specs.declared.event.Event.TheVariants as event
use Rattle.conn_machine.specs.declared.folded.Folded.{Folded}
use Rattle.conn_machine.specs.declared.state.State.{State}
use Rattle.conn_machine.specs.Events.{conn_needed, is_listeners}
use Rattle.conn_machine.specs.Made.{AreMade, AreMadeBehind}
use Rattle.conn_machine.specs.Runs.{IsNextOf, entries_of, has_after, has_row, may_make, row_from, taken_name}
use Rattle.conn_machine.proofs.OwnRows.{had_life, had_row, row_other, row_own}
use Rattle.conn_machine.proofs.PassLaw.{listener_alone}

-- ## Kinds

-- a pass that isn't the listener's makes none of these kinds
others_make_none : (p : ℕ) (had : Option ConnName) (e : Event) → p ≢ 0 → may_make p had e ≡ true → is_listeners e ≡ false
others_make_none p had (event.Accept slot) other may = listener_alone p other (and_parts (p == 0) (is_none had) may).0
others_make_none p had (event.Park name kind) other may = refl
others_make_none p had (event.Hold name) other may = listener_alone p other (and_parts (p == 0) (is_none had) may).0
others_make_none p had (event.Queue name) other may = refl
others_make_none p had (event.Start name) other may = refl
others_make_none p had (event.Answer name ask) other may = refl
others_make_none p had (event.Linger name why) other may = refl
others_make_none p had (event.Close name why how) other may = refl
others_make_none p had (event.Ready slot) other may = listener_alone p other may
others_make_none p had (event.Tick m) other may = listener_alone p other may
others_make_none p had (event.StartChild k) other may = listener_alone p other may
others_make_none p had (event.Command c) other may = listener_alone p other may
others_make_none p had (event.Retire k) other may = listener_alone p other may

abbrev own_kinds : List Entry → List Entry
own_kinds history = filter (λ (e : Entry). is_listeners e.event) history

own_first : (e : Entry) (history : List Entry) → (e.pass == 0) ≡ true → entries_of 0 (e ∷ history) ≡ e ∷ entries_of 0 history
own_first e history is = rw is refl

other_first : (e : Entry) (history : List Entry) → (e.pass == 0) ≡ false → entries_of 0 (e ∷ history) ≡ entries_of 0 history
other_first e history is = rw is refl

not_zero : (e : Entry) → (e.pass == 0) ≡ false → e.pass ≢ 0
not_zero e is same = absurd (cc (is, ap (λ (n : ℕ). n == 0) same))

-- one entry before what is gathered so
kinds_more : (e : Entry) (xs ys : List Entry) (kind : Bool) → is_listeners e.event ≡ kind → own_kinds xs ≡ own_kinds ys → own_kinds (e ∷ xs) ≡ own_kinds (e ∷ ys)
kinds_more e xs ys true is same = rw is (ap (λ l. e ∷ l) same)
kinds_more e xs ys false is same = rw is same

kinds_none : (e : Entry) (xs : List Entry) → is_listeners e.event ≡ false → own_kinds (e ∷ xs) ≡ own_kinds xs
kinds_none e xs is = rw is refl

kinds_cons : (base : State) (f : Folded) (before : List Entry) (e : Entry) (history : List Entry) (own : Bool) → (e.pass == 0) ≡ own
    → IsNextOf e.pass base f before e → own_kinds history ≡ own_kinds (entries_of 0 history) → own_kinds (e ∷ history) ≡ own_kinds (entries_of 0 (e ∷ history))
kinds_cons base f before e history true is made rest =
    kinds_more e history (entries_of 0 history) (is_listeners e.event) refl rest ∙ ap own_kinds (sym (own_first e history is))
kinds_cons base f before e history false is made rest =
    kinds_none e history (others_make_none e.pass (row_from f e.pass before) e.event (not_zero e is) made.role) ∙ rest
    ∙ ap own_kinds (sym (other_first e history is))

own_kinds_behind : (base : State) (f : Folded) (before history : List Entry) → AreMadeBehind base f before history
    → own_kinds history ≡ own_kinds (entries_of 0 history)
own_kinds_behind base f before [] made = refl
own_kinds_behind base f before (e ∷ history) made =
    kinds_cons base f before e history (e.pass == 0) refl made.0 (own_kinds_behind base f (before ++ e ∷ []) history made.1)

pub kinds_are_own : (base : State) (f : Folded) (history : List Entry) → AreMade base f history
    → filter (λ (e : Entry). is_listeners e.event) history ≡ filter (λ (e : Entry). is_listeners e.event) (entries_of 0 history)
kinds_are_own base f history made = own_kinds_behind base f [] history made

-- ## Names

needed : (other name : ConnName) (had : Option ConnName) → Some other ≡ Some name → has_row had other ≡ true → has_row had name ≡ true
needed other name had same has = subst (λ (o : Option ConnName). is_in o ≡ true) same has
  where
    is_in : Option ConnName → Bool
    is_in None = false
    is_in (Some n) = has_row had n

first_of_lists : (x : Entry) (xs : List Entry) (y : Entry) (ys : List Entry) → x ∷ xs ≡ y ∷ ys → x ≡ y
first_of_lists x xs y ys same = cc

rest_of_lists : (x : Entry) (xs : List Entry) (y : Entry) (ys : List Entry) → x ∷ xs ≡ y ∷ ys → xs ≡ ys
rest_of_lists x xs y ys same = cc

-- a pass that may make an event which asks for a connection has it
needs_it : (p : ℕ) (had : Option ConnName) (e : Event) (name : ConnName) → conn_needed e ≡ Some name → may_make p had e ≡ true → has_row had name ≡ true
needs_it p had (event.Accept slot) name needs may = absurd (cc)
needs_it p had (event.Park other kind) name needs may = needed other name had needs may
needs_it p had (event.Hold other) name needs may = absurd (cc)
needs_it p had (event.Queue other) name needs may = absurd (cc)
needs_it p had (event.Start other) name needs may = needed other name had needs may
needs_it p had (event.Answer other ask) name needs may = needed other name had needs may
needs_it p had (event.Linger other why) name needs may = needed other name had needs may
needs_it p had (event.Close other why how) name needs may = needed other name had needs may
needs_it p had (event.Ready slot) name needs may = absurd (cc)
needs_it p had (event.Tick m) name needs may = absurd (cc)
needs_it p had (event.StartChild k) name needs may = absurd (cc)
needs_it p had (event.Command c) name needs may = absurd (cc)
needs_it p had (event.Retire k) name needs may = absurd (cc)

has_it : (had : Option ConnName) (name : ConnName) → has_row had name ≡ true → had ≡ Some name
has_it had name has =
    let row = had_row had name has in
    let life = had_life had name row.0 has row.1 in
    row.1 ∙ same row.0 name row.2 life
  where
    same : (a b : ConnName) → a.slot ≡ b.slot → b.life ≡ a.life → Some a ≡ Some b
    same a b slot life = ap (λ (s : ℕ). Some (record { slot = s; life = a.life })) slot ∙ ap (λ (l : ℕ). Some (record { slot = b.slot; life = l })) (sym life)

module _ (base : State) (f : Folded) (took next_one : Entry) (rest : List Entry) (name : ConnName) (needs : conn_needed next_one.event ≡ Some name) where
  -- the entry behind which it stands, or one that goes on
  behind_cons : (before : List Entry) (e : Entry) (history : List Entry) (b : Bool) → (e.pass == 0) ≡ b → row_from f 0 before ≡ taken_name took.reply
      → IsNextOf e.pass base f before e → entries_of 0 (e ∷ history) ≡ next_one ∷ rest
      → (row_from f 0 (before ++ e ∷ []) ≡ taken_name took.reply → entries_of 0 history ≡ next_one ∷ rest → taken_name took.reply ≡ Some name)
      → taken_name took.reply ≡ Some name
  behind_cons before e history true is row made own on =
      let here : e ∷ entries_of 0 history ≡ next_one ∷ rest = sym (own_first e history is) ∙ own in
      let one : e ≡ next_one = first_of_lists e (entries_of 0 history) next_one rest here in
      let zero_is : e.pass ≡ 0 = eqb-true e.pass 0 is in
      let role : may_make e.pass (row_from f 0 before) e.event ≡ true =
      subst (λ (p : ℕ). may_make e.pass (row_from f p before) e.event ≡ true) zero_is made.role in
      let asks : conn_needed e.event ≡ Some name = ap (λ (x : Entry). conn_needed x.event) one ∙ needs in
      sym row ∙ has_it (row_from f 0 before) name (needs_it e.pass (row_from f 0 before) e.event name asks role)
  behind_cons before e history false is row made own on = on (row_other f 0 before e (not_zero e is) ∙ row) (sym (other_first e history is) ∙ own)

  -- behind the entry that took it, while others go on
  behind_took : (before history : List Entry) → row_from f 0 before ≡ taken_name took.reply → AreMadeBehind base f before history
      → entries_of 0 history ≡ next_one ∷ rest → taken_name took.reply ≡ Some name
  behind_took before [] row made own = absurd (cc)
  behind_took before (e ∷ history) row made own =
      behind_cons before e history (e.pass == 0) refl row made.0 own
      (λ later own'. behind_took (before ++ e ∷ []) history later made.1 own')

  -- the entry itself, or one before it
  took_cons : (slot : ℕ) → took.event ≡ event.Accept slot → (before : List Entry) (e : Entry) (history : List Entry) (b : Bool) → (e.pass == 0) ≡ b
      → AreMadeBehind base f (before ++ e ∷ []) history → (front : List Entry) → entries_of 0 (e ∷ history) ≡ front ++ took ∷ next_one ∷ rest
      → ((front' : List Entry) → entries_of 0 history ≡ front' ++ took ∷ next_one ∷ rest → taken_name took.reply ≡ Some name)
      → taken_name took.reply ≡ Some name
  took_cons slot accepts before e history false is made front own on = on front (sym (other_first e history is) ∙ own)
  took_cons slot accepts before e history true is made (x ∷ front) own on =
      on front (rest_of_lists e (entries_of 0 history) x (front ++ took ∷ next_one ∷ rest) (sym (own_first e history is) ∙ own))
  took_cons slot accepts before e history true is made [] own on =
      let here : e ∷ entries_of 0 history ≡ took ∷ next_one ∷ rest = sym (own_first e history is) ∙ own in
      let one : e ≡ took = first_of_lists e (entries_of 0 history) took (next_one ∷ rest) here in
      let zero_is : e.pass ≡ 0 = eqb-true e.pass 0 is in
      let row : row_from f 0 (before ++ e ∷ []) ≡ taken_name took.reply =
      row_own f 0 before e zero_is ∙ ap (λ (x : Entry). has_after (row_from f 0 before) x.event x.reply) one
      ∙ ap (λ (d : Event). has_after (row_from f 0 before) d took.reply) accepts in
      behind_took (before ++ e ∷ []) history row made (rest_of_lists e (entries_of 0 history) took (next_one ∷ rest) here)

  -- wherever it stands
  took_at : (slot : ℕ) → took.event ≡ event.Accept slot → (before history : List Entry) → AreMadeBehind base f before history → (front : List Entry)
      → entries_of 0 history ≡ front ++ took ∷ next_one ∷ rest → taken_name took.reply ≡ Some name
  took_at slot accepts before [] made [] own = absurd (cc)
  took_at slot accepts before [] made (x ∷ front) own = absurd (cc)
  took_at slot accepts before (e ∷ history) made front own =
      took_cons slot accepts before e history (e.pass == 0) refl made.1 front own
      (λ front' own'. took_at slot accepts (before ++ e ∷ []) history made.1 front' own')

pub named_by_next : (base : State) (f : Folded) (history before rest : List Entry) (took next_one : Entry) (slot : ℕ) (name : ConnName) → AreMade base f history
    → entries_of 0 history ≡ before ++ took ∷ next_one ∷ rest → took.event ≡ event.Accept slot → conn_needed next_one.event ≡ Some name
    → taken_name took.reply ≡ Some name
named_by_next base f history before rest took next_one slot name made own accepts needs =
    took_at base f took next_one rest name needs slot accepts [] history made before own
