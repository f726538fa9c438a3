-- What stays while other passes than the listener go on, after the server stopped, and where a child may be started.
use Rattle.std.proofs.Common.{◌≡◌, ◌≢◌, ◌≤◌, ℕ, ◌==◌, Bool, true, false, true≢false, not, ◌&&◌, List, [], ◌∷◌, ◌++◌, count_by, length, Option, Some, None, slice_get, eq-eqb, refl, sym, ap, subst, ◌∙◌, append-nil, append_assoc, if◌then◌else◌}
use Rattle.std.specs.Option.{option_map_or}
use Rattle.std.specs.List.{list_any, range_with_len}
use Rattle.std.proofs.lemmas.Bool.{and_from, and_parts}
use Rattle.mpm_base.specs.declared.conn.ConnName.{ConnName}
use Rattle.conn_machine.specs.declared.row.Row.{Row}
use Rattle.conn_machine.specs.declared.event.Event.{Event}
use Rattle.conn_machine.specs.declared.event.Event.TheVariants as event
use Rattle.conn_machine.specs.declared.event.Entry.{Entry}
use Rattle.conn_machine.specs.declared.folded.Folded.{Folded}
use Rattle.conn_machine.specs.declared.state.State.{State}
use Rattle.conn_machine.specs.BetweenTurns.{NoneIsDue}
use Rattle.conn_machine.specs.Children.{child_at, is_empty}
use Rattle.conn_machine.specs.Made.{AreMade, AreMadeBehind, HasSeen}
use Rattle.conn_machine.specs.Passes.{EachHasItsOwn, HasNoneInHand, OnlyServes, asking_count, asks_service}
use Rattle.conn_machine.specs.Rows.{is_live, is_live_in, is_with_a_pass, live_row}
use Rattle.conn_machine.specs.Runs.{Run, after, entries_of, first_row, has_row, is_of_pass, may_make, row_from}
use Rattle.conn_machine.specs.Sound.{IsSound}
use Rattle.conn_machine.specs.States.{is_halted, is_serving, is_signalled}
use Rattle.conn_machine.specs.Table.{child_passes, is_allowed, may_be_queued, next}
use Rattle.conn_machine.proofs.ChildSound.{passes-child}
use Rattle.conn_machine.proofs.HandLaw.{hand_live, made_own}
use Rattle.conn_machine.proofs.OwnRows.{met, off, some_is}
use Rattle.conn_machine.proofs.PassLaw.{Leaves, asked_before, entry_leaves, leaves_more, leaves_same, listener_alone, range-few, same_rows}
use Rattle.conn_machine.proofs.RunLemmas.{after-snoc}

-- ## A server that stopped

-- no event of a server that stopped is a further command, so each leaves it stopped
halted_stays : (s : State) (e : Event) → is_halted s.going ≡ true → is_allowed s e ≡ true → (next s e).going ≡ s.going
halted_stays s (event.Accept slot) halted may = refl
halted_stays s (event.Park name kind) halted may = refl
halted_stays s (event.Hold name) halted may = refl
halted_stays s (event.Queue name) halted may = refl
halted_stays s (event.Start name) halted may = refl
halted_stays s (event.Answer name ask) halted may = refl
halted_stays s (event.Linger name why) halted may = refl
halted_stays s (event.Close name why how) halted may = refl
halted_stays s (event.Ready slot) halted may = refl
halted_stays s (event.Tick m) halted may = refl
halted_stays s (event.StartChild k) halted may = refl
halted_stays s (event.Retire k) halted may = refl
halted_stays s (event.Command c) halted may =
    absurd (true≢false (sym (and_parts (not (is_halted s.going)) _ may).0 ∙ ap not halted))

pub stops_for_good : (base : State) (history : List Entry) → Run base history → is_halted base.going ≡ true → (after base history).going ≡ base.going
stops_for_good base [] run halted = refl
stops_for_good base (e ∷ history) run halted =
    let here : (next base e.event).going ≡ base.going = halted_stays base e.event halted run.0 in
    stops_for_good (next base e.event) history run.2 (ap is_halted here ∙ halted) ∙ here

-- of a history that passes made, what stands behind a part of it
made_rest : (base : State) (f : Folded) (before a b : List Entry) → AreMadeBehind base f before (a ++ b) → AreMadeBehind base f (before ++ a) b
made_rest base f before [] b made = subst (λ h. AreMadeBehind base f h b) (sym (append-nil before)) made
made_rest base f before (e ∷ a) b made =
    subst (λ h. AreMadeBehind base f h b) (append_assoc before (e ∷ []) a) (made_rest base f (before ++ e ∷ []) a b made.1)

-- and the part
made_front : (base : State) (f : Folded) (before a b : List Entry) → AreMadeBehind base f before (a ++ b) → AreMadeBehind base f before a
made_front base f before [] b made = tt
made_front base f before (e ∷ a) b made = (made.0, made_front base f (before ++ e ∷ []) a b made.1)

-- what stands behind what a pass has seen
seen_rest : (base : State) (f : Folded) (p : ℕ) (seen history : List Entry) → AreMade base f history → (has : HasSeen p seen history)
    → AreMadeBehind base f seen has.0
seen_rest base f p seen history made has = made_rest base f [] seen has.0 (subst (AreMade base f) has.1 made)

stops_behind : (base : State) (f : Folded) (before rest : List Entry) → AreMadeBehind base f before rest → is_halted (after base before).going ≡ true
    → (after base (before ++ rest)).going ≡ (after base before).going
stops_behind base f before [] made halted = ap (λ (h : List Entry). (after base h).going) (append-nil before)
stops_behind base f before (e ∷ rest) made halted =
    let one : (after base (before ++ e ∷ [])).going ≡ (after base before).going =
    ap (λ (s : State). s.going) (after-snoc base before e) ∙ halted_stays (after base before) e.event halted made.0.is_allowed in
    ap (λ (h : List Entry). (after base h).going) (sym (append_assoc before (e ∷ []) rest))
    ∙ stops_behind base f (before ++ e ∷ []) rest made.1 (ap is_halted one ∙ halted) ∙ one

pub stays_stopped : (base : State) (f : Folded) (p : ℕ) (seen history : List Entry) → AreMade base f history → HasSeen p seen history
    → is_halted (after base seen).going ≡ true → (after base history).going ≡ (after base seen).going
stays_stopped base f p seen history made has halted =
    ap (λ (h : List Entry). (after base h).going) has.1 ∙ stops_behind base f seen has.0 (seen_rest base f p seen history made has) halted

-- ## What other passes leave

-- no entry of a list is the pass's
first_else : (p : ℕ) (e : Entry) (rest : List Entry) → entries_of p (e ∷ rest) ≡ [] → (e.pass ≢ p) × (entries_of p rest ≡ [])
first_else p e rest none = by (is_of_pass p e) refl none
  where
    by : (b : Bool) → is_of_pass p e ≡ b → (if b then e ∷ entries_of p rest else entries_of p rest) ≡ [] → (e.pass ≢ p) × (entries_of p rest ≡ [])
    by true is none = absurd (cc)
    by false is none = ((λ same. off is (eq-eqb e.pass p same)), none)

others_leave : (base : State) (f : Folded) (before added : List Entry) → entries_of 0 added ≡ [] → AreMadeBehind base f before added
    → Leaves (after base before) (after base (before ++ added))
others_leave base f before [] none made =
    subst (λ (h : List Entry). Leaves (after base before) (after base h)) (sym (append-nil before)) (leaves_same (after base before))
others_leave base f before (e ∷ added) none made =
    let other = first_else 0 e added none in
    leaves_more (after base before) (after base (before ++ e ∷ [])) (after base (before ++ e ∷ added))
    (entry_leaves e.pass base f before e other.0 made.0)
    (subst (λ (h : List Entry). Leaves (after base (before ++ e ∷ [])) (after base h)) (append_assoc before (e ∷ []) added)
    (others_leave base f (before ++ e ∷ []) added other.1 made.1))

others_leave_seen : (base : State) (f : Folded) (seen history : List Entry) → AreMade base f history → HasSeen 0 seen history
    → Leaves (after base seen) (after base history)
others_leave_seen base f seen history made has =
    subst (λ h. Leaves (after base seen) (after base h)) (sym has.1)
    (others_leave base f seen has.0 has.2 (seen_rest base f 0 seen history made has))

pub others_only_serve : (base : State) (f : Folded) (seen history : List Entry) → AreMade base f history → HasSeen 0 seen history
    → OnlyServes (after base seen) (after base history)
others_only_serve base f seen history made has = (others_leave_seen base f seen history made has).rest

pub others_ask_none : (base : State) (f : Folded) (seen history : List Entry) → AreMade base f history → HasSeen 0 seen history
    → asking_count (after base history) ≤ asking_count (after base seen)
others_ask_none base f seen history made has =
    let s = after base seen in
    let s' = after base history in
    let rows : length s'.rows ≡ length s.rows = ap (λ (h : List Entry). length (after base h).rows) has.1 ∙ same_rows base seen has.0 in
    subst (λ (n : ℕ). count_by (asks_service s') (range_with_len 0 n) ≤ asking_count s) (sym rows)
    (range-few (asks_service s') (asks_service s) 0 (length s.rows) (asked_before s s' (others_leave_seen base f seen history made has)))

-- ## A quiet table

-- a pass that has no connection may not make what needs one
without_row : {P : Type 0} (name : ConnName) → has_row None name ≡ true → P
without_row name is = absurd (true≢false (sym is))

none_acts : (s : State) (p : ℕ) (e : Event) → p ≢ 0 → NoneIsDue s → is_allowed s e ≡ true → may_make p None e ≡ true → ⊥
none_acts s p (event.Accept slot) other none may role = listener_alone p other (and_parts (p == 0) true role).0
none_acts s p (event.Park name kind) other none may role = without_row name role
none_acts s p (event.Hold name) other none may role = listener_alone p other (and_parts (p == 0) true role).0
none_acts s p (event.Queue name) other none may role =
    let a = and_parts (not (is_halted s.going) && is_signalled s name.slot) _ may in
    let m = met (may_be_queued s) s.rows name a.1 in
    off (none name.slot m.row m.at)
    (and_from (is_signalled s name.slot) (may_be_queued s m.row) (and_parts (not (is_halted s.going)) (is_signalled s name.slot) a.0).1 m.passes)
none_acts s p (event.Start name) other none may role = without_row name role
none_acts s p (event.Answer name ask) other none may role = without_row name role
none_acts s p (event.Linger name why) other none may role = without_row name role
none_acts s p (event.Close name why how) other none may role = without_row name role
none_acts s p (event.Ready slot) other none may role = listener_alone p other role
none_acts s p (event.Tick m) other none may role = listener_alone p other role
none_acts s p (event.StartChild k) other none may role = listener_alone p other role
none_acts s p (event.Command c) other none may role = listener_alone p other role
none_acts s p (event.Retire k) other none may role = listener_alone p other role

-- a live row stands in the slot of its name
slot_of : (rows : List Row) (name : ConnName) (r : Row) → live_row rows name ≡ Some r → slice_get rows name.slot ≡ Some r
slot_of rows name r is =
    let m = met (λ x. true) rows name (ap (λ (o : Option Row). option_map_or (λ x. true) o false) is) in
    m.at ∙ ap Some (some_is (live_row rows name) m.row r m.live is)

-- where no connection is in hand no pass has one
nobody_has : (s : State) (has : ℕ → Option ConnName) → EachHasItsOwn s has → HasNoneInHand s → (p : ℕ) → has p ≡ None
nobody_has s has own none p = by (has p) refl
  where
    by : (o : Option ConnName) → has p ≡ o → o ≡ None
    by None is = refl
    by (Some name) is =
        let l = own.live p name is in off (none.each name.slot l.0 (slot_of s.rows name l.0 l.1)) l.2

pub quiet_is_the_listeners : (base : State) (f : Folded) (seen history : List Entry) → EachHasItsOwn base (first_row f) → AreMade base f history
    → HasSeen 0 seen history → HasNoneInHand (after base seen) → NoneIsDue (after base seen) → history ≡ seen
quiet_is_the_listeners base f seen history own made has none due =
    has.1 ∙ ap (λ l. seen ++ l) (by has.0 has.2 (seen_rest base f 0 seen history made has)) ∙ append-nil seen
  where
    front : AreMade base f seen
    front = made_front base f [] seen has.0 (subst (AreMade base f) has.1 made)

    by : (rest : List Entry) → entries_of 0 rest ≡ [] → AreMadeBehind base f seen rest → rest ≡ []
    by [] none' m = refl
    by (e ∷ rest) none' m =
        let other = first_else 0 e rest none' in
        let row : row_from f e.pass seen ≡ None =
        nobody_has (after base seen) (λ p. row_from f p seen) (made_own base f seen own front) none e.pass in
        absurd (none_acts (after base seen) e.pass e.event other.0 due m.0.is_allowed (subst (λ had. may_make e.pass had e.event ≡ true) row m.0.role))

-- ## A child that starts

-- a child that may be started isn't there
start_empty : (s : State) (k : ℕ) → is_allowed s (event.StartChild k) ≡ true → is_empty (child_at s.children k).phase ≡ true
start_empty s k may =
    (passes-child (λ c. is_empty c.phase) s.children k
    (and_parts (is_serving s.going) (child_passes (λ c. is_empty c.phase) s k)
    (and_parts (is_serving s.going && child_passes (λ c. is_empty c.phase) s k) _ may).0).1).1

pub started_none_live : (s : State) (k : ℕ) → IsSound s → is_allowed s (event.StartChild k) ≡ true → list_any (is_live_in k) s.rows ≡ false
started_none_live s k sound may = (sound.children.gone k (start_empty s k may)).none_live

pub started_none_works : (s : State) (k : ℕ) → IsSound s → is_allowed s (event.StartChild k) ≡ true → (child_at s.children k).shape.threads ≡ 0
started_none_works s k sound may = (sound.children.gone k (start_empty s k may)).none_works

pub started_other : (s : State) (k slot : ℕ) (r : Row) → IsSound s → is_allowed s (event.StartChild k) ≡ true → slice_get s.rows slot ≡ Some r → is_live r ≡ true
    → r.child ≢ k
started_other s k slot r sound may at live same =
    off (sound.owners slot r at live).there (ap (λ (i : ℕ). is_empty (child_at s.children i).phase) same ∙ start_empty s k may)

pub started_nobodys : (s : State) (has : ℕ → Option ConnName) (k p : ℕ) (name : ConnName) → IsSound s → EachHasItsOwn s has
    → is_allowed s (event.StartChild k) ≡ true → has p ≡ Some name → (r : Row) × (live_row s.rows name ≡ Some r) × (r.child ≢ k)
started_nobodys s has k p name sound own may is =
    let l = own.live p name is in
    (l.0, l.1, started_other s k name.slot l.0 sound may (slot_of s.rows name l.0 l.1) (hand_live l.0.place l.2))
