-- A history that goes on by one entry.
use Rattle.std.proofs.Common.{◌≡◌, ℕ, zero, suc, ◌+◌, Bool, true, false, List, [], ◌∷◌, ◌++◌, length, filter, refl, sym, ap, subst, ◌∙◌, add-zero, length-append, append-nil, arith}
use Rattle.std.proofs.lemmas.List.{map-append}
use Rattle.std.proofs.lemmas.List.Elements.{filter-append}
use Rattle.std.proofs.lemmas.Bool.{eqb-true}
use Rattle.std.specs.Prelude.{slice_index}
use Rattle.std.specs.List.{range_with_len}
use Rattle.conn_machine.specs.declared.event.Entry.{Entry}
use Rattle.conn_machine.specs.declared.folded.Folded.{Folded}
use Rattle.conn_machine.specs.declared.state.State.{State}
use Rattle.conn_machine.specs.Table.{is_allowed, next, reply}
use Rattle.conn_machine.specs.Runs.{after, Run, is_of_pass, entries_of, IsNumberedFrom, IsInPassOrderFrom, IsHistory}

-- a history goes on from the state after its first entries
pub after-append : (s : State) (a b : List Entry) → after s (a ++ b) ≡ after (after s a) b
after-append s [] b = refl
after-append s (e ∷ a) b = after-append (next s e.event) a b

-- by one entry too
pub after-snoc : (s : State) (history : List Entry) (e : Entry) → after s (history ++ e ∷ []) ≡ next (after s history) e.event
after-snoc s history e = after-append s history (e ∷ [])

pub run_snoc : (s : State) (history : List Entry) (e : Entry) → Run s history
    → is_allowed (after s history) e.event ≡ true → e.reply ≡ reply (after s history) e.event → Run s (history ++ e ∷ [])
run_snoc s [] e run is_allowed replied = (is_allowed, replied, tt)
run_snoc s (x ∷ history) e run is_allowed replied = (run.0, run.1, run_snoc (next s x.event) history e run.2 is_allowed replied)

-- an entry of the pass is its last
pub entries_of-own : (p : ℕ) (history : List Entry) (e : Entry) → is_of_pass p e ≡ true
    → entries_of p (history ++ e ∷ []) ≡ entries_of p history ++ e ∷ []
entries_of-own p history e own =
    let last : filter (is_of_pass p) (e ∷ []) ≡ e ∷ [] = rw own refl in
    filter-append (is_of_pass p) history (e ∷ []) ∙ ap (λ xs. entries_of p history ++ xs) last

-- an entry of another pass changes nothing for the pass
pub entries_of-other : (p : ℕ) (history : List Entry) (e : Entry) → is_of_pass p e ≡ false
    → entries_of p (history ++ e ∷ []) ≡ entries_of p history
entries_of-other p history e other =
    let last : filter (is_of_pass p) (e ∷ []) ≡ [] = rw other refl in
    filter-append (is_of_pass p) history (e ∷ []) ∙ ap (λ xs. entries_of p history ++ xs) last ∙ append-nil (entries_of p history)

-- the numbers of a list that is one longer
pub range_with_len-snoc : (a n : ℕ) → range_with_len a (n + 1) ≡ range_with_len a n ++ (a + n) ∷ []
range_with_len-snoc a zero = rw add-zero refl
range_with_len-snoc a (suc n) =
    let e : a + 1 + n ≡ a + suc n = omega arith in
    let s : suc n + 1 ≡ suc (n + 1) = omega arith in
    let step : range_with_len (a + 1) (n + 1) ≡ range_with_len (a + 1) n ++ (a + 1 + n) ∷ [] = range_with_len-snoc (a + 1) n in
    let step' = subst (λ (m : ℕ). range_with_len (a + 1) (n + 1) ≡ range_with_len (a + 1) n ++ m ∷ []) e step in
    rw s (ap (λ (xs : List ℕ). a ∷ xs) step')

-- the entries of a pass stay numbered, where the new one has the next number
numbered-own : (first p : ℕ) (history : List Entry) (e : Entry) → IsNumberedFrom first p history → is_of_pass p e ≡ true
    → e.ordinal ≡ first + length (entries_of p history) → IsNumberedFrom first p (history ++ e ∷ [])
numbered-own first p history e before own ordinal =
    let mine = entries_of p history in
    let len : length (mine ++ e ∷ []) ≡ length mine + 1 = length-append mine (e ∷ []) in
    let numbers : range_with_len first (length (mine ++ e ∷ [])) ≡ range_with_len first (length mine) ++ (first + length mine) ∷ [] =
    ap (range_with_len first) len ∙ range_with_len-snoc first (length mine) in
    rw (entries_of-own p history e own)
    (map-append (λ (x : Entry). x.ordinal) mine (e ∷ [])
    ∙ ap (λ (xs : List ℕ). xs ++ e.ordinal ∷ []) before
    ∙ ap (λ (n : ℕ). range_with_len first (length mine) ++ n ∷ []) ordinal
    ∙ sym numbers)

numbered-other : (first p : ℕ) (history : List Entry) (e : Entry) → IsNumberedFrom first p history → is_of_pass p e ≡ false
    → IsNumberedFrom first p (history ++ e ∷ [])
numbered-other first p history e before other = rw (entries_of-other p history e other) before

numbered_by : (f : Folded) (p : ℕ) (history : List Entry) (e : Entry) (own : Bool) → is_of_pass p e ≡ own
    → IsNumberedFrom (slice_index f.ordinals p) p history → e.ordinal ≡ slice_index f.ordinals e.pass + length (entries_of e.pass history)
    → IsNumberedFrom (slice_index f.ordinals p) p (history ++ e ∷ [])
numbered_by f p history e true own before ordinal =
    let same : e.pass ≡ p = eqb-true e.pass p own in
    numbered-own (slice_index f.ordinals p) p history e before own
    (ordinal ∙ ap (λ (q : ℕ). slice_index f.ordinals q + length (entries_of q history)) same)
numbered_by f p history e false other before ordinal = numbered-other (slice_index f.ordinals p) p history e before other

-- the history stays in the order of its passes, where the entry has the next number of its pass
pub order-snoc : (f : Folded) (history : List Entry) (e : Entry) → IsInPassOrderFrom f history
    → e.ordinal ≡ slice_index f.ordinals e.pass + length (entries_of e.pass history) → IsInPassOrderFrom f (history ++ e ∷ [])
order-snoc f history e order ordinal p =
    numbered_by f p history e (is_of_pass p e) refl (order p) ordinal

-- a history that goes on by an entry which the state allows
pub history-snoc : (base : State) (f : Folded) (history : List Entry) (e : Entry) → IsHistory base f history
    → is_allowed (after base history) e.event ≡ true → e.reply ≡ reply (after base history) e.event
    → e.ordinal ≡ slice_index f.ordinals e.pass + length (entries_of e.pass history) → IsHistory base f (history ++ e ∷ [])
history-snoc base f history e before is_allowed replied ordinal = record {
  run = run_snoc base history e before.run is_allowed replied;
  order = order-snoc f history e before.order ordinal;
}
