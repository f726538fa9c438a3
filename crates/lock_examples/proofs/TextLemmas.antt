-- A turn with the value that has texts may be given back.
use Rattle.std.proofs.Common.{◌≡◌, ◌⊎◌, inl, inr, ⊎_elim, ℕ, zero, suc, ◌+◌, ◌≤◌, List, [], ◌∷◌, ◌++◌, length, replicate, Option, Some, None, refl, sym, ap, subst, ◌∙◌, arith}
use Rattle.atomic_table.specs.Table.{Me}
use Rattle.conn_machine.specs.declared.event.Entry.{Entry}
use Rattle.conn_machine.specs.declared.folded.Folded.{Folded}
use Rattle.conn_machine.specs.declared.kept.Ledger.{Ledger}
use Rattle.conn_machine.specs.Folds.{fold_of, opening_record}
use Rattle.table_rule.specs.declared.view.View.{View}
use Rattle.table_rule.specs.Histories.{Extends}
use Rattle.table_rule.specs.Ledgers.{FoldsOn, KeepsOn, MayGiveBack}
use Rattle.board_lock.specs.Passes.{GaveBack, TookTurn}
use Rattle.lock_examples.specs.declared.texts.Texts.{Texts}
use Rattle.lock_examples.specs.Texts.{texts_ledger}
use Rattle.lock_examples.specs.Toy.{toy_state}
use Rattle.lock_examples.proofs.FoldLemmas.{record_opens}

-- more empty texts begin with fewer
more_texts : (n m : ℕ) → n ≤ m → Extends {X = List ℕ} (replicate n []) (replicate m [])
more_texts zero m le = (replicate m [], refl)
more_texts (suc n) zero le = absurd (omega arith)
more_texts (suc n) (suc m) le = let e = more_texts n m (omega arith) in (e.0, ap (λ (l : List (List ℕ)). [] ∷ l) e.1)

-- any pass may add texts
pub may_write : {K : Type 0} (v w : Me (Option K) View) (old new : Texts) → TookTurn v w (texts_ledger old) → old.count ≤ new.count → new.passes ≡ old.passes
    → MayGiveBack w.0 (texts_ledger new)
may_write v w old new took more passes = (
  texts_ledger old,
  ap (λ (u : View). u.turn) took.view,
  record {
    added = [];
    change = inl record { base = refl; record_is = ap opening_record passes; history = refl; texts = more_texts old.count new.count more };
    passes = passes;
    entries = tt;
    permitted = tt;
  },
)

-- a fold of no entries leaves the record
same_record : (passes : ℕ) → opening_record passes ≡ record (fold_of toy_state [] [] (opening_record passes)) { lines = [] }
same_record passes = sym (record_opens passes)

-- pass 0 may fold
pub may_fold : {K : Type 0} (v w : Me (Option K) View) (old new : Texts) → TookTurn v w (texts_ledger old) → v.0.who.number ≡ 0 → new ≡ record old { count = 0 }
    → MayGiveBack w.0 (texts_ledger new)
may_fold v w old new took number is = subst (λ t. MayGiveBack w.0 (texts_ledger t)) (sym is) (
  texts_ledger old,
  ap (λ (u : View). u.turn) took.view,
  record {
    added = [];
    change =
        inr (
          ap (λ (u : View). u.who.number) took.view ∙ number,
          record { before = []; behind = []; added_is = refl; base = refl; record_is = same_record old.passes; history = refl },
        );
    passes = refl;
    entries = tt;
    permitted = tt;
  },
)

some_is : {X : Type 0} (o : Option X) (a b : X) → o ≡ Some a → o ≡ Some b → a ≡ b
some_is None a b ea eb = absurd (cc)
some_is (Some x) a b ea eb = cc

no_entries : (l : List Entry) → 0 ≡ length l → l ≡ []
no_entries [] e = refl
no_entries (x ∷ l) e = absurd (omega arith)

-- a value without entries that follows one without entries was given none
none_added : (found : Ledger) (old new : Texts) (added : List Entry) (mine : Type 0) → found ≡ texts_ledger old
    → KeepsOn found (texts_ledger new) added ⊎ (mine × FoldsOn found (texts_ledger new) added) → added ≡ []
none_added found old new added mine same = ⊎_elim
    (λ (k : KeepsOn found (texts_ledger new) added). sym (k.history ∙ ap (λ (l : Ledger). l.history ++ added) same))
    (λ (k : mine × FoldsOn found (texts_ledger new) added).
    let count : 0 ≡ found.folded.entries + length (found.history ++ k.1.before) = ap (λ (f : Folded). f.entries) k.1.record_is in
    let count' : 0 ≡ 0 + length k.1.before = count ∙ ap (λ (l : Ledger). l.folded.entries + length (l.history ++ k.1.before)) same in
    let before : k.1.before ≡ [] = no_entries k.1.before (omega (arith, count')) in
    k.1.added_is ∙ ap (λ (l : List Entry). l ++ k.1.behind) before ∙ sym k.1.history)

-- so the pass has seen none
pub none_seen : {K : Type 0} (v u w : Me (Option K) View) (old new : Texts) → TookTurn v u (texts_ledger old) → GaveBack u w (texts_ledger new) → w.0.seen ≡ []
none_seen v u w old new took gave =
    let parts = took.is_found.parts in
    let left = no_entries took.is_found.left.entries parts.counted in
    let before : u.0.seen ≡ [] = parts.whole_is ∙ ap (λ (l : List Entry). l ++ []) left in
    let found : gave.ends.found ≡ texts_ledger old =
    some_is u.0.turn gave.ends.found (texts_ledger old) gave.ends.turn (ap (λ (x : View). x.turn) took.view) in
    let added = none_added gave.ends.found old new gave.ends.change.added (u.0.who.number ≡ 0) found gave.ends.change.change in
    gave.ends.seen ∙ ap (λ (l : List Entry). l ++ gave.ends.change.added) before ∙ added
