-- What is added to the entries that a value keeps is added to the whole history.
use Rattle.std.proofs.Common.{◌≡◌, ◌↔◌, ℕ, ◌<◌, List, [], ◌∷◌, ◌++◌, None, sym, ap, subst, ◌∙◌, append_assoc, arith}
use Rattle.std.specs.Prelude.{slice_index}
use Rattle.conn_machine.specs.declared.event.Entry.{Entry}
use Rattle.conn_machine.specs.declared.folded.Folded.{Folded}
use Rattle.conn_machine.specs.declared.kept.Ledger.{Ledger}
use Rattle.conn_machine.specs.declared.state.State.{State}
use Rattle.conn_machine.specs.Folds.{GoesOnFrom, opening_record}
use Rattle.conn_machine.specs.Runs.{AreEntriesOf, IsNextOf, after, entries_of, row_after, row_from, row_of}
use Rattle.table_rule.specs.declared.view.LastLeft.{LastLeft}
use Rattle.table_rule.specs.declared.view.Origin.{Origin}
use Rattle.table_rule.specs.Ledgers.{IsSplit}
use Rattle.table_rule.proofs.RecordLemmas.{each_first}

-- behind a record that goes on from another one a pass has the same connection, and may make the same entries
pub record GoesOnSame : Type 0 where
  pub row : (p : ℕ) (f later : Folded) (history rest : List Entry) → GoesOnFrom p f history later → row_from f p (history ++ rest) ≡ row_from later p rest
  pub next : (p : ℕ) (base : State) (f later : Folded) (history rest : List Entry) (e : Entry) → GoesOnFrom p f history later
      → IsNextOf p base f (history ++ rest) e ↔ IsNextOf p (after base history) later rest e

entries_whole : GoesOnSame → (p : ℕ) (start base : State) (f later : Folded) (left history added : List Entry) → base ≡ after start left
    → GoesOnFrom p f left later → AreEntriesOf p base later history added → AreEntriesOf p start f (left ++ history) added
entries_whole laws p start base f later left history [] same goes are = tt
entries_whole laws p start base f later left history (e ∷ added) same goes are = (
  (laws.next p start f later left history e goes).1 (subst (λ s. IsNextOf p s later history e) same are.0),
  subst (λ l. AreEntriesOf p start f l added) (sym (append_assoc left history (e ∷ [])))
      (entries_whole laws p start base f later left (history ++ e ∷ []) added same goes are.1),
)

-- the record goes on from the opening one by what was folded
goes_by : (origin : Origin) (left : LastLeft) (l : Ledger) (whole : List Entry) (p : ℕ) → IsSplit origin left l whole → p < origin.passes
    → GoesOnFrom p (opening_record origin.passes) left.entries l.folded
goes_by origin left l whole p split lt = record {
  ordinal = (let first : slice_index (opening_record origin.passes).ordinals p ≡ 0 = each_first origin.passes p 0 in
      let next = split.ordinals p lt in omega (arith, first, next));
  row = split.rows p lt ∙ sym (ap (λ had. row_after had (entries_of p left.entries)) (each_first origin.passes p None));
}

pub row_kept : GoesOnSame → (origin : Origin) (left : LastLeft) (l : Ledger) (whole : List Entry) (p : ℕ) → IsSplit origin left l whole → p < origin.passes
    → row_from l.folded p l.history ≡ row_of p whole
row_kept laws origin left l whole p split lt =
    sym (laws.row p (opening_record origin.passes) l.folded left.entries l.history (goes_by origin left l whole p split lt))
    ∙ ap (λ had. row_after had (entries_of p (left.entries ++ l.history))) (each_first origin.passes p None)
    ∙ ap (row_of p) (sym split.whole_is)

pub entries_kept : GoesOnSame → (origin : Origin) (left : LastLeft) (l : Ledger) (whole added : List Entry) (p : ℕ) → IsSplit origin left l whole → p < origin.passes
    → AreEntriesOf p l.base l.folded l.history added → AreEntriesOf p origin.state (opening_record origin.passes) whole added
entries_kept laws origin left l whole added p split lt are =
    subst (λ h. AreEntriesOf p origin.state (opening_record origin.passes) h added) (sym split.whole_is)
    (entries_whole laws p origin.state l.base (opening_record origin.passes) l.folded left.entries l.history added split.base
    (goes_by origin left l whole p split lt) are)
