-- What a pass has in hand after it took the turn.
use Rattle.std.proofs.Common.{◌≡◌, ◌==◌, ℕ, ◌∷◌, Option, Some, true, refl, sym, subst, eq-eqb}
use Rattle.atomic_table.specs.Table.{Me, rest}
use Rattle.conn_machine.specs.declared.kept.Ledger.{Ledger}
use Rattle.table_rule.specs.declared.view.View.{View}
use Rattle.table_rule.specs.Steps.{IsTurnTaken}

module _ {K : Type 0} (ledger : K → Ledger) where
  -- the turn was taken where the word was the one that was expected
  pub took : (found first : ℕ) (v w : Me (Option K) View) → found ≡ first → IsTurnTaken ledger (found == first) v w → IsTurnTaken ledger true v w
  took found first v w same told = subst (λ b. IsTurnTaken ledger b v w) (eq-eqb found first same) told

  -- then the value is in hand
  pub has_value : (v w : Me (Option K) View) → IsTurnTaken ledger true v w → (old : Option K) × (w.1 ≡ (0, old) ∷ rest w.1)
  has_value v w t = (Some t.0, subst (λ l. l ≡ (0, Some t.0) ∷ rest l) (sym t.2) refl)
