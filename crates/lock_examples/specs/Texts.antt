-- A small value that has texts, and no entries.
use Rattle.std.specs.Prelude.{[], replicate}
use Rattle.conn_machine.specs.declared.kept.Ledger.{Ledger}
use Rattle.conn_machine.specs.Folds.{opening_record}
use Rattle.lock_examples.specs.declared.texts.Texts.{Texts}
use Rattle.lock_examples.specs.Toy.{toy_state}

-- what it tells: so many texts, each of them empty
abbrev pub texts_ledger : Texts → Ledger
texts_ledger t =
    record {
      base = toy_state;
      folded = opening_record t.passes;
      history = [];
      texts = replicate t.count [];
      passes = t.passes;
    }
