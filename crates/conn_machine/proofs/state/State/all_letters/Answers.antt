use Rattle.std.proofs.Common.{◌≡◌, ◌≤◌, List, slice_index_or, arith, subst, sym}
use Rattle.conn_machine.specs.Children.{no_child}
use Rattle.conn_machine.specs.Shown.{cells_of, child_letters}
use Rattle.conn_machine.specs.declared.child.Child.{Child}
use Rattle.conn_machine.proofs.LetterLemmas.{few_cells}
use Rattle.conn_machine.proofs.ShownLemmas.{letters_more}
use Rattle.conn_machine.proofs.state.State.all_letters.Goals as goal

pub loop-number-preserved : goal.loop-number-preserved
loop-number-preserved c =
    let cells =
    subst (λ (xs : List Child). cells_of c.args.self.now (slice_index_or xs c.loop-number.number no_child) ≤ 64)
    (sym c.as_slice-child-items.ensures) (few_cells c.args.self.now c.loop-number.number c.requires.sound) in
    record {
      made =
          letters_more (child_letters c.args.self.now) c.as_slice-child-items.result.now c.loop-number.number _ c.loop-number.letters.items
          c.fill_child.new.letters.items c.fill_child.ensures.made c.loop-number.invariant.made c.loop-number-test.true;
      few = omega (arith, c.fill_child.ensures.len, c.loop-number.invariant.few, cells);
      within = c.loop-number.invariant.within;
      are = c.loop-number.invariant.are;
    }
