use Rattle.std.proofs.Common.{◌≡◌, ◌<◌, true, false, is_none, rules, arith}
use Rattle.conn_machine.specs.States.{pick_child}
use Rattle.conn_machine.specs.Table.{is_vacant_at}
use Rattle.conn_slots.specs.Slots.{most_lives}
use Rattle.board.proofs.SlotLemmas.{slot-allowed}
use Rattle.board.proofs.UseLemmas.{next-vacant, none-vacant}
use Rattle.board.proofs.accept.slot_for_accept.Goals as goal

pub returns-in-Some-clause-allowed : goal.returns-in-Some-clause-allowed
returns-in-Some-clause-allowed g c =
    let s = c.args.book.now.state in
    let name = c.in-Some.name in
    let some : is_none (pick_child s) ≡ false = search rules in
    let below : name.life < most_lives = omega arith in
    let vacant : is_vacant_at s name.slot ≡ true = next-vacant s c.args.slots.now.slots name c.requires (search rules) below in
    slot-allowed s name.slot (c.connections_go_to_the_chosen_child.ensures.picked s) c.show.ensures.sound some vacant

pub returns-in-None-clause-why : goal.returns-in-None-clause-why
returns-in-None-clause-why g c = record {
  was_open = search rules;
  picked = search rules;
  none_vacant = none-vacant c.args.book.now.state c.args.slots.now.slots c.requires (search rules);
}
