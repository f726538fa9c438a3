use Rattle.std.proofs.Common.{◌+◌, length, refl, arith}
use Rattle.board_book.proofs.AheadLemmas.{ahead_more, counts_within, number_fits, room_for_one}
use Rattle.board_book.proofs.ahead.Ahead.add.Goals as goal

pub count_event-requires : goal.count_event-requires
count_event-requires c =
    let within = counts_within c.args.folded.now c.args.history.now c.args.self.now c.requires.ahead c.requires.within in
    room_for_one (c.args.folded.now.entries + length c.args.history.now) c.args.self.now within (omega (arith, c.requires.few))

pub overflow_add-index_mut : goal.overflow_add-index_mut
overflow_add-index_mut c =
    let fits = number_fits c.args.folded.now c.args.history.now c.args.entry.now c.args.self.now c.count_event.new.self c.index_mut.result.now
    c.requires.ahead c.requires.within c.requires.pass c.requires.few c.count_event.ensures c.index_mut.ensures.value in
    omega (arith, fits)

pub returns : goal.returns
returns c =
    ahead_more c.args.folded.now c.args.history.now c.args.entry.now c.args.self.now c.count_event.new.self _ c.index_mut.result.now c.index.result.now c.has_after.result
    (record {
      own = λ p. c.histories_go_on_by_one_entry.ensures.own p c.args.history.now c.args.entry.now;
      other = λ p. c.histories_go_on_by_one_entry.ensures.other p c.args.history.now c.args.entry.now;
      row = λ p. c.histories_go_on_by_one_entry.ensures.row c.args.folded.now p c.args.history.now c.args.entry.now;
    })
    c.requires.ahead c.requires.pass c.requires.places c.count_event.ensures refl c.index_mut.ensures.value refl c.index.ensures
    c.has_after.ensures refl
