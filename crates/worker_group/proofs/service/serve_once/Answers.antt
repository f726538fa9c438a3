use Rattle.std.proofs.Common.{◌≡◌, ℕ, ◌<◌, Bool, true, false, ◌||◌, IfNone, inr, refl, ap, ◌∙◌, sym, subst, arith}
use Rattle.std.proofs.lemmas.Bool.Decides.{nat_tests}
use Rattle.mpm_base.specs.declared.conn.Cause.TheVariants as cause
use Rattle.mpm_base.specs.declared.conn.Kind.TheVariants.{KeepAlive, Reading}
use Rattle.conn_state.specs.declared.turn.WriteTurn.TheVariants as write
use Rattle.conn_state.specs.declared.turn.ReadTurn.TheVariants as read
use Rattle.conn_state.specs.Reader.{SeenReader}
use Rattle.conn_state.specs.Rest.{is_awaited}
use Rattle.worker_group.specs.declared.service.Exit.TheVariants as exit
use Rattle.worker_group.specs.InHandInside.{sends_left}
use Rattle.worker_group.proofs.LingerLemmas.{exits-out, last-lingers, last-shows, leaves-out}
use Rattle.worker_group.proofs.BackedLemmas.{backs-read, backs-write}
use Rattle.worker_group.proofs.ServeLemmas.{in-hand, served-written, served-read, closes-failed_write, closes-done, closes-failed_read, closes-unread}
use Rattle.worker_group.proofs.AnswerLemmas.{answers_none, fewer-told, sends-same}
use Rattle.worker_group.proofs.EditionLemmas.{edition-read, edition-shut, edition-written}
use Rattle.worker_group.proofs.ExitLemmas.{exits-written, exits-read, keeps-alive}
use Rattle.worker_group.proofs.TurnedLemmas.{turned-answer, turned-on, turned-shut, turned-written}
use Rattle.worker_group.proofs.service.serve_once.Goals as goal

or-true : (b : Bool) → (b || true) ≡ true
or-true true = refl
or-true false = refl

or-false : (b : Bool) → (b || false) ≡ b
or-false true = refl
or-false false = refl

pub returns-in-LinkFailed-clause-may : goal.returns-in-LinkFailed-clause-may
returns-in-LinkFailed-clause-may g c =
    closes-failed_write c.args.board.now.book.state c.args.conn.now _ c.show.ensures.sound c.requires.served c.in-LinkFailed.ensures

pub returns-then-last-clause-may : goal.returns-then-last-clause-may
returns-then-last-clause-may g c =
    let served = served-written c.args.board.now.book.state c.args.conn.now c.write_turn.new.self write.Done c.requires.served c.in-Done.ensures refl in
    let last = sym c.last.ensures ∙ c.if-last.true in
    leaves-out c.args.board.now.book cause.LastSent c.write_turn.new.self c.half_close.new.conn c.half_close.new.conn.linger c.half_close.result
    (in-hand c.args.board.now.book.state c.write_turn.new.self c.show.ensures.sound served)
    (last-lingers c.args.board.now.book.state c.write_turn.new.self c.show.ensures.sound served last)
    (last-shows c.args.board.now.book.state c.write_turn.new.self served c.in-Done.ensures.leaves last) c.half_close.ensures.shuts
    c.half_close.ensures.way

pub returns-in-Gone-clause-may : goal.returns-in-Gone-clause-may
returns-in-Gone-clause-may g c =
    let served = served-written c.args.board.now.book.state c.args.conn.now c.write_turn.new.self write.Done c.requires.served c.in-Done.ensures refl in
    closes-done c.args.board.now.book.state c.write_turn.new.self _ c.show.ensures.sound served (sym c.last.ensures ∙ c.if-last.false) c.in-Gone.ensures.reads

pub returns-in-LinkFailed-read_turn-clause-may : goal.returns-in-LinkFailed-read_turn-clause-may
returns-in-LinkFailed-read_turn-clause-may g c =
    let served = served-written c.args.board.now.book.state c.args.conn.now c.write_turn.new.self write.Done c.requires.served c.in-Done.ensures refl in
    closes-failed_read c.args.board.now.book.state c.write_turn.new.self _ c.show.ensures.sound served c.in-LinkFailed-read_turn.ensures.reads

pub returns-in-NoMemory-clause-may : goal.returns-in-NoMemory-clause-may
returns-in-NoMemory-clause-may g c =
    let served = served-written c.args.board.now.book.state c.args.conn.now c.write_turn.new.self write.Done c.requires.served c.in-Done.ensures refl in
    closes-unread c.args.board.now.book.state c.write_turn.new.self _ c.show.ensures.sound served c.in-NoMemory.ensures.reads

pub returns-in-LinkFailed-clause-acts : goal.returns-in-LinkFailed-clause-acts
returns-in-LinkFailed-clause-acts g c =
    answers_none c.args.who c.args.conn.now.name c.args.board.now.book c.args.board.now.book refl c.requires.row

pub returns-in-LinkFailed-clause-exits : goal.returns-in-LinkFailed-clause-exits
returns-in-LinkFailed-clause-exits g c = exits-written c.args.conn.now c.write_turn.new.self write.LinkFailed _ c.in-LinkFailed.ensures refl

pub returns-then-last-clause-acts : goal.returns-then-last-clause-acts
returns-then-last-clause-acts g c =
    answers_none c.args.who c.args.conn.now.name c.args.board.now.book c.args.board.now.book refl c.requires.row

pub returns-then-last-clause-exits : goal.returns-then-last-clause-exits
returns-then-last-clause-exits g c =
    exits-out c.write_turn.new.self c.half_close.new.conn c.half_close.result c.in-Done.ensures.turn (sym c.last.ensures ∙ c.if-last.true)
    c.half_close.ensures.shuts c.half_close.ensures.way

pub returns-in-More-clause-may : goal.returns-in-More-clause-may
returns-in-More-clause-may g c =
    let served = served-written c.args.board.now.book.state c.args.conn.now c.write_turn.new.self write.Done c.requires.served c.in-Done.ensures refl in (
      served-read c.args.board.now.book.state c.write_turn.new.self c.read_turn.new.self read.More served c.in-More.ensures.reads refl,
      record {
        turn = c.in-More.ensures.reads.turn;
        none_kept = sym c.rest_empty.ensures.kept ∙ c.if-rest_empty.true;
      },
      grind (arith, nat_tests, c.noted.ensures, c.if-noted.true),
      backs-read c.waits_are_backed_by_calls.ensures c.args.board.now.book.state c.write_turn.new.self c.read_turn.new.self KeepAlive served.row refl served.found served.fits.backed
          c.in-More.ensures.reads,
    )

pub returns-in-More-2-clause-may : goal.returns-in-More-2-clause-may
returns-in-More-2-clause-may g c =
    let served = served-written c.args.board.now.book.state c.args.conn.now c.write_turn.new.self write.Done c.requires.served c.in-Done.ensures refl in (
      served-read c.args.board.now.book.state c.write_turn.new.self c.read_turn.new.self read.More served c.in-More-2.ensures.reads refl,
      inr c.in-More-2.ensures.reads.turn,
      tt,
      backs-read c.waits_are_backed_by_calls.ensures c.args.board.now.book.state c.write_turn.new.self c.read_turn.new.self Reading served.row refl served.found served.fits.backed
          c.in-More-2.ensures.reads,
    )

pub returns-in-NotReady-clause-may : goal.returns-in-NotReady-clause-may
returns-in-NotReady-clause-may g c =
    let served = c.requires.served in (
      served-written c.args.board.now.book.state c.args.conn.now c.write_turn.new.self write.NotReady served c.in-NotReady.ensures refl,
      c.in-NotReady.ensures.turn,
      tt,
      backs-write c.waits_are_backed_by_calls.ensures c.args.board.now.book.state c.args.conn.now c.write_turn.new.self served.row served.found served.fits.backed c.in-NotReady.ensures,
    )

pub returns-in-More-clause-acts : goal.returns-in-More-clause-acts
returns-in-More-clause-acts g c =
    answers_none c.args.who c.args.conn.now.name c.args.board.now.book c.args.board.now.book refl c.requires.row

pub returns-in-More-clause-exits : goal.returns-in-More-clause-exits
returns-in-More-clause-exits g c =
    exits-read c.write_turn.new.self c.read_turn.new.self read.More _ c.in-More.ensures.reads
    (ap exit.Park (keeps-alive c.read_turn.new.self (sym c.noted.ensures ∙ c.if-noted.true) (sym c.rest_empty.ensures.kept ∙ c.if-rest_empty.true)))

pub returns-in-Gone-clause-acts : goal.returns-in-Gone-clause-acts
returns-in-Gone-clause-acts g c =
    answers_none c.args.who c.args.conn.now.name c.args.board.now.book c.args.board.now.book refl c.requires.row

pub returns-in-Gone-clause-exits : goal.returns-in-Gone-clause-exits
returns-in-Gone-clause-exits g c = exits-read c.write_turn.new.self c.read_turn.new.self read.Gone _ c.in-Gone.ensures.reads refl

pub returns-in-LinkFailed-read_turn-clause-acts : goal.returns-in-LinkFailed-read_turn-clause-acts
returns-in-LinkFailed-read_turn-clause-acts g c =
    answers_none c.args.who c.args.conn.now.name c.args.board.now.book c.args.board.now.book refl c.requires.row

pub returns-in-LinkFailed-read_turn-clause-exits : goal.returns-in-LinkFailed-read_turn-clause-exits
returns-in-LinkFailed-read_turn-clause-exits g c =
    exits-read c.write_turn.new.self c.read_turn.new.self read.LinkFailed _ c.in-LinkFailed-read_turn.ensures.reads refl

pub returns-in-NoMemory-clause-acts : goal.returns-in-NoMemory-clause-acts
returns-in-NoMemory-clause-acts g c =
    answers_none c.args.who c.args.conn.now.name c.args.board.now.book c.args.board.now.book refl c.requires.row

pub returns-in-NoMemory-clause-exits : goal.returns-in-NoMemory-clause-exits
returns-in-NoMemory-clause-exits g c =
    exits-read c.write_turn.new.self c.read_turn.new.self read.NoMemory _ c.in-NoMemory.ensures.reads refl

pub returns-in-NotReady-clause-turned : goal.returns-in-NotReady-clause-turned
returns-in-NotReady-clause-turned g c = turned-written c.args.conn.now c.write_turn.new.self write.NotReady c.in-NotReady.ensures

pub returns-in-LinkFailed-clause-turned : goal.returns-in-LinkFailed-clause-turned
returns-in-LinkFailed-clause-turned g c = turned-written c.args.conn.now c.write_turn.new.self write.LinkFailed c.in-LinkFailed.ensures

pub returns-then-last-clause-turned : goal.returns-then-last-clause-turned
returns-then-last-clause-turned g c =
    turned-shut c.args.conn.now c.write_turn.new.self c.half_close.new.conn _ c.in-Done.ensures c.half_close.ensures.shuts

pub returns-in-More-clause-turned : goal.returns-in-More-clause-turned
returns-in-More-clause-turned g c =
    turned-on c.args.conn.now c.write_turn.new.self c.read_turn.new.self write.Done read.More c.in-Done.ensures c.in-More.ensures.reads

pub returns-in-More-2-clause-turned : goal.returns-in-More-2-clause-turned
returns-in-More-2-clause-turned g c =
    turned-on c.args.conn.now c.write_turn.new.self c.read_turn.new.self write.Done read.More c.in-Done.ensures c.in-More-2.ensures.reads

pub returns-in-Gone-clause-turned : goal.returns-in-Gone-clause-turned
returns-in-Gone-clause-turned g c =
    turned-on c.args.conn.now c.write_turn.new.self c.read_turn.new.self write.Done read.Gone c.in-Done.ensures c.in-Gone.ensures.reads

pub returns-in-LinkFailed-read_turn-clause-turned : goal.returns-in-LinkFailed-read_turn-clause-turned
returns-in-LinkFailed-read_turn-clause-turned g c =
    turned-on c.args.conn.now c.write_turn.new.self c.read_turn.new.self write.Done read.LinkFailed c.in-Done.ensures c.in-LinkFailed-read_turn.ensures.reads

pub returns-in-NoMemory-clause-turned : goal.returns-in-NoMemory-clause-turned
returns-in-NoMemory-clause-turned g c =
    turned-on c.args.conn.now c.write_turn.new.self c.read_turn.new.self write.Done read.NoMemory c.in-Done.ensures c.in-NoMemory.ensures.reads

pub returns-in-Asked-clause-turned : goal.returns-in-Asked-clause-turned
returns-in-Asked-clause-turned g c =
    turned-answer c.args.conn.now c.write_turn.new.self c.read_turn.new.self c.answer.new.conn write.Done _ c.in-Done.ensures c.in-Asked.ensures.reads
    c.answer.ensures.turned

pub returns-in-Interim-clause-acts : goal.returns-in-Interim-clause-acts
returns-in-Interim-clause-acts g c =
    answers_none c.args.who c.args.conn.now.name c.args.board.now.book c.args.board.now.book refl c.requires.row

pub returns-in-Interim-clause-served : goal.returns-in-Interim-clause-served
returns-in-Interim-clause-served g c =
    let served = served-written c.args.board.now.book.state c.args.conn.now c.write_turn.new.self write.Done c.requires.served c.in-Done.ensures refl in
    served-read c.args.board.now.book.state c.write_turn.new.self c.read_turn.new.self read.Interim served c.in-Interim.ensures.reads refl

pub returns-in-Interim-clause-fewer : goal.returns-in-Interim-clause-fewer
returns-in-Interim-clause-fewer g c =
    let reads = c.in-Interim.ensures.reads in
    let writes = c.in-Done.ensures in
    fewer-told c.args.board.now.book.state c.args.conn.now c.read_turn.new.self (reads.child ∙ writes.child) (reads.notes ∙ writes.notes)
    (ap (λ (r : SeenReader). is_awaited r.stage) (sym writes.reader) ∙ reads.not_twice refl) (reads.told_once ∙ or-true (is_awaited c.write_turn.new.self.reader.stage))

pub returns-in-Interim-clause-turned : goal.returns-in-Interim-clause-turned
returns-in-Interim-clause-turned g c =
    turned-on c.args.conn.now c.write_turn.new.self c.read_turn.new.self write.Done read.Interim c.in-Done.ensures c.in-Interim.ensures.reads

pub returns-in-Asked-clause-fewer : goal.returns-in-Asked-clause-fewer
returns-in-Asked-clause-fewer g c =
    let reads = c.in-Asked.ensures.reads in
    let writes = c.in-Done.ensures in
    subst (λ (n : ℕ). IfNone c.answer.result (sends_left c.answer.new.board.book.state c.answer.new.conn < n))
    (sends-same c.args.board.now.book.state c.args.conn.now c.read_turn.new.self (reads.child ∙ writes.child) (reads.notes ∙ writes.notes)
    (reads.told_once ∙ or-false (is_awaited c.write_turn.new.self.reader.stage) ∙ ap (λ (r : SeenReader). is_awaited r.stage) writes.reader))
    c.answer.ensures.fewer

pub returns-in-NotReady-clause-edition : goal.returns-in-NotReady-clause-edition
returns-in-NotReady-clause-edition g c = edition-written g.N.Known.known c.args.board.now.book c.args.conn.now c.write_turn.new.self write.NotReady c.in-NotReady.ensures c.requires.edition

pub returns-in-LinkFailed-clause-edition : goal.returns-in-LinkFailed-clause-edition
returns-in-LinkFailed-clause-edition g c = edition-written g.N.Known.known c.args.board.now.book c.args.conn.now c.write_turn.new.self write.LinkFailed c.in-LinkFailed.ensures c.requires.edition

pub returns-then-last-clause-edition : goal.returns-then-last-clause-edition
returns-then-last-clause-edition g c =
    edition-shut g.N.Known.known c.args.board.now.book c.write_turn.new.self c.half_close.new.conn _ c.half_close.ensures.shuts
    (edition-written g.N.Known.known c.args.board.now.book c.args.conn.now c.write_turn.new.self write.Done c.in-Done.ensures c.requires.edition)

pub returns-in-More-clause-edition : goal.returns-in-More-clause-edition
returns-in-More-clause-edition g c =
    edition-read g.N.Known.known c.args.board.now.book c.args.conn.now c.write_turn.new.self c.read_turn.new.self write.Done read.More c.in-Done.ensures
    c.in-More.ensures.reads c.requires.edition

pub returns-in-More-2-clause-edition : goal.returns-in-More-2-clause-edition
returns-in-More-2-clause-edition g c =
    edition-read g.N.Known.known c.args.board.now.book c.args.conn.now c.write_turn.new.self c.read_turn.new.self write.Done read.More c.in-Done.ensures
    c.in-More-2.ensures.reads c.requires.edition

pub returns-in-Gone-clause-edition : goal.returns-in-Gone-clause-edition
returns-in-Gone-clause-edition g c =
    edition-read g.N.Known.known c.args.board.now.book c.args.conn.now c.write_turn.new.self c.read_turn.new.self write.Done read.Gone c.in-Done.ensures
    c.in-Gone.ensures.reads c.requires.edition

pub returns-in-LinkFailed-read_turn-clause-edition : goal.returns-in-LinkFailed-read_turn-clause-edition
returns-in-LinkFailed-read_turn-clause-edition g c =
    edition-read g.N.Known.known c.args.board.now.book c.args.conn.now c.write_turn.new.self c.read_turn.new.self write.Done read.LinkFailed c.in-Done.ensures
    c.in-LinkFailed-read_turn.ensures.reads c.requires.edition

pub returns-in-NoMemory-clause-edition : goal.returns-in-NoMemory-clause-edition
returns-in-NoMemory-clause-edition g c =
    edition-read g.N.Known.known c.args.board.now.book c.args.conn.now c.write_turn.new.self c.read_turn.new.self write.Done read.NoMemory c.in-Done.ensures
    c.in-NoMemory.ensures.reads c.requires.edition

pub returns-in-Interim-clause-edition : goal.returns-in-Interim-clause-edition
returns-in-Interim-clause-edition g c =
    edition-read g.N.Known.known c.args.board.now.book c.args.conn.now c.write_turn.new.self c.read_turn.new.self write.Done read.Interim c.in-Done.ensures
    c.in-Interim.ensures.reads c.requires.edition

pub answer-requires-clause-edition : goal.answer-requires-clause-edition
answer-requires-clause-edition g c =
    edition-read g.N.Known.known c.args.board.now.book c.args.conn.now c.write_turn.new.self c.read_turn.new.self write.Done _ c.in-Done.ensures
    c.in-Asked.ensures.reads c.requires.edition
