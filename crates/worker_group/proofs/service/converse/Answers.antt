use Rattle.std.proofs.Common.{◌<◌, [], Some, refl, ap, sym, subst, ◌∙◌}
use Rattle.mpm_base.specs.declared.conn.ConnName.{ConnName}
use Rattle.worker_group.proofs.ActsLemmas.{acts_none}
use Rattle.worker_group.proofs.AnswerLemmas.{answers_more}
use Rattle.worker_group.proofs.TurnedLemmas.{none_falls-more, none_falls-same, turned-more}
use Rattle.worker_group.proofs.service.converse.Goals as goal

pub loop-exit-init : goal.loop-exit-init
loop-exit-init g c =
    record {
      name = refl;
      served = c.requires.served;
      edition = c.requires.edition;
      acts = ([], acts_none c.args.who (Some c.args.conn.now.name) c.args.board.now.book c.requires.row);
      counts = none_falls-same c.args.conn.now.counts;
    }

pub serve_once-requires-clause-row : goal.serve_once-requires-clause-row
serve_once-requires-clause-row g c = c.loop-exit.invariant.acts.1.row ∙ ap (λ (n : ConnName). Some n) (sym c.loop-exit.invariant.name)

pub serve_once-requires-clause-who : goal.serve_once-requires-clause-who
serve_once-requires-clause-who g c = subst (λ n. c.args.who < n) (sym c.loop-exit.invariant.acts.1.passes) c.requires.who

pub returns-in-Some-clause-acts : goal.returns-in-Some-clause-acts
returns-in-Some-clause-acts g c =
    answers_more c.args.who c.args.conn.now.name c.loop-exit.conn.name c.args.board.now.book c.loop-exit.board.book c.serve_once.new.board.book
    c.loop-exit.invariant.name c.loop-exit.invariant.acts c.serve_once.ensures.acts

pub returns-in-Some-clause-turned : goal.returns-in-Some-clause-turned
returns-in-Some-clause-turned g c =
    turned-more c.serve_once.new.conn.turn c.args.conn.now.counts c.loop-exit.conn.counts c.serve_once.new.conn.counts
    c.loop-exit.invariant.counts c.serve_once.ensures.turned

pub loop-exit-preserved : goal.loop-exit-preserved
loop-exit-preserved g c =
    record {
      name = c.serve_once.ensures.name ∙ c.loop-exit.invariant.name;
      served = c.in_default.ensures.served;
      edition = c.serve_once.ensures.edition;
      acts =
          answers_more c.args.who c.args.conn.now.name c.loop-exit.conn.name c.args.board.now.book c.loop-exit.board.book c.serve_once.new.board.book
          c.loop-exit.invariant.name c.loop-exit.invariant.acts c.serve_once.ensures.acts;
      counts =
          none_falls-more c.args.conn.now.counts c.loop-exit.conn.counts c.serve_once.new.conn.counts c.loop-exit.invariant.counts
          c.serve_once.ensures.turned.none_falls;
    }
