use Rattle.std.proofs.Common.{◌∙◌, [], ◌∷◌, ◌++◌, Option, None, Some, inl, inr, ap, subst, sym, List}
use Rattle.std.proofs.lemmas.Result.{on_ok_weaker}
use Rattle.mpm_base.specs.Front.{FrontSeen}
use Rattle.mpm_base.specs.Link.{LinkTold}
use Rattle.mpm_base.specs.declared.conn.ConnName.{ConnName}
use Rattle.mpm_base.specs.declared.conn.Kind.{Kind}
use Rattle.mpm_base.specs.declared.conn.Kind.TheVariants.{Reading}
use Rattle.conn_machine.specs.Rows.{live_row}
use Rattle.conn_state.specs.Known.{IsOfClient}
use Rattle.board_book.specs.declared.faults.BoardFault.{BoardFault}
use Rattle.board.specs.Backed.{AreBacked}
use Rattle.board.specs.Board.{SeenBoard}
use Rattle.board_book.specs.Editions.{orders_in}
use Rattle.board_book.specs.Faults.{IsRefusedFor}
use Rattle.worker_group.specs.Acts.{Acts}
use Rattle.listener_round.specs.FrontInside.{StaysWatching}
use Rattle.rounds.specs.TableInside.{NoneDueLate}
use Rattle.worker_group.specs.Service.{left_events}
use Rattle.listener_round.specs.RoundInside.{FailsTaking}
use Rattle.rounds.specs.PartsInside.{GivesUp, way_of}
use Rattle.listener_round.proofs.EditionLemmas.{edition-acts}
use Rattle.rounds.proofs.SameEditionLemmas.{edition-same}
use Rattle.listener_round.proofs.FrontLemmas.{takes-turned, takes-watch}
use Rattle.listener_round.proofs.FrontCallLemmas.{follows-turned, follows-watch, step-watch}
use Rattle.rounds.proofs.ActLemmas.{acts-spelled, if-err-both, on-err}
use Rattle.listener_round.proofs.PartLemmas.{orders-taken}
use Rattle.listener_round.proofs.RoundLemmas.{on-ok, takes-one}
use Rattle.listener_round.proofs.HandedLemmas.{counts-turned, counts-watch}
use Rattle.listener_round.proofs.IntakeLemmas.{before-taking, makes-none, makes-one, takes-in_place, timely-same}
use Rattle.listener_round.proofs.WatchLemmas.{takes-one-left, watched-taking, watched-turned}
use Rattle.listener_round.proofs.listener_state.Listener.take.Goals as goal

pub accept-requires-clause-passes : goal.accept-requires-clause-passes
accept-requires-clause-passes g c = c.requires.passes

pub accept-requires-clause-free : goal.accept-requires-clause-free
accept-requires-clause-free g c = c.requires.free

pub accept-requires-clause-acceptable : goal.accept-requires-clause-acceptable
accept-requires-clause-acceptable g c = c.requires.acceptable

pub new-conn-requires-clause-client : goal.new-conn-requires-clause-client
new-conn-requires-clause-client g c =
    subst (λ (o : Option LinkTold). IsOfClient g.N.Known.known o) (sym c.watch-watched.ensures.watches.link_is) c.requires.client

pub settle-left-requires-clause-row : goal.settle-left-requires-clause-row
settle-left-requires-clause-row g c = c.in-Ok.ensures.acts.row ∙ ap (λ (n : ConnName). Some n) (sym c.new-conn.ensures.name)

pub settle-left-requires-clause-backed : goal.settle-left-requires-clause-backed
settle-left-requires-clause-backed g c watched =
    let held = c.in-Ok.ensures.held in
    record {
      row = held.row;
      found = ap (live_row c.accept.new.board.book.state.rows) c.new-conn.ensures.name ∙ held.found;
      backed =
          subst (λ (waits : List Kind). AreBacked (waits ++ Reading ∷ []) c.new-conn.result.counts) (sym held.waits)
          (c.waits_are_backed_by_calls.ensures.first c.new-conn.result.counts);
    }

pub returns-in-Err-clause-counts : goal.returns-in-Err-clause-counts
returns-in-Err-clause-counts g c = ap (λ (f : FrontSeen). f.counts) c.turn_away.ensures

pub returns-in-Err-clause-orders : goal.returns-in-Err-clause-orders
returns-in-Err-clause-orders g c = ap (λ (b : SeenBoard). orders_in b.book) c.in-Err.ensures.refused

pub returns-in-Err-clause-lacks : goal.returns-in-Err-clause-lacks
returns-in-Err-clause-lacks g c = inr (ap (λ (b : SeenBoard). b.book.state.accepted) c.in-Err.ensures.refused)

pub returns-clause-counts : goal.returns-clause-counts
returns-clause-counts g c = ap (λ (f : FrontSeen). f.counts) c.watch-watched.ensures.watches.front

pub returns-clause-orders : goal.returns-clause-orders
returns-clause-orders g c =
    orders-taken c.settle-left.result c.in-Ok.taken.name c.new-conn.result.name (way_of c.watch-watched.result) c.args.self.now.board.book c.accept.new.board.book
    c.settle-left.new.board.book c.in-Ok.ensures.acts c.settle-left.ensures.left c.settle-left.ensures.given_up

pub returns-clause-lacks : goal.returns-clause-lacks
returns-clause-lacks g c = on-err c.settle-left.result _ (inl (c.settle-left.ensures.rest.accepted ∙ c.in-Ok.ensures.taken))

pub returns-in-Err-clause-until : goal.returns-in-Err-clause-until
returns-in-Err-clause-until g c =
    (inl (record { why = c.in-Err.ensures.why; same = ap (λ (b : SeenBoard). b.book) c.in-Err.ensures.refused }))

pub returns-in-Err-clause-follows : goal.returns-in-Err-clause-follows
returns-in-Err-clause-follows g c = (follows-turned _ _ _ c.turn_away.ensures)

pub returns-in-Err-clause-front : goal.returns-in-Err-clause-front
returns-in-Err-clause-front g c = (takes-turned _ _ _ (ap (λ (f : FrontSeen). f.told) c.turn_away.ensures))

pub returns-in-Err-clause-links : goal.returns-in-Err-clause-links
returns-in-Err-clause-links g c =
    inr (record {
      accepted = ap (λ (b : SeenBoard). b.book.state.accepted) c.in-Err.ensures.refused;
      told_is = ap (λ (f : FrontSeen). f.told) c.turn_away.ensures;
    })

pub returns-clause-takes : goal.returns-clause-takes
returns-clause-takes g c =
    (on_ok_weaker c.settle-left.result
    (λ (left : Acts 0 (left_events (way_of c.watch-watched.result) c.new-conn.result.name) None c.accept.new.board.book c.settle-left.new.board.book).
    record {
      name = c.in-Ok.taken.name;
      watched = c.watch-watched.result;
      told_is = ap (λ (f : FrontSeen). f.told) c.watch-watched.ensures.watches.front;
      acts =
          takes-one c.passes_act_in_steps.ensures.acts c.in-Ok.taken.name (way_of c.watch-watched.result) c.args.self.now.board.book c.accept.new.board.book c.settle-left.new.board.book
          c.in-Ok.ensures.acts
          (acts-spelled _ (left_events (way_of c.watch-watched.result) c.in-Ok.taken.name) c.accept.new.board.book c.settle-left.new.board.book left
          (ap (left_events (way_of c.watch-watched.result)) c.new-conn.ensures.name));
    }) c.settle-left.ensures.left)

pub returns-clause-until : goal.returns-clause-until
returns-clause-until g c =
    (if-err-both c.settle-left.result (λ (f : BoardFault). IsRefusedFor f c.accept.new.board.book)
    (λ (f : BoardFault). GivesUp f c.new-conn.result.name c.accept.new.board.book c.settle-left.new.board.book)
    (λ (f : BoardFault). FailsTaking f c.args.self.now.board.book c.settle-left.new.board.book)
    (λ f why given. inr (record {
      name = c.in-Ok.taken.name;
      book = c.accept.new.board.book;
      took = c.in-Ok.ensures.acts;
      state = c.show_state-2.ensures.after;
      why = why;
      acts = subst (λ (n : ConnName). GivesUp f n c.accept.new.board.book c.settle-left.new.board.book) c.new-conn.ensures.name given;
    }))
    c.settle-left.ensures.why c.settle-left.ensures.given_up)

pub returns-clause-step : goal.returns-clause-step
returns-clause-step g c =
    (on-ok c.settle-left.result _
    (λ step. step-watch (g.F.Front.seen c.args.front.now).told (g.F.Front.seen c.watch-watched.new.self).told _ _ _ c.settle-left.new.board.book.state
    (ap (λ (f : FrontSeen). f.told) c.watch-watched.ensures.watches.front) step))

pub returns-clause-links : goal.returns-clause-links
returns-clause-links g c =
    (on-err c.settle-left.result _
    (inl (record {
      accepted = c.settle-left.ensures.rest.accepted ∙ c.in-Ok.ensures.taken;
      step =
          λ step. step-watch (g.F.Front.seen c.args.front.now).told (g.F.Front.seen c.watch-watched.new.self).told _ _ _ c.settle-left.new.board.book.state
          (ap (λ (f : FrontSeen). f.told) c.watch-watched.ensures.watches.front) step;
    })))

pub returns-clause-follows : goal.returns-clause-follows
returns-clause-follows g c =
    (follows-watch _ _ _ _ _ c.watch-watched.ensures.watches.front)

pub returns-clause-front : goal.returns-clause-front
returns-clause-front g c = (takes-watch _ _ _ _ _ (ap (λ (f : FrontSeen). f.told) c.watch-watched.ensures.watches.front))

pub settle-left-requires-clause-edition : goal.settle-left-requires-clause-edition
settle-left-requires-clause-edition g c =
    let e = c.args.self.now.edition in
    edition-same g.N.Known.known c.accept.new.board.book c.args.self.now.board.book.state.newest _ e.limits _ e.site.value _
    (c.new-conn.ensures.generation ∙ c.in-Ok.ensures.generation) c.new-conn.ensures.limits (c.new-conn.ensures.site ∙ c.requires.site)
    (edition-acts c.generations_keep_their_editions.ensures g.N.Known.known 0 _ _ c.args.self.now.board.book c.accept.new.board.book
    c.args.self.now.board.book.state.newest e.limits e.site.value c.in-Ok.ensures.acts c.requires.serves)

pub returns-clause-going : goal.returns-clause-going
returns-clause-going g c = c.settle-left.ensures.rest.going ∙ c.accept.ensures.going

pub returns-clause-newest : goal.returns-clause-newest
returns-clause-newest g c = c.settle-left.ensures.rest.newest ∙ c.accept.ensures.newest

pub returns-in-Err-clause-watched : goal.returns-in-Err-clause-watched
returns-in-Err-clause-watched g c =
    subst (λ (b : SeenBoard). StaysWatching (g.F.Front.seen c.args.front.now).told (g.F.Front.seen c.turn_away.new.self).told c.args.self.now.board.book b.book)
    (sym c.in-Err.ensures.refused)
    (watched-turned _ _ _ c.args.self.now.board.book (ap (λ (f : FrontSeen). f.told) c.turn_away.ensures))

pub returns-in-Err-clause-made : goal.returns-in-Err-clause-made
returns-in-Err-clause-made g c =
    makes-none c.args.self.now.board.book c.accept.new.board.book (ap (λ (b : SeenBoard). b.book) c.in-Err.ensures.refused)

pub returns-in-Err-clause-timely : goal.returns-in-Err-clause-timely
returns-in-Err-clause-timely g c =
    timely-same c.args.self.now.board.book c.accept.new.board.book (ap (λ (b : SeenBoard). b.book) c.in-Err.ensures.refused)

pub returns-in-Err-clause-children : goal.returns-in-Err-clause-children
returns-in-Err-clause-children g c = ap (λ (b : SeenBoard). b.book.state.children) c.in-Err.ensures.refused

pub returns-in-Err-clause-in_time : goal.returns-in-Err-clause-in_time
returns-in-Err-clause-in_time g c soon =
    subst (λ (b : SeenBoard). NoneDueLate b.book.state) (sym c.in-Err.ensures.refused) soon

pub returns-clause-watched : goal.returns-clause-watched
returns-clause-watched g c =
    watched-taking c.in-Ok.taken.name c.watch-watched.result (g.L.Link.seen c.args.link).told (g.F.Front.seen c.args.front.now).told
    (g.F.Front.seen c.watch-watched.new.self).told c.args.self.now.board.book c.settle-left.new.board.book c.requires.tells c.requires.arrival
    (ap (λ (f : FrontSeen). f.told) c.watch-watched.ensures.watches.front)
    (takes-one-left c.histories_go_on_by_one_entry.ensures.row c.settle-left.result c.in-Ok.taken.name c.new-conn.result.name c.watch-watched.result c.args.self.now.board.book c.accept.new.board.book
    c.settle-left.new.board.book c.in-Ok.ensures.acts c.new-conn.ensures.name c.settle-left.ensures.left c.settle-left.ensures.given_up
    c.settle-left.ensures.closed)
    (c.settle-left.ensures.rest.accepted ∙ c.in-Ok.ensures.taken)

pub returns-clause-makes : goal.returns-clause-makes
returns-clause-makes g c =
    on-ok c.settle-left.result _
    (takes-in_place c.histories_join.ensures.state c.passes_act_in_steps.ensures.acts c.rows_change_one_at_a_time.ensures.others c.settle-left.result
    (way_of c.watch-watched.result) c.in-Ok.taken.name c.new-conn.result.name c.args.self.now.board.book c.accept.new.board.book c.settle-left.new.board.book
    c.in-Ok.ensures.acts c.new-conn.ensures.name c.settle-left.ensures.left c.settle-left.ensures.given_up c.show_state.ensures.after
    c.show_state-3.ensures.after (before-taking c.args.self.now.board.book.state c.requires.acceptable)).made

pub returns-clause-made : goal.returns-clause-made
returns-clause-made g c =
    on-err c.settle-left.result _
    (makes-one c.args.self.now.board.book c.settle-left.new.board.book
    (takes-in_place c.histories_join.ensures.state c.passes_act_in_steps.ensures.acts c.rows_change_one_at_a_time.ensures.others c.settle-left.result
    (way_of c.watch-watched.result) c.in-Ok.taken.name c.new-conn.result.name c.args.self.now.board.book c.accept.new.board.book c.settle-left.new.board.book
    c.in-Ok.ensures.acts c.new-conn.ensures.name c.settle-left.ensures.left c.settle-left.ensures.given_up c.show_state.ensures.after
    c.show_state-3.ensures.after (before-taking c.args.self.now.board.book.state c.requires.acceptable)))

pub returns-clause-timely : goal.returns-clause-timely
returns-clause-timely g c =
    (takes-in_place c.histories_join.ensures.state c.passes_act_in_steps.ensures.acts c.rows_change_one_at_a_time.ensures.others c.settle-left.result
    (way_of c.watch-watched.result) c.in-Ok.taken.name c.new-conn.result.name c.args.self.now.board.book c.accept.new.board.book c.settle-left.new.board.book
    c.in-Ok.ensures.acts c.new-conn.ensures.name c.settle-left.ensures.left c.settle-left.ensures.given_up c.show_state.ensures.after
    c.show_state-3.ensures.after (before-taking c.args.self.now.board.book.state c.requires.acceptable)).timely

pub returns-clause-children : goal.returns-clause-children
returns-clause-children g c =
    (takes-in_place c.histories_join.ensures.state c.passes_act_in_steps.ensures.acts c.rows_change_one_at_a_time.ensures.others c.settle-left.result
    (way_of c.watch-watched.result) c.in-Ok.taken.name c.new-conn.result.name c.args.self.now.board.book c.accept.new.board.book c.settle-left.new.board.book
    c.in-Ok.ensures.acts c.new-conn.ensures.name c.settle-left.ensures.left c.settle-left.ensures.given_up c.show_state.ensures.after
    c.show_state-3.ensures.after (before-taking c.args.self.now.board.book.state c.requires.acceptable)).children

pub returns-clause-in_time : goal.returns-clause-in_time
returns-clause-in_time g c =
    (takes-in_place c.histories_join.ensures.state c.passes_act_in_steps.ensures.acts c.rows_change_one_at_a_time.ensures.others c.settle-left.result
    (way_of c.watch-watched.result) c.in-Ok.taken.name c.new-conn.result.name c.args.self.now.board.book c.accept.new.board.book c.settle-left.new.board.book
    c.in-Ok.ensures.acts c.new-conn.ensures.name c.settle-left.ensures.left c.settle-left.ensures.given_up c.show_state.ensures.after
    c.show_state-3.ensures.after (before-taking c.args.self.now.board.book.state c.requires.acceptable)).soon

pub returns-in-Err-clause-handed : goal.returns-in-Err-clause-handed
returns-in-Err-clause-handed g c = counts-turned _ _ _ (ap (λ (f : FrontSeen). f.told) c.turn_away.ensures)

pub returns-clause-handed : goal.returns-clause-handed
returns-clause-handed g c = counts-watch _ _ _ _ _ (ap (λ (f : FrontSeen). f.told) c.watch-watched.ensures.watches.front)
