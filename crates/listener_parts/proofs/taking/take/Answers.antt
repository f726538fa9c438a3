use Rattle.std.proofs.Common.{◌≡◌, true, Bool, [], Option, None, IfSome, inl, inr, sym, ap, subst, ◌∙◌}
use Rattle.std.proofs.lemmas.Result.{on_ok_weaker}
use Rattle.mpm_base.specs.Front.{front_after_watch}
use Rattle.mpm_base.specs.Link.{LinkTold}
use Rattle.conn_state.specs.Conn.{IsFresh}
use Rattle.conn_state.specs.Known.{IsOfClient}
use Rattle.board_book.specs.declared.faults.BoardFault.{BoardFault}
use Rattle.board_turns.specs.Books.{state_of}
use Rattle.board_turns.specs.Turns.{HadATurn}
use Rattle.worker_group.specs.Service.{give_up_events, left_events}
use Rattle.listener_parts.specs.Letting.{RefusedWait}
use Rattle.listener_parts.specs.Taking.{FailsTaking, way_of}
use Rattle.listener_parts.proofs.DidLemmas.{did_turns}
use Rattle.listener_parts.proofs.LettingLemmas.{if_err_both}
use Rattle.listener_parts.proofs.NewLemmas.{accepted_then_alone, just_taken, takes_one, takes_until, watch_failed}
use Rattle.listener_parts.proofs.taking.take.Goals as goal

-- ## None was taken

pub returns-in-Err-clause-fails : goal.returns-in-Err-clause-fails
returns-in-Err-clause-fails g c =
    inl (record { did = did_turns [] None _ _ c.in-Err.ensures.err c.in-Err.ensures.no_row; why = c.in-Err.ensures.why; uncounted = c.in-Err.ensures.stays.stands.accepted; front_is = c.turn_away.ensures })

-- ## The new connection

pub new-conn-requires-clause-fresh : goal.new-conn-requires-clause-fresh
new-conn-requires-clause-fresh g c = subst (λ (o : Option LinkTold). IfSome o IsFresh) (sym c.watch-watched.ensures.watches.link_is) c.requires.fresh

pub new-conn-requires-clause-client : goal.new-conn-requires-clause-client
new-conn-requires-clause-client g c =
    subst (λ (o : Option LinkTold). IsOfClient g.N.Known.known o) (sym c.watch-watched.ensures.watches.link_is) c.requires.client

pub settle-requires-clause-is_new : goal.settle-requires-clause-is_new
settle-requires-clause-is_new g c =
    let e = c.new-conn.ensures in
    record { name_is = e.name; child_is = e.child; generation_is = e.generation; notes = e.notes; turn = e.turn; linger = e.linger }

pub settle-requires-clause-taken : goal.settle-requires-clause-taken
settle-requires-clause-taken g c =
    let e = c.new-conn.ensures in
    let told = e.told ∙ c.watch-watched.ensures.watches.link_is in (
      _,
      c.in-Ok.ensures.taken,
      subst (λ (o : Option LinkTold). IfSome o (λ t. t.rank ≡ (state_of c.args.pass.now.seat.me.0).accepted)) (sym told) c.requires.arrival,
    )

pub settle-requires-clause-serves : goal.settle-requires-clause-serves
settle-requires-clause-serves g c =
    let e = c.new-conn.ensures in
    (just_taken c.generations_keep_their_editions.ensures g.N.Known.known _ _ c.in-Ok.taken.name c.in-Ok.taken.child c.in-Ok.taken.generation c.new-conn.result
    (g.L.Link.seen c.args.link).told c.args.limits c.args.site.value c.in-Ok.ensures.took c.in-Ok.ensures.taken c.accept_one.ensures.rest c.requires.arrival c.requires.serves
    (e.told ∙ c.watch-watched.ensures.watches.link_is)
    (record { name_is = e.name; child_is = e.child; generation_is = e.generation; notes = e.notes; turn = e.turn; linger = e.linger }) e.limits e.site).serves

pub settle-requires-clause-failed : goal.settle-requires-clause-failed
settle-requires-clause-failed g c none =
    let failed = watch_failed c.watch-watched.result _ _ c.watch-watched.ensures.watches.only_faults none in
    rw c.new-conn.ensures.counts failed

-- ## It was taken

pub returns-clause-takes : goal.returns-clause-takes
returns-clause-takes g c =
    on_ok_weaker c.settle.result
    (λ (left : HadATurn (left_events (way_of c.watch-watched.result) c.in-Ok.taken.name) c.accept_one.new.pass.seat.me.0 c.settle.new.pass.seat.me.0).
    record {
      name = c.in-Ok.taken.name;
      watched = c.watch-watched.result;
      takes = takes_one c.in-Ok.taken.name c.watch-watched.result _ _ _ c.in-Ok.ensures.took left c.settle.ensures.none;
      counted = c.settle.ensures.rest.stands.accepted ∙ c.in-Ok.ensures.taken.counted;
      front_is = c.watch-watched.ensures.watches.front;
    })
    c.settle.ensures.left

pub returns-clause-fails : goal.returns-clause-fails
returns-clause-fails g c =
    let name = c.in-Ok.taken.name in
    let link = (g.L.Link.seen c.args.link).told in
    if_err_both c.settle.result (λ (f : BoardFault). RefusedWait f (give_up_events f name) c.accept_one.new.pass.seat.me.0 c.settle.new.pass.seat.me.0)
    (λ (f : BoardFault). c.watch-watched.result ≡ true)
    (λ (f : BoardFault). FailsTaking f link (g.F.Front.seen c.args.front.now) (g.F.Front.seen c.watch-watched.new.self) c.args.pass.now.seat.me.0 c.settle.new.pass.seat.me.0)
    (λ f refused watched. inr (record {
      name = name;
      takes = takes_until name f _ _ _ c.in-Ok.ensures.took refused c.settle.ensures.none;
      counted = c.settle.ensures.rest.stands.accepted ∙ c.in-Ok.ensures.taken.counted;
      front_is = c.watch-watched.ensures.watches.front ∙ ap (λ (b : Bool). front_after_watch name b link (g.F.Front.seen c.args.front.now)) watched;
    }))
    c.settle.ensures.refused c.settle.ensures.waited

pub returns-clause-credits : goal.returns-clause-credits
returns-clause-credits g c = c.settle.ensures.credits ∙ c.accept_one.ensures.credits

pub returns-clause-rest : goal.returns-clause-rest
returns-clause-rest g c = accepted_then_alone (state_of c.args.pass.now.seat.me.0) (state_of c.accept_one.new.pass.seat.me.0) (state_of c.settle.new.pass.seat.me.0) c.accept_one.ensures.rest c.settle.ensures.rest
