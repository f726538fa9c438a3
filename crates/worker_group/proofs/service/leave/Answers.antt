use Rattle.std.proofs.Common.{None, ap, refl, subst}
use Rattle.conn_machine.specs.declared.event.Event.TheVariants as event
use Rattle.board.specs.Board.{SeenBoard}
use Rattle.worker_group.specs.declared.service.Exit.{Exit}
use Rattle.worker_group.specs.declared.service.Exit.TheVariants as exit
use Rattle.worker_group.specs.ServiceInside.{MayLeave}
use Rattle.worker_group.proofs.ActsLemmas.{acts_one}
use Rattle.worker_group.proofs.ServeLemmas.{in-hand, may-park, turned-open}
use Rattle.worker_group.proofs.ExitLemmas.{left-as, park-left, put-there}
use Rattle.worker_group.proofs.service.leave.Goals as goal

pub park-requires-clause-allowed : goal.park-requires-clause-allowed
park-requires-clause-allowed g c going =
    let may = subst (λ (e : Exit). MayLeave c.args.board.now.book c.args.conn e) c.in-Park.is c.requires.may in
    may-park c.args.board.now.book.state c.in-Park.kind c.args.conn c.show.ensures.sound c.show-2.ensures.conn may.0 may.1 may.2 going

pub park-requires-clause-hand : goal.park-requires-clause-hand
park-requires-clause-hand g c =
    let may = subst (λ (e : Exit). MayLeave c.args.board.now.book c.args.conn e) c.in-Park.is c.requires.may in
    in-hand c.args.board.now.book.state c.args.conn c.show.ensures.sound may.0

pub park-requires-clause-turned : goal.park-requires-clause-turned
park-requires-clause-turned g c =
    let may = subst (λ (e : Exit). MayLeave c.args.board.now.book c.args.conn e) c.in-Park.is c.requires.may in
    turned-open c.in-Park.kind c.args.conn may.2

pub park-requires-clause-backed : goal.park-requires-clause-backed
park-requires-clause-backed g c =
    let may = subst (λ (e : Exit). MayLeave c.args.board.now.book c.args.conn e) c.in-Park.is c.requires.may in
    may.3

pub give_up-requires-clause-hand : goal.give_up-requires-clause-hand
give_up-requires-clause-hand g c =
    let may = subst (λ (e : Exit). MayLeave c.args.board.now.book c.args.conn e) c.in-GiveUp.is c.requires.may in
    in-hand c.args.board.now.book.state c.args.conn c.show.ensures.sound may.0

pub returns-in-Park : goal.returns-in-Park
returns-in-Park g c =
    record {
      left = left-as c.args.who c.args.exit (exit.Park c.in-Park.kind) c.args.conn c.args.board.now.book c.park.new.board c.in-Park.is
          (park-left c.args.who c.in-Park.kind c.args.conn c.args.board.now.book c.park.new.board c.park.result c.park.ensures.parked c.park.ensures.given_up
          c.park.ensures.why c.park.ensures.there c.park.ensures.ended);
    }

pub returns-in-Linger : goal.returns-in-Linger
returns-in-Linger g c =
    let may = subst (λ (e : Exit). MayLeave c.args.board.now.book c.args.conn e) c.in-Linger.is c.requires.may in
    record {
      left = left-as c.args.who c.args.exit (exit.Linger c.in-Linger.cause) c.args.conn c.args.board.now.book c.linger.new.self c.in-Linger.is
          (record {
            way = exit.Linger c.in-Linger.cause;
            leaves = refl;
            acts =
                acts_one c.args.who (event.Linger c.args.conn.name c.in-Linger.cause) None c.args.board.now.book c.linger.new.self.book
                (ap (λ (b : SeenBoard). b.book) c.linger.ensures.is) c.linger.ensures.entries c.linger.ensures.row;
            stands =
                put-there c.args.board.now c.linger.new.self c.args.conn may.row c.show.ensures.agrees may.found
                (ap (λ (b : SeenBoard). b.conns) c.linger.ensures.is);
          });
    }

pub returns-in-Close : goal.returns-in-Close
returns-in-Close g c =
    record {
      left = left-as c.args.who c.args.exit (exit.Close c.in-Close.cause c.in-Close.tail) c.args.conn c.args.board.now.book c.close.new.board c.in-Close.is
          (record {
            way = exit.Close c.in-Close.cause c.in-Close.tail;
            leaves = refl;
            acts = c.close.ensures.acts;
            stands = c.close.ensures.last;
          });
    }

pub returns-in-GiveUp : goal.returns-in-GiveUp
returns-in-GiveUp g c =
    let may = subst (λ (e : Exit). MayLeave c.args.board.now.book c.args.conn e) c.in-GiveUp.is c.requires.may in
    record {
      left = left-as c.args.who c.args.exit (exit.GiveUp c.in-GiveUp.fault) c.args.conn c.args.board.now.book c.give_up.new.board c.in-GiveUp.is
          (record {
            way = exit.GiveUp c.in-GiveUp.fault;
            leaves = (refl, may.1);
            acts = c.give_up.ensures.acts;
            stands = c.give_up.ensures.ended;
          });
    }
