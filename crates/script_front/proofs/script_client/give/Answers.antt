use Rattle.std.proofs.Common.{◌<◌, inl, inr, length, subst, sym, refl, ◌∙◌, arith}
use Rattle.std.proofs.lemmas.Bool.Decides.{nat_tests}
use Rattle.script_front.specs.Signals.{LooksAt, SeenClient}
use Rattle.script_front.proofs.DueLemmas.{due-end, due-here, due-start, due-step}
use Rattle.script_front.proofs.SignalLemmas.{GivesOn, gives-full, gives-given, gives-none, gives-unwatched}
use Rattle.script_front.proofs.script_client.give.Goals as goal
use Rattle.script_front.proofs.script_client.give.Goals.{After-look}

pub places-init : goal.places-init
places-init c = due-start c.args.clients.now c.args.watched.now c.args.due.now c.args.ready.now c.requires.each c.requires.marks c.requires.marked c.requires.covers c.requires.none

pub returns-in_default-clause-gives : goal.returns-in_default-clause-gives
returns-in_default-clause-gives c =
    due-end c.args.clients.now c.places.clients c.args.watched.now c.places.due c.places.ready c.places.invariant c.places.auto.clients c.requires.each c.in_default.ensures.none

few : (c : After-look) → length c.places.ready < 256
few c = grind (arith, nat_tests)

within : (c : After-look) → c.in-Some.place < length c.places.clients
within c = omega (arith, c.in-Some.ensures.some.within, c.places.invariant.each, c.places.auto.clients)

looks : (c : After-look) → LooksAt c.index-clients-place.result c.look.new.self
looks c = subst (λ (y : SeenClient). LooksAt y c.look.new.self) (sym c.index-clients-place.is) c.look.ensures

here : (c : After-look) → GivesOn c.args.clients.now c.places.clients c.args.watched.now c.in-Some.place c.places.ready
here c = due-here c.args.clients.now c.places.clients c.args.watched.now c.places.due c.places.ready c.places.invariant c.places.auto.clients c.requires.each c.take.new.self c.in-Some.place c.in-Some.ensures.some

pub places-preserved-then-take_signal : goal.places-preserved-then-take_signal
places-preserved-then-take_signal c =
    let at = (goal.at.places-preserved-then-take_signal c).After-look in
    let n = c.args.watched.now in
    let step = gives-given c.args.clients.now c.places.clients n c.in-Some.place c.places.ready c.index-clients-place.result c.look.new.self c.in-Some-watched.name (here at) (within at) (omega (arith, within at, c.places.auto.clients, c.requires.each)) c.index-clients-place.is c.in-Some-watched.is (few at) (looks at) (sym c.if-take_signal.true ∙ c.take_signal.ensures.is) in
    rw (c.take_signal.ensures.state, c.add.ensures)
    (due-step c.args.clients.now c.places.clients n c.places.due c.places.ready c.places.invariant c.places.auto.clients c.requires.each c.take.new.self c.in-Some.place _ _ c.in-Some.ensures.some c.take.ensures.marked (inr refl) step)

pub places-preserved-else-take_signal : goal.places-preserved-else-take_signal
places-preserved-else-take_signal c =
    let at = (goal.at.places-preserved-else-take_signal c).After-look in
    let n = c.args.watched.now in
    let step = gives-none c.args.clients.now c.places.clients n c.in-Some.place c.places.ready c.index-clients-place.result c.look.new.self c.in-Some-watched.name (here at) (within at) (omega (arith, within at, c.places.auto.clients, c.requires.each)) c.index-clients-place.is c.in-Some-watched.is (few at) (looks at) (sym c.if-take_signal.false ∙ c.take_signal.ensures.is) in
    rw c.take_signal.ensures.state
    (due-step c.args.clients.now c.places.clients n c.places.due c.places.ready c.places.invariant c.places.auto.clients c.requires.each c.take.new.self c.in-Some.place _ _ c.in-Some.ensures.some c.take.ensures.marked (inr refl) step)

pub places-preserved : goal.places-preserved
places-preserved c =
    let at = (goal.at.places-preserved c).After-look in
    let n = c.args.watched.now in
    let step = gives-unwatched c.args.clients.now c.places.clients n c.in-Some.place c.places.ready c.index-clients-place.result c.look.new.self (here at) (within at) (omega (arith, within at, c.places.auto.clients, c.requires.each)) c.index-clients-place.is c.in_default-watched.is (looks at) in
    due-step c.args.clients.now c.places.clients n c.places.due c.places.ready c.places.invariant c.places.auto.clients c.requires.each c.take.new.self c.in-Some.place _ _ c.in-Some.ensures.some c.take.ensures.marked (inl c.in_default-watched.is) step

pub returns-clause-gives : goal.returns-clause-gives
returns-clause-gives c =
    gives-full c.args.clients.now c.places.clients c.args.watched.now c.places.due.low c.places.ready c.places.invariant.gives (grind (arith, nat_tests))
