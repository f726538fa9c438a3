use Rattle.std.proofs.Common.{None, sym, true≢false}
use Rattle.listener_parts.proofs.AloneLemmas.{alone_same}
use Rattle.listener_parts.proofs.DidLemmas.{did_nothing}
use Rattle.listener_parts.proofs.RoundLemmas.{alone_still, is_still}
use Rattle.listener_parts.proofs.rest.rest_of.Goals as goal

-- ## Something is left to be done

pub returns-then-not-at_rest-clause-did : goal.returns-then-not-at_rest-clause-did
returns-then-not-at_rest-clause-did g c = did_nothing c.args.pass.now.seat.me.0 None c.requires.none

pub returns-then-not-at_rest-clause-rest : goal.returns-then-not-at_rest-clause-rest
returns-then-not-at_rest-clause-rest g c = alone_same _

pub returns-then-not-at_rest-clause-until : goal.returns-then-not-at_rest-clause-until
returns-then-not-at_rest-clause-until g c = c.requires.seen.until

pub returns-then-not-at_rest-clause-quiet : goal.returns-then-not-at_rest-clause-quiet
returns-then-not-at_rest-clause-quiet g c z = absurd (true≢false (sym z))

pub returns-then-not-at_rest-clause-idle : goal.returns-then-not-at_rest-clause-idle
returns-then-not-at_rest-clause-idle g c z = absurd (true≢false (sym z))

-- ## Nothing is

pub are_idle-quiet-requires-clause-rest : goal.are_idle-quiet-requires-clause-rest
are_idle-quiet-requires-clause-rest g c = c.requires.seen.quiet.0 c.if-not-at_rest.false

pub returns-clause-rest : goal.returns-clause-rest
returns-clause-rest g c = alone_still c.args.pass.now.seat.me.0 c.are_idle-quiet.new.pass.seat.me.0 c.are_idle-quiet.ensures.did.origin c.are_idle-quiet.ensures.still

pub returns-clause-until : goal.returns-clause-until
returns-clause-until g c = c.requires.seen.until

pub returns-clause-quiet : goal.returns-clause-quiet
returns-clause-quiet g c _ =
    is_still _ _ c.are_idle-quiet.ensures.did.origin c.are_idle-quiet.ensures.still (c.requires.seen.quiet.0 c.if-not-at_rest.false)
