use Rattle.std.proofs.Common.{◌≡◌, ◌+◌, min, length, sym, ap, subst, ◌∙◌}
use Rattle.mpm_base.specs.Link.{Writes}
use Rattle.mpm_base.specs.declared.link.Sent.TheVariants as sent
use Rattle.conn_state.specs.Outgoing.{Unsent, IsUnsentOf, range_len}
use Rattle.conn_state.proofs.CallLemmas.{writes-so_far, writes-more, writes-last, writes-done}
use Rattle.conn_state.proofs.OutgoingLemmas.{offered-is, offered-length, taken-fits, offers-some, unsent-behind, head-behind, body-behind, has_sent-offered, fewer-left}
use Rattle.conn_state.proofs.SentLemmas.{has_sent-none, has_sent-more}
use Rattle.conn_state.proofs.outgoing.send.Goals as goal

pub loop-link-init : goal.loop-link-init
loop-link-init g c = record {
  sent = has_sent-none _ _ _;
  of = c.requires;
  calls = writes-so_far _ _ _;
}

pub skip-requires : goal.skip-requires
skip-requires g c =
    let site = c.args.site.now in
    let u = c.loop-link.unsent in
    let writes = subst (Writes (g.L.Link.seen c.loop-link.link) (g.L.Link.seen c.write_pair.new.self) (sent.Put c.in-Put.count))
    (offered-is site u c.head_left.result.now c.body_piece.result.now c.head_left.ensures c.body_piece.ensures) c.in-Put.ensures.writes in
    record { few = taken-fits site u c.in-Put.count c.loop-link.invariant.of writes.fits.0 }

pub loop-link-smaller : goal.loop-link-smaller
loop-link-smaller g c =
    let site = c.args.site.now in
    let u = c.loop-link.unsent in
    let writes = subst (Writes (g.L.Link.seen c.loop-link.link) (g.L.Link.seen c.write_pair.new.self) (sent.Put c.in-Put.count))
    (offered-is site u c.head_left.result.now c.body_piece.result.now c.head_left.ensures c.body_piece.ensures) c.in-Put.ensures.writes in
    fewer-left site u c.skip.new.self c.in-Put.count c.loop-link.invariant.of c.skip.ensures writes.fits.0
    (writes.fits.1 (offers-some site u c.loop-link.invariant.of (sym c.is_empty.ensures ∙ c.loop-link-test.true)))

pub loop-link-preserved : goal.loop-link-preserved
loop-link-preserved g c =
    let site = c.args.site.now in
    let u = c.loop-link.unsent in
    let writes = subst (Writes (g.L.Link.seen c.loop-link.link) (g.L.Link.seen c.write_pair.new.self) (sent.Put c.in-Put.count))
    (offered-is site u c.head_left.result.now c.body_piece.result.now c.head_left.ensures c.body_piece.ensures) c.in-Put.ensures.writes in
    let fits = taken-fits site u c.in-Put.count c.loop-link.invariant.of writes.fits.0 in
    record {
      sent = has_sent-more _ _ _ _ _ _ _ _ _ c.loop-link.invariant.sent
          (has_sent-offered _ _ _ _ site u c.skip.new.self c.in-Put.count c.loop-link.invariant.of c.skip.ensures writes);
      of = subst (λ x. IsUnsentOf site x) (sym c.skip.ensures) (unsent-behind site u c.in-Put.count c.loop-link.invariant.of fits);
      calls = writes-more _ _ _ _ _ _ _ _ (sent.Put c.in-Put.count) c.loop-link.invariant.calls c.in-Put.ensures.offers
          (ap length (offered-is site u c.head_left.result.now c.body_piece.result.now c.head_left.ensures c.body_piece.ensures)
          ∙ offered-length site u c.loop-link.invariant.of)
          _ _ (head-behind u c.skip.new.self c.in-Put.count c.skip.ensures) (body-behind u c.skip.new.self c.in-Put.count c.skip.ensures);
    }

pub returns-in-NotReady-clause-offers : goal.returns-in-NotReady-clause-offers
returns-in-NotReady-clause-offers g c =
    let site = c.args.site.now in
    let u = c.loop-link.unsent in
    writes-last _ _ _ _ _ _ _ _ sent.NotReady c.loop-link.invariant.calls c.in-NotReady.ensures.offers
    (ap length (offered-is site u c.head_left.result.now c.body_piece.result.now c.head_left.ensures c.body_piece.ensures)
    ∙ offered-length site u c.loop-link.invariant.of)

pub returns-in-Failed-clause-offers : goal.returns-in-Failed-clause-offers
returns-in-Failed-clause-offers g c =
    let site = c.args.site.now in
    let u = c.loop-link.unsent in
    writes-last _ _ _ _ _ _ _ _ sent.Failed c.loop-link.invariant.calls c.in-Failed.ensures.offers
    (ap length (offered-is site u c.head_left.result.now c.body_piece.result.now c.head_left.ensures c.body_piece.ensures)
    ∙ offered-length site u c.loop-link.invariant.of)

pub returns-clause-offers : goal.returns-clause-offers
returns-clause-offers g c = writes-done _ _ _ _ _ _ c.loop-link.invariant.calls
