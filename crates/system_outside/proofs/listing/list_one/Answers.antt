-- Each entry keeps what was a listing.
use Rattle.system_outside.proofs.listing.list_one.Goals as goal

pub loop-entry-init : goal.loop-entry-init
loop-entry-init g c = λ under folder h. h

pub loop-entry-preserved : goal.loop-entry-preserved
loop-entry-preserved g c = λ under folder h. c.in_ok-list_entry.ensures.ok under folder (c.loop-entry.invariant under folder h)
