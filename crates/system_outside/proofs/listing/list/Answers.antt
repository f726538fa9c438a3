-- The listing begins as one, and ends as one.
use Rattle.system_outside.proofs.ListingLemmas.{first_is_listing}
use Rattle.system_outside.proofs.listing.list.Goals as goal

pub list_all-requires : goal.list_all-requires
list_all-requires g c = rw c.in_ok-listing.ensures.ok (first_is_listing c.args.under.now c.args.most)

pub returns-clause-listed : goal.returns-clause-listed
returns-clause-listed g c =
    let h = c.in_ok-list_all.ensures.ok in
    rw c.finish.ensures (h.few, h.text, tt)

pub returns-clause-below : goal.returns-clause-below
returns-clause-below g c =
    let h = c.in_ok-list_all.ensures.ok in
    rw c.finish.ensures h.below
