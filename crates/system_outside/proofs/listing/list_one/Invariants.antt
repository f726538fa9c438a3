-- What was a listing is one still.
use Rattle.system_outside.specs.ListingInside.{KeepsListings}
use Rattle.system_outside.proofs.listing.list_one.Given as goal

abbrev pub invariant-loop-entry : goal.invariant-loop-entry
invariant-loop-entry g l = KeepsListings l.folder l.most l.fn.listing l.listing
