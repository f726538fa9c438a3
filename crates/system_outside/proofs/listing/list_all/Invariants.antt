-- The listing so far is one.
use Rattle.system_outside.specs.ListingInside.{IsListing}
use Rattle.system_outside.proofs.listing.list_all.Given as goal

abbrev pub invariant-loop : goal.invariant-loop
invariant-loop g l = IsListing l.under l.most l.listing
