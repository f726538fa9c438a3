-- The folder that is gone through is the first one, or lies below it.
use Rattle.std.proofs.Common.{IfSome, option_map, subst, sym}
use Rattle.std.specs.String.{string_bytes}
use Rattle.system_outside.specs.ListingInside.{IsFolderOf}
use Rattle.system_outside.proofs.ListingLemmas.{listing_less}
use Rattle.system_outside.proofs.listing.list_next.Goals as goal

pub returns-in_default-clause-ok : goal.returns-in_default-clause-ok
returns-in_default-clause-ok g c =
    (listing_less c.args.under.now c.args.most c.args.listing.now c.next_folder.new.self (option_map string_bytes c.next_folder.result)
    c.next_folder.ensures.names c.next_folder.ensures.folders c.requires).0

pub returns-clause-ok : goal.returns-clause-ok
returns-clause-ok g c =
    let left = listing_less c.args.under.now c.args.most c.args.listing.now c.next_folder.new.self (option_map string_bytes c.next_folder.result)
    c.next_folder.ensures.names c.next_folder.ensures.folders c.requires in
    let within : IsFolderOf c.args.under.now (string_bytes c.in-Some.folder) =
    subst (λ r. IfSome (option_map string_bytes r) (IsFolderOf c.args.under.now)) c.in-Some.is left.1 in
    c.in_ok-list_one.ensures.ok c.args.under.now (subst (IsFolderOf c.args.under.now) (sym c.as_str.ensures.value) within) left.0
