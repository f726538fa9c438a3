-- An entry lies in its folder, and so below what that lies below.
use Rattle.std.specs.String.{string_bytes}
use Rattle.std.proofs.lemmas.Str.{IsUtf8-string_bytes}
use Rattle.system_outside.proofs.ListingLemmas.{listing_more}
use Rattle.system_outside.proofs.listing.add_entry.Goals as goal

pub returns-clause-ok : goal.returns-clause-ok
returns-clause-ok g c = λ under folder h.
    listing_more under c.args.folder.now c.file_name.result.now (string_bytes c.in_ok-name.name) c.args.most c.args.listing.now c.add.new.self c.in_ok-kind.kind
    c.in_ok-name.ensures.whole c.in_ok-add.ensures.ok folder (IsUtf8-string_bytes c.in_ok-name.name) h c.in_ok-add.ensures.few
