use Rattle.listing.proofs.Longer.{longer_listing}
use Rattle.listing.proofs.OneListing.{one_listing}
use Rattle.listing.proofs.laws.listings_stand.Goals as goal

pub returns : goal.returns
returns c = record { one = one_listing; long = longer_listing }
