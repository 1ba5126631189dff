-- `promises::listings::listing_loads` says what is proved of that name in `promises.proofs.Loads`. Assumes nothing.
use Rattle.promises.proofs.Loads.{listing_loads}
use Rattle.promises.proofs.listings.listing_loads.Goals as goal

pub returns : goal.returns
returns c = λ i s t a. listing_loads i s a.small a.keyid a.source a.unharmed t a.long a.there
