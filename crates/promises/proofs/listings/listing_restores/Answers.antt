-- `promises::listings::listing_restores` says what is proved of that name in `promises.proofs.Loads`. Assumes nothing.
use Rattle.promises.proofs.Loads.{listing_restores}
use Rattle.promises.proofs.listings.listing_restores.Goals as goal

pub returns : goal.returns
returns c = λ i s t a m.
    listing_restores i s a.small a.keyid a.source a.unharmed t a.long a.there m.full m.bytes (record { front = m.front; rest = m.rest })
