-- `promises::one_result::listing_determined` says what is proved of that name in `promises.proofs.Determined`. Assumes nothing.
use Rattle.promises.proofs.Determined.{listing_determined}
use Rattle.promises.proofs.one_result.listing_determined.Goals as goal

pub returns : goal.returns
returns c = λ table i out a b x y. listing_determined table i out
