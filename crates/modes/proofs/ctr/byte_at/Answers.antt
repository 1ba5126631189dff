-- `modes::ctr::byte_at` meets its contract: a byte of a number by a shift. Assumes nothing.
use Rattle.std.proofs.Common.{sym, rules}
use Rattle.octets.proofs.BigEndian.{byte_at}
use Rattle.modes.proofs.ctr.byte_at.Goals as goal

pub returns : goal.returns
returns c = sym (byte_at 8 _ _ (search rules))
