-- `format::key_id::KeyId::length` meets its contract, kind by kind. Assumes nothing.
use Rattle.std.proofs.Common.{sym, ap}
use Rattle.format.specs.KeyId.{length_of}
use Rattle.format.proofs.key_id.KeyId.length.Goals as goal

pub returns-in-Long : goal.returns-in-Long
returns-in-Long c = sym (ap length_of c.in-Long.is)
