-- `format::key_id::KeyId::starting` meets its contract: the first byte tells the kind. Assumes nothing.
use Rattle.std.proofs.Common.{arith}
use Rattle.format.proofs.KeyIds.{starts_short, starts_absent, starts_long}
use Rattle.format.proofs.key_id.KeyId.starting.Goals as goal

pub returns-in-128 : goal.returns-in-128
returns-in-128 c = starts_absent _ _ c.in-128.is

pub returns-in-0-to-127 : goal.returns-in-0-to-127
returns-in-0-to-127 c = starts_short _ _ (omega arith)

pub returns-in-129-to-255 : goal.returns-in-129-to-255
returns-in-129-to-255 c = starts_long _ _ (omega arith)
