-- `text::hexed::Hex::len` meets its contract: two digits a byte. Assumes nothing.
use Rattle.std.proofs.Common.{sym}
use Rattle.text.proofs.Unhexed.{length_unhexed}
use Rattle.text.proofs.hexed.Hex.len.Goals as goal

pub returns : goal.returns
returns c = sym (length_unhexed c.args.self.now.digits.now)
