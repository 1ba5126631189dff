-- `text::hexed::Hex::is` meets its contract: all of its digits are compared. Assumes nothing.
use Rattle.std.proofs.Common.{ap, ◌∙◌, arith}
use Rattle.octets.specs.Octets.{same}
use Rattle.text.proofs.Unhexed.{length_unhexed, unhexed_all}
use Rattle.text.proofs.hexed.Hex.is.Goals as goal

pub same_hex-requires : goal.same_hex-requires
same_hex-requires c = omega (arith, c.len.ensures, length_unhexed c.args.self.now.digits.now)

pub returns : goal.returns
returns c = c.same_hex.ensures ∙ ap (same c.args.bytes.now) (unhexed_all c.len.result c.args.self.now.digits.now c.len.ensures)
