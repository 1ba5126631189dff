-- `text::hexed::Hex::number` meets its contract: all of its digits are read. Assumes nothing.
use Rattle.std.proofs.Common.{◌≡◌, sym, ap, subst, ◌∙◌, ◌^◌, ◌*◌, ◌<◌, ℕ, List, arith, length}
use Rattle.octets.specs.Octets.{Bytes, big_endian}
use Rattle.text.specs.Written.{written}
use Rattle.text.proofs.Unhexed.{length_unhexed, unhexed_all, unhexed_bytes}
use Rattle.text.proofs.hexed.Hex.number.Goals as goal

pub hex_number-requires : goal.hex_number-requires
hex_number-requires c =
    let hex = c.args.self.now in
    let l = hex.digits.now in
    (omega (arith, c.len.ensures, length_unhexed l), omega (arith, c.len.ensures, c.requires), subst (λ (m : List ℕ). Bytes m) (sym (unhexed_all c.len.result l c.len.ensures)) (unhexed_bytes l hex.in_hex))

pub returns : goal.returns
returns c =
    let hex = c.args.self.now in
    let n = c.len.ensures in
    let read = c.hex_number.ensures in (
      read.0 ∙ ap (big_endian c.len.result) (unhexed_all c.len.result hex.digits.now n) ∙ ap (λ (m : ℕ). big_endian m (written hex)) n,
      subst (λ (m : ℕ). c.hex_number.result < 2 ^ (8 * m)) n read.1,
    )
