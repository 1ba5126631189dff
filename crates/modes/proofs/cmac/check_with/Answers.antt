-- `cmac::check_with` meets its contract: the chain, the last block and its subkey in the definition's order. Assumes nothing.
use Rattle.std.proofs.Common.{◌≡◌, ◌∙◌, ◌-◌, ◌*◌, ◌/◌, ◌≤◌, sym, ap, arith, length, ◌∷◌, [], eq-eqb, ne_eqb}
use lib.Seq.{drop-append-le}
use Rattle.octets.specs.Octets.{big_endian}
use Rattle.magma.specs.Magma.{encrypted}
use Rattle.modes.specs.Modes.{before, block, chained, last_key, check_with}
use Rattle.modes.proofs.Blocks.{chained_front}
use Rattle.modes.proofs.cmac.check_with.Goals.{After-padded, then-last-eq8, else-last-eq8}
use Rattle.modes.proofs.cmac.check_with.Goals as goal

pub returns : goal.returns
unfolding check_with block last_key
returns c =
    let bytes = c.args.bytes.now in
    let E = encrypted c.args.key.now in
    let n = length bytes in
    let whole : 8 * before 8 n ≤ n = omega arith in
    let front : length c.split_at.result.0.now / 8 ≡ before 8 n = omega arith in
    let chain : c.chain.result ≡ chained 8 E bytes (before 8 n) =
    (rw (front, c.split_at.ensures.front, c.blocks_before.ensures) at c.chain.ensures) ∙ chained_front 8 E bytes (before 8 n) whole (before 8 n) (omega arith) in
    let last : c.padded.result ≡ block 8 bytes (before 8 n) =
    (rw (c.split_at.ensures.back, c.blocks_before.ensures) at c.padded.ensures) ∙ ap (big_endian 8) (sym (drop-append-le (8 * before 8 n) bytes (128 ∷ []) whole)) in
    let subkey : c.if-last-eq8.subkey ≡ last_key 8 c.args.full c.args.short n =
    elim c.if-last-eq8.branch [
      | then-last-eq8 w ↦ rw (w.subkey-is, eq-eqb (n - 8 * before 8 n) 8 (omega arith))
      | else-last-eq8 w ↦ rw (w.subkey-is, ne_eqb (n - 8 * before 8 n) 8 (omega arith))
    ] in
    rw (c.encrypt.ensures, chain, last, subkey)
