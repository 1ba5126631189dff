use Rattle.std.proofs.Common.{sym, ap, ◌∙◌, arith, rules, bit_xor, get_or}
use lib.Seq.{paste-zero}
use Rattle.octets.proofs.Places.{one_further, all_put}
use Rattle.modes.specs.Modes.{byte_of, masked}
use Rattle.modes.proofs.Gamma.{length_masked, masked_at}
use Rattle.modes.proofs.ctr.mask.Goals as goal

pub loop-i-init : goal.loop-i-init
loop-i-init c =
    let a = c.args in
    paste-zero a.out.now a.at (masked (byte_of 8 a.gamma) 0 a.bytes.now)

pub loop-i-preserved : goal.loop-i-preserved
loop-i-preserved c =
    let l = c.loop-i in
    let a = c.args in
    let g = byte_of 8 a.gamma in
    let xs = a.bytes.now in
    one_further a.out.now l.out a.at l.i _ (masked g 0 xs) l.invariant (omega arith) (omega (arith, length_masked g 0 xs))
    (ap (bit_xor (get_or xs l.i 0)) c.byte_at.ensures ∙ sym (masked_at g xs l.i (search rules)))

pub returns : goal.returns
returns c =
    let l = c.loop-i in
    let a = c.args in
    let new = masked (byte_of 8 a.gamma) 0 a.bytes.now in
    all_put a.out.now l.out a.at l.i new l.invariant (omega (arith, length_masked (byte_of 8 a.gamma) 0 a.bytes.now))
