use Rattle.std.proofs.Common.{refl, arith}
use Rattle.text.specs.Text.{hex_of}
use Rattle.text.proofs.Hex.{hex_more, hex_all}
use Rattle.text.proofs.Lines.{nothing_written}
use Rattle.text.proofs.write_hex.Goals as goal

pub loop-i-init : goal.loop-i-init
unfolding hex_of
loop-i-init c = nothing_written c.args.out.now c.args.at

pub loop-i-preserved : goal.loop-i-preserved
loop-i-preserved c =
    let l = c.loop-i in
    let a = c.args in
    rw (c.digit-in-loop-i.ensures, c.digit.ensures) (hex_more a.out.now l.out a.bytes.now a.at l.i (omega arith) l.invariant (omega arith))

pub returns : goal.returns
returns c =
    let l = c.loop-i in
    let a = c.args in
    record { value = refl; out_after = hex_all a.out.now l.out a.bytes.now a.at l.i (omega arith) l.invariant (omega arith) }
