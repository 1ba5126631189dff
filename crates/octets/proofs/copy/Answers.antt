use Rattle.std.proofs.Common.{refl, arith}
use lib.Seq.{paste-zero}
use Rattle.octets.proofs.Places.{one_further, all_put}
use Rattle.octets.proofs.copy.Goals as goal

pub loop-i-init : goal.loop-i-init
loop-i-init c = paste-zero c.args.out.now c.args.at c.args.bytes.now

pub loop-i-preserved : goal.loop-i-preserved
loop-i-preserved c =
    let l = c.loop-i in
    let a = c.args in
    one_further a.out.now l.out a.at l.i _ a.bytes.now l.invariant (omega arith) (omega arith) refl

pub returns : goal.returns
returns c = all_put c.args.out.now c.loop-i.out c.args.at c.loop-i.i c.args.bytes.now c.loop-i.invariant (omega arith)
