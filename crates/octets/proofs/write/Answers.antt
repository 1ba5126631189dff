use Rattle.std.proofs.Common.{◌≡◌, ◌∙◌, suc, ◌-◌, ◌%◌, arith}
use lib.Seq.{take-set-le}
use Rattle.octets.proofs.Places.{one_lower, all_lower}
use Rattle.octets.proofs.write.Goals as goal

pub loop-i-preserved : goal.loop-i-preserved
loop-i-preserved c =
    let l = c.loop-i in
    let a = c.args in
    let i = l.i - 1 in
    let one_less : suc i ≡ l.i = omega arith in record {
      within = omega arith;
      before = take-set-le a.at l.out i (l.rest % 256) (omega arith) ∙ l.invariant.before;
      behind = one_lower l.out a.at i l.rest (omega arith) (omega arith) ∙ rw one_less l.invariant.behind;
    }

pub returns : goal.returns
returns c =
    let l = c.loop-i in
    let a = c.args in
    all_lower a.out.now l.out a.at a.n a.number l.i l.rest (omega arith) l.invariant.before l.invariant.behind
