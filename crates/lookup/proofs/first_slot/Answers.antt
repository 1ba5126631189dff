-- A slot that fails the test is passed over. Assumes nothing.
use Rattle.std.proofs.Common.{sym, ◌∙◌, false, arith}
use Rattle.lookup.proofs.Firsts.{further}
use Rattle.lookup.proofs.first_slot.Goals as goal

pub loop-number-preserved : goal.loop-number-preserved
loop-number-preserved g c =
    let l = c.loop-number in
    λ passes computes. l.invariant passes computes ∙ further passes l.number (omega arith) (sym (computes l.number false (omega arith) (rw c.if-test.false at c.test.ensures)))
