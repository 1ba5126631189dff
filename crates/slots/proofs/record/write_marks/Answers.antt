-- Four words, each behind the one before, are the number's bytes. Assumes nothing.
use Rattle.std.proofs.Common.{arith, rules}
use Rattle.words.proofs.FourWords.{all_fit}
use Rattle.slots.specs.Table.{marks_at}
use Rattle.slots.proofs.Settling.{marks_put}
use Rattle.slots.proofs.record.write_marks.Goals as goal

pub returns : goal.returns
returns c =
    let a = c.args in
    marks_put a.slot.now _ _ _ _ marks_at a.marks (omega arith) (search rules)
    (all_fit a.marks (λ i. search rules))
    c.write.ensures
    c.write-2.ensures
    c.write-3.ensures
    c.write-4.ensures
