use Rattle.std.proofs.Common.{◌≤◌, ◌∙◌, ap, arith, rules, get_or}
use lib.Count.{ones, ones-le, ones_in}
use Rattle.numbers.proofs.FromDigits.{ones_from}
use Rattle.words.proofs.FourWords.{count_all}
use Rattle.words.proofs.Marks.count.Goals.{In-loop-word}
use Rattle.words.proofs.Marks.count.Goals as goal

pub loop-word-init : goal.loop-word-init
loop-word-init c = record { few = search rules; all = omega arith }

few : (c : In-loop-word) → ones (get_or c.self.inside.words c.loop-word.word-index 0) ≤ 64
few c = ones-le 64 _ (c.self.invariant.1 c.loop-word.word-index)

pub overflow_add-total : goal.overflow_add-total
overflow_add-total c = record { fits = omega (arith, few (goal.at.overflow_add-total c).In-loop-word) }

pub loop-word-preserved : goal.loop-word-preserved
loop-word-preserved c =
    let more = ones_from 64 c.loop-word.word-index c.self.inside.words c.self.invariant.1 (omega (arith, c.self.invariant.0)) in
    record { few = omega (arith, few (goal.at.loop-word-preserved c).In-loop-word); all = omega (arith, more) }

pub returns : goal.returns
returns c =
    let l = c.loop-word in
    let m = c.self.inside.words in
    (count_all m l.word-index l.total c.self.invariant.0 (omega arith) c.self.invariant.1 l.invariant.all ∙ ap (ones_in 256) c.self.view_is, omega arith)
