use Rattle.std.proofs.Common.{refl, ◌∙◌, arith}
use Rattle.numbers.proofs.Shifts.{shift_more}
use Rattle.words.proofs.Marks.shifted.Goals as goal

pub loop-left-init : goal.loop-left-init
loop-left-init c = refl

pub loop-left-smaller : goal.loop-left-smaller
loop-left-smaller c = omega arith

pub loop-left-preserved : goal.loop-left-preserved
loop-left-preserved c =
    shift_more _ _ 64 c.loop-left.left _ (omega arith) c.by_a_word-moved.ensures ∙ c.loop-left.invariant

pub by_bits-requires : goal.by_bits-requires
by_bits-requires c = omega arith

pub returns : goal.returns
returns c = c.by_bits.ensures ∙ c.loop-left.invariant
