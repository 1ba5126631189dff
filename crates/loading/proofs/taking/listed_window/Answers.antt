-- `loading::taking::listed_window` meets its contract: four words, the lowest last in the text, write the marks. Assumes nothing.
use Rattle.std.proofs.Common.{ap, arith, length}
use Rattle.octets.proofs.Parts.{length_part}
use Rattle.text.specs.Written.{written}
use Rattle.loading.proofs.Marks.{window_listed, word_is}
use Rattle.loading.proofs.taking.listed_window.Goals as goal

pub number-requires : goal.number-requires
number-requires c =
    let moved = c.args.moved.now in
    omega (arith, ap length c.part.ensures.value, length_part 24 8 (written moved.marks) (omega (arith, moved.whole)))

pub number-requires-2 : goal.number-requires-2
number-requires-2 c =
    let moved = c.args.moved.now in
    omega (arith, ap length c.part-2.ensures.value, length_part 16 8 (written moved.marks) (omega (arith, moved.whole)))

pub number-requires-3 : goal.number-requires-3
number-requires-3 c =
    let moved = c.args.moved.now in
    omega (arith, ap length c.part-3.ensures.value, length_part 8 8 (written moved.marks) (omega (arith, moved.whole)))

pub number-requires-4 : goal.number-requires-4
number-requires-4 c =
    let moved = c.args.moved.now in
    omega (arith, ap length c.part-4.ensures.value, length_part 0 8 (written moved.marks) (omega (arith, moved.whole)))

pub returns : goal.returns
returns c =
    let moved = c.args.moved.now in
    let u = written moved.marks in
    window_listed u
    (word_is u 24 c.number.result (omega (arith, moved.whole)) c.part.ensures.value c.number.ensures.0)
    (word_is u 16 c.number-2.result (omega (arith, moved.whole)) c.part-2.ensures.value c.number-2.ensures.0)
    (word_is u 8 c.number-3.result (omega (arith, moved.whole)) c.part-3.ensures.value c.number-3.ensures.0)
    (word_is u 0 c.number-4.result (omega (arith, moved.whole)) c.part-4.ensures.value c.number-4.ensures.0)
