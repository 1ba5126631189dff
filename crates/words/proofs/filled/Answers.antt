-- `words::filled` meets its contract: of the word below, s bits move in, and they fit below the word's own.
use Rattle.std.proofs.Common.{ap, ℕ, ◌+◌, ◌*◌, ◌%◌, ◌^◌, arith, rules}
use Rattle.numbers.proofs.Shifts.{shift_in, shift_fits}
use Rattle.words.proofs.FourWords.{stays}
use Rattle.words.proofs.filled.Goals as goal

pub returns-then-s-eq0 : goal.returns-then-s-eq0
returns-then-s-eq0 c = rw c.if-s-eq0.true (stays _ _ (search rules) (search rules))

pub overflow_add-result : goal.overflow_add-result
overflow_add-result c = record { fits = shift_fits 64 _ (omega arith) _ _ (search rules) }

pub returns : goal.returns
returns c =
    let a = c.args in
    ap (λ (x : ℕ). a.word * 2 ^ a.s % 2 ^ 64 + x) (shift_in 64 a.s (omega arith) a.below)
