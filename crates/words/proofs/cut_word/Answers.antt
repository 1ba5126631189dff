-- `words::cut_word` meets its contract: below s stand none of the word's bits, all of them, or the lowest.
use Rattle.std.proofs.Common.{◌≡◌, sym, ◌-◌, mod-eq_of_lt, le_of_lt, arith, rules, pow_pos}
use native.Mathlib.Nat.{mod-one, min-eq_left, min-eq_right}
use Rattle.words.proofs.FourWords.{shl_one}
use Rattle.words.proofs.cut_word.Goals as goal

pub returns-then-s-from : goal.returns-then-s-from
returns-then-s-from c =
    let a = c.args in
    let none : a.s - a.from ≡ 0 = omega arith in
    sym (rw none (mod-one a.word))

pub returns-then-bits-ge64 : goal.returns-then-bits-ge64
returns-then-bits-ge64 c = sym (rw (min-eq_right c.if-bits-ge64.true) (mod-eq_of_lt (search rules)))

pub nonzero_rem-result : goal.nonzero_rem-result
nonzero_rem-result c = rw (shl_one _ c.if-bits-ge64.false) (pow_pos _)

pub returns : goal.returns
returns c = rw (shl_one _ c.if-bits-ge64.false, min-eq_left (le_of_lt c.if-bits-ge64.false))
