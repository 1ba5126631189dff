-- `Marks::has_bit` meets its contract: bit i is bit i % 64 of word i / 64.
use Rattle.std.proofs.Common.{sym, lit<}
use Rattle.numbers.specs.Digits.{bit}
use Rattle.numbers.proofs.FromDigits.{bit_at}
use Rattle.words.proofs.FourWords.{bit_over}
use Rattle.words.proofs.Marks.has_bit.Goals as goal

pub returns-then-i-ge256 : goal.returns-then-i-ge256
returns-then-i-ge256 c =
    rw (← c.self.view_is) (bit_over c.self.inside.words c.self.invariant.0 c.self.invariant.1 _ c.if-i-ge256.true)

pub returns : goal.returns
unfolding bit
returns c = rw (← c.self.view_is) (sym (bit_at 64 c.self.inside.words c.self.invariant.1 c.args.i (lit< tt)))
