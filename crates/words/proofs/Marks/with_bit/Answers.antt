-- `Marks::with_bit` meets its contract: word i / 64 has room for its bit i % 64, which it lacks.
use Rattle.std.proofs.Common.{◌≡◌, ◌∙◌, ℕ, ◌+◌, ◌*◌, ◌/◌, ◌%◌, ◌^◌, ◌<◌, ap, arith, get_or, length-set}
use lib.ListN.{set}
use Rattle.numbers.specs.Digits.{bit, from_digits}
use Rattle.numbers.proofs.FromDigits.{put_at}
use Rattle.words.proofs.FourWords.{put_fits, set_fits, shl_one}
use Rattle.words.proofs.Marks.with_bit.Goals.{After-self}
use Rattle.words.proofs.Marks.with_bit.Goals as goal

fits : (c : After-self) → get_or c.self.inside.words (c.args.i / 64) 0 + 1 * 2 ^ (c.args.i % 64) % 2 ^ 64 < 2 ^ 64
fits c =
    let i = c.args.i in
    rw (shl_one (i % 64) (omega arith)) (put_fits c.self.inside.words c.self.invariant.1 i (ap (λ (n : ℕ). bit n i) c.self.view_is ∙ c.requires.1))

pub overflow_add-words : goal.overflow_add-words
overflow_add-words c = record { fits = fits (goal.at.overflow_add-words c).After-self }

pub invariant_of-result : goal.invariant_of-result
invariant_of-result c =
    (simp length-set c.self.invariant.0, set_fits c.self.inside.words c.self.invariant.1 _ _ (fits (goal.at.invariant_of-result c).After-self))

pub returns : goal.returns
returns c =
    let m = c.self.inside.words in
    let i = c.args.i in
    let put : from_digits 64 (set m (i / 64) (get_or m (i / 64) 0 + 1 * 2 ^ (i % 64) % 2 ^ 64)) ≡ from_digits 64 m + 2 ^ i =
    rw (shl_one (i % 64) (omega arith)) (put_at 64 m i (omega (arith, c.self.invariant.0))) in
    put ∙ ap (λ (n : ℕ). n + 2 ^ i) c.self.view_is
