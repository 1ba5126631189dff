-- `text::hexed::Hex::part` meets its contract: two digits a byte. Assumes nothing.
use Rattle.std.proofs.Common.{ap, ◌∙◌, ◌*◌, ℕ, arith, take, drop}
use native.Mathlib.Nat.{add-sub_cancel_left}
use Rattle.text.specs.Found.{unhexed}
use Rattle.text.proofs.Unhexed.{length_unhexed, unhexed_part}
use Rattle.text.proofs.hexed.Hex.part.Goals as goal

pub overflow_mul-result : goal.overflow_mul-result
overflow_mul-result c = omega (arith, c.requires, length_unhexed c.args.self.now.digits.now)

pub overflow_mul-result-2 : goal.overflow_mul-result-2
overflow_mul-result-2 c = omega (arith, c.requires, length_unhexed c.args.self.now.digits.now)

pub overflow_mul-result-3 : goal.overflow_mul-result-3
overflow_mul-result-3 c = omega (arith, c.requires, length_unhexed c.args.self.now.digits.now)

pub overflow_add-result : goal.overflow_add-result
overflow_add-result c = omega (arith, c.requires, length_unhexed c.args.self.now.digits.now)

pub slice_bounds-result-end : goal.slice_bounds-result-end
slice_bounds-result-end c = omega (arith, c.requires, length_unhexed c.args.self.now.digits.now)

pub returns-clause-digits : goal.returns-clause-digits
returns-clause-digits c =
    let a = c.args in
    ap (λ (m : ℕ). take m (drop (2 * a.at) a.self.now.digits.now)) (add-sub_cancel_left (2 * a.at) (2 * a.n))

pub returns-clause-value : goal.returns-clause-value
returns-clause-value c =
    let a = c.args in
    let l = a.self.now.digits.now in
    ap (λ (m : ℕ). unhexed (take m (drop (2 * a.at) l))) (add-sub_cancel_left (2 * a.at) (2 * a.n))
    ∙ unhexed_part a.at a.n l
