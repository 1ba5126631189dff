use Rattle.std.proofs.Common.{◌≡◌, ℕ, suc, ◌+◌, ◌-◌, ◌*◌, ◌^◌, ◌<◌, arith, rules, lit<}
use Rattle.octets.proofs.BigEndian.{grown, word}
use Rattle.capture.specs.Capture.{little_endian}
use Rattle.capture.proofs.Numbers.{one_before}
use Rattle.capture.proofs.digits.read_low_first.Goals.{In-loop-i}
use Rattle.capture.proofs.digits.read_low_first.Goals as goal

pub loop-i-init : goal.loop-i-init
unfolding little_endian
loop-i-init c = let none : c.args.n - c.args.n ≡ 0 = omega arith in (search rules, rw none (lit< tt), rw none)

-- one byte more, whichever it is
more : (c : In-loop-i) (y : ℕ) → y < 256
    → c.loop-i.number * 256 + y < 2 ^ (8 * suc (c.args.n - c.loop-i.i))
more c y h = grown (c.args.n - c.loop-i.i) c.loop-i.number y c.loop-i.invariant.1 h

fits : (c : In-loop-i) (y : ℕ) → y < 256 → c.loop-i.number * 256 + y < 2 ^ 64
fits c y h = word (suc (c.args.n - c.loop-i.i)) _ (omega arith) (more c y h)

pub overflow_mul-number : goal.overflow_mul-number
overflow_mul-number c = omega (arith, fits c 0 (omega arith))

pub overflow_add-number : goal.overflow_add-number
overflow_add-number c =
    record { fits = fits (goal.at.overflow_add-number c).In-loop-i c.from.result (search rules) }

pub loop-i-preserved : goal.loop-i-preserved
loop-i-preserved c =
    let l = c.loop-i in
    let a = c.args in
    let k : a.n - (l.i - 1) ≡ suc (a.n - l.i) = omega arith in
    let j : a.at + (l.i - 1) + 1 ≡ a.at + l.i = omega arith in (
      search rules,
      rw k (more (goal.at.loop-i-preserved c).In-loop-i c.from.result (search rules)),
      rw (k, l.invariant.2, c.from.ensures) (rw j at (one_before (a.n - l.i) (a.at + (l.i - 1)) a.bytes.now)),
    )

pub returns : goal.returns
returns c =
    let l = c.loop-i in
    let a = c.args in
    let all : a.n - l.i ≡ a.n = omega arith in
    let front : a.at + l.i ≡ a.at = omega arith in
    (rw (all, front) at l.invariant.2, rw all at l.invariant.1)
