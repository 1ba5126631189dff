-- The binary digits of a number, one at a time: what adding a power, shifting and cutting do to them, and how many are set.
-- Assumes nothing.
use mathlib.Core.Path.{◌≡◌, sym, ap, subst, ◌∙◌}
use mathlib.Core.Bool.{false, ◌||◌}
use Prim.Native.Nat.{ℕ, zero, suc, ◌+◌, ◌-◌, ◌*◌, ◌/◌, ◌%◌, ◌^◌, ◌≤◌, ◌<◌}
use native.Mathlib.Nat.{div-one, zero-div, pow-succ', div-div-eq-div-mul, div-eq_of_lt, lt_of_lt_of_le}
use native.Mathlib.Omega.{arith}
use borrow.Author.Tests.{eqb-false, eq-eqb}
use lib.Bits.{shifted_half, shifted_even}
use lib.Count.{ones, ones_in, ones_step}
use lib.Dec.{eqb, eqb-zero-suc, eqb-suc-zero, eqb-suc-suc}
use lib.Pow.{pow_mono, shl-shr, shr-shr, field, mod-mod-pow}
use Rattle.numbers.specs.Digits.{bit}

-- ---- the lowest digit, and the others as those of the half

bit_zero : (m : ℕ) → bit m 0 ≡ eqb (m % 2) 1
unfolding bit
bit_zero m = rw div-one

bit_suc : (m i : ℕ) → bit m (suc i) ≡ bit (m / 2) i
unfolding bit
bit_suc m i = rw (pow-succ', ← div-div-eq-div-mul)

even : (m : ℕ) → bit m 0 ≡ false → m % 2 ≡ 0
even m e = omega (arith, eqb-false (m % 2) 1 (sym (bit_zero m) ∙ e))

pub bit_none : (i : ℕ) → bit 0 i ≡ false
unfolding bit
bit_none i = rw zero-div

-- ---- adding 2 ^ i where that digit is 0

-- it sets the digit, and leaves the others
pub bit_put : (m i j : ℕ) → bit m i ≡ false → bit (m + 2 ^ i) j ≡ (eqb j i || bit m j)
bit_put m zero zero e = bit_zero (m + 1) ∙ eq-eqb ((m + 1) % 2) 1 (omega (arith, even m e))
bit_put m zero (suc j) e =
    let half : (m + 1) / 2 ≡ m / 2 = omega (arith, even m e) in
    rw (bit_suc (m + 1) j, half, eqb-suc-zero, bit_suc m j)
bit_put m (suc i) zero e =
    let low : (m + 2 ^ suc i) % 2 ≡ m % 2 = omega arith in
    rw (bit_zero (m + 2 ^ suc i), low, eqb-zero-suc, bit_zero m)
bit_put m (suc i) (suc j) e =
    let half : (m + 2 ^ suc i) / 2 ≡ m / 2 + 2 ^ i = omega arith in
    rw (bit_suc (m + 2 ^ suc i) j, half, eqb-suc-suc, bit_suc m j) (bit_put (m / 2) i j (sym (bit_suc m i) ∙ e))

-- the number keeps its width
pub put_lt : (m i k : ℕ) → bit m i ≡ false → m < 2 ^ k → i < k → m + 2 ^ i < 2 ^ k
put_lt m i zero e l h = omega arith
put_lt m zero (suc k) e l h = omega (arith, even m e)
put_lt m (suc i) (suc k) e l h = omega (arith, put_lt (m / 2) i k (sym (bit_suc m i) ∙ e) (omega arith) (omega arith))

-- and has one more digit set
pub ones_put : (m i : ℕ) → bit m i ≡ false → ones (m + 2 ^ i) ≡ suc (ones m)
ones_put m zero e =
    let half : (m + 1) / 2 ≡ m / 2 = omega (arith, even m e) in
    omega (arith, even m e, ones_step (m + 1), ones_step m, ap ones half)
ones_put m (suc i) e =
    let half : (m + 2 ^ suc i) / 2 ≡ m / 2 + 2 ^ i = omega arith in
    omega (arith, ones_step (m + 2 ^ suc i), ones_step m, ap ones half, ones_put (m / 2) i (sym (bit_suc m i) ∙ e))

-- ---- shifting and cutting

-- a shift by d moves each digit up by d
pub bit_high : (m d i : ℕ) → bit (m * 2 ^ d) (d + i) ≡ bit m i
unfolding bit
bit_high m d i = rw (← shr-shr, shl-shr)

-- and the d lowest are 0
pub bit_low : (m d i : ℕ) → i < d → bit (m * 2 ^ d) i ≡ false
bit_low m zero i h = absurd (omega arith)
bit_low m (suc d) zero h = rw (bit_zero, shifted_even)
bit_low m (suc d) (suc i) h = rw (bit_suc, shifted_half) (bit_low m d i (omega arith))

-- a remainder by 2 ^ k keeps the digits below k
pub bit_mod : (m k i : ℕ) → i < k → bit (m % 2 ^ k) i ≡ bit m i
unfolding bit
bit_mod m k i h = subst (λ (x : ℕ). bit (m % 2 ^ x) i ≡ bit m i) (omega arith) (kept (k - suc i))
  where
    kept : (j : ℕ) → bit (m % 2 ^ (j + 1 + i)) i ≡ bit m i
    kept j = rw (field, mod-mod-pow (m / 2 ^ i) j 1)

-- a number below 2 ^ k has no others
pub bit_above : (m k i : ℕ) → m < 2 ^ k → k ≤ i → bit m i ≡ false
unfolding bit
bit_above m k i h l = rw (div-eq_of_lt (lt_of_lt_of_le h (pow_mono l)))

-- ---- counting

-- k digits are enough for a number below 2 ^ k
pub ones_within : (k m : ℕ) → m < 2 ^ k → ones_in k m ≡ ones m
unfolding ones ones_in
ones_within zero m h = let none : m ≡ 0 = omega arith in rw none
ones_within (suc k) m h = ap (λ (x : ℕ). m % 2 + x) (ones_within k (m / 2) (omega arith)) ∙ sym (ones_step m)
