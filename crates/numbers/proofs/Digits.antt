-- One digit more, at any width of digits: a nibble, a byte, a word.
-- Assumes nothing.
use mathlib.Core.Path.{◌≡◌}
use Prim.Native.Nat.{ℕ, suc, ◌*◌, ◌^◌}
use native.Mathlib.Nat.{mul-suc, mul_comm}
use lib.Pow.{pow-add}

pub width : (w n : ℕ) → 2 ^ w * 2 ^ (w * n) ≡ 2 ^ (w * suc n)
width w n = simp (mul-suc, pow-add) (mul_comm (2 ^ w) (2 ^ (w * n)))
