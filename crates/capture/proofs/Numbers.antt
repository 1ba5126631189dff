-- Numbers in a file: a turn of the loop that reads one with its lowest byte first, and that four bytes are 32 bits.
-- Assumes nothing.
use mathlib.Core.Path.{◌≡◌}
use mathlib.Core.List.{List}
use Prim.Native.Nat.{ℕ, suc, ◌+◌, ◌*◌, ◌^◌, ◌≤◌, ◌<◌}
use native.Mathlib.Nat.{add-zero}
use native.Mathlib.Omega.{arith}
use lib.ListN.{get_or, drop}
use lib.Pow.{pow_mono}
use lib.Seq.{get_or-drop, drop-drop}
use Rattle.capture.specs.Capture.{little_endian}

-- the byte before those that were read
pub one_before : (n at : ℕ) (bytes : List ℕ) → little_endian n (drop (at + 1) bytes) * 256 + get_or bytes at 0 ≡ little_endian (suc n) (drop at bytes)
unfolding little_endian
one_before n at bytes = rw (drop-drop, get_or-drop, add-zero)

pub four_bytes : (n x : ℕ) → n ≤ 4 → x < 2 ^ (8 * n) → x < 2 ^ 32
four_bytes n x h k = omega (arith, pow_mono {i = 8 * n} {j = 32} (omega arith))
