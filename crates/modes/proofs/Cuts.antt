-- What is cut from a block: its leading bytes.
-- Assumes nothing.
use mathlib.Core.Path.{◌≡◌, sym, ap, ◌∙◌}
use mathlib.Core.List.{◌++◌}
use Prim.Native.Nat.{ℕ, ◌+◌, ◌-◌, ◌*◌, ◌/◌, ◌%◌, ◌^◌, ◌≤◌, ◌<◌}
use native.Mathlib.Nat.{mod-lt, mod-add-div}
use native.Mathlib.Omega.{arith}
use lib.ListN.{take}
use lib.Pow.{pow_pos, shr_lt}
use lib.Seq.{take_at}
use Rattle.octets.specs.Octets.{bytes_of}
use Rattle.octets.proofs.BigEndian.{length_bytes, bytes_cat}
use Rattle.modes.specs.Modes.{cut}

-- a block whose rest has m bytes
leading : (n m block : ℕ) → bytes_of n (block / 2 ^ (8 * m)) ≡ take n (bytes_of (n + m) block)
leading n m block =
    let p = 2 ^ (8 * m) in
    let parts : bytes_of (n + m) block ≡ bytes_of n (block / p) ++ bytes_of m (block % p) =
    ap (bytes_of (n + m)) (sym (mod-add-div block p)) ∙ bytes_cat n m (block / p) (block % p) (mod-lt block (pow_pos (8 * m))) in
    rw parts (sym (take_at (bytes_of n (block / p)) (bytes_of m (block % p)) n (length_bytes n (block / p))))

-- the bytes of what is cut are the leading ones of the block's
pub cut_leading : (b n block : ℕ) → n ≤ b → bytes_of n (cut b n block) ≡ take n (bytes_of b block)
cut_leading b n block h =
    let all : n + (b - n) ≡ b = omega arith in
    leading n (b - n) block ∙ ap (λ (k : ℕ). take n (bytes_of k block)) all

-- and it has no more bits
pub cut_lt : (b n block : ℕ) → n ≤ b → block < 2 ^ (8 * b) → cut b n block < 2 ^ (8 * n)
cut_lt b n block h k =
    let all : 8 * b ≡ 8 * n + 8 * (b - n) = omega arith in
    shr_lt (8 * n) (8 * (b - n)) (rw all at k)
