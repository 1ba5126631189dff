-- The check value of bytes is a block, as everything on its way is.
-- Assumes nothing.
use mathlib.Core.Bool.{Bool, true, false, cond}
use mathlib.Core.List.{List, [], ◌∷◌, ◌++◌}
use Prim.Native.Nat.{ℕ, zero, suc, ◌-◌, ◌*◌, ◌/◌, ◌%◌, ◌^◌, ◌<◌}
use native.Mathlib.Omega.{arith}
use lib.Bits.{xor_lt}
use lib.Dec.{eqb, lit<}
use lib.ListN.{length, drop}
use Rattle.octets.specs.Octets.{Bytes, bytes_of}
use Rattle.octets.proofs.BigEndian.{bytes_drop, number_lt, bytes_append, bytes_small}
use Rattle.magma.specs.Magma.{encrypted}
use Rattle.magma.proofs.Widths.{encrypted_lt}
use Rattle.modes.specs.Modes.{doubled, first_subkey, second_subkey, block, before, chained, last_key, check_with, magma_check}

doubled_lt : (x : ℕ) → x < 2 ^ 64 → doubled 8 0x1b x < 2 ^ 64
unfolding doubled
doubled_lt x h = xor_lt 64 (x * 2 % 2 ^ 64) (x / 2 ^ 63 * 0x1b) (omega arith) (omega arith)

last_key_lt : (first second n : ℕ) → first < 2 ^ 64 → second < 2 ^ 64 → last_key 8 first second n < 2 ^ 64
unfolding last_key
last_key_lt first second n f s = either (eqb (n - 8 * before 8 n) 8)
  where
    either : (full : Bool) → cond full first second < 2 ^ 64
    either true = f
    either false = s

module _ (bytes : List ℕ) (small : Bytes bytes) where
  block_lt : (k : ℕ) → block 8 bytes k < 2 ^ 64
  unfolding block bytes_of
  block_lt k =
      number_lt 8 (drop (8 * k) (bytes ++ (128 ∷ []))) (bytes_drop (8 * k) (bytes ++ (128 ∷ [])) (bytes_append bytes (128 ∷ []) small (bytes_small 1 128)))

  module _ (E : ℕ → ℕ) (keeps : (x : ℕ) → x < 2 ^ 64 → E x < 2 ^ 64) where
    chained_lt : (k : ℕ) → chained 8 E bytes k < 2 ^ 64
    unfolding chained
    chained_lt zero = lit< tt
    chained_lt (suc k) = keeps _ (xor_lt 64 (chained 8 E bytes k) (block 8 bytes k) (chained_lt k) (block_lt k))

    first_lt : first_subkey 8 0x1b E < 2 ^ 64
    unfolding first_subkey
    first_lt = doubled_lt (E 0) (keeps 0 (lit< tt))

    second_lt : second_subkey 8 0x1b E < 2 ^ 64
    unfolding second_subkey
    second_lt = doubled_lt (first_subkey 8 0x1b E) first_lt

    with_lt : check_with 8 E (first_subkey 8 0x1b E) (second_subkey 8 0x1b E) bytes < 2 ^ 64
    unfolding check_with
    with_lt =
        let last = before 8 (length bytes) in
        keeps _ (xor_lt 64 _ _ (xor_lt 64 _ _ (chained_lt last) (block_lt last)) (last_key_lt _ _ (length bytes) first_lt second_lt))

  pub check_lt : (key : List ℕ) → magma_check key bytes < 2 ^ 64
  check_lt key = with_lt (encrypted key) (encrypted_lt key)
