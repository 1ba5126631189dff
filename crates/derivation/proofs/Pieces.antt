-- The data of a block, written piece by piece: how long it is, and where it can be read.
-- Assumes nothing.
use mathlib.Core.Path.{◌≡◌, refl}
use mathlib.Core.List.{List, ◌++◌}
use Prim.Native.Nat.{ℕ, ◌+◌, ◌≤◌}
use native.Mathlib.Nat.{add_assoc}
use native.Mathlib.Omega.{arith}
use lib.ListN.{length, take, drop, length-append}
use lib.Seq.{take_at, length-take-le}
use Rattle.octets.specs.Octets.{bytes_of, put}
use Rattle.octets.proofs.BigEndian.{length_bytes}
use Rattle.octets.proofs.Places.{Written, and_then}
use Rattle.derivation.specs.Derivation.{serial_of, data_after}
use Rattle.format.specs.Suite.{label_of, number_of, output_bits_of}
use Rattle.format.specs.declared.suite.Suite.{Suite}
use Rattle.format.proofs.Suites.{label_length}

-- the bytes up to the end of those that were written
pub take_put : (l : List ℕ) (at : ℕ) (u : List ℕ) (n : ℕ) → at ≤ length l → at + length u ≡ n → take n (put l at u) ≡ take at l ++ u
take_put l at u n h e =
    take_at (take at l ++ u) (drop (at + length u) l) n (rw (length-append, length-take-le at l h) e)

module _ (s : Suite) (edition : ℕ) (source : List ℕ) (seq_num : ℕ) where
  pub data_length : length (data_after s edition source seq_num) ≡ 17 + length source
  unfolding data_after
  data_length = simp (length-append, length_bytes, label_length) (omega arith)

  -- the seven writes of the data of a block
  pub data_written : (l : List ℕ) {l₁ l₂ l₃ l₄ l₅ l₆ l₇ : List ℕ} → 1 ≤ length l
      → l₁ ≡ put l 1 (label_of s)
      → l₂ ≡ put l₁ 7 (bytes_of 1 6)
      → l₃ ≡ put l₂ 8 (bytes_of 5 (serial_of edition seq_num))
      → l₄ ≡ put l₃ 13 source
      → l₅ ≡ put l₄ (13 + length source) (bytes_of 1 (number_of s))
      → l₆ ≡ put l₅ (13 + length source + 1) (bytes_of 2 (6 + length source))
      → l₇ ≡ put l₆ (13 + length source + 3) (bytes_of 2 (output_bits_of s))
      → l₇ ≡ put l 1 (data_after s edition source seq_num)
  unfolding data_after
  data_written l {l₁} h w₁ w₂ w₃ w₄ w₅ w₆ w₇ =
      let one : Written l 1 (label_of s) l₁ 7 = record { ends = rw (label_length s); is = w₁ } in
      let two = and_then one h (bytes_of 1 6) 8 (rw length_bytes) w₂ in
      let three = and_then two h (bytes_of 5 (serial_of edition seq_num)) 13 (rw length_bytes) w₃ in
      let four = and_then three h source (13 + length source) refl w₄ in
      let five = and_then four h (bytes_of 1 (number_of s)) (13 + length source + 1) (rw length_bytes) w₅ in
      let six = and_then five h (bytes_of 2 (6 + length source)) (13 + length source + 3) (rw length_bytes (add_assoc (13 + length source) 1 2)) w₆ in
      (and_then six h (bytes_of 2 (output_bits_of s)) _ refl w₇).is

  -- the data of a block, with the byte before it
  pub data_front : (l : List ℕ) {done : List ℕ} → 1 ≤ length l → done ≡ put l 1 (data_after s edition source seq_num)
      → take (18 + length source) done ≡ take 1 l ++ data_after s edition source seq_num
  data_front l h is = rw is (take_put l 1 (data_after s edition source seq_num) (18 + length source) h (omega (arith, data_length)))
