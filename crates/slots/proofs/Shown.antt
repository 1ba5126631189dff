-- The bytes of a slot in which its highest number and its marks stand.
-- Assumes nothing.
use mathlib.Core.Path.{◌≡◌, sym, ap, ◌∙◌}
use mathlib.Core.List.{List, [], ◌∷◌}
use Prim.Native.Nat.{ℕ, zero, suc, ◌+◌, ◌/◌, ◌%◌, ◌≤◌}
use native.Mathlib.Nat.{add-zero, add-suc}
use native.Mathlib.Omega.{arith}
use lib.ListN.{length, take, drop, length-drop, drop_of_length-le}
use lib.Seq.{length-take-le, drop-append-le, drop_at, drop-drop, take-add}
use Rattle.octets.specs.Octets.{Bytes, big_endian, bytes_of, part}
use Rattle.octets.proofs.BigEndian.{bytes_drop, length_bytes, bytes_number}
use Rattle.slots.specs.Table.{slot_length, highest_at, marks_at}

-- the lowest bytes of a number are the last of more
lowest : (m n x : ℕ) → drop m (bytes_of (m + n) x) ≡ bytes_of n x
unfolding bytes_of
lowest m zero x = rw add-zero (drop_of_length-le (bytes_of m x) {i = m} (omega (arith, length_bytes m x)))
lowest m (suc n) x =
    rw (add-suc, drop-append-le m (bytes_of (m + n) (x / 256)) (x % 256 ∷ []) (omega (arith, length_bytes (m + n) (x / 256))), lowest m n (x / 256))

-- the last n bytes of a number that stands in a list
last_bytes : (m n : ℕ) (l : List ℕ) → m + n ≤ length l → Bytes l → bytes_of n (big_endian (m + n) l) ≡ take n (drop m l)
last_bytes m n l h b =
    sym (lowest m n (big_endian (m + n) l))
    ∙ ap (drop m) (bytes_number (m + n) l h b ∙ take-add m n l)
    ∙ drop_at (take m l) (take n (drop m l)) m (length-take-le m l (omega arith))

module _ (s : List ℕ) (long : length s ≡ slot_length) (b : Bytes s) where
  pub highest_there : part (highest_at + 2) 6 s ≡ bytes_of 6 (big_endian 8 (drop highest_at s))
  highest_there =
      sym (last_bytes 2 6 (drop highest_at s) (rw (length-drop highest_at s) (omega arith)) (bytes_drop highest_at s b) ∙ ap (take 6) (drop-drop 2 highest_at s))

  pub marks_there : part marks_at 32 s ≡ bytes_of 32 (big_endian 32 (drop marks_at s))
  marks_there = sym (bytes_number 32 (drop marks_at s) (rw (length-drop marks_at s) (omega arith)) (bytes_drop marks_at s b))
