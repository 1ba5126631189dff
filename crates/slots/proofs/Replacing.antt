-- A table with other bytes in one slot: that slot, the others, and its length.
-- Assumes nothing.
use mathlib.Core.Path.{◌≡◌, sym, ◌∙◌, subst}
use mathlib.Core.List.{List}
use mathlib.Core.Logic.{inl, inr}
use Prim.Native.Nat.{ℕ, ◌+◌, ◌*◌, ◌≤◌, ◌<◌}
use native.Mathlib.Decide.{dec_lt}
use native.Mathlib.Omega.{arith}
use lib.ListN.{length}
use Rattle.octets.specs.Octets.{part, put}
use Rattle.octets.proofs.Parts.{part_own, part_other}
use Rattle.octets.proofs.Places.{length_put, put_again}
use Rattle.slots.specs.Table.{slot_of, replaced, slot_length, slot_count, table_length}

module _ (t : List ℕ) (i : ℕ) (s : List ℕ) (long : length t ≡ table_length) (small : i < slot_count) (whole : length s ≡ slot_length) where
  room : slot_length * i + length s ≤ length t
  room = omega arith

  pub length_replaced : length (replaced t i s) ≡ table_length
  length_replaced = length_put t (slot_length * i) s room ∙ long

  -- and once more
  pub replaced_again : (u : List ℕ) → length u ≡ slot_length → replaced (replaced t i s) i u ≡ replaced t i u
  replaced_again u full = put_again t (slot_length * i) s u room (whole ∙ sym full)

  pub slot_own : slot_of (replaced t i s) i ≡ s
  slot_own = subst (λ (n : ℕ). part (slot_length * i) n (put t (slot_length * i) s) ≡ s) whole (part_own t (slot_length * i) s room)

  pub slot_other : (j : ℕ) → j < slot_count → (j ≡ i → ⊥) → slot_of (replaced t i s) j ≡ slot_of t j
  slot_other j k other = by (dec_lt j i)
    where
      by : Dec (j < i) → slot_of (replaced t i s) j ≡ slot_of t j
      by (yes l) = part_other t (slot_length * i) s room (slot_length * j) slot_length (omega arith) (inl (omega arith))
      by (no l) = part_other t (slot_length * i) s room (slot_length * j) slot_length (omega arith) (inr (omega arith))
