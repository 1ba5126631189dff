-- A slot of the table: its length, and what stands in it where in the table.
-- Assumes nothing.
use mathlib.Core.Path.{◌≡◌, sym, ◌∙◌}
use mathlib.Core.Bool.{true, false}
use mathlib.Core.List.{List}
use Prim.Native.Nat.{ℕ, ◌+◌, ◌*◌, ◌≤◌, ◌<◌}
use native.Mathlib.Nat.{add-zero}
use native.Mathlib.Omega.{arith}
use borrow.Author.Tests.{eq-eqb, ne_eqb}
use lib.Dec.{lit<}
use lib.ListN.{length, get_or, drop}
use Rattle.octets.specs.Octets.{big_endian, part}
use Rattle.octets.proofs.Parts.{length_part, part_at, number_in_part}
use Rattle.slots.specs.Table.{slot_of, occupied, slot_length, slot_count, table_length}

module _ (t : List ℕ) (i : ℕ) where
  -- whether it is free, by its first byte
  pub slot_first : get_or (slot_of t i) 0 0 ≡ get_or t (slot_length * i) 0
  slot_first = part_at (slot_length * i) slot_length t 0 (lit< tt) ∙ rw add-zero

  pub slot_free : get_or t (slot_length * i) 0 ≡ 0 → occupied (slot_of t i) ≡ false
  slot_free h = rw (eq-eqb (get_or (slot_of t i) 0 0) 0 (slot_first ∙ h))

  pub slot_held : (get_or t (slot_length * i) 0 ≡ 0 → ⊥) → occupied (slot_of t i) ≡ true
  slot_held h = rw (ne_eqb (get_or (slot_of t i) 0 0) 0 (λ e. h (sym slot_first ∙ e)))

  pub slot_number : (k n : ℕ) → k + n ≤ slot_length → big_endian n (drop k (slot_of t i)) ≡ big_endian n (drop (slot_length * i + k) t)
  slot_number k n h = number_in_part (slot_length * i) slot_length k n t h

  module _ (long : length t ≡ table_length) (small : i < slot_count) where
    pub length_of_slot : length (slot_of t i) ≡ slot_length
    length_of_slot = length_part (slot_length * i) slot_length t (omega arith)

-- a slot as it is lent, by numbers that are where it begins and its length
pub lent_length : (t : List ℕ) (i a k : ℕ) → length t ≡ table_length → i < slot_count → a ≡ slot_length * i → k ≡ slot_length → length (part a k t) ≡ slot_length
lent_length t i a k long small e f = rw (e, f) (length_of_slot t i long small)
