-- A number of eight bytes, as std reads and writes it.
-- Assumes nothing.
use mathlib.Core.Path.{◌≡◌, ap, ◌∙◌}
use mathlib.Core.List.{List}
use Prim.Native.Nat.{ℕ}
use native.Mathlib.Nat.{add-zero}
use native.Mathlib.Omega.{arith}
use lib.ListN.{drop}
use Rattle.std.specs.Int.{from_be_bytes, w64}
use Rattle.octets.specs.Octets.{big_endian, part}
use Rattle.octets.proofs.Parts.{number_in_part}

eight : (l : List ℕ) → from_be_bytes w64 l ≡ big_endian 8 l
unfolding big_endian
eight l = omega arith

-- of a part with eight bytes
pub number_read : (at n : ℕ) (l bytes : List ℕ) → n ≡ 8 → bytes ≡ part at n l → from_be_bytes w64 bytes ≡ big_endian 8 (drop at l)
number_read at n l bytes e f =
    ap (from_be_bytes w64) (f ∙ ap (λ (k : ℕ). part at k l) e) ∙ eight (part at 8 l) ∙ number_in_part at 8 0 8 l (omega arith)
    ∙ ap (λ (k : ℕ). big_endian 8 (drop k l)) (add-zero at)
