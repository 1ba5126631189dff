-- Whether an ICV is right, by the comparison of what the message carries with what it should carry.
-- Assumes nothing.
use mathlib.Core.Bool.{true, false}
use mathlib.Core.List.{List}
use mathlib.Core.Path.{◌≡◌}
use Prim.Native.Nat.{ℕ}
use borrow.Author.Tests.{eq-eqb, ne_eqb}
use lib.ListN.{take, drop}
use Rattle.octets.specs.Octets.{big_endian}
use Rattle.format.specs.Suite.{icv_length_of}
use Rattle.message.specs.Sealing.{inputs_under, icv_of, right_under}
use Rattle.format.specs.Header.{end_of}
use Rattle.format.specs.declared.header.Header.{Header}

-- the number that stands in the message, and the ICV of what stands before it
pub record Compared (h : Header) (edition : ℕ) (key source m : List ℕ) (carried icv : ℕ) : Type 0 where
  pub carries : carried ≡ big_endian (icv_length_of h.suite) (drop (end_of h m) m)
  pub should : icv ≡ icv_of (inputs_under h edition key source) (take (end_of h m) m)

module _ {h : Header} {edition : ℕ} {key source m : List ℕ} {carried icv : ℕ} (c : Compared h edition key source m carried icv) where
  pub same_right : carried ≡ icv → right_under h edition key source m ≡ true
  unfolding right_under
  same_right e = rw (← c.carries, ← c.should, eq-eqb carried icv e)

  pub other_wrong : (carried ≡ icv → ⊥) → right_under h edition key source m ≡ false
  unfolding right_under
  other_wrong d = rw (← c.carries, ← c.should, ne_eqb carried icv d)
