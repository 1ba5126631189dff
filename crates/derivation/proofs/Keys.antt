-- The words of a derived key, stored block by block, two words each.
-- Assumes nothing.
use mathlib.Core.Path.{◌≡◌, sym, ◌∙◌}
use mathlib.Core.List.{List, [], ◌∷◌, ◌++◌, append_assoc}
use Prim.Native.Nat.{ℕ, suc, ◌+◌, ◌*◌, ◌<◌}
use native.Mathlib.Numerals.{add-one}
use native.Mathlib.Omega.{arith}
use lib.ListN.{length, take, set, length-set}
use lib.Seq.{take-suc-set, take_all}
use Rattle.magma.specs.declared.Halves.{Halves}
use Rattle.magma.specs.Magma.{halves_of}
use Rattle.derivation.specs.Derivation.{block_words}

two_more : (l : List ℕ) (k x y : ℕ) → 2 * k + 1 < length l
    → take (2 * suc k) (set (set l (2 * k) x) (2 * k + 1) y) ≡ take (2 * k) l ++ (x ∷ y ∷ [])
two_more l k x y h =
    let two : 2 * suc k ≡ suc (2 * k + 1) = omega arith in
    rw (
      two,
      take-suc-set (set l (2 * k) x) (2 * k + 1) y (rw length-set h),
      add-one,
      take-suc-set l (2 * k) x (omega arith),
      append_assoc,
    )

module _ (f : ℕ → ℕ) (first : ℕ) (l : List ℕ) (k : ℕ) (stored : take (2 * k) l ≡ block_words f first k) where
  -- a loop that stores the blocks one by one: a turn of it, and its end
  pub one_block : (block : Halves) → 2 * k + 1 < length l → block ≡ halves_of (f (first + k))
      → take (2 * (k + 1)) (set (set l (2 * k) block.high) (2 * k + 1) block.low) ≡ block_words f first (k + 1)
  unfolding block_words
  one_block block room is = rw (add-one k, two_more l k block.high block.low room, stored, is)

  pub all_blocks : (n : ℕ) → k ≡ n → length l ≡ 2 * n → l ≡ block_words f first n
  all_blocks n e long = sym (take_all (2 * n) l (omega arith)) ∙ rw e at stored
