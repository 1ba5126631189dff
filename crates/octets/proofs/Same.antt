-- Comparing two lists byte for byte: what the answer says, a turn of a loop that compares and its ends, and that std's comparison is it.
-- Assumes nothing.
use mathlib.Core.Path.{◌≡◌, refl, ap, ap₂, sym, ◌∙◌}
use mathlib.Core.Bool.{true, false, ◌&&◌, and-false}
use mathlib.Core.List.{List, [], ◌∷◌}
use Prim.Native.Nat.{ℕ, suc, ◌+◌, ◌≤◌, ◌<◌}
use native.Mathlib.Numerals.{add-one}
use native.Mathlib.Omega.{arith}
use borrow.Author.Tests.{eq-eqb, ne_eqb, eqb-true}
use lib.Dec.{eqb}
use lib.ListN.{length, get_or, drop, drop_of_length-le}
use lib.Seq.{drop-cons}
use Rattle.std.specs.Cmp.Lexicographic.{pointwise}
use Rattle.numbers.proofs.Tests.{and_left, and_right}
use Rattle.octets.specs.Octets.{same}

pub same_refl : (l : List ℕ) → same l l ≡ true
unfolding same
same_refl [] = refl
same_refl (x ∷ xs) = rw (eq-eqb x x refl) (same_refl xs)

pub same_true : (a b : List ℕ) → same a b ≡ true → a ≡ b
unfolding same
same_true [] [] e = refl
same_true [] (y ∷ ys) e = cc
same_true (x ∷ xs) [] e = cc
same_true (x ∷ xs) (y ∷ ys) e =
    ap₂ (λ (u : ℕ) (v : List ℕ). u ∷ v) (eqb-true x y (and_left (eqb x y) (same xs ys) e)) (same_true xs ys (and_right (eqb x y) (same xs ys) e))

pub other_length : (a b : List ℕ) → (length a ≡ length b → ⊥) → same a b ≡ false
unfolding same
other_length [] [] h = absurd (h refl)
other_length [] (y ∷ ys) h = refl
other_length (x ∷ xs) [] h = refl
other_length (x ∷ xs) (y ∷ ys) h = rw (other_length xs ys (λ e. h (ap suc e))) (and-false (eqb x y))

-- what is left decides, after i bytes
module _ (a b : List ℕ) (i : ℕ) (long : length a ≡ length b) (left : same a b ≡ same (drop i a) (drop i b)) where
  next : i < length a → same a b ≡ (eqb (get_or a i 0) (get_or b i 0) && same (drop (i + 1) a) (drop (i + 1) b))
  unfolding same
  next h = left ∙ rw (drop-cons a i 0 h, drop-cons b i 0 (omega arith), add-one)

  pub other : i < length a → (get_or a i 0 ≡ get_or b i 0 → ⊥) → false ≡ same a b
  other h d = sym (next h ∙ rw (ne_eqb (get_or a i 0) (get_or b i 0) d))

  pub one_further : i < length a → get_or a i 0 ≡ get_or b i 0 → same a b ≡ same (drop (i + 1) a) (drop (i + 1) b)
  one_further h e = next h ∙ rw (eq-eqb (get_or a i 0) (get_or b i 0) e)

  pub done : length a ≤ i → true ≡ same a b
  unfolding same
  done h = sym (left ∙ rw (drop_of_length-le a h, drop_of_length-le b {i = i} (omega arith)))

-- std's `==` says the same
pub same_is : (a b : List ℕ) → pointwise eqb a b ≡ same a b
unfolding same
same_is [] [] = refl
same_is [] (y ∷ ys) = refl
same_is (x ∷ xs) [] = refl
same_is (x ∷ xs) (y ∷ ys) = rw (same_is xs ys)
