-- The number that digits of k bits write: its width, its digits and bits, and what it becomes when a bit is set and when the digits are cut or scaled.
-- Assumes nothing.
use mathlib.Core.Path.{◌≡◌, refl, sym, ap, subst, ◌∙◌}
use mathlib.Core.List.{List, [], ◌∷◌}
use mathlib.Core.Bool.{Bool, true, false}
use Prim.Native.Nat.{ℕ, zero, suc, min, ◌+◌, ◌-◌, ◌*◌, ◌/◌, ◌%◌, ◌^◌, ◌≤◌, ◌<◌}
use native.Mathlib.Nat.{add-zero, zero-add, add_comm, mul-add, mul_assoc, mul_comm, mul-zero, one-mul, mul-suc, pow-zero, mul-le-mul_left}
use native.Mathlib.Nat.{zero-div, div-one, div-eq_of_lt, div-add-mod, add-mul-div_left, lt_of_lt_of_le, le_of_suc-le-suc, not-suc-le-zero, lt_of_not-le}
use native.Mathlib.Nat.{zero-mod, mod-one, mod-lt, mod-eq_of_lt, mod-add-div, add-mul-mod_self_left, min-eq_left, min-eq_right}
use native.Mathlib.Numerals.{add-one}
use native.Mathlib.Omega.{arith}
use borrow.Author.Tests.{leb-true, leb-false}
use lib.Count.{ones, ones_cat}
use lib.Dec.{leb}
use lib.ListN.{length, get_or, set, drop}
use lib.Pow.{pow_pos, pow-add, shr-shr, mod-pow-add}
use lib.Seq.{drop-cons}
use Rattle.numbers.specs.Digits.{bit, from_digits}
use Rattle.numbers.proofs.Bits.{bit_mod}
use Rattle.numbers.proofs.Digits.{width}

-- every digit has k bits
abbrev pub Digits : ℕ → List ℕ → Type 0
Digits k l = (i : ℕ) → get_or l i 0 < 2 ^ k

-- ---- the digits of the number

under : {x n b m : ℕ} → x < b → n < m → x + b * n < b * m
under {x} {n} {b} {m} p q = lt_of_lt_of_le (let e : b * suc n ≡ b * n + b = mul-suc b n in omega arith) (mul-le-mul_left b q)

pub digits_lt : (k : ℕ) (l : List ℕ) → Digits k l → from_digits k l < 2 ^ (k * length l)
digits_lt k [] d = rw (mul-zero, pow-zero) (omega arith)
digits_lt k (x ∷ xs) d = rw (← width) (under (d 0) (digits_lt k xs (λ i. d (suc i))))

rest : (k x n : ℕ) → x < 2 ^ k → (x + 2 ^ k * n) / 2 ^ k ≡ n
rest k x n h = add-mul-div_left x n (pow_pos k) ∙ rw (div-eq_of_lt h, zero-add)

first : (k x n : ℕ) → x < 2 ^ k → (x + 2 ^ k * n) % 2 ^ k ≡ x
first k x n h = add-mul-mod_self_left x (2 ^ k) n ∙ mod-eq_of_lt h

pub digit_at : (k : ℕ) (l : List ℕ) → Digits k l → (j : ℕ) → from_digits k l / 2 ^ (k * j) % 2 ^ k ≡ get_or l j 0
digit_at k [] d j = rw (zero-div, zero-mod)
digit_at k (x ∷ xs) d zero = rw (mul-zero, pow-zero, div-one, first k x (from_digits k xs) (d 0))
digit_at k (x ∷ xs) d (suc j) =
    rw (mul-suc, add_comm (k * j) k, ← shr-shr, rest k x (from_digits k xs) (d 0)) (digit_at k xs (λ i. d (suc i)) j)

-- ---- one bit

pub bit_at : (k : ℕ) (l : List ℕ) → Digits k l → (i : ℕ) → 0 < k → bit (from_digits k l) i ≡ bit (get_or l (i / k) 0) (i % k)
unfolding bit
bit_at k l d i p =
    subst (λ (x : ℕ). bit (from_digits k l) x ≡ bit (get_or l (i / k) 0) (i % k)) (div-add-mod i k)
    (rw (← shr-shr) (sym (bit_mod (from_digits k l / 2 ^ (k * (i / k))) k (i % k) (mod-lt i p)) ∙ rw (digit_at k l d (i / k))))

set_at : (k : ℕ) (l : List ℕ) (j v : ℕ) → j < length l → from_digits k (set l j v) + 2 ^ (k * j) * get_or l j 0 ≡ from_digits k l + 2 ^ (k * j) * v
set_at k [] j v h = absurd (not-suc-le-zero h)
set_at k (x ∷ xs) zero v h = simp (mul-zero, pow-zero, one-mul) (omega arith)
set_at k (x ∷ xs) (suc j) v h =
    let e = ap (λ (z : ℕ). 2 ^ k * z) (set_at k xs j v (le_of_suc-le-suc h)) in
    simp (← width, mul_assoc) (omega (arith, simp mul-add at e))

-- a digit that grows by a power of two
pub put_at : (k : ℕ) (l : List ℕ) (i : ℕ) → i / k < length l
    → from_digits k (set l (i / k) (get_or l (i / k) 0 + 2 ^ (i % k))) ≡ from_digits k l + 2 ^ i
put_at k l i h =
    subst (λ (x : ℕ). from_digits k (set l (i / k) (get_or l (i / k) 0 + 2 ^ (i % k))) ≡ from_digits k l + 2 ^ x) (div-add-mod i k)
    (omega (arith, rw (mul-add, ← pow-add) at (set_at k l (i / k) (get_or l (i / k) 0 + 2 ^ (i % k)) h)))

-- ---- the lowest s bits

-- of digits that stand from bit p on
abbrev pub cut : ℕ → ℕ → ℕ → List ℕ → List ℕ
cut k s p [] = []
cut k s p (x ∷ xs) = (x % 2 ^ min (s - p) k) ∷ cut k s (p + k) xs

pub cut_is : (k s p : ℕ) (l : List ℕ) → Digits k l → from_digits k (cut k s p l) ≡ from_digits k l % 2 ^ (s - p)
cut_is k s p [] d = rw zero-mod
cut_is k s p (x ∷ xs) d = rw (cut_is k s (p + k) xs (λ i. d (suc i))) (by (leb (s - p) k) refl)
  where
    n : ℕ
    n = from_digits k xs

    by : (b : Bool) → leb (s - p) k ≡ b → x % 2 ^ min (s - p) k + 2 ^ k * (n % 2 ^ (s - (p + k))) ≡ (x + 2 ^ k * n) % 2 ^ (s - p)
    by true e =
        let h : s - p ≤ k = leb-true (s - p) k e in
        let none : s - (p + k) ≡ 0 = omega arith in
        let whole : s - p + (k - (s - p)) ≡ k = omega arith in
        let split : 2 ^ k ≡ 2 ^ (s - p) * 2 ^ (k - (s - p)) = rw whole at (pow-add 2 (s - p) (k - (s - p))) in
        rw (none, pow-zero, mod-one, mul-zero, add-zero, min-eq_left h, split, mul_assoc)
        (sym (add-mul-mod_self_left x (2 ^ (s - p)) (2 ^ (k - (s - p)) * n)))
    by false e =
        let h : k ≤ s - p = omega (arith, leb-false (s - p) k e) in
        let whole : s - (p + k) + k ≡ s - p = omega arith in
        let parts : (x + 2 ^ k * n) % 2 ^ (s - (p + k) + k) ≡ n % 2 ^ (s - (p + k)) * 2 ^ k + x =
        mod-pow-add (x + 2 ^ k * n) (s - (p + k)) k ∙ rw (rest k x n (d 0), first k x n (d 0)) in
        rw (min-eq_right h, mod-eq_of_lt (d 0), mul_comm (2 ^ k) (n % 2 ^ (s - (p + k))))
        (add_comm x (n % 2 ^ (s - (p + k)) * 2 ^ k) ∙ sym (rw whole at parts))

-- a number that loses a digit when it is cut was wider
pub cut_changes : (k s j : ℕ) (l r : List ℕ) → Digits k l → Digits k r → from_digits k r ≡ from_digits k l % 2 ^ s
    → (get_or r j 0 ≡ get_or l j 0 → ⊥) → 2 ^ s ≤ from_digits k l
cut_changes k s j l r d f e changed = le_of_suc-le-suc (lt_of_not-le (λ h. changed (same h)))
  where
    same : from_digits k l < 2 ^ s → get_or r j 0 ≡ get_or l j 0
    same h = sym (digit_at k r f j) ∙ ap (λ (x : ℕ). x / 2 ^ (k * j) % 2 ^ k) (e ∙ mod-eq_of_lt h) ∙ digit_at k l d j

-- ---- the digits times a number

-- each digit times c, with what the digit below carries into it, the lowest with e
abbrev pub scaled : ℕ → ℕ → ℕ → List ℕ → List ℕ
scaled k c e [] = []
scaled k c e (x ∷ xs) = (x * c % 2 ^ k + e) ∷ scaled k c (x * c / 2 ^ k) xs

-- what the highest carries out
abbrev carried : ℕ → ℕ → ℕ → List ℕ → ℕ
carried k c e [] = e
carried k c e (x ∷ xs) = carried k c (x * c / 2 ^ k) xs

whole : (k c e : ℕ) (l : List ℕ) → from_digits k (scaled k c e l) + 2 ^ (k * length l) * carried k c e l ≡ from_digits k l * c + e
whole k c e [] = rw (mul-zero, pow-zero, one-mul) (omega arith)
whole k c e (x ∷ xs) =
    let f = ap (λ (z : ℕ). 2 ^ k * z) (whole k c (x * c / 2 ^ k) xs) in
    simp (← width, mul_assoc) (omega (arith, simp (mul-add, ← mul_assoc) at f, mod-add-div (x * c) (2 ^ k)))

pub scaled_is : (k c : ℕ) (l r : List ℕ) → r ≡ scaled k c 0 l → length r ≡ length l → Digits k r → from_digits k r ≡ from_digits k l * c % 2 ^ (k * length l)
scaled_is k c l r e n d =
    let all : from_digits k r + 2 ^ (k * length l) * carried k c 0 l ≡ from_digits k l * c = rw e (whole k c 0 l ∙ add-zero (from_digits k l * c)) in
    let fits : from_digits k r < 2 ^ (k * length l) = rw n at (digits_lt k r d) in
    sym (ap (λ (z : ℕ). z % 2 ^ (k * length l)) (sym all) ∙ add-mul-mod_self_left _ _ _ ∙ mod-eq_of_lt fits)

-- ---- counting, from a digit on

pub ones_from : (k i : ℕ) (l : List ℕ) → Digits k l → i < length l
    → ones (from_digits k (drop i l)) ≡ ones (get_or l i 0) + ones (from_digits k (drop (i + 1) l))
ones_from k i l d h =
    let x : ℕ = get_or l i 0 in
    let n : ℕ = from_digits k (drop (suc i) l) in
    rw (add-one, drop-cons l i 0 h, add_comm x (2 ^ k * n), mul_comm (2 ^ k) n) (ones_cat k n x (d i) ∙ add_comm (ones n) (ones x))
