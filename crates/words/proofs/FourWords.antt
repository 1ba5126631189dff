-- Four words of 64 bits: what the functions on them compute, in terms of the number that the words write.
-- Assumes nothing.
use mathlib.Core.Path.{◌≡◌, refl, sym, ap, subst, ◌∙◌}
use mathlib.Core.Bool.{Bool, true, false}
use native.Mathlib.Decide.{dec_lt}
use mathlib.Core.List.{List, [], ◌∷◌}
use Prim.Native.Nat.{ℕ, zero, suc, min, ◌+◌, ◌-◌, ◌*◌, ◌/◌, ◌%◌, ◌^◌, ◌≤◌, ◌<◌}
use native.Mathlib.Nat.{add-zero, zero-add, zero-mul, mul-one, one-mul, sub-zero, zero-div, div-eq_of_lt, mod-lt, mod-eq_of_lt, mul-mod_left}
use native.Mathlib.Omega.{arith}
use lib.Count.{ones, ones_in}
use lib.Dec.{lit<, eqb, ltb}
use borrow.Author.Tests.{lt-ltb, le-ltb}
use Rattle.std.specs.Cmp.Lexicographic.{pointwise}
use Rattle.std.proofs.lemmas.Slice.Eq.{bytes_eq-Decides}
use Rattle.words.specs.FourWords.{IsFourWords, words_of, words_back}
use lib.ListN.{length, get_or, take, drop, set, drop_of_length-le}
use lib.Pow.{pow_pos, pow-lt, shl-shr}
use lib.Seq.{take_all}
use mir.Syntax.{w64}
use mir.Val.{Fits}
use Rattle.numbers.specs.Digits.{bit, from_digits}
use Rattle.numbers.proofs.Bits.{bit_above, ones_within, put_lt}
use Rattle.numbers.proofs.FromDigits.{bit_at, cut_is, digits_lt, scaled_is, Digits, cut}

pub all_fit : (m : List ℕ) → ((i : ℕ) → Fits w64 (get_or m i 0)) → Digits 64 m
all_fit m f i = (f i).fits

-- a list of four, written out
abbrev pub four : List ℕ → List ℕ
four m = get_or m 0 0 ∷ get_or m 1 0 ∷ get_or m 2 0 ∷ get_or m 3 0 ∷ []

pub four_is : (m : List ℕ) → length m ≡ 4 → four m ≡ m
four_is [] n = absurd (omega arith)
four_is (a ∷ []) n = absurd (omega arith)
four_is (a ∷ b ∷ []) n = absurd (omega arith)
four_is (a ∷ b ∷ c ∷ []) n = absurd (omega arith)
four_is (a ∷ b ∷ c ∷ d ∷ []) n = refl
four_is (a ∷ b ∷ c ∷ d ∷ e ∷ l) n = absurd (omega arith)

words_lt : (m : List ℕ) → length m ≡ 4 → Digits 64 m → from_digits 64 m < 2 ^ 256
words_lt m n d = rw n at (digits_lt 64 m d)

-- ---- moved up

-- a word times c, and what the word below carries into it
abbrev pub up : ℕ → ℕ → ℕ → ℕ
up c x below = x * c % 2 ^ 64 + below * c / 2 ^ 64

pub scaled_four : (c : ℕ) (m : List ℕ) {p q r s : ℕ} → length m ≡ 4 → (p < 2 ^ 64) × (q < 2 ^ 64) × (r < 2 ^ 64) × (s < 2 ^ 64)
    → p ≡ up c (get_or m 0 0) 0 → q ≡ up c (get_or m 1 0) (get_or m 0 0) → r ≡ up c (get_or m 2 0) (get_or m 1 0) → s ≡ up c (get_or m 3 0) (get_or m 2 0)
    → from_digits 64 (p ∷ q ∷ r ∷ s ∷ []) ≡ from_digits 64 m * c % 2 ^ 256
scaled_four c m {p} {q} {r} {s} n d e f g h =
    scaled_is 64 c (four m) (p ∷ q ∷ r ∷ s ∷ []) (rw (e, f, g, h, zero-mul, zero-div)) refl fit
    ∙ ap (λ (l : List ℕ). from_digits 64 l * c % 2 ^ 256) (four_is m n)
  where
    fit : Digits 64 (p ∷ q ∷ r ∷ s ∷ [])
    fit zero = d.0
    fit (suc zero) = d.1
    fit (suc (suc zero)) = d.2
    fit (suc (suc (suc zero))) = d.3
    fit (suc (suc (suc (suc i)))) = lit< tt

-- by a whole word: nothing of it stays, all of the word below goes in
pub word_up : (x below : ℕ) → below ≡ up (2 ^ 64) x below
word_up x below = sym (rw (mul-mod_left x (2 ^ 64), shl-shr below 64) (zero-add below))

-- by no bits
pub stays : (w v : ℕ) → w < 2 ^ 64 → v < 2 ^ 64 → w ≡ w * 1 % 2 ^ 64 + v * 1 / 2 ^ 64
stays w v h l = sym (rw (mul-one w, mul-one v, mod-eq_of_lt h, div-eq_of_lt l) (add-zero w))

-- ---- cut

pub shl_one : (s : ℕ) → s < 64 → 1 * 2 ^ s % 2 ^ 64 ≡ 2 ^ s
shl_one s h = rw one-mul (mod-eq_of_lt (pow-lt h))

pub cut_four : (s : ℕ) (m : List ℕ) {p q r t : ℕ} → length m ≡ 4 → Digits 64 m
    → p ≡ get_or m 0 0 % 2 ^ min (s - 0) 64 → q ≡ get_or m 1 0 % 2 ^ min (s - 64) 64 → r ≡ get_or m 2 0 % 2 ^ min (s - 128) 64 → t ≡ get_or m 3 0 % 2 ^ min (s - 192) 64
    → from_digits 64 (p ∷ q ∷ r ∷ t ∷ []) ≡ from_digits 64 m % 2 ^ s
cut_four s m n d e f g h =
    rw (e, f, g, h) (ap (λ (l : List ℕ). from_digits 64 (cut 64 s 0 l)) (four_is m n) ∙ (rw sub-zero at (cut_is 64 s 0 m d)))

-- a number that stays the same is no wider
pub cut_keeps : (m r : List ℕ) → length m ≡ 4 → length r ≡ 4 → (s i : ℕ) → 4 ≤ i → from_digits 64 r ≡ from_digits 64 m % 2 ^ s
    → take i r ≡ take i m → from_digits 64 m < 2 ^ s
cut_keeps m r n k s i h e t =
    let same : r ≡ m = sym (take_all i r (omega arith)) ∙ t ∙ take_all i m (omega arith) in
    subst (λ (x : ℕ). x < 2 ^ s) (sym e ∙ ap (from_digits 64) same) (mod-lt (from_digits 64 m) (pow_pos s))

false_of : (r : Bool) → (r ≡ true → ⊥) → r ≡ false
false_of true h = absurd (h refl)
false_of false h = refl

-- cutting changes none of the words exactly where the number is that narrow
pub kept_narrow : (m k : List ℕ) (s : ℕ) → IsFourWords m → IsFourWords k → from_digits 64 k ≡ from_digits 64 m % 2 ^ s
    → pointwise eqb k m ≡ ltb (from_digits 64 m) (2 ^ s)
kept_narrow m k s hm hk e = go (dec_lt (from_digits 64 m) (2 ^ s))
  where
    go : Dec (from_digits 64 m < 2 ^ s) → pointwise eqb k m ≡ ltb (from_digits 64 m) (2 ^ s)
    go (yes h) =
        let same : k ≡ m = sym (words_back k hk) ∙ ap words_of (e ∙ mod-eq_of_lt h) ∙ words_back m hm in
        (bytes_eq-Decides k m).1 same ∙ sym (lt-ltb (from_digits 64 m) (2 ^ s) h)
    go (no h) =
        false_of (pointwise eqb k m) (λ t.
        h (subst (λ (x : ℕ). x < 2 ^ s) (sym e ∙ ap (from_digits 64) ((bytes_eq-Decides k m).0 t)) (mod-lt (from_digits 64 m) (pow_pos s))))
        ∙ sym (le-ltb (from_digits 64 m) (2 ^ s) (omega arith))

-- ---- one bit

pub bit_over : (m : List ℕ) → length m ≡ 4 → Digits 64 m → (i : ℕ) → 256 ≤ i → false ≡ bit (from_digits 64 m) i
bit_over m n d i h = sym (bit_above (from_digits 64 m) 256 i (words_lt m n d) h)

pub put_fits : (m : List ℕ) → Digits 64 m → (i : ℕ) → bit (from_digits 64 m) i ≡ false → get_or m (i / 64) 0 + 2 ^ (i % 64) < 2 ^ 64
put_fits m d i e =
    put_lt (get_or m (i / 64) 0) (i % 64) 64 (sym (bit_at 64 m d i (lit< tt)) ∙ e) (d (i / 64)) (omega arith)

pub set_fits : (m : List ℕ) → Digits 64 m → (k v : ℕ) → v < 2 ^ 64 → Digits 64 (set m k v)
set_fits [] d k v h i = lit< tt
set_fits (x ∷ xs) d zero v h zero = h
set_fits (x ∷ xs) d zero v h (suc i) = d (suc i)
set_fits (x ∷ xs) d (suc k) v h zero = d 0
set_fits (x ∷ xs) d (suc k) v h (suc i) = set_fits xs (λ j. d (suc j)) k v h i

-- ---- counted

pub count_all : (m : List ℕ) (i total : ℕ) → length m ≡ 4 → 4 ≤ i → Digits 64 m → total + ones (from_digits 64 (drop i m)) ≡ ones (from_digits 64 m)
    → total ≡ ones_in 256 (from_digits 64 m)
unfolding ones ones_in
count_all m i total n h d e =
    let none : ones (from_digits 64 (drop i m)) ≡ 0 = rw (drop_of_length-le m {i = i} (omega arith)) in
    sym (ones_within 256 (from_digits 64 m) (words_lt m n d) ∙ sym e ∙ rw none (add-zero total))
