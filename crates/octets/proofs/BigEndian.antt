-- Big-endian numbers: how wide they are, what of the list they read, and the two round trips.
-- Assumes nothing.
use mathlib.Core.Path.{◌≡◌, refl, sym, ap, ◌∙◌}
use mathlib.Core.List.{List, [], ◌∷◌, ◌++◌, append_assoc, append-nil}
use Prim.Native.Nat.{ℕ, zero, suc, ◌+◌, ◌-◌, ◌*◌, ◌/◌, ◌%◌, ◌^◌, ◌≤◌, ◌<◌}
use native.Mathlib.Decide.{dec_lt}
use native.Mathlib.Nat.{mod-one, mod-eq_of_lt, div-one, add-zero, zero-add, add-suc, mul-one, one-mul, mul_assoc}
use native.Mathlib.Omega.{arith}
use lib.Arith.{mod-mul, digits_div, digits_mod}
use lib.Dec.{lit<}
use lib.ListN.{length, get_or, take, drop, length-append, get_or-append, get_or-eq_default}
use lib.Pow.{pow_pos, pow_mono, shr-shr}
use lib.Seq.{get_or_at, get_or-drop, drop_at, take-suc}
use Rattle.numbers.proofs.Digits.{width}
use Rattle.octets.specs.Octets.{Bytes, big_endian, bytes_of}

pub bytes_drop : (n : ℕ) (l : List ℕ) → Bytes l → Bytes (drop n l)
bytes_drop n l b i = rw (get_or-drop n l i 0) (b (n + i))

pub bytes_take : (n : ℕ) (l : List ℕ) → Bytes l → Bytes (take n l)
bytes_take zero l b i = lit< tt
bytes_take (suc n) [] b i = lit< tt
bytes_take (suc n) (x ∷ xs) b zero = b zero
bytes_take (suc n) (x ∷ xs) b (suc i) = bytes_take n xs (λ j. b (suc j)) i

-- a number that grows by a byte
pub grown : (n x y : ℕ) → x < 2 ^ (8 * n) → y < 256 → x * 256 + y < 2 ^ (8 * suc n)
grown n x y h k = omega (arith, width 8 n)

-- up to eight bytes are a word
pub word : (n x : ℕ) → n ≤ 8 → x < 2 ^ (8 * n) → x < 2 ^ 64
word n x h k = omega (arith, pow_mono {i = 8 * n} {j = 64} (omega arith))

pub number_lt : (n : ℕ) (l : List ℕ) → Bytes l → big_endian n l < 2 ^ (8 * n)
unfolding big_endian
number_lt zero l h = lit< tt
number_lt (suc n) l h = grown n (big_endian n l) (get_or l n 0) (number_lt n l h) (h n)

pub number_front : (n : ℕ) (xs ys : List ℕ) → n ≤ length xs → big_endian n (xs ++ ys) ≡ big_endian n xs
unfolding big_endian
number_front zero xs ys h = refl
number_front (suc n) xs ys h = rw (number_front n xs ys (omega arith), get_or-append xs ys 0 n h)

pub length_bytes : (n x : ℕ) → length (bytes_of n x) ≡ n
unfolding bytes_of
length_bytes zero x = refl
length_bytes (suc n) x = simp length-append (omega (arith, length_bytes n (x / 256)))

-- byte i of a number
pub byte_at : (n x i : ℕ) → i < n → get_or (bytes_of n x) i 0 ≡ x / 2 ^ (8 * (n - 1 - i)) % 256
unfolding bytes_of
byte_at zero x i h = absurd (omega arith)
byte_at (suc n) x i h = go (dec_lt i n) (byte_at n (x / 256) i)
  where
    go : Dec (i < n) → (i < n → get_or (bytes_of n (x / 256)) i 0 ≡ x / 256 / 2 ^ (8 * (n - 1 - i)) % 256)
        → get_or (bytes_of n (x / 256) ++ (x % 256 ∷ [])) i 0 ≡ x / 2 ^ (8 * (suc n - 1 - i)) % 256
    go (yes k) higher =
        let up : 8 + 8 * (n - 1 - i) ≡ 8 * (suc n - 1 - i) = omega arith in
        get_or-append (bytes_of n (x / 256)) (x % 256 ∷ []) 0 i (rw length_bytes k)
        ∙ higher k
        ∙ ap (λ (q : ℕ). q % 256) (shr-shr x 8 (8 * (n - 1 - i)) ∙ ap (λ (e : ℕ). x / 2 ^ e) up)
    go (no k) higher =
        let last : n ≡ i = omega arith in
        let none : 8 * (suc n - 1 - i) ≡ 0 = omega arith in
        get_or_at (bytes_of n (x / 256)) (x % 256) [] 0 i (length_bytes n (x / 256) ∙ last) ∙ rw (none, div-one)

pub bytes_append : (xs ys : List ℕ) → Bytes xs → Bytes ys → Bytes (xs ++ ys)
bytes_append [] ys a b i = b i
bytes_append (x ∷ xs) ys a b zero = a zero
bytes_append (x ∷ xs) ys a b (suc i) = bytes_append xs ys (λ j. a (suc j)) b i

one_byte : (x : ℕ) → x < 256 → Bytes (x ∷ [])
one_byte x h zero = h
one_byte x h (suc i) = lit< tt

pub bytes_small : (n x : ℕ) → Bytes (bytes_of n x)
unfolding bytes_of
bytes_small zero x = λ i. lit< tt
bytes_small (suc n) x = bytes_append (bytes_of n (x / 256)) (x % 256 ∷ []) (bytes_small n (x / 256)) (one_byte (x % 256) (omega arith))

-- past the list's end come zeros
pub number_past : (n m : ℕ) (l : List ℕ) → length l ≤ n → big_endian (n + m) l ≡ big_endian n l * 2 ^ (8 * m)
unfolding big_endian
number_past n zero l h = rw (add-zero, mul-one)
number_past n (suc m) l h =
    rw (add-suc, number_past n m l h, get_or-eq_default l 0 {n = n + m} (omega arith))
    (omega (arith, ap (λ (p : ℕ). big_endian n l * p) (width 8 m)))

pub number_bytes : (n x : ℕ) → big_endian n (bytes_of n x) ≡ x % 2 ^ (8 * n)
unfolding big_endian bytes_of
number_bytes zero x = sym (mod-one x)
number_bytes (suc n) x =
    let l = length_bytes n (x / 256) in
    rw (
      number_front n (bytes_of n (x / 256)) (x % 256 ∷ []) (omega arith),
      get_or_at (bytes_of n (x / 256)) (x % 256) [] 0 n l,
      number_bytes n (x / 256),
    )
    (sym (mod-mul x (pow_pos (8 * n)) (lit< tt)) ∙ ap (λ (m : ℕ). x % m) (omega (arith, width 8 n)))

-- a number that stands in a list is read there
pub number_there : (n x at : ℕ) (p r : List ℕ) → length p ≡ at → x < 2 ^ (8 * n) → big_endian n (drop at (p ++ bytes_of n x ++ r)) ≡ x
number_there n x at p r e h =
    ap (big_endian n) (ap (drop at) (append_assoc p (bytes_of n x) r) ∙ drop_at p (bytes_of n x ++ r) at e)
    ∙ number_front n (bytes_of n x) r (omega (arith, length_bytes n x))
    ∙ number_bytes n x
    ∙ mod-eq_of_lt h

pub bytes_number : (n : ℕ) (l : List ℕ) → n ≤ length l → Bytes l → bytes_of n (big_endian n l) ≡ take n l
unfolding big_endian bytes_of
bytes_number zero l h b = refl
bytes_number (suc n) l h b =
    rw (digits_div (big_endian n l) (b n), digits_mod (big_endian n l) (b n), bytes_number n l (omega arith) b, take-suc l n 0 h)

-- ---- n bytes with m bytes behind them

pub number_cat : (n m : ℕ) (l : List ℕ) → big_endian (n + m) l ≡ big_endian m (drop n l) + 2 ^ (8 * m) * big_endian n l
unfolding big_endian
number_cat n zero l = rw (add-zero, zero-add, one-mul)
number_cat n (suc m) l =
    rw (add-suc, number_cat n m l, get_or-drop n l m 0)
    (omega (arith, mul_assoc 256 (2 ^ (8 * m)) (big_endian n l), ap (λ (p : ℕ). p * big_endian n l) (width 8 m)))

pub bytes_cat : (n m x y : ℕ) → y < 2 ^ (8 * m) → bytes_of (n + m) (y + 2 ^ (8 * m) * x) ≡ bytes_of n x ++ bytes_of m y
unfolding bytes_of
bytes_cat n zero x y h = let none : y ≡ 0 = omega arith in rw (add-zero, none, zero-add, one-mul) (sym (append-nil (bytes_of n x)))
bytes_cat n (suc m) x y h =
    let up : 2 ^ (8 * suc m) * x ≡ 256 * (2 ^ (8 * m) * x) = rw (← width, mul_assoc) in
    let high : (y + 256 * (2 ^ (8 * m) * x)) / 256 ≡ y / 256 + 2 ^ (8 * m) * x = omega arith in
    let low : (y + 256 * (2 ^ (8 * m) * x)) % 256 ≡ y % 256 = omega arith in
    rw (add-suc, up, high, low, bytes_cat n m x (y / 256) (omega (arith, width 8 m)))
    (append_assoc (bytes_of n x) (bytes_of m (y / 256)) (y % 256 ∷ []))
