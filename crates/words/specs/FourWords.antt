-- Four words of 64 bits, the lowest first, and the number that they write.
use Rattle.std.specs.Prelude.{◌≡◌, List, [], ◌∷◌, ℕ, ◌*◌, ◌+◌, ◌/◌, ◌%◌, ◌^◌, ◌<◌, length, get_or}
use Rattle.std.proofs.Common.{arith}
use Rattle.numbers.specs.Digits.{from_digits}

abbrev pub IsFourWords : List ℕ → Type 0
IsFourWords m = (length m ≡ 4) × ((i : ℕ) → get_or m i 0 < 2 ^ 64)

-- the words of a number
abbrev pub words_of : ℕ → List ℕ
words_of n = n % 2 ^ 64 ∷ n / 2 ^ 64 % 2 ^ 64 ∷ n / 2 ^ 64 / 2 ^ 64 % 2 ^ 64 ∷ n / 2 ^ 64 / 2 ^ 64 / 2 ^ 64 % 2 ^ 64 ∷ []

low : (x y : ℕ) → x < 2 ^ 64 → (x + 2 ^ 64 * y) % 2 ^ 64 ≡ x
low x y h = omega arith

high : (x y : ℕ) → x < 2 ^ 64 → (x + 2 ^ 64 * y) / 2 ^ 64 ≡ y
high x y h = omega arith

-- they are those that wrote it
pub words_back : (m : List ℕ) → IsFourWords m → words_of (from_digits 64 m) ≡ m
words_back [] h = absurd (omega arith)
words_back (a ∷ []) h = absurd (omega arith)
words_back (a ∷ b ∷ []) h = absurd (omega arith)
words_back (a ∷ b ∷ c ∷ []) h = absurd (omega arith)
words_back (a ∷ b ∷ c ∷ d ∷ []) h =
    let f = h.1 0 in
    let g = h.1 1 in
    let i = h.1 2 in
    let j = h.1 3 in
    rw (low a _ f, high a _ f, low b _ g, high b _ g, low c _ i, high c _ i, low d 0 j)
words_back (a ∷ b ∷ c ∷ d ∷ e ∷ l) h = absurd (omega arith)
