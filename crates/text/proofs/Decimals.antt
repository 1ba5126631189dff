-- Decimal numbers: how many digits, the text of a number below 10 and of a larger one, and their writing.
-- Assumes nothing.
use mathlib.Core.Path.{◌≡◌, sym, ap, ◌∙◌}
use mathlib.Core.List.{List, [], ◌∷◌, ◌++◌, append_assoc}
use Prim.Native.Nat.{ℕ, zero, suc, ◌+◌, ◌-◌, ◌/◌, ◌%◌, ◌^◌, ◌≤◌, ◌<◌}
use native.Mathlib.Decide.{dec_lt}
use native.Mathlib.Nat.{pow-suc}
use native.Mathlib.Omega.{arith}
use borrow.Author.Tests.{lt-ltb, le-ltb}
use lib.ListN.{length, set, take, drop, length-append, length-drop, length-set}
use Rattle.std.proofs.lemmas.List.{drop-set, take_all}
use Rattle.text.specs.Text.{decimal_in, decimal_of}

pub small : (n x : ℕ) → x < 10 → decimal_in (suc n) x ≡ (48 + x) ∷ []
unfolding decimal_in
small n x h = rw (lt-ltb x 10 h)

pub large : (n x : ℕ) → 10 ≤ x → decimal_in (suc n) x ≡ decimal_in n (x / 10) ++ ((48 + x % 10) ∷ [])
unfolding decimal_in
large n x h = rw (le-ltb x 10 h)

most : (n x : ℕ) → length (decimal_in n x) ≤ n
unfolding decimal_in
most zero x = omega arith
most (suc n) x = go (dec_lt x 10) (most n (x / 10))
  where
    go : Dec (x < 10) → length (decimal_in n (x / 10)) ≤ n → length (decimal_in (suc n) x) ≤ suc n
    go (yes h) m = rw (small n x h) (omega arith)
    go (no h) m = rw (large n x (omega arith), length-append) (omega arith)

-- a number below 10 to the n has the same text in more places
wider : (n x : ℕ) → x < 10 ^ suc n → decimal_in (suc n) x ≡ decimal_in (suc (suc n)) x
wider zero x h = small 0 x (omega arith) ∙ sym (small 1 x (omega arith))
wider (suc n) x h = go (dec_lt x 10) (wider n (x / 10) (omega (arith, pow-suc 10 (suc n))))
  where
    go : Dec (x < 10) → decimal_in (suc n) (x / 10) ≡ decimal_in (suc (suc n)) (x / 10) → decimal_in (suc (suc n)) x ≡ decimal_in (suc (suc (suc n))) x
    go (yes k) e = small (suc n) x k ∙ sym (small (suc (suc n)) x k)
    go (no k) e = large (suc n) x (omega arith) ∙ ap (λ (t : List ℕ). t ++ ((48 + x % 10) ∷ [])) e ∙ sym (large (suc (suc n)) x (omega arith))

-- and no more digits than it takes
few : (m n x : ℕ) → x < 10 ^ suc n → length (decimal_in m x) ≤ suc n
unfolding decimal_in
few zero n x h = omega arith
few (suc m) zero x h = rw (small m x (omega arith)) (omega arith)
few (suc m) (suc n) x h = go (dec_lt x 10) (few m n (x / 10) (omega (arith, pow-suc 10 (suc n))))
  where
    go : Dec (x < 10) → length (decimal_in m (x / 10)) ≤ suc n → length (decimal_in (suc m) x) ≤ suc (suc n)
    go (yes k) l = rw (small m x k) (omega arith)
    go (no k) l = rw (large m x (omega arith), length-append) (omega arith)

pub digits_most : (n x : ℕ) → x < 10 ^ suc n → length (decimal_of x) ≤ suc n
digits_most n x h = few 20 n x h

pub length_decimal : (x : ℕ) → length (decimal_of x) ≤ 20
length_decimal x = most 20 x

module _ (x : ℕ) (word : x < 2 ^ 64) (long : 10 ≤ x) where
  same : decimal_in 19 (x / 10) ≡ decimal_of (x / 10)
  same = wider 18 (x / 10) (omega arith)

  pub next_digit : decimal_of x ≡ decimal_of (x / 10) ++ ((48 + x % 10) ∷ [])
  next_digit = large 19 x long ∙ ap (λ (t : List ℕ). t ++ ((48 + x % 10) ∷ [])) same

-- what is left of a number has its digits before those that were made, which end at the twentieth place
module _ (number left start : ℕ) (digits : List ℕ) (long : length digits ≡ 20) (fits : start ≤ 20)
    (made : decimal_of number ≡ decimal_of left ++ drop start digits) where
  -- they leave it room
  room : length (decimal_of left) ≤ start
  room = omega (arith, ap length made, length-append (decimal_of left) (drop start digits), length-drop start digits, length_decimal number)

  module _ (word : left < 2 ^ 64) (some : 10 ≤ left) where
    pub more_room : 1 ≤ start
    more_room = omega (arith, room, ap length (next_digit left word some), length-append (decimal_of (left / 10)) ((48 + left % 10) ∷ []))

    -- the last digit of it is made
    pub one_made : decimal_of number ≡ decimal_of (left / 10) ++ drop (start - 1) (set digits (start - 1) (48 + left % 10))
    one_made =
        let here : drop (start - 1) (set digits (start - 1) (48 + left % 10)) ≡ (48 + left % 10) ∷ drop start digits =
        drop-set digits (start - 1) (48 + left % 10) (omega (arith, more_room)) ∙ ap (λ (n : ℕ). (48 + left % 10) ∷ drop n digits) (omega (arith, more_room)) in
        made ∙ rw (next_digit left word some, here) (append_assoc (decimal_of (left / 10)) ((48 + left % 10) ∷ []) (drop start digits))

  module _ (last : left < 10) where
    pub last_room : 1 ≤ start
    last_room = omega (arith, room, ap length (small 19 left last))

    -- all are made
    pub all_made : decimal_of number ≡ drop (start - 1) (set digits (start - 1) (48 + left))
    all_made =
        let here : drop (start - 1) (set digits (start - 1) (48 + left)) ≡ (48 + left) ∷ drop start digits =
        drop-set digits (start - 1) (48 + left) (omega (arith, last_room)) ∙ ap (λ (n : ℕ). (48 + left) ∷ drop n digits) (omega (arith, last_room)) in
        made ∙ rw (small 19 left last, here)

    -- and they are as many as stand there
    pub all_count : length (decimal_of number) ≡ 20 - (start - 1)
    all_count = omega (arith, ap length all_made, length-drop (start - 1) (set digits (start - 1) (48 + left)), length-set digits (start - 1) (48 + left))

    pub all_taken : take (20 - (start - 1)) (drop (start - 1) (set digits (start - 1) (48 + left))) ≡ decimal_of number
    all_taken = rw (← all_made) (take_all (20 - (start - 1)) (decimal_of number) (omega (arith, all_count)))
