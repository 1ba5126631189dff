-- A number of many digits moved up: in two steps, and within one digit of k bits with what moves in from the digit below.
-- Assumes nothing.
use mathlib.Core.Path.{◌≡◌, sym, ap, ◌∙◌}
use Prim.Native.Nat.{ℕ, ◌+◌, ◌-◌, ◌*◌, ◌/◌, ◌%◌, ◌^◌, ◌≤◌, ◌<◌}
use native.Mathlib.Nat.{add-zero, add_comm, add-mul, mul_assoc, mod-lt, mod-add-div, mul-mod_left, add-mul-mod_self_left, mul-div-mul_right}
use native.Mathlib.Omega.{arith}
use lib.Arith.{digits_lt}
use lib.Pow.{pow_pos, pow-add, shl-shr, shr_lt, mod-pow-add}

mod_mul_mod : (a b n : ℕ) → a % n * b % n ≡ a * b % n
mod_mul_mod a b n =
    let all : a % n * b + n * (a / n * b) ≡ a * b = rw (← mul_assoc, ← add-mul, mod-add-div) in
    sym (add-mul-mod_self_left (a % n * b) n (a / n * b)) ∙ ap (λ (x : ℕ). x % n) all

-- by a, and then by what is left of l
pub shift_more : (x y a l n : ℕ) → a ≤ l → y ≡ x * 2 ^ a % n → y * 2 ^ (l - a) % n ≡ x * 2 ^ l % n
shift_more x y a l n h e =
    let sum : a + (l - a) ≡ l = omega arith in
    let power : 2 ^ a * 2 ^ (l - a) ≡ 2 ^ l = sym (rw sum at (pow-add 2 a (l - a))) in
    rw e (mod_mul_mod (x * 2 ^ a) (2 ^ (l - a)) n ∙ rw (mul_assoc, power))

-- by s bits of k
module _ (k s : ℕ) (h : s ≤ k) where
  sum : k - s + s ≡ k
  sum = omega arith

  whole : 2 ^ k ≡ 2 ^ (k - s) * 2 ^ s
  whole = rw sum at (pow-add 2 (k - s) s)

  -- of the digit below, its s highest bits move in
  pub shift_in : (v : ℕ) → v / 2 ^ (k - s) ≡ v * 2 ^ s / 2 ^ k
  shift_in v = rw whole (sym (mul-div-mul_right v (2 ^ (k - s)) (pow_pos s)))

  -- and there is room for them below the digit's own
  pub shift_fits : (w v : ℕ) → v < 2 ^ k → w * 2 ^ s % 2 ^ k + v / 2 ^ (k - s) < 2 ^ k
  shift_fits w v l =
      let own : w * 2 ^ s % 2 ^ k ≡ w % 2 ^ (k - s) * 2 ^ s =
      (rw sum at (mod-pow-add (w * 2 ^ s) (k - s) s)) ∙ rw (shl-shr, mul-mod_left) (add-zero _) in
      let below : v / 2 ^ (k - s) < 2 ^ s = shr_lt s (k - s) (rw (add_comm s (k - s), sum) l) in
      rw (own, whole) (digits_lt (mod-lt w (pow_pos (k - s))) below)
