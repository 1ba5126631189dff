-- The bytes that digits in hex write: how many, of two stretches, of a part, and that they are bytes.
-- Assumes nothing.
use mathlib.Core.Path.{◌≡◌, refl, sym, ap, ◌∙◌}
use mathlib.Core.List.{List, [], ◌∷◌, ◌++◌}
use Prim.Native.Nat.{ℕ, zero, suc, ◌+◌, ◌*◌, ◌/◌, ◌%◌, ◌<◌, ◌≤◌}
use native.Mathlib.Omega.{arith}
use lib.ListN.{length, get_or, take, drop, length-append, length-take, length-drop, get_or-append}
use lib.Seq.{get_or-drop, get_or-take, drop-drop, take_all}
use Rattle.std.proofs.lemmas.List.{get_or-append-add}
use Rattle.octets.specs.Octets.{Bytes, part}
use Rattle.octets.proofs.Parts.{length_part}
use Rattle.text.specs.Reading.{is_hex, value_of}
use Rattle.text.specs.Found.{unhexed, Digits}
use Rattle.text.proofs.ReadPrinted.{hex_digit, no_bytes, one_byte}

pub length_unhexed : (l : List ℕ) → length (unhexed l) ≡ length l / 2
unfolding unhexed
length_unhexed [] = refl
length_unhexed (a ∷ []) = refl
length_unhexed (a ∷ b ∷ l) = omega (arith, length_unhexed l)

pub two_digits : (pair : List ℕ) → length pair ≡ 2 → unhexed pair ≡ (value_of (get_or pair 0 0) * 16 + value_of (get_or pair 1 0)) ∷ []
unfolding unhexed
two_digits [] e = absurd (omega arith)
two_digits (a ∷ []) e = absurd (omega arith)
two_digits (a ∷ b ∷ []) e = refl
two_digits (a ∷ b ∷ c ∷ l) e = absurd (omega arith)

unhexed_append : (u l : List ℕ) → length u % 2 ≡ 0 → unhexed (u ++ l) ≡ unhexed u ++ unhexed l
unfolding unhexed
unhexed_append [] l e = refl
unhexed_append (a ∷ []) l e = absurd (omega arith)
unhexed_append (a ∷ b ∷ u) l e = ap (λ (v : List ℕ). (value_of a * 16 + value_of b) ∷ v) (unhexed_append u l (omega arith))

unhexed_drop : (n : ℕ) (l : List ℕ) → unhexed (drop (2 * n) l) ≡ drop n (unhexed l)
unfolding unhexed
unhexed_drop zero l = refl
unhexed_drop (suc n) [] = let two : 2 * suc n ≡ suc (suc (2 * n)) = omega arith in rw two
unhexed_drop (suc n) (a ∷ []) = let two : 2 * suc n ≡ suc (suc (2 * n)) = omega arith in rw two
unhexed_drop (suc n) (a ∷ b ∷ l) = let two : 2 * suc n ≡ suc (suc (2 * n)) = omega arith in rw two (unhexed_drop n l)

unhexed_take : (n : ℕ) (l : List ℕ) → unhexed (take (2 * n) l) ≡ take n (unhexed l)
unfolding unhexed
unhexed_take zero l = refl
unhexed_take (suc n) [] = let two : 2 * suc n ≡ suc (suc (2 * n)) = omega arith in rw two
unhexed_take (suc n) (a ∷ []) = let two : 2 * suc n ≡ suc (suc (2 * n)) = omega arith in rw two
unhexed_take (suc n) (a ∷ b ∷ l) =
    let two : 2 * suc n ≡ suc (suc (2 * n)) = omega arith in
    rw two (ap (λ (v : List ℕ). (value_of a * 16 + value_of b) ∷ v) (unhexed_take n l))

pub unhexed_part : (at n : ℕ) (l : List ℕ) → unhexed (part (2 * at) (2 * n) l) ≡ part at n (unhexed l)
unhexed_part at n l = unhexed_take n (drop (2 * at) l) ∙ ap (take n) (unhexed_drop at l)

-- all that the digits of a list write, by their number
pub unhexed_all : (n : ℕ) (l : List ℕ) → n ≡ length (unhexed l) → unhexed (part 0 (2 * n) l) ≡ unhexed l
unhexed_all n l e = unhexed_part 0 n l ∙ take_all n (unhexed l) (omega (arith, e))

-- n pairs of digits at a place write n bytes
pub length_unhexed_part : (at n : ℕ) (l : List ℕ) → at + 2 * n ≤ length l → length (unhexed (part at (2 * n) l)) ≡ n
length_unhexed_part at n l h = omega (arith, length_unhexed (part at (2 * n) l), length_part at (2 * n) l h)

pub unhexed_bytes : (l : List ℕ) → Digits l → Bytes (unhexed l)
unfolding unhexed
unhexed_bytes [] d = no_bytes
unhexed_bytes (a ∷ []) d = no_bytes
unhexed_bytes (a ∷ b ∷ l) d =
    let p = (hex_digit a (d 0 0 (omega arith))).1 in
    let q = (hex_digit b (d 1 0 (omega arith))).1 in
    one_byte (value_of a * 16 + value_of b) (unhexed l) (omega arith) (unhexed_bytes l (λ k x h. d (suc (suc k)) x (omega arith)))

pub digits_part : (at n : ℕ) (l : List ℕ) → Digits l → Digits (part at n l)
digits_part at n l d k x h =
    ap is_hex (get_or-take n (drop at l) k x (omega (arith, length-take n (drop at l))) ∙ get_or-drop at l k x)
    ∙ d (at + k) x (omega (arith, length-take n (drop at l), length-drop at l))

-- what is left, the pair that comes next, and what is left then
pub record Pair (rest pair after : List ℕ) : Type 0 where
  pub cut : rest ≡ pair ++ after
  pub two : length pair ≡ 2

module _ {rest pair after : List ℕ} (p : Pair rest pair after) where
  pub pair_digits : Digits rest → Digits pair
  pair_digits d k x h =
      ap is_hex (sym (ap (λ (l : List ℕ). get_or l k x) p.cut ∙ get_or-append pair after x k h))
      ∙ d k x (omega (arith, ap length p.cut, length-append pair after))

  pub digits_after : Digits rest → Digits after
  digits_after d k x h =
      ap is_hex (sym (ap (λ (l : List ℕ). get_or l (length pair + k) x) p.cut ∙ get_or-append-add pair after k x))
      ∙ d (length pair + k) x (omega (arith, ap length p.cut, length-append pair after))

  pub pair_ahead : {x : ℕ} → unhexed pair ≡ x ∷ [] → unhexed rest ≡ x ∷ unhexed after
  pair_ahead e =
      let two = p.two in
      ap unhexed p.cut ∙ unhexed_append pair after (omega arith) ∙ ap (λ (u : List ℕ). u ++ unhexed after) e

  pub length_after : length rest ≡ length after + 2
  length_after = omega (arith, ap length p.cut, length-append pair after, p.two)

-- a lone digit writes nothing
pub nothing_left : (l : List ℕ) → length l < 2 → unhexed l ≡ []
unfolding unhexed
nothing_left [] h = refl
nothing_left (a ∷ []) h = refl
nothing_left (a ∷ b ∷ l) h = absurd (omega arith)

-- of a list of which n are passed, the next, and what is left then
pub record Next (l : List ℕ) (n x : ℕ) (after : List ℕ) : Type 0 where
  pub left : x ∷ after ≡ drop n l

module _ {l : List ℕ} {n x : ℕ} {after : List ℕ} (next : Next l n x after) where
  pub next_is : get_or l n 0 ≡ x
  next_is = ap (λ (k : ℕ). get_or l k 0) (omega arith) ∙ sym (get_or-drop n l 0 0) ∙ ap (λ (m : List ℕ). get_or m 0 0) (sym next.left)

  pub after_is : after ≡ drop (suc n) l
  after_is = ap (λ (m : List ℕ). drop 1 m) next.left ∙ drop-drop 1 n l ∙ ap (λ (k : ℕ). drop k l) {y = suc n} (omega arith)
