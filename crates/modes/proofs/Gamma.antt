-- Counter mode: its length, each of its bytes, a block of it, and that it undoes itself.
-- Assumes nothing.
use mathlib.Core.Path.{◌≡◌, refl, ap, ap₂, ◌∙◌}
use mathlib.Core.List.{List, [], ◌∷◌}
use Prim.Native.Nat.{ℕ, zero, suc, ◌+◌, ◌-◌, ◌*◌, ◌≤◌, ◌<◌}
use native.Mathlib.Nat.{zero-add, add-zero, add-suc, suc-add}
use native.Mathlib.Omega.{arith}
use lib.Arith.{digits_div, digits_mod}
use lib.Bits.{bit_xor, xor_lt}
use lib.Dec.{lit<}
use lib.ListN.{length, get_or, take, drop, length-take, length-drop}
use lib.Seq.{paste}
use Rattle.numbers.proofs.Xor.{xor_twice}
use Rattle.octets.specs.Octets.{Bytes, part, put}
use Rattle.octets.proofs.BigEndian.{bytes_small}
use Rattle.octets.proofs.Places.{put_next}
use Rattle.modes.specs.Modes.{byte_of, gamma, masked, counter_mode}

pub length_masked : (g : ℕ → ℕ) (k : ℕ) (xs : List ℕ) → length (masked g k xs) ≡ length xs
unfolding masked
length_masked g k [] = refl
length_masked g k (x ∷ xs) = ap suc (length_masked g (suc k) xs)

masked_from : (g : ℕ → ℕ) (k : ℕ) (xs : List ℕ) (i : ℕ) → i < length xs → get_or (masked g k xs) i 0 ≡ bit_xor (get_or xs i 0) (g (k + i))
unfolding masked
masked_from g k [] i h = absurd (omega arith)
masked_from g k (x ∷ xs) zero h = rw add-zero
masked_from g k (x ∷ xs) (suc i) h = masked_from g (suc k) xs i (omega arith) ∙ rw (add-suc, suc-add)

pub masked_at : (g : ℕ → ℕ) (xs : List ℕ) (i : ℕ) → i < length xs → get_or (masked g 0 xs) i 0 ≡ bit_xor (get_or xs i 0) (g i)
masked_at g xs i h = masked_from g 0 xs i h ∙ rw zero-add

take_masked : (g : ℕ → ℕ) (k m : ℕ) (xs : List ℕ) → take m (masked g k xs) ≡ masked g k (take m xs)
unfolding masked
take_masked g k zero xs = refl
take_masked g k (suc m) [] = refl
take_masked g k (suc m) (x ∷ xs) = rw (take_masked g (suc k) m xs)

drop_masked : (g : ℕ → ℕ) (k n : ℕ) (xs : List ℕ) → drop n (masked g k xs) ≡ masked g (k + n) (drop n xs)
unfolding masked
drop_masked g k zero xs = rw add-zero
drop_masked g k (suc n) [] = refl
drop_masked g k (suc n) (x ∷ xs) = drop_masked g (suc k) n xs ∙ rw (add-suc, suc-add)

-- only what g has for the places of the list counts
same_mask : (g f : ℕ → ℕ) (k j : ℕ) (xs : List ℕ) → ((i : ℕ) → i < length xs → g (k + i) ≡ f (j + i)) → masked g k xs ≡ masked f j xs
unfolding masked
same_mask g f k j [] h = refl
same_mask g f k j (x ∷ xs) h =
    ap₂ (λ (u : ℕ) (v : List ℕ). bit_xor x u ∷ v)
    (simp add-zero at (h 0 (omega arith)))
    (same_mask g f (suc k) (suc j) xs (λ i e. rw (suc-add k i, suc-add j i, ← add-suc k i, ← add-suc j i) (h (suc i) (omega arith))))

bytes_masked : (g : ℕ → ℕ) (k : ℕ) (xs : List ℕ) → ((i : ℕ) → g i < 256) → Bytes xs → Bytes (masked g k xs)
unfolding masked
bytes_masked g k [] hg hx i = lit< tt
bytes_masked g k (x ∷ xs) hg hx zero = xor_lt 8 x (g k) (hx 0) (hg k)
bytes_masked g k (x ∷ xs) hg hx (suc i) = bytes_masked g (suc k) xs hg (λ j. hx (suc j)) i

twice : (g : ℕ → ℕ) (k : ℕ) (xs : List ℕ) → masked g k (masked g k xs) ≡ xs
unfolding masked
twice g k [] = refl
twice g k (x ∷ xs) = rw (xor_twice x (g k), twice g (suc k) xs)

module _ (b : ℕ) (E : ℕ → ℕ) (first : ℕ) (xs : List ℕ) where
  pub counter_length : length (counter_mode b E first xs) ≡ length xs
  unfolding counter_mode
  counter_length = length_masked _ 0 xs

  pub bytes_of_counter : Bytes xs → Bytes (counter_mode b E first xs)
  unfolding counter_mode gamma
  bytes_of_counter h = bytes_masked (gamma b E first) 0 xs (λ i. bytes_small b _ _) h

  -- the same key and the same first counter give the bytes back
  pub counter_twice : counter_mode b E first (counter_mode b E first xs) ≡ xs
  unfolding counter_mode
  counter_twice = twice _ 0 xs

  -- the bytes of block q, or of a part of it, are masked by that block's gamma
  pub in_block : (q m at : ℕ) → q * b ≡ at → m ≤ b → part at m (counter_mode b E first xs) ≡ masked (byte_of b (E (first + q))) 0 (part at m xs)
  unfolding counter_mode gamma
  in_block q m at e h =
      ap (take m) (drop_masked (gamma b E first) 0 at xs)
      ∙ take_masked (gamma b E first) (0 + at) m (drop at xs)
      ∙ same_mask (gamma b E first) (byte_of b (E (first + q))) (0 + at) 0 (part at m xs) λ i k.
      let s : i < b = omega (arith, length-take m (drop at xs)) in
      let p : 0 + at + i ≡ q * b + i = omega arith in
      rw (p, digits_div q s, digits_mod q s, zero-add)

  -- counter mode is written up to `done`, where block q begins, and now that block's bytes, up to `end`
  pub written : (out : List ℕ) (at q done end block : ℕ) → at ≤ length out → q * b ≡ done → done ≤ end → end ≤ done + b → end ≤ length xs → block ≡ E (first + q)
      → put (paste out at (counter_mode b E first xs) done) (at + done) (masked (byte_of b block) 0 (part done (end - done) xs)) ≡ paste out at (counter_mode b E first xs) end
  written out at q done end block room start from to within is =
      let new = counter_mode b E first xs in
      let stretch = masked (byte_of b block) 0 (part done (end - done) xs) in
      let l : length stretch ≡ end - done = length_masked _ 0 (part done (end - done) xs) ∙ rw (length-take, length-drop) (omega arith) in
      let e : done + length stretch ≡ end = omega arith in
      put_next out at done new stretch room (omega (arith, counter_length))
      (rw l (in_block q (end - done) done start (omega arith) ∙ rw (← is)))
      ∙ ap (λ (n : ℕ). paste out at new n) e
