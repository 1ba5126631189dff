-- What is printed is read so: a line of a value, whatever stands behind it, gives the value and what stands behind it.
-- Assumes nothing.
use mathlib.Core.Path.{◌≡◌, refl, sym, ap, ◌∙◌}
use mathlib.Core.Bool.{true}
use mathlib.Core.List.{List, [], ◌∷◌, ◌++◌, append_assoc}
use Prim.Native.Nat.{ℕ, zero, suc, ◌+◌, ◌*◌, ◌-◌, ◌/◌, ◌%◌, ◌^◌, ◌≤◌, ◌<◌}
use native.Mathlib.Decide.{dec_lt}
use native.Mathlib.Nat.{pow-suc, mod-eq_of_lt}
use native.Mathlib.Omega.{arith}
use borrow.Author.Tests.{lt-ltb, le-ltb, le-leb, lt-leb, ne_eqb}
use lib.Seq.{append_snoc, take-append_seam, drop-append_seam}
use Rattle.octets.specs.Octets.{Bytes, bytes_of}
use Rattle.octets.proofs.Same.{same_refl}
use Rattle.octets.proofs.BigEndian.{length_bytes, bytes_small, number_bytes}
use Rattle.text.specs.Text.{decimal_in, decimal_of, glyph, hex_of, decimal_line, hex_line}
use Rattle.text.proofs.Decimals.{small, large}
use Rattle.text.specs.Reading.{Read, got, named, is_digit, may_follow, is_hex, value_of, read_digits, read_decimal, read_hex, read_decimal_line, read_hex_line, read_bytes_line, read_number_line}
use Rattle.text.proofs.ReadDecimals.{followed}
use Rattle.text.proofs.ByteLines.{this_count, a_number}

-- ---- a decimal

a_digit : (x : ℕ) → x < 10 → is_digit (48 + x) ≡ true
a_digit x h = rw (le-leb 48 (48 + x) (omega arith), le-leb (48 + x) 57 (omega arith))

first_digit : (x : ℕ) (l : List ℕ) → x < 10 → read_decimal ((48 + x) ∷ l) ≡ read_digits x l
unfolding read_decimal
first_digit x l h =
    let back : 48 + x - 48 ≡ x = omega arith in
    rw (a_digit x h, back)

next_digit : (x : ℕ) (l : List ℕ) → 10 ≤ x → x < 2 ^ 64 → read_digits (x / 10) ((48 + x % 10) ∷ l) ≡ read_digits x l
unfolding read_digits
next_digit x l h k =
    let c : ℕ = 48 + x % 10 in
    let whole : x / 10 * 10 + (48 + x % 10 - 48) ≡ x = omega arith in
    let more : may_follow (x / 10) (48 + x % 10) ≡ true = sym (followed (x / 10) (48 + x % 10) (a_digit (x % 10) (omega arith)) (λ z. omega arith) (omega arith)) in
    rw (ne_eqb (48 + x % 10) 10 (λ z. omega arith), more, whole)

digits_forward : (n x : ℕ) (l : List ℕ) → x < 10 ^ suc n → x < 2 ^ 64 → read_decimal (decimal_in (suc n) x ++ l) ≡ read_digits x l
digits_forward zero x l h k = rw (small 0 x (omega arith)) (first_digit x l (omega arith))
digits_forward (suc n) x l h k = go (dec_lt x 10) (digits_forward n (x / 10) ((48 + x % 10) ∷ l) (omega (arith, pow-suc 10 (suc n))) (omega arith))
  where
    go : Dec (x < 10) → read_decimal (decimal_in (suc n) (x / 10) ++ ((48 + x % 10) ∷ l)) ≡ read_digits (x / 10) ((48 + x % 10) ∷ l)
        → read_decimal (decimal_in (suc (suc n)) x ++ l) ≡ read_digits x l
    go (yes j) e = rw (small (suc n) x j) (first_digit x l j)
    go (no j) e = rw (large (suc n) x (omega arith), append_snoc (decimal_in (suc n) (x / 10)) (48 + x % 10) l) (e ∙ next_digit x l (omega arith) k)

decimal_forward : (x : ℕ) (rest : List ℕ) → x < 2 ^ 64 → read_decimal (decimal_of x ++ (10 ∷ rest)) ≡ got x rest
unfolding read_digits
decimal_forward x rest h = digits_forward 19 x (10 ∷ rest) (omega arith) h

-- ---- bytes in hex

-- a digit in hex, as it is read
record Digit (d c : ℕ) : Type 0 where
  other : c ≡ 10 → ⊥
  hex : is_hex c ≡ true
  value : value_of c ≡ d

glyph_back : (d : ℕ) → d < 16 → Digit d (glyph d)
glyph_back d h = go (dec_lt d 10)
  where
    go : Dec (d < 10) → Digit d (glyph d)
    go (yes j) = rw (lt-ltb d 10 j) (record {
      other = λ z. omega arith;
      hex = rw (a_digit d j);
      value = rw (le-leb (48 + d) 57 (omega arith)) (omega arith);
    })
    go (no j) = rw (le-ltb d 10 (omega arith)) (record {
      other = λ z. omega arith;
      hex = rw (le-leb 48 (87 + d) (omega arith), lt-leb (87 + d) 57 (omega arith), le-leb 97 (87 + d) (omega arith), le-leb (87 + d) 102 (omega arith));
      value = rw (lt-leb (87 + d) 57 (omega arith)) (omega arith);
    })

pair_forward : (x : ℕ) (u l rest : List ℕ) → x < 256 → read_hex l ≡ got u rest → read_hex (glyph (x / 16) ∷ glyph (x % 16) ∷ l) ≡ got (x ∷ u) rest
unfolding read_hex
pair_forward x u l rest h e =
    let p = glyph_back (x / 16) (omega arith) in
    let q = glyph_back (x % 16) (omega arith) in
    let whole : x / 16 * 16 + x % 16 ≡ x = omega arith in
    rw (ne_eqb (glyph (x / 16)) 10 p.other, p.hex, q.hex, p.value, q.value, e, whole)

feed_forward : (rest : List ℕ) → read_hex (10 ∷ rest) ≡ got [] rest
unfolding read_hex
feed_forward [] = refl
feed_forward (b ∷ l) = refl

hex_forward : (u rest : List ℕ) → Bytes u → read_hex (hex_of u ++ (10 ∷ rest)) ≡ got u rest
unfolding hex_of
hex_forward [] rest b = feed_forward rest
hex_forward (x ∷ u) rest b = pair_forward x u (hex_of u ++ (10 ∷ rest)) rest (b zero) (hex_forward u rest (λ i. b (suc i)))

-- ---- lines

module _ (name rest : List ℕ) where
  behind : {A : Type 0} (f : List ℕ → Read A) (l : List ℕ) → named name f (name ++ l) ≡ f l
  behind f l = rw (take-append_seam name l, same_refl name, drop-append_seam name l)

  grouped : (l : List ℕ) → (name ++ l ++ (10 ∷ [])) ++ rest ≡ name ++ (l ++ (10 ∷ rest))
  grouped l = simp append_assoc

  pub decimal_line_read : (x : ℕ) → x < 2 ^ 64 → read_decimal_line name (decimal_line name x ++ rest) ≡ got x rest
  unfolding read_decimal_line
  decimal_line_read x h = rw (grouped (decimal_of x)) (behind read_decimal (decimal_of x ++ (10 ∷ rest)) ∙ decimal_forward x rest h)

  pub hex_line_read : (u : List ℕ) → Bytes u → read_hex_line name (hex_line name u ++ rest) ≡ got u rest
  unfolding read_hex_line
  hex_line_read u b = rw (grouped (hex_of u)) (behind read_hex (hex_of u ++ (10 ∷ rest)) ∙ hex_forward u rest b)

  pub bytes_line : (n x : ℕ) → read_bytes_line name n (hex_line name (bytes_of n x) ++ rest) ≡ got (bytes_of n x) rest
  bytes_line n x = this_count name (hex_line name (bytes_of n x) ++ rest) n (hex_line_read (bytes_of n x) (bytes_small n x)) (length_bytes n x)

  pub number_line : (n x : ℕ) → x < 2 ^ (8 * n) → read_number_line name n (hex_line name (bytes_of n x) ++ rest) ≡ got x rest
  number_line n x h =
      a_number name (hex_line name (bytes_of n x) ++ rest) n (bytes_line n x)
      ∙ ap (λ (y : ℕ). got y rest) (number_bytes n x ∙ mod-eq_of_lt h)
