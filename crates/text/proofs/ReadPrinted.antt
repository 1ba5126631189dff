-- What is read was printed so: the text before what is left is the line of the values that were read.
-- Assumes nothing.
use mathlib.Core.Path.{◌≡◌, refl, sym, ap, subst, ◌∙◌}
use mathlib.Core.Bool.{Bool, true, false, cond, ◌&&◌, ◌||◌}
use mathlib.Core.List.{List, [], ◌∷◌, ◌++◌, append_assoc}
use Prim.Native.Nat.{ℕ, zero, suc, ◌+◌, ◌*◌, ◌-◌, ◌/◌, ◌%◌, ◌≤◌, ◌<◌, ◌^◌}
use native.Mathlib.Omega.{arith}
use borrow.Author.Tests.{eqb-true, leb-true, lt-ltb, le-ltb, le-leb, lt-leb}
use lib.Dec.{eqb, leb, lit<}
use lib.ListN.{length, take, drop, take-append-drop}
use lib.Seq.{append_snoc, take_all}
use Rattle.numbers.proofs.Tests.{and_left, and_right}
use Rattle.octets.specs.Octets.{Bytes, big_endian, bytes_of, same}
use Rattle.octets.proofs.BigEndian.{bytes_number, number_lt}
use Rattle.octets.proofs.Same.{same_true}
use Rattle.text.specs.Text.{decimal_of, glyph, hex_of, decimal_line, hex_line}
use Rattle.text.proofs.Decimals.{small, next_digit}
use Rattle.text.specs.Reading.{Read, failed, got, named, is_digit, greatest_decimal, may_follow, is_hex, value_of, with_first, read_digits, read_decimal, read_hex, read_decimal_line, read_hex_line, read_bytes_line, read_number_line, and_then}
use Rattle.text.proofs.ReadDecimals.{digit, follows}

-- what was read is of values and text as they are
pub got_value : {A : Type 0} {x y : A} {l m : List ℕ} → got x l ≡ got y m → x ≡ y
got_value e = cc

pub got_rest : {A : Type 0} {x y : A} {l m : List ℕ} → got x l ≡ got y m → l ≡ m
got_rest e = cc

pub never : {A : Type 0} {B : Type 0} {y : A} {m : List ℕ} → failed ≡ got y m → B
never e = absurd (let z : ◌≡◌ {A = ℕ} 0 1 = cc in omega arith)

-- a value that was read on the way, and the text behind it
pub record Through (A B : Type 0) (o : Read A) (f : A → List ℕ → Read B) (y : B) (rest : List ℕ) : Type 0 where
  pub value : A
  pub left : List ℕ
  pub is : o ≡ got value left
  pub next : f value left ≡ got y rest

pub through : {A B : Type 0} (o : Read A) (f : A → List ℕ → Read B) (y : B) (rest : List ℕ) → and_then o f ≡ got y rest → Through A B o f y rest
through failed f y rest e = never e
through (got x l) f y rest e = record { value = x; left = l; is = refl; next = e }

-- ---- a digit in hex

small_digit : (c : ℕ) → is_digit c ≡ true → (glyph (value_of c) ≡ c) × (value_of c < 16)
small_digit c e =
    let d = digit c e in
    let low : 48 ≤ c = d.0 in
    let high : c ≤ 57 = d.1 in
    rw (le-leb c 57 high) (rw (lt-ltb (c - 48) 10 (omega arith)) (omega arith), omega arith)

letter : (c : ℕ) → (leb 97 c && leb c 102) ≡ true → (glyph (value_of c) ≡ c) × (value_of c < 16)
letter c e =
    let low : 97 ≤ c = leb-true 97 c (and_left (leb 97 c) (leb c 102) e) in
    let high : c ≤ 102 = leb-true c 102 (and_right (leb 97 c) (leb c 102) e) in
    rw (lt-leb c 57 (omega arith)) (rw (le-ltb (c - 87) 10 (omega arith)) (omega arith), omega arith)

pub hex_digit : (c : ℕ) → is_hex c ≡ true → (glyph (value_of c) ≡ c) × (value_of c < 16)
hex_digit c e = go (is_digit c) refl e
  where
    go : (x : Bool) → is_digit c ≡ x → (x || (leb 97 c && leb c 102)) ≡ true → (glyph (value_of c) ≡ c) × (value_of c < 16)
    go true p q = small_digit c p
    go false p q = letter c q

-- ---- bytes in hex

-- the digits of the bytes and a line feed stand before the rest
pub record HexBack (l u rest : List ℕ) : Type 0 where
  pub is : l ≡ hex_of u ++ (10 ∷ rest)
  pub bytes : Bytes u

pub no_bytes : Bytes []
no_bytes i = lit< tt

pub one_byte : (x : ℕ) (u : List ℕ) → x < 256 → Bytes u → Bytes (x ∷ u)
one_byte x u h b zero = h
one_byte x u h b (suc i) = b i

feed_back : (a : ℕ) (l u rest : List ℕ) → a ≡ 10 → got [] l ≡ got u rest → HexBack (a ∷ l) u rest
unfolding hex_of
feed_back a l u rest e g =
    subst (λ (v : List ℕ). HexBack (a ∷ l) v rest) (got_value g)
    (subst (λ (m : List ℕ). HexBack (a ∷ l) [] m) (got_rest g) (record { is = ap (λ (x : ℕ). x ∷ l) e; bytes = no_bytes }))

pair_back : (a b : ℕ) (l u rest : List ℕ) → is_hex a ≡ true → is_hex b ≡ true → HexBack l u rest
    → HexBack (a ∷ b ∷ l) ((value_of a * 16 + value_of b) ∷ u) rest
unfolding hex_of
pair_back a b l u rest e f h =
    let p = hex_digit a e in
    let q = hex_digit b f in
    let high : value_of a < 16 = p.1 in
    let low : value_of b < 16 = q.1 in
    let x : ℕ = value_of a * 16 + value_of b in
    let upper : x / 16 ≡ value_of a = omega arith in
    let lower : x % 16 ≡ value_of b = omega arith in
    let first : glyph (x / 16) ≡ a = ap glyph upper ∙ p.0 in
    let second : glyph (x % 16) ≡ b = ap glyph lower ∙ q.0 in
    record { is = ap (λ (m : List ℕ). a ∷ b ∷ m) h.is ∙ sym (rw (first, second)); bytes = one_byte x u (omega arith) h.bytes }

pub hex_back : (l u rest : List ℕ) → read_hex l ≡ got u rest → HexBack l u rest
unfolding read_hex
hex_back [] u rest e = never e
hex_back (a ∷ []) u rest e = go (eqb a 10) refl e
  where
    go : (x : Bool) → eqb a 10 ≡ x → cond x (got [] []) failed ≡ got u rest → HexBack (a ∷ []) u rest
    go true p q = feed_back a [] u rest (eqb-true a 10 p) q
    go false p q = never q
hex_back (a ∷ b ∷ l) u rest e = go (eqb a 10) refl e (hex_back l)
  where
    more : (o : Read (List ℕ)) → ((v m : List ℕ) → o ≡ got v m → HexBack l v m) → is_hex a ≡ true → is_hex b ≡ true
        → with_first (value_of a * 16 + value_of b) o ≡ got u rest → HexBack (a ∷ b ∷ l) u rest
    more failed back p q e = never e
    more (got v m) back p q e =
        subst (λ (w : List ℕ). HexBack (a ∷ b ∷ l) w rest) (got_value e)
        (subst (λ (n : List ℕ). HexBack (a ∷ b ∷ l) ((value_of a * 16 + value_of b) ∷ v) n) (got_rest e) (pair_back a b l v m p q (back v m refl)))

    pair : (x : Bool) → (is_hex a && is_hex b) ≡ x → cond x (with_first (value_of a * 16 + value_of b) (read_hex l)) failed ≡ got u rest
        → ((v m : List ℕ) → read_hex l ≡ got v m → HexBack l v m) → HexBack (a ∷ b ∷ l) u rest
    pair true p q back = more (read_hex l) back (and_left (is_hex a) (is_hex b) p) (and_right (is_hex a) (is_hex b) p) q
    pair false p q back = never q

    go : (x : Bool) → eqb a 10 ≡ x
        → cond x (got [] (b ∷ l)) (cond (is_hex a && is_hex b) (with_first (value_of a * 16 + value_of b) (read_hex l)) failed) ≡ got u rest
        → ((v m : List ℕ) → read_hex l ≡ got v m → HexBack l v m) → HexBack (a ∷ b ∷ l) u rest
    go true p q back = feed_back a (b ∷ l) u rest (eqb-true a 10 p) q
    go false p q back = pair (is_hex a && is_hex b) refl q back

-- ---- a decimal

-- the digits of the number and a line feed stand before the rest
pub record DecimalBack (l : List ℕ) (x : ℕ) (rest : List ℕ) : Type 0 where
  pub is : l ≡ decimal_of x ++ (10 ∷ rest)
  pub small : x < 2 ^ 64

digits_back : (x : ℕ) (l : List ℕ) (y : ℕ) (rest : List ℕ) → x < 2 ^ 64 → read_digits x l ≡ got y rest → DecimalBack (decimal_of x ++ l) y rest
unfolding read_digits
digits_back x [] y rest h e = never e
digits_back x (c ∷ l) y rest h e = go (eqb c 10) refl e (digits_back (x * 10 + (c - 48)) l y rest)
  where
    more : (b : Bool) → may_follow x c ≡ b → cond b (read_digits (x * 10 + (c - 48)) l) failed ≡ got y rest
        → (x * 10 + (c - 48) < 2 ^ 64 → read_digits (x * 10 + (c - 48)) l ≡ got y rest → DecimalBack (decimal_of (x * 10 + (c - 48)) ++ l) y rest)
        → DecimalBack (decimal_of x ++ (c ∷ l)) y rest
    more false p q back = never q
    more true p q back =
        let f = follows x c p in
        let low : 48 ≤ c = f.low in
        let high : c ≤ 57 = f.high in
        let fits : x * 10 + (c - 48) ≤ greatest_decimal = f.fits in
        let some : 1 ≤ x = omega (arith, f.more) in
        let b = back (omega arith) q in
        let tenth : (x * 10 + (c - 48)) / 10 ≡ x = omega arith in
        let last : 48 + (x * 10 + (c - 48)) % 10 ≡ c = omega arith in
        let text : decimal_of (x * 10 + (c - 48)) ≡ decimal_of x ++ (c ∷ []) =
        next_digit (x * 10 + (c - 48)) (omega arith) (omega arith) ∙ rw (tenth, last) in
        record { is = sym (append_snoc (decimal_of x) c l) ∙ ap (λ (t : List ℕ). t ++ l) (sym text) ∙ b.is; small = b.small }

    go : (b : Bool) → eqb c 10 ≡ b → cond b (got x l) (cond (may_follow x c) (read_digits (x * 10 + (c - 48)) l) failed) ≡ got y rest
        → (x * 10 + (c - 48) < 2 ^ 64 → read_digits (x * 10 + (c - 48)) l ≡ got y rest → DecimalBack (decimal_of (x * 10 + (c - 48)) ++ l) y rest)
        → DecimalBack (decimal_of x ++ (c ∷ l)) y rest
    go true p q back =
        subst (λ (z : ℕ). DecimalBack (decimal_of x ++ (c ∷ l)) z rest) (got_value q)
        (subst (λ (m : List ℕ). DecimalBack (decimal_of x ++ (c ∷ l)) x m) (got_rest q)
        (record { is = ap (λ (d : ℕ). decimal_of x ++ (d ∷ l)) (eqb-true c 10 p); small = h }))
    go false p q back = more (may_follow x c) refl q back

pub decimal_back : (l : List ℕ) (y : ℕ) (rest : List ℕ) → read_decimal l ≡ got y rest → DecimalBack l y rest
unfolding read_decimal
decimal_back [] y rest e = never e
decimal_back (c ∷ l) y rest e = go (is_digit c) refl e
  where
    go : (b : Bool) → is_digit c ≡ b → cond b (read_digits (c - 48) l) failed ≡ got y rest → DecimalBack (c ∷ l) y rest
    go false p q = never q
    go true p q =
        let d = digit c p in
        let low : 48 ≤ c = d.0 in
        let high : c ≤ 57 = d.1 in
        let is : 48 + (c - 48) ≡ c = omega arith in
        let text : decimal_of (c - 48) ≡ c ∷ [] = small 19 (c - 48) (omega arith) ∙ rw is in
        subst (λ (t : List ℕ). DecimalBack (t ++ l) y rest) text (digits_back (c - 48) l y rest (omega arith) q)

-- ---- lines

module _ (name l rest : List ℕ) where
  -- a name stands before what was read behind it
  behind : (A : Type 0) (f : List ℕ → Read A) (y : A) → named name f l ≡ got y rest → (l ≡ name ++ drop (length name) l) × (f (drop (length name) l) ≡ got y rest)
  behind A f y e = go (same (take (length name) l) name) refl e
    where
      go : (b : Bool) → same (take (length name) l) name ≡ b → cond b (f (drop (length name) l)) failed ≡ got y rest
          → (l ≡ name ++ drop (length name) l) × (f (drop (length name) l) ≡ got y rest)
      go true p q = (sym (take-append-drop (length name) l) ∙ ap (λ (t : List ℕ). t ++ drop (length name) l) (same_true (take (length name) l) name p), q)
      go false p q = never q

  pub hex_line_back : (u : List ℕ) → read_hex_line name l ≡ got u rest → (l ≡ hex_line name u ++ rest) × Bytes u
  unfolding read_hex_line
  hex_line_back u e =
      let b = behind (List ℕ) read_hex u e in
      let h = hex_back (drop (length name) l) u rest b.1 in
      (b.0 ∙ ap (λ (t : List ℕ). name ++ t) h.is ∙ simp append_assoc, h.bytes)

  pub decimal_line_back : (x : ℕ) → read_decimal_line name l ≡ got x rest → (l ≡ decimal_line name x ++ rest) × (x < 2 ^ 64)
  unfolding read_decimal_line
  decimal_line_back x e =
      let b = behind ℕ read_decimal x e in
      let h = decimal_back (drop (length name) l) x rest b.1 in
      (b.0 ∙ ap (λ (t : List ℕ). name ++ t) h.is ∙ simp append_assoc, h.small)

  pub bytes_line_back : (n : ℕ) (u : List ℕ) → read_bytes_line name n l ≡ got u rest → (read_hex_line name l ≡ got u rest) × (length u ≡ n)
  unfolding read_bytes_line
  bytes_line_back n u e = read (read_hex_line name l) refl e
    where
      counted : (v m : List ℕ) (b : Bool) → eqb (length v) n ≡ b → read_hex_line name l ≡ got v m → cond b (got v m) failed ≡ got u rest
          → (read_hex_line name l ≡ got u rest) × (length u ≡ n)
      counted v m true p r q = (r ∙ q, ap length (sym (got_value q)) ∙ eqb-true (length v) n p)
      counted v m false p r q = never q

      read : (o : Read (List ℕ)) → read_hex_line name l ≡ o → and_then o (λ bytes rest. cond (eqb (length bytes) n) (got bytes rest) failed) ≡ got u rest
          → (read_hex_line name l ≡ got u rest) × (length u ≡ n)
      read failed p q = never q
      read (got v m) p q = counted v m (eqb (length v) n) refl p q

  -- so many bytes are those of the number that they write
  pub bytes_back : (n : ℕ) (u : List ℕ) → read_bytes_line name n l ≡ got u rest → l ≡ hex_line name (bytes_of n (big_endian n u)) ++ rest
  bytes_back n u e =
      let b = bytes_line_back n u e in
      let h = hex_line_back u b.0 in
      let same_bytes : bytes_of n (big_endian n u) ≡ u = bytes_number n u (omega (arith, b.1)) h.1 ∙ take_all n u (omega (arith, b.1)) in
      h.0 ∙ ap (λ (w : List ℕ). hex_line name w ++ rest) (sym same_bytes)

pub number_back : (name l rest : List ℕ) (n x : ℕ) → read_number_line name n l ≡ got x rest → l ≡ hex_line name (bytes_of n x) ++ rest
unfolding read_number_line
number_back name l rest n x e =
    let a = through (read_bytes_line name n l) _ x rest e in
    subst (λ (y : ℕ). l ≡ hex_line name (bytes_of n y) ++ rest) (got_value a.next)
    (subst (λ (m : List ℕ). l ≡ hex_line name (bytes_of n (big_endian n a.value)) ++ m) (got_rest a.next) (bytes_back name l a.left n a.value a.is))

-- and small
pub number_small : (name l rest : List ℕ) (n x : ℕ) → read_number_line name n l ≡ got x rest → x < 2 ^ (8 * n)
unfolding read_number_line
number_small name l rest n x e =
    let a = through (read_bytes_line name n l) _ x rest e in
    let bytes = (hex_line_back name l a.left a.value (bytes_line_back name l a.left n a.value a.is).0).1 in
    subst (λ (y : ℕ). y < 2 ^ (8 * n)) (got_value a.next) (number_lt n a.value bytes)
