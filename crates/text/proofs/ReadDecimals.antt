-- Reading a decimal, byte by byte: the line feed, a byte that may not follow, a digit more, and the end of the text; and the name of a line.
-- Assumes nothing.
use mathlib.Core.Path.{◌≡◌, refl, sym, ap, ◌∙◌}
use mathlib.Core.Bool.{Bool, true, false, cond, ◌&&◌, not}
use mathlib.Core.List.{List, [], ◌∷◌, ◌++◌}
use Prim.Native.Nat.{ℕ, ◌+◌, ◌*◌, ◌-◌, ◌≤◌, ◌<◌}
use native.Mathlib.Numerals.{add-one}
use native.Mathlib.Omega.{arith}
use borrow.Author.Tests.{eq-eqb, ne_eqb, le-leb, leb-true, eqb-false, not-true}
use lib.Dec.{eqb, leb}
use lib.ListN.{length, get_or, take, drop, take-append-drop, drop_of_length-le, length-take, length-drop}
use lib.Pointwise.{pointwise}
use lib.Seq.{drop-cons}
use Rattle.std.specs.Prelude.{Some, None}
use Rattle.numbers.proofs.Tests.{and_left, and_right}
use Rattle.octets.specs.Octets.{same}
use Rattle.octets.proofs.Same.{same_true, same_is}
use Rattle.text.specs.Reading.{Read, failed, got, named, is_digit, may_follow, read_digits, read_decimal, greatest_decimal}
use Rattle.text.specs.Found.{next_of}

-- a digit that may follow, and one that may not
none_next : (x c : ℕ) → None ≡ next_of x c → may_follow x c ≡ false
none_next x c e = by (may_follow x c) refl e
  where
    by : (b : Bool) → may_follow x c ≡ b → None ≡ cond b (Some (x * 10 + (c - 48))) None → may_follow x c ≡ false
    by true p q = cc
    by false p q = p

some_next : (x c y : ℕ) → Some y ≡ next_of x c → (may_follow x c ≡ true) × (y ≡ x * 10 + (c - 48))
some_next x c y e = by (may_follow x c) refl e
  where
    by : (b : Bool) → may_follow x c ≡ b → Some y ≡ cond b (Some (x * 10 + (c - 48))) None → (may_follow x c ≡ true) × (y ≡ x * 10 + (c - 48))
    by true p q = (p, cc)
    by false p q = cc

module _ (text : List ℕ) (x i : ℕ) (h : i < length text) where
  next : read_digits x (drop i text) ≡ read_digits x (get_or text i 0 ∷ drop (i + 1) text)
  next = rw (drop-cons text i 0 h, add-one)

  pub ends : get_or text i 0 ≡ 10 → read_digits x (drop i text) ≡ got x (drop (i + 1) text)
  unfolding read_digits
  ends e = next ∙ rw (eq-eqb (get_or text i 0) 10 e)

  module _ (other : get_or text i 0 ≡ 10 → ⊥) where
    pub stops : None ≡ next_of x (get_or text i 0) → read_digits x (drop i text) ≡ failed
    unfolding read_digits
    stops e = next ∙ rw (ne_eqb (get_or text i 0) 10 other, none_next x (get_or text i 0) e)

    pub goes : {y : ℕ} → Some y ≡ next_of x (get_or text i 0) → read_digits x (drop i text) ≡ read_digits y (drop (i + 1) text)
    unfolding read_digits
    goes {y} e =
        let n = some_next x (get_or text i 0) y e in
        next ∙ rw (ne_eqb (get_or text i 0) 10 other, n.0, n.1)

pub past : (text : List ℕ) (x i : ℕ) → length text ≤ i → read_digits x (drop i text) ≡ failed
unfolding read_digits
past text x i h = rw (drop_of_length-le text {i = i} h)

-- what a digit that may follow says
pub record Follows (x c : ℕ) : Type 0 where
  pub low : 48 ≤ c
  pub high : c ≤ 57
  pub more : x ≡ 0 → ⊥
  pub fits : x * 10 + (c - 48) ≤ greatest_decimal

pub digit : (c : ℕ) → is_digit c ≡ true → (48 ≤ c) × (c ≤ 57)
digit c e = (leb-true 48 c (and_left (leb 48 c) (leb c 57) e), leb-true c 57 (and_right (leb 48 c) (leb c 57) e))

pub followed : (x c : ℕ) → is_digit c ≡ true → (x ≡ 0 → ⊥) → x * 10 + (c - 48) ≤ greatest_decimal → true ≡ may_follow x c
followed x c d n h = sym (rw (d, ne_eqb x 0 n, le-leb (x * 10 + (c - 48)) greatest_decimal h))

pub follows : (x c : ℕ) → may_follow x c ≡ true → Follows x c
follows x c e =
    let front = and_left (is_digit c && not (eqb x 0)) (leb (x * 10 + (c - 48)) greatest_decimal) e in
    let d = digit c (and_left (is_digit c) (not (eqb x 0)) front) in record {
      low = d.0;
      high = d.1;
      more = eqb-false x 0 (not-true (eqb x 0) (and_right (is_digit c) (not (eqb x 0)) front));
      fits = leb-true _ _ (and_right (is_digit c && not (eqb x 0)) (leb (x * 10 + (c - 48)) greatest_decimal) e);
    }

-- ---- a line

module _ (name text : List ℕ) {A : Type 0} (f : List ℕ → Read A) where
  pub other_name : pointwise eqb (take (length name) text) name ≡ false → failed ≡ named name f text
  other_name e = sym (rw (← same_is (take (length name) text) name, e))

  pub this_name : {rest : List ℕ} → pointwise eqb (take (length name) text) name ≡ true → rest ≡ drop (length name) text → f rest ≡ named name f text
  this_name e r = sym (rw (← same_is (take (length name) text) name, e, ← r))

-- behind the name is what is left
pub begins : (name text : List ℕ) {rest : List ℕ} → pointwise eqb (take (length name) text) name ≡ true → rest ≡ drop (length name) text → name ++ rest ≡ text
begins name text e r =
    let front = take (length name) text in
    ap (λ (m : List ℕ). name ++ m) r
    ∙ ap (λ (m : List ℕ). m ++ drop (length name) text) (sym (same_true front name (sym (same_is front name) ∙ e)))
    ∙ take-append-drop (length name) text

-- a name that stands there has room there
module _ (name text : List ℕ) (at : ℕ) where
  pub room : at ≤ length text → same (take (length name) (drop at text)) name ≡ true → at + length name ≤ length text
  room h e =
      let long = ap length (same_true (take (length name) (drop at text)) name e) in
      omega (arith, length-take (length name) (drop at text), length-drop at text, long)

pub no_more : (l : List ℕ) → length l ≡ 0 → failed ≡ read_decimal l
unfolding read_decimal
no_more [] e = refl
no_more (c ∷ l) e = absurd (omega arith)

module _ {l rest : List ℕ} {c : ℕ} (first : l ≡ c ∷ rest) where
  pub no_digit : false ≡ is_digit c → failed ≡ read_decimal l
  unfolding read_decimal
  no_digit e = sym (rw (first, ← e))

  pub a_digit : true ≡ is_digit c → read_digits (c - 48) rest ≡ read_decimal l
  unfolding read_decimal
  a_digit e = sym (rw (first, ← e))
