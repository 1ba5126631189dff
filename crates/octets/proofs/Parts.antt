-- Parts of a list, and of a list with other bytes at a place: what stands where.
-- Assumes nothing.
use mathlib.Core.Path.{◌≡◌, refl, sym, ap, ◌∙◌}
use mathlib.Core.List.{List, ◌++◌, append_assoc}
use mathlib.Core.Logic.{⊎_elim, ◌⊎◌}
use Prim.Native.Nat.{ℕ, zero, suc, ◌+◌, ◌-◌, ◌*◌, ◌^◌, ◌≤◌, ◌<◌}
use native.Mathlib.Nat.{add_assoc}
use native.Mathlib.Omega.{arith}
use lib.ListN.{length, get_or, take, drop, length-append, length-drop, take-append-drop, get_or-append}
use lib.Seq.{length-take-le, get_or-append-add, get_or-take, get_or-drop, ext_get_or, take-add, take-take, drop-drop, take-append-le, drop-append-le, drop-append-add, take_at, drop_at}
use Rattle.octets.specs.Octets.{big_endian, bytes_of, part, put}
use Rattle.octets.proofs.BigEndian.{number_there}
use Rattle.octets.proofs.Places.{length_put}

pub length_part : (at n : ℕ) (l : List ℕ) → at + n ≤ length l → length (part at n l) ≡ n
length_part at n l h = length-take-le n (drop at l) (rw length-drop (omega arith))

pub part_at : (at n : ℕ) (l : List ℕ) (i : ℕ) → i < n → get_or (part at n l) i 0 ≡ get_or l (at + i) 0
part_at at n l i h = get_or-take n (drop at l) i 0 h ∙ get_or-drop at l i 0

-- a number reads only its own bytes
pub number_same : (n : ℕ) (x y : List ℕ) → ((i : ℕ) → i < n → get_or x i 0 ≡ get_or y i 0) → big_endian n x ≡ big_endian n y
unfolding big_endian
number_same zero x y h = refl
number_same (suc n) x y h = rw (number_same n x y (λ i k. h i (omega arith)), h n (omega arith))

-- a number in a part stands in the list
pub number_in_part : (at m b n : ℕ) (l : List ℕ) → b + n ≤ m → big_endian n (drop b (part at m l)) ≡ big_endian n (drop (at + b) l)
number_in_part at m b n l h =
    number_same n (drop b (part at m l)) (drop (at + b) l)
    (λ i k. get_or-drop b (part at m l) i 0 ∙ part_at at m l (b + i) (omega arith) ∙ ap (λ (j : ℕ). get_or l j 0) (sym (add_assoc at b i)) ∙ sym (get_or-drop (at + b) l i 0))

-- a part of a part
pub part_part : (at m b n : ℕ) (l : List ℕ) → b + n ≤ m → at + m ≤ length l → part b n (part at m l) ≡ part (at + b) n l
part_part at m b n l h k =
    let inner : length (part b n (part at m l)) ≡ n = length_part b n (part at m l) (rw (length_part at m l k) h) in
    ext_get_or 0 (part b n (part at m l)) (part (at + b) n l) (inner ∙ sym (length_part (at + b) n l (omega arith)))
    (λ i p.
    let q : i < n = rw inner at p in
    part_at b n (part at m l) i q ∙ part_at at m l (b + i) (omega arith)
    ∙ ap (λ (j : ℕ). get_or l j 0) (sym (add_assoc at b i)) ∙ sym (part_at (at + b) n l i q))

module _ (l : List ℕ) (at : ℕ) (new : List ℕ) (h : at + length new ≤ length l) where
  front : length (take at l) ≡ at
  front = length-take-le at l (omega arith)

  both : length (take at l ++ new) ≡ at + length new
  both = length-append (take at l) new ∙ rw front

  pub put_below : (i : ℕ) → i < at → get_or (put l at new) i 0 ≡ get_or l i 0
  put_below i p =
      get_or-append (take at l ++ new) (drop (at + length new) l) 0 i (rw both (omega arith))
      ∙ get_or-append (take at l) new 0 i (rw front p) ∙ get_or-take at l i 0 p

  pub put_in : (i : ℕ) → i < length new → get_or (put l at new) (at + i) 0 ≡ get_or new i 0
  put_in i p =
      get_or-append (take at l ++ new) (drop (at + length new) l) 0 (at + i) (rw both (omega arith))
      ∙ rw front at (get_or-append-add (take at l) new i 0)

  pub put_above : (i : ℕ) → at + length new ≤ i → get_or (put l at new) i 0 ≡ get_or l i 0
  put_above i p =
      let e : at + length new + (i - (at + length new)) ≡ i = omega arith in
      rw e at
      ((rw both at (get_or-append-add (take at l ++ new) (drop (at + length new) l) (i - (at + length new)) 0))
      ∙ get_or-drop (at + length new) l (i - (at + length new)) 0)

  -- what was written
  pub part_own : part at (length new) (put l at new) ≡ new
  part_own =
      let long : length (part at (length new) (put l at new)) ≡ length new = length_part at (length new) (put l at new) (rw (length_put l at new h) h) in
      ext_get_or 0 (part at (length new) (put l at new)) new long
      (λ i p. let q : i < length new = rw long at p in part_at at (length new) (put l at new) i q ∙ put_in i q)

  -- a byte of a stretch beside it
  byte_other : (b n i : ℕ) → i < n → (b + n ≤ at) ⊎ (at + length new ≤ b) → get_or (put l at new) (b + i) 0 ≡ get_or l (b + i) 0
  byte_other b n i p beside =
      ⊎_elim (λ (o : b + n ≤ at). put_below (b + i) (omega arith)) (λ (o : at + length new ≤ b). put_above (b + i) (omega arith)) beside

  -- what stands beside it
  pub part_other : (b n : ℕ) → b + n ≤ length l → (b + n ≤ at) ⊎ (at + length new ≤ b) → part b n (put l at new) ≡ part b n l
  part_other b n k beside =
      let long : length (part b n (put l at new)) ≡ n = length_part b n (put l at new) (rw (length_put l at new h) k) in
      ext_get_or 0 (part b n (put l at new)) (part b n l) (long ∙ sym (length_part b n l k))
      (λ i p.
      let q : i < n = rw long at p in
      part_at b n (put l at new) i q ∙ byte_other b n i q beside ∙ sym (part_at b n l i q))

  -- a number that stands beside it
  pub number_other : (b n : ℕ) → (b + n ≤ at) ⊎ (at + length new ≤ b) → big_endian n (drop b (put l at new)) ≡ big_endian n (drop b l)
  number_other b n beside =
      number_same n (drop b (put l at new)) (drop b l)
      (λ i p. get_or-drop b (put l at new) i 0 ∙ byte_other b n i p beside ∙ sym (get_or-drop b l i 0))

  -- all before it, and all behind it
  pub take_put : (m : ℕ) → m ≤ at → take m (put l at new) ≡ take m l
  take_put m k =
      ap (take m) (append_assoc (take at l) new (drop (at + length new) l))
      ∙ take-append-le m (take at l) (new ++ drop (at + length new) l) (rw front k) ∙ take-take m at l k

  pub drop_put : (m : ℕ) → at + length new ≤ m → drop m (put l at new) ≡ drop m l
  drop_put m k =
      let e : at + length new + (m - (at + length new)) ≡ m = omega arith in
      rw e at
      ((rw both at (drop-append-add (take at l ++ new) (drop (at + length new) l) (m - (at + length new))))
      ∙ drop-drop (m - (at + length new)) (at + length new) l)

-- a number that was written
pub number_own : (l : List ℕ) (at n x : ℕ) → at ≤ length l → x < 2 ^ (8 * n) → big_endian n (drop at (put l at (bytes_of n x))) ≡ x
number_own l at n x h small = number_there n x at (take at l) (drop (at + length (bytes_of n x)) l) (length-take-le at l h) small

-- lists that are the same up to a place
module _ (m : ℕ) (l other : List ℕ) (alike : take m other ≡ take m l) where
  pub alike_at : (i : ℕ) → i < m → get_or other i 0 ≡ get_or l i 0
  alike_at i h = sym (get_or-take m other i 0 h) ∙ ap (λ (u : List ℕ). get_or u i 0) alike ∙ get_or-take m l i 0 h

  pub alike_part : m ≤ length l → m ≤ length other → (at n : ℕ) → at + n ≤ m → part at n other ≡ part at n l
  alike_part p q at n h =
      let long : length (part at n other) ≡ n = length_part at n other (omega arith) in
      ext_get_or 0 (part at n other) (part at n l) (long ∙ sym (length_part at n l (omega arith)))
      (λ i k.
      let j : i < n = rw long at k in
      part_at at n other i j ∙ alike_at (at + i) (omega arith) ∙ sym (part_at at n l i j))

  pub alike_number : (at n : ℕ) → at + n ≤ m → big_endian n (drop at other) ≡ big_endian n (drop at l)
  alike_number at n h =
      number_same n (drop at other) (drop at l) (λ i k. get_or-drop at other i 0 ∙ alike_at (at + i) (omega arith) ∙ sym (get_or-drop at l i 0))

-- a write within a part is a write of the part
pub put_within : (l : List ℕ) (at m b : ℕ) (new : List ℕ) → at + m ≤ length l → b + length new ≤ m → put l (at + b) new ≡ put l at (put (part at m l) b new)
put_within l at m b new h k =
    let long : length (part at m l) ≡ m = length_part at m l h in
    let whole : length (put (part at m l) b new) ≡ m = length_put (part at m l) b new (rw long k) ∙ long in
    let first : take (at + b) l ≡ take at l ++ take b (part at m l) =
    take-add at b l ∙ ap (λ (u : List ℕ). take at l ++ u) (sym (take-take b m (drop at l) (omega arith))) in
    let last : drop (at + b + length new) l ≡ drop (b + length new) (part at m l) ++ drop (at + m) l =
    ap (λ (i : ℕ). drop i l) (add_assoc at b (length new))
    ∙ sym (drop-drop (b + length new) at l)
    ∙ ap (drop (b + length new)) (sym (take-append-drop m (drop at l)))
    ∙ drop-append-le (b + length new) (part at m l) (drop m (drop at l)) (rw long k)
    ∙ ap (λ (u : List ℕ). drop (b + length new) (part at m l) ++ u) (drop-drop m at l) in
    rw (first, last, whole) (simp append_assoc)

-- the second of several stretches
pub second : (a b c d e : List ℕ) (m n : ℕ) → length a ≡ m → length b ≡ n → part m n (a ++ b ++ c ++ d ++ e) ≡ b
second a b c d e m n p q =
    let grouped : a ++ b ++ c ++ d ++ e ≡ a ++ (b ++ (c ++ (d ++ e))) = simp append_assoc in
    ap (part m n) grouped ∙ ap (take n) (drop_at a (b ++ (c ++ (d ++ e))) m p) ∙ take_at b (c ++ (d ++ e)) n q
