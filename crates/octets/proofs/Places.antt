-- A list with other bytes at a place: its length, and bytes written one stretch after the other.
-- Assumes nothing.
use mathlib.Core.Path.{◌≡◌, refl, sym, ap, ap₂, ◌∙◌}
use mathlib.Core.List.{List, [], ◌∷◌, ◌++◌, append_assoc}
use Prim.Native.Nat.{ℕ, suc, ◌+◌, ◌-◌, ◌/◌, ◌%◌, ◌≤◌, ◌<◌}
use native.Mathlib.Nat.{add_assoc}
use native.Mathlib.Numerals.{add-one}
use native.Mathlib.Omega.{arith}
use lib.ListN.{length, get_or, take, drop, set, length-append, length-drop, length-set, take-append-drop}
use lib.Seq.{drop-cons, take-append_seam, drop-append_seam, drop-set-lt, get_or-set_same, paste, paste-suc, length-take-le, take-length, take-add, take-paste, drop-paste, drop-drop}
use Rattle.octets.specs.Octets.{bytes_of, part, put}
use Rattle.octets.proofs.BigEndian.{length_bytes}

pub length_put : (l : List ℕ) (at : ℕ) (new : List ℕ) → at + length new ≤ length l → length (put l at new) ≡ length l
length_put l at new h = simp (length-append, length-take-le at l (omega arith), length-drop) (omega arith)

-- a loop that writes new bytes one by one: a turn of it, and its end
pub one_further : (l done : List ℕ) (at i x : ℕ) (new : List ℕ) → done ≡ paste l at new i → at + i < length l → i < length new → x ≡ get_or new i 0
    → set done (at + i) x ≡ paste l at new (i + 1)
one_further l done at i x new e h k is = rw (e, is, add-one) (paste-suc l at new i 0 h k)

pub all_put : (l done : List ℕ) (at i : ℕ) (new : List ℕ) → done ≡ paste l at new i → i ≡ length new → done ≡ put l at new
all_put l done at i new e is = rw (e, is, take-length new)

-- n of the bytes are written, and now those of a stretch behind them
pub put_next : (l : List ℕ) (at n : ℕ) (new stretch : List ℕ) → at ≤ length l → n ≤ length new → part n (length stretch) new ≡ stretch
    → put (paste l at new n) (at + n) stretch ≡ paste l at new (n + length stretch)
put_next l at n new stretch h k e =
    ap₂ (λ (u v : List ℕ). u ++ stretch ++ v)
    (take-paste l at new n h k)
    (sym (drop-drop (length stretch) (at + n) (paste l at new n))
    ∙ ap (drop (length stretch)) (drop-paste l at new n h k)
    ∙ drop-drop (length stretch) (at + n) l
    ∙ ap (λ (i : ℕ). drop i l) (add_assoc at n (length stretch)))
    ∙ ap (λ (u : List ℕ). u ++ drop (at + (n + length stretch)) l)
    (append_assoc (take at l) (take n new) stretch
    ∙ ap (λ (u : List ℕ). take at l ++ u) (ap (λ (u : List ℕ). take n new ++ u) (sym e) ∙ sym (take-add n (length stretch) new)))

-- two writes side by side are one
pub put_put : (l : List ℕ) (at : ℕ) (u v : List ℕ) → at ≤ length l → put (put l at u) (at + length u) v ≡ put l at (u ++ v)
put_put l at u v h =
    ap (λ (w : List ℕ). put (take at l ++ w ++ drop (at + length u) l) (at + length u) v) (sym (take-append_seam u v))
    ∙ put_next l at (length u) (u ++ v) v h (rw length-append (omega arith)) (ap (take (length v)) (drop-append_seam u v) ∙ take-length v)
    ∙ all_put l _ at (length u + length v) (u ++ v) refl (sym (length-append u v))

-- the same, where the second write's place is known by its number
pub put_behind : (l : List ℕ) (at n : ℕ) (u v : List ℕ) → at ≤ length l → at + length u ≡ n → put (put l at u) n v ≡ put l at (u ++ v)
put_behind l at n u v h e = ap (λ (k : ℕ). put (put l at u) k v) (sym e) ∙ put_put l at u v h

-- of two writes over each other the second stays
pub put_again : (l : List ℕ) (at : ℕ) (u v : List ℕ) → at + length u ≤ length l → length u ≡ length v → put (put l at u) at v ≡ put l at v
put_again l at u v room same =
    let head : length (take at l) ≡ at = length-take-le at l (omega arith) in
    let ahead : length (take at l ++ u) ≡ at + length v = length-append (take at l) u ∙ omega arith in
    ap₂ (λ (x y : List ℕ). x ++ v ++ y)
    (ap (λ (n : ℕ). take n (put l at u)) (sym head) ∙ ap (take (length (take at l))) (append_assoc (take at l) u (drop (at + length u) l))
    ∙ take-append_seam (take at l) (u ++ drop (at + length u) l))
    (ap (λ (n : ℕ). drop n (put l at u)) (sym ahead) ∙ drop-append_seam (take at l ++ u) (drop (at + length u) l) ∙ ap (λ (n : ℕ). drop (at + n) l) same)

-- ---- stretches, each behind the one before

-- a stretch stands at a place of what was the list l, and ends where the next may stand
pub record Written (l : List ℕ) (at : ℕ) (u now : List ℕ) (end : ℕ) : Type 0 where
  pub ends : end ≡ at + length u
  pub is : now ≡ put l at u

module _ {l : List ℕ} {at : ℕ} {u now : List ℕ} {end : ℕ} (w : Written l at u now end) (room : at ≤ length l) where
  pub further : {v more : List ℕ} {last : ℕ} → Written now end v more last → Written l at (u ++ v) more last
  further {v} x = record {
    ends = x.ends ∙ rw (w.ends, length-append) (add_assoc at (length u) (length v));
    is = x.is ∙ ap (λ (o : List ℕ). put o end v) w.is ∙ put_behind l at end u v room (sym w.ends);
  }

  -- by its length
  pub and_then : (v : List ℕ) {more : List ℕ} (last : ℕ) → end + length v ≡ last → more ≡ put now end v → Written l at (u ++ v) more last
  and_then v last long e = further (record { ends = sym long; is = e })

-- four of them
pub put_four : (l one two three four : List ℕ) (at p q r : ℕ) (a b c d : List ℕ) → at ≤ length l
    → at + length a ≡ p → p + length b ≡ q → q + length c ≡ r
    → one ≡ put l at a → two ≡ put one p b → three ≡ put two q c → four ≡ put three r d → four ≡ put l at (a ++ b ++ c ++ d)
put_four l one two three four at p q r a b c d h x y z e f g k =
    let first : Written l at a one p = record { ends = sym x; is = e } in
    let second = and_then first h b q y f in
    let third = and_then second h c r z g in
    (and_then third h d _ refl k).is

-- a loop that writes a number from its lowest byte down, from behind the place p: a turn of it, and its end
pub one_lower : (out : List ℕ) (at p x : ℕ) → at ≤ p → p < length out
    → bytes_of (p - at) (x / 256) ++ drop p (set out p (x % 256)) ≡ bytes_of (suc p - at) x ++ drop (suc p) out
unfolding bytes_of
one_lower out at p x room h =
    let one_more : suc p - at ≡ suc (p - at) = omega arith in
    rw (one_more, drop-cons (set out p (x % 256)) p 0 (rw length-set h), get_or-set_same out p (x % 256) 0 h, drop-set-lt (suc p) out p (x % 256) (omega arith))
    (sym (append_assoc (bytes_of (p - at) (x / 256)) (x % 256 ∷ []) (drop (suc p) out)))

pub all_lower : (l done : List ℕ) (at n x p rest : ℕ) → p ≡ at → take at done ≡ take at l
    → bytes_of (p - at) rest ++ drop p done ≡ bytes_of n x ++ drop (at + n) l → done ≡ put l at (bytes_of n x)
unfolding bytes_of
all_lower l done at n x p rest none front back =
    let nothing : p - at ≡ 0 = omega arith in
    sym (take-append-drop at done)
    ∙ ap₂ (λ (u v : List ℕ). u ++ v) front (rw (nothing, none) at back)
    ∙ sym (append_assoc (take at l) (bytes_of n x) (drop (at + n) l))
    ∙ rw (length_bytes n x)
