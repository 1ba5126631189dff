-- Stretches joined to one list: where each lies, and how it is read there.
-- Assumes nothing.
use mathlib.Core.Path.{◌≡◌, refl, sym, ap, ◌∙◌}
use mathlib.Core.List.{List, [], ◌∷◌, ◌++◌, map, append_assoc}
use Prim.Native.Nat.{ℕ, zero, suc, ◌+◌, ◌*◌, ◌^◌, ◌≤◌, ◌<◌}
use native.Mathlib.Nat.{add-zero, add_assoc, mod-eq_of_lt}
use native.Mathlib.Omega.{arith}
use lib.Dec.{lit<}
use lib.ListN.{length, get_or, take, drop, replicate, length-append, length-replicate, get_or-replicate, get_or-append}
use lib.Seq.{take_at, drop_at, get_or-append-add, get_or-drop}
use Rattle.octets.specs.Octets.{big_endian, bytes_of, part}
use Rattle.octets.proofs.BigEndian.{number_there}

-- a stretch v stands at the place n of a list s
pub record Lies (s : List ℕ) (n : ℕ) (v : List ℕ) : Type 0 where
  pub front : List ℕ
  pub rest : List ℕ
  pub is : s ≡ front ++ v ++ rest
  pub place : length front ≡ n

abbrev pub joined : List (List ℕ) → List ℕ
joined [] = []
joined (v ∷ vs) = v ++ joined vs

-- the sum of the first j numbers
abbrev pub ahead : List ℕ → ℕ → ℕ
ahead [] j = 0
ahead (n ∷ ns) zero = 0
ahead (n ∷ ns) (suc j) = n + ahead ns j

laid : (vs : List (List ℕ)) (j : ℕ) → Lies (joined vs) (ahead (map length vs) j) (get_or vs j [])
laid [] j = record { front = []; rest = []; is = refl; place = refl }
laid (v ∷ vs) zero = record { front = []; rest = joined vs; is = refl; place = refl }
laid (v ∷ vs) (suc j) =
    let s = laid vs j in record {
      front = v ++ s.front;
      rest = s.rest;
      is = ap (λ (u : List ℕ). v ++ u) s.is ∙ sym (simp append_assoc);
      place = length-append v s.front ∙ ap (λ (n : ℕ). length v + n) s.place;
    }

-- by the stretches' lengths
pub lies : (vs : List (List ℕ)) (ns : List ℕ) → map length vs ≡ ns → (j : ℕ) → Lies (joined vs) (ahead ns j) (get_or vs j [])
lies vs ns e j = rw (← e) (laid vs j)

-- the beginning of a stretch
pub starts_with : {s : List ℕ} {n : ℕ} (v w : List ℕ) → Lies s n (v ++ w) → Lies s n v
starts_with v w s = record { front = s.front; rest = w ++ s.rest; is = s.is ∙ simp append_assoc; place = s.place }

module _ {s : List ℕ} {n : ℕ} {v : List ℕ} (there : Lies s n v) where
  pub piece : part n (length v) s ≡ v
  piece =
      ap (part n (length v)) (there.is ∙ append_assoc there.front v there.rest)
      ∙ ap (take (length v)) (drop_at there.front (v ++ there.rest) n there.place)
      ∙ take_at v there.rest (length v) refl

  pub item : (i : ℕ) → i < length v → get_or s (n + i) 0 ≡ get_or v i 0
  item i h =
      let p = there.place in
      ap (λ (l : List ℕ). get_or l (n + i) 0) there.is
      ∙ get_or-append (there.front ++ v) there.rest 0 (n + i) (rw length-append (omega arith))
      ∙ rw p at (get_or-append-add there.front v i 0)

pub number : {s : List ℕ} {n : ℕ} (k x : ℕ) → Lies s n (bytes_of k x) → x < 2 ^ (8 * k) → big_endian k (drop n s) ≡ x
number {n} k x there h =
    ap (λ (l : List ℕ). big_endian k (drop n l)) there.is ∙ number_there k x n there.front there.rest there.place h

pub byte : {s : List ℕ} {n : ℕ} (x : ℕ) → Lies s n (bytes_of 1 x) → x < 256 → get_or s n 0 ≡ x
unfolding bytes_of
byte {s} {n} x there h = ap (λ (i : ℕ). get_or s i 0) (sym (add-zero n)) ∙ item there 0 (lit< tt) ∙ mod-eq_of_lt h

-- bytes that are all 0 write 0
zeros_are_zero : (n : ℕ) (l : List ℕ) → ((i : ℕ) → i < n → get_or l i 0 ≡ 0) → big_endian n l ≡ 0
unfolding big_endian
zeros_are_zero zero l h = refl
zeros_are_zero (suc n) l h = rw (zeros_are_zero n l (λ i k. h i (omega arith)), h n (omega arith))

pub zeros : {s : List ℕ} {n : ℕ} (m : ℕ) → Lies s n (replicate m 0) → (j k : ℕ) → j + k ≤ m → big_endian k (drop (n + j) s) ≡ 0
zeros {s} {n} m there j k h =
    zeros_are_zero k (drop (n + j) s)
    (λ i l.
    get_or-drop (n + j) s i 0 ∙ ap (λ (q : ℕ). get_or s q 0) (add_assoc n j i) ∙ item there (j + i) (rw length-replicate (omega arith))
    ∙ get_or-replicate m (j + i) 0 0 (omega arith))
