-- What accepting a number does to a window: which numbers are marked after it, where the floor stands, and how many marks there are.
-- Assumes nothing.
use mathlib.Core.Path.{◌≡◌, refl, sym, ap, subst, ◌∙◌}
use mathlib.Core.Bool.{Bool, true, false, ◌&&◌, ◌||◌}
use Prim.Native.Nat.{ℕ, suc, ◌+◌, ◌-◌, ◌*◌, ◌/◌, ◌%◌, ◌^◌, ◌≤◌, ◌<◌, min, max}
use native.Mathlib.Nat.{add-zero, mod-lt}
use native.Mathlib.Omega.{arith}
use borrow.Author.Tests.{leb-true, leb-false, eqb-true, eqb-false, le-leb, eq-eqb, ne_eqb}
use lib.Count.{ones, ones_cat, ones-le}
use lib.Dec.{eqb, leb}
use lib.Pow.{pow_pos, shl_lt, shr_lt, split, mod-mod-pow}
use Rattle.numbers.specs.Digits.{bit}
use Rattle.numbers.proofs.Bits.{bit_put, put_lt, ones_put, bit_low, bit_high, bit_mod}
use Rattle.window.specs.Window.{View, floor_at, floor_of, marked, moved, accept_of}
use Rattle.window.proofs.Floor.{floor_law, floor_start, floor_le, floor_mono}

-- What is needed of a window and a number for the laws below.
pub record Takes (w : View) (n : ℕ) : Type 0 where
  pub sized : 1 ≤ w.frame.size
  pub inside : w.marks < 2 ^ (w.highest + 1 - floor_of w)
  pub reached : floor_of w ≤ n
  pub unused : marked w n ≡ false

-- ---- the window moves

-- A move changes no mark from the new floor on.
moved_marked : (w : View) (top j : ℕ) → 1 ≤ w.frame.size → w.highest ≤ top → floor_at w.frame top ≤ j
    → (leb j top && bit (moved w top) (top - j)) ≡ marked w j
unfolding moved marked
moved_marked w top j s up h = go (leb j top) refl (leb j w.highest) refl
  where
    law : top + 1 ≤ floor_at w.frame top + w.frame.size
    law = floor_law w.frame top s

    d : ℕ
    d = min (top - w.highest) w.frame.size

    go : (x : Bool) → leb j top ≡ x → (y : Bool) → leb j w.highest ≡ y
        → (x && bit (moved w top) (top - j)) ≡ (y && bit w.marks (w.highest - j))
    go false p false q = refl
    go false p true q = absurd (omega (arith, leb-true, leb-false))
    go true p false q = bit_mod _ _ (top - j) (omega (arith, leb-true)) ∙ bit_low w.marks d (top - j) (omega (arith, law, leb-true, leb-false))
    go true p true q =
        let at : top - j ≡ d + (w.highest - j) = omega (arith, law, leb-true) in
        bit_mod _ _ (top - j) (omega (arith, leb-true)) ∙ ap (bit (w.marks * 2 ^ d)) at ∙ bit_high w.marks d (w.highest - j)

-- Marks that are held to k digits before they are cut move the same.
pub moved_is : (w : View) (top k : ℕ) → top + 1 ≤ floor_at w.frame top + k
    → w.marks * 2 ^ min (top - w.highest) w.frame.size % 2 ^ k % 2 ^ (top + 1 - floor_at w.frame top) ≡ moved w top
unfolding moved
moved_is w top k h =
    let r : ℕ = top + 1 - floor_at w.frame top in
    let all : ℕ = w.marks * 2 ^ min (top - w.highest) w.frame.size in
    subst (λ (x : ℕ). all % 2 ^ x % 2 ^ r ≡ all % 2 ^ r) (omega arith) (mod-mod-pow all (k - r) r)

-- ---- a number is accepted

pub accept_rises : (w : View) (n : ℕ) → floor_of w ≤ floor_of (accept_of w n)
accept_rises w n = floor_mono w.frame (omega arith)

same_gap : (h j n : ℕ) → j ≤ h → n ≤ h → eqb (h - j) (h - n) ≡ eqb j n
same_gap h j n a b = go (eqb j n) refl
  where
    go : (x : Bool) → eqb j n ≡ x → eqb (h - j) (h - n) ≡ x
    go true p = eq-eqb (h - j) (h - n) (omega (arith, eqb-true))
    go false p = ne_eqb (h - j) (h - n) (λ e. eqb-false j n p (omega arith))

-- A window that moves up by d: as far as it reached, and d more, is what the floor rises and what is then in reach.
reach : (h d lo hi : ℕ) → lo ≤ h + 1 → lo ≤ hi → hi ≤ h + d + 1 → h + 1 - lo + d ≡ hi - lo + (h + d + 1 - hi)
reach h d lo hi a b c = omega arith

-- Of o marks q go, no more than the floor rises, and one comes.
tally : (o m q lo hi : ℕ) → o ≡ q + m → q ≤ hi - lo → lo ≤ hi → (suc m ≤ o + 1) × (o + 1 + lo ≤ suc m + hi)
tally o m q lo hi e g h = omega arith

module _ {w : View} {n : ℕ} (t : Takes w n) where
  top : ℕ
  top = max w.highest n

  -- The number is in reach of the window that it makes.
  pub accept_reaches : floor_of (accept_of w n) ≤ n
  accept_reaches =
      let l = floor_law w.frame w.highest t.sized in
      floor_le w.frame (max w.highest n) n (omega (arith, floor_start w.frame w.highest, t.reached)) (omega (arith, t.reached, t.sized))

  pub accept_free : bit (moved w (max w.highest n)) (max w.highest n - n) ≡ false
  unfolding top
  accept_free =
      ap (λ (x : Bool). x && bit (moved w top) (top - n)) (sym (le-leb n top (omega arith)))
      ∙ moved_marked w top n t.sized (omega arith) accept_reaches ∙ t.unused

  -- From the new floor on, the number itself and what was marked before is marked.
  pub accept_marked : (j : ℕ) → floor_of (accept_of w n) ≤ j → marked (accept_of w n) j ≡ (eqb j n || marked w j)
  unfolding marked top
  accept_marked j h = go (leb j top) refl ∙ ap (λ (x : Bool). eqb j n || x) (moved_marked w top j t.sized (omega arith) h)
    where
      go : (x : Bool) → leb j top ≡ x → (x && bit (moved w top + 2 ^ (top - n)) (top - j)) ≡ (eqb j n || (x && bit (moved w top) (top - j)))
      go false p = rw (ne_eqb j n (λ e. omega (arith, leb-false)))
      go true p = rw (← same_gap top j n (omega (arith, leb-true)) (omega arith)) (bit_put (moved w top) (top - n) (top - j) accept_free)

  pub accept_inside : (accept_of w n).marks < 2 ^ ((accept_of w n).highest + 1 - floor_of (accept_of w n))
  unfolding top moved
  accept_inside =
      put_lt (moved w top) (top - n) (top + 1 - floor_at w.frame top) accept_free (mod-lt _ (pow_pos _)) (omega (arith, accept_reaches))

  -- The number of marks grows by one, less those that went; and no more went than the floor rose.
  pub accept_ones : (ones (accept_of w n).marks ≤ ones w.marks + 1)
      × (ones w.marks + 1 + floor_of w ≤ ones (accept_of w n).marks + floor_of (accept_of w n))
  unfolding top moved ones
  accept_ones =
      rw (ones_put (moved w top) (top - n) accept_free)
      (tally _ _ _ _ _ (sym same ∙ parts) (gone (leb (top - w.highest) w.frame.size) refl (leb (floor_of w) (w.highest + 1)) refl) (accept_rises w n))
    where
      d : ℕ
      d = min (top - w.highest) w.frame.size

      k : ℕ
      k = top + 1 - floor_at w.frame top

      rise : ℕ
      rise = floor_at w.frame top - floor_of w

      all : ℕ
      all = w.marks * 2 ^ d

      same : ones all ≡ ones w.marks
      same = ap ones (sym (add-zero all)) ∙ ones_cat d w.marks 0 (pow_pos d) ∙ add-zero (ones w.marks)

      parts : ones all ≡ ones (all / 2 ^ k) + ones (moved w top)
      parts = ap ones (sym (split all k)) ∙ ones_cat k (all / 2 ^ k) (all % 2 ^ k) (mod-lt all (pow_pos k))

      few : ones (all / 2 ^ k) ≤ w.highest + 1 - floor_of w
      few = omega (arith, same, parts, ones-le (w.highest + 1 - floor_of w) w.marks t.inside)

      gone : (x : Bool) → leb (top - w.highest) w.frame.size ≡ x → (y : Bool) → leb (floor_of w) (w.highest + 1) ≡ y
          → ones (all / 2 ^ k) ≤ rise
      gone true p true q =
          let up : w.highest + d ≡ top = omega (arith, leb-true) in
          let width : w.highest + 1 - floor_of w + d ≡ rise + k =
          rw up at (
          reach w.highest d (floor_of w) (floor_at w.frame top) (leb-true (floor_of w) (w.highest + 1) q) (accept_rises w n)
          (omega (arith, accept_reaches))
          )
          in
          ones-le rise (all / 2 ^ k)
          (shr_lt rise k (subst (λ (x : ℕ). all < 2 ^ x) width (shl_lt (w.highest + 1 - floor_of w) d t.inside)))
      gone true p false q = omega (arith, leb-false, few)
      gone false p y q = omega (arith, leb-false, few, floor_law w.frame top t.sized)
