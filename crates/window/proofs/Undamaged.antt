-- The damage rule as facts: a fresh window is undamaged, and one that accepts a number stays so.
-- Assumes nothing.
use mathlib.Core.Path.{◌≡◌, refl, sym, ◌∙◌}
use mathlib.Core.Bool.{Bool, true, false, ◌||◌, or-true}
use Prim.Native.Nat.{ℕ, ◌+◌, ◌-◌, ◌^◌, ◌≤◌, ◌<◌, max}
use native.Mathlib.Nat.{sub_self, lt_of_lt_of_le}
use native.Mathlib.Omega.{arith}
use borrow.Author.Tests.{leb-true, leb-false, ltb-false, le-leb, lt-ltb, eq-eqb, ne_eqb}
use lib.Count.{ones}
use lib.Dec.{eqb, leb, ltb}
use lib.Pow.{pow_pos, pow_mono}
use Rattle.numbers.specs.Digits.{bit}
use Rattle.numbers.proofs.Bits.{ones_within}
use Rattle.numbers.proofs.Tests.{and_left, and_right, and_both, refuted}
use Rattle.window.specs.declared.Verdict.TheVariants.{Admissible}
use Rattle.window.specs.Window.{sound_frame, View, floor_of, marked, verdict_of, accept_of, count_of, undamaged_window, fresh_of}
use Rattle.window.specs.declared.Frame.{Frame}
use Rattle.window.proofs.Floor.{floor_law}
use Rattle.window.proofs.Marks.{judged, marked_within}
use Rattle.window.proofs.Accept.{Takes, accept_reaches, accept_marked, accept_inside, accept_ones}

-- What a sound frame keeps to.
pub record SoundFrame (f : Frame) : Type 0 where
  pub sized : 1 ≤ f.size
  pub size_high : f.size ≤ 256
  pub start_high : f.start < 2 ^ 48

pub frame_facts : (f : Frame) → sound_frame f ≡ true → SoundFrame f
frame_facts f h = search (and_left, and_right, leb-true) depth 9

pub frame_test : (f : Frame) → SoundFrame f → sound_frame f ≡ true
frame_test f s = search (and_both, le-leb) depth 9

-- A frame of which one fact fails is unsound.
pub frame_unsound : (f : Frame) → (SoundFrame f → ⊥) → false ≡ sound_frame f
frame_unsound f bad = refuted (sound_frame f) (λ e. bad (frame_facts f e))

-- The rule's tests, as facts.
pub record UndamagedWindow (w : View) : Type 0 where
  pub framed : SoundFrame w.frame
  pub high : w.highest < 2 ^ 48
  pub inside : w.marks < 2 ^ (w.highest + 1 - floor_of w)
  pub headed : (eqb w.highest 0 || marked w w.highest) ≡ true

pub undamaged_facts : (w : View) → undamaged_window w ≡ true → UndamagedWindow w
unfolding undamaged_window
undamaged_facts w h = search (and_left, and_right, leb-true) depth 9

pub undamaged_test : (w : View) → UndamagedWindow w → undamaged_window w ≡ true
unfolding undamaged_window
undamaged_test w u = search (and_both, le-leb) depth 9

pub damaged_frame : (w : View) → sound_frame w.frame ≡ false → false ≡ undamaged_window w
unfolding undamaged_window
damaged_frame w e = rw e

-- A window of which one fact fails is damaged.
pub damaged : (w : View) → (UndamagedWindow w → ⊥) → false ≡ undamaged_window w
damaged w bad = refuted (undamaged_window w) (λ e. bad (undamaged_facts w e))

pub damaged_outside : (w : View) → ltb w.marks (2 ^ (w.highest + 1 - floor_of w)) ≡ false → false ≡ undamaged_window w
damaged_outside w e = damaged w (λ u. omega (arith, ltb-false w.marks (2 ^ (w.highest + 1 - floor_of w)) e, u.inside))

-- Where all else holds, the highest number decides.
module _ (w : View) (sound : sound_frame w.frame ≡ true) (high : w.highest < 2 ^ 48)
    (inside : ltb w.marks (2 ^ (w.highest + 1 - floor_of w)) ≡ true) where
  head_decides : undamaged_window w ≡ (eqb w.highest 0 || marked w w.highest)
  unfolding undamaged_window
  head_decides = rw (sound, lt-ltb w.highest (2 ^ 48) high, inside)

  pub undamaged_at_zero : w.highest ≡ 0 → true ≡ undamaged_window w
  undamaged_at_zero z = sym (head_decides ∙ rw (eq-eqb w.highest 0 z))

  pub undamaged_by_mark : (w.highest ≡ 0 → ⊥) → bit w.marks 0 ≡ undamaged_window w
  undamaged_by_mark z = sym (head_decides ∙ rw (ne_eqb w.highest 0 z, marked_within w w.highest (omega arith), sub_self))

pub fresh_undamaged : (f : Frame) → sound_frame f ≡ true → UndamagedWindow (fresh_of f)
fresh_undamaged f h = record {
  framed = frame_facts f h;
  high = omega arith;
  inside = pow_pos (1 - floor_of (fresh_of f));
  headed = refl;
}

-- The window's 256 digits hold every mark.
held : (w : View) → SoundFrame w.frame → w.marks < 2 ^ (w.highest + 1 - floor_of w) → w.marks < 2 ^ 256
held w s i = let l = floor_law w.frame w.highest s.sized in lt_of_lt_of_le i (pow_mono {j = 256} (omega (arith, s.size_high)))

pub marks_small : {w : View} → UndamagedWindow w → w.marks < 2 ^ 256
marks_small {w} u = held w u.framed u.inside

counts : (w : View) → SoundFrame w.frame → w.marks < 2 ^ (w.highest + 1 - floor_of w) → count_of w ≡ ones w.marks
counts w s i = ones_within 256 w.marks (held w s i)

-- ---- a number is accepted

pub takes : {w : View} (n : ℕ) → UndamagedWindow w → verdict_of w n ≡ Admissible → Takes w n
takes {w} n u v =
    let j = judged (ltb n (floor_of w)) (marked w n) v in
    record { sized = u.framed.sized; inside = u.inside; reached = ltb-false n (floor_of w) j.0; unused = j.1 }

module _ {w : View} {n : ℕ} (u : UndamagedWindow w) (t : Takes w n) where
  -- The new highest number is marked, or 0.
  accept_headed : (eqb (max w.highest n) 0 || marked (accept_of w n) (max w.highest n)) ≡ true
  accept_headed = rw (accept_marked t top (omega (arith, accept_reaches t))) (go (leb w.highest n) refl)
    where
      top : ℕ
      top = max w.highest n

      go : (x : Bool) → leb w.highest n ≡ x → (eqb top 0 || (eqb top n || marked w top)) ≡ true
      go true p = rw (eq-eqb top n (omega (arith, leb-true))) (or-true (eqb top 0))
      go false p =
          let same : top ≡ w.highest = omega (arith, leb-false) in
          let old : marked w w.highest ≡ true = rw (ne_eqb w.highest 0 (λ z. omega (arith, leb-false))) at u.headed in
          rw (same, old, or-true, or-true)

  pub accept_undamaged : n < 2 ^ 48 → UndamagedWindow (accept_of w n)
  accept_undamaged b = record {
    framed = u.framed;
    high = omega (arith, u.high);
    inside = accept_inside t;
    headed = accept_headed;
  }

  -- The count grows by one, less the marks that went; and no more went than the floor rose.
  pub accept_count : (count_of (accept_of w n) ≤ count_of w + 1) × (count_of w + 1 + floor_of w ≤ count_of (accept_of w n) + floor_of (accept_of w n))
  accept_count =
      let o = accept_ones t in
      let before = counts w u.framed u.inside in
      let after = counts (accept_of w n) u.framed (accept_inside t) in omega arith
