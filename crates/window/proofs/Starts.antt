-- The start of a window. Below it nothing is admissible. A window that has accepted nothing takes any number from its start on, and that becomes
-- the highest, alone marked. Where the floor lies above the highest number, as a start can bring it, the damage rule leaves no mark, and the highest
-- number is 0. And a window that starts behind another refuses all that the other refuses.
-- Assumes nothing.
use mathlib.Core.Path.{◌≡◌, refl, sym, ◌∙◌}
use mathlib.Core.Bool.{Bool, true, false, false≢true}
use Prim.Native.Nat.{ℕ, ◌+◌, ◌-◌, ◌*◌, ◌%◌, ◌^◌, ◌≤◌, ◌<◌, max}
use native.Mathlib.Nat.{sub_self, zero-mul, mod-eq_of_lt}
use native.Mathlib.Decide.{dec_lt}
use native.Mathlib.Omega.{arith}
use borrow.Author.Tests.{eqb-true}
use lib.Dec.{eqb}
use lib.Pow.{pow_pos}
use Rattle.window.specs.declared.Frame.{Frame}
use Rattle.window.specs.declared.Verdict.TheVariants.{Below, Admissible}
use Rattle.window.specs.Window.{View, floor_at, floor_of, verdict_of, moved, accept_of, fresh_of}
use Rattle.window.proofs.Floor.{floor_start, floor_le}
use Rattle.window.proofs.Marks.{says_below, says_admissible, marked_above, no_mark}
use Rattle.window.proofs.Undamaged.{UndamagedWindow}

pub before_start : (w : View) (n : ℕ) → n < w.frame.start → verdict_of w n ≡ Below
before_start w n h = sym (says_below w n (omega (arith, floor_start w.frame w.highest)))

module _ (f : Frame) (n : ℕ) where
  pub from_start : f.start ≤ n → verdict_of (fresh_of f) n ≡ Admissible
  unfolding floor_at
  from_start h = sym (says_admissible (fresh_of f) n (omega arith) (no_mark (fresh_of f) n refl))

  pub first_accepted : accept_of (fresh_of f) n ≡ record { frame = f; highest = n; marks = 1 }
  unfolding moved
  first_accepted =
      let top : max 0 n ≡ n = omega arith in
      let none : (d k : ℕ) → 0 * d % 2 ^ k ≡ 0 = λ d k. rw (zero-mul d) (mod-eq_of_lt (pow_pos k)) in
      rw (top, none, sub_self)

-- v starts no earlier than w, and above the highest number of w
pub starts_behind : (w v : View) (n : ℕ) → w.frame.start ≤ v.frame.start → w.highest < v.frame.start
    → (verdict_of w n ≡ Admissible → ⊥) → verdict_of v n ≡ Below
starts_behind w v n later above refused = by (dec_lt n v.frame.start)
  where
    by : Dec (n < v.frame.start) → verdict_of v n ≡ Below
    by (yes h) = before_start v n h
    by (no h) =
        absurd
        (refused (sym (says_admissible w n (floor_le w.frame w.highest n (omega arith) (omega arith)) (marked_above w n (omega arith)))))

pub nothing_above : {w : View} → UndamagedWindow w → w.highest < floor_of w → (w.marks ≡ 0) × (w.highest ≡ 0)
nothing_above {w} u h = (none, by (eqb w.highest 0) refl)
  where
    none : w.marks ≡ 0
    none =
        let closed : w.highest + 1 - floor_of w ≡ 0 = omega arith in
        let few : w.marks < 1 = rw closed at u.inside in omega arith

    by : (b : Bool) → eqb w.highest 0 ≡ b → w.highest ≡ 0
    by true e = eqb-true w.highest 0 e
    by false e = absurd (false≢true (sym (rw e (no_mark w w.highest none)) ∙ u.headed))
