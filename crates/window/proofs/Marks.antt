-- Which numbers are marked, and the verdict on a number by that.
-- Assumes nothing.
use mathlib.Core.Path.{◌≡◌, refl}
use mathlib.Core.Bool.{Bool, true, false, and-false}
use Prim.Native.Nat.{ℕ, ◌-◌, ◌≤◌, ◌<◌}
use borrow.Author.Tests.{le-leb, lt-leb, lt-ltb, le-ltb}
use Rattle.numbers.specs.Digits.{bit}
use Rattle.numbers.proofs.Bits.{bit_none}
use Rattle.window.specs.declared.Verdict.TheVariants.{Below, Marked, Admissible}
use Rattle.window.specs.Window.{View, floor_of, marked, judge, verdict_of}

module _ (w : View) (n : ℕ) where
  pub says_below : n < floor_of w → Below ≡ verdict_of w n
  says_below h = rw (lt-ltb n (floor_of w) h)

  pub says_marked : floor_of w ≤ n → marked w n ≡ true → Marked ≡ verdict_of w n
  says_marked h e = rw (le-ltb n (floor_of w) h, e)

  pub says_admissible : floor_of w ≤ n → marked w n ≡ false → Admissible ≡ verdict_of w n
  says_admissible h e = rw (le-ltb n (floor_of w) h, e)

-- the two tests that make a number admissible
pub judged : (below used : Bool) → judge below used ≡ Admissible → (below ≡ false) × (used ≡ false)
judged true used v = (cc, cc)
judged false true v = (cc, cc)
judged false false v = (refl, refl)

pub marked_within : (w : View) (n : ℕ) → n ≤ w.highest → marked w n ≡ bit w.marks (w.highest - n)
unfolding marked
marked_within w n h = rw (le-leb n w.highest h)

pub marked_above : (w : View) (n : ℕ) → w.highest < n → marked w n ≡ false
unfolding marked
marked_above w n h = rw (lt-leb n w.highest h)

pub no_mark : (w : View) (n : ℕ) → w.marks ≡ 0 → marked w n ≡ false
unfolding marked
no_mark w n e = rw (e, bit_none, and-false)
