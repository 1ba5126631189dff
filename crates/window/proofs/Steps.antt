-- The steps by which the code accepts a number: they move the marks, have room for one more, and make the window of the definition.
-- Assumes nothing.
use mathlib.Core.Path.{◌≡◌}
use mathlib.Core.Bool.{false}
use Prim.Native.Nat.{ℕ, ◌+◌, ◌-◌, ◌*◌, ◌%◌, ◌^◌, ◌≤◌, ◌<◌, min, max}
use native.Mathlib.Omega.{arith}
use Rattle.numbers.specs.Digits.{bit}
use Rattle.window.specs.declared.Verdict.TheVariants.{Admissible}
use Rattle.window.specs.Window.{View, floor_at, verdict_of, moved, accept_of}
use Rattle.window.proofs.Floor.{floor_law}
use Rattle.window.proofs.Accept.{moved_is, accept_reaches, accept_free}
use Rattle.window.proofs.Undamaged.{UndamagedWindow, takes}

-- A number that an undamaged window admits, and the larger of it and the highest.
pub record Accepting (w : View) (n top : ℕ) : Type 0 where
  pub undamaged : UndamagedWindow w
  pub admitted : verdict_of w n ≡ Admissible
  pub larger : top ≡ max w.highest n

module _ {w : View} {n top : ℕ} (a : Accepting w n top) where
  reaches : top + 1 ≤ floor_at w.frame top + 256
  reaches = let f = a.undamaged.framed in omega (arith, floor_law w.frame top f.sized, f.size_high)

  -- Size is at most 256, so no mark is lost that the window still reaches.
  pub moves : {rise reach x y : ℕ} → rise ≡ min (top - w.highest) w.frame.size → x ≡ w.marks * 2 ^ rise % 2 ^ 256
      → reach ≡ top + 1 - floor_at w.frame top → y ≡ x % 2 ^ reach → y ≡ moved w top
  moves p q r s = rw (s, r, q, p) (moved_is w top 256 reaches)

  pub has_room : {y : ℕ} → y ≡ moved w top → (top - n < 256) × (bit y (top - n) ≡ false)
  has_room p =
      let t = takes n a.undamaged a.admitted in
      let low : floor_at w.frame top ≤ n = rw a.larger (accept_reaches t) in
      (omega (arith, reaches), rw (p, a.larger) (accept_free t))

  pub accepts : {y z : ℕ} → y ≡ moved w top → z ≡ y + 2 ^ (top - n) → record { frame = w.frame; highest = top; marks = z } ≡ accept_of w n
  accepts p q = rw (q, p, a.larger)
