-- The listed marks: four words, the lowest last in the text, are the number that their 32 bytes write.
-- Assumes nothing.
use mathlib.Core.Path.{◌≡◌, ap, ◌∙◌}
use mathlib.Core.List.{List, [], ◌∷◌}
use Prim.Native.Nat.{ℕ, ◌+◌, ◌≤◌}
use native.Mathlib.Omega.{arith}
use lib.ListN.{length, drop}
use Rattle.octets.specs.Octets.{big_endian, part}
use Rattle.octets.proofs.Parts.{length_part, number_in_part}
use Rattle.window.specs.Window.{view_of}
use Rattle.window.specs.declared.Frame.{Frame}
use Rattle.slots.proofs.Windows.{marks_read}

-- a word of them, read from its part
pub word_is : (u : List ℕ) (at a : ℕ) {p : List ℕ} → at + 8 ≤ length u → p ≡ part at 8 u → a ≡ big_endian (length p) p → a ≡ big_endian 8 (drop at u)
word_is u at a h e f = f ∙ rw (e, length_part at 8 u h) (number_in_part at 8 0 8 u (omega arith) ∙ ap (λ (k : ℕ). big_endian 8 (drop k u)) {y = at} (omega arith))

-- the window of the four words that were read
pub window_listed : (u : List ℕ) {frame : Frame} {highest a b c d : ℕ}
    → a ≡ big_endian 8 (drop 24 u) → b ≡ big_endian 8 (drop 16 u) → c ≡ big_endian 8 (drop 8 u) → d ≡ big_endian 8 u
    → view_of (record { frame = frame; highest = highest; marks = a ∷ b ∷ c ∷ d ∷ [] })
    ≡ record { frame = frame; highest = highest; marks = big_endian 32 u }
window_listed u {frame} {highest} {a} {b} {c} {d} p q r t =
    ap (λ (m : ℕ). record { frame = frame; highest = highest; marks = m }) (rw (p, q, r, t) (marks_read 0 u))
