-- A window's marks stand in a slot as four words, the highest first, and are one number of 32 bytes.
-- Assumes nothing.
use mathlib.Core.Path.{◌≡◌, ap}
use mathlib.Core.List.{List, [], ◌∷◌, ◌++◌}
use Prim.Native.Nat.{ℕ, ◌+◌, ◌<◌, ◌^◌}
use native.Mathlib.Nat.{add-zero, mul-zero}
use lib.ListN.{drop}
use lib.Seq.{drop-drop}
use Rattle.numbers.specs.Digits.{from_digits}
use Rattle.octets.specs.Octets.{big_endian, bytes_of}
use Rattle.octets.proofs.BigEndian.{number_cat, bytes_cat}
use Rattle.window.specs.declared.Frame.{Frame}
use Rattle.window.specs.declared.Counters.{Counters}
use Rattle.window.specs.Window.{View, view_of}
use Rattle.slots.specs.Table.{frame_of, window_of, counters_of, entry_of, highest_at, marks_at, accepted_at, bytes_at}

pub marks_read : (at : ℕ) (l : List ℕ)
    → from_digits 64 (big_endian 8 (drop (at + 24) l) ∷ big_endian 8 (drop (at + 16) l) ∷ big_endian 8 (drop (at + 8) l) ∷ big_endian 8 (drop at l) ∷ [])
    ≡ big_endian 32 (drop at l)
marks_read at l =
    rw (
      number_cat 24 8 (drop at l),
      number_cat 16 8 (drop at l),
      number_cat 8 8 (drop at l),
      drop-drop 24 at l,
      drop-drop 16 at l,
      drop-drop 8 at l,
      mul-zero,
      add-zero,
    )

pub marks_bytes : (a b c d : ℕ) → a < 2 ^ 64 → b < 2 ^ 64 → c < 2 ^ 64
    → bytes_of 32 (from_digits 64 (a ∷ b ∷ c ∷ d ∷ [])) ≡ bytes_of 8 d ++ bytes_of 8 c ++ bytes_of 8 b ++ bytes_of 8 a
marks_bytes a b c d p q r =
    rw (
      bytes_cat 24 8 (from_digits 64 (b ∷ c ∷ d ∷ [])) a p,
      bytes_cat 16 8 (from_digits 64 (c ∷ d ∷ [])) b q,
      bytes_cat 8 8 (from_digits 64 (d ∷ [])) c r,
      mul-zero,
      add-zero,
    )

-- the window of the frame and the numbers that were read in a slot
pub window_is : (s : List ℕ) {f : Frame} {highest a b c d : ℕ} → f ≡ frame_of s → highest ≡ big_endian 8 (drop highest_at s)
    → a ≡ big_endian 8 (drop (marks_at + 24) s) → b ≡ big_endian 8 (drop (marks_at + 16) s) → c ≡ big_endian 8 (drop (marks_at + 8) s) → d ≡ big_endian 8 (drop marks_at s)
    → view_of (record { frame = f; highest = highest; marks = a ∷ b ∷ c ∷ d ∷ [] }) ≡ window_of s
window_is s e g p q r t =
    rw (e, g, p, q, r, t) (ap (λ (m : ℕ). record { frame = frame_of s; highest = big_endian 8 (drop highest_at s); marks = m }) (marks_read marks_at s))

-- the entry of the window and the numbers that were read beside it
pub entry_is : (s : List ℕ) {w : View} {a b : ℕ} {c : Counters} → w ≡ window_of s → a ≡ big_endian 8 (drop accepted_at s) → b ≡ big_endian 8 (drop bytes_at s)
    → c ≡ counters_of s → record { window = w; accepted = a; bytes = b; counters = c } ≡ entry_of s
entry_is s d e g h = rw (d, e, g, h)
