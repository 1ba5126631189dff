-- The line of a record: how long it is, and that it is written piece by piece.
-- Assumes nothing.
use mathlib.Core.List.{List}
use Prim.Native.Nat.{ℕ, ◌+◌, ◌*◌, ◌≤◌, ◌<◌}
use native.Mathlib.Omega.{arith}
use lib.ListN.{length, length-append}
use Rattle.octets.proofs.Places.{Written, further}
use Rattle.text.specs.Text.{decimal_field, hex_line}
use Rattle.text.proofs.Decimals.{digits_most}
use Rattle.text.proofs.Hex.{length_hex}
use Rattle.feed.specs.Report.{record_name, answer_name, payload_name, line_of}

pub line_most : (n reply : ℕ) (payload : List ℕ) → n < 10000 → reply < 100 → length (line_of n reply payload) ≤ 31 + 2 * length payload
unfolding line_of
line_most n reply payload h k = simp length-append (omega (arith, digits_most 3 n h, digits_most 1 reply k, length_hex payload))

-- how far its first field reaches
pub number_most : (n : ℕ) → n < 100000 → length (decimal_field record_name n) ≤ 12
number_most n h = simp length-append (omega (arith, digits_most 4 n h))

pub line_written : {o₁ o₂ o₃ : List ℕ} {e₁ e₂ e₃ : ℕ} (l : List ℕ) (at n reply : ℕ) (payload : List ℕ) → at ≤ length l
    → Written l at (decimal_field record_name n) o₁ e₁ → Written o₁ e₁ (decimal_field answer_name reply) o₂ e₂ → Written o₂ e₂ (hex_line payload_name payload) o₃ e₃
    → Written l at (line_of n reply payload) o₃ e₃
unfolding line_of
line_written l at n reply payload h first second third = further (further first h second) h third
