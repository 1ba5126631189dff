-- What of a slot its listing prints: how long parts of it are, KeyId among them, and the lines behind one another.
-- Assumes nothing.
use mathlib.Core.Path.{◌≡◌}
use mathlib.Core.Bool.{true}
use mathlib.Core.List.{List}
use Prim.Native.Nat.{ℕ, ◌-◌, ◌≤◌, ◌<◌}
use native.Mathlib.Omega.{arith}
use lib.ListN.{length, get_or, drop, length-take, length-drop}
use Rattle.octets.specs.Octets.{Bytes, big_endian, bytes_of, part}
use Rattle.octets.proofs.BigEndian.{bytes_drop, bytes_take}
use Rattle.octets.proofs.Parts.{length_part}
use Rattle.format.proofs.KeyIds.{length_most}
use Rattle.window.specs.declared.Counters.{Counters}
use Rattle.window.specs.declared.Frame.{Frame}
use Rattle.slots.specs.Table.{flag_of, cs_of, edition_of, key_id_length_of, key_id_of, source_of, frame_of, window_of, counters_of, slot_length, key_id_length_at, key_id_at, accepted_at, bytes_at, key_id_room}
use Rattle.slots.specs.Record.{undamaged}
use Rattle.text.specs.Text.{decimal_line, hex_line}
use Rattle.listing.specs.Listing.{slot_name, flag_name, key_id_name, source_name, suite_name, edition_name, size_name, start_name, highest_name, marks_name, accepted_name, bytes_name, replays_name, forged_name, named_lines, term_lines, moved_lines, counter_lines}
use Rattle.slots.proofs.Damage.{undamaged_sound}
use Rattle.octets.proofs.Places.{Written, further}

-- a part is no longer than it says, and than what there is behind its place
pub part_most : (at n : ℕ) (l : List ℕ) → length (part at n l) ≤ n
part_most at n l = omega (arith, length-take n (drop at l))

pub part_behind : (at n : ℕ) (l : List ℕ) → length (part at n l) ≤ length l - at
part_behind at n l = omega (arith, length-take n (drop at l), length-drop at l)

module _ (s : List ℕ) (long : length s ≡ slot_length) (b : Bytes s) where
  pub keyid_short : undamaged s ≡ true → key_id_length_of s ≤ key_id_room
  keyid_short u =
      let n : length (key_id_of s) ≡ key_id_length_of s = length_part key_id_at (key_id_length_of s) s (omega (arith, b key_id_length_at)) in
      let first : get_or (key_id_of s) 0 0 < 256 = bytes_take (key_id_length_of s) (drop key_id_at s) (bytes_drop key_id_at s b) 0 in
      omega (arith, (undamaged_sound s u).keyid_length, length_most (get_or (key_id_of s) 0 0) 0 first)

-- ---- four lines of what was read of a slot, and two

module _ (s l : List ℕ) (at : ℕ) (h : at ≤ length l) where
  pub named_written : {o₁ o₂ o₃ o₄ keyid source : List ℕ} {e₁ e₂ e₃ e₄ flag : ℕ} (i : ℕ) → Written l at (decimal_line slot_name i) o₁ e₁
      → flag ≡ flag_of s → Written o₁ e₁ (decimal_line flag_name flag) o₂ e₂
      → keyid ≡ key_id_of s → Written o₂ e₂ (hex_line key_id_name keyid) o₃ e₃
      → source ≡ source_of s → Written o₃ e₃ (hex_line source_name source) o₄ e₄
      → Written l at (named_lines i s) o₄ e₄
  unfolding named_lines
  named_written i slot a flag b keyid c source = rw (← c, ← b, ← a) (further (further (further slot h flag) h keyid) h source)

  pub terms_written : {o₁ o₂ o₃ o₄ : List ℕ} {e₁ e₂ e₃ e₄ suite edition : ℕ} {f : Frame} → suite ≡ cs_of s → Written l at (decimal_line suite_name suite) o₁ e₁
      → edition ≡ edition_of s → Written o₁ e₁ (decimal_line edition_name edition) o₂ e₂
      → f ≡ frame_of s → Written o₂ e₂ (decimal_line size_name f.size) o₃ e₃ → Written o₃ e₃ (decimal_line start_name f.start) o₄ e₄
      → Written l at (term_lines s) o₄ e₄
  unfolding term_lines
  terms_written {o₂ = o₂} {o₃} {o₄} {e₂ = e₂} {e₃} {e₄} a suite b edition f size start =
      let size_there : Written o₂ e₂ (decimal_line size_name (frame_of s).size) o₃ e₃ = rw f at size in
      let start_there : Written o₃ e₃ (decimal_line start_name (frame_of s).start) o₄ e₄ = rw f at start in
      rw (← b, ← a) (further (further (further suite h edition) h size_there) h start_there)

  pub moved_written : {o₁ o₂ o₃ o₄ highest marks : List ℕ} {e₁ e₂ e₃ e₄ accepted bytes : ℕ}
      → highest ≡ bytes_of 6 (window_of s).highest → Written l at (hex_line highest_name highest) o₁ e₁
      → marks ≡ bytes_of 32 (window_of s).marks → Written o₁ e₁ (hex_line marks_name marks) o₂ e₂
      → accepted ≡ big_endian 8 (drop accepted_at s) → Written o₂ e₂ (decimal_line accepted_name accepted) o₃ e₃
      → bytes ≡ big_endian 8 (drop bytes_at s) → Written o₃ e₃ (decimal_line bytes_name bytes) o₄ e₄
      → Written l at (moved_lines s) o₄ e₄
  unfolding moved_lines
  moved_written a highest b marks c accepted d bytes =
      rw (← a, ← b, ← c, ← d) (further (further (further highest h marks) h accepted) h bytes)

  pub counters_written : {o₁ o₂ : List ℕ} {e₁ e₂ : ℕ} {c : Counters} → c ≡ counters_of s → Written l at (decimal_line replays_name c.replays) o₁ e₁
      → Written o₁ e₁ (decimal_line forged_name c.forged) o₂ e₂ → Written l at (counter_lines s) o₂ e₂
  unfolding counter_lines
  counters_written {o₁} {o₂} {e₁} {e₂} e first second =
      let replays : Written l at (decimal_line replays_name (counters_of s).replays) o₁ e₁ = rw e at first in
      let forged : Written o₁ e₁ (decimal_line forged_name (counters_of s).forged) o₂ e₂ = rw e at second in
      further replays h forged
