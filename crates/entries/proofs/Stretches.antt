-- Bytes with zeros behind them: their length, and how they are written.
-- Assumes nothing.
use mathlib.Core.Path.{◌≡◌, refl, ap, ◌∙◌}
use mathlib.Core.List.{List, ◌++◌, append_assoc, append-nil}
use Prim.Native.Nat.{ℕ, ◌+◌, ◌-◌, ◌≤◌}
use native.Mathlib.Omega.{arith}
use lib.Dec.{lit≤}
use lib.ListN.{length, replicate, length-append, length-replicate, drop_of_length-le}
use Rattle.octets.specs.Octets.{bytes_of, put}
use Rattle.octets.proofs.BigEndian.{length_bytes}
use Rattle.octets.proofs.Places.{Written, and_then}
use Rattle.format.specs.KeyData.{KeyData}
use Rattle.window.specs.declared.Frame.{Frame}
use Rattle.slots.specs.Table.{slot_length, key_id_length_at, source_length_at, key_at, size_at, highest_at, key_id_room, source_room}
use Rattle.entries.specs.Fresh.{FitsSlot, padded, prefixed, head_of, frame_bytes, fresh_slot}

pub length_padded : (n : ℕ) (bytes : List ℕ) → length bytes ≤ n → length (padded n bytes) ≡ n
length_padded n bytes h = simp (length-append, length-replicate) (omega arith)

-- n bytes are written, and zeros behind them
pub and_zeros : {l u now : List ℕ} {at : ℕ} (n : ℕ) → Written l at u now (at + n) → at ≤ length l → {next : List ℕ} (m : ℕ)
    → next ≡ put now (at + n) (replicate (m - n) 0) → next ≡ put l at (padded m u)
and_zeros {l} {u} {at = at} n w room m e =
    let long : n ≡ length u = omega (arith, w.ends) in
    (and_then w room (replicate (m - n) 0) _ refl e).is ∙ ap (λ (i : ℕ). put l at (u ++ replicate (m - i) 0)) long

pub length_prefixed : (room : ℕ) (bytes : List ℕ) → length bytes ≤ room → length (prefixed room bytes) ≡ 1 + room
length_prefixed room bytes h = simp (length-append, length_bytes, length-replicate) (omega arith)

-- a length, the bytes behind it, and zeros behind them
pub prefixed_written : (l : List ℕ) (at : ℕ) (bytes : List ℕ) (room : ℕ) → at ≤ length l → {one two three : List ℕ}
    → one ≡ put l at (bytes_of 1 (length bytes)) → two ≡ put one (at + 1) bytes → three ≡ put two (at + 1 + length bytes) (replicate (room - length bytes) 0)
    → three ≡ put l at (prefixed room bytes)
prefixed_written l at bytes room fits {one} e f g =
    let count : Written l at (bytes_of 1 (length bytes)) one (at + 1) = record { ends = rw length_bytes; is = e } in
    let held = and_then count fits bytes (at + 1 + length bytes) refl f in
    (and_then held fits (replicate (room - length bytes) 0) _ refl g).is
    ∙ ap (put l at) (append_assoc (bytes_of 1 (length bytes)) bytes (replicate (room - length bytes) 0))

-- a list written over all of another
pub put_whole : (l new : List ℕ) → length new ≡ length l → put l 0 new ≡ new
put_whole l new e = ap (λ (u : List ℕ). new ++ u) (drop_of_length-le l (omega arith)) ∙ append-nil new

-- ---- a fresh entry

pub length_head : (flag suite edition : ℕ) → length (head_of flag suite edition) ≡ 4
length_head flag suite edition = simp (length-append, length_bytes)

pub length_frame : (f : Frame) → length (frame_bytes f) ≡ 16
length_frame f = simp (length-append, length_bytes)

module _ (k : KeyData) (f : Frame) (fits : FitsSlot k) where
  abbrev filled : List ℕ
  filled = head_of k.flag k.suite k.edition ++ prefixed key_id_room k.key_id ++ prefixed source_room k.source ++ k.key ++ frame_bytes f

  length_filled : length filled ≡ highest_at
  length_filled = simp (length-append, length_bytes, length-replicate, fits.key) (omega arith)

  pub length_entry : length (fresh_slot k f) ≡ slot_length
  unfolding fresh_slot
  length_entry = length_padded slot_length filled (rw length_filled (lit≤ tt))

  -- its stretches are written, each behind the last
  pub fills : (s : List ℕ) → length s ≡ slot_length → {one two three four five six : List ℕ}
      → one ≡ put s 0 (head_of k.flag k.suite k.edition) → two ≡ put one key_id_length_at (prefixed key_id_room k.key_id)
      → three ≡ put two source_length_at (prefixed source_room k.source) → four ≡ put three key_at k.key → five ≡ put four size_at (frame_bytes f)
      → six ≡ put five highest_at (replicate (slot_length - highest_at) 0) → six ≡ put s 0 (fresh_slot k f)
  unfolding fresh_slot
  fills s long {one} e g h i j last =
      let head : Written s 0 (head_of k.flag k.suite k.edition) one key_id_length_at = record { ends = rw (length_head k.flag k.suite k.edition); is = e } in
      let named = and_then head (omega arith) (prefixed key_id_room k.key_id) source_length_at (rw (length_prefixed key_id_room k.key_id fits.key_id)) g in
      let sourced = and_then named (omega arith) (prefixed source_room k.source) key_at (rw (length_prefixed source_room k.source fits.source)) h in
      let keyed_there = and_then sourced (omega arith) k.key size_at (rw fits.key) i in
      let framed = and_then keyed_there (omega arith) (frame_bytes f) highest_at (rw (length_frame f)) j in
      and_zeros highest_at framed (omega arith) slot_length last
