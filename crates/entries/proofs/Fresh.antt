-- A fresh entry's slot: its length, what stands in it where, that it matches its key data, and that it is undamaged.
-- Assumes nothing.
use mathlib.Core.Path.{◌≡◌, sym, ap, ◌∙◌}
use mathlib.Core.Bool.{true}
use mathlib.Core.List.{List, [], ◌∷◌, ◌++◌, map, append_assoc, append-nil}
use Prim.Native.Nat.{ℕ, ◌-◌, ◌<◌}
use native.Mathlib.Omega.{arith}
use lib.Dec.{lit<, lit≤}
use lib.ListN.{length, get_or, replicate, length-append, length-replicate}
use Rattle.window.specs.declared.Frame.{Frame}
use Rattle.format.specs.KeyData.{KeyData, sound_of}
use Rattle.octets.specs.Octets.{bytes_of}
use Rattle.octets.proofs.BigEndian.{length_bytes}
use Rattle.format.proofs.Soundness.{Sound, sound_test, key_data_is}
use Rattle.window.specs.Entry.{fresh_entry}
use Rattle.window.specs.Window.{sound_frame}
use Rattle.window.proofs.Entries.{entry_test, fresh_entry_undamaged}
use Rattle.window.proofs.Undamaged.{SoundFrame, frame_facts}
use Rattle.slots.specs.Table.{flag_of, cs_of, edition_of, key_id_length_of, key_id_of, source_length_of, source_of, key_of, entry_of, slot_length, occupied_at, highest_at, marks_at, accepted_at, bytes_at, replays_at, forged_at, key_id_room, source_room, key_data_of}
use Rattle.slots.specs.Record.{undamaged}
use Rattle.entries.specs.Fresh.{padded, prefixed, head_of, frame_bytes, fresh_slot}
use Rattle.entries.proofs.Bounds.{keyid_most, suite_byte, edition_byte}
use Rattle.slots.proofs.Damage.{undamaged_by_entry}
use Rattle.lookup.specs.Lookup.{matches}
use Rattle.lookup.proofs.Matching.{match_test}
use Rattle.slots.proofs.Standing.{Lies, joined, ahead, lies, starts_with, piece, number, byte, zeros}
use Rattle.entries.proofs.Stretches.{length_padded}

-- the parts of a slot, but for window, totals and counters
pub record Parts (k : KeyData) (s : List ℕ) : Type 0 where
  pub first : get_or s occupied_at 0 ≡ 1
  pub flag_is : flag_of s ≡ k.flag
  pub cs_is : cs_of s ≡ k.suite
  pub edition_is : edition_of s ≡ k.edition
  pub keyid_length : key_id_length_of s ≡ length k.key_id
  pub keyid_is : key_id_of s ≡ k.key_id
  pub source_length : source_length_of s ≡ length k.source
  pub source_is : source_of s ≡ k.source
  pub key_is : key_of s ≡ k.key

parts_keydata : {k : KeyData} {s : List ℕ} → Parts k s → key_data_of s ≡ k
parts_keydata p = key_data_is p.flag_is p.keyid_is p.source_is p.cs_is p.edition_is p.key_is

-- of key data that is sound, with a KeyId of bytes
module _ {k : KeyData} (sound : Sound k) (b : get_or k.key_id 0 0 < 256) (f : Frame) where
  -- all but the zeros at the end
  abbrev filled : List ℕ
  filled = head_of k.flag k.suite k.edition ++ prefixed key_id_room k.key_id ++ prefixed source_room k.source ++ k.key ++ frame_bytes f

  length_filled : length filled ≡ highest_at
  length_filled =
      simp (length-append, length_bytes, length-replicate, sound.key_length) (omega (arith, keyid_most sound b, sound.source_most))

  pub length_fresh : length (fresh_slot k f) ≡ slot_length
  unfolding fresh_slot
  length_fresh = length_padded slot_length filled (rw length_filled (lit≤ tt))

  -- the stretches that it is made of, and their lengths
  abbrev stretches : List (List ℕ)
  stretches =
      bytes_of 1 1 ∷ bytes_of 1 k.flag ∷ bytes_of 1 k.suite ∷ bytes_of 1 k.edition
      ∷ bytes_of 1 (length k.key_id) ∷ padded key_id_room k.key_id ∷ bytes_of 1 (length k.source) ∷ padded source_room k.source
      ∷ k.key ∷ bytes_of 8 f.size ∷ bytes_of 8 f.start ∷ replicate (slot_length - highest_at) 0 ∷ []

  abbrev lengths : List ℕ
  lengths = 1 ∷ 1 ∷ 1 ∷ 1 ∷ 1 ∷ key_id_room ∷ 1 ∷ source_room ∷ 32 ∷ 8 ∷ 8 ∷ (slot_length - highest_at) ∷ []

  in_stretches : fresh_slot k f ≡ joined stretches
  unfolding fresh_slot
  in_stretches = ap (λ (n : ℕ). filled ++ replicate (slot_length - n) 0) length_filled ∙ simp (append_assoc, append-nil)

  of_lengths : map length stretches ≡ lengths
  of_lengths =
      simp (length_bytes, length_padded key_id_room k.key_id (keyid_most sound b), length_padded source_room k.source sound.source_most, sound.key_length)

  there : (j : ℕ) → Lies (fresh_slot k f) (ahead lengths j) (get_or stretches j [])
  there j = rw in_stretches (lies stretches lengths of_lengths j)

  pub fresh_parts : Parts k (fresh_slot k f)
  fresh_parts =
      let most = keyid_most sound b in
      let keyid : key_id_length_of (fresh_slot k f) ≡ length k.key_id = byte (length k.key_id) (there 4) (omega arith) in
      let source : source_length_of (fresh_slot k f) ≡ length k.source = byte (length k.source) (there 6) (omega (arith, sound.source_most)) in record {
        first = byte 1 (there 0) (lit< tt);
        flag_is = byte k.flag (there 1) (omega (arith, sound.flag_small));
        cs_is = byte k.suite (there 2) (suite_byte sound);
        edition_is = byte k.edition (there 3) (edition_byte sound);
        keyid_length = keyid;
        keyid_is = rw keyid (piece (starts_with k.key_id (replicate (key_id_room - length k.key_id) 0) (there 5)));
        source_length = source;
        source_is = rw source (piece (starts_with k.source (replicate (source_room - length k.source) 0) (there 7)));
        key_is = rw sound.key_length at (piece (there 8));
      }

  pub fresh_entry_is : SoundFrame f → entry_of (fresh_slot k f) ≡ fresh_entry f
  fresh_entry_is s =
      rw (
        number 8 f.size (there 9) (omega (arith, s.size_high)),
        number 8 f.start (there 10) (omega (arith, s.start_high)),
        zeros (slot_length - highest_at) (there 11) 0 8 (lit≤ tt),
        zeros (slot_length - highest_at) (there 11) (marks_at - highest_at) 32 (lit≤ tt),
        zeros (slot_length - highest_at) (there 11) (accepted_at - highest_at) 8 (lit≤ tt),
        zeros (slot_length - highest_at) (there 11) (bytes_at - highest_at) 8 (lit≤ tt),
        zeros (slot_length - highest_at) (there 11) (replays_at - highest_at) 8 (lit≤ tt),
        zeros (slot_length - highest_at) (there 11) (forged_at - highest_at) 8 (lit≤ tt),
      )

  -- it holds the key data, matches it, and is undamaged
  pub fresh_keydata : key_data_of (fresh_slot k f) ≡ k
  fresh_keydata = parts_keydata fresh_parts

  pub fresh_matches : matches k.flag k.key_id k.source (fresh_slot k f) ≡ true
  fresh_matches =
      let p = fresh_parts in
      match_test k.flag k.key_id k.source (fresh_slot k f)
      (record {
        held = λ e. omega (arith, p.first);
        keyid_short = omega (arith, p.keyid_length, keyid_most sound b);
        source_short = omega (arith, p.source_length, sound.source_most);
        flag_same = p.flag_is;
        keyid_same = p.keyid_is;
      })
      (λ other. p.source_is)

  pub fresh_undamaged : sound_frame f ≡ true → undamaged (fresh_slot k f) ≡ true
  fresh_undamaged framed =
      let s = fresh_slot k f in
      sym (undamaged_by_entry s (ap sound_of fresh_keydata ∙ sound_test k sound))
      ∙ entry_test (entry_of s) (rw (fresh_entry_is (frame_facts f framed)) (fresh_entry_undamaged f framed))
