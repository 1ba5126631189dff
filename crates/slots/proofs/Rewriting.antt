-- Writes into a slot behind what an install settled: they keep its key data and frame, and the table is one with that slot replaced.
-- Assumes nothing.
use mathlib.Core.Path.{◌≡◌, refl, sym, ap, ◌∙◌}
use mathlib.Core.List.{List}
use mathlib.Core.Logic.{◌⊎◌}
use Prim.Native.Nat.{ℕ, ◌+◌, ◌*◌, ◌≤◌, ◌<◌}
use native.Mathlib.Omega.{arith}
use lib.Dec.{lit≤}
use lib.ListN.{length, get_or, take, drop}
use Rattle.octets.specs.Octets.{big_endian, bytes_of, part, put}
use Rattle.octets.proofs.BigEndian.{length_bytes}
use Rattle.octets.proofs.Parts.{part_other, number_own, take_put, drop_put, alike_at, alike_part, alike_number, put_within}
use Rattle.octets.proofs.Places.{length_put}
use Rattle.format.proofs.Soundness.{key_data_is}
use Rattle.window.specs.Counters.{one_more}
use Rattle.slots.specs.declared.record.Counter.{Counter}
use Rattle.slots.specs.declared.record.Counter.TheVariants.{Replays, Forged}
use Rattle.slots.specs.Table.{slot_of, place_of, flag_of, cs_of, edition_of, key_id_length_of, key_id_of, source_length_of, source_of, key_of, key_data_of, frame_of, replaced, raised_in, raised, slot_length, slot_count, table_length, occupied_at, flag_at, suite_at, edition_at, key_id_length_at, key_id_at, key_id_room, source_length_at, source_at, source_room, key_at, size_at, start_at, highest_at, replays_at, spare_at}
use Rattle.slots.proofs.Replacing.{length_replaced, slot_own}
use Rattle.slots.proofs.Slots.{length_of_slot, slot_number}

-- all but window, totals and counters
pub record SameKeys (s other : List ℕ) : Type 0 where
  pub first : get_or other 0 0 ≡ get_or s 0 0
  pub flag : flag_of other ≡ flag_of s
  pub cs : cs_of other ≡ cs_of s
  pub edition : edition_of other ≡ edition_of s
  pub keyid_length : key_id_length_of other ≡ key_id_length_of s
  pub keyid : key_id_of other ≡ key_id_of s
  pub source_length : source_length_of other ≡ source_length_of s
  pub source : source_of other ≡ source_of s
  pub key : key_of other ≡ key_of s

pub same_keydata : {s other : List ℕ} → SameKeys s other → key_data_of other ≡ key_data_of s
same_keydata same = key_data_is same.flag same.keyid same.source same.cs same.edition same.key

-- ---- a slot

-- the same bytes around window, totals and counters
pub record Around (s other : List ℕ) : Type 0 where
  pub front : take highest_at other ≡ take highest_at s
  pub rest : drop spare_at other ≡ drop spare_at s

-- the same bytes up to window, totals and counters
module _ (s other : List ℕ) (long : length s ≡ slot_length) (full : length other ≡ slot_length) (front : take highest_at other ≡ take highest_at s) where
  byte : (n : ℕ) → n < highest_at → get_or other n 0 ≡ get_or s n 0
  byte = alike_at highest_at s other front

  piece : (at n : ℕ) → at + n ≤ highest_at → part at n other ≡ part at n s
  piece = alike_part highest_at s other front (rw long (lit≤ tt)) (rw full (lit≤ tt))

  pub front_keys : key_id_length_of s ≤ key_id_room → source_length_of s ≤ source_room → SameKeys s other
  front_keys k n =
      let keyid : key_id_length_of other ≡ key_id_length_of s = byte key_id_length_at (lit≤ tt) in
      let source : source_length_of other ≡ source_length_of s = byte source_length_at (lit≤ tt) in record {
        first = byte occupied_at (lit≤ tt);
        flag = byte flag_at (lit≤ tt);
        cs = byte suite_at (lit≤ tt);
        edition = byte edition_at (lit≤ tt);
        keyid_length = keyid;
        keyid = ap (λ (x : ℕ). part key_id_at x other) keyid ∙ piece key_id_at (key_id_length_of s) (omega arith);
        source_length = source;
        source = ap (λ (x : ℕ). part source_at x other) source ∙ piece source_at (source_length_of s) (omega arith);
        key = piece key_at 32 (lit≤ tt);
      }

  pub front_frame : frame_of other ≡ frame_of s
  front_frame = rw (alike_number highest_at s other front size_at 8 (lit≤ tt), alike_number highest_at s other front start_at 8 (lit≤ tt))

-- a write behind what an install settled, and before the two bytes that nothing uses
module _ (s : List ℕ) (at : ℕ) (new : List ℕ) (long : length s ≡ slot_length) (behind : highest_at ≤ at) (fits : at + length new ≤ spare_at) where
  room : at + length new ≤ length s
  room = omega arith

  pub length_written : length (put s at new) ≡ slot_length
  length_written = length_put s at new room ∙ long

  pub written_around : Around s (put s at new)
  written_around = record { front = take_put s at new room highest_at behind; rest = drop_put s at new room spare_at fits }

-- each counter stands there
pub place_within : (c : Counter) → (replays_at ≤ place_of c) × (place_of c + 8 ≤ spare_at)
place_within Replays = (lit≤ tt, lit≤ tt)
place_within Forged = (lit≤ tt, lit≤ tt)

-- ---- a table

-- u is the table t with slot i written so, which is then s
pub record Rewritten (t : List ℕ) (i : ℕ) (s u : List ℕ) : Type 0 where
  pub full : length s ≡ slot_length
  pub around : Around (slot_of t i) s
  pub is : u ≡ replaced t i s

module _ (t : List ℕ) (i : ℕ) (long : length t ≡ table_length) (small : i < slot_count) where
  -- a write into the table, within slot i
  pub in_slot : (at : ℕ) (new : List ℕ) → at + length new ≤ slot_length → put t (slot_length * i + at) new ≡ replaced t i (put (slot_of t i) at new)
  in_slot at new fits = put_within t (slot_length * i) slot_length at new (omega arith) fits

  -- bytes behind what an install settled
  pub rewritten : (at : ℕ) (new : List ℕ) → highest_at ≤ at → at + length new ≤ spare_at → Rewritten t i (put (slot_of t i) at new) (replaced t i (put (slot_of t i) at new))
  rewritten at new behind fits =
      let whole = length_of_slot t i long small in
      record { full = length_written (slot_of t i) at new whole behind fits; around = written_around (slot_of t i) at new whole behind fits; is = refl }

  -- one refusal more in a counter
  pub raised_rewritten : (at : ℕ) → replays_at ≤ at → at + 8 ≤ spare_at → Rewritten t i (raised_in at (slot_of t i)) (raised t i at)
  unfolding raised
  raised_rewritten at behind fits = rewritten at _ (omega arith) (rw length_bytes fits)

  -- what that changes: the counter has one more, or stays at its limit, and no other byte moves
  module _ (at : ℕ) (fits : at + 8 ≤ slot_length) where
    pub in_place : raised t i at ≡ put t (slot_length * i + at) (bytes_of 8 (one_more (big_endian 8 (drop (slot_length * i + at) t))))
    unfolding raised
    in_place =
        ap (λ (n : ℕ). replaced t i (put (slot_of t i) at (bytes_of 8 (one_more n)))) (slot_number t i at 8 fits)
        ∙ sym (in_slot at _ (rw length_bytes fits))

    pub raised_counter : big_endian 8 (drop (slot_length * i + at) (raised t i at)) ≡ one_more (big_endian 8 (drop (slot_length * i + at) t))
    raised_counter = rw in_place (number_own t (slot_length * i + at) 8 (one_more (big_endian 8 (drop (slot_length * i + at) t))) (omega arith) (omega arith))

    pub raised_elsewhere : (b n : ℕ) → b + n ≤ table_length → (b + n ≤ slot_length * i + at) ⊎ (slot_length * i + at + 8 ≤ b) → part b n (raised t i at) ≡ part b n t
    raised_elsewhere b n h beside =
        let new = bytes_of 8 (one_more (big_endian 8 (drop (slot_length * i + at) t))) in
        rw in_place (part_other t (slot_length * i + at) new (rw length_bytes (omega arith)) b n (rw long h) (rw length_bytes beside))

  module _ {s u : List ℕ} (w : Rewritten t i s u) where
    pub rewritten_length : length u ≡ table_length
    rewritten_length = ap length w.is ∙ length_replaced t i s long small w.full

    pub rewritten_slot : slot_of u i ≡ s
    rewritten_slot = ap (λ (x : List ℕ). slot_of x i) w.is ∙ slot_own t i s long small w.full

    pub rewritten_keys : key_id_length_of (slot_of t i) ≤ key_id_room → source_length_of (slot_of t i) ≤ source_room → SameKeys (slot_of t i) s
    rewritten_keys = front_keys (slot_of t i) s (length_of_slot t i long small) w.full w.around.front
