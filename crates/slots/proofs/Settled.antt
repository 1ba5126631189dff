-- What is written of an entry is read back: window and totals, one counter, or all of them; and where all around them is the same, so is the slot.
-- Assumes nothing.
use mathlib.Core.Path.{◌≡◌, sym, ap, ◌∙◌}
use mathlib.Core.List.{List, [], ◌∷◌, ◌++◌, map, append_assoc, append-nil}
use mathlib.Core.Logic.{inl, inr}
use Prim.Native.Nat.{ℕ, ◌+◌, ◌-◌, ◌^◌, ◌≤◌, ◌<◌}
use native.Mathlib.Omega.{arith}
use lib.Dec.{lit≤}
use lib.ListN.{length, get_or, take, drop, length-append, length-drop, take-append-drop}
use lib.Seq.{length-take-le, take-add, drop-drop}
use Rattle.octets.specs.Octets.{Bytes, big_endian, bytes_of, part, put}
use Rattle.octets.proofs.BigEndian.{length_bytes, bytes_number, bytes_drop}
use Rattle.octets.proofs.Parts.{number_other, number_own}
use Rattle.octets.proofs.Places.{put_behind}
use Rattle.window.specs.declared.Counters.{Counters}
use Rattle.window.specs.declared.Frame.{Frame}
use Rattle.window.specs.Counters.{one_more, one_replay, one_forgery}
use Rattle.window.specs.Entry.{Entry, counting}
use Rattle.window.proofs.Entries.{UndamagedEntry, totals_small}
use Rattle.window.proofs.Undamaged.{undamaged_facts, marks_small}
use Rattle.slots.specs.Table.{slot_of, window_of, counters_of, entry_of, history_bytes, counter_bytes, settled_in, settled, restored_in, restored, raised_in, slot_length, slot_count, table_length, size_at, start_at, highest_at, marks_at, accepted_at, bytes_at, replays_at, forged_at, spare_at}
use Rattle.slots.proofs.Rewriting.{Around, Rewritten, length_written, written_around, front_frame, rewritten, rewritten_slot}
use Rattle.slots.proofs.Slots.{length_of_slot}
use Rattle.slots.proofs.Standing.{Lies, joined, ahead, lies, number}

-- numbers that fit into their places, as those of an undamaged entry do
pub record Fits (e : Entry) : Type 0 where
  pub highest : e.window.highest < 2 ^ 64
  pub marks : e.window.marks < 2 ^ 256
  pub accepted : e.accepted < 2 ^ 64
  pub bytes : e.bytes < 2 ^ 64
  pub replays : e.counters.replays < 2 ^ 64
  pub forged : e.counters.forged < 2 ^ 64

pub undamaged_fits : {e : Entry} → UndamagedEntry e → Fits e
undamaged_fits {e} w =
    let u = undamaged_facts e.window w.window in
    let t = totals_small e w in record {
      highest = omega (arith, u.high);
      marks = marks_small u;
      accepted = omega (arith, t.0);
      bytes = omega (arith, t.1);
      replays = omega (arith, w.few_replays);
      forged = omega (arith, w.few_forged);
    }

pub length_history : (e : Entry) → length (history_bytes e) ≡ replays_at - highest_at
length_history e = simp (length-append, length_bytes)

pub length_all : (e : Entry) → length (history_bytes e ++ counter_bytes e.counters) ≡ spare_at - highest_at
length_all e = simp (length-append, length_bytes)

-- ---- window and totals in a slot

-- four stretches in a row, written into a list, and what they leave of it before and behind them
row_of_four : (s a b c d : List ℕ) (at n : ℕ) → length (a ++ b ++ c ++ d) ≡ n
    → put s at (a ++ b ++ c ++ d) ≡ joined (take at s ∷ a ∷ b ∷ c ∷ d ∷ drop (at + n) s ∷ [])
row_of_four s a b c d at n e = rw e (simp (append_assoc, append-nil))

module _ (s : List ℕ) (e : Entry) (long : length s ≡ slot_length) where
  abbrev now : List ℕ
  now = settled_in e s

  fits_in : highest_at + length (history_bytes e) ≤ spare_at
  fits_in = rw (length_history e) (lit≤ tt)

  pub length_now : length now ≡ slot_length
  length_now = length_written s highest_at (history_bytes e) long (lit≤ tt) fits_in

  pub settled_around : Around s now
  settled_around = written_around s highest_at (history_bytes e) long (lit≤ tt) fits_in

  -- the stretches that it is made of, and their lengths
  abbrev stretches : List (List ℕ)
  stretches =
      take highest_at s ∷ bytes_of 8 e.window.highest ∷ bytes_of 32 e.window.marks ∷ bytes_of 8 e.accepted ∷ bytes_of 8 e.bytes
      ∷ drop replays_at s ∷ []

  abbrev lengths : List ℕ
  lengths = highest_at ∷ 8 ∷ 32 ∷ 8 ∷ 8 ∷ (slot_length - replays_at) ∷ []

  in_stretches : now ≡ joined stretches
  in_stretches =
      row_of_four s (bytes_of 8 e.window.highest) (bytes_of 32 e.window.marks) (bytes_of 8 e.accepted) (bytes_of 8 e.bytes) highest_at (replays_at - highest_at) (length_history e)

  of_lengths : map length stretches ≡ lengths
  of_lengths = simp (length_bytes, length-take-le highest_at s (rw long (lit≤ tt)), length-drop, long)

  there : (j : ℕ) → Lies now (ahead lengths j) (get_or stretches j [])
  there j = rw in_stretches (lies stretches lengths of_lengths j)

  -- a counter stands behind them
  behind : (at : ℕ) → replays_at ≤ at → big_endian 8 (drop at now) ≡ big_endian 8 (drop at s)
  behind at h = number_other s highest_at (history_bytes e) (rw (length_history e, long) (lit≤ tt)) at 8 (inr (rw (length_history e) h))

  -- the entry, with the counters of the slot
  pub settled_entry : Fits e → (window_of s).frame ≡ e.window.frame → entry_of now ≡ counting e (counters_of s)
  settled_entry fits frame =
      rw (
        front_frame s now long length_now settled_around.front,
        number 8 e.window.highest (there 1) fits.highest,
        number 32 e.window.marks (there 2) fits.marks,
        number 8 e.accepted (there 3) fits.accepted,
        number 8 e.bytes (there 4) fits.bytes,
        behind replays_at (lit≤ tt),
        behind forged_at (lit≤ tt),
      )
      (ap (λ (f : Frame). record { window = record { frame = f; highest = e.window.highest; marks = e.window.marks }; accepted = e.accepted; bytes = e.bytes; counters = counters_of s }) frame)

-- ---- a counter in a slot

-- eight bytes behind the totals: what stands before them, and a counter beside them, is as it was
module _ (s : List ℕ) (x at : ℕ) (long : length s ≡ slot_length) (behind : replays_at ≤ at) (within : at + 8 ≤ spare_at) where
  abbrev one : List ℕ
  one = put s at (bytes_of 8 x)

  room : at + length (bytes_of 8 x) ≤ length s
  room = rw (length_bytes, long) (omega arith)

  before : (b n : ℕ) → b + n ≤ replays_at → big_endian n (drop b one) ≡ big_endian n (drop b s)
  before b n h = number_other s at (bytes_of 8 x) room b n (inl (omega arith))

  written : x < 2 ^ 64 → big_endian 8 (drop at one) ≡ x
  written small = number_own s at 8 x (omega arith) small

  counted : {c : Counters} → counters_of one ≡ c → entry_of one ≡ counting (entry_of s) c
  counted e =
      rw (before size_at 8 (lit≤ tt), before start_at 8 (lit≤ tt), before highest_at 8 (lit≤ tt), before marks_at 32 (lit≤ tt), before accepted_at 8 (lit≤ tt), before bytes_at 8 (lit≤ tt))
      (ap (counting (entry_of s)) e)

module _ (s : List ℕ) (x : ℕ) (long : length s ≡ slot_length) (small : x < 2 ^ 64) where
  pub replays_entry : entry_of (put s replays_at (bytes_of 8 x)) ≡ counting (entry_of s) (record { replays = x; forged = (counters_of s).forged })
  replays_entry =
      counted s x replays_at long (lit≤ tt) (lit≤ tt)
      (rw (
        written s x replays_at long (lit≤ tt) (lit≤ tt) small,
        number_other s replays_at (bytes_of 8 x) (rw (length_bytes, long) (lit≤ tt)) forged_at 8 (inr (rw length_bytes (lit≤ tt))),
      ))

  pub forged_entry : entry_of (put s forged_at (bytes_of 8 x)) ≡ counting (entry_of s) (record { replays = (counters_of s).replays; forged = x })
  forged_entry =
      counted s x forged_at long (lit≤ tt) (lit≤ tt)
      (rw (
        number_other s forged_at (bytes_of 8 x) (rw (length_bytes, long) (lit≤ tt)) replays_at 8 (inl (lit≤ tt)),
        written s x forged_at long (lit≤ tt) (lit≤ tt) small,
      ))

-- one refusal more
module _ (s : List ℕ) (long : length s ≡ slot_length) where
  pub raised_replays : entry_of (raised_in replays_at s) ≡ counting (entry_of s) (one_replay (counters_of s))
  raised_replays = replays_entry s (one_more (big_endian 8 (drop replays_at s))) long (omega arith)

  pub raised_forged : entry_of (raised_in forged_at s) ≡ counting (entry_of s) (one_forgery (counters_of s))
  raised_forged = forged_entry s (one_more (big_endian 8 (drop forged_at s))) long (omega arith)

-- ---- all of them in a slot

module _ (s : List ℕ) (e : Entry) (long : length s ≡ slot_length) where
  abbrev all : List ℕ
  all = restored_in e s

  pub length_restored : length all ≡ slot_length
  length_restored = length_written s highest_at (history_bytes e ++ counter_bytes e.counters) long (lit≤ tt) (rw (length_all e) (lit≤ tt))

  -- one write behind the other
  pub by_parts : put (put (put s highest_at (history_bytes e)) replays_at (bytes_of 8 e.counters.replays)) forged_at (bytes_of 8 e.counters.forged) ≡ all
  by_parts =
      ap (λ (u : List ℕ). put u forged_at (bytes_of 8 e.counters.forged))
      (put_behind s highest_at replays_at (history_bytes e) (bytes_of 8 e.counters.replays) (rw long (lit≤ tt)) (rw (length_history e)))
      ∙ put_behind s highest_at forged_at (history_bytes e ++ bytes_of 8 e.counters.replays) (bytes_of 8 e.counters.forged) (rw long (lit≤ tt)) (simp (length-append, length_bytes))
      ∙ ap (put s highest_at) (append_assoc (history_bytes e) (bytes_of 8 e.counters.replays) (bytes_of 8 e.counters.forged))

  pub restored_entry : Fits e → (window_of s).frame ≡ e.window.frame → entry_of all ≡ e
  restored_entry fits frame =
      let first = settled_in e s in
      let full = length_now s e long in
      let second = put first replays_at (bytes_of 8 e.counters.replays) in
      let whole = length_written first replays_at (bytes_of 8 e.counters.replays) full (lit≤ tt) (rw length_bytes (lit≤ tt)) in
      let settles = settled_entry s e long fits frame in
      let replays = replays_entry first e.counters.replays full fits.replays in
      ap entry_of (sym by_parts) ∙ forged_entry second e.counters.forged whole fits.forged
      ∙ ap (λ (x : Entry). counting x (record { replays = x.counters.replays; forged = e.counters.forged })) replays
      ∙ ap (λ (x : Entry). counting x e.counters) settles

-- ---- the history of a slot

-- four stretches of a list in a row are one
one_stretch : (l : List ℕ) (a b c d : ℕ) → take a l ++ take b (drop a l) ++ take c (drop (a + b) l) ++ take d (drop (a + b + c) l) ≡ take (a + b + c + d) l
one_stretch l a b c d = sym (take-add (a + b + c) d l ∙ ap (λ (u : List ℕ). u ++ take d (drop (a + b + c) l)) (take-add (a + b) c l ∙ ap (λ (u : List ℕ). u ++ take c (drop (a + b) l)) (take-add a b l)))

-- an entry of bytes, written into a slot that has the same bytes around it, makes it that slot
module _ (s other : List ℕ) (long : length s ≡ slot_length) (b : Bytes s) where
  number_bytes : (at n : ℕ) → at + n ≤ slot_length → bytes_of n (big_endian n (drop at s)) ≡ take n (drop at s)
  number_bytes at n h = bytes_number n (drop at s) (rw (length-drop at s, long) (omega arith)) (bytes_drop at s b)

  history_part : history_bytes (entry_of s) ≡ part highest_at (replays_at - highest_at) s
  history_part =
      rw (number_bytes highest_at 8 (lit≤ tt), number_bytes marks_at 32 (lit≤ tt), number_bytes accepted_at 8 (lit≤ tt), number_bytes bytes_at 8 (lit≤ tt))
      (rw (drop-drop 8 highest_at s, drop-drop 40 highest_at s, drop-drop 48 highest_at s) at (one_stretch (drop highest_at s) 8 32 8 8))

  bytes_of_counter : counter_bytes (counters_of s) ≡ part replays_at (spare_at - replays_at) s
  bytes_of_counter =
      rw (number_bytes replays_at 8 (lit≤ tt), number_bytes forged_at 8 (lit≤ tt))
      (rw (drop-drop 8 replays_at s) at (sym (take-add 8 8 (drop replays_at s))))

  all_bytes : history_bytes (entry_of s) ++ counter_bytes (counters_of s) ≡ part highest_at (spare_at - highest_at) s
  all_bytes =
      rw (history_part, bytes_of_counter)
      (rw (drop-drop (replays_at - highest_at) highest_at s) at (sym (take-add (replays_at - highest_at) (spare_at - replays_at) (drop highest_at s))))

  pub same_around : Around s other → restored_in (entry_of s) other ≡ s
  same_around a =
      rw (length_all (entry_of s), all_bytes, a.front, a.rest, ← take-add highest_at (spare_at - highest_at) s) (take-append-drop spare_at s)

-- ---- a table

module _ (t : List ℕ) (i : ℕ) (e : Entry) (long : length t ≡ table_length) (small : i < slot_count) where
  pub settled_rewritten : Rewritten t i (settled_in e (slot_of t i)) (settled t i e)
  unfolding settled
  settled_rewritten = rewritten t i long small highest_at (history_bytes e) (lit≤ tt) (rw (length_history e) (lit≤ tt))

  pub restored_rewritten : Rewritten t i (restored_in e (slot_of t i)) (restored t i e)
  unfolding restored
  restored_rewritten = rewritten t i long small highest_at (history_bytes e ++ counter_bytes e.counters) (lit≤ tt) (rw (length_all e) (lit≤ tt))

  -- the entry after it
  pub entry_settled : Fits e → (window_of (slot_of t i)).frame ≡ e.window.frame → counters_of (slot_of t i) ≡ e.counters → entry_of (slot_of (settled t i e) i) ≡ e
  entry_settled fits frame counters =
      ap entry_of (rewritten_slot t i long small settled_rewritten) ∙ settled_entry (slot_of t i) e (length_of_slot t i long small) fits frame ∙ ap (counting e) counters

  pub entry_restored : Fits e → (window_of (slot_of t i)).frame ≡ e.window.frame → entry_of (slot_of (restored t i e) i) ≡ e
  entry_restored fits frame = ap entry_of (rewritten_slot t i long small restored_rewritten) ∙ restored_entry (slot_of t i) e (length_of_slot t i long small) fits frame
