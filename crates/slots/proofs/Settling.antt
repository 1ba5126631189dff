-- Window, totals and counters are written into a slot one behind the other, the marks word by word.
-- Assumes nothing.
use mathlib.Core.Path.{◌≡◌, sym, ap, ◌∙◌}
use mathlib.Core.List.{List, ◌++◌, append_assoc}
use Prim.Native.Nat.{ℕ, ◌+◌, ◌*◌, ◌≤◌}
use native.Mathlib.Nat.{add_assoc}
use native.Mathlib.Omega.{arith}
use lib.ListN.{length, get_or, take, drop}
use lib.Seq.{drop-drop}
use Rattle.numbers.specs.Digits.{from_digits}
use Rattle.numbers.proofs.FromDigits.{Digits}
use Rattle.octets.specs.Octets.{bytes_of, part, put}
use Rattle.octets.proofs.BigEndian.{length_bytes}
use Rattle.octets.proofs.Places.{put_four}
use Rattle.window.specs.Entry.{Entry}
use Rattle.words.proofs.FourWords.{four_is}
use Rattle.slots.specs.Table.{slot_of, history_bytes, settled_in, restored_in, replaced, slot_length, highest_at, marks_at, accepted_at, bytes_at, replays_at, forged_at}
use Rattle.slots.proofs.Settled.{by_parts}
use Rattle.slots.proofs.Windows.{marks_bytes}

pub marks_put : (l one two three last : List ℕ) (at : ℕ) (m : List ℕ) → at ≤ length l → length m ≡ 4 → Digits 64 m
    → one ≡ put l at (bytes_of 8 (get_or m 3 0)) → two ≡ put one (at + 8) (bytes_of 8 (get_or m 2 0)) → three ≡ put two (at + 16) (bytes_of 8 (get_or m 1 0))
    → last ≡ put three (at + 24) (bytes_of 8 (get_or m 0 0)) → last ≡ put l at (bytes_of 32 (from_digits 64 m))
marks_put l one two three last at m h n d e f g k =
    let word : ℕ → List ℕ = λ i. bytes_of 8 (get_or m i 0) in
    put_four l one two three last at (at + 8) (at + 16) (at + 24) (word 3) (word 2) (word 1) (word 0) h
    (rw length_bytes)
    (rw length_bytes (add_assoc at 8 8))
    (rw length_bytes (add_assoc at 16 8))
    e f g k
    ∙ ap (put l at) (sym (ap (λ (x : List ℕ). bytes_of 32 (from_digits 64 x)) (sym (four_is m n)) ∙ marks_bytes _ _ _ (get_or m 3 0) (d 0) (d 1) (d 2)))

-- a slot's window and totals
pub settled_put : (s one two three last : List ℕ) (e : Entry) → length s ≡ slot_length
    → one ≡ put s highest_at (bytes_of 8 e.window.highest) → two ≡ put one marks_at (bytes_of 32 e.window.marks)
    → three ≡ put two accepted_at (bytes_of 8 e.accepted) → last ≡ put three bytes_at (bytes_of 8 e.bytes) → last ≡ settled_in e s
settled_put s one two three last e long f g h k =
    put_four s one two three last highest_at marks_at accepted_at bytes_at
    (bytes_of 8 e.window.highest) (bytes_of 32 e.window.marks) (bytes_of 8 e.accepted) (bytes_of 8 e.bytes) (omega arith)
    (rw length_bytes) (rw length_bytes) (rw length_bytes)
    f g h k

-- the counters behind them
pub restored_put : (s one two last : List ℕ) (e : Entry) → length s ≡ slot_length → one ≡ put s highest_at (history_bytes e)
    → two ≡ put one replays_at (bytes_of 8 e.counters.replays) → last ≡ put two forged_at (bytes_of 8 e.counters.forged)
    → last ≡ restored_in e s
restored_put s one two last e long f g k =
    k ∙ ap (λ (u : List ℕ). put u forged_at (bytes_of 8 e.counters.forged)) (g ∙ ap (λ (u : List ℕ). put u replays_at (bytes_of 8 e.counters.replays)) f)
    ∙ by_parts s e long

-- ---- in the table

-- a slot that is lent and comes back as f makes it
pub written_back : (t : List ℕ) (i a k : ℕ) (f : List ℕ → List ℕ) (s : List ℕ) → a ≡ slot_length * i → k ≡ slot_length → s ≡ f (part a k t)
    → length (f (slot_of t i)) ≡ slot_length → take a t ++ (s ++ drop k (drop a t)) ≡ replaced t i (f (slot_of t i))
written_back t i a k f s e h is long =
    let whole : s ≡ f (slot_of t i) = is ∙ rw (e, h) in
    rw (e, h, whole, long)
    (ap (λ (u : List ℕ). take (slot_length * i) t ++ (f (slot_of t i) ++ u)) (drop-drop slot_length (slot_length * i) t)
    ∙ sym (append_assoc (take (slot_length * i) t) (f (slot_of t i)) (drop (slot_length * i + slot_length) t)))
