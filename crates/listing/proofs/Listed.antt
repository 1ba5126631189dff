-- What a listing comes to: each refusal by its own test, the lines of an entry, and that they fit the output.
-- Assumes nothing.
use mathlib.Core.Path.{◌≡◌, refl, ap}
use mathlib.Core.Bool.{true, false, and-false}
use mathlib.Core.List.{List}
use Prim.Native.Nat.{ℕ, ◌*◌, ◌≤◌, ◌<◌}
use native.Mathlib.Omega.{arith}
use borrow.Author.Tests.{lt-ltb, le-ltb, ltb-false, ne_eqb}
use lib.Dec.{ltb}
use lib.ListN.{length, get_or, drop, length-append, length-take, length-drop}
use Rattle.octets.specs.Octets.{bytes_of, part, put}
use Rattle.numbers.proofs.Tests.{either}
use Rattle.octets.proofs.BigEndian.{length_bytes}
use Rattle.answers.specs.Answers.{refused, output_room, output_small, damaged, no_slot}
use Rattle.answers.specs.declared.Answer.{Answer}
use Rattle.slots.specs.Table.{slot_of, occupied, flag_of, cs_of, edition_of, key_id_length_of, key_id_of, source_length_of, source_of, entry_of, slot_length, slot_count, occupied_at, key_id_at, source_at, is_held}
use Rattle.slots.specs.Record.{undamaged}
use Rattle.listing.specs.Listing.{named_lines, term_lines, moved_lines, counter_lines, listing_of, Listed, IsListed, listed}
use Rattle.text.proofs.Decimals.{length_decimal}
use Rattle.text.proofs.Hex.{length_hex}

module _ (t : List ℕ) (i : ℕ) (out : List ℕ) where
  pub little_room : {r : Answer} → length out < output_room → r ≡ refused output_small → IsListed (listed t i out) r out
  unfolding listed
  little_room h e = rw (lt-ltb (length out) output_room h) (record { answers = e; writes = refl })

  module _ (room : output_room ≤ length out) where
    pub past_last_slot : {r : Answer} → slot_count ≤ i → r ≡ refused no_slot → IsListed (listed t i out) r out
    unfolding listed
    past_last_slot h e = rw (le-ltb (length out) output_room room, le-ltb i slot_count h) (record { answers = e; writes = refl })

    module _ (small : i < slot_count) where
      pub free_slot : {r : Answer} → occupied (slot_of t i) ≡ false → r ≡ refused no_slot → IsListed (listed t i out) r out
      unfolding listed
      free_slot h e = rw (le-ltb (length out) output_room room, h, and-false) (record { answers = e; writes = refl })

      module _ (busy : occupied (slot_of t i) ≡ true) where
        pub listing_damaged : {r : Answer} → undamaged (slot_of t i) ≡ false → r ≡ refused damaged → IsListed (listed t i out) r out
        unfolding listed
        listing_damaged u e = rw (le-ltb (length out) output_room room, lt-ltb i slot_count small, busy, u) (record { answers = e; writes = refl })

        pub all_written : {o : List ℕ} {e : ℕ} → undamaged (slot_of t i) ≡ true → e ≡ length (listing_of i (slot_of t i)) → o ≡ put out 0 (listing_of i (slot_of t i))
            → IsListed (listed t i out) (record { reply = 0; length = e; slot = i; seqnum = 0 }) o
        unfolding listed
        all_written {o} {e} u n w =
            rw (le-ltb (length out) output_room room, lt-ltb i slot_count small, busy, u)
            (record { answers = ap (λ (m : ℕ). record { reply = 0; length = m; slot = i; seqnum = 0 }) n; writes = w })

-- an occupied, undamaged slot is listed
pub lists : (t : List ℕ) (i : ℕ) (out : List ℕ) → output_room ≤ length out → i < slot_count → (get_or (slot_of t i) occupied_at 0 ≡ 0 → ⊥) → undamaged (slot_of t i) ≡ true
    → listed t i out
    ≡ record { answer = record { reply = 0; length = length (listing_of i (slot_of t i)); slot = i; seqnum = 0 }; out = put out 0 (listing_of i (slot_of t i)) }
unfolding listed
lists t i out room small held unharmed =
    rw (le-ltb (length out) output_room room, lt-ltb i slot_count small, ne_eqb (get_or (slot_of t i) occupied_at 0) 0 held, unharmed)

-- ---- a listing fits

part_within : (at n : ℕ) (l : List ℕ) → length (part at n l) ≤ length l
part_within at n l = omega (arith, length-take n (drop at l), length-drop at l)

named_most : (i : ℕ) (s : List ℕ) → length s ≤ slot_length → length (named_lines i s) ≤ 1240
unfolding named_lines
named_most i s h =
    simp length-append
    (omega (
      arith,
      length_decimal i,
      length_decimal (flag_of s),
      length_hex (key_id_of s),
      length_hex (source_of s),
      part_within key_id_at (key_id_length_of s) s,
      part_within source_at (source_length_of s) s,
    ))

terms_most : (s : List ℕ) → length (term_lines s) ≤ 120
unfolding term_lines
terms_most s =
    simp length-append
    (omega (
      arith,
      length_decimal (cs_of s),
      length_decimal (edition_of s),
      length_decimal (entry_of s).window.frame.size,
      length_decimal (entry_of s).window.frame.start,
    ))

moved_most : (s : List ℕ) → length (moved_lines s) ≤ 160
unfolding moved_lines
moved_most s =
    simp length-append
    (omega (
      arith,
      length_hex (bytes_of 6 (entry_of s).window.highest),
      length_hex (bytes_of 32 (entry_of s).window.marks),
      length_decimal (entry_of s).accepted,
      length_decimal (entry_of s).bytes,
      length_bytes 6 (entry_of s).window.highest,
      length_bytes 32 (entry_of s).window.marks,
    ))

counters_most : (s : List ℕ) → length (counter_lines s) ≤ 60
unfolding counter_lines
counters_most s = simp length-append (omega (arith, length_decimal (entry_of s).counters.replays, length_decimal (entry_of s).counters.forged))

-- the length that a listing answers is within its output
pub listed_within : (t : List ℕ) (i : ℕ) (out : List ℕ) → (listed t i out).answer.length ≤ length out
unfolding listed
listed_within t i out =
    either fits (ltb (length out) output_room) _ _ (λ _. omega arith)
    (λ room.
    either fits (is_held t i) _ _ (λ _. either fits (undamaged (slot_of t i)) _ _ (λ _. done room) (λ _. omega arith)) (λ _. omega arith))
  where
    fits : Listed → Type 0
    fits z = z.answer.length ≤ length out

    done : ltb (length out) output_room ≡ false → length (listing_of i (slot_of t i)) ≤ length out
    done room =
        let short : length (slot_of t i) ≤ slot_length = omega (arith, length-take slot_length (drop (slot_length * i) t)) in
        simp length-append (omega (arith, ltb-false (length out) output_room room, named_most i (slot_of t i) short, terms_most (slot_of t i), moved_most (slot_of t i), counters_most (slot_of t i)))
