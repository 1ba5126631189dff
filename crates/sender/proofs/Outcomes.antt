-- What protect leaves where none of its refusals fits: the message, and what a return then shows.
-- Assumes nothing.
use mathlib.Core.Path.{◌≡◌}
use mathlib.Core.Bool.{true}
use mathlib.Core.List.{List}
use Prim.Native.Nat.{ℕ, ◌+◌, ◌-◌, ◌^◌, ◌≤◌, ◌<◌}
use borrow.Author.Tests.{lt-ltb, le-ltb, ne_eqb}
use lib.ListN.{length}
use Rattle.answers.specs.Answers.{output_room}
use Rattle.format.specs.Suite.{suite_of}
use Rattle.format.specs.declared.suite.Suite.{Suite}
use Rattle.octets.specs.Octets.{put}
use Rattle.sender.specs.Protect.{sound_record, with_number, message_of, sent, payload_limit, outcome_of, Protects}
use Rattle.sender.specs.declared.Sender.{Sender}
use Rattle.std.specs.Prelude.{Some}

module _ (s : Sender) (payload out : List ℕ) where
  pub sends : (suite : Suite) (n count : ℕ) {z : List ℕ} → outcome_of s payload out ≡ sent suite s.keys n payload out
      → count ≡ length (message_of suite s.keys n payload) → z ≡ put out 0 (message_of suite s.keys n payload)
      → Protects s payload out (record { reply = 0; length = count; slot = 0; seqnum = n }) (with_number s n) z
  unfolding sent
  sends suite n count e a f = record { answers = rw (e, a); moves = rw e; writes = rw e f }

  pub goes : output_room ≤ length out → sound_record s.keys ≡ true → s.current < 2 ^ 48 → (suite : Suite) → Some suite ≡ suite_of s.keys.suite
      → length payload ≤ payload_limit suite s.keys → (s.current ≡ 2 ^ 48 - 1 → ⊥) → outcome_of s payload out ≡ sent suite s.keys (s.current + 1) payload out
  unfolding outcome_of
  goes room sound small suite known fits more =
      rw (
        le-ltb (length out) output_room room,
        sound,
        lt-ltb s.current (2 ^ 48) small,
        ← known,
        le-ltb (payload_limit suite s.keys) (length payload) fits,
        ne_eqb s.current (2 ^ 48 - 1) more,
      )
