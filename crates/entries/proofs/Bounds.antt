-- Sound key data keeps within the parts of a slot: a KeyId has at most 128 bytes, and a suite's number and an edition are bytes.
-- Assumes nothing.
use mathlib.Core.Path.{◌≡◌, refl}
use mathlib.Core.Bool.{true, false≢true}
use Prim.Native.Nat.{ℕ, ◌≤◌, ◌<◌}
use native.Mathlib.Decide.{dec_lt}
use native.Mathlib.Omega.{arith}
use borrow.Author.Tests.{ne_eqb}
use lib.ListN.{length, get_or}
use Rattle.slots.specs.Table.{key_id_room}
use Rattle.entries.specs.Fresh.{FitsSlot}
use Rattle.format.specs.KeyData.{goes_with, sound_of, KeyData}
use Rattle.format.specs.Suite.{suite_of}
use Rattle.format.proofs.KeyIds.{length_most}
use Rattle.format.proofs.Soundness.{Sound, sound_facts}
use Rattle.format.proofs.Suites.{number_lt, suite_number}
use Rattle.std.specs.Prelude.{None, Option, Some, is_some}
use Rattle.format.specs.declared.suite.Suite.{Suite}

suite_small : (cs : ℕ) → is_some (suite_of cs) ≡ true → cs < 256
suite_small cs = by (suite_of cs) refl
  where
    by : (n : Option Suite) → n ≡ suite_of cs → is_some n ≡ true → cs < 256
    by (Some s) is e = rw (suite_number cs s is) at (number_lt s)
    by None is e = absurd (false≢true e)

edition_small : (edition suite : ℕ) → goes_with edition suite ≡ true → edition < 256
edition_small edition suite e = by (dec_lt edition 256)
  where
    by : Dec (edition < 256) → edition < 256
    by (yes h) = h
    by (no h) = absurd (false≢true (rw (ne_eqb edition 2 (λ p. omega arith), ne_eqb edition 1 (λ p. omega arith)) at e))

pub fits_slot : {k : KeyData} → sound_of k ≡ true → length k.key_id ≤ 128 → FitsSlot k
fits_slot {k} sound short = let facts = sound_facts k sound in record { key_id = short; source = facts.source_most; key = facts.key_length }

module _ {k : KeyData} (sound : Sound k) where
  pub keyid_most : get_or k.key_id 0 0 < 256 → length k.key_id ≤ key_id_room
  keyid_most b = rw sound.keyid_length (length_most (get_or k.key_id 0 0) 0 b)

  pub suite_byte : k.suite < 256
  suite_byte = suite_small k.suite sound.suite_known

  pub edition_byte : k.edition < 256
  edition_byte = edition_small k.edition k.suite sound.edition_goes
