-- The record's key data: both ways between its test and its facts.
-- Assumes nothing.
use mathlib.Core.Path.{◌≡◌}
use mathlib.Core.Bool.{true, false}
use Prim.Native.Nat.{◌≤◌, ◌<◌}
use borrow.Author.Tests.{leb-true, le-leb, lt-leb}
use Rattle.numbers.proofs.Tests.{and_left, and_right}
use Rattle.format.specs.KeyData.{sound_of}
use Rattle.sender.specs.Protect.{key_data_in, sound_record}
use Rattle.sender.specs.declared.Keys.{Keys}

module _ (d : Keys) where
  pub record SoundKeys : Type 0 where
    pub keyid_room : d.keyid_len ≤ 128
    pub source_in_room : d.source_len ≤ 32
    pub keys : sound_of (key_data_in d) ≡ true

  pub record_facts : sound_record d ≡ true → SoundKeys
  unfolding sound_record
  record_facts h = search (and_left, and_right, leb-true) depth 6

  pub record_long_keyid : 128 < d.keyid_len → false ≡ sound_record d
  unfolding sound_record
  record_long_keyid h = rw (lt-leb d.keyid_len 128 h)

  module _ (a : d.keyid_len ≤ 128) where
    pub record_long_source : 32 < d.source_len → false ≡ sound_record d
    unfolding sound_record
    record_long_source h = rw (le-leb d.keyid_len 128 a, lt-leb d.source_len 32 h)

    pub keys_decide : d.source_len ≤ 32 → sound_of (key_data_in d) ≡ sound_record d
    unfolding sound_record
    keys_decide b = rw (le-leb d.keyid_len 128 a, le-leb d.source_len 32 b)
