-- A fresh entry's slot (01, "Replies": "so do an installed entry's places past its KeyId and identifier" hold zeros only; "starts fresh"; 02, No. 2:
-- "Install must take a start number, .. and the entry keeps it"; No. 4: "Key data gets an edition"; No. 8, whose counters begin with 0).
use Rattle.std.specs.Prelude.{◌≡◌, ◌≤◌, List, ◌++◌, ℕ, ◌-◌, length, replicate}
use Rattle.octets.specs.Octets.{bytes_of}
use Rattle.format.specs.KeyData.{KeyData}
use Rattle.window.specs.declared.Frame.{Frame}
use Rattle.slots.specs.Table.{slot_length, key_id_room, source_room}

-- key data whose parts have room in a slot
pub record FitsSlot (k : KeyData) : Type 0 where
  pub key_id : length k.key_id ≤ key_id_room
  pub source : length k.source ≤ source_room
  pub key : length k.key ≡ 32

-- bytes with zeros behind them, n in all
abbrev pub padded : ℕ → List ℕ → List ℕ
padded n bytes = bytes ++ replicate (n - length bytes) 0

-- bytes behind their length, with zeros behind them up to their room
abbrev pub prefixed : ℕ → List ℕ → List ℕ
prefixed room bytes = bytes_of 1 (length bytes) ++ padded room bytes

-- the first bytes of an occupied slot: occupied, flag, suite, edition
abbrev pub head_of : ℕ → ℕ → ℕ → List ℕ
head_of flag suite edition = bytes_of 1 1 ++ bytes_of 1 flag ++ bytes_of 1 suite ++ bytes_of 1 edition

-- what is settled of the window
abbrev pub frame_bytes : Frame → List ℕ
frame_bytes f = bytes_of 8 f.size ++ bytes_of 8 f.start

-- the key data, what is settled of the window, and zeros
unfoldable pub fresh_slot : KeyData → Frame → List ℕ
fresh_slot k f =
    padded slot_length
    (head_of k.flag k.suite k.edition ++ prefixed key_id_room k.key_id ++ prefixed source_room k.source ++ k.key ++ frame_bytes f)
