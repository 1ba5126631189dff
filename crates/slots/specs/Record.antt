-- When a record is damaged (01, "Key lookup, window and totals"; 02, No. 2: "a larger start gives .. 7 in a record",
-- No. 4: "another edition, or 1 with a suite other than 1, gives .. 7 in a record"; No. 8: a counter over its limit "is damage").
use Rattle.std.specs.Prelude.{◌≡◌, true, Bool, ◌&&◌, List, ℕ}
use Rattle.format.specs.KeyData.{sound_of}
use Rattle.window.specs.Entry.{Entry, undamaged_entry}
use Rattle.slots.specs.Table.{key_data_of, entry_of}

-- its key data is sound, and window, totals and counters are within their bounds
unfoldable pub undamaged : List ℕ → Bool
undamaged s = sound_of (key_data_of s) && undamaged_entry (entry_of s)

-- a slot that is undamaged, with its entry
pub record IsUndamagedAs (e : Entry) (s : List ℕ) : Type 0 where
  pub unharmed : undamaged s ≡ true
  pub entry : e ≡ entry_of s
