-- Loading what was printed: an entry, and a table into which its listing loads.
use Rattle.std.specs.Prelude.{◌≡◌, true, List, ℕ, ◌<◌, drop, length, take}
use Rattle.octets.specs.Octets.{Bytes}
use Rattle.slots.specs.Table.{slot_of, flag_of, cs_of, edition_of, key_id_of, source_of, frame_of, slot_count, slot_length, table_length, highest_at, spare_at}
use Rattle.slots.specs.Record.{undamaged}
use Rattle.form.specs.Form.{SettledValues}
use Rattle.loading.specs.Load.{stands}

-- what the listing of an entry in slot i says of it that an install settled
abbrev pub settled_by : ℕ → List ℕ → SettledValues
settled_by i s = record {
  named = record { slot = i; flag = flag_of s; key_id = key_id_of s; source = source_of s };
  terms = record { suite = cs_of s; edition = edition_of s; frame = frame_of s };
}

-- an undamaged entry whose KeyId and source are of bytes, and a table in whose slot i that entry stands with accepted 0
pub record Awaited (i : ℕ) (s t : List ℕ) : Type 0 where
  pub small : i < slot_count
  pub keyid : Bytes (key_id_of s)
  pub source : Bytes (source_of s)
  pub unharmed : undamaged s ≡ true
  pub long : length t ≡ table_length
  pub there : stands (settled_by i s) (slot_of t i) ≡ true

-- another slot has the entry's bytes but for window, totals and counters
pub record ButMoved (s other : List ℕ) : Type 0 where
  pub full : length s ≡ slot_length
  pub bytes : Bytes s
  pub front : take highest_at other ≡ take highest_at s
  pub rest : drop spare_at other ≡ drop spare_at s
