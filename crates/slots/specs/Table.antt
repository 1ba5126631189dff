-- The table that a caller lends: 16 slots of 288 bytes. Where each part of an entry stands in its slot is said here and nowhere else in the
-- definitions. Numbers are big-endian. A table of zeros is empty.
use Rattle.std.specs.Prelude.{Bool, not, ◌&&◌, List, ◌++◌, ℕ, ◌*◌, eqb, ltb, get_or, drop, replicate}
use Rattle.octets.specs.Octets.{big_endian, bytes_of, part, put}
use Rattle.format.specs.KeyData.{KeyData}
use Rattle.window.specs.Window.{View}
use Rattle.window.specs.declared.Frame.{Frame}
use Rattle.window.specs.Counters.{one_more}
use Rattle.window.specs.declared.Counters.{Counters}
use Rattle.window.specs.Entry.{Entry}
use Rattle.slots.specs.declared.record.Counter.{Counter}
use Rattle.slots.specs.declared.record.Counter.TheVariants.{Replays, Forged}

-- ---- the layout

abbrev pub slot_count : ℕ
slot_count = 16

abbrev pub slot_length : ℕ
slot_length = 288

abbrev pub table_length : ℕ
table_length = 4608

-- a byte that is 0 in a free slot
abbrev pub occupied_at : ℕ
occupied_at = 0

abbrev pub flag_at : ℕ
flag_at = 1

abbrev pub suite_at : ℕ
suite_at = 2

abbrev pub edition_at : ℕ
edition_at = 3

-- the KeyId's length, then the room that it has, and so for the source
abbrev pub key_id_length_at : ℕ
key_id_length_at = 4

abbrev pub key_id_at : ℕ
key_id_at = 5

abbrev pub key_id_room : ℕ
key_id_room = 128

abbrev pub source_length_at : ℕ
source_length_at = 133

abbrev pub source_at : ℕ
source_at = 134

abbrev pub source_room : ℕ
source_room = 32

abbrev pub key_at : ℕ
key_at = 166

abbrev pub size_at : ℕ
size_at = 198

abbrev pub start_at : ℕ
start_at = 206

abbrev pub highest_at : ℕ
highest_at = 214

abbrev pub marks_at : ℕ
marks_at = 222

abbrev pub accepted_at : ℕ
accepted_at = 254

abbrev pub bytes_at : ℕ
bytes_at = 262

abbrev pub replays_at : ℕ
replays_at = 270

abbrev pub forged_at : ℕ
forged_at = 278

-- where a counter of the code stands
abbrev pub place_of : Counter → ℕ
place_of Replays = replays_at
place_of Forged = forged_at

-- two bytes of a slot that nothing uses
abbrev pub spare_at : ℕ
spare_at = 286

-- the bytes of slot i
abbrev pub slot_of : List ℕ → ℕ → List ℕ
slot_of t i = part (slot_length * i) slot_length t

-- ---- an entry's parts, in the bytes of its slot

-- a slot whose first byte is 0 is free
abbrev pub occupied : List ℕ → Bool
occupied s = not (eqb (get_or s occupied_at 0) 0)

-- whether slot i of a table is there and occupied: else "16: slot over 15, or free"
abbrev pub is_held : List ℕ → ℕ → Bool
is_held t i = ltb i slot_count && occupied (slot_of t i)

abbrev pub flag_of : List ℕ → ℕ
flag_of s = get_or s flag_at 0

abbrev pub cs_of : List ℕ → ℕ
cs_of s = get_or s suite_at 0

abbrev pub edition_of : List ℕ → ℕ
edition_of s = get_or s edition_at 0

abbrev pub key_id_length_of : List ℕ → ℕ
key_id_length_of s = get_or s key_id_length_at 0

abbrev pub key_id_of : List ℕ → List ℕ
key_id_of s = part key_id_at (key_id_length_of s) s

abbrev pub source_length_of : List ℕ → ℕ
source_length_of s = get_or s source_length_at 0

abbrev pub source_of : List ℕ → List ℕ
source_of s = part source_at (source_length_of s) s

abbrev pub key_of : List ℕ → List ℕ
key_of s = part key_at 32 s

abbrev pub key_data_of : List ℕ → KeyData
key_data_of s =
    record { flag = flag_of s; key_id = key_id_of s; source = source_of s; suite = cs_of s; edition = edition_of s; key = key_of s }

abbrev pub frame_of : List ℕ → Frame
frame_of s = record { size = big_endian 8 (drop size_at s); start = big_endian 8 (drop start_at s) }

abbrev pub window_of : List ℕ → View
window_of s = record { frame = frame_of s; highest = big_endian 8 (drop highest_at s); marks = big_endian 32 (drop marks_at s) }

abbrev pub counters_of : List ℕ → Counters
counters_of s = record { replays = big_endian 8 (drop replays_at s); forged = big_endian 8 (drop forged_at s) }

abbrev pub entry_of : List ℕ → Entry
entry_of s =
    record { window = window_of s; accepted = big_endian 8 (drop accepted_at s); bytes = big_endian 8 (drop bytes_at s); counters = counters_of s }

-- ---- written

-- the bytes that an entry's window, but for what its install settled, and its totals take
abbrev pub history_bytes : Entry → List ℕ
history_bytes e = bytes_of 8 e.window.highest ++ bytes_of 32 e.window.marks ++ bytes_of 8 e.accepted ++ bytes_of 8 e.bytes

-- and those that its counters take
abbrev pub counter_bytes : Counters → List ℕ
counter_bytes c = bytes_of 8 c.replays ++ bytes_of 8 c.forged

-- the table with other bytes in slot i
abbrev pub replaced : List ℕ → ℕ → List ℕ → List ℕ
replaced t i s = put t (slot_length * i) s

-- a slot with another window and other totals, and the table with such a slot
abbrev pub settled_in : Entry → List ℕ → List ℕ
settled_in e s = put s highest_at (history_bytes e)

unfoldable pub settled : List ℕ → ℕ → Entry → List ℕ
settled t i e = replaced t i (settled_in e (slot_of t i))

-- with other counters too
abbrev pub restored_in : Entry → List ℕ → List ℕ
restored_in e s = put s highest_at (history_bytes e ++ counter_bytes e.counters)

unfoldable pub restored : List ℕ → ℕ → Entry → List ℕ
restored t i e = replaced t i (restored_in e (slot_of t i))

-- with one refusal more in the counter that stands at a place of it
abbrev pub raised_in : ℕ → List ℕ → List ℕ
raised_in at s = put s at (bytes_of 8 (one_more (big_endian 8 (drop at s))))

unfoldable pub raised : List ℕ → ℕ → ℕ → List ℕ
raised t i at = replaced t i (raised_in at (slot_of t i))

-- a free slot
abbrev pub empty_slot : List ℕ
empty_slot = replicate slot_length 0
