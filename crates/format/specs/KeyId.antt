-- KeyIds (01, "The message, big-endian": "First byte 00 to 7f: short, L = 1. 80: absent, L = 1. 81 to ff: long, with 1 to 127 further bytes,
-- L = 2 to 128.").
use Rattle.std.specs.Prelude.{cond, ℕ, ◌+◌, ◌-◌, eqb, ltb}
use Rattle.format.specs.declared.key_id.KeyId.{KeyId}
use Rattle.format.specs.declared.key_id.KeyId.TheVariants.{Absent, Short, Long}

-- the KeyId whose first byte stands at a place of the message
unfoldable pub key_id_starting : ℕ → ℕ → KeyId
key_id_starting first at = cond (ltb first 128) (Short first) (cond (eqb first 128) Absent (Long (first - 128) (at + 1)))

-- L: how many bytes it takes in a message
abbrev pub length_of : KeyId → ℕ
length_of Absent = 1
length_of (Short value) = 1
length_of (Long count start) = 1 + count

-- L as the first byte asks
abbrev pub length_asked : ℕ → ℕ
length_asked first = length_of (key_id_starting first 0)
