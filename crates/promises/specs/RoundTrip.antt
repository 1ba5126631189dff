-- The round trip: what can be sealed, a sender that can write, what it wrote, and an entry at which that is opened.
use Rattle.std.specs.Prelude.{◌≡◌, true, List, ℕ, ◌+◌, ◌-◌, ◌^◌, ◌≤◌, ◌<◌, length, get_or, Some}
use Rattle.octets.specs.Octets.{Bytes, part}
use Rattle.answers.specs.Answers.{output_room}
use Rattle.window.specs.Window.{verdict_of}
use Rattle.window.specs.declared.Verdict.TheVariants.{Admissible}
use Rattle.format.specs.KeyData.{KeyData}
use Rattle.format.specs.KeyId.{key_id_starting, length_asked}
use Rattle.format.specs.Header.{greatest_message, fixed_bytes}
use Rattle.format.specs.Suite.{suite_of, icv_length_of}
use Rattle.format.specs.declared.header.Header.{Header}
use Rattle.format.specs.declared.suite.Suite.{Suite}
use Rattle.slots.specs.Table.{slot_of, key_data_of, window_of}
use Rattle.slots.specs.Record.{undamaged}
use Rattle.lookup.specs.Lookup.{leads_to}
use Rattle.sender.specs.Protect.{key_data_in, payload_limit, sound_record, outcome_of}
use Rattle.sender.specs.declared.Sender.{Sender}

-- what can be sealed: a flag, a KeyId of the length that its first byte asks, a number of 48 bits, and a payload that leaves room for header and ICV
pub record Sealable (s : Suite) (k : KeyData) (n : ℕ) (payload : List ℕ) : Type 0 where
  pub flag_small : k.flag < 2
  pub keyid_bytes : Bytes k.key_id
  pub keyid_length : length k.key_id ≡ length_asked (get_or k.key_id 0 0)
  pub number_small : n < 2 ^ 48
  pub short : fixed_bytes + length k.key_id + length payload + icv_length_of s ≤ greatest_message

-- the header of what is sealed
abbrev pub header_of : Suite → KeyData → ℕ → Header
header_of s k n = record { flag = k.flag; suite = s; keyid = key_id_starting (get_or k.key_id 0 0) 3; seqnum = n }

-- a record that is sound and has a number left, a payload within the limit, and room
pub record Ready (s : Sender) (suite : Suite) (payload out : List ℕ) : Type 0 where
  pub sound : sound_record s.keys ≡ true
  pub known : Some suite ≡ suite_of s.keys.suite
  pub left : s.current < 2 ^ 48 - 1
  pub fits : length payload ≤ payload_limit suite s.keys
  pub room : output_room ≤ length out
  -- the record's KeyId and the payload are bytes
  pub keyid_bytes : Bytes (key_data_in s.keys).key_id
  pub payload_bytes : Bytes payload

-- the message as it lies in the sender's output
abbrev pub written_by : Sender → List ℕ → List ℕ → List ℕ
written_by s payload out = part 0 (outcome_of s payload out).answer.length (outcome_of s payload out).out

-- an entry that a message of this key data leads to, with that key data, undamaged, where its number is admissible
pub record Addressee (k : KeyData) (n : ℕ) (t supplied : List ℕ) (i : ℕ) : Type 0 where
  pub leads : leads_to t k.flag k.key_id supplied ≡ Some i
  pub unharmed : undamaged (slot_of t i) ≡ true
  pub keys : key_data_of (slot_of t i) ≡ k
  pub admissible : verdict_of (window_of (slot_of t i)) n ≡ Admissible
