-- Messages sealed and opened (01, "The message, big-endian" and "Suites and derived keys"; 000, 6.2 and 6.3). The edition is
-- the key data's own (02, No. 4).
use Rattle.std.specs.Prelude.{Bool, cond, List, ◌++◌, ℕ, eqb, take, drop, None, Option, Some}
use Rattle.octets.specs.Octets.{big_endian, bytes_of, put}
use Rattle.magma.specs.Magma.{key_words}
use Rattle.modes.specs.Modes.{cut, magma_check, magma_counter}
use Rattle.format.specs.Suite.{icv_length_of, block_length_of, enciphers}
use Rattle.format.specs.Header.{header_bytes, end_of, payload_length, payload_in}
use Rattle.format.specs.KeyData.{KeyData}
use Rattle.derivation.specs.Derivation.{Inputs, check_key, cipher_key, iv_of}
use Rattle.format.specs.declared.header.Header.{Header}
use Rattle.format.specs.declared.suite.Suite.{Suite}

-- "The ICV covers all before it, the encrypted payload included.": as much of the check value as the suite has for it (02, No. 5)
unfoldable pub icv_of : Inputs → List ℕ → ℕ
icv_of d front = cut (block_length_of d.suite) (icv_length_of d.suite) (magma_check (check_key d) front)

-- the payload as it stands in a message; the same turns it back
unfoldable pub enciphered : Inputs → List ℕ → List ℕ
enciphered d payload = cond (enciphers d.suite) (magma_counter (cipher_key d) (iv_of d.seq_num) payload) payload

-- ---- sealed

-- what the keys of a message are derived from, under key data
abbrev pub inputs_of : Suite → KeyData → ℕ → Inputs
inputs_of s k seq_num = record { base = key_words k.key; suite = s; edition = k.edition; source = k.source; seq_num = seq_num }

-- what stands before the ICV
unfoldable pub front_of : Suite → KeyData → ℕ → List ℕ → List ℕ
front_of s k seq_num payload =
    header_bytes k.flag s k.key_id seq_num ++ enciphered (inputs_of s k seq_num) payload

-- the message for a payload
unfoldable pub sealed : Suite → KeyData → ℕ → List ℕ → List ℕ
sealed s k seq_num payload =
    let front = front_of s k seq_num payload in
    front ++ bytes_of (icv_length_of s) (icv_of (inputs_of s k seq_num) front)

-- ---- opened, in an edition, under a base key's 32 bytes and a source

-- what the keys of a message with that header are derived from
abbrev pub inputs_under : Header → ℕ → List ℕ → List ℕ → Inputs
inputs_under h edition key source = record { base = key_words key; suite = h.suite; edition = edition; source = source; seq_num = h.seqnum }

-- whether the ICV is right
unfoldable pub right_under : Header → ℕ → List ℕ → List ℕ → List ℕ → Bool
right_under h edition key source m =
    eqb (big_endian (icv_length_of h.suite) (drop (end_of h m) m)) (icv_of (inputs_under h edition key source) (take (end_of h m) m))

-- the payload that a message carries
unfoldable pub opened_under : Header → ℕ → List ℕ → List ℕ → List ℕ → List ℕ
opened_under h edition key source m = enciphered (inputs_under h edition key source) (payload_in h m)

-- what opening answers, and what the output then holds: nothing of the message where the ICV is wrong
abbrev pub opened_as : Header → ℕ → List ℕ → List ℕ → List ℕ → Option ℕ
opened_as h edition key source m = cond (right_under h edition key source m) (Some (payload_length h m)) None

abbrev pub output_after : Header → ℕ → List ℕ → List ℕ → List ℕ → List ℕ → List ℕ
output_after h edition key source m out = cond (right_under h edition key source m) (put out 0 (opened_under h edition key source m)) out

-- ---- opened, under key data

abbrev pub right : Header → KeyData → List ℕ → Bool
right h k m = right_under h k.edition k.key k.source m

abbrev pub opened : Header → KeyData → List ℕ → List ℕ
opened h k m = opened_under h k.edition k.key k.source m

abbrev pub opened_by : Header → KeyData → List ℕ → Option ℕ
opened_by h k m = opened_as h k.edition k.key k.source m
