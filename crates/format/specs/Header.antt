-- The header (01, "The message, big-endian", and replies 2 to 5): read from a message, and written for one.
use Rattle.std.specs.Prelude.{cond, ◌||◌, List, ◌++◌, ℕ, ◌+◌, ◌-◌, ◌*◌, ◌/◌, ◌%◌, ◌^◌, eqb, ltb, length, get_or, drop, Err, None, Ok, Option, Result, Some}
use Rattle.answers.specs.Answers.{bad_length, bad_version, bad_suite, too_short}
use Rattle.octets.specs.Octets.{big_endian, bytes_of, part}
use Rattle.format.specs.KeyId.{key_id_starting, length_of}
use Rattle.format.specs.Suite.{suite_of, number_of, icv_length_of}
use Rattle.format.specs.declared.header.Header.{Header}
use Rattle.format.specs.declared.key_id.KeyId.{KeyId}
use Rattle.format.specs.declared.suite.Suite.{Suite}
use Rattle.format.specs.declared.header.HeaderError.{HeaderError}
use Rattle.format.specs.declared.header.HeaderError.TheVariants.{BadLength, BadVersion, BadSuite, TooShort}

-- bytes of the shortest and of the longest message
abbrev pub least_message : ℕ
least_message = 14

abbrev pub greatest_message : ℕ
greatest_message = 2048

-- the bytes before the payload, but for the KeyId: flag and Version, CS, SeqNum
abbrev pub fixed_bytes : ℕ
fixed_bytes = 9

-- ---- read

-- the two bytes at the front: top bit ExternalKeyIdFlag, 15 bits Version
abbrev pub flag_in : List ℕ → ℕ
flag_in m = big_endian 2 m / 2 ^ 15

abbrev pub version_in : List ℕ → ℕ
version_in m = big_endian 2 m % 2 ^ 15

-- the byte of CS, and the KeyId behind it
abbrev pub cs_in : List ℕ → ℕ
cs_in m = get_or m 2 0

abbrev pub key_id_in : List ℕ → KeyId
key_id_in m = key_id_starting (get_or m 3 0) 3

-- the six bytes of SeqNum, behind the KeyId
abbrev pub seq_num_in : List ℕ → ℕ
seq_num_in m = big_endian 6 (drop (3 + length_of (key_id_in m)) m)

-- "5 means shorter than 9 + L + T" (02, No. 5), where T is the length of the suite's ICV
abbrev pub read_as : Option Suite → List ℕ → Result Header HeaderError
read_as None m = Err BadSuite
read_as (Some s) m =
    cond (ltb (length m) (fixed_bytes + length_of (key_id_in m) + icv_length_of s)) (Err TooShort)
    (Ok (record { flag = flag_in m; suite = s; keyid = key_id_in m; seqnum = seq_num_in m }))

-- in the order of the replies 2, 3, 4 and 5
unfoldable pub read_of : List ℕ → Result Header HeaderError
read_of m =
    cond (ltb (length m) least_message || ltb greatest_message (length m)) (Err BadLength)
    (cond (eqb (version_in m) 0) (read_as (suite_of (cs_in m)) m) (Err BadVersion))

-- the reply to a header that cannot be read
abbrev pub refusal_of : HeaderError → ℕ
refusal_of BadLength = bad_length
refusal_of BadVersion = bad_version
refusal_of BadSuite = bad_suite
refusal_of TooShort = too_short

-- the KeyId bytes of a message
abbrev pub key_id_bytes : Header → List ℕ → List ℕ
key_id_bytes h m = part 3 (length_of h.keyid) m

-- where the payload of a message ends and the ICV begins
abbrev pub end_of : Header → List ℕ → ℕ
end_of h m = length m - icv_length_of h.suite

-- the bytes between the header and the ICV, and how many there are
abbrev pub payload_length : Header → List ℕ → ℕ
payload_length h m = end_of h m - (fixed_bytes + length_of h.keyid)

abbrev pub payload_in : Header → List ℕ → List ℕ
payload_in h m = part (fixed_bytes + length_of h.keyid) (payload_length h m) m

-- ---- written

-- flag with Version 0, CS, KeyId, SeqNum
abbrev pub header_bytes : ℕ → Suite → List ℕ → ℕ → List ℕ
header_bytes flag s key_id seq_num = bytes_of 2 (flag * 2 ^ 15) ++ bytes_of 1 (number_of s) ++ key_id ++ bytes_of 6 seq_num
