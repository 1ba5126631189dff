-- Protect (01, "Replies"): 1, 7, 2, 12 in that order. A refusal changes neither the record nor the output. The record has an edition (02, No. 4).
use Rattle.std.specs.Prelude.{◌≡◌, Bool, ◌&&◌, cond, List, ℕ, ◌+◌, ◌-◌, ◌^◌, eqb, leb, ltb, length, take, None, Option, Some, Err, Ok, Result}
use Rattle.format.specs.Header.{greatest_message, fixed_bytes}
use Rattle.octets.specs.Octets.{put}
use Rattle.answers.specs.Answers.{refused, output_room, output_small, bad_length, damaged, no_number}
use Rattle.format.specs.KeyData.{KeyData, handed_in, sound_of}
use Rattle.format.specs.Suite.{suite_of, icv_length_of}
use Rattle.message.specs.Sealing.{sealed}
use Rattle.answers.specs.declared.Answer.{Answer}
use Rattle.answers.specs.declared.Done.{Done}
use Rattle.answers.specs.declared.Refusal.{Refusal}
use Rattle.format.specs.declared.suite.Suite.{Suite}
use Rattle.sender.specs.declared.Keys.{Keys}
use Rattle.sender.specs.declared.Sender.{Sender}

-- ---- the record

-- the key data that it holds: of the two arrays, as many bytes as their lengths say
abbrev pub key_data_in : Keys → KeyData
key_data_in d = handed_in d.flag (take d.keyid_len d.keyid) (take d.source_len d.source) d.suite d.edition d.key

-- a length that the record has no room for is unsound too
unfoldable pub sound_record : Keys → Bool
sound_record d = leb d.keyid_len 128 && leb d.source_len 32 && sound_of (key_data_in d)

-- the record with another number, and nothing else of it moved
abbrev pub with_number : Sender → ℕ → Sender
with_number s n = record { keys = s.keys; current = n }

-- ---- protect

-- what a call leaves: the answer, the record's number, and the output
pub record Outcome : Type 0 where
  pub answer : Answer
  pub current : ℕ
  pub out : List ℕ

abbrev pub refusal : ℕ → Sender → List ℕ → Outcome
refusal reply s out = record { answer = refused reply; current = s.current; out = out }

-- the number that the record holds then: that of the message, or after a refusal its own
abbrev pub number_after : Result Done Refusal → ℕ → ℕ
number_after (Ok done) current = done.seqnum
number_after (Err refusal) current = current

-- the message for number n
abbrev pub message_of : Suite → Keys → ℕ → List ℕ → List ℕ
message_of suite d n payload = sealed suite (key_data_in d) n payload

-- "On done, protect returns the message's length, slot 0 and SeqNum"
unfoldable pub sent : Suite → Keys → ℕ → List ℕ → List ℕ → Outcome
sent suite d n payload out = record {
  answer = record { reply = 0; length = length (message_of suite d n payload); slot = 0; seqnum = n };
  current = n;
  out = put out 0 (message_of suite d n payload);
}

-- "With ICV length T, payloads have at most 2,039 − L − T bytes." (02, No. 5): what 2,048 bytes leave beside the header and the suite's ICV
abbrev pub payload_limit : Suite → Keys → ℕ
payload_limit suite d = greatest_message - (fixed_bytes + length (key_data_in d).key_id + icv_length_of suite)

-- 2: payload over this limit; 12: current number is 2^48 − 1. "Protect adds 1 to the current number and uses the result."
abbrev pub numbered : Option Suite → Sender → List ℕ → List ℕ → Outcome
numbered None s payload out = refusal damaged s out
numbered (Some suite) s payload out =
    cond (ltb (payload_limit suite s.keys) (length payload)) (refusal bad_length s out)
    (cond (eqb s.current (2 ^ 48 - 1)) (refusal no_number s out) (sent suite s.keys (s.current + 1) payload out))

-- 1: output buffer under 2,048 bytes; 7: unsound key data, or current over 2^48 − 1
unfoldable pub outcome_of : Sender → List ℕ → List ℕ → Outcome
outcome_of s payload out =
    cond (ltb (length out) output_room) (refusal output_small s out)
    (cond (sound_record s.keys && ltb s.current (2 ^ 48)) (numbered (suite_of s.keys.suite) s payload out) (refusal damaged s out))

-- that an answer, a record and an output are those that a call leaves
pub record Protects (s : Sender) (payload out : List ℕ) (answer : Answer) (after : Sender) (written : List ℕ) : Type 0 where
  pub answers : answer ≡ (outcome_of s payload out).answer
  pub moves : after ≡ with_number s (outcome_of s payload out).current
  pub writes : written ≡ (outcome_of s payload out).out
