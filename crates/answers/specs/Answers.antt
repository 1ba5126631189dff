-- Answers and refusals by name (01, "Replies": "Every refusal returns its number with length, slot and SeqNum all 0").
use Rattle.std.specs.Prelude.{ℕ, Result, Ok, Err}
use Rattle.answers.specs.declared.Answer.{Answer}
use Rattle.answers.specs.declared.Done.{Done}
use Rattle.answers.specs.declared.Refusal.{Refusal}
use Rattle.answers.specs.declared.Refusal.TheVariants as refusal

abbrev pub refused : ℕ → Answer
refused reply = record { reply = reply; length = 0; slot = 0; seqnum = 0 }

-- "1: output buffer under 2,048 bytes": the room that an output has to have
abbrev pub output_room : ℕ
output_room = 2048

-- ---- the refusals, with 01's words for each; 0 is "done"

-- output buffer under 2,048 bytes
abbrev pub output_small : ℕ
output_small = 1

-- message not 14 to 2,048 bytes; payload over 2,039 − L − T (02, No. 5)
abbrev pub bad_length : ℕ
bad_length = 2

-- Version not 0
abbrev pub bad_version : ℕ
bad_version = 3

-- CS not 1 or 2, nor 241 or 242 (02, No. 5)
abbrev pub bad_suite : ℕ
bad_suite = 4

-- message shorter than 9 + L + T (02, No. 5)
abbrev pub too_short : ℕ
too_short = 5

-- no slot matches
abbrev pub no_entry : ℕ
no_entry = 6

-- record damaged (for the sender: unsound key data, or current over 2^48 − 1)
abbrev pub damaged : ℕ
damaged = 7

-- CS not the entry's
abbrev pub other_suite : ℕ
other_suite = 8

-- number below the floor
abbrev pub below_floor : ℕ
below_floor = 9

-- number marked
abbrev pub repeated : ℕ
repeated = 10

-- ICV wrong
abbrev pub wrong_icv : ℕ
wrong_icv = 11

-- current number is 2^48 − 1
abbrev pub no_number : ℕ
no_number = 12

-- key data unsound
abbrev pub unsound : ℕ
unsound = 13

-- an occupied slot has the same flag and KeyId and, for flag 1, source
abbrev pub twin : ℕ
twin = 14

-- no free slot
abbrev pub full : ℕ
full = 15

-- slot over 15, or free
abbrev pub no_slot : ℕ
no_slot = 16

-- ---- 02, No. 1

-- header bad or file size outside 24 to 65,536
abbrev pub bad_capture : ℕ
bad_capture = 17

-- record header or data runs past the end
abbrev pub cut_short : ℕ
cut_short = 18

-- captured and original length differ
abbrev pub lengths_differ : ℕ
lengths_differ = 19

-- record empty, or identifier runs past the record
abbrev pub unreadable : ℕ
unreadable = 20

-- ---- 02, No. 6

-- text not in this form
abbrev pub bad_text : ℕ
bad_text = 21

-- no such entry with accepted 0
abbrev pub not_standing : ℕ
not_standing = 22

-- the loaded record would be damaged
abbrev pub would_be_damaged : ℕ
would_be_damaged = 23

-- ---- by name: 01's number for each refusal

abbrev pub refusal_number : Refusal → ℕ
refusal_number refusal.OutputSmall = output_small
refusal_number refusal.BadLength = bad_length
refusal_number refusal.BadVersion = bad_version
refusal_number refusal.BadSuite = bad_suite
refusal_number refusal.TooShort = too_short
refusal_number refusal.NoEntry = no_entry
refusal_number refusal.Damaged = damaged
refusal_number refusal.OtherSuite = other_suite
refusal_number refusal.BelowFloor = below_floor
refusal_number refusal.Repeated = repeated
refusal_number refusal.WrongIcv = wrong_icv
refusal_number refusal.NoNumber = no_number
refusal_number refusal.Unsound = unsound
refusal_number refusal.Twin = twin
refusal_number refusal.Full = full
refusal_number refusal.NoSlot = no_slot
refusal_number refusal.BadCapture = bad_capture
refusal_number refusal.CutShort = cut_short
refusal_number refusal.LengthsDiffer = lengths_differ
refusal_number refusal.Unreadable = unreadable
refusal_number refusal.BadText = bad_text
refusal_number refusal.NotStanding = not_standing
refusal_number refusal.WouldBeDamaged = would_be_damaged

-- done at a slot, with length and SeqNum 0
abbrev pub at_slot : ℕ → Done
at_slot i = record { length = 0; slot = i; seqnum = 0 }

-- what C sees of an outcome: 0 and its values where it was done, else the refusal's number
abbrev pub answer_of : Result Done Refusal → Answer
answer_of (Ok done) = record { reply = 0; length = done.length; slot = done.slot; seqnum = done.seqnum }
answer_of (Err refusal) = refused (refusal_number refusal)
