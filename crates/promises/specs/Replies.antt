-- Each reply's own case (01, "Replies"; 02, No. 1, 2, 4, 6 and 7), and the rule that joins them: the first that fits, in the listed order, is given; where none fits, 0.
use Rattle.std.specs.Prelude.{◌≡◌, Bool, true, false, cond, not, ◌||◌, ◌&&◌, List, [], ◌∷◌, ℕ, ◌+◌, ◌-◌, ◌^◌, eqb, ltb, length, Err, None, Ok, Option, Result, Some, is_some}
use Rattle.std.proofs.Math.Option.{Option as Maybe, none, some}
use Rattle.answers.specs.Answers.{output_room}
use Rattle.octets.specs.Octets.{part}
use Rattle.window.specs.Window.{floor_of, marked}
use Rattle.window.specs.declared.Frame.{Frame}
use Rattle.format.specs.KeyId.{length_of}
use Rattle.format.specs.KeyData.{KeyData}
use Rattle.format.specs.Suite.{suite_of, icv_length_of}
use Rattle.format.specs.Header.{flag_in, version_in, cs_in, key_id_in, seq_num_in, read_of, least_message, greatest_message}
use Rattle.message.specs.Sealing.{right}
use Rattle.format.specs.declared.suite.Suite.{Suite}
use Rattle.slots.specs.Table.{slot_of, cs_of, window_of, slot_count, key_data_of, is_held}
use Rattle.lookup.specs.Lookup.{leads_to, leads_elsewhere, first_free}
use Rattle.slots.specs.Record.{undamaged}
use Rattle.entries.specs.Install.{is_fair}
use Rattle.form.specs.Form.{Listing, listing_in}
use Rattle.loading.specs.Load.{stands, listed_entry, loadable}
use Rattle.capture.specs.Capture.{record_length, magic_of, is_bad, captured_at, original_at, is_cut, is_unreadable}
use Rattle.capture.specs.declared.order.Order.{Order}
use Rattle.feed.specs.Report.{text_room}
use Rattle.sender.specs.Protect.{key_data_in, sound_record}
use Rattle.sender.specs.declared.Sender.{Sender}
use Rattle.format.specs.declared.header.HeaderError.{HeaderError}
use Rattle.format.specs.declared.header.Header.{Header}

-- a reply and its case
pub record Reply : Type 0 where
  pub number : ℕ
  pub fits : Bool

abbrev pub reply : ℕ → Bool → Reply
reply number fits = record { number = number; fits = fits }

-- the first that fits, or 0
abbrev pub first_of : List Reply → ℕ
first_of [] = 0
first_of (r ∷ rs) = cond r.fits r.number (first_of rs)

-- the test of reply n; the replies that stand before it; whether none of some fits, and whether none of those with some numbers does
abbrev pub test_of : ℕ → List Reply → Bool
test_of n [] = false
test_of n (r ∷ rs) = cond (eqb r.number n) r.fits (test_of n rs)

abbrev pub earlier : ℕ → List Reply → List Reply
earlier n [] = []
earlier n (r ∷ rs) = cond (eqb r.number n) [] (r ∷ earlier n rs)

abbrev pub none_fits : List Reply → Bool
none_fits [] = true
none_fits (r ∷ rs) = not r.fits && none_fits rs

abbrev pub none_of : List ℕ → List Reply → Bool
none_of [] rs = true
none_of (n ∷ ns) rs = not (test_of n rs) && none_of ns rs

-- "Each is given exactly in its case": n if its own test holds and none before it does, and 0 if none holds
pub record Exactly (given : ℕ) (rs : List Reply) : Type 0 where
  pub each : (n : ℕ) → (n ≡ 0 → ⊥) → eqb given n ≡ (test_of n rs && none_fits (earlier n rs))
  pub done : eqb given 0 ≡ none_fits rs

-- the numbers in a list are different, and none is 0
abbrev pub is_numbered : ℕ → List Reply → Bool
is_numbered n [] = false
is_numbered n (r ∷ rs) = eqb r.number n || is_numbered n rs

abbrev pub distinct : List Reply → Bool
distinct [] = true
distinct (r ∷ rs) = not (eqb r.number 0) && not (is_numbered r.number rs) && distinct rs

abbrev pub is_nothing : Option ℕ → Bool
is_nothing (Some i) = false
is_nothing None = true

-- ---- receive

-- what is asked of the suite with a number; where there is none, that was answered before
abbrev pub of_suite : (Suite → Bool) → Option Suite → Bool
of_suite asked (Some s) = asked s
of_suite asked None = false

-- "shorter than 9 + L + T", where T is the length of the suite's ICV (02, No. 5)
abbrev pub is_short : List ℕ → Suite → Bool
is_short m s = ltb (length m) (9 + length_of (key_id_in m) + icv_length_of s)

-- where a message leads
abbrev pub led_to : List ℕ → List ℕ → List ℕ → Option ℕ
led_to t m source = leads_to t (flag_in m) (part 3 (length_of (key_id_in m)) m) source

-- the slot that was found; the first where there is none
abbrev pub slot_in : List ℕ → Option ℕ → List ℕ
slot_in t (Some i) = slot_of t i
slot_in t None = slot_of t 0

-- whether that is slot i
abbrev pub is_at : ℕ → Option ℕ → Bool
is_at i (Some j) = eqb j i
is_at i None = false

-- whether the ICV is right, where the header is read
abbrev pub right_in : Result Header HeaderError → List ℕ → List ℕ → Bool
right_in (Ok h) s m = right h (key_data_of s) m
right_in (Err why) s m = false

unfoldable pub receive_replies : List ℕ → List ℕ → List ℕ → List ℕ → List Reply
receive_replies t m source out =
    let s = slot_in t (led_to t m source) in
    -- output buffer under 2,048 bytes
    reply 1 (ltb (length out) output_room)
    -- message not 14 to 2,048 bytes
    ∷ reply 2 (ltb (length m) least_message || ltb greatest_message (length m))
    -- Version not 0
    ∷ reply 3 (not (eqb (version_in m) 0))
    -- CS not 1 or 2, nor 241 or 242 (02, No. 5)
    ∷ reply 4 (not (is_some (suite_of (cs_in m))))
    -- message shorter than 9 + L + T
    ∷ reply 5 (of_suite (is_short m) (suite_of (cs_in m)))
    -- no slot matches
    ∷ reply 6 (is_nothing (led_to t m source))
    -- record damaged; "another edition, or 1 with a suite other than 1, gives .. 7 in a record" (02, No. 4)
    ∷ reply 7 (not (undamaged s))
    -- CS not the entry's
    ∷ reply 8 (not (eqb (cs_of s) (cs_in m)))
    -- number below the floor; "a number below start gives 9" (02, No. 2)
    ∷ reply 9 (ltb (seq_num_in m) (floor_of (window_of s)))
    -- number marked
    ∷ reply 10 (marked (window_of s) (seq_num_in m))
    -- ICV wrong
    ∷ reply 11 (not (right_in (read_of m) s m))
    ∷ []

-- ---- install, remove and change

unfoldable pub install_replies : List ℕ → KeyData → Frame → List Reply
install_replies t k f =
    -- key data unsound, Size with it; "a larger start gives 13 at install" (02, No. 2), and so does "another edition, or 1 with a suite other than 1"
    -- (No. 4)
    reply 13 (not (is_fair k f))
    -- an occupied slot has the same flag and KeyId and, for flag 1, source
    ∷ reply 14 (not (is_nothing (leads_to t k.flag k.key_id k.source)))
    -- no free slot
    ∷ reply 15 (is_nothing (first_free t))
    ∷ []

unfoldable pub remove_replies : List ℕ → ℕ → List Reply
remove_replies t i =
    -- slot over 15, or free
    reply 16 (not (is_held t i))
    ∷ []

unfoldable pub change_replies : List ℕ → ℕ → KeyData → Frame → List Reply
change_replies t i k f =
    -- slot over 15, or free
    reply 16 (not (is_held t i))
    -- key data unsound, Size and start with it
    ∷ reply 13 (not (is_fair k f))
    -- another occupied slot has the same flag and KeyId and, for flag 1, source
    ∷ reply 14 (not (is_nothing (leads_elsewhere t i k.flag k.key_id k.source)))
    ∷ []

-- ---- listing

unfoldable pub listing_replies : List ℕ → ℕ → List ℕ → List Reply
listing_replies t i out =
    -- output buffer under 2,048 bytes
    reply 1 (ltb (length out) output_room)
    -- slot over 15, or free
    ∷ reply 16 (not (is_held t i))
    -- record damaged
    ∷ reply 7 (not (undamaged (slot_of t i)))
    ∷ []

-- ---- load

-- whether a text is a listing, whether its entry stands with accepted 0, and whether it would be undamaged
abbrev pub is_listing : Maybe Listing → Bool
is_listing none = false
is_listing (some l) = true

abbrev pub stands_in : List ℕ → Maybe Listing → Bool
stands_in t none = false
stands_in t (some l) = let i = l.settled.named.slot in ltb i slot_count && stands l.settled (slot_of t i)

abbrev pub loadable_in : List ℕ → Maybe Listing → Bool
loadable_in t none = false
loadable_in t (some l) = loadable (slot_of t l.settled.named.slot) (listed_entry l)

unfoldable pub load_replies : List ℕ → List ℕ → List Reply
load_replies t text =
    -- text not in this form
    reply 21 (not (is_listing (listing_in text)))
    -- no such entry with accepted 0
    ∷ reply 22 (not (stands_in t (listing_in text)))
    -- the loaded record would be damaged
    ∷ reply 23 (not (loadable_in t (listing_in text)))
    ∷ []

-- ---- captures

unfoldable pub report_replies : List ℕ → List ℕ → List Reply
report_replies file out =
    -- output buffer under 131,072 bytes
    reply 1 (ltb (length out) text_room)
    -- header bad or file size outside 24 to 65,536
    ∷ reply 17 (is_bad (magic_of file) file)
    ∷ []

-- a record that begins before the file's end
unfoldable pub record_replies : Order → List ℕ → ℕ → List Reply
record_replies o file at =
    -- record header or data runs past the end
    reply 18 (is_cut o file at)
    -- captured and original length differ
    ∷ reply 19 (not (eqb (captured_at o file at) (original_at o file at)))
    -- record empty, or identifier runs past the record
    ∷ reply 20 (is_unreadable file (at + record_length) (at + record_length + captured_at o file at))
    ∷ []

-- ---- protect

-- "With ICV length T, payloads have at most 2,039 − L − T bytes." (02, No. 5)
abbrev pub is_long : Sender → List ℕ → Suite → Bool
is_long s payload suite = ltb (2039 - length (key_data_in s.keys).key_id - icv_length_of suite) (length payload)

unfoldable pub protect_replies : Sender → List ℕ → List ℕ → List Reply
protect_replies s payload out =
    -- output buffer under 2,048 bytes
    reply 1 (ltb (length out) output_room)
    -- unsound key data, or current over 2^48 − 1
    ∷ reply 7 (not (sound_record s.keys && ltb s.current (2 ^ 48)))
    -- payload over 2,039 − L − T
    ∷ reply 2 (of_suite (is_long s payload) (suite_of s.keys.suite))
    -- current number is 2^48 − 1
    ∷ reply 12 (eqb s.current (2 ^ 48 - 1))
    ∷ []
