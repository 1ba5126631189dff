-- Each reply is given exactly in its case: the reply is the first that fits, so its own test holds and none before it does.
-- Assumes nothing.
use mathlib.Core.Path.{◌≡◌, refl, sym, ap, ◌∙◌}
use mathlib.Core.Bool.{Bool, true, false, cond, not, ◌&&◌, and-false}
use mathlib.Core.List.{List, [], ◌∷◌}
use mathlib.Core.Option as option
use Prim.Native.Nat.{ℕ, ◌+◌, ◌-◌, ◌^◌, ◌<◌}
use native.Mathlib.Omega.{arith}
use borrow.Author.Tests.{eqb-true, ne_eqb, not-true}
use lib.Dec.{eqb, ltb}
use lib.ListN.{length, get_or}
use Rattle.window.specs.Window.{floor_of, marked, judge}
use Rattle.window.specs.declared.Frame.{Frame}
use Rattle.octets.specs.Octets.{put}
use Rattle.answers.specs.Answers.{refused, output_room}
use Rattle.format.specs.KeyData.{KeyData}
use Rattle.format.specs.Suite.{suite_of, number_of, icv_length_of}
use Rattle.format.specs.Header.{payload_length, cs_in, seq_num_in, read_of}
use Rattle.message.specs.Sealing.{right}
use Rattle.format.specs.declared.header.Header.{Header}
use Rattle.format.specs.declared.suite.Suite.{Suite}
use Rattle.listing.specs.Listing.{Listed, listed, listing_of}
use Rattle.entries.specs.Change.{changed}
use Rattle.entries.specs.Fresh.{fresh_slot}
use Rattle.entries.specs.Install.{Left, installed, removed, unless_twin, placed, is_fair}
use Rattle.form.specs.Form.{Listing, listing_in}
use Rattle.loading.specs.Load.{taken_up, taken_up_from, loaded}
use Rattle.gateway.specs.Receive.{Received, received, parsed, led, arrived, judged, checked, unsealed, handed_out, kept}
use Rattle.lookup.specs.Lookup.{leads_to, leads_elsewhere, first_free}
use Rattle.slots.specs.Record.{undamaged}
use Rattle.slots.specs.Table.{slot_of, cs_of, window_of, key_data_of, is_held}
use Rattle.numbers.proofs.Tests.{and_left, and_right, neither_left, neither_right}
use Rattle.capture.specs.Capture.{record_length, magic_of, is_bad, without, left_at, captured_at, original_at, is_cut, is_unreadable, data_at, ordered_at, record_at, records_of}
use Rattle.capture.specs.declared.order.Order.{Order}
use Rattle.capture.specs.declared.record.Record.{Record}
use Rattle.capture.proofs.Orders.{known_unless_bad}
use Rattle.feed.specs.Report.{text_room, Reported, read_in, reported}
use Rattle.feed.specs.Report.{refused as unread}
use Rattle.sender.proofs.Records.{record_facts}
use Rattle.sender.specs.Protect.{key_data_in, payload_limit, sound_record, Outcome, refusal, sent, numbered, outcome_of}
use Rattle.sender.specs.declared.Sender.{Sender}
use Rattle.format.proofs.Soundness.{sound_facts}
use Rattle.format.proofs.Suites.{suite_number}
use Rattle.promises.proofs.Reading.{header_in, said_by_tests}
use Rattle.promises.specs.Replies.{Reply, first_of, test_of, earlier, none_fits, Exactly, is_numbered, distinct, is_nothing, of_suite, is_long, led_to, slot_in, right_in, receive_replies, is_listing, stands_in, loadable_in, load_replies, install_replies, remove_replies, change_replies, listing_replies, report_replies, record_replies, protect_replies}
use Rattle.std.specs.Prelude.{None, Ok, Option, Some, is_some}

-- a choice between two, seen through a function or by the opposite test
pushed : {A B : Type 0} (f : A → B) (b : Bool) (x y : A) → f (cond b x y) ≡ cond b (f x) (f y)
pushed f true x y = refl
pushed f false x y = refl

flipped : {A : Type 0} (b : Bool) (x y : A) → cond (not b) x y ≡ cond b y x
flipped true x y = refl
flipped false x y = refl

-- ---- the first that fits

-- a number that no reply has is not given
unnumbered : (n : ℕ) → (n ≡ 0 → ⊥) → (rs : List Reply) → is_numbered n rs ≡ false → eqb (first_of rs) n ≡ false
unnumbered n some [] e = ne_eqb 0 n (λ z. some (sym z))
unnumbered n some (r ∷ rs) e =
    by r.fits (neither_left (eqb r.number n) (is_numbered n rs) e) (unnumbered n some rs (neither_right (eqb r.number n) (is_numbered n rs) e))
  where
    by : (b : Bool) → eqb r.number n ≡ false → eqb (first_of rs) n ≡ false → eqb (cond b r.number (first_of rs)) n ≡ false
    by true p q = p
    by false p q = q

first_each : (rs : List Reply) → distinct rs ≡ true → (n : ℕ) → (n ≡ 0 → ⊥) → eqb (first_of rs) n ≡ (test_of n rs && none_fits (earlier n rs))
first_each [] d n some = ne_eqb 0 n (λ z. some (sym z))
first_each (r ∷ rs) d n some = by (eqb r.number n) refl r.fits (first_each rs (search (and_right)) n some)
  where
    others : is_numbered r.number rs ≡ false
    others = not-true (is_numbered r.number rs) (search (and_left, and_right))

    by : (mine : Bool) → eqb r.number n ≡ mine → (b : Bool) → eqb (first_of rs) n ≡ (test_of n rs && none_fits (earlier n rs))
        → eqb (cond b r.number (first_of rs)) n ≡ (cond mine b (test_of n rs) && none_fits (cond mine [] (record { number = r.number; fits = b } ∷ earlier n rs)))
    by true p true e = p
    by true p false e = unnumbered n some rs (rw (eqb-true r.number n p) at others)
    by false p true e = p ∙ sym (and-false (test_of n rs))
    by false p false e = e

first_done : (rs : List Reply) → distinct rs ≡ true → eqb (first_of rs) 0 ≡ none_fits rs
first_done [] d = refl
first_done (r ∷ rs) d = by r.fits (first_done rs (search (and_right)))
  where
    some : eqb r.number 0 ≡ false
    some = not-true (eqb r.number 0) (search (and_left))

    by : (b : Bool) → eqb (first_of rs) 0 ≡ none_fits rs → eqb (cond b r.number (first_of rs)) 0 ≡ (not b && none_fits rs)
    by true e = some
    by false e = e

exactly : {given : ℕ} (rs : List Reply) → given ≡ first_of rs → distinct rs ≡ true → Exactly given rs
exactly rs e d = record {
  each = λ n some. ap (λ (x : ℕ). eqb x n) e ∙ first_each rs d n some;
  done = ap (λ (x : ℕ). eqb x 0) e ∙ first_done rs d;
}

-- ---- install, remove and change

pub remove_reply : (t : List ℕ) (i : ℕ) → (removed t i).answer.reply ≡ first_of (remove_replies t i)
unfolding removed remove_replies
remove_reply t i =
    let b = is_held t i in
    pushed (λ (l : Left). l.answer.reply) b _ _ ∙ sym (flipped b 16 0)

module _ (t : List ℕ) where
  free_reply : (fresh : List ℕ) (g : Option ℕ) → (placed t fresh g).answer.reply ≡ cond (is_nothing g) 15 0
  free_reply fresh (Some i) = refl
  free_reply fresh None = refl

  twin_reply : (done : Left) (f : Option ℕ) → (unless_twin t done f).answer.reply ≡ cond (not (is_nothing f)) 14 done.answer.reply
  twin_reply done (Some i) = refl
  twin_reply done None = refl

pub install_reply : (t : List ℕ) (k : KeyData) (f : Frame)
    → (installed t k f).answer.reply ≡ first_of (install_replies t k f)
unfolding installed install_replies
install_reply t k f =
    let b = is_fair k f in
    let found = leads_to t k.flag k.key_id k.source in
    let in-free = placed t (fresh_slot k f) (first_free t) in
    pushed (λ (l : Left). l.answer.reply) b _ _
    ∙ rw (twin_reply t in-free found, free_reply t (fresh_slot k f) (first_free t)) (sym (flipped b 13 _))

pub change_reply : (t : List ℕ) (i : ℕ) (k : KeyData) (f : Frame) → (changed t i k f).answer.reply ≡ first_of (change_replies t i k f)
unfolding changed change_replies
change_reply t i k f = by (is_held t i) (is_fair k f) (leads_elsewhere t i k.flag k.key_id k.source)
  where
    refusal : ℕ → Left
    refusal n = record { answer = refused n; table = t }

    done : Left
    done = placed t (fresh_slot k f) (Some i)

    by : (held fair : Bool) (led : Option ℕ) → (cond held (cond fair (unless_twin t done led) (refusal 13)) (refusal 16)).answer.reply
        ≡ cond (not held) 16 (cond (not fair) 13 (cond (not (is_nothing led)) 14 0))
    by false fair led = refl
    by true false led = refl
    by true true (Some j) = refl
    by true true None = refl

-- ---- receive

-- what the slot says: replies 7 to 11
module _ (t : List ℕ) (i : ℕ) (h : Header) (m out : List ℕ) where
  checked_reply : (checked t i h m out).answer.reply ≡ cond (not (right h (key_data_of (slot_of t i)) m)) 11 0
  unfolding checked handed_out
  checked_reply = by (right h (key_data_of (slot_of t i)) m)
    where
      by : (icv : Bool) → (unsealed (cond icv (Some (payload_length h m)) None) t i h m out).answer.reply ≡ cond (not icv) 11 0
      by true = refl
      by false = refl

  by_tests : (u c b k : Bool)
      → (cond u (cond c (judged (judge b k) t i h m out) (kept t out 8)) (kept t out 7)).answer.reply
      ≡ cond (not u) 7 (cond (not c) 8 (cond b 9 (cond k 10 (checked t i h m out).answer.reply)))
  by_tests false c b k = refl
  by_tests true false b k = refl
  by_tests true true true k = refl
  by_tests true true false true = refl
  by_tests true true false false = refl

  slot_reply : (arrived t i h m out).answer.reply
      ≡ cond (not (undamaged (slot_of t i))) 7
      (cond (not (eqb (cs_of (slot_of t i)) (number_of h.suite))) 8
      (cond (ltb h.seqnum (floor_of (window_of (slot_of t i)))) 9
      (cond (marked (window_of (slot_of t i)) h.seqnum) 10
      (cond (not (right h (key_data_of (slot_of t i)) m)) 11 0))))
  unfolding arrived
  slot_reply =
      let s = slot_of t i in
      by_tests (undamaged s) (eqb (cs_of s) (number_of h.suite)) (ltb h.seqnum (floor_of (window_of s))) (marked (window_of s) h.seqnum) ∙ rw checked_reply

module _ (t m source out : List ℕ) where
  -- from reply 6 on, of what was found
  abbrev onward : Option ℕ → ℕ
  onward f =
      let s = slot_in t f in
      cond (is_nothing f) 6
      (cond (not (undamaged s)) 7
      (cond (not (eqb (cs_of s) (cs_in m))) 8
      (cond (ltb (seq_num_in m) (floor_of (window_of s))) 9
      (cond (marked (window_of s) (seq_num_in m)) 10
      (cond (not (right_in (read_of m) s m)) 11 0)))))

  found_reply : (h : Header) → read_of m ≡ Ok h → h.seqnum ≡ seq_num_in m → number_of h.suite ≡ cs_in m → (f : Option ℕ) → (led f t h m out).answer.reply ≡ onward f
  found_reply h e n c None = refl
  found_reply h e n c (Some i) = slot_reply t i h m out ∙ rw (e, ← n, c)

  pub receive_reply : (received t m source out).answer.reply ≡ first_of (receive_replies t m source out)
  unfolding received receive_replies
  receive_reply =
      pushed (λ (l : Received). l.answer.reply) (ltb (length out) output_room) _ _
      ∙ ap (cond (ltb (length out) output_room) 1)
      (said_by_tests (λ p. (parsed p t m source out).answer.reply) m (onward (led_to t m source))
      (λ s q e. found_reply (header_in s m) e refl (suite_number (cs_in m) s q) (led_to t m source)))

-- ---- listing

pub listing_reply : (t : List ℕ) (i : ℕ) (out : List ℕ) → (listed t i out).answer.reply ≡ first_of (listing_replies t i out)
unfolding listed listing_replies
listing_reply t i out = by (ltb (length out) output_room) (is_held t i) (undamaged (slot_of t i))
  where
    refusal : ℕ → Listed
    refusal n = record { answer = refused n; out = out }

    done : Listed
    done = record { answer = record { reply = 0; length = length (listing_of i (slot_of t i)); slot = i; seqnum = 0 }; out = put out 0 (listing_of i (slot_of t i)) }

    by : (short held sound : Bool) → (cond short (refusal 1) (cond held (cond sound done (refusal 7)) (refusal 16))).answer.reply
        ≡ cond short 1 (cond (not held) 16 (cond (not sound) 7 0))
    by true held sound = refl
    by false false sound = refl
    by false true false = refl
    by false true true = refl

-- ---- load

pub load_reply : (t text : List ℕ) → (loaded t text).answer.reply ≡ first_of (load_replies t text)
unfolding loaded taken_up load_replies
load_reply t text = by (listing_in text)
  where
    tested : (held sound : Bool) (done : Left) → done.answer.reply ≡ 0
        → (cond held (cond sound done (record { answer = refused 23; table = t })) (record { answer = refused 22; table = t })).answer.reply
        ≡ cond (not held) 22 (cond (not sound) 23 0)
    tested false sound done z = refl
    tested true false done z = refl
    tested true true done z = z

    by : (o : option.Option Listing) → (taken_up_from t o).answer.reply ≡ cond (not (is_listing o)) 21 (cond (not (stands_in t o)) 22 (cond (not (loadable_in t o)) 23 0))
    by option.none = refl
    by (option.some l) = tested (stands_in t (option.some l)) (loadable_in t (option.some l)) _ refl

-- ---- captures

pub report_reply : (t file out : List ℕ) → (reported t file out).answer.reply ≡ first_of (report_replies file out)
unfolding reported read_in report_replies
report_reply t file out =
    rw (known_unless_bad file) (by (ltb (length out) text_room) (is_bad (magic_of file) file))
  where
    refusal : ℕ → Reported
    refusal n = record { answer = unread n; table = t; out = out }

    by : (short bad : Bool) → (cond short (refusal 1) (cond (not bad) (read_in (records_of file) t out) (refusal 17))).answer.reply
        ≡ cond short 1 (cond bad 17 0)
    by true bad = refl
    by false true = refl
    by false false = refl

-- of a record that begins before the end of a file that has an order
pub record_reply : (o : Order) (file : List ℕ) (at : ℕ) → at < length file → (record_at (Some o) file at).reply ≡ first_of (record_replies o file at)
unfolding ordered_at data_at record_replies
record_reply o file at some =
    rw (ne_eqb (left_at file at) 0 (λ z. omega arith))
    (by (is_cut o file at) (eqb (captured_at o file at) (original_at o file at)) (is_unreadable file (at + record_length) (at + record_length + captured_at o file at)))
  where
    next : ℕ
    next = at + record_length + captured_at o file at

    arrival : Record
    arrival = record { reply = 0; source = at + record_length + 1; message = at + record_length + 1 + get_or file (at + record_length) 0; next = next }

    by : (cut same unread : Bool) → (cond cut (without 18 (length file)) (cond same (cond unread (without 20 next) arrival) (without 19 next))).reply
        ≡ cond cut 18 (cond (not same) 19 (cond unread 20 0))
    by true same unread = refl
    by false false unread = refl
    by false true true = refl
    by false true false = refl

-- ---- protect

module _ (s : Sender) (payload out : List ℕ) where
  -- sound key data names a suite
  suite_there : sound_record s.keys ≡ true → is_some (suite_of s.keys.suite) ≡ true
  suite_there e = (sound_facts (key_data_in s.keys) (record_facts s.keys e).keys).suite_known

  -- what 2,048 bytes leave beside header and ICV
  limit : (suite : Suite) → payload_limit suite s.keys ≡ 2039 - length (key_data_in s.keys).key_id - icv_length_of suite
  limit suite = omega arith

  by_suite : (n : Option Suite) → n ≡ suite_of s.keys.suite → (b : Bool) → (sound_record s.keys && ltb s.current (2 ^ 48)) ≡ b
      → (cond b (numbered n s payload out) (refusal 7 s out)).answer.reply
      ≡ cond (not b) 7 (cond (of_suite (is_long s payload) n) 2 (cond (eqb s.current (2 ^ 48 - 1)) 12 0))
  unfolding sent
  by_suite n q false p = refl
  by_suite None q true p =
      let e : ◌≡◌ {A = Bool} false true = ap is_some q ∙ suite_there (and_left (sound_record s.keys) (ltb s.current (2 ^ 48)) p) in
      cc
  by_suite (Some suite) q true p =
      pushed (λ (o : Outcome). o.answer.reply) (ltb (payload_limit suite s.keys) (length payload)) _ _
      ∙ rw (limit suite) (ap (cond (is_long s payload suite) 2) (pushed (λ (o : Outcome). o.answer.reply) (eqb s.current (2 ^ 48 - 1)) _ _))

  pub protect_reply : (outcome_of s payload out).answer.reply ≡ first_of (protect_replies s payload out)
  unfolding outcome_of protect_replies
  protect_reply =
      pushed (λ (o : Outcome). o.answer.reply) (ltb (length out) output_room) _ _
      ∙ ap (cond (ltb (length out) output_room) 1) (by_suite (suite_of s.keys.suite) refl (sound_record s.keys && ltb s.current (2 ^ 48)) refl)

-- ---- each exactly in its case, and in the listed order

pub receive_exactly : (t m source out : List ℕ) → Exactly (received t m source out).answer.reply (receive_replies t m source out)
unfolding receive_replies
receive_exactly t m source out = exactly (receive_replies t m source out) (receive_reply t m source out) refl

pub install_exactly : (t : List ℕ) (k : KeyData) (f : Frame) → Exactly (installed t k f).answer.reply (install_replies t k f)
unfolding install_replies
install_exactly t k f = exactly (install_replies t k f) (install_reply t k f) refl

pub remove_exactly : (t : List ℕ) (i : ℕ) → Exactly (removed t i).answer.reply (remove_replies t i)
unfolding remove_replies
remove_exactly t i = exactly (remove_replies t i) (remove_reply t i) refl

pub change_exactly : (t : List ℕ) (i : ℕ) (k : KeyData) (f : Frame) → Exactly (changed t i k f).answer.reply (change_replies t i k f)
unfolding change_replies
change_exactly t i k f = exactly (change_replies t i k f) (change_reply t i k f) refl

pub load_exactly : (t text : List ℕ) → Exactly (loaded t text).answer.reply (load_replies t text)
unfolding load_replies
load_exactly t text = exactly (load_replies t text) (load_reply t text) refl

pub listing_exactly : (t : List ℕ) (i : ℕ) (out : List ℕ) → Exactly (listed t i out).answer.reply (listing_replies t i out)
unfolding listing_replies
listing_exactly t i out = exactly (listing_replies t i out) (listing_reply t i out) refl

pub protect_exactly : (s : Sender) (payload out : List ℕ) → Exactly (outcome_of s payload out).answer.reply (protect_replies s payload out)
unfolding protect_replies
protect_exactly s payload out = exactly (protect_replies s payload out) (protect_reply s payload out) refl

pub report_exactly : (t file out : List ℕ) → Exactly (reported t file out).answer.reply (report_replies file out)
unfolding report_replies
report_exactly t file out = exactly (report_replies file out) (report_reply t file out) refl

pub record_exactly : (o : Order) (file : List ℕ) (at : ℕ) → at < length file → Exactly (record_at (Some o) file at).reply (record_replies o file at)
unfolding record_replies
record_exactly o file at some = exactly (record_replies o file at) (record_reply o file at some) refl
