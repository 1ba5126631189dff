-- What a call leaves of an entry that stands in slot i: it hands out there exactly what is counted, the slot is as what is told makes it, to the byte, and
-- a message of the entry meets the reply that is told.
-- Assumes nothing.
use mathlib.Core.Path.{◌≡◌, refl, sym, ap, subst, ◌∙◌}
use mathlib.Core.Bool.{Bool, true, false, true≢false, not-eq-not, cond}
use mathlib.Core.List.{List, ◌∷◌}
use mathlib.Core.Logic.{◌⊎◌, inl, inr}
use Prim.Native.Nat.{ℕ, ◌≤◌, ◌<◌}
use native.Mathlib.Omega.{arith}
use borrow.Author.Tests.{eqb-true, eqb-false, eq-eqb, ne_eqb, le-ltb, not-false}
use lib.Dec.{eqb, ltb, lit≤}
use lib.ListN.{length, get_or, length-replicate}
use Rattle.answers.specs.Answers.{output_room, output_small, bad_length, bad_version, bad_suite, too_short, no_entry, other_suite, below_floor, repeated, wrong_icv}
use Rattle.octets.specs.Octets.{Bytes, put}
use Rattle.window.specs.Window.{judge, verdict_of}
use Rattle.window.specs.declared.Frame.{Frame}
use Rattle.window.specs.Entry.{Entry, taken, counting}
use Rattle.window.specs.declared.Verdict.{Verdict}
use Rattle.window.specs.declared.Verdict.TheVariants.{Below, Marked, Admissible}
use Rattle.format.specs.Header.{read_of, payload_length, key_id_bytes}
use Rattle.format.specs.KeyData.{KeyData}
use Rattle.format.specs.Suite.{number_of}
use Rattle.format.specs.declared.header.Header.{Header}
use Rattle.format.proofs.Soundness.{sound_facts}
use Rattle.format.proofs.Room.{read_room, payload_most, number_small}
use Rattle.message.specs.Sealing.{right, opened}
use Rattle.slots.specs.Table.{slot_of, cs_of, counters_of, entry_of, restored, raised_in, replaced, empty_slot, slot_length, slot_count, occupied_at, key_data_of}
use Rattle.slots.specs.Record.{undamaged}
use Rattle.slots.proofs.Rewriting.{Rewritten, raised_rewritten, rewritten_slot}
use Rattle.slots.proofs.Settled.{undamaged_fits, raised_replays, raised_forged, settled_rewritten, restored_rewritten, entry_settled}
use Rattle.slots.proofs.Slots.{length_of_slot}
use Rattle.lookup.specs.Lookup.{matches, leads_to}
use Rattle.lookup.proofs.Firsts.{leads_small, leads_matches, leads_nowhere, elsewhere_nowhere, free_small, free_empty}
use Rattle.lookup.proofs.Matching.{match_facts, no_match}
use Rattle.entries.specs.Fresh.{fresh_slot}
use Rattle.entries.specs.Change.{changed}
use Rattle.entries.specs.Install.{Left, done_at, installed, removed}
use Rattle.entries.proofs.Fresh.{length_fresh, fresh_keydata}
use Rattle.entries.proofs.Installs.{Fair}
use Rattle.entries.proofs.Outcomes.{Refuses, Enters, Frees, Changes, install_outcome, remove_outcome, change_outcome}
use Rattle.form.specs.Form.{Listing}
use Rattle.loading.specs.Load.{listed_entry, loaded}
use Rattle.loading.proofs.Outcomes.{Takes, load_outcome}
use Rattle.gateway.specs.Receive.{Received, kept, counter_of, turned_away, handed_out, judged, arrived, led, parsed, received}
use Rattle.gateway.proofs.Arrivals.{suite_refused, by_verdict, counter_within, icv_refused, right_icv}
use Rattle.gateway.proofs.Cascade.{of_arrived}
use Rattle.promises.specs.Calls.{Call, arrival, install, remove, change, load, OfBytes, called, after}
use Rattle.promises.specs.Counted.{Beginning, Message, is_below, is_used, is_of, Told, apart, below, used, forged, new, tested, told_of, told}
use Rattle.promises.specs.History.{reply_to, Handed, nothing, one, counted_of, slot_by, counters_by, entry_by, answered, handed, ends}
use Rattle.promises.proofs.Counting.{Agrees, verdict_agrees, still_agrees, taken_agrees}
use Rattle.promises.proofs.Held.{Held, is_named, names_facts, names_test, names_back, match_names, held_small, held_alike, held_undamaged, leads_here, leads_named, slot_beside, held_beside, held_rewritten, held_aside, slot_aside}
use Rattle.std.specs.Prelude.{Err, None, Ok, Option, Result, Some}
use Rattle.format.specs.declared.header.HeaderError.{HeaderError}
use Rattle.format.specs.declared.header.HeaderError.TheVariants.{BadLength, BadVersion, BadSuite, TooShort}

-- the entry in slot i agrees with what was counted
pub record Stands (b : Beginning) (i : ℕ) (t : List ℕ) (past : List Told) : Type 0 where
  pub held : Held b.keys i t
  pub agrees : Agrees b (entry_of (slot_of t i)) past

module _ (b : Beginning) (i : ℕ) (t : List ℕ) (past : List Told) where
  -- of a call: what is handed out at the slot, the table after it, and what is told of it
  pub record Does (given : Handed) (next : List ℕ) (w : Told) : Type 0 where
    pub gives : given ≡ counted_of w
    pub stands : Stands b i next (w ∷ past)
    pub moves : entry_of (slot_of next i) ≡ entry_by w (entry_of (slot_of t i))
    pub leaves : slot_of next i ≡ slot_by w (slot_of t i)

  -- the same of an arrival, and what it writes
  pub record Meets (m source out : List ℕ) (w : Told) (r : Received) : Type 0 where
    pub does : Does (answered i (arrival m source out) r.answer) r.table w
    pub writes : (y : Message) → counted_of w ≡ one y → (h : Header) → read_of m ≡ Ok h → r.out ≡ put out 0 (opened h b.keys m)

  -- and of one that leads to the slot
  pub record Lands (m source out : List ℕ) (w : Told) (r : Received) : Type 0 where
    pub meets : Meets m source out w r
    pub replies : r.answer.reply ≡ reply_to w

module _ {b : Beginning} {i : ℕ} {t : List ℕ} {past : List Told} (now : Stands b i t past) where
  abbrev k : KeyData
  k = b.keys

  abbrev held : Held k i t
  held = now.held

  -- the call leaves the slot as it was
  passing : (given : Handed) (next : List ℕ) → given ≡ nothing → Held k i next → slot_of next i ≡ slot_of t i → Does b i t past given next apart
  passing given next g h same =
      record {
        gives = g;
        stands = record { held = h; agrees = rw same (still_agrees now.agrees apart refl) };
        moves = ap entry_of same;
        leaves = same;
      }

  refusing : (m source out : List ℕ) (n : ℕ) → 1 ≤ n → Meets b i t past m source out apart (kept t out n)
  refusing m source out n some = record { does = passing _ t (rw (ne_eqb n 0 (λ z. omega arith))) held refl; writes = λ y e h read. cc }

  -- ---- an arrival that leads elsewhere

  module _ (h : Header) (m source out : List ℕ) where
    -- another slot is written, behind what an install settled
    beside : (j : ℕ) → (j ≡ i → ⊥) → leads_to t h.flag (key_id_bytes h m) source ≡ Some j → {s u : List ℕ} → Rewritten t j s u
        → (given : Handed) → given ≡ nothing → Does b i t past given u apart
    beside j other l w given g =
        let a = match_facts h.flag (key_id_bytes h m) source (slot_of t j) (leads_matches t j h.flag (key_id_bytes h m) source l) in
        let small = leads_small t j h.flag (key_id_bytes h m) source l in
        passing given _ g (held_aside held j small w a.keyid_short a.source_short other) (slot_aside held j small w a.keyid_short a.source_short other)

    elsewhere : (f : Option ℕ) → leads_to t h.flag (key_id_bytes h m) source ≡ f → (f ≡ Some i → ⊥) → Meets b i t past m source out apart (led f t h m out)
    unfolding handed_out
    elsewhere None l other = refusing m source out no_entry (lit≤ tt)
    elsewhere (Some j) l other =
        let apart-slot : j ≡ i → ⊥ = λ same. other (ap Some same) in
        let small = leads_small t j h.flag (key_id_bytes h m) source l in
        of_arrived (Meets b i t past m source out apart) t out (λ n some low. refusing m source out n some) j h m
        (λ unharmed n least most.
        let within = counter_within n in
        record {
          does = beside j apart-slot l (raised_rewritten t j held.long small (counter_of n) within.0 within.1) _ (rw (ne_eqb n 0 (λ z. omega arith)));
          writes = λ y e g read. cc;
        })
        (λ unharmed.
        record {
          does = beside j apart-slot l (settled_rewritten t j (taken (entry_of (slot_of t j)) h.seqnum (payload_length h m)) held.long small) _ (rw (ne_eqb j i apart-slot));
          writes = λ y e g read. cc;
        })

  -- ---- an arrival that leads to the slot

  pub unharmed : undamaged (slot_of t i) ≡ true
  unharmed = held_undamaged held now.agrees.unharmed

  module _ (h : Header) (m source out : List ℕ) (bytes : Bytes m) (read : read_of m ≡ Ok h) where
    abbrev message : Message
    message = record { number = h.seqnum; payload = payload_length h m }

    abbrev entry : Entry
    entry = entry_of (slot_of t i)

    handing : verdict_of entry.window h.seqnum ≡ Admissible → Lands b i t past m source out (new message) (handed_out message.payload t i h m out)
    unfolding handed_out
    handing w =
        let room = read_room m read in
        let next = taken entry h.seqnum (payload_length h m) in
        let agrees = taken_agrees now.agrees message w (number_small room bytes) (payload_most room) in
        let moved = entry_settled t i next held.long (held_small held) (undamaged_fits agrees.unharmed) refl refl in
        let written = settled_rewritten t i next held.long (held_small held) in
        record {
          meets = record {
            does = record {
              gives = rw (eq-eqb i i refl);
              stands = record {
                held = held_rewritten held written;
                agrees = subst (λ (x : Entry). Agrees b x (new message ∷ past)) (sym moved) agrees;
              };
              moves = moved;
              leaves = rewritten_slot t i held.long (held_small held) written;
            };
            writes =
                λ y e g other.
                let same : h ≡ g = cc in
                rw same (ap (λ (x : KeyData). put out 0 (opened g x m)) held.keys);
          };
          replies = refl;
        }

    -- past the suite, the verdict decides
    judging : eqb (cs_of (slot_of t i)) (number_of h.suite) ≡ true → (w : Verdict) → verdict_of entry.window h.seqnum ≡ w
        → judged w t i h m out ≡ arrived t i h m out
    judging suite w q = by_verdict t i h m out unharmed (eqb-true (cs_of (slot_of t i)) (number_of h.suite) suite) w q

    abbrev slot : List ℕ
    slot = slot_of t i

    -- a refusal that the slot counts
    turned : (w : Told) (n : ℕ) → 1 ≤ n → counted_of w ≡ nothing → n ≡ reply_to w → slot_by w slot ≡ raised_in (counter_of n) slot
        → entry_of (raised_in (counter_of n) slot) ≡ counting (entry_of slot) (counters_by w (counters_of slot)) → entry_by w (entry_of slot) ≡ counting (entry_of slot) (counters_by w (counters_of slot))
        → turned_away t i out n ≡ arrived t i h m out → Lands b i t past m source out w (arrived t i h m out)
    turned w n some none is raises counts entry e =
        let within = counter_within n in
        let written = raised_rewritten t i held.long (held_small held) (counter_of n) within.0 within.1 in
        let there = rewritten_slot t i held.long (held_small held) written in
        let moved = ap entry_of there ∙ counts in
        subst (Lands b i t past m source out w) e
        (record {
          meets = record {
            does = record {
              gives = rw (ne_eqb n 0 (λ z. omega arith)) (sym none);
              stands = record {
                held = held_rewritten held written;
                agrees = subst (λ (x : Entry). Agrees b x (w ∷ past)) (sym moved) (still_agrees now.agrees w none);
              };
              moves = moved ∙ sym entry;
              leaves = there ∙ sym raises;
            };
            writes = λ y x g read. cc;
          };
          replies = is;
        })

    full : length slot ≡ slot_length
    full = length_of_slot t i held.long (held_small held)

    by_tests : (suite low met icv : Bool) → eqb (cs_of (slot_of t i)) (number_of h.suite) ≡ suite
        → verdict_of entry.window h.seqnum ≡ judge low met → right h (key_data_of (slot_of t i)) m ≡ icv
        → Lands b i t past m source out (cond suite (tested low met icv message) apart) (arrived t i h m out)
    by_tests false low met icv p q r =
        subst (Lands b i t past m source out apart) (suite_refused t i h m out unharmed (eqb-false (cs_of (slot_of t i)) (number_of h.suite) p))
        (record { meets = refusing m source out other_suite (lit≤ tt); replies = refl })
    by_tests true true met icv p q r = turned below below_floor (lit≤ tt) refl refl refl (raised_replays slot full) refl (judging p Below q)
    by_tests true false true icv p q r = turned used repeated (lit≤ tt) refl refl refl (raised_replays slot full) refl (judging p Marked q)
    by_tests true false false false p q r =
        turned forged wrong_icv (lit≤ tt) refl refl refl (raised_forged slot full) refl (icv_refused t i h m out r ∙ judging p Admissible q)
    by_tests true false false true p q r =
        subst (Lands b i t past m source out (new message)) (right_icv t i h m out r ∙ judging p Admissible q) (handing q)

    here : Lands b i t past m source out
        (cond (eqb k.suite (number_of h.suite)) (tested (is_below b past h.seqnum) (is_used b past h.seqnum) (right h k m) message) apart)
        (arrived t i h m out)
    here =
        let keys = held.keys in
        by_tests (eqb k.suite (number_of h.suite)) (is_below b past h.seqnum) (is_used b past h.seqnum) (right h k m)
        (rw (ap (λ (x : KeyData). x.suite) keys)) (verdict_agrees now.agrees h.seqnum)
        (ap (λ (x : KeyData). right h x m) keys)

  -- ---- any arrival

  module _ (m source out : List ℕ) (bytes : Bytes m) where
    -- a message of the entry
    lands : (h : Header) → read_of m ≡ Ok h → is_of k h m source ≡ true
        → Lands b i t past m source out (told_of b past (Ok h) m source) (led (leads_to t h.flag (key_id_bytes h m) source) t h m out)
    lands h read mine =
        rw (mine, leads_here held h.flag (key_id_bytes h m) source (names_facts k h.flag (key_id_bytes h m) source mine)) (here h m source out bytes read)

    reads : (p : Result Header HeaderError) → read_of m ≡ p → Meets b i t past m source out (told_of b past p m source) (parsed p t m source out)
    reads (Ok h) e = by (is_of k h m source) refl
      where
        by : (x : Bool) → is_of k h m source ≡ x
            → Meets b i t past m source out (told_of b past (Ok h) m source) (led (leads_to t h.flag (key_id_bytes h m) source) t h m out)
        by true p = (lands h e p).meets
        by false p =
            rw p
            (elsewhere h m source out (leads_to t h.flag (key_id_bytes h m) source) refl
            (λ l. true≢false (sym (names_test k h.flag (key_id_bytes h m) source (leads_named held h.flag (key_id_bytes h m) source l)) ∙ p)))
    reads (Err BadLength) e = refusing m source out bad_length (lit≤ tt)
    reads (Err BadVersion) e = refusing m source out bad_version (lit≤ tt)
    reads (Err BadSuite) e = refusing m source out bad_suite (lit≤ tt)
    reads (Err TooShort) e = refusing m source out too_short (lit≤ tt)

    pub arrives : Meets b i t past m source out (told b past (arrival m source out)) (called t (arrival m source out))
    unfolding received
    arrives = by (ltb (length out) output_room)
      where
        by : (x : Bool)
            → Meets b i t past m source out (cond x apart (told_of b past (read_of m) m source)) (cond x (kept t out output_small) (parsed (read_of m) t m source out))
        by true = refusing m source out output_small (lit≤ tt)
        by false = reads (read_of m) refl

    -- the reply to a message of the entry is the one that is told
    pub replied : output_room ≤ length out → (h : Header) → read_of m ≡ Ok h → is_of k h m source ≡ true
        → (called t (arrival m source out)).answer.reply ≡ reply_to (told b past (arrival m source out))
    unfolding received
    replied room h read mine = rw (le-ltb (length out) output_room room, read) (lands h read mine).replies

  -- ---- any other call

  -- a call that would have ended the history if it was done at slot i, and did not, was done at another
  elsewhere_done : (c : Call) → ends i c (done_at i) ≡ true → (j : ℕ) → ends i c (done_at j) ≡ false → j ≡ i → ⊥
  elsewhere_done c over j goes same = true≢false (sym over ∙ subst (λ (x : ℕ). ends i c (done_at x) ≡ false) same goes)

  -- another slot takes what does not match
  replacing : (j : ℕ) → j < slot_count → (j ≡ i → ⊥) → (s : List ℕ) → length s ≡ slot_length → is_named k s ≡ false → Does b i t past nothing (replaced t j s) apart
  replacing j small other s n differs =
      let mild : is_named k s ≡ true → is_named k (slot_of t j) ≡ true = λ e. absurd (true≢false (sym e ∙ differs)) in
      passing nothing (replaced t j s) refl (held_beside held j small s n mild other) (slot_beside held j small s n mild other)

  module _ (other : KeyData) (f : Frame) (bytes : Bytes other.key_id) where
    -- a fresh entry of which the slot is no twin goes into another slot
    entering : Fair other f → matches other.flag other.key_id other.source (slot_of t i) ≡ false → (j : ℕ) → j < slot_count → (j ≡ i → ⊥)
        → Does b i t past nothing (replaced t j (fresh_slot other f)) apart
    entering fair unlike j small aside =
        let sound = sound_facts other fair.sound in
        let differs : is_named k (fresh_slot other f) ≡ false =
        not-eq-not.0
        (λ hit.
        let found =
        leads_here held other.flag other.key_id other.source
        (names_back (match_names other k.flag k.key_id k.source (fresh_slot other f) (fresh_keydata sound (bytes 0) f) hit)) in
        true≢false (sym (leads_matches t i other.flag other.key_id other.source found) ∙ unlike)) in
        replacing j small aside (fresh_slot other f) (length_fresh sound (bytes 0) f) differs

    installs : Does b i t past nothing (installed t other f).table apart
    installs = by (install_outcome t other f)
      where
        by : Refuses t (installed t other f) ⊎ ((j : ℕ) × Enters t other f j) → Does b i t past nothing (installed t other f).table apart
        by (inl r) = rw r.is (passing nothing t refl held refl)
        by (inr (j, n)) =
            let free = eqb-true (get_or (slot_of t j) occupied_at 0) 0 (not-false (eqb (get_or (slot_of t j) occupied_at 0) 0) (free_empty t j n.free)) in
            rw n.is
            (entering n.fair (leads_nowhere t i other.flag other.key_id other.source n.alone (held_small held)) j (free_small t j n.free)
            (λ same. (held_alike held).held (rw same at free)))

    changes : (j : ℕ) → ends i (change j other f) (changed t j other f).answer ≡ false → Does b i t past nothing (changed t j other f).table apart
    changes j goes = by (change_outcome t j other f)
      where
        by : Refuses t (changed t j other f) ⊎ Changes t j other f → Does b i t past nothing (changed t j other f).table apart
        by (inl r) = rw r.is (passing nothing t refl held refl)
        by (inr c) =
            let aside =
            elsewhere_done (change j other f) (eq-eqb i i refl) j (sym (ap (λ (l : Left). ends i (change j other f) l.answer) c.is) ∙ goes) in
            rw c.is
            (entering c.fair
            (elsewhere_nowhere t i j other.flag other.key_id other.source c.alone (held_small held) (λ same. aside (sym same))) j c.small aside)

  removes : (j : ℕ) → ends i (remove j) (removed t j).answer ≡ false → Does b i t past nothing (removed t j).table apart
  removes j goes = by (remove_outcome t j)
    where
      by : Refuses t (removed t j) ⊎ Frees t j → Does b i t past nothing (removed t j).table apart
      by (inl r) = rw r.is (passing nothing t refl held refl)
      by (inr f) =
          rw f.is
          (replacing j f.small (elsewhere_done (remove j) (eq-eqb i i refl) j (sym (ap (λ (l : Left). ends i (remove j) l.answer) f.is) ∙ goes)) empty_slot (length-replicate {A = ℕ} slot_length 0)
          (sym (no_match k.flag k.key_id k.source empty_slot (λ a. a.held refl))))

  loads : (text : List ℕ) → ends i (load text) (loaded t text).answer ≡ false → Does b i t past nothing (loaded t text).table apart
  loads text goes = by (load_outcome t text)
    where
      by : Refuses t (loaded t text) ⊎ ((l : Listing) × Takes t text l) → Does b i t past nothing (loaded t text).table apart
      by (inl r) = rw r.is (passing nothing t refl held refl)
      by (inr (l, n)) =
          let j = l.settled.named.slot in
          let alike = n.stands.named.alike in
          let other = elsewhere_done (load text) (eq-eqb i i refl) j (sym (ap (λ (x : Left). ends i (load text) x.answer) n.is) ∙ goes) in
          let written = restored_rewritten t j (listed_entry l) held.long n.small in
          rw n.is
          (passing nothing (restored t j (listed_entry l)) refl (held_aside held j n.small written alike.keyid_short alike.source_short other)
          (slot_aside held j n.small written alike.keyid_short alike.source_short other))

  pub step : (c : Call) → OfBytes c → ends i c (called t c).answer ≡ false → Does b i t past (handed i t c) (after t c) (told b past c)
  step (arrival m source out) bytes goes = (arrives m source out bytes).does
  step (install other f) bytes goes = installs other f bytes
  step (remove j) bytes goes = removes j goes
  step (change j other f) bytes goes = changes other f bytes j goes
  step (load text) bytes goes = loads text goes
