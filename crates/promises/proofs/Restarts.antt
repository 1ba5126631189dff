-- A restart (02, No. 6): after calls an entry is printed; another gateway installs the same data, loads the listing, and goes on with further calls. For
-- that entry their replies, payloads, totals and counters are those of the gateway that never stopped.
-- Assumes nothing.
use mathlib.Core.Path.{◌≡◌, refl, sym, ap, subst, ◌∙◌}
use mathlib.Core.Bool.{Bool, true, false, true≢false, not-eq-not}
use mathlib.Core.List.{List, [], ◌∷◌}
use mathlib.Core.Logic.{◌⊎◌, inl, inr}
use Prim.Native.Nat.{ℕ, ◌≤◌}
use native.Mathlib.Nat.{zero-add}
use native.Mathlib.Decide.{ℕ_discrete}
use native.Mathlib.Omega.{arith}
use borrow.Author.Tests.{eqb-true, eq-eqb, ne_eqb, ltb-false}
use lib.Dec.{ltb, lit≤}
use lib.ListN.{length, get_or, take, drop, replicate, length-replicate}
use lib.Seq.{take-append_seam}
use Rattle.octets.specs.Octets.{Bytes, put}
use Rattle.octets.proofs.BigEndian.{length_bytes}
use Rattle.answers.specs.Answers.{refused, output_room}
use Rattle.answers.specs.declared.Answer.{Answer}
use Rattle.format.specs.Header.{read_of}
use Rattle.format.specs.KeyData.{KeyData, sound_of}
use Rattle.format.specs.declared.header.Header.{Header}
use Rattle.format.proofs.Soundness.{sound_facts}
use Rattle.message.specs.Sealing.{opened}
use Rattle.window.specs.declared.Frame.{Frame}
use Rattle.window.specs.Entry.{Entry, taken}
use Rattle.window.proofs.Entries.{entry_test}
use Rattle.slots.specs.Table.{slot_of, occupied, window_of, key_id_of, source_of, key_data_of, entry_of, restored, slot_length, table_length, occupied_at, highest_at, replays_at, forged_at, spare_at}
use Rattle.slots.proofs.Damage.{entry_undamaged}
use Rattle.slots.proofs.Replacing.{slot_own}
use Rattle.slots.proofs.Rewriting.{Around, written_around, rewritten_slot}
use Rattle.slots.proofs.Settled.{undamaged_fits, settled_around, same_around, restored_rewritten, entry_restored}
use Rattle.slots.proofs.Slots.{length_of_slot}
use Rattle.lookup.specs.Lookup.{matches, leads_to, first_free}
use Rattle.lookup.proofs.Firsts.{free_small}
use Rattle.entries.specs.Change.{changed}
use Rattle.entries.specs.Fresh.{fresh_slot}
use Rattle.entries.specs.Install.{Left, done_at, placed, installed, removed}
use Rattle.entries.proofs.Fresh.{length_fresh}
use Rattle.entries.proofs.Installs.{fair_is_true, installs_alone}
use Rattle.entries.proofs.Outcomes.{Refuses, Enters, Frees, Changes, not_done, install_outcome, remove_outcome, change_outcome}
use Rattle.entries.proofs.Removing.{removes, held_is_true}
use Rattle.listing.specs.Listing.{listing_of, listed}
use Rattle.listing.proofs.Listed.{lists}
use Rattle.form.specs.Form.{SettledValues, Listing}
use Rattle.loading.specs.Load.{stands, listed_entry, loaded}
use Rattle.loading.proofs.Loads.{is_read, takes_up}
use Rattle.loading.proofs.Outcomes.{Takes, load_outcome}
use Rattle.loading.proofs.RoundTrip.{settled_of, values_of, listing_read}
use Rattle.loading.proofs.Standing as Taken
use Rattle.loading.proofs.Standing.{stand_test}
use Rattle.gateway.specs.Receive.{Received, received}
use Rattle.promises.specs.Calls.{Call, arrival, install, remove, change, load, OfBytes, called, after, run, is_done, Trace, last_of}
use Rattle.promises.specs.Counted.{Beginning, fresh, standing, Message, numbers_of, is_of, Told, apart, below, used, forged, new, told, told_from, told_by, counted}
use Rattle.promises.specs.History.{Begins, handed, handed_by, Unended, GoesOn, ends, different, counted_of, slot_by, entry_by, reply_to, SameFor, NoChangeOf, Unchanged, Resumed}
use Rattle.promises.proofs.Beginnings.{install_begins, slot_begins}
use Rattle.promises.proofs.Held.{Held, held_small, held_alike}
use Rattle.promises.proofs.Loads.{listing_loads, load_history}
use Rattle.promises.proofs.Refusals.{receive_keeps}
use Rattle.promises.proofs.Runs.{begun, stands_on, hands_on, accounts, done_nowhere, spares}
use Rattle.promises.proofs.Steps.{Stands, Does, arrives, replied, step, unharmed}
use Rattle.promises.proofs.Traces.{trace_results, trace_run}
use Rattle.promises.proofs.Worthless.{answered_gives}
use Rattle.std.specs.Prelude.{None, Ok, Some}

-- ---- what is told settles the whole answer, and the output

abbrev answer_to : ℕ → Told → Answer
answer_to i apart = refused (reply_to apart)
answer_to i below = refused (reply_to below)
answer_to i used = refused (reply_to used)
answer_to i forged = refused (reply_to forged)
answer_to i (new x) = record { reply = 0; length = x.payload; slot = i; seqnum = x.number }

abbrev out_to : List ℕ → List ℕ → Told → List ℕ
out_to out payload apart = out
out_to out payload below = out
out_to out payload used = out
out_to out payload forged = out
out_to out payload (new x) = put out 0 payload

answer_is : (a : Answer) {reply n slot seqnum : ℕ} → a.reply ≡ reply → a.length ≡ n → a.slot ≡ slot → a.seqnum ≡ seqnum
    → a ≡ record { reply = reply; length = n; slot = slot; seqnum = seqnum }
answer_is a p q r s = rw (sym p, sym q, sym r, sym s) refl

module _ {b : Beginning} {i : ℕ} {t : List ℕ} {past : List Told} (now : Stands b i t past) (m source out : List ℕ) (bytes : Bytes m)
    (room : output_room ≤ length out) (h : Header) (read : read_of m ≡ Ok h) (mine : is_of b.keys h m source ≡ true) where
  abbrev c : Call
  c = arrival m source out

  both_told : (w : Told) → told b past c ≡ w → ((called t c).answer ≡ answer_to i w) × ((called t c).out ≡ out_to out (opened h b.keys m) w)
  both_told w is = by w is (replied now m source out bytes room h read mine ∙ ap reply_to is)
    where
      refusal : (n : ℕ) → 1 ≤ n → (called t c).answer.reply ≡ n → ((called t c).answer ≡ refused n) × ((called t c).out ≡ out)
      refusal n some e =
          let k = (receive_keeps t m source out).refusal (λ z. omega arith) in
          (k.0 ∙ ap refused e, k.1)

      by : (w : Told) → told b past c ≡ w → (called t c).answer.reply ≡ reply_to w
          → ((called t c).answer ≡ answer_to i w) × ((called t c).out ≡ out_to out (opened h b.keys m) w)
      by apart p e = refusal _ (omega arith) e
      by below p e = refusal _ (omega arith) e
      by used p e = refusal _ (omega arith) e
      by forged p e = refusal _ (omega arith) e
      by (new x) p e =
          let meets = arrives now m source out bytes in
          let g = answered_gives i c (called t c).answer x (meets.does.gives ∙ ap counted_of p) in
          (answer_is (called t c).answer g.done g.payload g.slot g.number, meets.writes x (ap counted_of p) h read)

-- ---- two tables in step

-- what a listing names in one slot it names in another with the same key data and frame, where that has accepted 0
named_again : {k : KeyData} {i : ℕ} {u s : List ℕ} → Held k i u → (v : SettledValues) → Taken.NamedAlike v.named s → Taken.TermsAlike v.terms s
    → key_data_of (slot_of u i) ≡ key_data_of s → (window_of (slot_of u i)).frame ≡ (window_of s).frame → (entry_of (slot_of u i)).accepted ≡ 0 → Taken.Stands v (slot_of u i)
named_again held v name terms keys frame unused =
    let a = held_alike held in record {
      named = record {
        alike = record {
          held = a.held;
          keyid_short = a.keyid_short;
          source_short = a.source_short;
          flag_same = ap (λ (k : KeyData). k.flag) keys ∙ name.alike.flag_same;
          keyid_same = ap (λ (k : KeyData). k.key_id) keys ∙ name.alike.keyid_same;
        };
        source_same = ap (λ (k : KeyData). k.source) keys ∙ name.source_same;
      };
      terms = record {
        suite_same = ap (λ (k : KeyData). k.suite) keys ∙ terms.suite_same;
        edition_same = ap (λ (k : KeyData). k.edition) keys ∙ terms.edition_same;
        size_same = ap (λ (f : Frame). f.size) frame ∙ terms.size_same;
        start_same = ap (λ (f : Frame). f.start) frame ∙ terms.start_same;
      };
      unused = unused;
    }

-- what is told of a call leaves the bytes around window, totals and counters
told_around_all : (w : Told) (s : List ℕ) → length s ≡ slot_length → Around s (slot_by w s)
told_around_all apart s long = record { front = refl; rest = refl }
told_around_all below s long = written_around s replays_at _ long (lit≤ tt) (rw length_bytes (lit≤ tt))
told_around_all used s long = written_around s replays_at _ long (lit≤ tt) (rw length_bytes (lit≤ tt))
told_around_all forged s long = written_around s forged_at _ long (lit≤ tt) (rw length_bytes (lit≤ tt))
told_around_all (new x) s long = settled_around s (taken (entry_of s) x.number x.payload) long

-- the entry stands in both, with the same past, and is the same
record InStep (b : Beginning) (i : ℕ) (t u : List ℕ) (past : List Told) : Type 0 where
  first : Stands b i t past
  second : Stands b i u past
  entries : entry_of (slot_of t i) ≡ entry_of (slot_of u i)

module _ {b : Beginning} {i : ℕ} where
  module _ {t u : List ℕ} {past : List Told} (both : InStep b i t u past) where
    same_answer : (m source out : List ℕ) → Bytes m → (h : Header) → read_of m ≡ Ok h → is_of b.keys h m source ≡ true
        → let p = called t (arrival m source out) in let q = called u (arrival m source out) in (p.answer ≡ q.answer) × (p.out ≡ q.out)
    unfolding received
    same_answer m source out bytes h read mine = by (ltb (length out) output_room) refl
      where
        by : (short : Bool) → ltb (length out) output_room ≡ short
            → let p = called t (arrival m source out) in let q = called u (arrival m source out) in (p.answer ≡ q.answer) × (p.out ≡ q.out)
        by true e = rw e (refl, refl)
        by false e =
            let room = ltb-false (length out) output_room e in
            let w = told b past (arrival m source out) in
            let p = both_told both.first m source out bytes room h read mine w refl in
            let q = both_told both.second m source out bytes room h read mine w refl in
            (p.0 ∙ sym q.0, p.1 ∙ sym q.1)

    alike : SameFor b.keys i t u
    alike = record {
      entries = both.entries;
      hands = λ c bytes. (accounts both.first).exactly c bytes ∙ sym ((accounts both.second).exactly c bytes);
      answers = same_answer;
    }

  swapped : {t u : List ℕ} {past : List Told} → InStep b i t u past → InStep b i u t past
  swapped both = record { first = both.second; second = both.first; entries = sym both.entries }

  -- what ends the history in one ends it in the other, if it is no change to sound data: a removal or a load that is done at the slot
  removes_too : {t u : List ℕ} {past : List Told} → InStep b i t u past → (j : ℕ) → is_done i (removed t j).answer ≡ true → is_done i (removed u j).answer ≡ true
  removes_too {t} {u} both j done = by (remove_outcome t j) (remove_outcome u j)
    where
      by : Refuses t (removed t j) ⊎ Frees t j → Refuses u (removed u j) ⊎ Frees u j → is_done i (removed u j).answer ≡ true
      by (inl r) q = absurd (true≢false (sym done ∙ done_nowhere r i))
      by (inr f) (inr g) = rw g.is (rw f.is at done)
      by (inr f) (inl r) =
          let same : j ≡ i = eqb-true j i (rw f.is at done) in
          let small = held_small both.second.held in
          let busy : occupied (slot_of u j) ≡ true = rw (same, ne_eqb (get_or (slot_of u i) occupied_at 0) 0 (held_alike both.second.held).held) in
          absurd (not_done r (ap (λ (l : Left). l.answer.reply) (removes u j (held_is_true u j (rw same small) busy))))

  -- the entry that a listing names stands in one as in the other
  stands_too : {t u : List ℕ} {past : List Told} → InStep b i t u past → (v : SettledValues) → Taken.Stands v (slot_of t i) → Taken.Stands v (slot_of u i)
  stands_too both v s =
      named_again both.second.held v s.named s.terms (both.second.held.keys ∙ sym both.first.held.keys)
      (both.second.agrees.framed ∙ sym both.first.agrees.framed) (ap (λ (e : Entry). e.accepted) (sym both.entries) ∙ s.unused)

  loads_too : {t u : List ℕ} {past : List Told} → InStep b i t u past → (text : List ℕ) → is_done i (loaded t text).answer ≡ true → is_done i (loaded u text).answer ≡ true
  loads_too {t} {u} both text done = by (load_outcome t text)
    where
      by : Refuses t (loaded t text) ⊎ ((l : Listing) × Takes t text l) → is_done i (loaded u text).answer ≡ true
      by (inl r) = absurd (true≢false (sym done ∙ done_nowhere r i))
      by (inr (l, n)) =
          let slot : l.settled.named.slot ≡ i = eqb-true l.settled.named.slot i (rw n.is at done) in
          let there = stand_test l.settled (slot_of u i) (stands_too both l.settled (subst (λ (x : ℕ). Taken.Stands l.settled (slot_of t x)) slot n.stands)) in
          let sound : sound_of (key_data_of (slot_of u i)) ≡ true = ap sound_of (both.second.held.keys ∙ sym both.first.held.keys) ∙ subst (λ (x : ℕ). sound_of (key_data_of (slot_of t x)) ≡ true) slot n.sound in
          let is = is_read u text n.read ∙ takes_up u l n.small (subst (λ (x : ℕ). stands l.settled (slot_of u x) ≡ true) (sym slot) there) (subst (λ (x : ℕ). sound_of (key_data_of (slot_of u x)) ≡ true) (sym slot) sound) (entry_test (listed_entry l) n.unharmed) in
          rw (is, slot, eq-eqb i i refl)

  ends_too : {t u : List ℕ} {past : List Told} → InStep b i t u past → (c : Call) → NoChangeOf i c → ends i c (called t c).answer ≡ false → ends i c (called u c).answer ≡ false
  ends_too both (arrival m source out) other goes = refl
  ends_too both (install k f) other goes = refl
  ends_too both (remove j) other goes = not-eq-not.0 (λ e. true≢false (sym (removes_too (swapped both) j e) ∙ goes))
  ends_too {u = u} both (change j k f) other goes = by (ℕ_discrete j i) (change_outcome u j k f)
    where
      by : Dec (j ≡ i) → Refuses u (changed u j k f) ⊎ Changes u j k f → is_done i (changed u j k f).answer ≡ false
      by (no differs) o = spares i u (change j k f) differs
      by (yes same) (inl r) = done_nowhere r i
      by (yes same) (inr n) = absurd (true≢false (sym (fair_is_true n.fair) ∙ other same))
  ends_too both (load text) other goes = not-eq-not.0 (λ e. true≢false (sym (loads_too (swapped both) text e) ∙ goes))

  -- a call that ends it in neither leaves both in step
  both_step : {t u : List ℕ} {past : List Told} → InStep b i t u past → (c : Call) → OfBytes c → ends i c (called t c).answer ≡ false → ends i c (called u c).answer ≡ false
      → InStep b i (after t c) (after u c) (told b past c ∷ past)
  both_step {t} {u} {past} both c bytes goes go =
      record {
        first = first.stands;
        second = second.stands;
        entries = first.moves ∙ ap (entry_by (told b past c)) both.entries ∙ sym second.moves;
      }
    where
      first : Does b i t past (handed i t c) (after t c) (told b past c)
      first = step both.first c bytes goes

      second : Does b i u past (handed i u c) (after u c) (told b past c)
      second = step both.second c bytes go

  -- so calls that go on in both leave them in step,
  in_step : {t u : List ℕ} {past : List Told} → InStep b i t u past → (es : List Call) → GoesOn i t es → GoesOn i u es → InStep b i (run t es) (run u es) (told_from b past es)
  in_step both [] p q = both
  in_step {t} {u} both (c ∷ es) p q = in_step {t = after t c} {u = after u c} (both_step both c p.0 p.1 q.1) es p.2 q.2

  -- and without a change of the slot they go on in the second as in the first
  goes_too : {t u : List ℕ} {past : List Told} → InStep b i t u past → (es : List Call) → Unchanged i es → GoesOn i t es → GoesOn i u es
  goes_too both [] other p = tt
  goes_too {t} {u} both (c ∷ es) other p =
      let go = ends_too both c other.0 p.1 in
      (p.0, go, goes_too {t = after t c} {u = after u c} (both_step both c p.0 p.1 go) es other.1 p.2)

  -- calls leave the bytes around window, totals and counters
  pub around_on : {t : List ℕ} {past : List Told} → Stands b i t past → (cs : List Call) → GoesOn i t cs → Around (slot_of t i) (slot_of (run t cs) i)
  around_on now [] goes = record { front = refl; rest = refl }
  around_on {t} {past} now (c ∷ cs) goes =
      let d = step now c goes.0 goes.1 in
      let later = around_on {t = after t c} d.stands cs goes.2 in
      let there = told_around_all (told b past c) (slot_of t i) (length_of_slot t i now.held.long (held_small now.held)) in
      record {
        front = later.front ∙ ap (take highest_at) d.leaves ∙ there.front;
        rest = later.rest ∙ ap (drop spare_at) d.leaves ∙ there.rest;
      }

-- what stands in a slot begins a history of its own
stands_begins : {b : Beginning} {i : ℕ} {t : List ℕ} {past : List Told} → Stands b i t past → Begins (standing b.keys (entry_of (slot_of t i))) i t
stands_begins {b} {i} {t} now =
    let keys = now.held.keys in
    subst (λ (k : KeyData). Begins (standing k (entry_of (slot_of t i))) i t) keys
    (slot_begins t now.held.long i (subst (λ (k : KeyData). leads_to t k.flag k.key_id k.source ≡ Some i) (sym keys) now.held.leads) (unharmed now))

-- ---- the restart

-- A gateway goes on by calls cs from where a history begins, and the entry's listing is printed.
module _ {b : Beginning} {i : ℕ} {t : List ℕ} (begins : Begins b i t) (keyid : Bytes b.keys.key_id) (source : Bytes b.keys.source) (cs : List Call) (goes : GoesOn i t cs) where
  abbrev ran : List ℕ
  ran = run t cs

  abbrev text : List ℕ
  text = listing_of i (slot_of ran i)

  now : Stands b i ran (told_by b cs)
  now = stands_on (begun begins) cs goes

  keyid_there : Bytes (key_id_of (slot_of ran i))
  keyid_there = subst (λ (k : KeyData). Bytes k.key_id) (sym now.held.keys) keyid

  source_there : Bytes (source_of (slot_of ran i))
  source_there = subst (λ (k : KeyData). Bytes k.source) (sym now.held.keys) source

  -- it is printed,
  pub prints : (out : List ℕ) → output_room ≤ length out
      → listed ran i out ≡ record { answer = record { reply = 0; length = length text; slot = i; seqnum = 0 }; out = put out 0 text }
  prints out room = lists ran i out room (held_small now.held) (held_alike now.held).held (unharmed now)

  -- Another gateway begins with a fresh entry of the same data in that slot, and its calls ds, which do not end that, have counted nothing.
  module _ {u : List ℕ} (again : Begins (fresh b.keys b.frame) i u) (ds : List Call) (on : GoesOn i u ds) (none : counted (fresh b.keys b.frame) ds ≡ []) where
    abbrev anew : List ℕ
    anew = run u ds

    waits : Stands (fresh b.keys b.frame) i anew (told_by (fresh b.keys b.frame) ds)
    waits = stands_on (begun again) ds on

    there : stands (settled_of i (slot_of ran i)) (slot_of anew i) ≡ true
    there =
        let a = held_alike now.held in
        stand_test (settled_of i (slot_of ran i)) (slot_of anew i)
        (named_again {s = slot_of ran i} waits.held (settled_of i (slot_of ran i))
        (record {
          alike = record { held = a.held; keyid_short = a.keyid_short; source_short = a.source_short; flag_same = refl; keyid_same = refl };
          source_same = refl;
        })
        (record { suite_same = refl; edition_same = refl; size_same = refl; start_same = refl }) (waits.held.keys ∙ sym now.held.keys)
        (waits.agrees.framed ∙ sym now.agrees.framed)
        (omega (arith, (accounts waits).accepted, ap (λ (xs : List Message). length (different (numbers_of xs))) none)))

    -- there the listing loads,
    pub reloads : loaded anew text ≡ record { answer = done_at i; table = restored anew i (entry_of (slot_of ran i)) }
    reloads =
        listing_loads i (slot_of ran i) (held_small now.held) keyid_there source_there (unharmed now) anew waits.held.long there

    started : InStep (standing b.keys (entry_of (slot_of ran i))) i ran (after anew (load text)) []
    started =
        let small = held_small now.held in
        let e = entry_of (slot_of ran i) in
        record {
          first = begun (stands_begins now);
          second =
              begun
              (load_history again ds on text (values_of i (slot_of ran i)) (listing_read i (slot_of ran i) small keyid_there source_there (unharmed now))
              (ap (λ (z : Left). z.answer) reloads));
          entries =
              sym (ap (λ (z : Left). entry_of (slot_of z.table i)) reloads
              ∙ entry_restored anew i e waits.held.long small (undamaged_fits (entry_undamaged (slot_of ran i) (unharmed now))) (waits.agrees.framed ∙ sym now.agrees.framed));
        }

    -- and after any further calls that end the history in neither, both do the same for the entry and have handed out the same there;
    pub restarted_both : (es : List Call) → GoesOn i ran es → GoesOn i (after anew (load text)) es → Resumed b.keys i ran (after anew (load text)) es
    restarted_both es further too = record {
      goes = too;
      same = alike (in_step started es further too);
      hands = hands_on started.first es further ∙ sym (hands_on started.second es too);
    }

    -- so after any that ask for no change of the slot to sound data and do not end the history of the gateway that never stopped.
    pub restarted : (es : List Call) → Unchanged i es → GoesOn i ran es → Resumed b.keys i ran (after anew (load text)) es
    restarted es other further = restarted_both es further (goes_too started es other further)

    -- The same of calls that were made, of which what came back says whether they ended it.
    module _ (es : List Call) (rs qs : List Received) (p : Trace ran es rs) (unended : Unended i es rs) (q : Trace (after anew (load text)) es qs) where
      further : GoesOn i ran es
      further = subst (Unended i es) (trace_results ran es rs p) unended

      made : Resumed b.keys i ran (after anew (load text)) es
          → SameFor b.keys i (last_of ran rs) (last_of (after anew (load text)) qs) × (handed_by i [] es rs ≡ handed_by i [] es qs)
      made r = (
        rw (trace_run ran es rs p, trace_run (after anew (load text)) es qs q) r.same,
        ap (handed_by i [] es) (trace_results ran es rs p) ∙ r.hands ∙ sym (ap (handed_by i [] es) (trace_results (after anew (load text)) es qs q)),
      )

      pub both_traced : Unended i es qs
          → SameFor b.keys i (last_of ran rs) (last_of (after anew (load text)) qs) × (handed_by i [] es rs ≡ handed_by i [] es qs)
      both_traced too = made (restarted_both es further (subst (Unended i es) (trace_results (after anew (load text)) es qs q) too))

      pub restarted_traced : Unchanged i es
          → SameFor b.keys i (last_of ran rs) (last_of (after anew (load text)) qs) × (handed_by i [] es rs ≡ handed_by i [] es qs)
      restarted_traced other = made (restarted es other further)

-- ---- for operators

-- what stands at the start of an output is taken from there
taken_back : (out printed : List ℕ) → take (length printed) (put out 0 printed) ≡ printed
taken_back out printed = rw (zero-add (length printed)) (take-append_seam printed (drop (length printed) out))

-- an install that is done leaves a fresh slot
fresh_there : (t : List ℕ) → length t ≡ table_length → (k : KeyData) (f : Frame) → Bytes k.key_id → (i : ℕ) → (installed t k f).answer ≡ done_at i
    → slot_of (after t (install k f)) i ≡ fresh_slot k f
fresh_there t long k f bytes i done = by (install_outcome t k f)
  where
    by : Refuses t (installed t k f) ⊎ ((j : ℕ) × Enters t k f j) → slot_of (installed t k f).table i ≡ fresh_slot k f
    by (inl r) = absurd (not_done r (ap (λ (a : Answer). a.reply) done))
    by (inr (j, n)) =
        let same : j ≡ i = ap (λ (a : Answer). a.slot) (rw n.is at done) in
        rw (n.is, ← same) (slot_own t j (fresh_slot k f) long (free_small t j n.free) (length_fresh (sound_facts k n.fair.sound) (bytes 0) f))

-- Run calls, print, restart, run further calls. A gateway installs k with the frame f, makes calls cs, and lists the entry into an output with room.
-- Another gateway installs the same, is answered with the same slot, makes calls ds that count nothing there, and loads what was printed.
module _ (t u : List ℕ) (tl : length t ≡ table_length) (ul : length u ≡ table_length) (k : KeyData) (f : Frame) (keyid : Bytes k.key_id) (source : Bytes k.source)
    (i : ℕ) (first : (installed t k f).answer ≡ done_at i) (second : (installed u k f).answer ≡ done_at i)
    (cs : List Call) (goes : GoesOn i (after t (install k f)) cs) (ds : List Call) (on : GoesOn i (after u (install k f)) ds) (none : counted (fresh k f) ds ≡ [])
    (out : List ℕ) (room : output_room ≤ length out) where
  abbrev lasting : List ℕ
  lasting = run t (install k f ∷ cs)

  abbrev print : List ℕ
  print = let p = listed lasting i out in take p.answer.length p.out

  abbrev resumed : List ℕ
  resumed = after (run u (install k f ∷ ds)) (load print)

  begins : Begins (fresh k f) i (after t (install k f))
  begins = install_begins t tl k f keyid i first

  again : Begins (fresh k f) i (after u (install k f))
  again = install_begins u ul k f keyid i second

  is_print : listing_of i (slot_of lasting i) ≡ print
  is_print = sym (rw (prints begins keyid source cs goes out room) (taken_back out (listing_of i (slot_of lasting i))))

  -- The load is answered with the slot. Then, after any further calls that ask for no change of the slot to sound data and do not end the entry's history in
  -- the gateway that never stopped, its replies, payloads and totals are the same in both.
  pub restart : ((loaded (run u (install k f ∷ ds)) print).answer ≡ done_at i) × ((es : List Call) → Unchanged i es → GoesOn i lasting es → Resumed k i lasting resumed es)
  restart =
      subst (λ (x : List ℕ). ((loaded (run u (install k f ∷ ds)) x).answer ≡ done_at i) × ((es : List Call) → Unchanged i es → GoesOn i lasting es → Resumed k i lasting (after (run u (install k f ∷ ds)) (load x)) es)) is_print
      (ap (λ (z : Left). z.answer) (reloads begins keyid source cs goes again ds on none), restarted begins keyid source cs goes again ds on none)

  -- And the slot is, byte for byte, the one that was printed.
  pub restart_bytes : Bytes (slot_of lasting i) → slot_of resumed i ≡ slot_of lasting i
  restart_bytes bytes =
      let s = slot_of lasting i in
      let v = run u (install k f ∷ ds) in
      let now = stands_on (begun begins) cs goes in
      let waits = stands_on (begun again) ds on in
      let small = held_small now.held in
      let here = around_on (begun begins) cs goes in
      let there = around_on (begun again) ds on in
      let alike-fresh = fresh_there u ul k f keyid i second ∙ sym (fresh_there t tl k f keyid i first) in
      let around : Around s (slot_of v i) = record {
        front = there.front ∙ ap (take highest_at) alike-fresh ∙ sym here.front;
        rest = there.rest ∙ ap (drop spare_at) alike-fresh ∙ sym here.rest;
      } in
      let is = subst (λ (x : List ℕ). loaded v x ≡ record { answer = done_at i; table = restored v i (entry_of s) }) is_print (reloads begins keyid source cs goes again ds on none) in
      ap (λ (z : Left). slot_of z.table i) is ∙ rewritten_slot v i waits.held.long small (restored_rewritten v i (entry_of s) waits.held.long small)
      ∙ same_around s (slot_of v i) (length_of_slot lasting i now.held.long small) bytes around

-- An empty table answers slot 0 to every install that is answered 0 elsewhere,
abbrev empty : List ℕ
empty = replicate table_length 0

nowhere : (flag : ℕ) (key_id source : List ℕ) → leads_to empty flag key_id source ≡ None
unfolding leads_to matches
nowhere flag key_id source = refl

first_slot : first_free empty ≡ Some 0
unfolding first_free
first_slot = refl

pub empty_installs : (t : List ℕ) (k : KeyData) (f : Frame) (i : ℕ) → (installed t k f).answer ≡ done_at i → (installed empty k f).answer ≡ done_at 0
empty_installs t k f i done = by (install_outcome t k f)
  where
    by : Refuses t (installed t k f) ⊎ ((j : ℕ) × Enters t k f j) → (installed empty k f).answer ≡ done_at 0
    by (inl r) = absurd (not_done r (ap (λ (a : Answer). a.reply) done))
    by (inr (j, n)) =
        ap (λ (l : Left). l.answer)
        (installs_alone empty k f n.fair (nowhere k.flag k.key_id k.source) ∙ ap (placed empty (fresh_slot k f)) first_slot)

-- so an entry that stood in slot 0 resumes from an empty table, an install and a load.
pub restart_empty : (t : List ℕ) → length t ≡ table_length → (k : KeyData) (f : Frame) → Bytes k.key_id → Bytes k.source → (installed t k f).answer ≡ done_at 0
    → (cs : List Call) → GoesOn 0 (after t (install k f)) cs → (out : List ℕ) → output_room ≤ length out → (es : List Call) → Unchanged 0 es → GoesOn 0 (run t (install k f ∷ cs)) es
    → let p = listed (run t (install k f ∷ cs)) 0 out in
    Resumed k 0 (run t (install k f ∷ cs)) (run empty (install k f ∷ load (take p.answer.length p.out) ∷ [])) es
restart_empty t long k f keyid source first cs goes out room es other further =
    (restart t empty long (length-replicate {A = ℕ} table_length 0) k f keyid source 0 first (empty_installs t k f 0 first) cs goes [] tt refl out room).1 es other further
