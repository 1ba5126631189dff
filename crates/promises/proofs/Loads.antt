-- Loading a listing (02, No. 6): what is printed after a load is what was loaded; the listing of an undamaged entry loads where that entry stands with
-- accepted 0, and makes it that entry byte for byte; and a load that is done begins a history, with the listed window, totals and counters.
-- Assumes nothing.
use mathlib.Core.Path.{◌≡◌, refl, sym, ap, subst, ◌∙◌}
use mathlib.Core.Bool.{true, false, ◌||◌}
use mathlib.Core.List.{List, [], ◌∷◌}
use mathlib.Core.Logic.{◌⊎◌, inl, inr}
use mathlib.Core.Option.{some}
use Prim.Native.Nat.{ℕ, ◌≤◌, ◌<◌}
use native.Mathlib.Omega.{arith}
use lib.Dec.{ltb}
use lib.ListN.{length, get_or}
use Rattle.octets.specs.Octets.{Bytes, put}
use Rattle.octets.proofs.Parts.{length_part}
use Rattle.answers.specs.Answers.{output_room}
use Rattle.answers.specs.declared.Answer.{Answer}
use Rattle.format.specs.KeyData.{KeyData}
use Rattle.format.proofs.Soundness.{sound_facts, sound_test, sound_alike}
use Rattle.window.specs.Window.{floor_of, marked}
use Rattle.window.specs.Entry.{Entry}
use Rattle.slots.specs.Table.{slot_of, key_id_of, source_of, key_data_of, entry_of, restored, replaced, slot_count, slot_length, table_length, key_at}
use Rattle.slots.specs.Record.{undamaged}
use Rattle.slots.proofs.Damage.{undamaged_sound}
use Rattle.slots.proofs.Rewriting.{Around}
use Rattle.slots.proofs.Settled.{restored_rewritten, same_around}
use Rattle.slots.proofs.Slots.{length_of_slot}
use Rattle.lookup.specs.Lookup.{leads_to}
use Rattle.entries.specs.Install.{Left, done_at}
use Rattle.entries.proofs.Outcomes.{Refuses, not_done}
use Rattle.listing.specs.Listing.{listing_of, listed}
use Rattle.listing.proofs.Listed.{lists}
use Rattle.form.specs.Form.{Listing, listing_in}
use Rattle.loading.specs.Load.{stands, listed_entry, loaded}
use Rattle.loading.proofs.Outcomes.{Takes, load_outcome, taken_keys, taken_entry, taken_undamaged}
use Rattle.loading.proofs.RoundTrip.{settled_of, printed_after}
use Rattle.loading.proofs.RoundTrip as values
use Rattle.loading.proofs.Standing.{stand_facts}
use Rattle.gateway.specs.Receive.{Received}
use Rattle.promises.specs.Calls.{Call, load, OfBytes, after, run, Trace, last_of}
use Rattle.promises.specs.Counted.{Beginning, standing, Message, told_by, counted}
use Rattle.promises.specs.History.{Begins, GoesOn, Unended, one, handed, handed_by, Accounts}
use Rattle.promises.proofs.Beginnings.{slot_begins}
use Rattle.promises.proofs.Held.{Held, held_small, held_rewritten}
use Rattle.promises.proofs.History.{history, history_traced, no_used_number}
use Rattle.promises.proofs.Runs.{begun, stands_on}
use Rattle.promises.proofs.Traces.{allowed_called}
use Rattle.std.specs.Prelude.{Some}

-- a load that is done takes what its text lists
pub done_takes : (t text : List ℕ) → (loaded t text).answer.reply ≡ 0 → (l : Listing) × Takes t text l
done_takes t text done = by (load_outcome t text)
  where
    by : Refuses t (loaded t text) ⊎ ((l : Listing) × Takes t text l) → (l : Listing) × Takes t text l
    by (inl r) = absurd (not_done r done)
    by (inr n) = n

-- ---- printed again

-- "Printing after loading gives the same lines": the listing of the slot that a load answers is the text that was loaded, to the byte.
pub print_after_load : (t : List ℕ) → length t ≡ table_length → (text : List ℕ) → (loaded t text).answer.reply ≡ 0 → (out : List ℕ) → output_room ≤ length out
    → let i = (loaded t text).answer.slot in
    listed (loaded t text).table i out ≡ record { answer = record { reply = 0; length = length text; slot = i; seqnum = 0 }; out = put out 0 text }
print_after_load t long text done out room = by (done_takes t text done)
  where
    by : (l : Listing) × Takes t text l
        → let i = (loaded t text).answer.slot in
        listed (loaded t text).table i out ≡ record { answer = record { reply = 0; length = length text; slot = i; seqnum = 0 }; out = put out 0 text }
    by (l, n) =
        let i = l.settled.named.slot in
        let next = restored t i (listed_entry l) in
        let held : get_or (slot_of next i) 0 0 ≡ 0 → ⊥ = λ z. n.stands.named.alike.held (sym (taken_keys long n).first ∙ z) in
        rw n.is
        (lists next i out room n.small held (taken_undamaged long n)
        ∙ ap (λ (u : List ℕ). record { answer = record { reply = 0; length = length u; slot = i; seqnum = 0 }; out = put out 0 u }) (printed_after long n))

-- ---- loaded again

-- an undamaged entry of bytes, with its listing in slot i
module _ (i : ℕ) (s : List ℕ) (small : i < slot_count) (keyid : Bytes (key_id_of s)) (source : Bytes (source_of s)) (unharmed : undamaged s ≡ true)
    -- and a table where that entry stands with accepted 0
    (t : List ℕ) (long : length t ≡ table_length) (there : stands (settled_of i s) (slot_of t i) ≡ true) where
  -- "every listing printed of an undamaged entry loads into a table where that entry stands with accepted 0"
  pub listing_loads : loaded t (listing_of i s) ≡ record { answer = done_at i; table = restored t i (entry_of s) }
  listing_loads =
      let a = stand_facts (settled_of i s) (slot_of t i) there in
      let key : length (key_data_of (slot_of t i)).key ≡ 32 = length_part key_at 32 (slot_of t i) (rw (length_of_slot t i long small) (omega arith)) in
      values.loads i s small keyid source unharmed t there
      (sound_test (key_data_of (slot_of t i)) (sound_alike (undamaged_sound s unharmed) a.named.alike.flag_same a.named.alike.keyid_same
      a.named.source_same a.terms.suite_same a.terms.edition_same key))

  -- and where the slot has the entry's bytes but for window, totals and counters, it is then that entry, byte for byte.
  pub listing_restores : length s ≡ slot_length → Bytes s → Around s (slot_of t i) → (loaded t (listing_of i s)).table ≡ replaced t i s
  listing_restores full bytes around =
      ap (λ (z : Left). z.table) listing_loads ∙ (restored_rewritten t i (entry_of s) long small).is ∙ ap (replaced t i) (same_around s (slot_of t i) full bytes around)

-- ---- a history from there on

-- the listing that a text is
same_listing : (text : List ℕ) {l m : Listing} → listing_in text ≡ some l → listing_in text ≡ some m → l ≡ m
same_listing text {l} {m} p q = let z : some l ≡ some m = sym p ∙ q in cc

-- A load that is done at slot i begins a history there, if messages of the slot's key data lead to it: a table that was damaged may hold a twin below.
pub load_begins : (t : List ℕ) → length t ≡ table_length → (text : List ℕ) (l : Listing) → listing_in text ≡ some l → (i : ℕ) → (loaded t text).answer ≡ done_at i
    → let k = key_data_of (slot_of t i) in leads_to t k.flag k.key_id k.source ≡ Some i → Begins (standing k (listed_entry l)) i (after t (load text))
load_begins t long text l read i done leads = by (done_takes t text (ap (λ (a : Answer). a.reply) done))
  where
    k : KeyData
    k = key_data_of (slot_of t i)

    begins : (m : Listing) → m ≡ l → Takes t text m → m.settled.named.slot ≡ i → Begins (standing k (listed_entry l)) i (loaded t text).table
    begins m is n slot =
        let e = listed_entry m in
        let next = restored t i e in
        let was : Held k i t = record { long = long; sound = sound_facts k (rw slot at n.sound); keys = refl; leads = leads } in
        let held = held_rewritten was (restored_rewritten t i e long (held_small was)) in
        let there = slot_begins next held.long i (subst (λ (x : KeyData). leads_to next x.flag x.key_id x.source ≡ Some i) (sym held.keys) held.leads) (rw slot at (taken_undamaged long n)) in
        let same : (loaded t text).table ≡ next = ap (λ (z : Left). z.table) n.is ∙ ap (λ (x : ℕ). restored t x e) slot in
        let listed-there = subst (λ (x : KeyData). Begins (standing x (entry_of (slot_of next i))) i next) held.keys there in
        subst (λ (z : Listing). Begins (standing k (listed_entry z)) i (loaded t text).table) is
        (rw same (subst (λ (x : Entry). Begins (standing k x) i next) (rw slot at (taken_entry long n)) listed-there))

    by : (m : Listing) × Takes t text m → Begins (standing k (listed_entry l)) i (loaded t text).table
    by (m, n) = begins m (same_listing text n.read read) n (ap (λ (a : Answer). a.slot) (sym (ap (λ (z : Left). z.answer) n.is) ∙ done))

-- Where a history stood, it knows that its messages lead there. From it, by calls cs and a load of its slot that is answered 0:
module _ {b : Beginning} {i : ℕ} {t : List ℕ} (begins : Begins b i t) (cs : List Call) (goes : GoesOn i t cs) (text : List ℕ) (l : Listing) (read : listing_in text ≡ some l) where
  abbrev ran : List ℕ
  ran = run t cs

  -- a history begins, with the listed window, totals and counters;
  pub load_history : (loaded ran text).answer ≡ done_at i → Begins (standing b.keys (listed_entry l)) i (after ran (load text))
  load_history done =
      let held = (stands_on (begun begins) cs goes).held in
      let keys = held.keys in
      subst (λ (k : KeyData). Begins (standing k (listed_entry l)) i (after ran (load text))) keys
      (load_begins ran held.long text l read i done (subst (λ (k : KeyData). leads_to ran k.flag k.key_id k.source ≡ Some i) (sym keys) held.leads))

  -- after any further calls the slot accounts for them;
  pub history_loaded : (loaded ran text).answer ≡ done_at i → (ds : List Call) → GoesOn i (after ran (load text)) ds
      → let c = standing b.keys (listed_entry l) in Accounts c i (run ran (load text ∷ ds)) (told_by c ds)
  history_loaded done ds on = history (load_history done) ds on

  -- no listed mark and no number below the listed floor is handed out again;
  pub listed_not_again : (loaded ran text).answer ≡ done_at i → (ds : List Call) → GoesOn i (after ran (load text)) ds → (c : Call) → OfBytes c → (x : Message)
      → handed i (run ran (load text ∷ ds)) c ≡ one x
      → let w = (listed_entry l).window in (ltb x.number (floor_of w) || marked w x.number) ≡ false
  listed_not_again done ds on c bytes x gave = no_used_number (load_history done) ds on c bytes x gave

  -- and the same of calls that were made, the first of them the load.
  pub loaded_traced : (r : Received) (ds : List Call) (rs : List Received) → Trace ran (load text ∷ ds) (r ∷ rs) → r.answer ≡ done_at i → Unended i ds rs
      → let c = standing b.keys (listed_entry l) in Accounts c i (last_of ran (r ∷ rs)) (told_by c ds) × (handed_by i [] ds rs ≡ counted c ds)
  loaded_traced r ds rs trace done unended =
      let is = allowed_called ran (load text) r trace.0 in
      let from = load_history (sym (ap (λ (x : Received). x.answer) is) ∙ done) in
      history_traced (subst (λ (x : Received). Begins (standing b.keys (listed_entry l)) i x.table) (sym is) from) ds rs trace.1 unended
