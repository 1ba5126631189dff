-- What a load comes to: a refusal, which leaves the table as it was, or done at the listed slot. Done, the slot has the same key data with the listed
-- window, totals and counters, undamaged.
-- Assumes nothing.
use mathlib.Core.Path.{◌≡◌, refl, sym, ap, ◌∙◌}
use mathlib.Core.Bool.{Bool, true, false, ◌&&◌}
use mathlib.Core.List.{List}
use mathlib.Core.Logic.{◌⊎◌, inl, inr}
use mathlib.Core.Option.{Option, none, some}
use Prim.Native.Nat.{ℕ, ◌<◌}
use borrow.Author.Tests.{ltb-true}
use lib.Dec.{ltb, lit≤}
use lib.ListN.{length}
use Rattle.numbers.proofs.Tests.{and_left, and_right}
use Rattle.answers.specs.Answers.{bad_text, not_standing, would_be_damaged}
use Rattle.format.specs.KeyData.{KeyData, sound_of}
use Rattle.window.specs.Entry.{Entry, undamaged_entry}
use Rattle.window.proofs.Entries.{UndamagedEntry, entry_facts, entry_test}
use Rattle.slots.specs.Table.{slot_of, key_data_of, entry_of, restored, slot_count, table_length}
use Rattle.slots.specs.Record.{undamaged}
use Rattle.slots.proofs.Damage.{undamaged_by_entry}
use Rattle.slots.proofs.Rewriting.{SameKeys, same_keydata, rewritten_length, rewritten_slot, rewritten_keys}
use Rattle.slots.proofs.Settled.{Fits, undamaged_fits, restored_rewritten, entry_restored}
use Rattle.entries.specs.Install.{done_at}
use Rattle.entries.proofs.Outcomes.{Refuses}
use Rattle.form.specs.Form.{Listing, listing_in}
use Rattle.loading.specs.Load.{stands, listed_entry, loadable, taken_up, taken_up_from, loaded}
use Rattle.loading.proofs.Standing.{Stands, stand_facts, frame_alike}
use Rattle.form.proofs.Texts.{listing_fits}

-- the entry takes what is listed
pub record Takes (t text : List ℕ) (l : Listing) : Type 0 where
  pub read : listing_in text ≡ some l
  pub small : l.settled.named.slot < slot_count
  pub stands : Stands l.settled (slot_of t l.settled.named.slot)
  pub sound : sound_of (key_data_of (slot_of t l.settled.named.slot)) ≡ true
  pub unharmed : UndamagedEntry (listed_entry l)
  pub is : loaded t text ≡ record { answer = done_at l.settled.named.slot; table = restored t l.settled.named.slot (listed_entry l) }

pub load_outcome : (t text : List ℕ) → Refuses t (loaded t text) ⊎ ((l : Listing) × Takes t text l)
unfolding loaded taken_up
load_outcome t text = by (listing_in text) refl
  where
    by : (o : Option Listing) → listing_in text ≡ o → Refuses t (taken_up_from t (listing_in text)) ⊎ ((l : Listing) × Takes t text l)
    by none e = inl (record { reply = bad_text; some = lit≤ tt; is = rw e })
    by (some l) e = tested (ltb i slot_count && stands l.settled s) refl (loadable s (listed_entry l)) refl
      where
        i : ℕ
        i = l.settled.named.slot

        s : List ℕ
        s = slot_of t i

        tested : (a : Bool) → (ltb i slot_count && stands l.settled s) ≡ a → (b : Bool) → loadable s (listed_entry l) ≡ b
            → Refuses t (taken_up_from t (listing_in text)) ⊎ ((l : Listing) × Takes t text l)
        tested false p b q = inl (record { reply = not_standing; some = lit≤ tt; is = rw (e, p) })
        tested true p false q = inl (record { reply = would_be_damaged; some = lit≤ tt; is = rw (e, p, q) })
        tested true p true q =
            inr (
              l,
              record {
                read = e;
                small = ltb-true i slot_count (and_left (ltb i slot_count) (stands l.settled s) p);
                stands = stand_facts l.settled s (and_right (ltb i slot_count) (stands l.settled s) p);
                sound = and_left (sound_of (key_data_of s)) (undamaged_entry (listed_entry l)) q;
                unharmed = entry_facts (listed_entry l) (and_right (sound_of (key_data_of s)) (undamaged_entry (listed_entry l)) q);
                is = rw (e, p, q);
              },
            )

-- ---- done

module _ {t text : List ℕ} (long : length t ≡ table_length) {l : Listing} (takes : Takes t text l) where
  abbrev i : ℕ
  i = l.settled.named.slot

  abbrev e : Entry
  e = listed_entry l

  abbrev next : List ℕ
  next = restored t i e

  pub taken_keys : SameKeys (slot_of t i) (slot_of next i)
  taken_keys =
      let alike = takes.stands.named.alike in
      let w = restored_rewritten t i e long takes.small in
      rw (rewritten_slot t i long takes.small w) (rewritten_keys t i long takes.small w alike.keyid_short alike.source_short)

  pub taken_entry : entry_of (slot_of next i) ≡ e
  taken_entry = entry_restored t i e long takes.small (undamaged_fits takes.unharmed) (frame_alike l.settled.terms (slot_of t i) takes.stands.terms)

  pub taken_undamaged : undamaged (slot_of next i) ≡ true
  taken_undamaged =
      sym (undamaged_by_entry (slot_of next i) (ap sound_of (same_keydata taken_keys) ∙ takes.sound)) ∙ ap undamaged_entry taken_entry ∙ entry_test e takes.unharmed

  pub taken_length : length next ≡ table_length
  taken_length = rewritten_length t i long takes.small (restored_rewritten t i e long takes.small)

-- ---- the loaded record

-- that it would be undamaged is that the slot, with the listed window, totals and counters written into it, is
pub loadable_is : (t text : List ℕ) → length t ≡ table_length → (l : Listing) → listing_in text ≡ some l → let i = l.settled.named.slot in i < slot_count
    → stands l.settled (slot_of t i) ≡ true → loadable (slot_of t i) (listed_entry l) ≡ undamaged (slot_of (restored t i (listed_entry l)) i)
unfolding undamaged
loadable_is t text long l read small there =
    let i = l.settled.named.slot in
    let e = listed_entry l in
    let s = stand_facts l.settled (slot_of t i) there in
    let w = restored_rewritten t i e long small in
    let keys = rewritten_keys t i long small w s.named.alike.keyid_short s.named.alike.source_short in
    let same_data : key_data_of (slot_of (restored t i e) i) ≡ key_data_of (slot_of t i) = ap key_data_of (rewritten_slot t i long small w) ∙ same_keydata keys in
    let h = listing_fits text l read in
    let m = h.0 in
    let fits : Fits e = record { highest = m.highest; marks = m.marks; accepted = m.accepted; bytes = m.bytes; replays = h.1.0; forged = h.1.1 } in
    let entry = entry_restored t i e long small fits (frame_alike l.settled.terms (slot_of t i) s.terms) in
    sym (ap (λ (k : KeyData). sound_of k && undamaged_entry (entry_of (slot_of (restored t i e) i))) same_data ∙ ap (λ (x : Entry). sound_of (key_data_of (slot_of t i)) && undamaged_entry x) entry)

pub load_length : (t text : List ℕ) → length t ≡ table_length → length (loaded t text).table ≡ table_length
load_length t text long = by (load_outcome t text)
  where
    by : Refuses t (loaded t text) ⊎ ((l : Listing) × Takes t text l) → length (loaded t text).table ≡ table_length
    by (inl r) = rw r.is long
    by (inr (l, n)) = rw n.is (taken_length long n)
