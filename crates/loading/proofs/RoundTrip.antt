-- A listing and its entry: the listing of an undamaged entry is read as that entry's values, and loads into a table where the entry stands with
-- accepted 0; and after a load, the listing of the slot is the text that was loaded.
-- Assumes nothing.
use mathlib.Core.Path.{◌≡◌, refl, sym, ap, ◌∙◌}
use mathlib.Core.Bool.{true}
use mathlib.Core.List.{List, ◌++◌, append_assoc}
use mathlib.Core.Option.{some}
use Prim.Native.Nat.{ℕ, ◌<◌}
use native.Mathlib.Omega.{arith}
use lib.ListN.{length}
use Rattle.octets.specs.Octets.{Bytes}
use Rattle.format.specs.KeyData.{sound_of}
use Rattle.window.specs.Entry.{Entry}
use Rattle.window.proofs.Entries.{entry_test, totals_small}
use Rattle.window.proofs.Undamaged.{undamaged_facts, marks_small}
use Rattle.slots.specs.Table.{slot_of, flag_of, cs_of, edition_of, key_id_of, source_of, key_data_of, frame_of, window_of, entry_of, restored, slot_count, table_length}
use Rattle.slots.specs.Record.{undamaged}
use Rattle.slots.proofs.Damage.{undamaged_sound, entry_undamaged}
use Rattle.entries.specs.Install.{done_at}
use Rattle.entries.proofs.Bounds.{suite_byte, edition_byte}
use Rattle.listing.specs.Listing.{named_lines, term_lines, moved_lines, counter_lines, listing_of}
use Rattle.form.specs.Form.{SettledValues, ArrivalValues, Listing, listing_in}
use Rattle.loading.specs.Load.{stands, listed_entry, loaded}
use Rattle.loading.proofs.Loads.{is_read, takes_up}
use Rattle.loading.proofs.Outcomes.{Takes, taken_keys, taken_entry}
use Rattle.form.proofs.Texts.{named_text, term_text, moved_text, counter_text, settled_text, arrival_text, listing_text, Plain, text_reads, listing_was_printed}

-- ---- the listed values of an entry in slot i

abbrev pub settled_of : ℕ → List ℕ → SettledValues
settled_of i s = record {
  named = record { slot = i; flag = flag_of s; key_id = key_id_of s; source = source_of s };
  terms = record { suite = cs_of s; edition = edition_of s; frame = frame_of s };
}

abbrev pub arrivals_of : Entry → ArrivalValues
arrivals_of e = record {
  moved = record { highest = e.window.highest; marks = e.window.marks; accepted = e.accepted; bytes = e.bytes };
  counters = e.counters;
}

abbrev pub values_of : ℕ → List ℕ → Listing
values_of i s = record { settled = settled_of i s; arrivals = arrivals_of (entry_of s) }

-- what is printed is the text of these values
pub listing_values : (i : ℕ) (s : List ℕ) → listing_of i s ≡ listing_text (values_of i s)
unfolding named_lines term_lines moved_lines counter_lines named_text term_text moved_text counter_text
listing_values i s = append_assoc (named_lines i s ++ term_lines s) (moved_lines s) (counter_lines s)

-- ---- the listing of an undamaged entry

module _ (i : ℕ) (s : List ℕ) (small : i < slot_count) (keyid : Bytes (key_id_of s)) (source : Bytes (source_of s)) (unharmed : undamaged s ≡ true) where
  plain : Plain (values_of i s)
  plain =
      let sound = undamaged_sound s unharmed in
      let entry = entry_undamaged s unharmed in
      let window = undamaged_facts (window_of s) entry.window in
      let totals = totals_small (entry_of s) entry in record {
        slot = omega arith;
        flag = omega (arith, sound.flag_small);
        keyid = keyid;
        source = source;
        suite = omega (arith, suite_byte sound);
        edition = omega (arith, edition_byte sound);
        size = omega (arith, window.framed.size_high);
        start = omega (arith, window.framed.start_high);
        highest = window.high;
        marks = marks_small window;
        accepted = omega (arith, totals.0);
        bytes = omega (arith, totals.1);
        replays = omega (arith, entry.few_replays);
        forged = omega (arith, entry.few_forged);
      }

  -- it is read as the entry's values
  pub listing_read : listing_in (listing_of i s) ≡ some (values_of i s)
  listing_read = ap listing_in (listing_values i s) ∙ text_reads (values_of i s) plain

  -- and loads where that entry stands with accepted 0
  pub loads : (t : List ℕ) → stands (settled_of i s) (slot_of t i) ≡ true → sound_of (key_data_of (slot_of t i)) ≡ true
      → loaded t (listing_of i s) ≡ record { answer = done_at i; table = restored t i (entry_of s) }
  loads t there sound =
      is_read t (listing_of i s) listing_read ∙ takes_up t (values_of i s) small there sound (entry_test (entry_of s) (entry_undamaged s unharmed))

-- ---- after a load

same_text : (i : ℕ) (s : List ℕ) (l : Listing) → i ≡ l.settled.named.slot → flag_of s ≡ l.settled.named.flag → key_id_of s ≡ l.settled.named.key_id
    → source_of s ≡ l.settled.named.source → cs_of s ≡ l.settled.terms.suite → edition_of s ≡ l.settled.terms.edition → entry_of s ≡ listed_entry l
    → listing_text (values_of i s) ≡ listing_text l
same_text i s l a b c d e f g =
    let frame : frame_of s ≡ l.settled.terms.frame = ap (λ (x : Entry). x.window.frame) g in
    let arrivals : arrivals_of (entry_of s) ≡ l.arrivals = ap arrivals_of g in
    rw (a, b, c, d, e, f, frame) (ap (λ (x : ArrivalValues). settled_text l.settled ++ arrival_text x) arrivals)

-- "Printing after loading gives the same lines"
pub printed_after : {t text : List ℕ} (long : length t ≡ table_length) {l : Listing} (takes : Takes t text l)
    → let i = l.settled.named.slot in listing_of i (slot_of (restored t i (listed_entry l)) i) ≡ text
printed_after {t} {text} long {l} takes =
    let i = l.settled.named.slot in
    let s = slot_of (restored t i (listed_entry l)) i in
    let keys = taken_keys long takes in
    let named = takes.stands.named in
    let terms = takes.stands.terms in
    listing_values i s
    ∙ same_text i s l refl (keys.flag ∙ named.alike.flag_same) (keys.keyid ∙ named.alike.keyid_same) (keys.source ∙ named.source_same) (keys.cs ∙ terms.suite_same)
    (keys.edition ∙ terms.edition_same) (taken_entry long takes)
    ∙ sym (listing_was_printed text l takes.read)
