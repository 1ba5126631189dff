-- Loading a listing (02, No. 6): "The entry with that slot, flag, KeyId, source, suite, edition, size and start must stand in the table with accepted 0;
-- it then takes the listed highest, marks and totals. .. Refusals: 21 text not in this form; 22 no such entry with accepted 0; 23 the loaded record
-- would be damaged; in that order, the table unchanged." No. 7: "Done, it and a load return the slot as install does." No. 8, of the listed counters:
-- "loading takes them over".
use Rattle.std.specs.Prelude.{Bool, cond, ◌&&◌, List, ℕ, eqb, ltb}
use Rattle.std.proofs.Math.Option.{Option, none, some}
use Rattle.octets.specs.Octets.{same}
use Rattle.answers.specs.Answers.{refused, bad_text, not_standing, would_be_damaged}
use Rattle.format.specs.KeyData.{sound_of}
use Rattle.window.specs.declared.Frame.{Frame}
use Rattle.window.specs.Entry.{Entry, undamaged_entry}
use Rattle.slots.specs.Table.{slot_of, cs_of, edition_of, source_of, key_data_of, frame_of, entry_of, restored, slot_count}
use Rattle.lookup.specs.Lookup.{matches}
use Rattle.entries.specs.Install.{Left, done_at}
use Rattle.form.specs.Form.{NamedValues, SettledValues, Listing, listing_in}
use Rattle.form.specs.declared.values.TermLines.{TermLines}

-- ---- no such entry with accepted 0

-- the slot is occupied, with that flag, KeyId and source: it matches as in a lookup, for which one whose stored lengths are over their room matches
-- nothing, and has the source for flag 0 too
unfoldable pub named_so : NamedValues → List ℕ → Bool
named_so v s = matches v.flag v.key_id v.source s && same (source_of s) v.source

abbrev pub same_frame : Frame → Frame → Bool
same_frame f g = eqb f.size g.size && eqb f.start g.start

-- and that suite, edition, size and start
unfoldable pub terms_so : TermLines → List ℕ → Bool
terms_so v s = eqb (cs_of s) v.suite && eqb (edition_of s) v.edition && same_frame (frame_of s) v.frame

-- it stands there with accepted 0
unfoldable pub stands : SettledValues → List ℕ → Bool
stands v s = named_so v.named s && terms_so v.terms s && eqb (entry_of s).accepted 0

-- ---- the loaded record

-- the listed window, totals and counters
abbrev pub listed_entry : Listing → Entry
listed_entry l = record {
  window = record { frame = l.settled.terms.frame; highest = l.arrivals.moved.highest; marks = l.arrivals.moved.marks };
  accepted = l.arrivals.moved.accepted;
  bytes = l.arrivals.moved.bytes;
  counters = l.arrivals.counters;
}

-- it is undamaged: the key data of the slot, with these
abbrev pub loadable : List ℕ → Entry → Bool
loadable s e = sound_of (key_data_of s) && undamaged_entry e

-- ---- the load

unfoldable pub taken_up : List ℕ → Listing → Left
taken_up t l =
    let i = l.settled.named.slot in
    cond (ltb i slot_count && stands l.settled (slot_of t i))
    (cond (loadable (slot_of t i) (listed_entry l)) (record { answer = done_at i; table = restored t i (listed_entry l) })
    (record { answer = refused would_be_damaged; table = t }))
    (record { answer = refused not_standing; table = t })

abbrev pub taken_up_from : List ℕ → Option Listing → Left
taken_up_from t none = record { answer = refused bad_text; table = t }
taken_up_from t (some l) = taken_up t l

unfoldable pub loaded : List ℕ → List ℕ → Left
loaded t text = taken_up_from t (listing_in text)
