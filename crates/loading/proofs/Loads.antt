-- What a load comes to: each refusal by its own test, and the entry that takes window, totals and counters.
-- Assumes nothing.
use mathlib.Core.Path.{◌≡◌, refl, sym, ap, ◌∙◌}
use mathlib.Core.Bool.{true, false, and-false}
use mathlib.Core.List.{List, []}
use mathlib.Core.Option.{none, some}
use Prim.Native.Nat.{ℕ, ◌≤◌, ◌<◌}
use borrow.Author.Tests.{lt-ltb, le-ltb}
use Rattle.answers.specs.Answers.{refused, bad_text, not_standing, would_be_damaged}
use Rattle.answers.specs.declared.Answer.{Answer}
use Rattle.format.specs.KeyData.{sound_of}
use Rattle.window.specs.Entry.{undamaged_entry}
use Rattle.slots.specs.Table.{slot_of, key_data_of, restored, slot_count}
use Rattle.entries.specs.Install.{IsLeft, done_at}
use Rattle.text.specs.Reading.{failed, got}
use Rattle.form.specs.Form.{SettledValues, ArrivalValues, Listing, read_settled, read_arrivals, listing_in}
use Rattle.form.proofs.Stretches.{no_settled, no_arrivals, text_read, more_behind}
use Rattle.loading.specs.Load.{stands, listed_entry, taken_up, loaded}

-- ---- in the table

module _ (t : List ℕ) (l : Listing) where
  abbrev slot : ℕ
  slot = l.settled.named.slot

  pub past_last_slot : {r : Answer} → slot_count ≤ slot → r ≡ refused not_standing → IsLeft (taken_up t l) r t
  unfolding taken_up
  past_last_slot h e = rw (le-ltb slot slot_count h) (record { answers = e; leaves = refl })

  module _ (small : slot < slot_count) where
    pub no_such_entry : {r : Answer} → stands l.settled (slot_of t slot) ≡ false → r ≡ refused not_standing → IsLeft (taken_up t l) r t
    unfolding taken_up
    no_such_entry h e = rw (h, and-false) (record { answers = e; leaves = refl })

    module _ (standing : stands l.settled (slot_of t slot) ≡ true) where
      pub unsound : {r : Answer} → sound_of (key_data_of (slot_of t slot)) ≡ false → r ≡ refused would_be_damaged → IsLeft (taken_up t l) r t
      unfolding taken_up
      unsound h e = rw (lt-ltb slot slot_count small, standing, h) (record { answers = e; leaves = refl })

      pub unfit : {r : Answer} → undamaged_entry (listed_entry l) ≡ false → r ≡ refused would_be_damaged → IsLeft (taken_up t l) r t
      unfolding taken_up
      unfit h e = rw (lt-ltb slot slot_count small, standing, h, and-false) (record { answers = e; leaves = refl })

      pub takes_listed : {o : List ℕ} → sound_of (key_data_of (slot_of t slot)) ≡ true → undamaged_entry (listed_entry l) ≡ true
          → o ≡ restored t slot (listed_entry l) → IsLeft (taken_up t l) (done_at slot) o
      unfolding taken_up
      takes_listed h k e = rw (lt-ltb slot slot_count small, standing, h, k) (record { answers = refl; leaves = e })

  -- the same as one equation
  pub takes_up : slot < slot_count → stands l.settled (slot_of t slot) ≡ true → sound_of (key_data_of (slot_of t slot)) ≡ true → undamaged_entry (listed_entry l) ≡ true
      → taken_up t l ≡ record { answer = done_at slot; table = restored t slot (listed_entry l) }
  unfolding taken_up
  takes_up small there sound fit = rw (lt-ltb slot slot_count small, there, sound, fit)

-- ---- by the text

module _ (t text : List ℕ) where
  pub not_read : {r : Answer} → listing_in text ≡ none → r ≡ refused bad_text → IsLeft (loaded t text) r t
  unfolding loaded
  not_read e f = rw e (record { answers = f; leaves = refl })

  pub is_read : {l : Listing} → listing_in text ≡ some l → loaded t text ≡ taken_up t l
  unfolding loaded
  is_read e = rw e

  -- from what the reader has found: each stretch that is not there, more behind both, and nothing
  module _ {start : List ℕ} (same : start ≡ text) where
    pub first_refused : {r : Answer} → failed ≡ read_settled start → r ≡ refused bad_text → IsLeft (loaded t text) r t
    first_refused e f = not_read (no_settled text (rw same at (sym e))) f

    module _ {v : SettledValues} {l : List ℕ} (e : got v l ≡ read_settled start) where
      pub second_refused : {r : Answer} → failed ≡ read_arrivals l → r ≡ refused bad_text → IsLeft (loaded t text) r t
      second_refused f g = not_read (no_arrivals text (rw same at (sym e)) (sym f)) g

      module _ {a : ArrivalValues} {m : List ℕ} (f : got a m ≡ read_arrivals l) where
        pub more_refused : {r : Answer} → (m ≡ [] → ⊥) → r ≡ refused bad_text → IsLeft (loaded t text) r t
        more_refused some_left g = not_read (more_behind text (rw same at (sym e)) a m (sym f) some_left) g

        pub all_taken : m ≡ [] → loaded t text ≡ taken_up t (record { settled = v; arrivals = a })
        all_taken none_left = is_read (text_read text (rw same at (sym e)) (sym f ∙ ap (λ (n : List ℕ). got a n) none_left))
