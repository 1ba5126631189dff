-- The record at a place, one law for each of its tests; where its parts lie; and that the place after it is further on.
-- Assumes nothing.
use mathlib.Core.Path.{◌≡◌, sym, ◌∙◌}
use mathlib.Core.Bool.{false, true≢false}
use mathlib.Core.List.{List}
use Prim.Native.Nat.{ℕ, ◌+◌, ◌-◌, ◌≤◌, ◌<◌}
use native.Mathlib.Omega.{arith}
use borrow.Author.Tests.{lt-ltb, le-ltb, ltb-false, eq-eqb, ne_eqb}
use lib.Dec.{eqb, ltb}
use lib.ListN.{length, get_or}
use Rattle.numbers.proofs.Tests.{either, neither_left, neither_right}
use Rattle.answers.specs.Answers.{cut_short, lengths_differ, unreadable}
use Rattle.capture.specs.Capture.{record_length, nothing_left, without, left_at, captured_at, original_at, is_cut, is_unreadable, data_at, ordered_at}
use Rattle.capture.specs.declared.order.Order.{Order}
use Rattle.capture.specs.declared.record.Record.{Record}

-- ---- a record's data

module _ (file : List ℕ) (at next : ℕ) where
  pub empty : at ≡ next → without unreadable next ≡ data_at file at next
  unfolding data_at
  empty e = rw (eq-eqb at next e)

  module _ (some : at ≡ next → ⊥) where
    pub overlong : next < at + 1 + get_or file at 0 → without unreadable next ≡ data_at file at next
    unfolding data_at
    overlong h = rw (ne_eqb at next some, lt-ltb next (at + 1 + get_or file at 0) h)

    pub brings : at + 1 + get_or file at 0 ≤ next → record { reply = 0; source = at + 1; message = at + 1 + get_or file at 0; next = next } ≡ data_at file at next
    unfolding data_at
    brings h = rw (ne_eqb at next some, le-ltb next (at + 1 + get_or file at 0) h)

-- ---- 18 and 19

module _ (o : Order) (file : List ℕ) (at : ℕ) where
  pub nothing_at_end : length file ≤ at → without nothing_left (length file) ≡ ordered_at o file at
  unfolding ordered_at
  nothing_at_end h = rw (eq-eqb (left_at file at) 0 (omega arith))

  module _ (some : at < length file) where
    left : eqb (left_at file at) 0 ≡ false
    left = ne_eqb (left_at file at) 0 (λ z. omega arith)

    pub cut_header : left_at file at < record_length → without cut_short (length file) ≡ ordered_at o file at
    unfolding ordered_at
    cut_header h = rw (left, lt-ltb (left_at file at) record_length h)

    module _ (room : record_length ≤ left_at file at) where
      pub cut_data : left_at file (at + record_length) < captured_at o file at → without cut_short (length file) ≡ ordered_at o file at
      unfolding ordered_at
      cut_data h = rw (left, le-ltb (left_at file at) record_length room, lt-ltb (left_at file (at + record_length)) (captured_at o file at) h)

      module _ (whole : captured_at o file at ≤ left_at file (at + record_length)) where
        abbrev next : ℕ
        next = at + record_length + captured_at o file at

        uncut : is_cut o file at ≡ false
        uncut = rw (le-ltb (left_at file at) record_length room, le-ltb (left_at file (at + record_length)) (captured_at o file at) whole)

        pub differing_lengths : (captured_at o file at ≡ original_at o file at → ⊥) → without lengths_differ next ≡ ordered_at o file at
        unfolding ordered_at
        differing_lengths d = rw (left, uncut, ne_eqb (captured_at o file at) (original_at o file at) d)

        pub by_data : captured_at o file at ≡ original_at o file at → data_at file (at + record_length) next ≡ ordered_at o file at
        unfolding ordered_at
        by_data e = rw (left, uncut, eq-eqb (captured_at o file at) (original_at o file at) e)

-- ---- where a record's parts lie

-- Source, message and the next record follow one another, within the file and behind the place. Unless the file ends there, a record has its
-- header before what it brings.
pub record Placed (file : List ℕ) (at : ℕ) (r : Record) : Type 0 where
  pub source_first : r.source ≤ r.message
  pub message_next : r.message ≤ r.next
  pub within : r.next ≤ length file
  pub further : at < r.next
  pub beside : at + (r.next - r.message) < r.next
  pub header : r.next < length file → at + record_length + (r.next - r.message) ≤ r.next
  pub listed : r.reply < 100

module _ (o : Order) (file : List ℕ) (at : ℕ) (some : at < length file) where
  -- a record that brings nothing
  nothing : (n next : ℕ) → n < 100 → at < next → next ≤ length file → (next < length file → at + record_length ≤ next) → Placed file at (without n next)
  nothing n next small on within header = record {
    source_first = omega arith;
    message_next = omega arith;
    within = within;
    further = on;
    beside = omega arith;
    header = λ l. omega (arith, header l);
    listed = small;
  }

  data_placed : (next : ℕ) → at + record_length ≤ next → next ≤ length file → Placed file at (data_at file (at + record_length) next)
  unfolding data_at
  data_placed next from within =
      either (Placed file at) (is_unreadable file (at + record_length) next) (without unreadable next) _ (λ _. nothing unreadable next (omega arith) (omega arith) within (λ _. from))
      (λ readable.
      let fits = ltb-false next (at + record_length + 1 + get_or file (at + record_length) 0) (neither_right (eqb (at + record_length) next) _ readable) in
      record {
        source_first = omega arith;
        message_next = fits;
        within = within;
        further = omega arith;
        beside = omega arith;
        header = λ l. omega arith;
        listed = omega arith;
      })

  pub placed : Placed file at (ordered_at o file at)
  unfolding ordered_at
  placed =
      either (Placed file at) (eqb (left_at file at) 0) (without nothing_left (length file)) _ (λ none. absurd (true≢false (sym none ∙ left o file at some)))
      (λ _. either (Placed file at) (is_cut o file at) (without cut_short (length file)) _ (λ _. nothing cut_short (length file) (omega arith) some (omega arith) (λ l. omega arith))
      (λ uncut.
      let room = ltb-false (left_at file at) record_length (neither_left (ltb (left_at file at) record_length) _ uncut) in
      let whole = ltb-false (left_at file (at + record_length)) (captured_at o file at) (neither_right (ltb (left_at file at) record_length) _ uncut) in
      let next = at + record_length + captured_at o file at in
      either (Placed file at) (eqb (captured_at o file at) (original_at o file at)) (data_at file (at + record_length) next) (without lengths_differ next)
      (λ _. data_placed next (omega arith) (omega arith))
      (λ _. nothing lengths_differ next (omega arith) (omega arith) (omega arith) (λ l. omega arith))))
