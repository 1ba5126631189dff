-- 131,072 bytes suffice for the lines of any file: a line has no more than twice its record's bytes, but for the last, which may be cut short.
-- Assumes nothing.
use mathlib.Core.Bool.{cond}
use mathlib.Core.Path.{◌≡◌, refl, sym}
use mathlib.Core.List.{List}
use Prim.Native.Nat.{ℕ, zero, suc, ◌+◌, ◌-◌, ◌*◌, ◌≤◌, ◌<◌}
use native.Mathlib.Decide.{dec_lt}
use native.Mathlib.Omega.{arith}
use borrow.Author.Tests.{ltb-false}
use lib.Dec.{ltb}
use lib.ListN.{length, length-append}
use Rattle.std.specs.Prelude.{Option, Some, None, is_some}
use Rattle.numbers.proofs.Tests.{either}
use Rattle.answers.specs.Answers.{bad_capture}
use Rattle.octets.proofs.Parts.{length_part}
use Rattle.format.specs.Header.{least_message}
use Rattle.capture.specs.Capture.{Item, order_of, header_length, longest_file, item_of, ordered_at, records_in, records_from, records_by}
use Rattle.capture.specs.declared.order.Order.{Order}
use Rattle.capture.proofs.Orders.{known_size}
use Rattle.capture.proofs.Places.{Placed, placed}
use Rattle.capture.proofs.Records.{no_more, one_further}
use Rattle.feed.specs.Report.{turn_of, line_for, lines_from, text_room, Reported, refused, read_in, reported}
use Rattle.feed.proofs.Turns.{turn_most}

module _ (o : Order) (file : List ℕ) where
  abbrev here : ℕ → Item
  here at = item_of file (ordered_at o file at)

  -- the bytes of a record's message
  abbrev brought : ℕ → ℕ
  brought at = (ordered_at o file at).next - (ordered_at o file at).message

  -- a record's line
  pub line_short : (t : List ℕ) (at n : ℕ) → at < length file → n < 10000 → length (line_for n (turn_of t (here at))) ≤ 31 + 2 * (brought at - least_message)
  line_short t at n some small =
      let lies = placed o file at some in
      let long : length (here at).message ≡ brought at = length_part (ordered_at o file at).message (brought at) file (omega (arith, lies.message_next, lies.within)) in
      rw long at (turn_most t (here at) n small lies.listed)

  module _ (most : length file ≤ longest_file) where
    abbrev next : ℕ → ℕ
    next at = (ordered_at o file at).next

    abbrev Most : ℕ → ℕ → ℕ → List ℕ → Type 0
    Most n k at t = length (lines_from (suc k) t (records_in n o file at)) ≤ 2 * (length file - at) + 31

    none : (k at : ℕ) (t : List ℕ) → Most zero k at t
    unfolding records_in
    none k at t = omega arith

    -- one record, and those behind it
    more : (n k at : ℕ) (t : List ℕ) → at < length file → 16 * k + 24 ≤ at → (next at < length file → 16 * suc k + 24 ≤ next at → Most n (suc k) (next at) (turn_of t (here at)).table)
        → Most (suc n) k at t
    more n k at t some counted rest =
        rw (one_further o file n at some, length-append) (by (dec_lt (next at) (length file)))
      where
        lies : Placed file at (ordered_at o file at)
        lies = placed o file at some

        short : length (line_for (suc k) (turn_of t (here at))) ≤ 31 + 2 * (brought at - least_message)
        short = line_short t at (suc k) some (omega arith)

        by : Dec (next at < length file)
            → length (line_for (suc k) (turn_of t (here at))) + length (lines_from (suc (suc k)) (turn_of t (here at)).table (records_in n o file (next at))) ≤ 2 * (length file - at) + 31
        by (yes l) = omega (arith, short, rest l (omega (arith, lies.header l)), lies.header l)
        by (no h) = rw (no_more o file n (next at) (omega arith)) (omega (arith, short, lies.beside, lies.within))

    lines_most : (n k at : ℕ) (t : List ℕ) → (at < length file → 16 * k + 24 ≤ at) → Most n k at t
    lines_most zero k at t counted = none k at t
    lines_most (suc n) k at t counted = go (dec_lt at (length file)) (λ l c. lines_most n (suc k) (next at) (turn_of t (here at)).table (λ _. c))
      where
        go : Dec (at < length file) → (next at < length file → 16 * suc k + 24 ≤ next at → Most n (suc k) (next at) (turn_of t (here at)).table) → Most (suc n) k at t
        go (yes some) rest = more n k at t some (counted some) rest
        go (no h) rest = rw (no_more o file (suc n) at (omega arith)) (omega arith)

    pub text_most : (t : List ℕ) → length (lines_from 1 t (records_from o file header_length)) ≤ text_room
    text_most t = omega (arith, lines_most (length file) 0 header_length t (λ l. omega arith))

-- the length that a report answers is within its output
pub reported_within : (t file out : List ℕ) → (reported t file out).answer.length ≤ length out
unfolding reported read_in
reported_within t file out =
    either fits (ltb (length out) text_room) _ _ (λ _. omega arith)
    (λ room. by (order_of file) refl (ltb-false (length out) text_room room))
  where
    fits : Reported → Type 0
    fits r = r.answer.length ≤ length out

    by : (o : Option Order) → order_of file ≡ o → text_room ≤ length out
        → fits (cond (is_some o) (read_in (records_by o file) t out) (record { answer = refused bad_capture; table = t; out = out }))
    by (Some o) e room = omega (arith, text_most o file (known_size file (sym e)).1 t)
    by None e room = omega arith
