-- What a report comes to: each refusal by its own test, and the records of a file that can be read.
-- Assumes nothing.
use mathlib.Core.Path.{◌≡◌, refl}
use mathlib.Core.List.{List}
use Prim.Native.Nat.{ℕ, ◌≤◌, ◌<◌}
use borrow.Author.Tests.{lt-ltb, le-ltb}
use lib.ListN.{length}
use Rattle.answers.specs.Answers.{output_small, bad_capture}
use Rattle.std.specs.Prelude.{Some, None}
use Rattle.capture.specs.Capture.{order_of, records_from, header_length}
use Rattle.capture.specs.declared.order.Order.{Order}
use Rattle.feed.specs.Report.{text_room, IsReported, refused, read_in, reported}
use Rattle.feed.specs.declared.Summary.{Summary}

module _ (t file out : List ℕ) {a : Summary} where
  pub little_room : length out < text_room → a ≡ refused output_small → IsReported (reported t file out) a t out
  unfolding reported
  little_room h e = rw (lt-ltb (length out) text_room h) (record { answers = e; leaves = refl; writes = refl })

  module _ (room : text_room ≤ length out) where
    pub no_capture : None ≡ order_of file → a ≡ refused bad_capture → IsReported (reported t file out) a t out
    unfolding reported
    no_capture is e = rw (le-ltb (length out) text_room room, ← is) (record { answers = e; leaves = refl; writes = refl })

    pub all_read : {o : Order} {now left : List ℕ} → Some o ≡ order_of file → IsReported (read_in (records_from o file header_length) t out) a now left
        → IsReported (reported t file out) a now left
    unfolding reported
    all_read is r = rw (le-ltb (length out) text_room room, ← is) r
