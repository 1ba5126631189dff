-- A file read record by record: what is left of it decides what comes out in the end, and the text never outgrows its room.
-- Assumes nothing.
use mathlib.Core.Path.{◌≡◌, refl, sym, ap, ◌∙◌}
use mathlib.Core.Bool.{Bool, false}
use mathlib.Core.List.{List, ◌++◌}
use Prim.Native.Nat.{ℕ, suc, ◌+◌, ◌-◌, ◌*◌, ◌≤◌, ◌<◌}
use native.Mathlib.Nat.{zero-add}
use native.Mathlib.Numerals.{add-one}
use native.Mathlib.Omega.{arith}
use lib.Dec.{eqb}
use lib.ListN.{length, length-append}
use Rattle.answers.specs.Answers.{cut_short}
use Rattle.octets.specs.Octets.{put}
use Rattle.octets.proofs.Places.{length_put, put_behind}
use Rattle.format.specs.Header.{least_message}
use Rattle.text.proofs.Lines.{nothing_written}
use Rattle.capture.specs.Capture.{Item, header_length, longest_file, item_of, ordered_at, records_from}
use Rattle.capture.specs.declared.order.Order.{Order}
use Rattle.capture.specs.declared.record.Record.{Record}
use Rattle.capture.proofs.Places.{Placed, placed}
use Rattle.capture.proofs.Records.{records_end, records_next}
use Rattle.feed.specs.Report.{turn_of, line_for, IsTold, lines_from, table_after, ends_cut, text_room, read_in, IsReported}
use Rattle.feed.proofs.Room.{line_short}

module _ (o : Order) (file t₀ out₀ : List ℕ) where
  abbrev rest : ℕ → List Item
  rest at = records_from o file at

  -- where the reading stands: what is left, and what it has come to
  pub record Underway (t out : List ℕ) (at records end : ℕ) (cut : Bool) : Type 0 where
    pub tables : table_after t (rest at) ≡ table_after t₀ (rest header_length)
    pub text : put out end (lines_from (suc records) t (rest at)) ≡ put out₀ 0 (lines_from 1 t₀ (rest header_length))
    pub long : end + length (lines_from (suc records) t (rest at)) ≡ length (lines_from 1 t₀ (rest header_length))
    pub count : records + length (rest at) ≡ length (rest header_length)
    pub ends : ends_cut cut (rest at) ≡ ends_cut false (rest header_length)
    pub same : length out ≡ length out₀
    -- two bytes of text for each byte that was read are left over by 48, and records have 16 bytes or more, unless the file has ended
    pub room : at < length file → (end + 48 ≤ 2 * at) × (16 * records + 24 ≤ at)

  pub begins : Underway t₀ out₀ header_length 0 0 false
  begins = record {
    tables = refl;
    text = refl;
    long = zero-add _;
    count = zero-add _;
    ends = refl;
    same = refl;
    room = λ l. (omega arith, omega arith);
  }

  module _ (most : length file ≤ longest_file) (enough : text_room ≤ length out₀) {t out : List ℕ} {at records end : ℕ} {cut : Bool}
      (u : Underway t out at records end cut) where
    -- the file has ended
    pub all_done : length file ≤ at → IsReported (read_in (rest header_length) t₀ out₀) (record { reply = 0; length = end; records = records; cut = cut }) t out
    unfolding read_in
    all_done h =
        let none = records_end o file at h in
        let long : end ≡ length (lines_from 1 t₀ (rest header_length)) = omega (arith, rw none at u.long) in
        let count : records ≡ length (rest header_length) = omega (arith, rw none at u.count) in
        let ends : cut ≡ ends_cut false (rest header_length) = rw none at u.ends in
        record { answers = cc; leaves = rw none at u.tables; writes = nothing_written out end ∙ rw none at u.text }

    module _ (some : at < length file) where
      abbrev here : Item
      here = item_of file (ordered_at o file at)

      lies : Placed file at (ordered_at o file at)
      lies = placed o file at some

      abbrev brought : ℕ
      brought = (ordered_at o file at).next - (ordered_at o file at).message

      room_for : (end + 50 + 2 * brought ≤ length out) × (suc records < 10000)
      room_for = (omega (arith, (u.room some).0, u.same, lies.beside, lies.within), omega (arith, (u.room some).1))

      short : length (line_for (suc records) (turn_of t here)) ≤ 31 + 2 * (brought - least_message)
      short = line_short o file t at (suc records) some room_for.1

      goes_on : {next out₁ : List ℕ} {end₁ : ℕ} → IsTold (turn_of t here) (suc records) end out end₁ next out₁
          → Underway next out₁ (ordered_at o file at).next (suc records) end₁ (eqb (ordered_at o file at).reply cut_short)
      goes_on {next} {out₁} {end₁} w =
          let after = (ordered_at o file at).next in
          let line = line_for (suc records) (turn_of t here) in
          let others = lines_from (suc (suc records)) (turn_of t here).table (rest after) in
          let step = records_next o file at some in
          let long : end + length (line ++ others) ≡ length (lines_from 1 t₀ (rest header_length)) = rw step at u.long in
          record {
            tables = ap (λ (x : List ℕ). table_after x (rest after)) w.leaves ∙ rw step at u.tables;
            text = rw (w.writes, w.leaves) (put_behind out end end₁ line others (omega (arith, room_for.0)) (sym w.ends) ∙ rw step at u.text);
            long = rw w.leaves (omega (arith, w.ends, length-append line others));
            count = omega (arith, rw step at u.count);
            ends = rw step at u.ends;
            same = ap length w.writes ∙ length_put out end line (omega (arith, room_for.0, short)) ∙ u.same;
            room = λ l. (omega (arith, w.ends, lies.header l, short, (u.room some).0), omega (arith, lies.header l, (u.room some).1));
          }

      -- the same of a record that is known to stand there
      module _ {r : Record} (e : r ≡ ordered_at o file at) where
        pub passes : at < r.next
        passes = rw e lies.further

        pub may_take : ((r.source ≤ r.message) × (r.message ≤ r.next) × (r.next ≤ length file)) × (end + 50 + 2 * (r.next - r.message) ≤ length out)
        may_take = rw e ((lies.source_first, lies.message_next, lies.within), room_for.0)

        pub takes : {next out₁ : List ℕ} {end₁ : ℕ} → IsTold (turn_of t (item_of file r)) (records + 1) end out end₁ next out₁
            → Underway next out₁ r.next (records + 1) end₁ (eqb r.reply cut_short)
        takes w = rw (e, add-one) (goes_on (rw (e, add-one) at w))
