-- `listing::write_moved` meets its contract: its four lines stand behind one another. Assumes nothing.
use Rattle.std.proofs.Common.{◌≡◌, ◌∙◌, ap, arith, rules, length}
use Rattle.octets.proofs.BigEndian.{length_bytes}
use Rattle.listing.proofs.Printed.{moved_written}
use Rattle.listing.proofs.write_moved.Goals.{After-marks_bytes-marks}
use Rattle.listing.proofs.write_moved.Goals as goal

-- how many bytes the two lines in hex show
known : (c : After-marks_bytes-marks) → (length c.highest_bytes-highest.result.now ≡ 6) × (length c.marks_bytes-marks.result.now ≡ 32)
known c = (ap length c.highest_bytes-highest.ensures ∙ length_bytes 6 _, ap length c.marks_bytes-marks.ensures ∙ length_bytes 32 _)

pub write_hex_line-a-requires : goal.write_hex_line-a-requires
write_hex_line-a-requires c = let k = known (goal.at.write_hex_line-a-requires c).After-marks_bytes-marks in (search rules, omega arith)

pub write_hex_line-b-requires : goal.write_hex_line-b-requires
write_hex_line-b-requires c =
    let k = known (goal.at.write_hex_line-b-requires c).After-marks_bytes-marks in (search rules, omega (arith, c.write_hex_line-a.ensures.value.1))

pub write_decimal_line-c-requires : goal.write_decimal_line-c-requires
write_decimal_line-c-requires c =
    let k = known (goal.at.write_decimal_line-c-requires c).After-marks_bytes-marks in
    (search rules, omega (arith, c.write_hex_line-a.ensures.value.1, c.write_hex_line-b.ensures.value.1))

pub write_decimal_line-requires : goal.write_decimal_line-requires
write_decimal_line-requires c =
    let k = known (goal.at.write_decimal_line-requires c).After-marks_bytes-marks in
    (search rules, omega (arith, c.write_hex_line-a.ensures.value.1, c.write_hex_line-b.ensures.value.1, c.write_decimal_line-c.ensures.value.1))

pub returns : goal.returns
returns c =
    let a = c.args in
    let k = known (goal.at.returns c).After-marks_bytes-marks in
    let w = moved_written a.slot.now a.out.now a.at (omega (arith, c.requires))
    c.highest_bytes-highest.ensures (record { ends = c.write_hex_line-a.ensures.value.0; is = c.write_hex_line-a.ensures.out_after })
    c.marks_bytes-marks.ensures (record { ends = c.write_hex_line-b.ensures.value.0; is = c.write_hex_line-b.ensures.out_after })
    c.accepted.ensures (record { ends = c.write_decimal_line-c.ensures.value.0; is = c.write_decimal_line-c.ensures.out_after })
    c.bytes.ensures (record { ends = c.write_decimal_line.ensures.value.0; is = c.write_decimal_line.ensures.out_after }) in
    record {
      value = (
        w.ends,
        omega (
          arith,
          c.write_hex_line-a.ensures.value.1,
          c.write_hex_line-b.ensures.value.1,
          c.write_decimal_line-c.ensures.value.1,
          c.write_decimal_line.ensures.value.1,
          c.requires,
        ),
      );
      out_after = w.is;
    }
