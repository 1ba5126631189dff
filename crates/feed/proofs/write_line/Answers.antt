-- `feed::write_line` meets its contract: its three parts stand behind one another, and the first is short. Assumes nothing.
use Rattle.std.proofs.Common.{arith, rules}
use Rattle.feed.proofs.Lines.{number_most, line_written}
use Rattle.feed.proofs.write_line.Goals as goal

pub write_decimal_field-b-requires : goal.write_decimal_field-b-requires
write_decimal_field-b-requires c =
    (search rules, omega (arith, c.write_decimal_field-a.ensures.value.0, number_most c.args.number (omega arith)))

pub write_hex_line-requires : goal.write_hex_line-requires
write_hex_line-requires c =
    (search rules, omega (arith, c.write_decimal_field-a.ensures.value.0, c.write_decimal_field-b.ensures.value.1, number_most c.args.number (omega arith)))

pub returns : goal.returns
returns c =
    let a = c.args in
    let w = line_written a.out.now a.at a.number a.reply a.payload.now (omega arith)
    (record { ends = c.write_decimal_field-a.ensures.value.0; is = c.write_decimal_field-a.ensures.out_after })
    (record { ends = c.write_decimal_field-b.ensures.value.0; is = c.write_decimal_field-b.ensures.out_after })
    (record { ends = c.write_hex_line.ensures.value.0; is = c.write_hex_line.ensures.out_after }) in
    record { value = w.ends; out_after = w.is }
