-- `listing::write_named` meets its contract: its four lines stand behind one another, and KeyId and source are short. Assumes nothing.
use Rattle.std.proofs.Common.{ap, zero-add, arith, rules, length}
use Rattle.slots.specs.Table.{key_id_at, source_at, key_id_length_of, source_length_of}
use Rattle.listing.proofs.Printed.{part_most, part_behind, named_written}
use Rattle.listing.proofs.write_named.Goals as goal

pub write_hex_line-c-requires : goal.write_hex_line-c-requires
write_hex_line-c-requires c =
    let s = c.args.slot.now in
    (search rules, omega (arith, ap length c.keyid.ensures, part_behind key_id_at (key_id_length_of s) s))

pub write_hex_line-requires : goal.write_hex_line-requires
write_hex_line-requires c =
    let s = c.args.slot.now in
    (search rules, omega (arith, ap length c.source.ensures, part_most source_at (source_length_of s) s, ap length c.keyid.ensures, part_behind key_id_at (key_id_length_of s) s))

pub returns : goal.returns
returns c =
    let a = c.args in
    let s = a.slot.now in
    let w = named_written s a.out.now 0 (omega arith) a.i (record { ends = c.write_decimal_line-a.ensures.value.0; is = c.write_decimal_line-a.ensures.out_after })
    (omega arith) (record { ends = c.write_decimal_line-b.ensures.value.0; is = c.write_decimal_line-b.ensures.out_after })
    c.keyid.ensures (record { ends = c.write_hex_line-c.ensures.value.0; is = c.write_hex_line-c.ensures.out_after })
    c.source.ensures (record { ends = c.write_hex_line.ensures.value.0; is = c.write_hex_line.ensures.out_after }) in
    record {
      value = (
        rw zero-add at w.ends,
        omega (
          arith,
          c.write_decimal_line-a.ensures.value.1,
          c.write_decimal_line-b.ensures.value.1,
          c.write_hex_line-c.ensures.value.1,
          c.write_hex_line.ensures.value.1,
          ap length c.keyid.ensures,
          part_behind key_id_at (key_id_length_of s) s,
          ap length c.source.ensures,
          part_most source_at (source_length_of s) s,
        ),
      );
      out_after = w.is;
    }
