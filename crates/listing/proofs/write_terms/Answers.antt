-- `listing::write_terms` meets its contract: its four lines stand behind one another. Assumes nothing.
use Rattle.std.proofs.Common.{arith}
use Rattle.listing.proofs.Printed.{terms_written}
use Rattle.listing.proofs.write_terms.Goals as goal

pub returns : goal.returns
returns c =
    let a = c.args in
    let w = terms_written a.slot.now a.out.now a.at (omega (arith, c.requires))
    c.suite-suite.ensures (record { ends = c.write_decimal_line-a.ensures.value.0; is = c.write_decimal_line-a.ensures.out_after })
    c.edition-edition.ensures (record { ends = c.write_decimal_line-b.ensures.value.0; is = c.write_decimal_line-b.ensures.out_after })
    c.frame-frame.ensures (record { ends = c.write_decimal_line-c.ensures.value.0; is = c.write_decimal_line-c.ensures.out_after })
    (record { ends = c.write_decimal_line.ensures.value.0; is = c.write_decimal_line.ensures.out_after }) in
    record {
      value = (
        w.ends,
        omega (
          arith,
          c.write_decimal_line-a.ensures.value.1,
          c.write_decimal_line-b.ensures.value.1,
          c.write_decimal_line-c.ensures.value.1,
          c.write_decimal_line.ensures.value.1,
        ),
      );
      out_after = w.is;
    }
