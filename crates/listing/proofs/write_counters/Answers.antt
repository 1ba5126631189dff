-- `listing::write_counters` meets its contract: its two lines stand behind one another. Assumes nothing.
use Rattle.std.proofs.Common.{arith}
use Rattle.listing.proofs.Printed.{counters_written}
use Rattle.listing.proofs.write_counters.Goals as goal

pub returns : goal.returns
returns c =
    let a = c.args in
    let w = counters_written a.slot.now a.out.now a.at (omega (arith, c.requires)) c.counters-counters.ensures (record { ends = c.write_decimal_line-a.ensures.value.0; is = c.write_decimal_line-a.ensures.out_after }) (record { ends = c.write_decimal_line.ensures.value.0; is = c.write_decimal_line.ensures.out_after }) in
    record { value = w.ends; out_after = w.is }
