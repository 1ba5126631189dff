-- `listing::write_lines` meets its contract: four stretches of lines stand behind one another. Assumes nothing.
use Rattle.std.proofs.Common.{zero-add, arith}
use Rattle.octets.proofs.Places.{Written, further}
use Rattle.listing.specs.Listing.{named_lines}
use Rattle.listing.proofs.write_lines.Goals as goal

pub returns : goal.returns
returns c =
    let a = c.args in
    let named : Written a.out.now 0 (named_lines a.i a.slot.now) _ c.write_named-named.result = record
    { ends = rw zero-add c.write_named-named.ensures.value.0; is = c.write_named-named.ensures.out_after } in
    let moved = further (further named (omega arith)
    (record { ends = c.write_terms-settled.ensures.value.0; is = c.write_terms-settled.ensures.out_after })) (omega arith)
    (record { ends = c.write_moved-moved.ensures.value.0; is = c.write_moved-moved.ensures.out_after }) in
    let w = further moved (omega arith) (record { ends = c.write_counters.ensures.value; is = c.write_counters.ensures.out_after }) in
    record { value = rw zero-add at w.ends; out_after = w.is }
