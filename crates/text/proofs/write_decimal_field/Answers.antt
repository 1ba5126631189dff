-- `text::write_decimal_field` meets its contract: name and digits stand behind one another. Assumes nothing.
use Rattle.std.proofs.Common.{arith}
use Rattle.text.specs.Text.{decimal_of}
use Rattle.text.proofs.Lines.{field_written}
use Rattle.text.proofs.write_decimal_field.Goals as goal

pub returns : goal.returns
returns c =
    let a = c.args in
    let w = field_written a.out.now a.at a.name.now (decimal_of a.number) _ _ c.write_decimal.result (omega arith)
    c.copy.ensures (record { ends = c.write_decimal.ensures.value.0; is = c.write_decimal.ensures.out_after }) in
    record { value = (w.ends, omega arith); out_after = w.is }
