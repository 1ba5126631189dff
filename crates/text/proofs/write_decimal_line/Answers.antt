-- `text::write_decimal_line` meets its contract: a line feed stands behind the field. Assumes nothing.
use Rattle.std.proofs.Common.{arith, length-set}
use Rattle.octets.proofs.Places.{Written}
use Rattle.text.specs.Text.{decimal_field}
use Rattle.text.proofs.Lines.{byte_further}
use Rattle.text.proofs.write_decimal_line.Goals as goal

pub shape_of-out : goal.shape_of-out
shape_of-out c = simp length-set c.write_decimal_field-end.auto.out

pub returns : goal.returns
returns c =
    let a = c.args in
    let field : Written a.out.now a.at (decimal_field a.name.now a.number) _ c.write_decimal_field-end.result = record
    { ends = c.write_decimal_field-end.ensures.value.0; is = c.write_decimal_field-end.ensures.out_after } in
    let w = byte_further field 10 (omega arith) in
    record { value = (w.ends, omega arith); out_after = w.is }
