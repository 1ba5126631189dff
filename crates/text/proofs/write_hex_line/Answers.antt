-- `text::write_hex_line` meets its contract: name, hex and line feed stand behind one another. Assumes nothing.
use Rattle.std.proofs.Common.{◌∙◌, arith, length-set}
use Rattle.text.specs.Text.{hex_of}
use Rattle.text.proofs.Hex.{length_hex}
use Rattle.text.proofs.Lines.{line_written}
use Rattle.text.proofs.write_hex_line.Goals as goal

pub shape_of-out : goal.shape_of-out
shape_of-out c = simp length-set (c.write_hex-end.auto.out ∙ c.copy.auto.out)

pub returns : goal.returns
returns c =
    let a = c.args in
    let n = length_hex a.bytes.now in
    let w = line_written a.out.now a.at a.name.now (hex_of a.bytes.now) _ _ c.write_hex-end.result (omega arith)
    c.copy.ensures (record { ends = rw n c.write_hex-end.ensures.value; is = c.write_hex-end.ensures.out_after }) in
    record { value = (w.ends, omega arith); out_after = w.is }
