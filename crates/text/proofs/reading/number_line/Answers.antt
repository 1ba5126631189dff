-- `text::reading::number_line` meets its contract: the bytes in hex, and the number that they write. Assumes nothing.
use Rattle.std.proofs.Common.{◌≡◌, sym, ap, ◌∙◌, ℕ, arith, length}
use Rattle.octets.specs.Octets.{big_endian}
use Rattle.text.specs.Reading.{got}
use Rattle.text.specs.Written.{written}
use Rattle.text.proofs.ByteLines.{number_fails, a_number}
use Rattle.text.proofs.ReadPrinted.{bytes_line_back}
use Rattle.text.proofs.reading.number_line.Goals.{In_ok-bytes}
use Rattle.text.proofs.reading.number_line.Goals as goal

pub returns-in_err-bytes : goal.returns-in_err-bytes
returns-in_err-bytes c =
    let a = c.args in
    rw c.from_residual.ensures (sym (number_fails a.name.now a.text.now a.n (sym c.in_err-bytes.ensures.found)))

-- so many bytes
count : (c : In_ok-bytes) → length (written c.in_ok-bytes.bytes) ≡ c.args.n
count c =
    let a = c.args in
    (bytes_line_back a.name.now a.text.now c.in_ok-bytes.rest.now a.n (written c.in_ok-bytes.bytes) (sym c.in_ok-bytes.ensures.found)).1

pub number-requires : goal.number-requires
number-requires c = omega (arith, count (goal.at.number-requires c).In_ok-bytes, c.requires)

pub returns : goal.returns
returns c =
    let a = c.args in
    let bytes = written c.in_ok-bytes.bytes in
    let rest = c.in_ok-bytes.rest.now in
    ap (λ (x : ℕ). got x rest) (c.number.ensures.0 ∙ ap (λ (n : ℕ). big_endian n bytes) (count (goal.at.returns c).In_ok-bytes))
    ∙ sym (a_number a.name.now a.text.now a.n (sym c.in_ok-bytes.ensures.found))
