-- `text::hexed::bytes_line` meets its contract: the line of bytes in hex, and their count. Assumes nothing.
use Rattle.std.proofs.Common.{sym, arith}
use Rattle.text.proofs.ByteLines.{none_read, other_count, this_count}
use Rattle.text.proofs.reading.bytes_line.Goals as goal

pub returns-in_err-bytes-clause-found : goal.returns-in_err-bytes-clause-found
returns-in_err-bytes-clause-found c =
    let a = c.args in
    rw c.from_residual.ensures (sym (none_read a.name.now a.text.now a.n (sym c.in_err-bytes.ensures.found)))

pub returns-then-len-n-clause-found : goal.returns-then-len-n-clause-found
returns-then-len-n-clause-found c =
    let a = c.args in
    sym (other_count a.name.now a.text.now a.n (sym c.in_ok-bytes.ensures.found) (λ e. omega (arith, c.if-len-n.true, c.len.ensures, e)))

pub returns-clause-found : goal.returns-clause-found
returns-clause-found c =
    let a = c.args in
    sym (this_count a.name.now a.text.now a.n (sym c.in_ok-bytes.ensures.found) (omega (arith, c.len.ensures, c.if-len-n.false)))
