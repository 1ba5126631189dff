-- `text::reading::hex_line` meets its contract: the name, and the digits behind it. Assumes nothing.
use Rattle.std.proofs.Common.{◌∙◌}
use Rattle.text.specs.Reading.{read_hex, read_hex_line}
use Rattle.text.proofs.ReadDecimals.{other_name, this_name, begins}
use Rattle.text.proofs.ReadHex.{stands_behind}
use Rattle.text.proofs.reading.hex_line.Goals as goal

pub returns-in_err-behind-clause-found : goal.returns-in_err-behind-clause-found
unfolding read_hex_line
returns-in_err-behind-clause-found c =
    let a = c.args in
    rw c.from_residual.ensures (other_name a.name.now a.text.now read_hex c.in_err-behind.ensures.cases)

pub returns-clause-found : goal.returns-clause-found
unfolding read_hex_line
returns-clause-found c =
    let a = c.args in
    let behind = c.in_ok-behind.ensures.cases in
    c.pairs.ensures.found ∙ this_name a.name.now a.text.now read_hex behind.0 behind.1

pub returns-clause-stands : goal.returns-clause-stands
returns-clause-stands c =
    let a = c.args in
    let behind = c.in_ok-behind.ensures.cases in
    stands_behind a.name.now c.in_ok-behind.behind.now a.text.now c.pairs.result (begins a.name.now a.text.now behind.0 behind.1) c.pairs.ensures.stands
