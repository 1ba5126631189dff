-- `text::reading::decimal_line` meets its contract: the name, a first digit, and those behind it. Assumes nothing.
use Rattle.std.proofs.Common.{ap, ◌∙◌, ℕ}
use Rattle.text.specs.Reading.{read_digits, read_decimal, read_decimal_line}
use Rattle.text.proofs.ReadDecimals.{other_name, this_name, no_more, no_digit, a_digit}
use Rattle.text.proofs.reading.decimal_line.Goals as goal

pub returns-in_err-behind : goal.returns-in_err-behind
unfolding read_decimal_line
returns-in_err-behind c =
    let a = c.args in
    rw c.from_residual.ensures (other_name a.name.now a.text.now read_decimal c.in_err-behind.ensures.cases)

pub returns-in_err-first : goal.returns-in_err-first
unfolding read_decimal_line
returns-in_err-first c =
    let a = c.args in
    let behind = c.in_ok-behind.ensures.cases in
    rw c.from_residual-in_err-first.ensures
    (no_more c.in_ok-behind.behind.now c.in_err-first.ensures.cases ∙ this_name a.name.now a.text.now read_decimal behind.0 behind.1)

pub returns-then-not-is_ascii_digit : goal.returns-then-not-is_ascii_digit
unfolding read_decimal_line
returns-then-not-is_ascii_digit c =
    let a = c.args in
    let behind = c.in_ok-behind.ensures.cases in
    no_digit c.in_ok-first.ensures.cases.0 c.if-not-is_ascii_digit.ensures.value ∙ this_name a.name.now a.text.now read_decimal behind.0 behind.1

pub returns : goal.returns
unfolding read_decimal_line
returns c =
    let a = c.args in
    let behind = c.in_ok-behind.ensures.cases in
    c.digits.ensures
    ∙ ap (λ (x : ℕ). read_digits x c.in_ok-first.rest.now) c.from.ensures
    ∙ a_digit c.in_ok-first.ensures.cases.0 c.if-not-is_ascii_digit.ensures.value
    ∙ this_name a.name.now a.text.now read_decimal behind.0 behind.1
