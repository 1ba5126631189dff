-- `capture::record::ordered_at` meets its contract: each answer by the test that led there; no sum goes past the file's end. Assumes nothing.
use Rattle.std.proofs.Common.{sym, ◌∙◌, arith}
use Rattle.capture.proofs.Places.{nothing_at_end, cut_header, cut_data, differing_lengths, by_data}
use Rattle.capture.proofs.record.ordered_at.Goals as goal

pub returns-then-file-at : goal.returns-then-file-at
returns-then-file-at c =
    let a = c.args in
    nothing_at_end a.order a.file.now a.at (omega arith)

pub returns-then-file-at-lt-HEADER : goal.returns-then-file-at-lt-HEADER
returns-then-file-at-lt-HEADER c =
    let a = c.args in
    c.without.ensures ∙ cut_header a.order a.file.now a.at (omega arith) (omega arith)

pub returns-then-file-data : goal.returns-then-file-data
returns-then-file-data c =
    let a = c.args in
    c.without-then-file-data.ensures ∙ cut_data a.order a.file.now a.at (omega arith) (omega arith) (omega (arith, c.number-captured.ensures.0))

pub returns-then-captured-original : goal.returns-then-captured-original
returns-then-captured-original c =
    let a = c.args in
    let is = c.number-captured.ensures.0 in
    c.without-then-captured-original.ensures
    ∙ rw is
    (differing_lengths a.order a.file.now a.at (omega arith) (omega arith) (omega (arith, is))
    (λ e. c.if-captured-original.true (is ∙ e ∙ sym c.number-original.ensures.0)))

pub returns : goal.returns
returns c =
    let a = c.args in
    let is = c.number-captured.ensures.0 in
    c.data_at.ensures
    ∙ rw is
    (by_data a.order a.file.now a.at (omega arith) (omega arith) (omega (arith, is)) (sym is ∙ c.if-captured-original.false ∙ c.number-original.ensures.0))
