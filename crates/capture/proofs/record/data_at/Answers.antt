-- `capture::record::data_at` meets its contract, by the two tests of its definition. Assumes nothing.
use Rattle.std.proofs.Common.{◌∙◌, arith}
use Rattle.capture.proofs.Places.{empty, overlong, brings}
use Rattle.capture.proofs.record.data_at.Goals as goal

pub returns-then-at-next : goal.returns-then-at-next
returns-then-at-next c =
    let a = c.args in
    c.without.ensures ∙ empty a.file.now a.at a.next (omega arith)

pub returns-then-next-source : goal.returns-then-next-source
returns-then-next-source c =
    let a = c.args in
    c.without-then-next-source.ensures ∙ overlong a.file.now a.at a.next (λ e. omega arith) (omega arith)

pub returns : goal.returns
returns c =
    let a = c.args in
    brings a.file.now a.at a.next (λ e. omega arith) (omega arith)
