-- `capture::order::order_of` meets its contract: each answer by the test that led there. Assumes nothing.
use Rattle.std.proofs.Common.{arith}
use Rattle.capture.proofs.Orders.{too_short, too_long, no_order, other_major, other_minor, other_link, known}
use Rattle.capture.proofs.order.order_of.Goals as goal

pub returns-then-file-lt-HEADER : goal.returns-then-file-lt-HEADER
returns-then-file-lt-HEADER c = too_short _ c.if-file-lt-HEADER.true

pub returns-then-file-gt-LONGEST : goal.returns-then-file-gt-LONGEST
returns-then-file-gt-LONGEST c = too_long _ (omega arith) c.if-file-gt-LONGEST.true

pub returns-in_err-order : goal.returns-in_err-order
returns-in_err-order c = rw c.from_residual.ensures (no_order _ (omega arith) c.in_err-order.ensures)

pub returns-then-major-ne-MAJOR : goal.returns-then-major-ne-MAJOR
returns-then-major-ne-MAJOR c =
    other_major _ (omega arith) (omega arith) _ c.in_ok-order.ensures (λ e. omega (arith, c.number-major.ensures.0))

pub returns-then-minor-ne-MINOR : goal.returns-then-minor-ne-MINOR
returns-then-minor-ne-MINOR c =
    other_minor _ (omega arith) (omega arith) _ c.in_ok-order.ensures (omega (arith, c.number-major.ensures.0)) (λ e. omega (arith, c.number-minor.ensures.0))

pub returns-then-link_type-ne-LINK_TYPE : goal.returns-then-link_type-ne-LINK_TYPE
returns-then-link_type-ne-LINK_TYPE c =
    other_link _ (omega arith) (omega arith) _ c.in_ok-order.ensures (omega (arith, c.number-major.ensures.0)) (omega (arith, c.number-minor.ensures.0))
    (λ e. omega (arith, c.number-link_type.ensures.0))

pub returns : goal.returns
returns c =
    known _ (omega arith) (omega arith) _ c.in_ok-order.ensures (omega (arith, c.number-major.ensures.0)) (omega (arith, c.number-minor.ensures.0))
    (omega (arith, c.number-link_type.ensures.0))
