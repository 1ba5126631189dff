-- `capture::order::Order::numbered` meets its contract: the two orders by their numbers, and no other. Assumes nothing.
use Rattle.std.proofs.Common.{◌≡◌, sym, ap, ◌∙◌, arith, Some}
use Rattle.capture.specs.Capture.{order_numbered}
use Rattle.capture.specs.declared.order.Order.TheVariants.{HighFirst, LowFirst}
use Rattle.capture.proofs.Orders.{order_back, other_number}
use Rattle.capture.proofs.order.Order.numbered.Goals as goal

pub returns-then-number-lt-HIGH_FIRST : goal.returns-then-number-lt-HIGH_FIRST
returns-then-number-lt-HIGH_FIRST c = other_number _ (λ e. omega arith) (λ e. omega arith)

pub returns-then-number-gt-LOW_FIRST : goal.returns-then-number-gt-LOW_FIRST
returns-then-number-gt-LOW_FIRST c = other_number _ (λ e. omega arith) (λ e. omega arith)

pub returns-then-number-eq-HIGH_FIRST : goal.returns-then-number-eq-HIGH_FIRST
returns-then-number-eq-HIGH_FIRST c = let one : c.args.number ≡ 1 = omega arith in sym (ap order_numbered one ∙ order_back (Some HighFirst))

pub returns : goal.returns
returns c = let two : c.args.number ≡ 2 = omega arith in sym (ap order_numbered two ∙ order_back (Some LowFirst))
